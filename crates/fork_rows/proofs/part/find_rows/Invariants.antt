use Rattle.std.proofs.Common.{◌≡◌, ◌+◌, length, map}
use Rattle.std.specs.List.{AllByRecursion}
use Rattle.fork_bytes.specs.Fork.{data_of, HasData}
use Rattle.fork_bytes.specs.Reading.{placed_row}
use Rattle.fork_rows.specs.Opening.{Reads, EndsBy, kinds_in}
use Rattle.fork_rows.proofs.part.find_rows.Given as goal

-- the rows so far have places, which lie within the data, and the store is as it was
abbrev pub invariant-loop-row : goal.invariant-loop-row
invariant-loop-row g l = record {
  can_next : (goal.iterator-loop-row g).can_next l.row-iterator;
  finite : (goal.iterator-loop-row g).is_finite l.row-iterator;
  inside : AllByRecursion (EndsBy (l.header.data_offset + l.header.data_length)) l.placed.items;
  count : length l.placed.items ≡ length l.yielded;
  kinds : kinds_in l.placed.items ≡ kinds_in l.yielded;
  calm : g.S.ForkStore.failures l.store ≡ g.S.ForkStore.failures l.initial.store;
  reads : g.S.ForkStore.is_honest l.store → Reads g.S.ForkStore l.initial.store l.store
      (λ fork. (l.placed.items ≡ map (placed_row fork) l.yielded) × HasData (data_of fork) l.yielded);
}
