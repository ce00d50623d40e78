use Rattle.std.proofs.Common.{◌≡◌, ◌≤◌, ◌+◌, ◌-◌, length}
use Rattle.res_types.specs.Reading.{read, read_elements, read_list, with_found, with_front}
use Rattle.res_types.proofs.reading.+reading.Given as goal

-- with the elements that are left, the parts so far are all
abbrev pub invariant-read_elements-loop-turn : goal.invariant-read_elements-loop-turn
invariant-read_elements-loop-turn l =
    with_front l.parts.items (read_elements (read l.whole l.body) (l.count - l._turn) l.rest) ≡ with_front l.initial.parts.items (read_elements (read l.whole l.body) l.count l.bits)

abbrev pub invariant-read_all-loop-turn : goal.invariant-read_all-loop-turn
invariant-read_all-loop-turn l = record {
  found : with_found l.count l.parts.items (read_list (read l.whole l.body) l.end (length l.bits + 1 - l._turn) l.rest)
      ≡ with_found 0 l.initial.parts.items (read_list (read l.whole l.body) l.end (length l.bits + 1) l.bits);
  few : l.count ≤ l._turn;
}
