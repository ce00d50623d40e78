use Rattle.std.proofs.Common.{◌≡◌, ◌-◌, ◌*◌, ◌+◌, length, None}
use Rattle.std.specs.Prelude.{find, ◌==◌, not}
use Rattle.mac_files.specs.declared.fault.Entry.{Entry}
use Rattle.mac_files.specs.Parts.{lies_within}
use Rattle.mac_files.specs.Apple.{entries_from, entries_of}
use Rattle.mac_files.proofs.apple.find_entry.Given as goal

-- the first with the id is one of those that are left, and none of these has bytes outside the file
abbrev pub invariant-loop-index : goal.invariant-loop-index
invariant-loop-index l = record {
  first : find (λ (e : Entry). e.id == l.id) (entries_from l.file (26 + 12 * l.index) (l.count - l.index))
      ≡ find (λ (e : Entry). e.id == l.id) (entries_of l.file);
  within : find (λ (e : Entry). not (lies_within (length l.file) e.part)) (entries_from l.file (26 + 12 * l.index) (l.count - l.index)) ≡ None;
}
