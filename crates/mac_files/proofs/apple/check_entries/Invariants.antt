use Rattle.std.proofs.Common.{◌≡◌, ◌-◌, ◌*◌, ◌+◌, length}
use Rattle.std.specs.Prelude.{find, not}
use Rattle.mac_files.specs.declared.fault.Entry.{Entry}
use Rattle.mac_files.specs.Parts.{lies_within}
use Rattle.mac_files.specs.Apple.{entries_from, entries_of}
use Rattle.mac_files.proofs.apple.check_entries.Given as goal

-- the first that lies outside is one of those that are left
abbrev pub invariant-loop-index : goal.invariant-loop-index
invariant-loop-index l =
    find (λ (e : Entry). not (lies_within (length l.file) e.part)) (entries_from l.file (26 + 12 * l.index) (l.count - l.index))
    ≡ find (λ (e : Entry). not (lies_within (length l.file) e.part)) (entries_of l.file)
