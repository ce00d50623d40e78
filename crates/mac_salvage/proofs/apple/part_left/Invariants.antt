use Rattle.std.proofs.Common.{◌≡◌, ◌-◌, ◌*◌, ◌+◌}
use Rattle.std.specs.Prelude.{find, ◌==◌}
use Rattle.mac_files.specs.declared.fault.Entry.{Entry}
use Rattle.mac_files.specs.Apple.{entries_from}
use Rattle.mac_salvage.specs.Places.{entry_left}
use Rattle.mac_salvage.proofs.apple.part_left.Given as goal

-- the first with the id is one of those that are left
abbrev pub invariant-loop-index : goal.invariant-loop-index
invariant-loop-index l =
    find (λ (e : Entry). e.id == l.id) (entries_from l.file (26 + 12 * l.index) (l.count - l.index)) ≡ entry_left l.id l.file
