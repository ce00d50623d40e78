use Rattle.std.proofs.Common.{◌≡◌, ◌-◌, ◌*◌, ◌+◌}
use Rattle.std.specs.Prelude.{find}
use Rattle.mac_files.specs.Apple.{entries_from, entries_of, entry_count}
use Rattle.mac_write.specs.Apple.{is_in_the_way}
use Rattle.mac_write.proofs.apple.check_entries.Given as goal

-- the first in the way is one of those that are left
abbrev pub invariant-loop-index : goal.invariant-loop-index
invariant-loop-index l =
    find (is_in_the_way l.plan.file.now) (entries_from l.plan.file.now (26 + 12 * l.index) (entry_count l.plan.file.now - l.index))
    ≡ find (is_in_the_way l.plan.file.now) (entries_of l.plan.file.now)
