use Rattle.std.proofs.Common.{◌≡◌, ◌≤◌, ◌+◌, ◌-◌, ◌*◌, length}
use Rattle.hfs_volume.specs.Overflow.{fork_extents}
use Rattle.hfs_volume.proofs.forks.extents_of.Given as goal

-- the extents so far, with those that come after them, are the fork's
abbrev pub invariant-loop-step : goal.invariant-loop-step
invariant-loop-step l = record {
  same : fork_extents (l.needed - l.step) l.rows l.id l.fork l.needed l.extents.items ≡ fork_extents l.needed l.rows l.id l.fork l.needed l.initial.extents.items;
  few : length l.extents.items ≤ 3 + 3 * l.step;
}
