use Rattle.std.proofs.Common.{◌≡◌, ◌-◌, []}
use Rattle.mfs_volume.specs.Chain.{extents_from}
use Rattle.mfs_volume.proofs.chain.extents_from.Given as goal

-- the extents so far, with the blocks from here on, are the fork's
abbrev pub invariant-loop-step : goal.invariant-loop-step
invariant-loop-step l = extents_from l.map l.needed [] l.first ≡ extents_from l.map (l.needed - l.step) l.extents.items l.block
