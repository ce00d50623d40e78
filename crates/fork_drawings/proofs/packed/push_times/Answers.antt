use Rattle.std.proofs.Common.{◌-◌, ◌+◌, ◌++◌, ◌∙◌, ap, List, ℕ}
use Rattle.fork_drawings.specs.Packed.{repeated}
use Rattle.fork_drawings.proofs.Steps.{appended, repeated_step}
use Rattle.fork_drawings.proofs.packed.push_times.Goals as goal

pub loop-time-preserved : goal.loop-time-preserved
loop-time-preserved c =
    let times = c.args.times in let i = c.loop-time._time in let piece = c.args.piece.now in
    appended _ c.loop-time.row.items piece (repeated (times - (i + 1)) piece) _ c.in_ok-extend_from_slice.ensures.items
    (ap (λ (xs : List ℕ). c.loop-time.row.items ++ xs) (repeated_step times i piece c.loop-time-test.true) ∙ c.loop-time.invariant)
