use Rattle.std.proofs.Common.{◌∙◌, ℕ, Option, Ok, suc, length, ap, arith}
use Rattle.std.specs.Int.RustNames.{bit_or}
use Rattle.fork_rez.specs.Reading.{attribute_at}
use Rattle.fork_rez.proofs.Loops.{goes_on}
use Rattle.fork_rez.proofs.attribute.attributes_at.Goals as goal

pub loop-turn-preserved : goal.loop-turn-preserved
loop-turn-preserved c =
    let after = c.in_ok-found.after.now in
    goes_on bit_or attribute_at (suc (length c.args.text.now)) c.loop-turn._turn c.loop-turn.bits c.loop-turn.rest.now _ c.loop-turn.invariant c.in-Some.more after (omega arith)
    (c.in_ok-found.ensures ∙ ap (λ (u : Option ℕ). Ok (u, after)) c.in-Some.is)
