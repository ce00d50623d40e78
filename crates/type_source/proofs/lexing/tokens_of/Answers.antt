use Rattle.std.proofs.Common.{refl, length-append}
use Rattle.type_source.proofs.Listed.{takes_more}
use Rattle.type_source.proofs.lexing.tokens_of.Goals as goal

pub loop-turn-preserved : goal.loop-turn-preserved
loop-turn-preserved c = record {
  tokens = rw c.in_ok-push.ensures.items (takes_more _ _ _ _ _ _ c.loop-turn.invariant.tokens c.in_ok-start.ensures c.in_ok-token.ensures);
  lefts = rw (c.in_ok-push-2.ensures.items, c.in_ok-push.ensures.items, length-append, length-append, c.loop-turn.invariant.lefts) refl;
}
