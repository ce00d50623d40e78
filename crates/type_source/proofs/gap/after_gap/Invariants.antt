use Rattle.type_source.specs.Tokens.{Gap}
use Rattle.type_source.proofs.gap.after_gap.Given as goal

abbrev pub invariant-loop-turn : goal.invariant-loop-turn
invariant-loop-turn l = Gap l.text l.rest
