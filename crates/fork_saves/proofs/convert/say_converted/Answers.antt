use Rattle.std.proofs.Common.{rules, inl, inr, refl}
use Rattle.std.specs.Prelude.{string_bytes}
use Rattle.fork_saves.specs.Converting.{SaysSome}
use Rattle.fork_saves.proofs.convert.say_converted.Goals as goal

pub returns-in_err-said-clause-does : goal.returns-in_err-said-clause-does
unfolding SaysSome
returns-in_err-said-clause-does c = inr (search rules, refl)

pub returns-clause-does : goal.returns-clause-does
unfolding SaysSome
returns-clause-does c = inl (string_bytes c.in_ok-said.said, c.say.ensures.does)
