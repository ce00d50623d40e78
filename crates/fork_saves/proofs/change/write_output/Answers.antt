use Rattle.std.proofs.Common.{ℕ, List, Option, Ok, subst, sym, ◌∙◌, refl}
use Rattle.std.specs.Borrow.{Bor}
use Rattle.fork_saves.specs.Changing.{WritesTo}
use Rattle.fork_saves.proofs.change.write_output.Goals as goal

pub returns-in-Some-clause-does : goal.returns-in-Some-clause-does
unfolding WritesTo
returns-in-Some-clause-does c = subst (λ (to : Option (Bor (List ℕ))). WritesTo to c.args.bytes.now c.save_to.result c.args.acts.now.events c.save_to.new.acts.events) (sym (sym c.goes_to.ensures.is ∙ c.in-Some.is)) c.save_to.ensures.does

pub returns-in-None-clause-does : goal.returns-in-None-clause-does
unfolding WritesTo
returns-in-None-clause-does c = subst (λ (to : Option (Bor (List ℕ))). WritesTo to c.args.bytes.now (Ok tt) c.args.acts.now.events c.args.acts.now.events) (sym (sym c.goes_to.ensures.is ∙ c.in-None.is)) (refl, refl)
