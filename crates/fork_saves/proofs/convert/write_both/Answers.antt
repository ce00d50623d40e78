use Rattle.std.proofs.Common.{ℕ, List, Ok, Option, inl, sym, subst, ◌∙◌}
use Rattle.std.specs.Borrow.{Bor}
use Rattle.std.proofs.lemmas.Result.{IfOk-weaker}
use Rattle.file_acts.specs.Acts.{Then}
use Rattle.file_acts.specs.Saved.{JustSaved, SomeSaved}
use Rattle.fork_saves.specs.Changing.{written_file}
use Rattle.fork_saves.specs.Converting.{WritesForks}
use Rattle.fork_saves.specs.Putting.{MakesReady}
use Rattle.fork_saves.proofs.Steps.{then_done, then_not}
use Rattle.fork_saves.proofs.convert.write_both.Goals as goal

pub returns-in_ok-data-in-Some-clause-does : goal.returns-in_ok-data-in-Some-clause-does
returns-in_ok-data-in-Some-clause-does c = subst (λ (to : Option (Bor (List ℕ))). WritesForks to (written_file c.args.asked.now.target) c.args.order c.args.new.now c.args.data.now c.put_in.result c.args.acts.now.events c.put_in.new.acts.events) (sym (sym c.data_goes_to.ensures.is ∙ c.in-Some.is)) (then_done _ _ c.in_ok-output-in-Some.output c.new.new.acts.events _ _ _ (subst (λ (path : List ℕ). MakesReady path c.args.new.now (Ok c.in_ok-output-in-Some.output) c.args.acts.now.events c.new.new.acts.events) c.written_file-output.ensures c.in_ok-output-in-Some.ensures.does) (then_done _ _ c.in_ok-data-in-Some.data c.new-in-Some.new.acts.events _ _ _ (c.in_ok-data-in-Some.ensures.does) (c.put_in.ensures.does)))

pub returns-in-None-clause-does : goal.returns-in-None-clause-does
returns-in-None-clause-does c = subst (λ (to : Option (Bor (List ℕ))). WritesForks to (written_file c.args.asked.now.target) c.args.order c.args.new.now c.args.data.now c.save_to.result c.args.acts.now.events c.save_to.new.acts.events) (sym (sym c.data_goes_to.ensures.is ∙ c.in-None.is)) (rw c.written_file-output.ensures at c.save_to.ensures.does)

pub returns-in_ok-data-in-Some-clause-saved : goal.returns-in_ok-data-in-Some-clause-saved
returns-in_ok-data-in-Some-clause-saved c = λ for. let named = rw c.in-Some.ensures.named at for.2 in c.put_in.ensures.saved
    (λ is. for.1 (sym c.written_file-output.ensures ∙ (sym c.in_ok-output-in-Some.ensures.path ∙ is)))
    (λ is. named (sym c.in_ok-data-in-Some.ensures.path ∙ is))
    (c.args.new.now, c.in_ok-output-in-Some.ensures.whole) (c.args.data.now, c.in_ok-data-in-Some.ensures.whole)

pub returns-in-None-clause-saved : goal.returns-in-None-clause-saved
returns-in-None-clause-saved c = λ for. IfOk-weaker c.save_to.result (λ _. JustSaved c.args.new.now c.save_to.new.acts.events) (λ _. SomeSaved c.save_to.new.acts.events)
    (λ done saved. (c.args.new.now, saved)) (c.save_to.ensures.saves (λ is. for.1 (sym c.written_file-output.ensures ∙ is)))

pub returns-in_err-output-in-Some-clause-does : goal.returns-in_err-output-in-Some-clause-does
returns-in_err-output-in-Some-clause-does c = subst (λ (to : Option (Bor (List ℕ))). WritesForks to (written_file c.args.asked.now.target) c.args.order c.args.new.now c.args.data.now c.from_residual.result c.args.acts.now.events c.new.new.acts.events) (sym (sym c.data_goes_to.ensures.is ∙ c.in-Some.is))
    (then_not _ _ c.from_residual.result c.in_err-output-in-Some.field-0.0 _ _ c.from_residual.ensures.1 (rw c.written_file-output.ensures at c.in_err-output-in-Some.ensures.does))

pub returns-in_err-data-in-Some-clause-does : goal.returns-in_err-data-in-Some-clause-does
returns-in_err-data-in-Some-clause-does c = subst (λ (to : Option (Bor (List ℕ))). WritesForks to (written_file c.args.asked.now.target) c.args.order c.args.new.now c.args.data.now c.from_residual-in_err-data-in-Some.result c.args.acts.now.events c.new-in-Some.new.acts.events) (sym (sym c.data_goes_to.ensures.is ∙ c.in-Some.is))
    (then_done _ _ c.in_ok-output-in-Some.output c.new.new.acts.events _ _ _ (subst (λ (path : List ℕ). MakesReady path c.args.new.now (Ok c.in_ok-output-in-Some.output) c.args.acts.now.events c.new.new.acts.events) c.written_file-output.ensures c.in_ok-output-in-Some.ensures.does)
    (then_not _ _ c.from_residual-in_err-data-in-Some.result c.in_err-data-in-Some.field-0.0 _ _ c.from_residual-in_err-data-in-Some.ensures.1 c.in_err-data-in-Some.ensures.does))
