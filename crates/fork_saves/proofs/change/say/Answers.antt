use Rattle.std.proofs.Common.{Bool, Ok, inl, subst, sym, ◌∙◌, refl}
use Rattle.std.specs.Prelude.{string_bytes}
use Rattle.file_acts.specs.Acts.{Then}
use Rattle.fork_saves.proofs.Saved.{printed_seen}
use Rattle.fork_saves.proofs.Steps.{then_done, then_not}
use Rattle.fork_saves.specs.Changing.{Says, SaysIf}
use Rattle.fork_saves.proofs.change.say.Goals as goal

pub returns-then-not-is_said-clause-does : goal.returns-then-not-is_said-clause-does
unfolding Says SaysIf
returns-then-not-is_said-clause-does c = subst (λ (said : Bool). SaysIf said (string_bytes c.args.text.now) (Ok 0) c.args.acts.now.events c.args.acts.now.events) (sym (sym c.is_said.ensures.is ∙ c.if-not-is_said.true)) (refl, refl)

pub returns-clause-does : goal.returns-clause-does
unfolding Says SaysIf
returns-clause-does c = subst (λ (said : Bool). SaysIf said (string_bytes c.args.text.now) (Ok 0) c.args.acts.now.events c.write_text.new.acts.events) (sym (sym c.is_said.ensures.is ∙ c.if-not-is_said.false)) (then_done _ _ c.in_ok-write_text.field-0 c.write_text.new.acts.events _ _ _ (c.in_ok-write_text.ensures.prints) ((refl, refl)))

pub returns-in_err-write_text-clause-does : goal.returns-in_err-write_text-clause-does
unfolding Says SaysIf
returns-in_err-write_text-clause-does c = subst (λ (said : Bool). SaysIf said (string_bytes c.args.text.now) c.from_residual.result c.args.acts.now.events c.write_text.new.acts.events) (sym (sym c.is_said.ensures.is ∙ c.if-not-is_said.false)) (then_not _ _ c.from_residual.result c.in_err-write_text.field-0.0 _ _ c.from_residual.ensures.1 c.in_err-write_text.ensures.prints)

pub returns-in_err-write_text-clause-seen : goal.returns-in_err-write_text-clause-seen
returns-in_err-write_text-clause-seen c = λ bytes saved seen. printed_seen bytes (string_bytes c.args.text.now) c.write_text.result c.args.acts.now.events c.write_text.new.acts.events c.write_text.ensures.prints saved seen

pub returns-clause-seen : goal.returns-clause-seen
returns-clause-seen c = λ bytes saved seen. printed_seen bytes (string_bytes c.args.text.now) c.write_text.result c.args.acts.now.events c.write_text.new.acts.events c.write_text.ensures.prints saved seen
