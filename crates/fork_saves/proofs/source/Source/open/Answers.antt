use Rattle.std.proofs.Common.{Bool, Ok, subst, sym, ◌∙◌, refl}
use Rattle.fork_saves.proofs.Steps.{then_done, then_not}
use Rattle.fork_saves.specs.Changing.{OpensIf, OpensSource, ReadsSource}
use Rattle.fork_saves.specs.declared.source.Source.TheVariants as source
use Rattle.fork_saves.proofs.source.Source.open.Goals as goal

pub returns-in_ok-read-clause-does : goal.returns-in_ok-read-clause-does
unfolding OpensSource OpensIf ReadsSource
returns-in_ok-read-clause-does c = subst (λ (b : Bool). OpensIf b c.args.target.now.file.now (Ok (source.Read c.in_ok-read.field-0)) c.args.acts.now.events c.read.new.acts.events) (sym (sym c.is_elsewhere.ensures.is ∙ c.if-is_elsewhere.true))
    (then_done _ _ c.in_ok-read.field-0 c.read.new.acts.events _ _ _ c.in_ok-read.ensures.reads ((refl, refl)))

pub returns-in_err-read-clause-does : goal.returns-in_err-read-clause-does
unfolding OpensSource OpensIf ReadsSource
returns-in_err-read-clause-does c = subst (λ (b : Bool). OpensIf b c.args.target.now.file.now c.from_residual.result c.args.acts.now.events c.read.new.acts.events) (sym (sym c.is_elsewhere.ensures.is ∙ c.if-is_elsewhere.true))
    (then_not _ _ c.from_residual.result c.in_err-read.field-0.0 _ _ c.from_residual.ensures.1 c.in_err-read.ensures.reads)

pub returns-else-is_elsewhere-clause-does : goal.returns-else-is_elsewhere-clause-does
unfolding OpensSource OpensIf
returns-else-is_elsewhere-clause-does c = subst (λ (b : Bool). OpensIf b c.args.target.now.file.now c.hold.result c.args.acts.now.events c.hold.new.acts.events) (sym (sym c.is_elsewhere.ensures.is ∙ c.if-is_elsewhere.false)) c.hold.ensures.does
