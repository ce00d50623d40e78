use Rattle.std.proofs.Common.{◌≡◌, ℕ, suc, ◌+◌, ◌-◌, length, sym, ap, ◌∙◌, arith}
use Rattle.image_paths.proofs.Reading.{empty_if, some_if, name_before, name_done, name_last, name_more, name_stops}
use Rattle.image_paths.specs.Names.{name_from}
use Rattle.image_paths.proofs.path.name_of.Goals as goal

pub returns-then-is_empty : goal.returns-then-is_empty
returns-then-is_empty c = sym (name_done _ c.loop-step.name.items _ c.loop-step.rest.now (empty_if _ _ c.is_empty.ensures c.if-is_empty.true) c.loop-step.invariant)

pub returns-in_default : goal.returns-in_default
returns-in_default c =
    sym (name_stops _ c.loop-step.name.items _ (length c.args.text.now - (c.loop-step.step + 1)) c.loop-step.rest.now (omega arith)
    (some_if _ _ c.is_empty.ensures c.if-is_empty.false) c.in_default.ensures c.loop-step.invariant)

pub loop-step-preserved : goal.loop-step-preserved
loop-step-preserved c =
    name_more _ c.loop-step.name.items _ (length c.args.text.now - (c.loop-step.step + 1)) c.loop-step.rest.now c.in-Some.byte c.in-Some.after.now (omega arith)
    (some_if _ _ c.is_empty.ensures c.if-is_empty.false) c.in-Some.ensures c.loop-step.invariant
    ∙ ap (λ name. name_before name (name_from (length c.args.text.now - (c.loop-step.step + 1)) c.in-Some.after.now)) (sym c.in_ok-push.ensures.items)

pub returns : goal.returns
returns c = sym (name_last _ c.loop-step.name.items _ c.loop-step.rest.now (omega arith) c.loop-step.invariant)
