use Rattle.std.proofs.Common.{◌≡◌, ℕ, ◌+◌, ◌-◌, List, length, map, drop, sym, ap, ◌∙◌, arith}
use Rattle.std.proofs.lemmas.Result.{err_from_is_err_and}
use Rattle.std.specs.Global.{Vec}
use Rattle.image_paths.specs.Paths.{end_of, items_of, names_before, names_from}
use Rattle.image_paths.proofs.Reading.{empty_if, some_if, names_done, names_last, names_more, names_refuse}
use Rattle.image_paths.proofs.path.names_in.Goals as goal

pub returns-then-is_empty : goal.returns-then-is_empty
returns-then-is_empty c =
    names_done _ (map items_of c.loop-step.names.items) _ _ c.loop-step.rest.now (empty_if _ _ c.is_empty.ensures c.if-is_empty.true) c.loop-step.invariant

pub returns-in_err-name : goal.returns-in_err-name
returns-in_err-name c =
    let p = err_from_is_err_and c.from_residual.result c.from_residual.ensures.1 in
    rw (p.1, p.2) (names_refuse _ c.loop-step.names.items _ (length c.args.text.now - (c.loop-step.step + 1)) (c.loop-step.step + 1) c.loop-step.rest.now _ (omega arith)
    (some_if _ _ c.is_empty.ensures c.if-is_empty.false) c.loop-step.invariant (rw c.end_of-end.ensures.value at c.in_err-name.ensures))

pub loop-step-preserved : goal.loop-step-preserved
loop-step-preserved c =
    let next = length c.args.text.now - (c.loop-step.step + 1) in
    names_more _ c.loop-step.names.items c.in_ok-name.name _ next (c.loop-step.step + 1) c.loop-step.rest.now (omega arith)
    (some_if _ _ c.is_empty.ensures c.if-is_empty.false) (rw c.end_of-end.ensures.value at c.in_ok-name.ensures) c.loop-step.invariant
    ∙ ap (λ (names : List (Vec ℕ)). names_before (map items_of names) (names_from next (c.loop-step.step + 1 + 1) (drop (end_of c.loop-step.rest.now + 1) c.loop-step.rest.now))) (sym c.in_ok-push.ensures.items)
    ∙ ap (λ rest. names_before (map items_of c.push.new.self.items) (names_from next (c.loop-step.step + 1 + 1) rest))
    (sym (c.after_name-rest.ensures ∙ ap (λ end. drop (end + 1) c.loop-step.rest.now) c.end_of-end.ensures.value))

pub returns : goal.returns
returns c = names_last _ (map items_of c.loop-step.names.items) _ _ c.loop-step.rest.now (omega arith) c.loop-step.invariant
