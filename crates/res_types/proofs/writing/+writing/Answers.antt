use Rattle.std.proofs.Common.{length, ap, sym, arith}
use Rattle.std.proofs.lemmas.Result.{err_from_is_err_and}
use Rattle.res_types.specs.declared.field.Field.{Field}
use Rattle.res_types.specs.Writing.{fits, write}
use Rattle.res_types.proofs.WritingSteps.{counted_written, next_element, no_element, all_elements}
use Rattle.res_types.proofs.writing.+writing.Goals as goal

pub write_elements-returns-in_err-rest : goal.write_elements-returns-in_err-rest
write_elements-returns-in_err-rest t c =
    let p = err_from_is_err_and c.from_residual.result c.from_residual.ensures.1 in
    rw (p.1, p.2) (no_element (write c.args.body.now) (fits c.args.element) c.args.count c.loop-turn._turn _ _ _ c.loop-turn.invariant (omega arith) c.in_err-rest.field-0.0 c.in_err-rest.ensures)

pub write_elements-loop-turn-preserved : goal.write_elements-loop-turn-preserved
write_elements-loop-turn-preserved t c =
    next_element (write c.args.body.now) (fits c.args.element) c.args.count c.loop-turn._turn _ _ _ c.loop-turn.invariant (omega arith) _ _ c.in_ok-rest.ensures

pub write_elements-returns : goal.write_elements-returns
write_elements-returns t c = all_elements (write c.args.body.now) (fits c.args.element) c.args.count c.loop-turn._turn _ _ _ c.loop-turn.invariant (omega arith)

pub write-returns-in_ok-rest-in-Counted : goal.write-returns-in_ok-rest-in-Counted
write-returns-in_ok-rest-in-Counted t c =
    counted_written _ _ (write c.args.field.now (length c.args.bits.now.items) c.args.parts.now) c.args.parts.now c.in_ok-elements-in-Counted.rest.now _ c.args.bits.now.items c.push_number.new.bits.items _ c.in-Counted.count
    (write c.in-Counted.between.value) (write c.in-Counted.body.value) _ _ c.in_ok-elements-in-Counted.elements c.in-Some.number _
    (ap (λ (f : Field). write f (length c.args.bits.now.items) c.args.parts.now) c.in-Counted.is) (sym c.in_ok-elements-in-Counted.ensures) c.in-Some.ensures c.width.ensures c.in_ok-push_number-in-Counted.ensures
    (ap (λ (f : Field). write f) c.deref-in-Counted.ensures) (ap (λ (f : Field). write f) c.deref-in-Counted-2.ensures) c.in_ok-rest-in-Counted.ensures c.write_elements-in-Counted.ensures
