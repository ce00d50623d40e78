use Rattle.std.proofs.Common.{◌+◌, length, ap, sym, arith}
use Rattle.std.proofs.lemmas.Result.{err_from_is_err_and}
use Rattle.res_types.specs.declared.field.Field.{Field}
use Rattle.res_types.specs.Reading.{read}
use Rattle.res_types.proofs.Steps.{counted_read, next_element, no_element, all_elements, next_of_list, none_of_list, list_ends, list_stays}
use Rattle.res_types.proofs.reading.+reading.Goals as goal

pub read_all-returns-in-Some : goal.read_all-returns-in-Some
read_all-returns-in-Some t c =
    list_ends (read c.args.whole c.args.body.now) c.args.end (length c.args.bits.now + 1) c.loop-turn._turn c.loop-turn.count _ _ _ c.loop-turn.invariant.found (omega arith) _ (sym c.in-Some.ensures)

pub read_all-returns-in_err-rest : goal.read_all-returns-in_err-rest
read_all-returns-in_err-rest t c =
    let p = err_from_is_err_and c.from_residual.result c.from_residual.ensures.1 in
    rw (p.1, p.2) (none_of_list (read c.args.whole c.args.body.now) c.args.end (length c.args.bits.now + 1) c.loop-turn._turn c.loop-turn.count _ _ _ c.loop-turn.invariant.found (omega arith) (sym c.in_default.ensures) _ c.least.ensures
    c.in_err-rest.field-0.0 c.in_err-rest.ensures)

pub read_all-loop-turn-preserved : goal.read_all-loop-turn-preserved
read_all-loop-turn-preserved t c = record {
  found = next_of_list (read c.args.whole c.args.body.now) c.args.end (length c.args.bits.now + 1) c.loop-turn._turn c.loop-turn.count _ _ _ c.loop-turn.invariant.found (omega arith) (sym c.in_default.ensures) _ c.least.ensures _ _ c.in_ok-rest.ensures;
  few = omega arith;
}

pub read_all-returns : goal.read_all-returns
read_all-returns t c =
    rw c.unfit.ensures (list_stays (read c.args.whole c.args.body.now) c.args.end (length c.args.bits.now + 1) c.loop-turn._turn c.loop-turn.count _ _ _ c.loop-turn.invariant.found (omega arith))

pub read_elements-returns-in_err-rest : goal.read_elements-returns-in_err-rest
read_elements-returns-in_err-rest t c =
    let p = err_from_is_err_and c.from_residual.result c.from_residual.ensures.1 in
    rw (p.1, p.2) (no_element (read c.args.whole c.args.body.now) c.args.count c.loop-turn._turn _ _ _ c.loop-turn.invariant (omega arith) c.in_err-rest.field-0.0 c.in_err-rest.ensures)

pub read_elements-loop-turn-preserved : goal.read_elements-loop-turn-preserved
read_elements-loop-turn-preserved t c =
    next_element (read c.args.whole c.args.body.now) c.args.count c.loop-turn._turn _ _ _ c.loop-turn.invariant (omega arith) _ _ c.in_ok-rest.ensures

pub read_elements-returns : goal.read_elements-returns
read_elements-returns t c = all_elements (read c.args.whole c.args.body.now) c.args.count c.loop-turn._turn _ _ _ c.loop-turn.invariant (omega arith)

pub read-returns-in_ok-rest-in-Counted : goal.read-returns-in_ok-rest-in-Counted
read-returns-in_ok-rest-in-Counted t c =
    let bits = c.args.bits.now in
    let whole = c.args.whole in
    counted_read _ _ (read whole c.args.field.now bits) bits c.args.parts.now.items c.push.new.self.items _ c.in-Counted.count (read whole c.in-Counted.between.value) (read whole c.in-Counted.body.value) _ _ c.in-Some.number c.in-Some.rest.now _
    (ap (λ (f : Field). read whole f bits) c.in-Counted.is) c.in-Some.ensures c.in_ok-push-in-Counted.ensures.items (ap (λ (f : Field). read whole f) c.deref-in-Counted.ensures) (ap (λ (f : Field). read whole f) c.deref-in-Counted-2.ensures)
    c.in_ok-rest-in-Counted.ensures c.read_elements-in-Counted.ensures
