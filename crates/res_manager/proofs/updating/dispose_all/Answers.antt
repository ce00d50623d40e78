use Rattle.std.proofs.Common.{◌+◌, drop, arith, sym, ap, ◌∙◌}
use Rattle.mac_base.specs.Outcomes.{done_outcome}
use Rattle.res_update.specs.Changes.{rows_of}
use Rattle.res_update.specs.Updates.{disposed, handles_of}
use Rattle.res_manager.proofs.Handles.{disposed_more, next_found, next_none}
use Rattle.res_manager.proofs.updating.dispose_all.Goals as goal

pub overflow_add-from : goal.overflow_add-from
overflow_add-from g c =
    let some = c.in-Some.ensures.some in
    let has = some.5 in
    let at = some.6 in
    let next = next_found (rows_of c.args.number c.args.files.now.files) c.loop-found.from c.in-Some.found.0 c.in-Some.found.1 some.0 some.1 some.2 some.3 some.4 has at in
    let within = next.within in
    let few = c.in-Some.ensures.few in
    omega arith

pub loop-found-smaller : goal.loop-found-smaller
loop-found-smaller g c =
    let some = c.in-Some.ensures.some in
    let has = some.5 in
    let at = some.6 in
    let next = next_found (rows_of c.args.number c.args.files.now.files) c.loop-found.from c.in-Some.found.0 c.in-Some.found.1 some.0 some.1 some.2 some.3 some.4 has at in
    let within = next.within in
    let later = next.later in
    omega arith

pub loop-found-preserved : goal.loop-found-preserved
loop-found-preserved g c =
    let some = c.in-Some.ensures.some in
    let has = some.5 in
    let at = some.6 in
    let next = next_found (rows_of c.args.number c.args.files.now.files) c.loop-found.from c.in-Some.found.0 c.in-Some.found.1 some.0 some.1 some.2 some.3 some.4 has at in
    let s = c.args.memory.now.shape in
    record {
      heap = sym (disposed_more s c.loop-found.memory.shape c.loop-found.memory.heap c.dispose_handle.new.self.heap c.in-Some.found.1 (handles_of (drop (c.in-Some.found.0 + 1) (rows_of c.args.number c.args.files.now.files))) (done_outcome c.dispose_handle.result) c.loop-found.invariant.shape c.dispose_handle.ensures.exact)
          ∙ sym (ap (λ hs. disposed s hs c.loop-found.memory.heap) next.handles) ∙ c.loop-found.invariant.heap;
      shape = c.dispose_handle.ensures.shape ∙ c.loop-found.invariant.shape;
      loans = (c.dispose_handle.ensures.loans.0 ∙ c.loop-found.invariant.loans.0, λ x loan held. c.dispose_handle.ensures.loans.1 x loan (c.loop-found.invariant.loans.1 x loan held));
    }

pub returns-clause-heap : goal.returns-clause-heap
returns-clause-heap g c = ap (λ hs. disposed c.args.memory.now.shape hs c.loop-found.memory.heap) (sym (next_none (drop c.loop-found.from (rows_of c.args.number c.args.files.now.files)) c.in_default.ensures.none)) ∙ c.loop-found.invariant.heap
