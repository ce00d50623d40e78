use Rattle.std.proofs.Common.{ℕ, ◌+◌, ◌-◌, ◌<◌, ◌≡◌, ◌∙◌, ap, subst, arith}
use Rattle.fork_bytes.specs.Fork.{header_of}
use Rattle.fork_salvage.specs.declared.place.Span.{Span}
use Rattle.fork_salvage.specs.Fault.{datum_place}
use Rattle.fork_salvage.specs.Salvage.{most_summed}
use Rattle.fork_salvage.specs.Plans.{left_of, reference_of}
use Rattle.fork_salvage.proofs.Cursors.{left_at_first}
use Rattle.fork_salvage.proofs.Faults.{told_references}
use Rattle.fork_salvage.proofs.DataFaults.{Says, found_says, sum_start, sum_step, sum_fails, none_lost}
use Rattle.fork_salvage.proofs.first.find_sum.Goals as goal

pub loop-reference-init : goal.loop-reference-init
loop-reference-init c =
    let first = c.new-cursor.ensures.first in let none = c.new-cursor.ensures.none in let start = c.new-cursor.ensures.start in
    let f = c.args.fork.now in let p = c.args.plan.now in let cursor = c.new-cursor.result in (
      record { next = omega arith; small = omega arith; types = λ (some : 0 < c.new-cursor.result.list.count). absurd (omega arith) },
      sum_start f (left_of f p cursor) (left_at_first f p cursor none first ∙ told_references f p c.requires.told.told) c.requires.references c.requires.bytes,
      omega arith,
    )

pub returns-then-total-most-clause-some : goal.returns-then-total-most-clause-some
returns-then-total-most-clause-some c =
    let fork = c.args.fork.now in let r = reference_of c.in-Some.reference in let total = c.loop-reference.total in let bytes = c.in-Ok.bytes in
    let says = found_says fork c.args.plan.now r c.find_bytes.result c.requires.told.told c.find_bytes.ensures.found in
    let is = (subst (Says fork r) c.in-Ok.is says).1 in
    let start = ap (λ (s : Span). s.start) is in
    let place : bytes.start - 4 ≡ (header_of fork).data_offset + datum_place fork r = omega arith in
    sum_fails fork _ _ r total (total + (4 + bytes.length)) _ (record { place = bytes.start - 4; wanted = total + (4 + bytes.length); left = c.most_bytes-most.result })
    c.bad_row.result (c.most_bytes-most.ensures.most ∙ ap (most_summed fork) c.requires.told.told) c.loop-reference.invariant.1 c.in-Some.ensures.left (ap (λ (s : Span). total + (4 + s.length)) is) c.loop-reference.invariant.2 c.if-total-most.true
    (ap (λ (n : ℕ). record { place = n; wanted = total + (4 + bytes.length); left = c.most_bytes-most.result }) place) c.bad_row.ensures

pub loop-reference-preserved-else-total-most : goal.loop-reference-preserved-else-total-most
loop-reference-preserved-else-total-most c =
    let fork = c.args.fork.now in let r = reference_of c.in-Some.reference in let total = c.loop-reference.total in
    let says = found_says fork c.args.plan.now r c.find_bytes.result c.requires.told.told c.find_bytes.ensures.found in
    let is = (subst (Says fork r) c.in-Ok.is says).1 in (
      c.in-Some.ensures.cursor,
      sum_step fork _ _ r total _ c.loop-reference.invariant.1 c.in-Some.ensures.left (ap (λ (s : Span). total + (4 + s.length)) is),
      c.if-total-most.false,
    )

pub loop-reference-preserved : goal.loop-reference-preserved
loop-reference-preserved c =
    let fork = c.args.fork.now in let r = reference_of c.in-Some.reference in
    let says = found_says fork c.args.plan.now r c.find_bytes.result c.requires.told.told c.find_bytes.ensures.found in
    absurd (none_lost fork _ _ r c.loop-reference.total c.in_default-find_bytes.field-0 c.loop-reference.invariant.1 c.in-Some.ensures.left
    (subst (Says fork r) c.in_default-find_bytes.is says))
