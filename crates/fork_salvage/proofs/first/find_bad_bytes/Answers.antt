use Rattle.std.proofs.Common.{◌<◌, ◌∙◌, ap, Err, subst, arith}
use Rattle.fork_bytes.specs.Fork.{map_of}
use Rattle.fork_salvage.specs.Fault.{HasBytes, datum_gap, bytes_gap}
use Rattle.fork_salvage.specs.declared.reference.Loss.{Loss}
use Rattle.fork_salvage.specs.Plans.{reference_of}
use Rattle.fork_salvage.proofs.Faults.{loop_start, loop_step}
use Rattle.fork_salvage.proofs.DataFaults.{Says, found_says, length_fails, bytes_fail, row_is}
use Rattle.fork_salvage.proofs.first.find_bad_bytes.Goals as goal

pub loop-reference-init : goal.loop-reference-init
loop-reference-init c =
    let first = c.new-cursor.ensures.first in let none = c.new-cursor.ensures.none in let start = c.new-cursor.ensures.start in (
      record { next = omega arith; small = omega arith; types = λ (some : 0 < c.new-cursor.result.list.count). absurd (omega arith) },
      loop_start (HasBytes c.args.fork.now) c.args.fork.now c.args.plan.now c.new-cursor.result c.requires.told.told c.requires.references none first,
    )

pub returns-in-Err-Length-clause-some : goal.returns-in-Err-Length-clause-some
returns-in-Err-Length-clause-some c =
    let fork = c.args.fork.now in let r = reference_of c.in-Some.reference in
    let says = found_says fork c.args.plan.now r c.find_bytes.result c.requires.told.told c.find_bytes.ensures.found in
    let missing : datum_gap fork r 4 c.in-Err-Length.gap = subst (Says fork r) (c.in-Err-Length.is ∙ ap (λ (l : Loss). Err l) c.in-Err-Length.field-0-is) says in
    row_is fork (HasBytes fork) (λ reference gap. datum_gap fork reference 4 gap) _ _ r c.in-Err-Length.gap c.bad_row.result c.loop-reference.invariant.1 c.in-Some.ensures.left
    (length_fails fork r c.in-Err-Length.gap missing) missing c.bad_row.ensures

pub returns-in-Err-Bytes-clause-some : goal.returns-in-Err-Bytes-clause-some
returns-in-Err-Bytes-clause-some c =
    let fork = c.args.fork.now in let r = reference_of c.in-Some.reference in
    let says = found_says fork c.args.plan.now r c.find_bytes.result c.requires.told.told c.find_bytes.ensures.found in
    let missing : bytes_gap fork r c.in-Err-Bytes.gap = subst (Says fork r) (c.in-Err-Bytes.is ∙ ap (λ (l : Loss). Err l) c.in-Err-Bytes.field-0-is) says in
    row_is fork (HasBytes fork) (bytes_gap fork) _ _ r c.in-Err-Bytes.gap c.bad_row-in-Err-Bytes.result c.loop-reference.invariant.1 c.in-Some.ensures.left
    (bytes_fail fork r c.in-Err-Bytes.gap missing) missing c.bad_row-in-Err-Bytes.ensures

pub loop-reference-preserved : goal.loop-reference-preserved
loop-reference-preserved c =
    let fork = c.args.fork.now in let r = reference_of c.in-Some.reference in
    let says = found_says fork c.args.plan.now r c.find_bytes.result c.requires.told.told c.find_bytes.ensures.found in
    let has = (subst (Says fork r) c.in-Ok.is says).0 in
    (c.in-Some.ensures.cursor, loop_step (HasBytes fork) (map_of fork) _ _ r c.loop-reference.invariant.1 c.in-Some.ensures.left has)
