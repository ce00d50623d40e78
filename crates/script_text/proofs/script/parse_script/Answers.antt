use Rattle.std.proofs.Common.{arith}
use Rattle.std.proofs.lemmas.Result.{err_from_is_err_and}
use Rattle.script_text.proofs.ScriptLaws.{parsing_none, parsing_more, parsing_fails}
use Rattle.script_text.proofs.script.parse_script.Goals as goal

pub loop-line-init : goal.loop-line-init
loop-line-init c = rw (c.new-names.ensures, c.new-script.ensures.items) (parsing_none c.args.text.now, omega arith)

pub returns-in_err-add_line-clause-fault : goal.returns-in_err-add_line-clause-fault
returns-in_err-add_line-clause-fault c =
    let p = err_from_is_err_and c.from_residual.result c.from_residual.ensures.1 in
    rw (p.1, p.2) (parsing_fails _ _ c.in-Some.after.now _ _ _ _ c.in_err-add_line.field-0.0 c.if-text-gt-MAX_SCRIPT.false c.loop-line.invariant.0 c.in-Some.ensures.lines c.in_err-add_line.ensures.fault)

pub loop-line-preserved : goal.loop-line-preserved
loop-line-preserved c =
    let adds = c.in_ok-add_line.ensures.line in
    (rw adds.2 (parsing_more _ _ _ _ _ _ _ _ adds.0 c.loop-line.invariant.0 c.in-Some.ensures.lines adds.1), c.in_ok-add_line.ensures.few)
