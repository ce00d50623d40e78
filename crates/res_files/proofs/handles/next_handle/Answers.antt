use Rattle.std.proofs.Common.{arith}
use Rattle.res_files.proofs.NextHandle.{is_next, one_more, none_left}
use Rattle.res_files.proofs.handles.next_handle.Goals as goal

pub returns-in-Some-clause-some : goal.returns-in-Some-clause-some
returns-in-Some-clause-some c = is_next c.args.rows.now c.args.from c.loop-at.at c.loop-at.invariant.0 c.loop-at.invariant.1 c.row.result.now c.in-Some.handle c.row.ensures c.in-Some.is

pub loop-at-preserved : goal.loop-at-preserved
loop-at-preserved c =
    let low = c.loop-at.invariant.0 in (omega (arith, low), one_more c.args.rows.now c.args.from c.loop-at.at c.loop-at.invariant.0 c.loop-at.invariant.1 c.row.result.now c.row.ensures c.in_default.is)

pub returns-clause-none : goal.returns-clause-none
returns-clause-none c = none_left c.args.rows.now c.args.from c.loop-at.at c.loop-at.invariant.0 c.loop-at.invariant.1 (let long = c.len.ensures in let past = c.loop-at-test.false in omega (arith, long, past))
