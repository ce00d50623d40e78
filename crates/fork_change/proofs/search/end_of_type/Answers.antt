use Rattle.std.proofs.Common.{sym, ◌∙◌, arith}
use Rattle.fork_change.proofs.Standing.{added_after, added_last}
use Rattle.fork_change.proofs.search.end_of_type.Goals as goal

pub returns-then-eq-clause-added : goal.returns-then-eq-clause-added
returns-then-eq-clause-added c new same =
    added_after new c.args.rows.now c.args.kind c.loop-end.end c.index-rows-end.result (omega (arith, c.loop-end-test.true)) c.loop-end.invariant.0 (sym c.eq.ensures ∙ c.if-eq.true)
    c.loop-end.invariant.1 same

pub returns-clause-added : goal.returns-clause-added
returns-clause-added c new same = added_last new c.args.rows.now c.args.kind c.loop-end.end (omega (arith, c.loop-end-test.false)) c.loop-end.invariant.1 same
