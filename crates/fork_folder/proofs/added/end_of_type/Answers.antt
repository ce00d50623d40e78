use Rattle.std.proofs.Common.{sym, ◌∙◌, arith}
use Rattle.fork_folder.proofs.Placing.{after_own, after_all}
use Rattle.fork_folder.proofs.added.end_of_type.Goals as goal

pub returns-then-eq-clause-added : goal.returns-then-eq-clause-added
returns-then-eq-clause-added c new same =
    after_own new c.args.entries.now c.args.kind c.loop-end.end c.index-entries-end.result (omega (arith, c.loop-end-test.true)) c.loop-end.invariant.0 (sym c.eq.ensures ∙ c.if-eq.true)
    c.loop-end.invariant.1 same

pub returns-clause-added : goal.returns-clause-added
returns-clause-added c new same = after_all new c.args.entries.now c.args.kind c.loop-end.end (omega (arith, c.loop-end-test.false)) c.loop-end.invariant.1 same
