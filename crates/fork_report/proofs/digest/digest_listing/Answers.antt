use Rattle.fork_report.specs.Digests.{digest_line}
use Rattle.fork_report.proofs.Lined.{row_end, row_step}
use Rattle.fork_report.proofs.digest.digest_listing.Goals as goal

pub loop-row-preserved : goal.loop-row-preserved
loop-row-preserved c =
    rw c.in_ok-push_chosen.ensures (row_step (digest_line c.args.letters c.args.kinds.now) _ c.args.rows.now _ _ _ c.loop-row-test.true c.row-item.is c.loop-row.invariant)

pub returns : goal.returns
returns c = row_end (digest_line c.args.letters c.args.kinds.now) _ c.args.rows.now _ _ c.loop-row-test.false c.loop-row.invariant
