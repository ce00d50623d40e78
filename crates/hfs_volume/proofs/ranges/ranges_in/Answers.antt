use Rattle.std.proofs.Common.{sym, ◌∙◌}
use Rattle.std.proofs.lemmas.Bool.{ne_eqb}
use Rattle.hfs_volume.proofs.ForkRanges.{ranges_are, ranges_end, ranges_more}
use Rattle.hfs_volume.proofs.ranges.ranges_in.Goals as goal

pub returns-then-left-eq0 : goal.returns-then-left-eq0
returns-then-left-eq0 c =
    sym (ranges_are c.args.layout c.loop-extent.ranges.items c.args.extents.now c.loop-extent.extent-index c.loop-extent.left c.if-left-eq0.true) ∙ c.loop-extent.invariant

pub loop-extent-preserved : goal.loop-extent-preserved
loop-extent-preserved c =
    rw c.in_ok-push.ensures.items
    (sym (ranges_more c.args.layout c.loop-extent.ranges.items c.args.extents.now c.loop-extent.extent-index c.loop-extent.left c.min-length.result
    c.loop-extent-test.true (ne_eqb c.loop-extent.left 0 c.if-left-eq0.false) c.min-length.ensures) ∙ c.loop-extent.invariant)

pub returns : goal.returns
returns c =
    sym (ranges_end c.args.layout c.loop-extent.ranges.items c.args.extents.now c.loop-extent.extent-index c.loop-extent.left c.loop-extent-test.false) ∙ c.loop-extent.invariant
