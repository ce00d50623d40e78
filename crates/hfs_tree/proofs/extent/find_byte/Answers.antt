use Rattle.std.proofs.Common.{◌+◌, ◌/◌, ◌%◌, sym, ◌∙◌}
use Rattle.hfs_tree.proofs.Places.{extent_of, is_after, is_in, is_in_none, no_place, a_place}
use Rattle.hfs_tree.proofs.extent.find_byte.Goals as goal

pub loop-extent-preserved : goal.loop-extent-preserved
loop-extent-preserved c =
    sym (is_after c.args.layout c.args.extents.now c.loop-extent.extent-index c.loop-extent.rest c.loop-extent-test.true c.if-rest-length.false) ∙ c.loop-extent.invariant

pub returns-then-block-layout-clause-place : goal.returns-then-block-layout-clause-place
returns-then-block-layout-clause-place c =
    let block = (extent_of c.args.extents.now c.loop-extent.extent-index).start + c.loop-extent.rest / c.args.layout.size in
    sym (no_place c.args.layout block (c.loop-extent.rest % c.args.layout.size) c.if-block-layout.true)
    ∙ sym (is_in c.args.layout c.args.extents.now c.loop-extent.extent-index c.loop-extent.rest c.loop-extent-test.true c.if-rest-length.true) ∙ c.loop-extent.invariant

pub returns-then-rest-length-clause-place : goal.returns-then-rest-length-clause-place
returns-then-rest-length-clause-place c =
    let block = (extent_of c.args.extents.now c.loop-extent.extent-index).start + c.loop-extent.rest / c.args.layout.size in
    sym (a_place c.args.layout block (c.loop-extent.rest % c.args.layout.size) c.if-block-layout.false)
    ∙ sym (is_in c.args.layout c.args.extents.now c.loop-extent.extent-index c.loop-extent.rest c.loop-extent-test.true c.if-rest-length.true) ∙ c.loop-extent.invariant

pub returns-clause-place : goal.returns-clause-place
returns-clause-place c = sym (is_in_none c.args.layout c.args.extents.now c.loop-extent.extent-index c.loop-extent.rest c.loop-extent-test.false) ∙ c.loop-extent.invariant
