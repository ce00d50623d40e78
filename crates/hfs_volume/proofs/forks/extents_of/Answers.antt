use Rattle.std.proofs.Common.{◌≡◌, ◌≢◌, ◌-◌, ◌+◌, ◌++◌, suc, List, length, vec_len, ap, sym, ◌∙◌, arith}
use Rattle.std.proofs.lemmas.Bool.{eqb-true, eqb-false}
use Rattle.std.proofs.lemmas.List.{length-append}
use Rattle.hfs_tree.specs.declared.extent.Extent.{Extent}
use Rattle.hfs_volume.specs.Overflow.{block_count}
use Rattle.hfs_volume.proofs.MoreExtents.{enough, no_more, more_after, no_left}
use Rattle.hfs_volume.proofs.forks.extents_of.Goals as goal

pub returns-then-needed-blocks-clause-extents : goal.returns-then-needed-blocks-clause-extents
returns-then-needed-blocks-clause-extents c =
    let so_far = c.loop-step.extents.items in
    let blocks : c.count_blocks-blocks.result ≡ block_count so_far = c.count_blocks-blocks.ensures ∙ ap (λ (xs : List Extent). block_count xs) c.deref.ensures.value in
    sym (enough c.args.rows.now c.args.id c.args.fork c.args.needed so_far (c.args.needed - c.loop-step.step) (omega (arith, blocks, c.if-needed-blocks.true)))
    ∙ c.loop-step.invariant.same

pub returns-then-is_empty-clause-extents : goal.returns-then-is_empty-clause-extents
returns-then-is_empty-clause-extents c =
    let so_far = c.loop-step.extents.items in
    let blocks : c.count_blocks-blocks.result ≡ block_count so_far = c.count_blocks-blocks.ensures ∙ ap (λ (xs : List Extent). block_count xs) c.deref.ensures.value in
    let none = eqb-true (vec_len c.in_ok-more.more) 0 (sym c.is_empty.ensures ∙ c.if-is_empty.true) in
    sym (no_more c.args.rows.now c.args.id c.args.fork c.args.needed so_far (c.args.needed - c.loop-step.step) c.in_ok-more.more.items
    (omega (arith, blocks, c.if-needed-blocks.false)) (rw blocks at c.in_ok-more.ensures.extents) (omega (arith, none, c.in_ok-more.more.ok.0)))
    ∙ c.loop-step.invariant.same

pub loop-step-preserved : goal.loop-step-preserved
loop-step-preserved c =
    let so_far = c.loop-step.extents.items in
    let more = c.in_ok-more.more.items in
    let blocks : c.count_blocks-blocks.result ≡ block_count so_far = c.count_blocks-blocks.ensures ∙ ap (λ (xs : List Extent). block_count xs) c.deref.ensures.value in
    let some : vec_len c.in_ok-more.more ≢ 0 = eqb-false (vec_len c.in_ok-more.more) 0 (sym c.is_empty.ensures ∙ c.if-is_empty.false) in
    let left : c.args.needed - c.loop-step.step ≡ suc (c.args.needed - (c.loop-step.step + 1)) = omega (arith, c.loop-step-test.true) in
    let new : c.extend_from_slice.new.self.items ≡ so_far ++ more = c.in_ok-extend_from_slice.ensures.items ∙ ap (λ (xs : List Extent). so_far ++ xs) c.deref-in-loop-step.ensures.value in
    let long = ap (λ (xs : List Extent). length xs) new ∙ length-append so_far more in
    let few = c.in_ok-more.ensures.few in
    let were = c.loop-step.invariant.few in
    record {
      same = rw new (sym (more_after c.args.rows.now c.args.id c.args.fork c.args.needed so_far (c.args.needed - c.loop-step.step) (c.args.needed - (c.loop-step.step + 1)) more left
          (omega (arith, blocks, c.if-needed-blocks.false)) (rw blocks at c.in_ok-more.ensures.extents) (omega (arith, some, c.in_ok-more.more.ok.0)))
          ∙ c.loop-step.invariant.same);
      few = omega (arith, long, few, were);
    }

pub returns-clause-extents : goal.returns-clause-extents
returns-clause-extents c =
    let so_far = c.loop-step.extents.items in
    sym (no_left c.args.rows.now c.args.id c.args.fork c.args.needed so_far (c.args.needed - c.loop-step.step) (omega (arith, c.loop-step-test.false))) ∙ c.loop-step.invariant.same
