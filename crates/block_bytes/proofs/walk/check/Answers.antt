use Rattle.std.proofs.Common.{◌≡◌, ◌+◌, sym, subst, arith, IsTrue}
use Rattle.mac_base.specs.HeadKind.{zone_header}
use Rattle.block_bytes.specs.Walk.{size_at, is_block, WalksFrom}
use Rattle.block_bytes.proofs.Sizes.{follows-within, FirstBlock, walks-first, walks-next, is_block-size, is_block-from}
use Rattle.block_bytes.proofs.walk.check.Goals as goal
use Rattle.block_bytes.proofs.walk.check.Goals.{then-size-ne0-via-then-size-ne0, then-size-ne0-via-else-size-ne0+then-size-smallest, then-size-ne0-via-else-size-ne0+else-size-smallest+then-end-at-3}

pub returns-then-end-at : goal.returns-then-end-at
returns-then-end-at c = (λ h. absurd (cc h), λ w. absurd (let low = follows-within c.args.heads c.args.image.now zone_header w.sizes w.follows in omega arith))

pub returns-then-end-at-2 : goal.returns-then-end-at-2
returns-then-end-at-2 c = (
  λ h. absurd (cc h),
  λ w. absurd (
      let first : FirstBlock c.args.heads c.args.image.now c.loop-at.at = walks-first c.args.heads c.args.image.now c.loop-at.at (c.loop-at.invariant.left.0 w) c.loop-at-test.true in
      let size = is_block-size c.args.heads (size_at c.args.heads c.args.image.now c.loop-at.at) first.possible in
      let within = first.within in
      omega (arith, size.1)),
)

pub returns-then-size-ne0 : goal.returns-then-size-ne0
returns-then-size-ne0 c = (
  λ h. absurd (cc h),
  λ w. absurd (
      let first : FirstBlock c.args.heads c.args.image.now c.loop-at.at = walks-first c.args.heads c.args.image.now c.loop-at.at (c.loop-at.invariant.left.0 w) c.loop-at-test.true in
      let size = is_block-size c.args.heads (size_at c.args.heads c.args.image.now c.loop-at.at) first.possible in
      let within = first.within in
      elim c.then-size-ne0.branch [
        | then-size-ne0-via-then-size-ne0 w ↦ omega (arith, size.0)
        | then-size-ne0-via-else-size-ne0+then-size-smallest w ↦ omega (arith, size.1)
        | then-size-ne0-via-else-size-ne0+else-size-smallest+then-end-at-3 w ↦ omega arith
      ]),
)

pub loop-at-preserved : goal.loop-at-preserved
loop-at-preserved c =
    let heads = c.args.heads in let image = c.args.image.now in let at = c.loop-at.at in
    let size : c.size_at-size.result ≡ size_at heads image at = c.size_at-size.ensures in
    let possible : IsTrue (is_block heads (size_at heads image at)) = is_block-from heads (size_at heads image at) (omega arith) (omega arith) in
    record {
      low = omega arith;
      left = (
        λ w. subst (λ n. WalksFrom heads image (at + n)) (sym size) (walks-first heads image at (c.loop-at.invariant.left.0 w) c.loop-at-test.true).after,
        λ w. c.loop-at.invariant.left.1 (walks-next heads image at possible (subst (λ n. WalksFrom heads image (at + n)) size w)),
      );
    }
