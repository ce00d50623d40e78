use Rattle.std.proofs.Common.{◌≡◌, ◌-◌, ◌/◌, ℕ, List, ap, sym, ◌∙◌, subst, arith, slice_index}
use Rattle.std.specs.Prelude.{◌==◌}
use Rattle.block_bytes.specs.Layout.{Layout, BlockAt}
use Rattle.block_bytes.specs.Reading.{layout_of}
use Rattle.block_bytes.specs.Starts.{lent_mark, starts_of}
use Rattle.block_bytes.proofs.ReadBlocks.{lent-marked}
use Rattle.block_bytes.proofs.Parts.{length-starts, total-ends}
use Rattle.block_bytes.proofs.Starts.{marked-block}
use Rattle.block_bytes.proofs.blocks.Blocks.is_lent.Goals as goal

pub get-requires : goal.get-requires
get-requires c = let z = c.self.inside in let marks = length-starts z c.self.invariant.layout in let ends = total-ends z c.self.invariant.layout in
    let m = marked-block (layout_of z) c.self.invariant.layout.possible c.args.at (subst (λ (l : Layout). BlockAt l c.args.at) (sym c.self.view_is) c.requires) in let below = m.below in omega arith

pub returns : goal.returns
returns c = let z = c.self.inside in let k = (c.args.at - c.base.result) / 4 in
    subst (λ (l : Layout). (b : BlockAt l c.args.at) → (c.get.result == lent_mark) ≡ b.here.lent) c.self.view_is (λ b.
    let m = marked-block (layout_of z) c.self.invariant.layout.possible c.args.at b in
    let mark = c.get.ensures ∙ ap (λ (ms : List ℕ). slice_index ms k) c.self.invariant.layout.marked
    ∙ ap (λ (j : ℕ). slice_index (starts_of (layout_of z)) j) (let e : k ≡ (c.args.at - z.spec.base) / 4 = omega arith in e) ∙ m.mark in
    ap (λ (n : ℕ). n == lent_mark) mark ∙ lent-marked z.spec.heads b.here)
