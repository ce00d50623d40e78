use Rattle.std.proofs.Common.{◌≡◌, ◌+◌, ◌*◌, ◌-◌, ◌/◌, ◌<◌, ℕ, slice_index, ap, ◌∙◌, sym, subst, arith}
use Rattle.place_numbers.specs.Numbers.{LastAtLeast}
use Rattle.block_bytes.specs.Layout.{Layout, address_after}
use Rattle.block_bytes.specs.Reading.{layout_of}
use Rattle.block_bytes.specs.Finding.{HoldsByte}
use Rattle.block_bytes.specs.declared.blocks.Blocks.TheInside.{Inside}
use Rattle.block_bytes.proofs.Parts.{length-starts}
use Rattle.block_bytes.proofs.Holders.{holds-at, some-at}
use Rattle.block_bytes.proofs.blocks.Blocks.holder.Goals as goal

-- where the blocks of the value end
end_is : (z : Inside) (l : Layout) → layout_of z ≡ l → address_after (layout_of z) (layout_of z).blocks ≡ z.spec.base + z.spec.size → (end : ℕ) → end ≡ address_after l l.blocks → end ≡ z.spec.base + z.spec.size
end_is z l is ends end that = that ∙ sym (ap (λ (m : Layout). address_after m m.blocks) is) ∙ ends

pub last_some-requires : goal.last_some-requires
last_some-requires c =
    let z = c.self.inside in let end = end_is z c.args.self.now c.self.view_is c.self.invariant.layout.ends c.end.result c.end.ensures in
    let marks = length-starts z c.self.invariant.layout in let value = c.base.ensures.value in omega arith

pub returns-in_err-place-clause-outside : goal.returns-in_err-place-clause-outside
returns-in_err-place-clause-outside c =
    let z = c.self.inside in let end = end_is z c.args.self.now c.self.view_is c.self.invariant.layout.ends c.end.result c.end.ensures in
    let first = c.base-first.ensures.value in
    absurd (some-at z c.self.invariant.layout c.args.at (omega arith) (omega arith)
    (subst (λ (n : ℕ). (j : ℕ) → j < (c.args.at - n) / 4 + 1 → slice_index z.index j < 1) c.base.ensures.value c.in_err-place.ensures.none))

pub returns-clause-holds : goal.returns-clause-holds
returns-clause-holds c =
    let z = c.self.inside in let end = end_is z c.args.self.now c.self.view_is c.self.invariant.layout.ends c.end.result c.end.ensures in
    let first = c.base-first.ensures.value in let p = c.in_ok-place.place in
    subst (λ (l : Layout). HoldsByte l c.args.at (c.base-2.result + 4 * p)) c.self.view_is
    (subst (λ (n : ℕ). HoldsByte (layout_of z) c.args.at (n + 4 * p)) (sym c.base-2.ensures.value)
    (holds-at z c.self.invariant.layout c.args.at (omega arith) (omega arith) p (subst (λ (n : ℕ). LastAtLeast z.index 1 ((c.args.at - n) / 4 + 1) p) c.base.ensures.value c.in_ok-place.ensures.last)))
