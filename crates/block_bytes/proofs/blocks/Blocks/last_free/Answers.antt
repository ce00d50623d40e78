use Rattle.std.proofs.Common.{◌≡◌, ◌+◌, ◌-◌, ◌*◌, ◌/◌, ◌<◌, ℕ, [], sym, subst, arith, IsTrue}
use Rattle.mac_base.specs.HeadKind.{zone_header}
use Rattle.block_bytes.specs.Layout.{Layout, address_after}
use Rattle.block_bytes.specs.Finding.{SplitAt, LastFree, none_free}
use Rattle.block_bytes.specs.Reading.{layout_of}
use Rattle.block_bytes.proofs.NextFree.{are-split}
use Rattle.block_bytes.proofs.LastFree.{last-at, none-last}
use Rattle.block_bytes.proofs.blocks.Blocks.last_free.Goals as goal

-- what was found
found : (c : goal.In_ok-place) (split : SplitAt (layout_of c.self.inside) c.args.end)
    → LastFree c.self.inside.spec.heads split.before (c.self.inside.spec.base + zone_header) (c.self.inside.spec.base + 4 * c.in_ok-place.place) × (4 * c.in_ok-place.place < c.self.inside.spec.size)
found c split = let base_is = c.base-base.ensures.value in
    last-at c.self.inside c.self.invariant.layout c.args.end split ((c.args.end - c.base-base.result) / 4) (omega arith) c.in_ok-place.place c.in_ok-place.ensures.last

-- it lies below the end
record IsBelow (c : goal.In_ok-place) : Type 0 where
  below : 4 * c.in_ok-place.place < c.self.inside.spec.size

below-end : (c : goal.In_ok-place) → IsBelow c
below-end c = record { below = (found c (subst (λ (l : Layout). SplitAt l c.args.end) (sym c.self.view_is) c.requires)).1 }

pub returns-in_err-place-clause-none : goal.returns-in_err-place-clause-none
returns-in_err-place-clause-none c = let base_is = c.base-base.ensures.value in
    rw c.from_residual.ensures (subst (λ (l : Layout). (split : SplitAt l c.args.end) → IsTrue (none_free split.before)) c.self.view_is
    (λ split. none-last c.self.inside c.self.invariant.layout c.args.end split ((c.args.end - c.base-base.result) / 4) (omega arith) c.in_err-place.ensures.none))

pub overflow_cast-result : goal.overflow_cast-result
overflow_cast-result c = let b = (below-end c).below in let small = c.base-base.ensures.possible.small_enough in let within = c.base-base.ensures.possible.within in omega arith

pub overflow_mul-result : goal.overflow_mul-result
overflow_mul-result c = let b = (below-end c).below in let small = c.base-base.ensures.possible.small_enough in let within = c.base-base.ensures.possible.within in omega arith

pub overflow_add-result : goal.overflow_add-result
overflow_add-result c = let b = (below-end c).below in
    let high = c.base-base.ensures.reach in let within = c.base-base.ensures.possible.within in let value = c.base-base.ensures.value in omega arith

pub returns-clause-last : goal.returns-clause-last
returns-clause-last c =
    let z = c.self.inside in let there = c.base-base.result + 4 * c.in_ok-place.place in
    subst (λ (l : Layout). (split : SplitAt l c.args.end) → LastFree l.heads split.before (address_after l []) there) c.self.view_is
    (λ split. subst (λ (n : ℕ). LastFree z.spec.heads split.before n there) (let e : z.spec.base + zone_header ≡ address_after (layout_of z) [] = omega arith in e)
    (subst (λ (n : ℕ). LastFree z.spec.heads split.before (z.spec.base + zone_header) (n + 4 * c.in_ok-place.place)) (sym c.base-base.ensures.value) (found c split).0))

pub last_most-requires : goal.last_most-requires
last_most-requires c =
    let base_is = c.base-base.ensures.value in
    let s = are-split c.self.inside c.self.invariant.layout c.args.end (subst (λ (l : Layout). SplitAt l c.args.end) (sym c.self.view_is) c.requires) ((c.args.end - c.base-base.result) / 4) (omega arith) in
    let all = s.all in omega arith
