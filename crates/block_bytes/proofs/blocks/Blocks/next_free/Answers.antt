use Rattle.std.proofs.Common.{◌+◌, ◌-◌, ◌*◌, ◌/◌, ◌<◌, ℕ, sym, subst, arith, IsTrue}
use Rattle.block_bytes.specs.Layout.{Layout}
use Rattle.block_bytes.specs.Finding.{SplitAt, FirstFree, none_free}
use Rattle.block_bytes.specs.Reading.{layout_of}
use Rattle.block_bytes.proofs.NextFree.{next-at, none-next}
use Rattle.block_bytes.proofs.blocks.Blocks.next_free.Goals as goal

-- what was found
found : (c : goal.In_ok-place) (split : SplitAt (layout_of c.self.inside) c.args.from)
    → FirstFree c.self.inside.spec.heads split.after c.args.from (c.self.inside.spec.base + 4 * c.in_ok-place.place) × (4 * c.in_ok-place.place < c.self.inside.spec.size)
found c split = let base_is = c.base-base.ensures.value in
    next-at c.self.inside c.self.invariant.layout c.args.from split ((c.args.from - c.base-base.result) / 4) (omega arith) c.in_ok-place.place c.in_ok-place.ensures.first

-- it lies below the end
record IsBelow (c : goal.In_ok-place) : Type 0 where
  below : 4 * c.in_ok-place.place < c.self.inside.spec.size

below-end : (c : goal.In_ok-place) → IsBelow c
below-end c = record { below = (found c (subst (λ (l : Layout). SplitAt l c.args.from) (sym c.self.view_is) c.requires)).1 }

pub returns-in_err-place-clause-none : goal.returns-in_err-place-clause-none
returns-in_err-place-clause-none c = let base_is = c.base-base.ensures.value in
    rw c.from_residual.ensures (subst (λ (l : Layout). (split : SplitAt l c.args.from) → IsTrue (none_free split.after)) c.self.view_is
    (λ split. none-next c.self.inside c.self.invariant.layout c.args.from split ((c.args.from - c.base-base.result) / 4) (omega arith) c.in_err-place.ensures.none))

pub overflow_cast-result : goal.overflow_cast-result
overflow_cast-result c = let b = (below-end c).below in let small = c.base-base.ensures.possible.small_enough in let within = c.base-base.ensures.possible.within in omega arith

pub overflow_mul-result : goal.overflow_mul-result
overflow_mul-result c = let b = (below-end c).below in let small = c.base-base.ensures.possible.small_enough in let within = c.base-base.ensures.possible.within in omega arith

pub overflow_add-result : goal.overflow_add-result
overflow_add-result c = let b = (below-end c).below in
    let high = c.base-base.ensures.reach in let within = c.base-base.ensures.possible.within in let value = c.base-base.ensures.value in omega arith

pub returns-clause-next : goal.returns-clause-next
returns-clause-next c =
    subst (λ (l : Layout). (split : SplitAt l c.args.from) → FirstFree l.heads split.after c.args.from (c.base-base.result + 4 * c.in_ok-place.place)) c.self.view_is
    (λ split. subst (λ (n : ℕ). FirstFree c.self.inside.spec.heads split.after c.args.from (n + 4 * c.in_ok-place.place)) (sym c.base-base.ensures.value) (found c split).0)
