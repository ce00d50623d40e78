use Rattle.std.proofs.Common.{◌+◌, ◌*◌, ◌<◌, ℕ, sym, subst, arith}
use Rattle.block_bytes.specs.Layout.{Layout}
use Rattle.block_bytes.specs.Finding.{FirstFrom, NoneFrom}
use Rattle.block_bytes.specs.Reading.{layout_of}
use Rattle.block_bytes.proofs.FirstFrom.{first-at, none-at}
use Rattle.block_bytes.proofs.blocks.Blocks.first_from.Goals as goal

-- what was found, which lies below the end
found : (c : goal.In_ok-place) → FirstFrom (layout_of c.self.inside) c.args.from (c.self.inside.spec.base + 4 * c.in_ok-place.place) × (4 * c.in_ok-place.place < c.self.inside.spec.size)
found c = let base_is = c.base-base.ensures.value in first-at c.self.inside c.self.invariant.layout c.args.from c.div_ceil-first.result (omega arith) c.in_ok-place.place c.in_ok-place.ensures.first

pub returns-in_err-place-clause-none : goal.returns-in_err-place-clause-none
returns-in_err-place-clause-none c = let base_is = c.base-base.ensures.value in
    rw c.from_residual.ensures (subst (λ (l : Layout). NoneFrom l c.args.from) c.self.view_is
    (none-at c.self.inside c.self.invariant.layout c.args.from c.div_ceil-first.result (omega arith) c.in_err-place.ensures.none))

pub overflow_cast-result : goal.overflow_cast-result
overflow_cast-result c = let below = (found c).1 in let small = c.base-base.ensures.possible.small_enough in let within = c.base-base.ensures.possible.within in omega arith

pub overflow_mul-result : goal.overflow_mul-result
overflow_mul-result c = let below = (found c).1 in let small = c.base-base.ensures.possible.small_enough in let within = c.base-base.ensures.possible.within in omega arith

pub overflow_add-result : goal.overflow_add-result
overflow_add-result c = let below = (found c).1 in
    let high = c.base-base.ensures.reach in let within = c.base-base.ensures.possible.within in let value = c.base-base.ensures.value in omega arith

pub returns-clause-first : goal.returns-clause-first
returns-clause-first c =
    subst (λ (l : Layout). FirstFrom l c.args.from (c.base-base.result + 4 * c.in_ok-place.place)) c.self.view_is
    (subst (λ (n : ℕ). FirstFrom (layout_of c.self.inside) c.args.from (n + 4 * c.in_ok-place.place)) (sym c.base-base.ensures.value) (found c).0)
