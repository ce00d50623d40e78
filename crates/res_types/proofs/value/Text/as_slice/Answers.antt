use Rattle.std.proofs.Common.{◌≡◌, List, ℕ, true, subst, arith}
use Rattle.res_types.specs.Texts.{are_bytes}
use Rattle.res_types.proofs.Bytes.{bytes_small}
use Rattle.res_types.proofs.value.Text.as_slice.Goals as goal

pub returns-clause-small : goal.returns-clause-small
returns-clause-small c =
    let small = bytes_small c.as_slice-bytes.result.now (λ i. omega (arith, c.as_slice-bytes.items_fit i)) in
    let inside = subst (λ (xs : List ℕ). are_bytes xs ≡ true) c.as_slice-bytes.ensures.value small in
    subst (λ (xs : List ℕ). are_bytes xs ≡ true) c.self.view_is inside
