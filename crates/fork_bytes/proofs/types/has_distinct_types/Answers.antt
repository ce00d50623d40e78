use Rattle.std.proofs.Common.{◌≡◌, ◌≢◌, ◌↔◌, List, ℕ, true, AllPairs, subst, ◌∙◌}
use Rattle.std.proofs.lemmas.Result.{IfOk-weaker}
use Rattle.fork_bytes.proofs.Lists.{types_by_kinds}
use Rattle.fork_bytes.proofs.types.has_distinct_types.Goals as goal

pub returns : goal.returns
returns c =
    let m = c.args.map.now in
    let same = c.deref.ensures.value ∙ c.in_ok-kinds.ensures in
    let types = types_by_kinds m c.args.list c.requires in
    IfOk-weaker c.are_distinct.result (λ yes. (yes ≡ true) ↔ AllPairs (λ (a b : List ℕ). a ≢ b) c.deref.result.now) _
    (λ yes told. (let P : List (List ℕ) → Type 0 = λ kinds. (yes ≡ true) ↔ AllPairs (λ (a b : List ℕ). a ≢ b) kinds in
    let at = subst P same told in (λ is. types.0 (at.0 is), λ has. at.1 (types.1 has))))
    c.are_distinct.ensures
