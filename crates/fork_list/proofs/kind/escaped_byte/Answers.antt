use Rattle.std.proofs.Common.{◌≡◌, ℕ, ◌-◌, ◌⊎◌, ◌∷◌, List, take, drop, length, get_or, subst, sym, ap, ◌∙◌, IfNone, arith}
use Rattle.fork_list.specs.Kind.{ShowsFirst}
use Rattle.fork_list.proofs.Written.{after_first, first_and_rest}
use Rattle.fork_list.proofs.kind.escaped_byte.Goals as goal

pub returns-in-120-clause-none : goal.returns-in-120-clause-none
returns-in-120-clause-none c =
    let text = c.args.text.now in
    let x : get_or text 0 0 ≡ 120 = omega arith in
    let whole : text ≡ 120 ∷ take (length text - 1) (drop 1 text) = first_and_rest text c.in-120.len_at_least ∙ ap (λ (n : ℕ). n ∷ take (length text - 1) (drop 1 text)) x in
    subst (λ (t : List ℕ). IfNone c.hexadecimal_byte.result ((byte : ℕ) → (rest : List ℕ) → ¬ ShowsFirst (92 ∷ t) byte rest)) (sym whole) c.hexadecimal_byte.ensures.none

pub returns-in-92-clause-shown : goal.returns-in-92-clause-shown
returns-in-92-clause-shown c =
    let text = c.args.text.now in
    let marked : (get_or text 0 0 ≡ 39) ⊎ (get_or text 0 0 ≡ 92) = grind arith in
    after_first _ _ _ (ap (λ (t : List ℕ). 92 ∷ t) (first_and_rest text c.in-92.len_at_least), marked)
