use Rattle.std.proofs.Common.{◌≡◌, ℕ, ◌-◌, ◌∷◌, List, take, drop, length, get_or, subst, sym, ap, ◌∙◌, IfNone, arith}
use Rattle.fork_list.specs.Kind.{ShowsFirst}
use Rattle.fork_list.proofs.Written.{plain_first, first_and_rest}
use Rattle.fork_list.proofs.kind.first_byte.Goals as goal

pub returns-in-92-clause-none : goal.returns-in-92-clause-none
returns-in-92-clause-none c =
    let text = c.args.text.now in
    let backslash : get_or text 0 0 ≡ 92 = omega arith in
    let whole : text ≡ 92 ∷ take (length text - 1) (drop 1 text) = first_and_rest text c.in-92.len_at_least ∙ ap (λ (n : ℕ). n ∷ take (length text - 1) (drop 1 text)) backslash in
    subst (λ (t : List ℕ). IfNone c.escaped_byte.result ((byte : ℕ) → (rest : List ℕ) → ¬ ShowsFirst t byte rest)) (sym whole) c.escaped_byte.ensures.none

pub returns-in-32-to-126-clause-shown : goal.returns-in-32-to-126-clause-shown
returns-in-32-to-126-clause-shown c =
    plain_first _ _ _ (first_and_rest c.args.text.now c.in-32-to-126.len_at_least, omega arith, omega arith, omega arith, omega arith, omega arith)

pub returns-in-128-to-255-clause-shown : goal.returns-in-128-to-255-clause-shown
returns-in-128-to-255-clause-shown c =
    plain_first _ _ _ (first_and_rest c.args.text.now c.in-128-to-255.len_at_least, omega arith, omega arith, omega arith, omega arith, omega arith)
