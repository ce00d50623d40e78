use Rattle.std.proofs.Common.{◌≡◌, ◌∙◌, ℕ, ◌-◌, ◌∷◌, List, take, drop, length, get_or, subst, sym, ap, IfNone, arith}
use Rattle.fork_list.specs.Names.{NamesFirst}
use Rattle.fork_list.proofs.Written.{first_and_rest}
use Rattle.fork_list.proofs.name.first_byte.Goals as goal

pub returns-in-92-clause-none : goal.returns-in-92-clause-none
returns-in-92-clause-none c =
    let text = c.args.text.now in
    let backslash : get_or text 0 0 ≡ 92 = omega arith in
    let whole : text ≡ 92 ∷ take (length text - 1) (drop 1 text) = first_and_rest text c.in-92.len_at_least ∙ ap (λ (n : ℕ). n ∷ take (length text - 1) (drop 1 text)) backslash in
    subst (λ (t : List ℕ). IfNone c.escaped_byte.result ((byte : ℕ) → (rest : List ℕ) → ¬ NamesFirst t byte rest)) (sym whole) c.escaped_byte.ensures.none
