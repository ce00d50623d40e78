-- Files that words name.
use Rattle.std.proofs.Common.{◌≡◌, ℕ, true, List, Option, None, Some, refl, ap, ◌∙◌}
use Rattle.std.specs.Prelude.{is_some, option_map}
use Rattle.std.specs.Borrow.{Bor}

-- what has a name is there
pub named_some : (found : Option (Bor (List ℕ))) (name : Option (List ℕ)) → option_map (λ it. it.now) found ≡ name → is_some name ≡ true → is_some found ≡ true
named_some None name is some = ap is_some is ∙ some
named_some (Some it) name is some = refl

-- and only that
pub named_same : (found : Option (Bor (List ℕ))) (name : Option (List ℕ)) → option_map (λ it. it.now) found ≡ name → is_some found ≡ is_some name
named_same None name is = ap is_some is
named_same (Some it) name is = ap is_some is
