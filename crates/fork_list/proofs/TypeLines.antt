-- The lines of types, one row further.
use Rattle.std.proofs.Common.{◌≡◌, ℕ, suc, ◌+◌, ◌<◌, List, ◌∷◌, ◌++◌, length, get_or, drop, Option, Some, add-one, append_assoc, sym, ap, ◌∙◌}
use Rattle.std.proofs.Math.Seq.{drop-cons}
use Rattle.mac_base.specs.declared.resource.Resource.{Resource}
use Rattle.fork_list.specs.declared.letters.Letters.{Letters}
use Rattle.fork_list.specs.Types.{type_line, type_lines}

pub one_more : {X : Type 0} (letters : Letters) (kinds : List (List ℕ)) (all : List (Resource X)) (before : Option (List ℕ)) (done whole : List ℕ) (rows : List (Resource X)) (i : ℕ) (row : Resource X)
    → i < length rows → get_or rows i row ≡ row → done ++ type_lines letters kinds all before (drop i rows) ≡ whole
    → (done ++ type_line letters kinds all before row.kind) ++ type_lines letters kinds all (Some row.kind) (drop (i + 1) rows) ≡ whole
one_more {X} letters kinds all before done whole rows i row within is so_far =
    let next : drop i rows ≡ row ∷ drop (i + 1) rows = rw add-one (drop-cons rows i row within ∙ ap (λ (r : Resource X). r ∷ drop (suc i) rows) is) in
    append_assoc done (type_line letters kinds all before row.kind) (type_lines letters kinds all (Some row.kind) (drop (i + 1) rows))
    ∙ ap (λ (rest : List (Resource X)). done ++ type_lines letters kinds all before rest) (sym next)
    ∙ so_far
