-- Lines, one row or one byte further.
use Rattle.std.proofs.Common.{◌≡◌, ℕ, ◌<◌, ◌≤◌, ◌+◌, Bool, List, [], ◌∷◌, ◌++◌, drop, length, subst, sym, ap, ◌∙◌, append_assoc}
use Rattle.std.specs.Prelude.{◌==◌, if◌then◌else◌}
use Rattle.std.specs.List.{flat_map}
use Rattle.std.proofs.lemmas.List.{append-nil, drop_all, drop_more}
use Rattle.fork_bytes.proofs.Steps.{drop_item}
use Rattle.std.proofs.Math.ListN.{get_or}
use Rattle.fork_report.specs.Paths.{lines_after}

pub row_step : {A : Type 0} (f : A → List ℕ) (text : List ℕ) (rows : List A) (i : ℕ) (row : A) (whole : List ℕ) → i < length rows → row ≡ get_or rows i row
    → text ++ flat_map f (drop i rows) ≡ whole → (text ++ f row) ++ flat_map f (drop (i + 1) rows) ≡ whole
row_step {A} f text rows i row whole within is so_far =
    let Q : List A → Type 0 = λ all. text ++ flat_map f all ≡ whole in
    append_assoc text (f row) (flat_map f (drop (i + 1) rows)) ∙ subst Q (drop_item rows i row within is) so_far

pub row_end : {A : Type 0} (f : A → List ℕ) (text : List ℕ) (rows : List A) (i : ℕ) (whole : List ℕ) → length rows ≤ i
    → text ++ flat_map f (drop i rows) ≡ whole → text ≡ whole
row_end {A} f text rows i whole past so_far =
    let Q : List A → Type 0 = λ all. text ++ flat_map f all ≡ whole in
    sym (append-nil text) ∙ subst Q (drop_all i rows past) so_far

pub byte_step : (front all : List ℕ) (begins : Bool) (text : List ℕ) (i d : ℕ) (whole : List ℕ) → i < length text
    → all ++ lines_after front begins (drop i text) ≡ whole
    → (all ++ ((if begins then front else []) ++ get_or text i d ∷ [])) ++ lines_after front (get_or text i d == 10) (drop (i + 1) text) ≡ whole
byte_step front all begins text i d whole within so_far =
    let Q : List ℕ → Type 0 = λ rest. all ++ lines_after front begins rest ≡ whole in
    let before = if begins then front else [] in
    let after = lines_after front (get_or text i d == 10) (drop (i + 1) text) in
    append_assoc all (before ++ get_or text i d ∷ []) after ∙ ap (λ (t : List ℕ). all ++ t) (append_assoc before (get_or text i d ∷ []) after)
    ∙ subst Q (drop_more text i d within) so_far

pub byte_end : (front all : List ℕ) (begins : Bool) (text : List ℕ) (i : ℕ) (whole : List ℕ) → length text ≤ i
    → all ++ lines_after front begins (drop i text) ≡ whole → all ≡ whole
byte_end front all begins text i whole past so_far =
    let Q : List ℕ → Type 0 = λ rest. all ++ lines_after front begins rest ≡ whole in
    sym (append-nil all) ∙ subst Q (drop_all i text past) so_far
