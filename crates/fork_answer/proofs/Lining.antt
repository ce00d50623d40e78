-- What is made of items, lines among it, one item further.
use Rattle.std.proofs.Common.{◌≡◌, ℕ, zero, suc, List, [], ◌∷◌, ◌++◌, take, refl, subst, sym, ap, ◌∙◌, append_assoc}
use Rattle.std.specs.List.{flat_map}
use Rattle.std.proofs.lemmas.List.{append-nil}
use Rattle.fork_salvage.specs.declared.salvage.Item.{Item}

pub lines_step : {A : Type 0} (f : Item → List A) (text : List A) (n m : ℕ) (items rest : List Item) (item : Item) (whole : List A) → n ≡ suc m → items ≡ item ∷ rest →
    text ++ flat_map f (take n items) ≡ whole → (text ++ f item) ++ flat_map f (take m rest) ≡ whole
lines_step f text n m items rest item whole more is so_far =
    let P : ℕ → Type 0 = λ k. text ++ flat_map f (take k items) ≡ whole in
    let Q : List Item → Type 0 = λ all. text ++ flat_map f (take (suc m) all) ≡ whole in
    append_assoc text (f item) (flat_map f (take m rest)) ∙ subst Q is (subst P more so_far)

none_taken : {A : Type 0} (n : ℕ) (f : Item → List A) → flat_map f (take n []) ≡ []
none_taken zero f = refl
none_taken (suc n) f = refl

pub lines_none : {A : Type 0} (f : Item → List A) (text : List A) (n : ℕ) (items : List Item) (whole : List A) → items ≡ [] →
    text ++ flat_map f (take n items) ≡ whole → text ≡ whole
lines_none {A} f text n items whole is so_far =
    let Q : List Item → Type 0 = λ all. text ++ flat_map f (take n all) ≡ whole in
    sym (append-nil text) ∙ ap (λ (t : List A). text ++ t) (sym (none_taken n f)) ∙ subst Q is so_far

pub lines_end : {A : Type 0} (f : Item → List A) (text : List A) (n : ℕ) (items : List Item) (whole : List A) → n ≡ 0 →
    text ++ flat_map f (take n items) ≡ whole → text ≡ whole
lines_end f text n items whole is so_far =
    let P : ℕ → Type 0 = λ k. text ++ flat_map f (take k items) ≡ whole in sym (append-nil text) ∙ subst P is so_far
