-- Words that are cut at a colon, and what was asked of what is before it.
use Rattle.std.proofs.Common.{◌≡◌, ◌≢◌, suc, ◌+◌, ◌∷◌, ◌++◌, ◌∙◌, ℕ, Bool, true, false, List, take, drop, slice_index, inr, sym, ap, subst, add-one}
use Rattle.std.specs.Prelude.{◌==◌}
use Rattle.std.proofs.Math.Seq.{drop-cons}
use Rattle.std.proofs.lemmas.Bool.{ne_eqb}
use Rattle.std.proofs.lemmas.List.{take-append-drop}
use Rattle.file_acts.specs.Acts.{Log, ReadsOnly}
use Rattle.file_acts.specs.declared.acts.Act.TheVariants as act
use Rattle.host_paths.specs.declared.host.Answer.{Answer}
use Rattle.image_acts.specs.Places.{IsCutAt, NoneAt, NoneBefore, Place, is_file}
use Rattle.image_acts.specs.Words.{IsNamedBy, ReadsWord}

-- no colon is there
pub none_here : (word : List ℕ) (at : ℕ) (old new : Log) → slice_index word at ≢ 58 → NoneBefore word at old new → NoneBefore word (at + 1) old new
none_here word at old new other before =
    subst (λ (n : ℕ). NoneBefore word n old new) (sym (add-one at))
    (subst (λ (is : Bool). NoneAt is (take at word) (NoneBefore word at old) new) (sym (ne_eqb (slice_index word at) 58 other)) before)

-- a colon is there, and no file before it
pub none_more : (word : List ℕ) (at : ℕ) (place : Place) (old mid new : Log) (answer : Answer) → IsCutAt word at place → NoneBefore word at old mid →
    new ≡ act.Asked place.image answer ∷ mid → is_file answer ≡ false → NoneBefore word (at + 1) old new
none_more word at place old mid new answer cut before asked none =
    let colon : (slice_index word at == 58) ≡ true = ap (λ (n : ℕ). n == 58) cut.colon in
    let same : new ≡ act.Asked (take at word) answer ∷ mid = asked ∙ ap (λ (image : List ℕ). act.Asked image answer ∷ mid) cut.image in
    subst (λ (n : ℕ). NoneBefore word n old new) (sym (add-one at))
    (subst (λ (is : Bool). NoneAt is (take at word) (NoneBefore word at old) new) (sym colon) (answer, mid, before, same, none))

-- the image of a place is one that the word names
pub named_cut : (word : List ℕ) (at : ℕ) (place : Place) → IsCutAt word at place → IsNamedBy word place.image
named_cut word at place cut = inr (drop (at + 1) word, whole)
  where
    rest : drop at word ≡ 58 ∷ drop (at + 1) word
    rest = rw add-one (drop-cons word at 0 cut.within ∙ ap (λ (n : ℕ). n ∷ drop (suc at) word) cut.colon)

    whole : word ≡ place.image ++ 58 ∷ drop (at + 1) word
    whole = sym (take-append-drop at word) ∙ ap (λ (tail : List ℕ). take at word ++ tail) rest ∙ ap (λ (image : List ℕ). image ++ 58 ∷ drop (at + 1) word) (sym cut.image)

-- a file was read that the word names
pub reads_more : (word path : List ℕ) (old mid new : Log) → IsNamedBy word path → ReadsWord word old mid → ReadsOnly path mid new → ReadsWord word old new
reads_more word path old mid new named reads only = λ paths may before. only paths (may.each path named) (reads paths may before)
