-- The first name with which a path names nothing.
use Rattle.std.proofs.Common.{◌≡◌, ℕ, ◌+◌, ◌<◌, ◌==◌, Bool, true, false, List, [], ◌∷◌, length, Ok, map, take, Option, None, Some, sym, ap, ◌∙◌, refl, arith}
use Rattle.std.specs.Prelude.{is_some}
use Rattle.std.specs.Global.{Vec}
use Rattle.std.proofs.Math.Seq.{take-length}
use Rattle.std.proofs.lemmas.List.{length-map, take-map}
use Rattle.volume_names.specs.Paths.{items_of}
use Rattle.image_files.specs.declared.files.Files.{Files}
use Rattle.image_files.specs.declared.found.Found.{Found}
use Rattle.image_files.specs.Finding.{FindsIn, IsMissing, found_at, thing_named}

none_of : {T : Type 0} (o : Option T) → is_some o ≡ false → o ≡ None
none_of (Some x) is = absurd cc
none_of None is = refl

module _ (files : Files) (names : List (Vec ℕ)) where
  named_as : (count : ℕ) (found : Option ℕ) → found ≡ thing_named files (map items_of (take count names)) → found ≡ thing_named files (take count (map items_of names))
  named_as count found is = is ∙ ap (thing_named files) (sym (take-map items_of count names))

  -- they lead to something
  pub one_more : (count : ℕ) (found : Option ℕ) → found ≡ thing_named files (map items_of (take count names)) → is_some found ≡ true
      → is_some (thing_named files (take count (map items_of names))) ≡ true
  one_more count found is some = ap (λ (o : Option ℕ). is_some o) (sym (named_as count found is)) ∙ some

  -- or to nothing, and those before them to something
  pub missing_at : (count last : ℕ) (found : Option ℕ) → count ≡ last + 1 → thing_named files (map items_of names) ≡ None → last < length names
      → found ≡ thing_named files (map items_of (take count names)) → is_some found ≡ false
      → ((k : ℕ) → 0 < k → k < count → is_some (thing_named files (take k (map items_of names))) ≡ true) → IsMissing files (map items_of names) last
  missing_at count last found one whole at is none before = record {
    whole = whole;
    some = let same : length (map items_of names) ≡ length names = length-map names items_of in omega arith;
    here = ap (λ (n : ℕ). thing_named files (take n (map items_of names))) (sym one) ∙ sym (named_as count found is) ∙ none_of found none;
    before = λ k pos le. before k pos (omega arith);
  }

  -- all but the last one lead to something
  pub missing_last : (last : ℕ) → length names ≡ last + 1 → thing_named files (map items_of names) ≡ None
      → ((k : ℕ) → 0 < k → k < length names → is_some (thing_named files (take k (map items_of names))) ≡ true) → IsMissing files (map items_of names) last
  missing_last last one whole before = record {
    whole = whole;
    some = let same : length (map items_of names) ≡ length names = length-map names items_of in omega arith;
    here = ap (thing_named files) all ∙ whole;
    before = λ k pos le. before k pos (omega arith);
  }
    where
      many : last + 1 ≡ length (map items_of names)
      many = sym one ∙ sym (length-map names items_of)

      all : take (last + 1) (map items_of names) ≡ map items_of names
      all = ap (λ (n : ℕ). take n (map items_of names)) many ∙ take-length (map items_of names)

-- a path of some names leads to a thing
pub finds_thing : (number : ℕ) (files : Files) (before : ℕ) (names : List (Vec ℕ)) (empty : Bool) (thing : ℕ) (found : Found) → empty ≡ (length names == 0) → empty ≡ false
    → thing_named files (map items_of names) ≡ Some thing → found ≡ found_at number files thing → FindsIn number files before (map items_of names) (Ok found)
finds_thing number files before [] empty thing found is fails named at = absurd cc
finds_thing number files before (name ∷ names) empty thing found is fails named at = (thing, named, at)
