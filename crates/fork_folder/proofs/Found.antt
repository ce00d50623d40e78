-- Each file is found by its path.
use Rattle.std.proofs.Common.{◌≡◌, ℕ, false, List, [], ◌∷◌, inl, inr, refl, ap, ◌∙◌, Option, Some}
use Rattle.std.specs.Prelude.{bytes_eq, option_map}
use Rattle.std.specs.List.{AllByRecursion}
use Rattle.std.proofs.lemmas.Bool.{cond-true, cond-false, cases_Bool}
use Rattle.std.proofs.lemmas.Slice.Eq.{bytes_eq-Decides}
use Rattle.fork_folder.specs.Names.{folded}
use Rattle.fork_folder.specs.Unpacked.{Unpacked}
use Rattle.fork_folder.specs.Laws.{AreApart, HaveOwnPaths, path_of}
use Rattle.fork_folder.specs.PackedAgain.{folder_with}

-- a folder has the bytes of a file
abbrev pub IsIn : (List ℕ → Option (List ℕ)) → Unpacked → Type 0
IsIn folder file = folder (path_of file) ≡ Some file.bytes

-- the first file
first_found : (file : Unpacked) (files : List Unpacked) → IsIn (folder_with (file ∷ files)) file
first_found file files =
    ap (λ (o : Option Unpacked). option_map (λ f. f.bytes) o) (cond-true _ _ _ ((bytes_eq-Decides (path_of file) (path_of file)).1 refl))

-- a file after one of another path
later_found : (file other : Unpacked) (files : List Unpacked) → AreApart file other → IsIn (folder_with files) other → IsIn (folder_with (file ∷ files)) other
later_found file other files apart found =
    let differ : bytes_eq (path_of file) (path_of other) ≡ false = elim (cases_Bool (bytes_eq (path_of file) (path_of other))) [
      | inl same ↦ absurd (apart (ap folded ((bytes_eq-Decides (path_of file) (path_of other)).0 same)))
      | inr not ↦ not
    ] in
    ap (λ (o : Option Unpacked). option_map (λ f. f.bytes) o) (cond-false _ _ _ differ) ∙ found

all_later : (file : Unpacked) (files others : List Unpacked) → AllByRecursion (AreApart file) others → AllByRecursion (IsIn (folder_with files)) others → AllByRecursion (IsIn (folder_with (file ∷ files))) others
all_later file files [] apart found = tt
all_later file files (other ∷ others) apart found = (later_found file other files apart.0 found.0, all_later file files others apart.1 found.1)

-- all files
pub all_found : (files : List Unpacked) → HaveOwnPaths files → AllByRecursion (IsIn (folder_with files)) files
all_found [] own = tt
all_found (file ∷ files) own = (first_found file files, all_later file files files own.0 (all_found files own.1))
