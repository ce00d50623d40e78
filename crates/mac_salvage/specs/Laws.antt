-- What is true of files that are read in spite of faults.
use Rattle.std.specs.Prelude.{◌≡◌, ℕ, ◌||◌, true, List, [], ◌∷◌, ◌++◌, length, Option, option_map, Ok}
use Rattle.std.specs.List.{list_all}
use Rattle.mac_files.specs.BinHex.{is_skipped}
use Rattle.mac_files.specs.OldFiles.{Said, old_file}
use Rattle.mac_salvage.specs.InSpite.{Left, forks_in_spite}
use Rattle.mac_salvage.specs.Texts.{is_digit, mended}

-- the resource fork of a file without a fault is the one that is read elsewhere
abbrev pub WholeIsKept : Type 0
WholeIsKept = (file : List ℕ) (said : Said) → old_file file ≡ Ok said
    → option_map (λ (left : Left). left.bytes) (forks_in_spite file).resource_fork ≡ said.resource_fork

-- a text without wrong characters, up to the colon that closes it, is read as it is
abbrev pub GoodTextIsKept : Type 0
GoodTextIsKept = (text : List ℕ) → list_all (λ c. is_digit c || is_skipped c) text ≡ true
    → mended (text ++ 58 ∷ []) ≡ text ++ 58 ∷ []

-- no character changes its place
abbrev pub PlacesAreKept : Type 0
PlacesAreKept = (text : List ℕ) → length (mended text) ≡ length text
