-- The rows are packed again.
use Rattle.std.proofs.Common.{◌≡◌, ℕ, ◌<◌, ◌^◌, inl, inr, List, [], ◌∷◌, ◌++◌, length, Option, Ok, refl, ap, ◌∙◌, arith}
use Rattle.std.specs.Prelude.{filter}
use Rattle.std.specs.List.{AllByRecursion}
use Rattle.std.proofs.lemmas.Bool.{cases_Bool}
use Rattle.fork_bytes.specs.Rows.{Row}
use Rattle.fork_list.specs.Listing.{is_chosen}
use Rattle.fork_folder.specs.Unpacked.{file_of, files_from, types_of, unpacked}
use Rattle.fork_folder.specs.Laws.{IsNamed}
use Rattle.fork_folder.proofs.Apart.{all_known, own_paths}
use Rattle.fork_folder.specs.Packed.{before, packed, with_row}
use Rattle.fork_folder.specs.PackedAgain.{entries_from, entry_of, folder_with, manifest}
use Rattle.fork_folder.proofs.Found.{IsIn, all_found}

-- the rows of a folder that has their files
rows_again : (folder : List ℕ → Option (List ℕ)) (types kinds : List (List ℕ)) (done rows : List Row) → AllByRecursion (IsIn folder) (files_from types kinds done rows)
    → packed folder (entries_from types kinds done rows) ≡ Ok (filter (λ row. is_chosen kinds row.kind) rows)
rows_again folder types kinds done [] all = refl
rows_again folder types kinds done (row ∷ rows) all =
    elim (cases_Bool (is_chosen kinds row.kind)) [
      | inl chosen ↦ rw chosen (ap (λ (o : Option (List ℕ)). with_row (entry_of row (file_of types done row)) o (packed folder (entries_from types kinds (done ++ row ∷ []) rows))) (rw chosen at all).0
          ∙ ap (before row) (rows_again folder types kinds (done ++ row ∷ []) rows (rw chosen at all).1))
      | inr other ↦ rw other (rows_again folder types kinds (done ++ row ∷ []) rows (rw other at all))
    ]

pub packed_again : (kinds : List (List ℕ)) (rows : List Row) → AllByRecursion IsNamed rows → length rows < 2 ^ 32
    → packed (folder_with (unpacked kinds rows)) (manifest kinds rows) ≡ Ok (filter (λ row. is_chosen kinds row.kind) rows)
packed_again kinds rows named few =
    rows_again (folder_with (unpacked kinds rows)) (types_of rows) kinds [] rows
    (all_found (unpacked kinds rows) (own_paths (types_of rows) kinds [] rows (all_known rows named) (omega arith)))
