-- Files with the same places: they differ in the bytes of their rows alone, and not in how many these are.
use Rattle.std.proofs.Common.{◌≡◌, refl, sym, ap, ◌∙◌, ℕ, Bool, true, false, List, [], ◌∷◌, map, IsTrue}
use Rattle.mac_base.specs.HandleTable.{zeros}
use Rattle.fork_bytes.specs.declared.place.Place.{Place}
use Rattle.res_table.specs.declared.row.Row.{Row}
use Rattle.res_table.specs.declared.chain.OpenFile.{OpenFile}
use Rattle.res_table.specs.OpenFiles.{OpenFiles}
use Rattle.res_update.specs.Answered.{known_row, known_file, known_files}
use Rattle.res_update.specs.Changes.{Files, FileRow}
use Rattle.res_update.specs.Placed.{row_on, rows_on}
use Rattle.res_update.proofs.PlaceBytes.{length-on}
use Rattle.res_files.specs.Standing.{fork_at, file_on, files_on}

row_unknown : (fork other : List ℕ) (r : Row Place) → known_row false (row_on fork r) ≡ known_row false (row_on other r)
row_unknown fork other r =
    ap (λ (n : ℕ). let row : FileRow = record { resource = record { kind = r.resource.kind; id = r.resource.id; name = r.resource.name; attributes = r.resource.attributes; datum = zeros n }; handle = r.handle } in row)
    (length-on fork r.resource.datum ∙ sym (length-on other r.resource.datum))

rows_unknown : (fork other : List ℕ) (rows : List (Row Place)) → map (known_row false) (rows_on fork rows) ≡ map (known_row false) (rows_on other rows)
rows_unknown fork other [] = refl
rows_unknown fork other (r ∷ rows) =
    ap (λ (row : FileRow). row ∷ map (known_row false) (rows_on fork rows)) (row_unknown fork other r)
    ∙ ap (λ (rs : List FileRow). known_row false (row_on other r) ∷ rs) (rows_unknown fork other rows)

rows_known : (b : Bool) (fork other : List ℕ) (rows : List (Row Place)) → (IsTrue b → fork ≡ other) → map (known_row b) (rows_on fork rows) ≡ map (known_row b) (rows_on other rows)
rows_known true fork other rows same = ap (λ (bytes : List ℕ). map (known_row true) (rows_on bytes rows)) (same refl)
rows_known false fork other rows same = rows_unknown fork other rows

module _ (known : ℕ → Bool) (forks others : List (List ℕ)) (same : (k : ℕ) → IsTrue (known k) → fork_at forks k ≡ fork_at others k) where
  each_known : (files : List (OpenFile Place)) → map (known_file known) (map (file_on forks) files) ≡ map (known_file known) (map (file_on others) files)
  each_known [] = refl
  each_known (file ∷ files) =
      ap (λ (rows : List FileRow). let here : OpenFile (List ℕ) = record { number = file.number; table = record { rows = rows; extra = file.table.extra; map_attributes = file.table.map_attributes } } in here ∷ map (known_file known) (map (file_on forks) files))
      (rows_known (known file.number) (fork_at forks file.number) (fork_at others file.number) file.table.rows (same file.number))
      ∙ ap (λ (rest : List (OpenFile (List ℕ))). known_file known (file_on others file) ∷ rest) (each_known files)

  -- the files are the same, where the forks of those that are known are
  pub same_known : (chain : OpenFiles Place) → known_files known (files_on forks chain) ≡ known_files known (files_on others chain)
  same_known chain =
      ap (λ (files : List (OpenFile (List ℕ))). let all : Files = record { files = files; current = chain.current } in all) (each_known chain.files)
