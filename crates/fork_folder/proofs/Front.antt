-- Rows before others.
use Rattle.std.proofs.Common.{◌≡◌, List, [], ◌∷◌, ◌++◌, ℕ, Option, Some, None, Result, Ok, Err, map, refl, sym, ap, ◌∙◌, append_assoc}
use Rattle.fork_bytes.specs.Rows.{Row}
use Rattle.fork_folder.specs.declared.rows.Entry.{Entry}
use Rattle.fork_folder.specs.Packed.{before, listed, packed, row_with, with_row}

-- these rows before others, unless those lack a file
abbrev pub after_rows : List Row → Result (List Row) (List ℕ) → Result (List Row) (List ℕ)
after_rows front (Ok rows) = Ok (front ++ rows)
after_rows front (Err path) = Err path

-- one row more
row_before : (front : List Row) (row : Row) (rows : Result (List Row) (List ℕ)) → after_rows (front ++ row ∷ []) rows ≡ after_rows front (before row rows)
row_before front row (Ok rows) = ap (λ (rs : List Row). Ok rs) (append_assoc front (row ∷ []) rows)
row_before front row (Err path) = refl

module _ (folder : List ℕ → Option (List ℕ)) (front : List Row) (left after : List Entry) (entry : Entry) (total : Result (List Row) (List ℕ)) (left_is : left ≡ entry ∷ after)
    (is : after_rows front (packed folder (map listed left)) ≡ total) where
  -- what the entries that are left give, by the first one's file
  turn : (found : Option (List ℕ)) → folder (listed entry).file ≡ found → after_rows front (with_row (listed entry) found (packed folder (map listed after))) ≡ total
  turn found file =
      ap (λ (o : Option (List ℕ)). after_rows front (with_row (listed entry) o (packed folder (map listed after)))) (sym file)
      ∙ ap (λ (es : List Entry). after_rows front (packed folder (map listed es))) (sym left_is) ∙ is

  -- a file that is there
  pub goes_on : (bytes : List ℕ) → folder (listed entry).file ≡ Some bytes → after_rows (front ++ row_with (listed entry) bytes ∷ []) (packed folder (map listed after)) ≡ total
  goes_on bytes file = row_before front (row_with (listed entry) bytes) (packed folder (map listed after)) ∙ turn (Some bytes) file

  -- one that isn't
  pub lacks : folder (listed entry).file ≡ None → total ≡ Err (listed entry).file
  lacks file = sym (turn None file)
