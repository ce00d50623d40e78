-- Rows get the handles and the attributes that they had.
use Rattle.std.proofs.Common.{◌≡◌, ℕ, zero, suc, ◌+◌, ◌<◌, ◌≤◌, List, [], ◌∷◌, length, map, set, get_or, slice_get, Option, Some, None, refl, ap, ◌∙◌, arith}
use Rattle.std.specs.Option.{option_map_or}
use Rattle.fork_bytes.specs.declared.place.Place.{Place}
use Rattle.res_table.specs.declared.row.Row.{Row}
use Rattle.res_table.specs.Rows.{changed_at, with_attributes, with_handle}
use Rattle.row_image.specs.Images.{as_opened}

-- the first of these rows as they were, and the others as they are when a file is opened
abbrev pub restored : ℕ → List (Row Place) → List (Row Place)
restored zero rows = map as_opened rows
restored (suc i) [] = []
restored (suc i) (r ∷ rows) = r ∷ restored i rows

pub all_restored : (i : ℕ) (rows : List (Row Place)) → length rows ≤ i → restored i rows ≡ rows
all_restored zero [] past = refl
all_restored zero (r ∷ rows) past = absurd (omega arith)
all_restored (suc i) [] past = refl
all_restored (suc i) (r ∷ rows) past = ap (λ (rest : List (Row Place)). r ∷ rest) (all_restored i rows (omega arith))

pub length-restored : (i : ℕ) (rows : List (Row Place)) → length (restored i rows) ≡ length rows
length-restored zero [] = refl
length-restored zero (r ∷ rows) = ap suc (length-restored zero rows)
length-restored (suc i) [] = refl
length-restored (suc i) (r ∷ rows) = ap suc (length-restored i rows)

changed_after : (n : ℕ) (change : Row Place → Row Place) (r : Row Place) (rows : List (Row Place)) → changed_at (suc n) change (r ∷ rows) ≡ r ∷ changed_at n change rows
changed_after n change r rows = by (slice_get rows n)
  where
    by : (found : Option (Row Place)) → option_map_or (λ x. r ∷ set rows n (change x)) found (r ∷ rows) ≡ r ∷ option_map_or (λ x. set rows n (change x)) found rows
    by None = refl
    by (Some x) = refl

-- the row at an index gets its attributes and its handle
next : (i : ℕ) (r : Row Place) (rows : List (Row Place)) → i < length rows → r ≡ get_or rows i r
    → changed_at i (with_handle r.handle) (changed_at i (with_attributes r.resource.attributes) (restored i rows)) ≡ restored (suc i) rows
next i r [] within is = absurd (omega arith)
next zero r (x ∷ rows) within is = ap (λ (y : Row Place). y ∷ map as_opened rows) row
  where
    row : with_handle r.handle (with_attributes r.resource.attributes (as_opened x)) ≡ x
    row = ap (λ (y : Row Place). with_handle y.handle (with_attributes y.resource.attributes (as_opened x))) is
next (suc i) r (x ∷ rows) within is =
    ap (changed_at (suc i) (with_handle r.handle)) (changed_after i (with_attributes r.resource.attributes) x (restored i rows))
    ∙ changed_after i (with_handle r.handle) x (changed_at i (with_attributes r.resource.attributes) (restored i rows))
    ∙ ap (λ (rest : List (Row Place)). x ∷ rest) (next i r rows (omega arith) is)

pub next_restored : (i : ℕ) (r : Row Place) (rows : List (Row Place)) → i < length rows → r ≡ get_or rows i r
    → changed_at i (with_handle r.handle) (changed_at i (with_attributes r.resource.attributes) (restored i rows)) ≡ restored (i + 1) rows
next_restored i r rows within is = let more : suc i ≡ i + 1 = omega arith in next i r rows within is ∙ ap (λ (n : ℕ). restored n rows) more

pub long_changed : (i : ℕ) (change : Row Place → Row Place) (rows : List (Row Place)) → length (changed_at i change rows) ≡ length rows
long_changed i change [] = by (slice_get [] i)
  where
    by : (found : Option (Row Place)) → length (option_map_or (λ x. set [] i (change x)) found []) ≡ 0
    by None = refl
    by (Some x) = refl
long_changed zero change (r ∷ rows) = refl
long_changed (suc i) change (r ∷ rows) = ap (λ (xs : List (Row Place)). length xs) (changed_after i change r rows) ∙ ap suc (long_changed i change rows)
