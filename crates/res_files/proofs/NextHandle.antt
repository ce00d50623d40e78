-- The next row with a handle: in the rows with places, and in those that are seen.
use Rattle.std.proofs.Common.{◌≡◌, refl, sym, ap, ◌∙◌, subst, arith, ℕ, zero, suc, ◌+◌, ◌-◌, ◌≤◌, List, [], ◌∷◌, ◌++◌, length, map, take, drop, slice_get, Bool, Option, None, Some, IfSome, IfNone, All}
use Rattle.std.specs.Option.{option_map, option_map_or}
use Rattle.std.proofs.lemmas.List.{length-map, length-drop, take_all}
use Rattle.std.proofs.lemmas.List.Elements.{All-cons, All-nil, All-head, All-tail}
use Rattle.std.proofs.lemmas.Option.{same_Some}
use Rattle.fork_bytes.specs.declared.place.Place.{Place}
use Rattle.res_table.specs.declared.row.Row.{Row}
use Rattle.res_table.specs.declared.chain.ResourceTable.{ResourceTable}
use Rattle.res_table.specs.OpenFiles.{OpenFiles, table_of}
use Rattle.res_update.specs.Changes.{FileRow, FileTable, rows_of, rows_in}
use Rattle.res_files.specs.FilesOn.{FilesOn}
use Rattle.res_files.proofs.Mapped.{mapped_row, mapped_rows, mapped_table, table-mapped, drop-mapped, append-mapped}
use Rattle.res_files.proofs.On.{seen, bytes_in, asked}

-- a row has no handle
abbrev pub HasNone : {D : Type 0} → Row D → Type 0
HasNone r = r.handle ≡ None

-- this is the first row with a handle from an index on
abbrev pub IsNext : {D : Type 0} → ℕ → List (Row D) → ℕ × ℕ → Type 0
IsNext {D} from rows found = (before : List (Row D)) × (r : Row D) × (after : List (Row D))
    × (drop from rows ≡ before ++ r ∷ after) × All HasNone before × (r.handle ≡ Some found.1) × (found.0 ≡ from + length before)

get_dropped : {X : Type 0} (from n : ℕ) (xs : List X) → slice_get (drop from xs) n ≡ slice_get xs (from + n)
get_dropped zero n xs = ap (slice_get xs) (let e : n ≡ 0 + n = omega arith in e)
get_dropped (suc from) n [] = refl
get_dropped (suc from) n (x ∷ xs) = get_dropped from n xs ∙ ap (slice_get (x ∷ xs)) (let e : suc (from + n) ≡ suc from + n = omega arith in e)

parted : {X : Type 0} (xs : List X) (n : ℕ) (x : X) → slice_get xs n ≡ Some x → (xs ≡ take n xs ++ x ∷ drop (suc n) xs) × (length (take n xs) ≡ n)
parted [] n x is = absurd (cc is)
parted (y ∷ ys) zero x is = (ap (λ z. z ∷ ys) (same_Some y x is), refl)
parted (y ∷ ys) (suc n) x is = let deeper = parted ys n x is in (ap (λ (zs : List _). y ∷ zs) deeper.0, ap suc deeper.1)

all_more : {X : Type 0} (P : X → Type 0) (xs : List X) (n : ℕ) (x : X) → slice_get xs n ≡ Some x → P x → All P (take n xs) → All P (take (suc n) xs)
all_more P [] n x is mine all = absurd (cc is)
all_more P (y ∷ ys) zero x is mine all = All-cons P y [] (subst P (sym (same_Some y x is)) mine) (All-nil P)
all_more P (y ∷ ys) (suc n) x is mine all = All-cons P y (take (suc n) ys) (All-head P y (take n ys) all) (all_more P ys n x is mine (All-tail P y (take n ys) all))

module _ (rows : List (Row Place)) (from at : ℕ) (low : from ≤ at) (none : All HasNone (take (at - from) (drop from rows))) where
  here : (r : Row Place) → slice_get rows at ≡ Some r → slice_get (drop from rows) (at - from) ≡ Some r
  here r is = get_dropped from (at - from) rows ∙ ap (slice_get rows) (let e : from + (at - from) ≡ at = omega (arith, low) in e) ∙ is

  -- the row at the index is the next, if it has a handle
  pub is_next : (r : Row Place) (h : ℕ) → slice_get rows at ≡ Some r → r.handle ≡ Some h → IsNext from rows (at, h)
  is_next r h is has =
      let parts = parted (drop from rows) (at - from) r (here r is) in
      (take (at - from) (drop from rows), r, drop (suc (at - from)) (drop from rows), parts.0, none, has, omega (arith, low, parts.1))

  -- if it has none, one row more has none
  pub one_more : (r : Row Place) → slice_get rows at ≡ Some r → r.handle ≡ None → All HasNone (take ((at + 1) - from) (drop from rows))
  one_more r is has_none =
      let next : suc (at - from) ≡ (at + 1) - from = omega (arith, low) in
      subst (λ (n : ℕ). All HasNone (take n (drop from rows))) next (all_more HasNone (drop from rows) (at - from) r (here r is) has_none none)

  -- at the end none has one
  pub none_left : length rows ≤ at → All HasNone (drop from rows)
  none_left past =
      let long = length-drop from rows in
      subst (λ (rest : List (Row Place)). All HasNone rest) (take_all (at - from) (drop from rows) (omega (arith, long, past, low))) none

all_mapped : {D E : Type 0} (f : D → E) (rows : List (Row D)) → All HasNone rows → All HasNone (mapped_rows f rows)
all_mapped f [] all = All-nil HasNone
all_mapped f (r ∷ rows) all = All-cons HasNone (mapped_row f r) (mapped_rows f rows) (All-head HasNone r rows all) (all_mapped f rows (All-tail HasNone r rows all))

module _ {S : Type 0} (fork : S → List ℕ) (chain : OpenFiles Place) (loads : Bool) (stores : List S) (now : FilesOn S) (view_is : seen fork chain loads stores ≡ now) (k : ℕ) where
  -- the rows that are seen of a file
  pub rows_seen : (found : Option (ResourceTable Place)) → table_of k chain ≡ found → mapped_rows (bytes_in (map fork stores) k) (option_map_or (λ (table : ResourceTable Place). table.rows) found []) ≡ rows_of k now.files
  rows_seen found is =
      asked fork chain loads stores now view_is (rows_of k) (mapped_rows (bytes_in (map fork stores) k) (option_map_or (λ (table : ResourceTable Place). table.rows) found []))
      (sym (ap (λ (found : Option FileTable). option_map_or rows_in found []) (table-mapped (bytes_in (map fork stores)) k chain.files ∙ ap (option_map (mapped_table (bytes_in (map fork stores) k))) is) ∙ by found))
    where
      by : (found : Option (ResourceTable Place)) → option_map_or rows_in (option_map (mapped_table (bytes_in (map fork stores) k)) found) []
          ≡ mapped_rows (bytes_in (map fork stores) k) (option_map_or (λ (table : ResourceTable Place). table.rows) found [])
      by None = refl
      by (Some table) = refl

  -- the next handle of a table is that of the rows that are seen
  pub next_seen : (table : ResourceTable Place) → table_of k chain ≡ Some table → (from : ℕ) (result : Option (ℕ × ℕ)) → IfSome result (IsNext from table.rows) → IfSome result (IsNext from (rows_of k now.files))
  next_seen table is from None next = tt
  next_seen table is from (Some found) next =
      let g = bytes_in (map fork stores) k in
      let before = next.0 in let r = next.1 in let after = next.2 in
      let parts : drop from (mapped_rows g table.rows) ≡ mapped_rows g before ++ mapped_row g r ∷ mapped_rows g after =
      drop-mapped (mapped_row g) from table.rows ∙ ap (mapped_rows g) next.3 ∙ sym (append-mapped (mapped_row g) before (r ∷ after)) in
      let long = length-map before (mapped_row g) in let at = next.6 in
      subst (λ (rows : List FileRow). IsNext from rows found) (rows_seen (Some table) is)
      (mapped_rows g before, mapped_row g r, mapped_rows g after, parts, all_mapped g before next.4, next.5, omega (arith, long, at))

  -- none of a table is none of them
  pub none_seen : (table : ResourceTable Place) → table_of k chain ≡ Some table → (from : ℕ) (result : Option (ℕ × ℕ)) → IfNone result (All HasNone (drop from table.rows)) → IfNone result (All HasNone (drop from (rows_of k now.files)))
  none_seen table is from (Some found) none = tt
  none_seen table is from None none =
      let g = bytes_in (map fork stores) k in
      subst (λ (rows : List FileRow). All HasNone (drop from rows)) (rows_seen (Some table) is)
      (subst (λ (rows : List FileRow). All HasNone rows) (sym (drop-mapped (mapped_row g) from table.rows)) (all_mapped g (drop from table.rows) none))

  -- a file that isn't open has none
  pub closed_seen : table_of k chain ≡ None → (from : ℕ) → All HasNone (drop from (rows_of k now.files))
  closed_seen is from = subst (λ (rows : List FileRow). All HasNone (drop from rows)) (rows_seen None is) (by from)
    where
      none : List FileRow
      none = []

      by : (from : ℕ) → All HasNone (drop from none)
      by zero = All-nil HasNone
      by (suc from) = All-nil HasNone
