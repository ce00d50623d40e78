-- The bytes that a new fork keeps are put to their places in the draft, and are read there again.
use Rattle.std.proofs.Common.{◌≡◌, refl, sym, ap, subst, ◌∙◌, arith, ℕ, suc, ◌+◌, ◌≤◌, List, [], ◌∷◌, ◌++◌, length, map, take, drop, replicate, Bool, true, false, if◌then◌else◌}
use Rattle.std.specs.Prelude.{All}
use Rattle.std.specs.List.{AllByRecursion}
use Rattle.std.proofs.lemmas.List.{length-append, length-replicate, append_assoc, take_at, drop_at}
use Rattle.std.proofs.lemmas.List.Elements.{All-from_recursion, recursion_from_All}
use Rattle.byteorder.specs.Endian.{big_bytes}
use Rattle.mac_base.specs.HandleTable.{HandleTable}
use Rattle.fork_bytes.specs.declared.table.Table.{Table}
use Rattle.fork_bytes.specs.Rows as forks
use Rattle.fork_bytes.specs.Fork.{max_fork}
use Rattle.fork_bytes.specs.Written.{data_text, header_for, header_text, front_text, map_text, written}
use Rattle.fork_bytes.proofs.Steps.{length-data, length-big_bytes}
use Rattle.fork_disk.specs.declared.update.Kept.{Kept}
use Rattle.fork_disk.specs.Disk.{put_at}
use Rattle.fork_disk.specs.Fork.{gathered}
use Rattle.fork_bytes.specs.declared.place.Place.{Place}
use Rattle.res_table.specs.declared.row.Row.{Row}
use Rattle.res_table.specs.declared.chain.ResourceTable.{ResourceTable}
use Rattle.res_table.specs.Saved.{saved_row}
use Rattle.res_update.specs.Changes.{FileRow, saved_table}
use Rattle.res_update.specs.Updates.{fits_fork}
use Rattle.res_update.specs.declared.selection.Selection.{Selection}
use Rattle.res_update.specs.Drafts.{is_selected, row_bytes, draft_bytes, rows_with, draft_table, fits_as_fork, new_places, kept_ranges, IsDraft}
use Rattle.res_update.specs.Placed.{bytes_on, table_on, AreInside, IsInside, IsNear}
use Rattle.res_update.specs.Selected.{updated}
use Rattle.res_update.proofs.PlaceBytes.{length-on, on-inside}
use Rattle.res_update.proofs.Saving.{new_bytes, final_bytes, final_table, final_is, same_bytes}
use Rattle.res_update.proofs.Shaping.{AreAlike, are_alike, written_with, same_count, same_length, same_fits, same_places}

-- the places of rows lie within a fork
abbrev pub EachInside : List ℕ → List (Row Place) → Type 0
EachInside fork rows = AllByRecursion (λ (r : Row Place). IsInside fork r.resource.datum) rows

pub each_inside : (fork : List ℕ) (rows : List (Row Place)) → AreInside fork rows → EachInside fork rows
each_inside fork rows inside = recursion_from_All (λ (r : Row Place). IsInside fork r.resource.datum) rows inside

-- bytes are put where others were
put_is : (at : ℕ) (before old bytes after : List ℕ) → length before ≡ at → length old ≡ length bytes → put_at at bytes (before ++ (old ++ after)) ≡ (before ++ bytes) ++ after
put_is at before old bytes after long short =
    let both = length-append before old in
    ap (λ (xs : List ℕ). (xs ++ bytes) ++ drop (at + length bytes) (before ++ (old ++ after))) (take_at before (old ++ after) at long)
    ∙ ap (λ (xs : List ℕ). (before ++ bytes) ++ drop (at + length bytes) xs) (sym (append_assoc before old after))
    ∙ ap (λ (xs : List ℕ). (before ++ bytes) ++ xs) (drop_at (before ++ old) after (at + length bytes) (omega arith))

-- what is before the bytes of the first row, and after them
regroup : (a b c d e : List ℕ) → a ++ (((b ++ c) ++ d) ++ e) ≡ ((a ++ b) ++ c) ++ (d ++ e)
regroup a b c d e = simp append_assoc

regroup_old : (a b c d e : List ℕ) → a ++ (((b ++ c) ++ d) ++ e) ≡ (a ++ b) ++ (c ++ (d ++ e))
regroup_old a b c d e = simp append_assoc

long_after : (start : ℕ) (before bytes : List ℕ) (n : ℕ) → length before ≡ start → length ((before ++ big_bytes 4 n) ++ bytes) ≡ start + 4 + length bytes
long_after start before bytes n long =
    let whole = length-append (before ++ big_bytes 4 n) bytes in
    let front = length-append before (big_bytes 4 n) in
    let four = length-big_bytes 4 n in omega arith

-- the kept bytes are put in one after the other
pub filled_is : (disk : List ℕ) (t : HandleTable) (s : Selection) (at start : ℕ) (before after : List ℕ) (rows : List (Row Place)) → length before ≡ start → EachInside disk rows
    → gathered disk (kept_ranges s at rows (new_places start (rows_with (draft_bytes t s) at rows))) (before ++ (data_text (rows_with (draft_bytes t s) at rows) ++ after))
    ≡ before ++ (data_text (rows_with (final_bytes disk t s) at rows) ++ after)
filled_is disk t s at start before after [] long inside = refl
filled_is disk t s at start before after (r ∷ rows) long inside =
    by (is_selected s at r) (λ next front here. filled_is disk t s (at + 1) next front after rows here inside.1)
  where
    drafted : List ℕ
    drafted = data_text (rows_with (draft_bytes t s) (at + 1) rows)

    final : List ℕ
    final = data_text (rows_with (final_bytes disk t s) (at + 1) rows)

    others : ℕ → List Kept
    others n = kept_ranges s (at + 1) rows (new_places (start + 4 + n) (rows_with (draft_bytes t s) (at + 1) rows))

    kept : Kept
    kept = record { from = r.resource.datum.offset; to = start + 4; length = r.resource.datum.length }

    by : (b : Bool)
        → ((next : ℕ) (front : List ℕ) → length front ≡ next
        → gathered disk (kept_ranges s (at + 1) rows (new_places next (rows_with (draft_bytes t s) (at + 1) rows))) (front ++ (drafted ++ after)) ≡ front ++ (final ++ after))
        → gathered disk (if b then others (length (row_bytes t b r)) else kept ∷ others (length (row_bytes t b r)))
        (before ++ (((big_bytes 4 (length (row_bytes t b r)) ++ row_bytes t b r) ++ drafted) ++ after))
        ≡ before ++ (((big_bytes 4 (length (new_bytes disk t b r)) ++ new_bytes disk t b r) ++ final) ++ after)
    by true filled =
        let bytes = row_bytes t true r in let n = length bytes in
        ap (gathered disk (others n)) (regroup before (big_bytes 4 n) bytes drafted after)
        ∙ filled (start + 4 + n) ((before ++ big_bytes 4 n) ++ bytes) (long_after start before bytes n long)
        ∙ sym (regroup before (big_bytes 4 n) bytes final after)
    by false filled =
        let zeros = row_bytes t false r in let n = length zeros in let bytes = new_bytes disk t false r in
        let short : n ≡ length bytes = length-replicate r.resource.datum.length 0 ∙ sym (length-on disk r.resource.datum) in
        let front : length (before ++ big_bytes 4 n) ≡ start + 4 = length-append before (big_bytes 4 n) ∙ (let four = length-big_bytes 4 n in omega arith) in
        let next : length ((before ++ big_bytes 4 n) ++ bytes) ≡ start + 4 + n = long_after start before bytes n long ∙ ap (λ (m : ℕ). start + 4 + m) (sym short) in
        ap (λ (kept_bytes : List ℕ). gathered disk (others n) (put_at (start + 4) kept_bytes (before ++ (((big_bytes 4 n ++ zeros) ++ drafted) ++ after)))) (sym (on-inside disk r.resource.datum inside.0))
        ∙ ap (λ (fork : List ℕ). gathered disk (others n) (put_at (start + 4) bytes fork)) (regroup_old before (big_bytes 4 n) zeros drafted after)
        ∙ ap (gathered disk (others n)) (put_is (start + 4) (before ++ big_bytes 4 n) zeros bytes (drafted ++ after) front short)
        ∙ filled (start + 4 + n) ((before ++ big_bytes 4 n) ++ bytes) next
        ∙ sym (regroup before (big_bytes 4 n) bytes final after)
        ∙ ap (λ (m : ℕ). before ++ (((big_bytes 4 m ++ bytes) ++ final) ++ after)) short

-- the bytes of rows are read at their places
pub read_is : (start : ℕ) (before after : List ℕ) (rows : List forks.Row) (whole : List ℕ) → length before ≡ start → whole ≡ before ++ (data_text rows ++ after)
    → map (bytes_on whole) (new_places start rows) ≡ map (λ (r : forks.Row). r.datum) rows
read_is start before after [] whole long is = refl
read_is start before after (r ∷ rows) whole long is =
    let n = length r.datum in let size = big_bytes 4 n in let rest = data_text rows ++ after in
    let next : whole ≡ ((before ++ size) ++ r.datum) ++ rest = is ∙ regroup before size r.datum (data_text rows) after in
    let front : length (before ++ size) ≡ start + 4 = length-append before size ∙ (let four = length-big_bytes 4 n in omega arith) in
    let here : bytes_on whole (record { offset = start + 4; length = n }) ≡ r.datum =
    ap (λ (fork : List ℕ). take n (drop (start + 4) fork ++ replicate n 0)) (is ∙ regroup_old before size r.datum (data_text rows) after)
    ∙ ap (λ (xs : List ℕ). take n (xs ++ replicate n 0)) (drop_at (before ++ size) (r.datum ++ rest) (start + 4) front)
    ∙ ap (take n) (append_assoc r.datum rest (replicate n 0)) ∙ take_at r.datum (rest ++ replicate n 0) n refl in
    ap (λ (x : List ℕ). x ∷ map (bytes_on whole) (new_places (start + 4 + n) rows)) here
    ∙ ap (λ (xs : List (List ℕ)). r.datum ∷ xs) (read_is (start + 4 + n) ((before ++ size) ++ r.datum) after rows whole (long_after start before r.datum n long) next)

-- places lie before the end of the data
pub places_inside : (n start : ℕ) (rows : List forks.Row) → start + length (data_text rows) ≤ n → AllByRecursion (λ (p : Place). p.offset + p.length ≤ n) (new_places start rows)
places_inside n start [] within = tt
places_inside n start (r ∷ rows) within = let whole = length-data r rows in (omega arith, places_inside n (start + 4 + length r.datum) rows (omega arith))

-- so do those of the bytes that are kept
pub kept_inside : (n : ℕ) (t : HandleTable) (s : Selection) (at start : ℕ) (rows : List (Row Place)) → start + length (data_text (rows_with (draft_bytes t s) at rows)) ≤ n
    → AllByRecursion (λ (k : Kept). k.to + k.length ≤ n) (kept_ranges s at rows (new_places start (rows_with (draft_bytes t s) at rows)))
kept_inside n t s at start [] within = tt
kept_inside n t s at start (r ∷ rows) within =
    by (is_selected s at r) (λ next below. kept_inside n t s (at + 1) next rows below) (omega (arith, whole))
  where
    rest : List forks.Row
    rest = rows_with (draft_bytes t s) (at + 1) rows

    whole : length (data_text (rows_with (draft_bytes t s) at (r ∷ rows))) ≡ 4 + length (draft_bytes t s at r) + length (data_text rest)
    whole = length-data (saved_row (λ (_ : Place). draft_bytes t s at r) r) rest

    by : (b : Bool)
        → ((next : ℕ) → next + length (data_text rest) ≤ n → AllByRecursion (λ (k : Kept). k.to + k.length ≤ n) (kept_ranges s (at + 1) rows (new_places next rest)))
        → start + (4 + length (row_bytes t b r) + length (data_text rest)) ≤ n → AllByRecursion (λ (k : Kept). k.to + k.length ≤ n)
        (let others = kept_ranges s (at + 1) rows (new_places (start + 4 + length (row_bytes t b r)) rest) in
        if b then others else record { from = r.resource.datum.offset; to = start + 4; length = r.resource.datum.length } ∷ others)
    by true others low = others (start + 4 + length (row_bytes t true r)) (omega arith)
    by false others low =
        let zeros : length (row_bytes t false r) ≡ r.resource.datum.length = length-replicate r.resource.datum.length 0 in
        (omega arith, others (start + 4 + length (row_bytes t false r)) (omega arith))

-- they are kept of what the old fork has
pub kept_there : (fork : List ℕ) (s : Selection) (at : ℕ) (rows : List (Row Place)) (places : List Place) → EachInside fork rows
    → AllByRecursion (λ (k : Kept). k.from + k.length ≤ length fork) (kept_ranges s at rows places)
kept_there fork s at [] places inside = tt
kept_there fork s at (r ∷ rows) [] inside = tt
kept_there fork s at (r ∷ rows) (place ∷ places) inside = by (is_selected s at r) (kept_there fork s (at + 1) rows places inside.1)
  where
    others : List Kept
    others = kept_ranges s (at + 1) rows places

    by : (b : Bool) → AllByRecursion (λ (k : Kept). k.from + k.length ≤ length fork) others → AllByRecursion (λ (k : Kept). k.from + k.length ≤ length fork)
        (if b then others else record { from = r.resource.datum.offset; to = place.offset; length = r.resource.datum.length } ∷ others)
    by true there = there
    by false there = (inside.0, there)

-- there is a place for each row
pub length-places : (start : ℕ) (rows : List forks.Row) → length (new_places start rows) ≡ length rows
length-places start [] = refl
length-places start (r ∷ rows) = ap suc (length-places (start + 4 + length r.datum) rows)

-- how many bytes are before the data
length-front : (table : Table) → length table.extra ≡ 240 → length (front_text table) ≡ 256
length-front table long = length-append (header_text (header_for table.rows)) table.extra ∙ omega arith

-- the data end within the fork
pub data_within : (table : Table) → length table.extra ≡ 240 → 256 + length (data_text table.rows) ≤ length (written table)
data_within table long =
    let front = length-front table long in
    let whole = length-append (front_text table) (data_text table.rows ++ map_text table) in
    let rest = length-append (data_text table.rows) (map_text table) in omega arith

-- the same draft as lists that are read
pub seen_draft : (t : HandleTable) (s : Selection) (table : ResourceTable Place) (draft : List ℕ) (places : List Place) (kept : List Kept) (bytes : List ℕ) (ranges : List Kept)
    → IsDraft t s table draft places kept → bytes ≡ draft → ranges ≡ kept → IsDraft t s table bytes places ranges
seen_draft t s table draft places kept bytes ranges is same same_kept = record {
  extra = is.extra;
  bytes_are = same ∙ is.bytes_are;
  small = subst (λ (xs : List ℕ). length xs ≤ max_fork) (sym same) is.small;
  places_are = is.places_are;
  kept_are = same_kept ∙ is.kept_are;
}

module _ (t : HandleTable) (s : Selection) (table : ResourceTable Place) (draft : List ℕ) (places : List Place) (kept : List Kept) where
  -- the rows of the draft
  abbrev rows : List forks.Row
  rows = (draft_table t s table).rows

  -- what is kept goes into the draft
  pub kept_within : IsDraft t s table draft places kept → All (λ (k : Kept). k.to + k.length ≤ length draft) kept
  kept_within is =
      let small = data_within (draft_table t s table) is.extra in
      let long = ap (λ (xs : List ℕ). length xs) is.bytes_are in
      let P : List Kept → Type 0 = λ ks. All (λ (k : Kept). k.to + k.length ≤ length draft) ks in
      subst P (sym (is.kept_are ∙ ap (kept_ranges s 0 table.rows) is.places_are))
      (All-from_recursion (λ (k : Kept). k.to + k.length ≤ length draft) (kept_ranges s 0 table.rows (new_places 256 rows)) (kept_inside (length draft) t s 0 256 table.rows (omega arith)))

  -- the places are near
  pub places_near : IsDraft t s table draft places kept → All IsNear places
  places_near is =
      let small = data_within (draft_table t s table) is.extra in
      let long = ap (λ (xs : List ℕ). length xs) is.bytes_are in let low = is.small in
      let P : List Place → Type 0 = All IsNear in
      subst P (sym is.places_are) (All-from_recursion IsNear (new_places 256 rows) (places_inside max_fork 256 rows (omega arith)))

  -- one for each row
  pub places_each : IsDraft t s table draft places kept → length places ≡ length table.rows
  places_each is = ap (λ (ps : List Place). length ps) is.places_are ∙ length-places 256 rows ∙ same_count (draft_bytes t s) 0 table.rows

  module _ (disk : List ℕ) where
    alike : AreAlike (draft_bytes t s) (final_bytes disk t s) 0 table.rows
    alike = are_alike disk t s table.rows 0

    -- the table that is written, and its fork
    abbrev new_fork : List ℕ
    new_fork = written (saved_table (updated t s (table_on disk table)))

    -- the draft fits a fork where the updated table does
    pub fits_is : fits_as_fork (draft_table t s table) ≡ fits_fork (updated t s (table_on disk table))
    fits_is = same_fits (draft_bytes t s) (final_bytes disk t s) table alike ∙ ap fits_as_fork (sym (final_is disk t s table))

    -- what is kept is there
    pub kept_found : AreInside disk table.rows → IsDraft t s table draft places kept → All (λ (k : Kept). k.from + k.length ≤ length disk) kept
    kept_found inside is =
        let P : List Kept → Type 0 = λ ks. All (λ (k : Kept). k.from + k.length ≤ length disk) ks in
        subst P (sym is.kept_are)
        (All-from_recursion (λ (k : Kept). k.from + k.length ≤ length disk) (kept_ranges s 0 table.rows places) (kept_there disk s 0 table.rows places (each_inside disk table.rows inside)))

    -- the draft becomes the fork of the updated table
    pub gathered_is : AreInside disk table.rows → IsDraft t s table draft places kept → gathered disk kept draft ≡ new_fork
    gathered_is inside is =
        let final = final_table disk t s table in
        ap (λ (ks : List Kept). gathered disk ks draft) (is.kept_are ∙ ap (kept_ranges s 0 table.rows) is.places_are)
        ∙ ap (gathered disk (kept_ranges s 0 table.rows (new_places 256 rows))) (is.bytes_are ∙ written_with (draft_bytes t s) (final_bytes disk t s) table alike)
        ∙ filled_is disk t s 0 256 (front_text final) (map_text final) table.rows (length-front final is.extra) (each_inside disk table.rows inside)
        ∙ ap written (sym (final_is disk t s table))

    -- the bytes of the updated rows are at the places
    pub places_read : IsDraft t s table draft places kept → map (bytes_on new_fork) places ≡ map (λ (r : FileRow). r.resource.datum) (updated t s (table_on disk table)).rows
    places_read is =
        let final = final_table disk t s table in
        ap (map (bytes_on new_fork)) (is.places_are ∙ same_places (draft_bytes t s) (final_bytes disk t s) 256 0 table.rows alike)
        ∙ read_is 256 (front_text final) (map_text final) final.rows new_fork (length-front final is.extra) (ap written (final_is disk t s table))
        ∙ ap (λ (x : Table). map (λ (r : forks.Row). r.datum) x.rows) (sym (final_is disk t s table))
        ∙ same_bytes (updated t s (table_on disk table)).rows

    -- they lie within the new fork
    pub places_within : IsDraft t s table draft places kept → All (IsInside new_fork) places
    places_within is =
        let small = data_within (draft_table t s table) is.extra in
        let long = same_length (draft_bytes t s) (final_bytes disk t s) table alike ∙ ap (λ (x : Table). length (written x)) (sym (final_is disk t s table)) in
        let P : List Place → Type 0 = All (IsInside new_fork) in
        subst P (sym is.places_are) (All-from_recursion (IsInside new_fork) (new_places 256 rows) (places_inside (length new_fork) 256 rows (omega arith)))
