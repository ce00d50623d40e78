-- What comes of a table is a table.
use Rattle.std.proofs.Common.{◌≡◌, ◌≢◌, ℕ, zero, suc, ◌+◌, ℤ, pos, length, FitsSigned, IfSome, arith, Bool, true, false, List, [], ◌∷◌, ◌++◌, ◌⊎◌, inl, inr, Option, None, Some, refl, sym, subst, ◌∙◌, bytes_eq, if◌then◌else◌}
use Rattle.std.specs.Prelude.{◌&&◌, nat_lt, not}
use Rattle.std.specs.Int.{w16}
use Rattle.std.specs.List.{AllByRecursion}
use Rattle.std.specs.Option.{option_and_then}
use Rattle.std.specs.Ordering.{int_eq}
use Rattle.std.proofs.lemmas.Bool.{and_parts, both_ways, cond_both, false_from_ne_true, ltb-false, false≢true, or_from, or_parts}
use Rattle.std.proofs.lemmas.Bool.Decides.{not_from_Decides}
use Rattle.std.proofs.lemmas.Slice.Eq.{bytes_eq-Decides}
use Rattle.fork_bytes.specs.Rows.{Row}
use Rattle.fork_bytes.specs.Laws.{IsRow, IsTable}
use Rattle.fork_bytes.specs.declared.table.Table.{Table}
use Rattle.fork_bytes.proofs.Grouped.{Apart}
use Rattle.fork_change.specs.declared.row.ResourceId.{ResourceId}
use Rattle.fork_change.specs.Rows.{added, changed_to, first_to, has_kind, id_of, is_at, is_there, put, removed, with_rows}
use Rattle.fork_change.specs.declared.copying.Collision.{Collision}
use Rattle.fork_change.specs.declared.copying.Collision.TheVariants.{Refuse, Replace, Skip, Renumber}
use Rattle.fork_change.specs.Copies.{collided, copied, copied_one, free_id, least_free, renumbered}
use Rattle.fork_change.specs.Laws.{KeepsTables}
use Rattle.fork_change.proofs.Gathered.{Follows, Gathered, gathered_from, grouped_from, of_row}

-- a type that no row has
follows_apart : (kind : List ℕ) (rows : List Row) → Apart of_row kind rows → Follows kind rows
follows_apart kind [] apart = tt
follows_apart kind (row ∷ rows) apart = inr apart

apart_none : (kind : List ℕ) (rows : List Row) → has_kind kind rows ≡ false → Apart of_row kind rows
apart_none kind [] none = tt
apart_none kind (row ∷ rows) none =
    let parts = or_parts (bytes_eq row.kind kind) (has_kind kind rows) none in
    (λ e. both_ways (bytes_eq row.kind kind) parts.0 ((bytes_eq-Decides row.kind kind).1 (sym e)), apart_none kind rows parts.1)

none_apart : (kind : List ℕ) (rows : List Row) → Apart of_row kind rows → has_kind kind rows ≡ false
none_apart kind [] apart = refl
none_apart kind (row ∷ rows) apart =
    or_from (bytes_eq row.kind kind) (has_kind kind rows) (false_from_ne_true (bytes_eq row.kind kind) (λ is. apart.0 (sym ((bytes_eq-Decides row.kind kind).0 is)))) (none_apart kind rows apart.1)

-- a row is removed
apart_removed : (test : Row → Bool) (kind : List ℕ) (rows : List Row) → Apart of_row kind rows → Apart of_row kind (first_to test [] rows)
apart_removed test kind [] apart = tt
apart_removed test kind (row ∷ rows) apart = by_case (test row) (apart_removed test kind rows apart.1)
  where
    by_case : (b : Bool) → Apart of_row kind (first_to test [] rows) → Apart of_row kind (if b then rows else row ∷ first_to test [] rows)
    by_case true others = apart.1
    by_case false others = (apart.0, others)

follows_removed : (test : Row → Bool) (kind : List ℕ) (rows : List Row) → Gathered rows → Follows kind rows → Follows kind (first_to test [] rows)
follows_removed test kind [] all follows = tt
follows_removed test kind (row ∷ rows) all (inl same) = by_case (test row)
  where
    by_case : (b : Bool) → Follows kind (if b then rows else row ∷ first_to test [] rows)
    by_case true = let P : List ℕ → Type 0 = λ k. Follows k rows in subst P (sym same) all.0
    by_case false = inl same
follows_removed test kind (row ∷ rows) all (inr apart) = by_case (test row)
  where
    by_case : (b : Bool) → Follows kind (if b then rows else row ∷ first_to test [] rows)
    by_case true = follows_apart kind rows apart.1
    by_case false = inr (apart.0, apart_removed test kind rows apart.1)

gathered_removed : (test : Row → Bool) (rows : List Row) → Gathered rows → Gathered (first_to test [] rows)
gathered_removed test [] all = tt
gathered_removed test (row ∷ rows) all = by_case (test row) (gathered_removed test rows all.1)
  where
    by_case : (b : Bool) → Gathered (first_to test [] rows) → Gathered (if b then rows else row ∷ first_to test [] rows)
    by_case true others = all.1
    by_case false others = (follows_removed test row.kind rows all.1 all.0, others)

-- the rows that pass are of this row's type
abbrev AreOf : (Row → Bool) → Row → Type 0
AreOf test new = (row : Row) → test row ≡ true → row.kind ≡ new.kind

-- a row is replaced by one of its type
apart_replaced : (test : Row → Bool) (new : Row) (kind : List ℕ) (rows : List Row) → AreOf test new → Apart of_row kind rows → Apart of_row kind (first_to test (new ∷ []) rows)
apart_replaced test new kind [] are apart = tt
apart_replaced test new kind (row ∷ rows) are apart = by_case (test row) refl (apart_replaced test new kind rows are apart.1)
  where
    by_case : (b : Bool) → test row ≡ b → Apart of_row kind (first_to test (new ∷ []) rows) → Apart of_row kind (if b then new ∷ rows else row ∷ first_to test (new ∷ []) rows)
    by_case true is others = (λ e. apart.0 (e ∙ sym (are row is)), apart.1)
    by_case false is others = (apart.0, others)

follows_replaced : (test : Row → Bool) (new : Row) (kind : List ℕ) (rows : List Row) → AreOf test new → Follows kind rows → Follows kind (first_to test (new ∷ []) rows)
follows_replaced test new kind [] are follows = tt
follows_replaced test new kind (row ∷ rows) are (inl same) = by_case (test row) refl
  where
    by_case : (b : Bool) → test row ≡ b → Follows kind (if b then new ∷ rows else row ∷ first_to test (new ∷ []) rows)
    by_case true is = inl (same ∙ are row is)
    by_case false is = inl same
follows_replaced test new kind (row ∷ rows) are (inr apart) = by_case (test row) refl
  where
    by_case : (b : Bool) → test row ≡ b → Follows kind (if b then new ∷ rows else row ∷ first_to test (new ∷ []) rows)
    by_case true is = inr (λ e. apart.0 (e ∙ sym (are row is)), apart.1)
    by_case false is = inr (apart.0, apart_replaced test new kind rows are apart.1)

gathered_replaced : (test : Row → Bool) (new : Row) (rows : List Row) → AreOf test new → Gathered rows → Gathered (first_to test (new ∷ []) rows)
gathered_replaced test new [] are all = tt
gathered_replaced test new (row ∷ rows) are all = by_case (test row) refl (gathered_replaced test new rows are all.1)
  where
    by_case : (b : Bool) → test row ≡ b → Gathered (first_to test (new ∷ []) rows) → Gathered (if b then new ∷ rows else row ∷ first_to test (new ∷ []) rows)
    by_case true is others = let P : List ℕ → Type 0 = λ k. Follows k rows in (subst P (are row is) all.0, all.1)
    by_case false is others = (follows_replaced test new row.kind rows are all.0, others)

-- a row is added
apart_added : (new : Row) (kind : List ℕ) (rows : List Row) → kind ≢ new.kind → Apart of_row kind rows → Apart of_row kind (added new rows)
apart_added new kind [] differ apart = (differ, tt)
apart_added new kind (row ∷ rows) differ apart = by_case (bytes_eq row.kind new.kind && not (has_kind new.kind rows)) (apart_added new kind rows differ apart.1)
  where
    by_case : (b : Bool) → Apart of_row kind (added new rows) → Apart of_row kind (if b then row ∷ new ∷ rows else row ∷ added new rows)
    by_case true others = (apart.0, (differ, apart.1))
    by_case false others = (apart.0, others)

-- a type that rows have is another than one that they don't
other_kind : (new : Row) (kind : List ℕ) (rows : List Row) → Apart of_row kind rows → (kind ≢ new.kind) ⊎ (has_kind new.kind rows ≡ true) → kind ≢ new.kind
other_kind new kind rows apart (inl differ) = differ
other_kind new kind rows apart (inr some) = λ e.
    let P : List ℕ → Type 0 = λ k. has_kind k rows ≡ false in
    both_ways (has_kind new.kind rows) (subst P e (none_apart kind rows apart)) some

follows_added : (new : Row) (kind : List ℕ) (rows : List Row) → Follows kind rows → (kind ≢ new.kind) ⊎ (has_kind new.kind rows ≡ true) → Follows kind (added new rows)
follows_added new kind [] follows (inl differ) = inr (differ, tt)
follows_added new kind [] follows (inr some) = absurd (false≢true some)
follows_added new kind (row ∷ rows) (inl same) known = by_case (bytes_eq row.kind new.kind && not (has_kind new.kind rows))
  where
    by_case : (b : Bool) → Follows kind (if b then row ∷ new ∷ rows else row ∷ added new rows)
    by_case true = inl same
    by_case false = inl same
follows_added new kind (row ∷ rows) (inr apart) known = by_case (bytes_eq row.kind new.kind && not (has_kind new.kind rows))
  where
    differ : kind ≢ new.kind
    differ = other_kind new kind (row ∷ rows) apart known

    by_case : (b : Bool) → Follows kind (if b then row ∷ new ∷ rows else row ∷ added new rows)
    by_case true = inr (apart.0, (differ, apart.1))
    by_case false = inr (apart.0, apart_added new kind rows differ apart.1)

gathered_added : (new : Row) (rows : List Row) → Gathered rows → Gathered (added new rows)
gathered_added new [] all = (tt, tt)
gathered_added new (row ∷ rows) all = by_case (bytes_eq row.kind new.kind) refl (has_kind new.kind rows) refl (gathered_added new rows all.1)
  where
    by_case : (a : Bool) → bytes_eq row.kind new.kind ≡ a → (h : Bool) → has_kind new.kind rows ≡ h → Gathered (added new rows) →
        Gathered (if a && not h then row ∷ new ∷ rows else row ∷ added new rows)
    by_case true is false none others = (inl ((bytes_eq-Decides row.kind new.kind).0 is), (follows_apart new.kind rows (apart_none new.kind rows none), all.1))
    by_case true is true some others = (follows_added new row.kind rows all.0 (inr some), others)
    by_case false is h known others =
        (follows_added new row.kind rows all.0 (inl (not_from_Decides (bytes_eq row.kind new.kind) (bytes_eq-Decides row.kind new.kind) is)), others)

-- each row is one
each_append : (these rows : List Row) → AllByRecursion IsRow these → AllByRecursion IsRow rows → AllByRecursion IsRow (these ++ rows)
each_append [] rows first others = others
each_append (row ∷ these) rows first others = (first.0, each_append these rows first.1 others)

each_first : (test : Row → Bool) (these rows : List Row) → AllByRecursion IsRow these → AllByRecursion IsRow rows → AllByRecursion IsRow (first_to test these rows)
each_first test these [] first each = tt
each_first test these (row ∷ rows) first each = by_case (test row) (each_first test these rows first each.1)
  where
    by_case : (b : Bool) → AllByRecursion IsRow (first_to test these rows) → AllByRecursion IsRow (if b then these ++ rows else row ∷ first_to test these rows)
    by_case true others = each_append these rows first each.1
    by_case false others = (each.0, others)

each_added : (new : Row) (rows : List Row) → IsRow new → AllByRecursion IsRow rows → AllByRecursion IsRow (added new rows)
each_added new [] one each = (one, tt)
each_added new (row ∷ rows) one each = by_case (bytes_eq row.kind new.kind && not (has_kind new.kind rows)) (each_added new rows one each.1)
  where
    by_case : (b : Bool) → AllByRecursion IsRow (added new rows) → AllByRecursion IsRow (if b then row ∷ new ∷ rows else row ∷ added new rows)
    by_case true others = (each.0, (one, each.1))
    by_case false others = (each.0, others)

-- the rows of a table
abbrev AreRows : List Row → Type 0
AreRows rows = AllByRecursion IsRow rows × Gathered rows

table_with : (table : Table) (rows : List Row) → IsTable table → AreRows rows → IsTable (with_rows table rows)
table_with table rows is are = record { rows = are.0; grouped = grouped_from rows are.1; extra = is.extra; map_attributes = is.map_attributes }

rows_in : (table : Table) → IsTable table → AreRows table.rows
rows_in table is = (is.rows, gathered_from table.rows is.grouped)

-- the rows at a type and id are of that type
pub kind_at : (what : ResourceId) (row : Row) → is_at what row ≡ true → row.kind ≡ what.kind
kind_at what row is = (bytes_eq-Decides row.kind what.kind).0 (and_parts (bytes_eq row.kind what.kind) (int_eq row.id what.id) is).0

rows_removed : (what : ResourceId) (rows : List Row) → AreRows rows → AreRows (removed what rows)
rows_removed what rows are = (each_first (is_at what) [] rows tt are.0, gathered_removed (is_at what) rows are.1)

rows_added : (new : Row) (rows : List Row) → IsRow new → AreRows rows → AreRows (added new rows)
rows_added new rows one are = (each_added new rows one are.0, gathered_added new rows are.1)

rows_replaced : (what : ResourceId) (new : Row) (rows : List Row) → new.kind ≡ what.kind → IsRow new → AreRows rows → AreRows (first_to (is_at what) (new ∷ []) rows)
rows_replaced what new rows same one are =
    (each_first (is_at what) (new ∷ []) rows (one, tt) are.0, gathered_replaced (is_at what) new rows (λ row is. kind_at what row is ∙ sym same) are.1)

-- an id that is free fits
fits_least : (kind : List ℕ) (rows : List Row) (n id : ℕ) → IfSome (least_free kind rows n id) (λ free. FitsSigned w16 free)
fits_least kind rows zero id = tt
fits_least kind rows (suc n) id = by_case (nat_lt 32767 id) refl (is_there (record { kind = kind; id = pos id }) rows) (fits_least kind rows n (id + 1))
  where
    by_case : (a : Bool) → nat_lt 32767 id ≡ a → (b : Bool) → IfSome (least_free kind rows n (id + 1)) (λ free. FitsSigned w16 free) →
        IfSome (if a then None else if b then least_free kind rows n (id + 1) else Some (pos id)) (λ free. FitsSigned w16 free)
    by_case true high b rest = tt
    by_case false low true rest = rest
    by_case false low false rest = let small = ltb-false 32767 id low in record { sfits = omega arith }

fits_free : (kind : List ℕ) (rows : List Row) → IfSome (free_id kind rows) (λ free. FitsSigned w16 free)
fits_free kind rows = fits_least kind rows (length rows + 1) 128

rows_renumbered : (row : Row) (rows after : List Row) (free : Option ℤ) → IfSome free (λ id. FitsSigned w16 id) → IsRow row → AreRows rows → renumbered row rows free ≡ Some after → AreRows after
rows_renumbered row rows after None fits one are is = absurd (cc is)
rows_renumbered row rows after (Some id) fits one are is =
    let new : Row = record { kind = row.kind; id = id; name = row.name; attributes = row.attributes; datum = row.datum } in
    let same : added new rows ≡ after = cc is in
    subst AreRows same (rows_added new rows (record { kind = one.kind; id = fits; name = one.name; attributes = one.attributes }) are)

-- rows are copied
copied_rows : (how : Collision) (row : Row) (rows after : List Row) → IsRow row → AreRows rows → copied_one how row rows ≡ Some after → AreRows after
copied_rows how row rows after one are is = by_case (is_there (id_of row) rows) how is
  where
    by_case : (b : Bool) (how : Collision) → (if b then collided how row rows else Some (added row rows)) ≡ Some after → AreRows after
    by_case true Refuse is = absurd (cc is)
    by_case true Replace is = let same : first_to (is_at (id_of row)) (row ∷ []) rows ≡ after = cc is in subst AreRows same (rows_replaced (id_of row) row rows refl one are)
    by_case true Skip is = let same : rows ≡ after = cc is in subst AreRows same are
    by_case true Renumber is = rows_renumbered row rows after (free_id row.kind rows) (fits_free row.kind rows) one are is
    by_case false how is = let same : added row rows ≡ after = cc is in subst AreRows same (rows_added row rows one are)

rows_copied : (how : Collision) (chosen rows after : List Row) → AllByRecursion IsRow chosen → AreRows rows → copied how chosen rows ≡ Some after → AreRows after
rows_copied how [] rows after each are is = let same : rows ≡ after = cc is in subst AreRows same are
rows_copied how (row ∷ chosen) rows after each are is =
    by_case (copied_one how row rows) is (λ next first. copied_rows how row rows next each.0 are first) (λ next first rest. rows_copied how chosen next after each.1 first rest) refl
  where
    by_case : (found : Option (List Row)) → option_and_then (copied how chosen) found ≡ Some after → ((next : List Row) → copied_one how row rows ≡ Some next → AreRows next) →
        ((next : List Row) → AreRows next → copied how chosen next ≡ Some after → AreRows after) → copied_one how row rows ≡ found → AreRows after
    by_case None is one others same = absurd (cc is)
    by_case (Some next) is one others same = others next (one next same) is

pub keeps_tables : KeepsTables
keeps_tables = record {
  puts = λ new table one is.
      let rows = table.rows in let are = rows_in table is in
      table_with table (put new rows) is (cond_both (is_there (id_of new) rows) (first_to (is_at (id_of new)) (new ∷ []) rows) (added new rows) AreRows
      (λ there. rows_replaced (id_of new) new rows refl one are) (λ none. rows_added new rows one are));
  removes = λ what table is. table_with table (removed what table.rows) is (rows_removed what table.rows (rows_in table is));
  sets = λ what new table one is.
      let rows = table.rows in let are = rows_in table is in
      table_with table (changed_to what new rows) is (cond_both (bytes_eq new.kind what.kind) (first_to (is_at what) (new ∷ []) rows) (added new (removed what rows)) AreRows
      (λ same. rows_replaced what new rows ((bytes_eq-Decides new.kind what.kind).0 same) one are) (λ differ. rows_added new (removed what rows) one (rows_removed what rows are)));
  copies = λ how chosen rows table each is copy. table_with table rows is (rows_copied how chosen table.rows rows each (rows_in table is) copy);
}
