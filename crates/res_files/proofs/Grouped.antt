-- The rows of each type are together: rows with the same types, one row less, and one row more.
use Rattle.std.proofs.Common.{◌≡◌, ◌≢◌, refl, sym, ap, ◌∙◌, subst, ℕ, zero, suc, ◌+◌, List, [], ◌∷◌, map, set, remove, slice_get, Bool, true, false, not, Option, None, Some, AllPairs, bytes_eq, if◌then◌else◌, ◌⊎◌, inl, inr, ◌||◌}
use Rattle.std.specs.Prelude.{◌&&◌}
use Rattle.std.specs.List.{list_any, AllByRecursion}
use Rattle.std.specs.Option.{option_map_or}
use Rattle.std.proofs.lemmas.Bool.Decides.{not_from_Decides}
use Rattle.std.proofs.lemmas.Option.{same_Some}
use Rattle.std.proofs.lemmas.Slice.Eq.{bytes_eq-Decides}
use Rattle.mac_base.specs.HandleTable.{HandleTable}
use Rattle.fork_bytes.specs.declared.layout.TypeCount.{TypeCount}
use Rattle.fork_bytes.specs.declared.table.Table.{Table}
use Rattle.fork_bytes.specs.Laws.{IsGrouped}
use Rattle.fork_bytes.specs.Rows as fork
use Rattle.fork_bytes.specs.Written.{types_of, counted_before}
use Rattle.fork_bytes.proofs.Grouped.{Apart, Distinct, counted, distinct_at, distinct_from}
use Rattle.fork_bytes.specs.declared.place.Place.{Place}
use Rattle.fork_bytes.specs.Reading.{PlacedRow, row_at}
use Rattle.fork_rows.specs.Opening.{kinds_in, AreGrouped}
use Rattle.fork_rows.proofs.Grouped.{same_types}
use Rattle.res_table.specs.declared.row.Row.{Row}
use Rattle.res_table.specs.declared.chain.ResourceTable.{ResourceTable}
use Rattle.res_table.specs.Rows.{is_of_type, has_handle, with_handle, changed_at, removed_at, added, forgotten, opened_row}
use Rattle.res_table.specs.Saved.{bare}
use Rattle.res_update.specs.Changes.{saved_table}
use Rattle.res_update.specs.declared.selection.Selection.{Selection}
use Rattle.res_update.specs.Drafts.{is_selected, rows_with}
use Rattle.res_update.specs.Placed.{table_on}
use Rattle.res_update.specs.Selected.{updated}
use Rattle.res_update.proofs.Saving.{final_bytes, final_is}
use Rattle.res_files.specs.Updating.{row_placed, rows_placed}

-- rows of the same types
grouped_like : (rows others : List fork.Row) → kinds_in rows ≡ kinds_in others → IsGrouped rows → IsGrouped others
grouped_like rows others same grouped = subst (λ (types : List TypeCount). AllPairs (λ (a b : TypeCount). a.kind ≢ b.kind) types) (same_types rows others same) grouped

-- one row is changed and keeps its type
kinds_set : (rows : List (Row Place)) (at : ℕ) (r x : Row Place) → slice_get rows at ≡ Some r → x.resource.kind ≡ r.resource.kind → kinds_in (bare (set rows at x)) ≡ kinds_in (bare rows)
kinds_set [] at r x is same = absurd (cc is)
kinds_set (y ∷ rows) zero r x is same = ap (λ (kind : List ℕ). kind ∷ kinds_in (bare rows)) (same ∙ sym (ap (λ (z : Row Place). z.resource.kind) (same_Some y r is)))
kinds_set (y ∷ rows) (suc at) r x is same = ap (λ (kinds : List (List ℕ)). y.resource.kind ∷ kinds) (kinds_set rows at r x is same)

pub changed_grouped : (at : ℕ) (change : Row Place → Row Place) (rows : List (Row Place)) → ((r : Row Place) → (change r).resource.kind ≡ r.resource.kind) → IsGrouped (bare rows) → IsGrouped (bare (changed_at at change rows))
changed_grouped at change rows same grouped = by (slice_get rows at) refl
  where
    by : (found : Option (Row Place)) → slice_get rows at ≡ found → IsGrouped (bare (option_map_or (λ r. set rows at (change r)) found rows))
    by None is = grouped
    by (Some r) is = grouped_like (bare rows) (bare (set rows at (change r))) (sym (kinds_set rows at r (change r) is (same r))) grouped

-- a handle less
kinds_forgotten : (h : ℕ) (rows : List (Row Place)) → kinds_in (bare (forgotten h rows)) ≡ kinds_in (bare rows)
kinds_forgotten h [] = refl
kinds_forgotten h (r ∷ rows) = by (has_handle h r) (kinds_forgotten h rows)
  where
    by : (b : Bool) → kinds_in (bare (forgotten h rows)) ≡ kinds_in (bare rows)
        → (if b then with_handle None r else r).resource.kind ∷ kinds_in (bare (forgotten h rows)) ≡ r.resource.kind ∷ kinds_in (bare rows)
    by true deeper = ap (λ (kinds : List (List ℕ)). r.resource.kind ∷ kinds) deeper
    by false deeper = ap (λ (kinds : List (List ℕ)). r.resource.kind ∷ kinds) deeper

pub forgotten_grouped : (h : ℕ) (rows : List (Row Place)) → IsGrouped (bare rows) → IsGrouped (bare (forgotten h rows))
forgotten_grouped h rows grouped = grouped_like (bare rows) (bare (forgotten h rows)) (sym (kinds_forgotten h rows)) grouped

-- rows at new places
kinds_placed : (selection : Selection) (at : ℕ) (rows : List (Row Place)) (places : List Place) → kinds_in (bare (rows_placed selection at rows places)) ≡ kinds_in (bare rows)
kinds_placed selection at [] places = refl
kinds_placed selection at (r ∷ rows) [] = refl
kinds_placed selection at (r ∷ rows) (place ∷ places) = by (is_selected selection at r) (kinds_placed selection (at + 1) rows places)
  where
    by : (b : Bool) → kinds_in (bare (rows_placed selection (at + 1) rows places)) ≡ kinds_in (bare rows)
        → (row_placed b place r).resource.kind ∷ kinds_in (bare (rows_placed selection (at + 1) rows places)) ≡ r.resource.kind ∷ kinds_in (bare rows)
    by true deeper = ap (λ (kinds : List (List ℕ)). r.resource.kind ∷ kinds) deeper
    by false deeper = ap (λ (kinds : List (List ℕ)). r.resource.kind ∷ kinds) deeper

pub placed_grouped : (selection : Selection) (at : ℕ) (rows : List (Row Place)) (places : List Place) → IsGrouped (bare rows) → IsGrouped (bare (rows_placed selection at rows places))
placed_grouped selection at rows places grouped = grouped_like (bare rows) (bare (rows_placed selection at rows places)) (sym (kinds_placed selection at rows places)) grouped

-- what an update saves
kinds_with : (text : ℕ → Row Place → List ℕ) (at : ℕ) (rows : List (Row Place)) → kinds_in (rows_with text at rows) ≡ kinds_in (bare rows)
kinds_with text at [] = refl
kinds_with text at (r ∷ rows) = ap (λ (kinds : List (List ℕ)). r.resource.kind ∷ kinds) (kinds_with text (at + 1) rows)

pub updated_grouped : (t : HandleTable) (selection : Selection) (disk : List ℕ) (table : ResourceTable Place) → IsGrouped (bare table.rows) → IsGrouped (saved_table (updated t selection (table_on disk table))).rows
updated_grouped t selection disk table grouped =
    subst (λ (x : Table). IsGrouped x.rows) (sym (final_is disk t selection table))
    (grouped_like (bare table.rows) (rows_with (final_bytes disk t selection) 0 table.rows) (sym (kinds_with (final_bytes disk t selection) 0 table.rows)) grouped)

-- rows that were read
kinds_opened : (placed : List PlacedRow) → kinds_in (map (row_at []) placed) ≡ kinds_in (bare (map opened_row placed))
kinds_opened [] = refl
kinds_opened (r ∷ placed) = ap (λ (kinds : List (List ℕ)). r.kind ∷ kinds) (kinds_opened placed)

pub opened_grouped : (placed : List PlacedRow) → AreGrouped placed → IsGrouped (bare (map opened_row placed))
opened_grouped placed grouped = grouped_like (map (row_at []) placed) (bare (map opened_row placed)) (kinds_opened placed) (grouped [])

-- the first of these types is this one
abbrev Heads : List ℕ → List TypeCount → Type 0
Heads kind [] = ⊥
Heads kind (first ∷ others) = kind ≡ first.kind

-- one more row before types that are counted
apart_before : (other kind : List ℕ) (types : List TypeCount) → other ≢ kind → Apart counted other types → Apart counted other (counted_before kind 1 types)
apart_before other kind [] differ apart = (differ, tt)
apart_before other kind (first ∷ types) differ apart = by (bytes_eq kind first.kind)
  where
    by : (b : Bool) → Apart counted other (if b then record { kind = kind; count = 1 + first.count } ∷ types else record { kind = kind; count = 1 } ∷ first ∷ types)
    by true = (differ, apart.1)
    by false = (differ, apart)

apart_after : (other kind : List ℕ) (types : List TypeCount) → Apart counted other (counted_before kind 1 types) → (other ≢ kind) × Apart counted other types
apart_after other kind [] apart = (apart.0, tt)
apart_after other kind (first ∷ types) apart = by (bytes_eq kind first.kind) refl apart
  where
    by : (b : Bool) → bytes_eq kind first.kind ≡ b → Apart counted other (if b then record { kind = kind; count = 1 + first.count } ∷ types else record { kind = kind; count = 1 } ∷ first ∷ types)
        → (other ≢ kind) × Apart counted other (first ∷ types)
    by true is all = (all.0, (subst (λ (k : List ℕ). other ≢ k) ((bytes_eq-Decides kind first.kind).0 is) all.0, all.1))
    by false is all = (all.0, all.1)

distinct_before : (kind : List ℕ) (types : List TypeCount) → Heads kind types ⊎ Apart counted kind types → Distinct counted types → Distinct counted (counted_before kind 1 types)
distinct_before kind [] ahead distinct = (tt, tt)
distinct_before kind (first ∷ types) ahead distinct = by (bytes_eq kind first.kind) refl ahead
  where
    by : (b : Bool) → bytes_eq kind first.kind ≡ b → (kind ≡ first.kind) ⊎ Apart counted kind (first ∷ types)
        → Distinct counted (if b then record { kind = kind; count = 1 + first.count } ∷ types else record { kind = kind; count = 1 } ∷ first ∷ types)
    by true is ahead = (subst (λ (k : List ℕ). Apart counted k types) (sym ((bytes_eq-Decides kind first.kind).0 is)) distinct.0, distinct.1)
    by false is (inl same) = absurd (not_from_Decides (bytes_eq kind first.kind) (bytes_eq-Decides kind first.kind) is same)
    by false is (inr apart) = (apart, distinct)

distinct_after : (kind : List ℕ) (types : List TypeCount) → Distinct counted (counted_before kind 1 types) → (Heads kind types ⊎ Apart counted kind types) × Distinct counted types
distinct_after kind [] distinct = (inr tt, tt)
distinct_after kind (first ∷ types) distinct = by (bytes_eq kind first.kind) refl distinct
  where
    by : (b : Bool) → bytes_eq kind first.kind ≡ b → Distinct counted (if b then record { kind = kind; count = 1 + first.count } ∷ types else record { kind = kind; count = 1 } ∷ first ∷ types)
        → ((kind ≡ first.kind) ⊎ Apart counted kind (first ∷ types)) × Distinct counted (first ∷ types)
    by true is all = let same = (bytes_eq-Decides kind first.kind).0 is in (inl same, (subst (λ (k : List ℕ). Apart counted k types) same all.0, all.1))
    by false is all = (inr all.0, all.1)

headed : (kind first : List ℕ) (types : List TypeCount) → kind ≡ first → Heads kind (counted_before first 1 types)
headed kind first [] same = same
headed kind first (other ∷ types) same = by (bytes_eq first other.kind)
  where
    by : (b : Bool) → Heads kind (if b then record { kind = first; count = 1 + other.count } ∷ types else record { kind = first; count = 1 } ∷ other ∷ types)
    by true = same
    by false = same

head_is : (kind first : List ℕ) (types : List TypeCount) → Heads kind (counted_before first 1 types) → kind ≡ first
head_is kind first [] heads = heads
head_is kind first (other ∷ types) heads = by (bytes_eq first other.kind) heads
  where
    by : (b : Bool) → Heads kind (if b then record { kind = first; count = 1 + other.count } ∷ types else record { kind = first; count = 1 } ∷ other ∷ types) → kind ≡ first
    by true heads = heads
    by false heads = heads

-- none of these rows is of this type
abbrev NoneOf : List ℕ → List (Row Place) → Type 0
NoneOf kind rows = AllByRecursion (λ (r : Row Place). kind ≢ r.resource.kind) rows

-- the first of these rows is of this type
abbrev Starts : List ℕ → List (Row Place) → Type 0
Starts kind [] = ⊥
Starts kind (r ∷ rows) = kind ≡ r.resource.kind

-- after each row comes one of its type, or none of its type is left
abbrev AreTogether : List (Row Place) → Type 0
AreTogether [] = Unit {0}
AreTogether (r ∷ rows) = (Starts r.resource.kind rows ⊎ NoneOf r.resource.kind rows) × AreTogether rows

none_apart : (kind : List ℕ) (rows : List (Row Place)) → NoneOf kind rows → Apart counted kind (types_of (bare rows))
none_apart kind [] none = tt
none_apart kind (r ∷ rows) none = apart_before kind r.resource.kind (types_of (bare rows)) none.0 (none_apart kind rows none.1)

apart_none : (kind : List ℕ) (rows : List (Row Place)) → Apart counted kind (types_of (bare rows)) → NoneOf kind rows
apart_none kind [] apart = tt
apart_none kind (r ∷ rows) apart = let both = apart_after kind r.resource.kind (types_of (bare rows)) apart in (both.0, apart_none kind rows both.1)

starts_heads : (kind : List ℕ) (rows : List (Row Place)) → Starts kind rows → Heads kind (types_of (bare rows))
starts_heads kind [] starts = starts
starts_heads kind (r ∷ rows) starts = headed kind r.resource.kind (types_of (bare rows)) starts

heads_starts : (kind : List ℕ) (rows : List (Row Place)) → Heads kind (types_of (bare rows)) → Starts kind rows
heads_starts kind [] heads = heads
heads_starts kind (r ∷ rows) heads = head_is kind r.resource.kind (types_of (bare rows)) heads

-- that is what it is to be grouped
next_of_types : (kind : List ℕ) (rows : List (Row Place)) → Heads kind (types_of (bare rows)) ⊎ Apart counted kind (types_of (bare rows)) → Starts kind rows ⊎ NoneOf kind rows
next_of_types kind rows (inl heads) = inl (heads_starts kind rows heads)
next_of_types kind rows (inr apart) = inr (apart_none kind rows apart)

types_of_next : (kind : List ℕ) (rows : List (Row Place)) → Starts kind rows ⊎ NoneOf kind rows → Heads kind (types_of (bare rows)) ⊎ Apart counted kind (types_of (bare rows))
types_of_next kind rows (inl starts) = inl (starts_heads kind rows starts)
types_of_next kind rows (inr none) = inr (none_apart kind rows none)

together_from : (rows : List (Row Place)) → Distinct counted (types_of (bare rows)) → AreTogether rows
together_from [] distinct = tt
together_from (r ∷ rows) distinct =
    let both = distinct_after r.resource.kind (types_of (bare rows)) distinct in (next_of_types r.resource.kind rows both.0, together_from rows both.1)

together_to : (rows : List (Row Place)) → AreTogether rows → Distinct counted (types_of (bare rows))
together_to [] together = tt
together_to (r ∷ rows) together = distinct_before r.resource.kind (types_of (bare rows)) (types_of_next r.resource.kind rows together.0) (together_to rows together.1)

together_rows : (rows : List (Row Place)) → IsGrouped (bare rows) → AreTogether rows
together_rows rows grouped = together_from rows (distinct_from counted (types_of (bare rows)) grouped)

grouped_rows : (rows : List (Row Place)) → AreTogether rows → IsGrouped (bare rows)
grouped_rows rows together = distinct_at counted (types_of (bare rows)) (together_to rows together)

-- one row less
none_removed : (kind : List ℕ) (rows : List (Row Place)) (at : ℕ) → NoneOf kind rows → NoneOf kind (remove rows at)
none_removed kind [] zero none = none
none_removed kind [] (suc at) none = none
none_removed kind (r ∷ rows) zero none = none.1
none_removed kind (r ∷ rows) (suc at) none = (none.0, none_removed kind rows at none.1)

starts_removed : (kind : List ℕ) (rows : List (Row Place)) (at : ℕ) → AreTogether rows → Starts kind rows → Starts kind (remove rows at) ⊎ NoneOf kind (remove rows at)
starts_removed kind [] at together starts = absurd starts
starts_removed kind (r ∷ rows) zero together starts = subst (λ (k : List ℕ). Starts k rows ⊎ NoneOf k rows) (sym starts) together.0
starts_removed kind (r ∷ rows) (suc at) together starts = inl starts

next_removed : (kind : List ℕ) (rows : List (Row Place)) (at : ℕ) → AreTogether rows → Starts kind rows ⊎ NoneOf kind rows → Starts kind (remove rows at) ⊎ NoneOf kind (remove rows at)
next_removed kind rows at together (inl starts) = starts_removed kind rows at together starts
next_removed kind rows at together (inr none) = inr (none_removed kind rows at none)

together_removed : (rows : List (Row Place)) (at : ℕ) → AreTogether rows → AreTogether (remove rows at)
together_removed [] zero together = tt
together_removed [] (suc at) together = tt
together_removed (r ∷ rows) zero together = together.1
together_removed (r ∷ rows) (suc at) together = (next_removed r.resource.kind rows at together.1 together.0, together_removed rows at together.1)

pub removed_grouped : (at : ℕ) (rows : List (Row Place)) → IsGrouped (bare rows) → IsGrouped (bare (removed_at at rows))
removed_grouped at rows grouped = grouped_rows (remove rows at) (together_removed rows at (together_rows rows grouped))

-- rows of which none is of a type
of_other : (kind : List ℕ) (r : Row Place) → kind ≢ r.resource.kind → is_of_type kind r ≡ false
of_other kind r differ = by (is_of_type kind r) refl
  where
    by : (b : Bool) → is_of_type kind r ≡ b → b ≡ false
    by true is = absurd (differ (sym ((bytes_eq-Decides r.resource.kind kind).0 is)))
    by false is = refl

any_of_none : (kind : List ℕ) (rows : List (Row Place)) → NoneOf kind rows → list_any (is_of_type kind) rows ≡ false
any_of_none kind [] none = refl
any_of_none kind (r ∷ rows) none = ap (λ b. b || list_any (is_of_type kind) rows) (of_other kind r none.0) ∙ any_of_none kind rows none.1

none_of_any : (kind : List ℕ) (rows : List (Row Place)) → list_any (is_of_type kind) rows ≡ false → NoneOf kind rows
none_of_any kind [] none = tt
none_of_any kind (r ∷ rows) none = by (is_of_type kind r) refl none (λ others. none_of_any kind rows others)
  where
    by : (b : Bool) → is_of_type kind r ≡ b → (b || list_any (is_of_type kind) rows) ≡ false → (list_any (is_of_type kind) rows ≡ false → NoneOf kind rows) → NoneOf kind (r ∷ rows)
    by true is none deeper = absurd (cc none)
    by false is none deeper = (λ same. not_from_Decides (bytes_eq r.resource.kind kind) (bytes_eq-Decides r.resource.kind kind) is (sym same), deeper none)

-- one row more
none_added : (kind : List ℕ) (new : Row Place) (rows : List (Row Place)) → kind ≢ new.resource.kind → NoneOf kind rows → NoneOf kind (added new rows)
none_added kind new [] differ none = (differ, tt)
none_added kind new (r ∷ rows) differ none = by (is_of_type new.resource.kind r) (not (list_any (is_of_type new.resource.kind) rows)) (none_added kind new rows differ none.1)
  where
    by : (here last : Bool) → NoneOf kind (added new rows) → NoneOf kind (if here && last then r ∷ new ∷ rows else r ∷ added new rows)
    by true true deeper = (none.0, (differ, none.1))
    by true false deeper = (none.0, deeper)
    by false last deeper = (none.0, deeper)

starts_added : (kind : List ℕ) (new : Row Place) (rows : List (Row Place)) → Starts kind rows → Starts kind (added new rows)
starts_added kind new [] starts = absurd starts
starts_added kind new (r ∷ rows) starts = by (is_of_type new.resource.kind r) (not (list_any (is_of_type new.resource.kind) rows))
  where
    by : (here last : Bool) → Starts kind (if here && last then r ∷ new ∷ rows else r ∷ added new rows)
    by true true = starts
    by true false = starts
    by false last = starts

next_added : (kind : List ℕ) (new : Row Place) (rows : List (Row Place)) → (NoneOf kind rows → kind ≢ new.resource.kind) → Starts kind rows ⊎ NoneOf kind rows → Starts kind (added new rows) ⊎ NoneOf kind (added new rows)
next_added kind new rows differ (inl starts) = inl (starts_added kind new rows starts)
next_added kind new rows differ (inr none) = inr (none_added kind new rows (differ none) none)

together_added : (new : Row Place) (rows : List (Row Place)) → AreTogether rows → AreTogether (added new rows)
together_added new [] together = (inr tt, tt)
together_added new (r ∷ rows) together = by (is_of_type new.resource.kind r) (list_any (is_of_type new.resource.kind) rows) refl refl (together_added new rows together.1)
  where
    some_left : list_any (is_of_type new.resource.kind) rows ≡ true → NoneOf r.resource.kind rows → r.resource.kind ≢ new.resource.kind
    some_left some none same = absurd (cc (sym some ∙ ap (λ (kind : List ℕ). list_any (is_of_type kind) rows) (sym same) ∙ any_of_none r.resource.kind rows none))

    by : (here some : Bool) → is_of_type new.resource.kind r ≡ here → list_any (is_of_type new.resource.kind) rows ≡ some → AreTogether (added new rows)
        → AreTogether (if here && not some then r ∷ new ∷ rows else r ∷ added new rows)
    by true false here none deeper = (inl ((bytes_eq-Decides r.resource.kind new.resource.kind).0 here), (inr (none_of_any new.resource.kind rows none), together.1))
    by true true here some deeper = (next_added r.resource.kind new rows (some_left some) together.0, deeper)
    by false some here is deeper =
        (next_added r.resource.kind new rows (λ none same. not_from_Decides (bytes_eq r.resource.kind new.resource.kind) (bytes_eq-Decides r.resource.kind new.resource.kind) here same) together.0, deeper)

pub added_grouped : (new : Row Place) (rows : List (Row Place)) → IsGrouped (bare rows) → IsGrouped (bare (added new rows))
added_grouped new rows grouped = grouped_rows (added new rows) (together_added new rows (together_rows rows grouped))
