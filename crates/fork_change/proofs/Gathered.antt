-- The rows of one type are together: what is known of each row and those after it.
use Rattle.std.proofs.Common.{◌≡◌, ◌≢◌, ℕ, ◌+◌, Bool, true, false, List, [], ◌∷◌, ◌⊎◌, inl, inr, ⊎_elim, refl, sym, subst, ◌∙◌, bytes_eq, if◌then◌else◌}
use Rattle.std.proofs.lemmas.Slice.Eq.{bytes_eq-Decides}
use Rattle.fork_bytes.specs.declared.layout.TypeCount.{TypeCount}
use Rattle.fork_bytes.specs.Rows.{Row}
use Rattle.fork_bytes.specs.Written.{types_of, counted_before}
use Rattle.fork_bytes.specs.Laws.{IsGrouped}
use Rattle.fork_bytes.proofs.Counted.{counted_twice}
use Rattle.fork_bytes.proofs.Grouped.{Apart, Distinct, counted, distinct_at, distinct_from}

-- the type of a row
abbrev pub of_row : Row → List ℕ
of_row row = row.kind

-- before these rows is one of their first's type, or of none of theirs
abbrev pub Follows : List ℕ → List Row → Type 0
Follows kind [] = Unit {0}
Follows kind (first ∷ rest) = (kind ≡ first.kind) ⊎ Apart of_row kind (first ∷ rest)

abbrev pub Gathered : List Row → Type 0
Gathered [] = Unit {0}
Gathered (row ∷ rows) = Follows row.kind rows × Gathered rows

-- a type is apart from those that are counted, and from the rows
apart_before : (other kind : List ℕ) (types : List TypeCount) → other ≢ kind → Apart counted other types → Apart counted other (counted_before kind 1 types)
apart_before other kind [] differ h = (differ, tt)
apart_before other kind (first ∷ types) differ h = by_case (bytes_eq kind first.kind)
  where
    by_case : (b : Bool) → Apart counted other (if b then record { kind = kind; count = 1 + first.count } ∷ types else record { kind = kind; count = 1 } ∷ first ∷ types)
    by_case true = (differ, h.1)
    by_case false = (differ, h)

apart_after : (other kind : List ℕ) (types : List TypeCount) → Apart counted other (counted_before kind 1 types) → (other ≢ kind) × Apart counted other types
apart_after other kind [] h = (h.0, tt)
apart_after other kind (first ∷ types) h = by_case (bytes_eq kind first.kind) refl h
  where
    by_case : (b : Bool) → bytes_eq kind first.kind ≡ b →
        Apart counted other (if b then record { kind = kind; count = 1 + first.count } ∷ types else record { kind = kind; count = 1 } ∷ first ∷ types) →
        (other ≢ kind) × Apart counted other (first ∷ types)
    by_case true is h = let same = (bytes_eq-Decides kind first.kind).0 is in (h.0, (λ e. h.0 (e ∙ sym same), h.1))
    by_case false is h = (h.0, h.1)

types_apart : (kind : List ℕ) (rows : List Row) → Apart of_row kind rows → Apart counted kind (types_of rows)
types_apart kind [] h = tt
types_apart kind (row ∷ rows) h = apart_before kind row.kind (types_of rows) h.0 (types_apart kind rows h.1)

rows_apart : (kind : List ℕ) (rows : List Row) → Apart counted kind (types_of rows) → Apart of_row kind rows
rows_apart kind [] h = tt
rows_apart kind (row ∷ rows) h = let parts = apart_after kind row.kind (types_of rows) h in (parts.0, rows_apart kind rows parts.1)

-- the count makes no difference
recount : (kind : List ℕ) (m n : ℕ) (types : List TypeCount) → Distinct counted (counted_before kind m types) → Distinct counted (counted_before kind n types)
recount kind m n [] h = (tt, tt)
recount kind m n (first ∷ types) h = by_case (bytes_eq kind first.kind) h
  where
    by_case : (b : Bool) → Distinct counted (if b then record { kind = kind; count = m + first.count } ∷ types else record { kind = kind; count = m } ∷ first ∷ types) →
        Distinct counted (if b then record { kind = kind; count = n + first.count } ∷ types else record { kind = kind; count = n } ∷ first ∷ types)
    by_case true h = (h.0, h.1)
    by_case false h = (h.0, h.1)

-- one more type before others
before_apart : (kind : List ℕ) (types : List TypeCount) → Apart counted kind types → Distinct counted types → Distinct counted (counted_before kind 1 types)
before_apart kind [] apart h = (tt, tt)
before_apart kind (first ∷ types) apart h = by_case (bytes_eq kind first.kind) refl
  where
    by_case : (b : Bool) → bytes_eq kind first.kind ≡ b → Distinct counted (if b then record { kind = kind; count = 1 + first.count } ∷ types else record { kind = kind; count = 1 } ∷ first ∷ types)
    by_case true is = absurd (apart.0 ((bytes_eq-Decides kind first.kind).0 is))
    by_case false is = (apart, h)

join : (kind first : List ℕ) (types : List TypeCount) → Distinct counted (counted_before first 1 types) → (kind ≡ first) ⊎ Apart counted kind (counted_before first 1 types) →
    Distinct counted (counted_before kind 1 (counted_before first 1 types))
join kind first types h (inl same) =
    let P : List ℕ → Type 0 = λ k. Distinct counted (counted_before k 1 (counted_before first 1 types)) in
    let Q : List TypeCount → Type 0 = λ ts. Distinct counted ts in
    subst P (sym same) (subst Q (sym (counted_twice first 1 1 types)) (recount first 1 2 types h))
join kind first types h (inr apart) = before_apart kind (counted_before first 1 types) apart h

split_first : (kind first : List ℕ) (count : ℕ) (types : List TypeCount) → Distinct counted (counted_before kind 1 (record { kind = first; count = count } ∷ types)) →
    Distinct counted (record { kind = first; count = count } ∷ types) × ((kind ≡ first) ⊎ Apart counted kind (record { kind = first; count = count } ∷ types))
split_first kind first count types h = by_case (bytes_eq kind first) refl h
  where
    by_case : (b : Bool) → bytes_eq kind first ≡ b →
        Distinct counted (if b then record { kind = kind; count = 1 + count } ∷ types else record { kind = kind; count = 1 } ∷ record { kind = first; count = count } ∷ types) →
        Distinct counted (record { kind = first; count = count } ∷ types) × ((kind ≡ first) ⊎ Apart counted kind (record { kind = first; count = count } ∷ types))
    by_case true is h =
        let same = (bytes_eq-Decides kind first).0 is in
        let P : List ℕ → Type 0 = λ k. Apart counted k types in
        ((subst P same h.0, h.1), inl same)
    by_case false is h = (h.1, inr h.0)

split : (kind first : List ℕ) (types : List TypeCount) → Distinct counted (counted_before kind 1 (counted_before first 1 types)) →
    Distinct counted (counted_before first 1 types) × ((kind ≡ first) ⊎ Apart counted kind (counted_before first 1 types))
split kind first [] h = split_first kind first 1 [] h
split kind first (next ∷ types) h = by_case (bytes_eq first next.kind) h
  where
    by_case : (b : Bool) → let all = if b then record { kind = first; count = 1 + next.count } ∷ types else record { kind = first; count = 1 } ∷ next ∷ types in
        Distinct counted (counted_before kind 1 all) → Distinct counted all × ((kind ≡ first) ⊎ Apart counted kind all)
    by_case true h = split_first kind first (1 + next.count) types h
    by_case false h = split_first kind first 1 (next ∷ types) h

-- the two ways to say it are one
gathered_distinct : (rows : List Row) → Gathered rows → Distinct counted (types_of rows)
gathered_distinct [] h = tt
gathered_distinct (row ∷ []) h = (tt, tt)
gathered_distinct (row ∷ first ∷ rest) h =
    join row.kind first.kind (types_of rest) (gathered_distinct (first ∷ rest) h.1)
    (⊎_elim {C = (row.kind ≡ first.kind) ⊎ Apart counted row.kind (types_of (first ∷ rest))} (λ same. inl same) (λ apart. inr (types_apart row.kind (first ∷ rest) apart)) h.0)

distinct_gathered : (rows : List Row) → Distinct counted (types_of rows) → Gathered rows
distinct_gathered [] h = tt
distinct_gathered (row ∷ []) h = (tt, tt)
distinct_gathered (row ∷ first ∷ rest) h =
    let parts = split row.kind first.kind (types_of rest) h in (
      ⊎_elim {C = (row.kind ≡ first.kind) ⊎ Apart of_row row.kind (first ∷ rest)} (λ same. inl same) (λ apart. inr (rows_apart row.kind (first ∷ rest) apart)) parts.1,
      distinct_gathered (first ∷ rest) parts.0,
    )

pub grouped_from : (rows : List Row) → Gathered rows → IsGrouped rows
grouped_from rows h = distinct_at counted (types_of rows) (gathered_distinct rows h)

pub gathered_from : (rows : List Row) → IsGrouped rows → Gathered rows
gathered_from rows h = distinct_gathered rows (distinct_from counted (types_of rows) h)
