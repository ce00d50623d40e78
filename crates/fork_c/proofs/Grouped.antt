-- Rows of one type that are together.
use Rattle.std.proofs.Common.{◌≡◌, ◌≢◌, ℕ, ◌+◌, Bool, true, false, not, ◌||◌, ◌&&◌, ◌⊎◌, ◌<◌, inl, inr, List, [], ◌∷◌, length, get_or, arith, refl, sym, subst, ap, ◌∙◌, bytes_eq, if◌then◌else◌}
use Rattle.std.specs.List.{list_any}
use Rattle.std.proofs.lemmas.Bool.Decides.{not_from_Decides}
use Rattle.std.proofs.lemmas.Slice.Eq.{bytes_eq-Decides}
use Rattle.fork_bytes.specs.declared.layout.TypeCount.{TypeCount}
use Rattle.fork_bytes.specs.Rows.{Row}
use Rattle.fork_bytes.specs.Written.{types_of, counted_before}
use Rattle.fork_bytes.specs.Laws.{IsGrouped}
use Rattle.fork_bytes.proofs.Grouped.{Apart, Distinct, counted, distinct_at}
use Rattle.fork_c.specs.Given.{are_grouped, may_precede}

-- the first of these counts is of this type
abbrev BeginsWith : List ℕ → List TypeCount → Type 0
BeginsWith kind [] = ⊥
BeginsWith kind (first ∷ others) = first.kind ≡ kind

-- a row of another type, counted
apart_more : (kind other : List ℕ) (types : List TypeCount) → kind ≢ other → Apart counted kind types → Apart counted kind (counted_before other 1 types)
apart_more kind other [] differ apart = (differ, tt)
apart_more kind other (first ∷ others) differ apart = by_case (bytes_eq other first.kind)
  where
    by_case : (b : Bool) → Apart counted kind (if b then record { kind = other; count = 1 + first.count } ∷ others else record { kind = other; count = 1 } ∷ first ∷ others)
    by_case true = (differ, apart.1)
    by_case false = (differ, apart)

-- a row that is counted is of the type of the first count
begins_more : (kind other : List ℕ) (types : List TypeCount) → other ≡ kind → BeginsWith kind (counted_before other 1 types)
begins_more kind other [] same = same
begins_more kind other (first ∷ others) same = by_case (bytes_eq other first.kind)
  where
    by_case : (b : Bool) → BeginsWith kind (if b then record { kind = other; count = 1 + first.count } ∷ others else record { kind = other; count = 1 } ∷ first ∷ others)
    by_case true = same
    by_case false = same

-- the types of rows of which none is of this type
none_counted : (kind : List ℕ) (rows : List Row) → list_any (λ (row : Row). bytes_eq row.kind kind) rows ≡ false → Apart counted kind (types_of rows)
none_counted kind [] none = tt
none_counted kind (row ∷ rows) none = by_case (bytes_eq row.kind kind) refl none (λ others. none_counted kind rows others)
  where
    by_case : (b : Bool) → bytes_eq row.kind kind ≡ b → b || list_any (λ (other : Row). bytes_eq other.kind kind) rows ≡ false
        → (list_any (λ (other : Row). bytes_eq other.kind kind) rows ≡ false → Apart counted kind (types_of rows)) → Apart counted kind (types_of (row ∷ rows))
    by_case true is none apart = absurd (cc none)
    by_case false is none apart = apart_more kind row.kind (types_of rows) (λ same. not_from_Decides (bytes_eq row.kind kind) (bytes_eq-Decides row.kind kind) is (sym same)) (apart none)

-- a row that may be before others: none of their types is its own, or the first is
may_join : (kind : List ℕ) (rows : List Row) → may_precede kind rows ≡ true → Apart counted kind (types_of rows) ⊎ BeginsWith kind (types_of rows)
may_join kind [] may = inl tt
may_join kind (first ∷ others) may = by_case (bytes_eq first.kind kind) refl (list_any (λ (row : Row). bytes_eq row.kind kind) others) refl may
  where
    by_case : (b : Bool) → bytes_eq first.kind kind ≡ b → (c : Bool) → list_any (λ (row : Row). bytes_eq row.kind kind) others ≡ c → b || not c ≡ true
        → Apart counted kind (types_of (first ∷ others)) ⊎ BeginsWith kind (types_of (first ∷ others))
    by_case true is c any may = inr (begins_more kind first.kind (types_of others) ((bytes_eq-Decides first.kind kind).0 is))
    by_case false is true any may = absurd (cc may)
    by_case false is false any may = inl (apart_more kind first.kind (types_of others) (λ same. not_from_Decides (bytes_eq first.kind kind) (bytes_eq-Decides first.kind kind) is (sym same)) (none_counted kind others any))

-- counts of which no two are of one type, and one more row
distinct_more : (kind : List ℕ) (types : List TypeCount) → Distinct counted types → Apart counted kind types ⊎ BeginsWith kind types → Distinct counted (counted_before kind 1 types)
distinct_more kind [] distinct joins = (tt, tt)
distinct_more kind (first ∷ others) distinct joins = by_case (bytes_eq kind first.kind) refl
  where
    by_case : (b : Bool) → bytes_eq kind first.kind ≡ b → Distinct counted (if b then record { kind = kind; count = 1 + first.count } ∷ others else record { kind = kind; count = 1 } ∷ first ∷ others)
    by_case true is = (subst (λ (k : List ℕ). Apart counted k others) (sym ((bytes_eq-Decides kind first.kind).0 is)) distinct.0, distinct.1)
    by_case false is = elim joins [ inl apart ↦ (apart, distinct) | inr same ↦ absurd (not_from_Decides (bytes_eq kind first.kind) (bytes_eq-Decides kind first.kind) is (sym same)) ]

-- the types of rows of which those of one type are together
distinct_types : (rows : List Row) → are_grouped rows ≡ true → Distinct counted (types_of rows)
distinct_types [] grouped = tt
distinct_types (row ∷ rows) grouped = by_case (may_precede row.kind rows) refl grouped (λ others. distinct_types rows others)
  where
    by_case : (b : Bool) → may_precede row.kind rows ≡ b → b && are_grouped rows ≡ true → (are_grouped rows ≡ true → Distinct counted (types_of rows)) → Distinct counted (types_of (row ∷ rows))
    by_case false is grouped distinct = absurd (cc grouped)
    by_case true is grouped distinct = distinct_more row.kind (types_of rows) (distinct grouped) (may_join row.kind rows is)

-- they are grouped
pub grouped_rows : (rows : List Row) → are_grouped rows ≡ true → IsGrouped rows
grouped_rows rows grouped = distinct_at counted (types_of rows) (distinct_types rows grouped)

-- what may be before rows of which the first is of another type
pub may_precede_others : (kind : List ℕ) (rows : List Row) (first : Row) → 0 < length rows → first ≡ get_or rows 0 first → bytes_eq first.kind kind ≡ false →
    not (list_any (λ (row : Row). bytes_eq row.kind kind) rows) ≡ may_precede kind rows
may_precede_others kind [] first some is other = absurd (omega arith)
may_precede_others kind (row ∷ rows) first some is other =
    let rest : Bool = list_any (λ (r : Row). bytes_eq r.kind kind) rows in
    let not_first : bytes_eq row.kind kind ≡ false = ap (λ (r : Row). bytes_eq r.kind kind) (sym is) ∙ other in
    ap (λ b. not (b || rest)) not_first ∙ sym (ap (λ b. b || not rest) not_first)
