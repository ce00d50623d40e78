-- The rows that bytes stand for are grouped by type.
use Rattle.std.proofs.Common.{◌≡◌, ◌≢◌, ℕ, zero, suc, ◌+◌, ◌<◌, Bool, true, false, List, [], ◌∷◌, ◌++◌, length, map, get_or, AllPairs, refl, sym, subst, ap, arith, bytes_eq, if◌then◌else◌}
use Rattle.std.specs.List.{flat_map, AllByRecursion}
use Rattle.std.proofs.lemmas.Bool.Decides.{not_from_Decides}
use Rattle.std.proofs.lemmas.Slice.Eq.{bytes_eq-Decides}
use Rattle.fork_bytes.specs.declared.layout.Limits.{Limits}
use Rattle.fork_bytes.specs.declared.layout.TypeCount.{TypeCount}
use Rattle.fork_bytes.specs.declared.table.Table.{Table}
use Rattle.fork_bytes.specs.declared.fault.Condition.TheVariants.{Types}
use Rattle.fork_bytes.specs.Rows.{Row}
use Rattle.fork_bytes.specs.Fork.{Reference, TypeEntry, places, references_in, references_of, entries_of, map_row, map_rows, row_with, data_of, map_of}
use Rattle.fork_bytes.specs.Written.{types_of, counted_before}
use Rattle.fork_bytes.specs.Laws.{IsGrouped, IsReadGroupedWithin}

-- none of these is of this type
abbrev pub Apart : {X : Type 0} → (X → List ℕ) → List ℕ → List X → Type 0
Apart kind_of kind xs = AllByRecursion (λ x. kind ≢ kind_of x) xs

-- no two are of one type
abbrev pub Distinct : {X : Type 0} → (X → List ℕ) → List X → Type 0
Distinct kind_of [] = Unit {0}
Distinct kind_of (x ∷ xs) = Apart kind_of (kind_of x) xs × Distinct kind_of xs

-- from places to elements, and back
apart_from : {X : Type 0} (kind_of : X → List ℕ) (kind : List ℕ) (xs : List X) → ((k : ℕ) (d : X) → k < length xs → kind ≢ kind_of (get_or xs k d)) → Apart kind_of kind xs
apart_from kind_of kind [] h = tt
apart_from kind_of kind (x ∷ xs) h = (h 0 x (omega arith), apart_from kind_of kind xs (λ k d within. h (suc k) d (omega arith)))

apart_at : {X : Type 0} (kind_of : X → List ℕ) (kind : List ℕ) (xs : List X) → Apart kind_of kind xs → (k : ℕ) (d : X) → k < length xs → kind ≢ kind_of (get_or xs k d)
apart_at kind_of kind [] h k d within = absurd (omega arith)
apart_at kind_of kind (x ∷ xs) h zero d within = h.0
apart_at kind_of kind (x ∷ xs) h (suc k) d within = apart_at kind_of kind xs h.1 k d (omega arith)

pub distinct_from : {X : Type 0} (kind_of : X → List ℕ) (xs : List X) → AllPairs (λ (a b : X). kind_of a ≢ kind_of b) xs → Distinct kind_of xs
distinct_from kind_of [] h = tt
distinct_from kind_of (x ∷ xs) h = (
  apart_from kind_of (kind_of x) xs (λ k d within. h 0 (suc k) d (omega arith) (omega arith)),
  distinct_from kind_of xs (λ i j d before within. h (suc i) (suc j) d (omega arith) (omega arith)),
)

pub distinct_at : {X : Type 0} (kind_of : X → List ℕ) (xs : List X) → Distinct kind_of xs → AllPairs (λ (a b : X). kind_of a ≢ kind_of b) xs
distinct_at kind_of [] h i j d before within = absurd (omega arith)
distinct_at kind_of (x ∷ xs) h zero zero d before within = absurd (omega arith)
distinct_at kind_of (x ∷ xs) h zero (suc j) d before within = apart_at kind_of (kind_of x) xs h.0 j d (omega arith)
distinct_at kind_of (x ∷ xs) h (suc i) zero d before within = absurd (omega arith)
distinct_at kind_of (x ∷ xs) h (suc i) (suc j) d before within = distinct_at kind_of xs h.1 i j d (omega arith) (omega arith)

-- the type of a count, and of an entry
abbrev pub counted : TypeCount → List ℕ
counted count = count.kind

abbrev pub entered : TypeEntry → List ℕ
entered entry = entry.kind

-- only the first may be of this type
abbrev pub OnlyFirst : List ℕ → List TypeCount → Type 0
OnlyFirst kind [] = Unit {0}
OnlyFirst kind (first ∷ others) = Apart counted kind others

-- no two types are one, only the first may be this one, and they are this one or among those of the others
pub record IsRun (kind : List ℕ) (others types : List TypeCount) : Type 0 where
  pub distinct : Distinct counted types
  pub only : OnlyFirst kind types
  pub apart : (other : List ℕ) → other ≢ kind → Apart counted other others → Apart counted other types

-- types without this one
pub only_from : (kind : List ℕ) (types : List TypeCount) → Apart counted kind types → OnlyFirst kind types
only_from kind [] h = tt
only_from kind (first ∷ others) h = h.1

-- one more row of the type
pub run_more : (kind : List ℕ) (others types : List TypeCount) → IsRun kind others types → IsRun kind others (counted_before kind 1 types)
run_more kind others [] run = record { distinct = (tt, tt); only = tt; apart = λ other apart rest. (apart, tt) }
run_more kind others (first ∷ types) run = by_case (bytes_eq kind first.kind) refl
  where
    by_case : (b : Bool) → bytes_eq kind first.kind ≡ b →
        IsRun kind others (if b then record { kind = kind; count = 1 + first.count } ∷ types else record { kind = kind; count = 1 } ∷ first ∷ types)
    by_case true is = record { distinct = (run.only, run.distinct.1); only = run.only; apart = λ other apart rest. (apart, (run.apart other apart rest).1) }
    by_case false is =
        let differ = not_from_Decides (bytes_eq kind first.kind) (bytes_eq-Decides kind first.kind) is in
        record { distinct = ((differ, run.only), run.distinct); only = (differ, run.only); apart = λ other apart rest. (apart, run.apart other apart rest) }

-- the row of a reference
abbrev row_for : List ℕ → List ℕ → Reference → Row
row_for parts resource_map reference = row_with parts (map_row resource_map reference)

-- the rows of one entry before others
entry_run : (parts resource_map kind : List ℕ) (at : List ℕ) (others : List Reference) → Distinct counted (types_of (map (row_for parts resource_map) others)) →
    Apart counted kind (types_of (map (row_for parts resource_map) others)) →
    IsRun kind (types_of (map (row_for parts resource_map) others))
    (types_of (map (row_for parts resource_map) (map (λ (place : ℕ). record { kind = kind; place = place }) at ++ others)))
entry_run parts resource_map kind [] others distinct apart =
    record { distinct = distinct; only = only_from kind (types_of (map (row_for parts resource_map) others)) apart; apart = λ other differ rest. rest }
entry_run parts resource_map kind (place ∷ at) others distinct apart =
    run_more kind (types_of (map (row_for parts resource_map) others)) _ (entry_run parts resource_map kind at others distinct apart)

-- the rows of all entries: no two types are one, and they are among those of the entries
record AreRead (entries : List TypeEntry) (types : List TypeCount) : Type 0 where
  distinct : Distinct counted types
  apart : (other : List ℕ) → Apart entered other entries → Apart counted other types

entries_run : (parts resource_map : List ℕ) (entries : List TypeEntry) → Distinct entered entries →
    AreRead entries (types_of (map (row_for parts resource_map) (flat_map references_in entries)))
entries_run parts resource_map [] distinct = record { distinct = tt; apart = λ other apart. tt }
entries_run parts resource_map (entry ∷ entries) distinct =
    let others = flat_map references_in entries in
    let rest = entries_run parts resource_map entries distinct.1 in
    let run = entry_run parts resource_map entry.kind (places entry.count entry.start 12) others rest.distinct (rest.apart entry.kind distinct.0) in
    record { distinct = run.distinct; apart = λ other apart. run.apart other apart.0 (rest.apart other apart.1) }

-- a row of the map, and then with its bytes
map_twice : (parts resource_map : List ℕ) (references : List Reference) → map (row_with parts) (map (map_row resource_map) references) ≡ map (row_for parts resource_map) references
map_twice parts resource_map [] = refl
map_twice parts resource_map (reference ∷ references) = ap (λ (rs : List Row). row_for parts resource_map reference ∷ rs) (map_twice parts resource_map references)

-- what a map lists is grouped, where no type is in its type list twice
pub map_grouped : (parts resource_map : List ℕ) → AllPairs (λ (a b : TypeEntry). a.kind ≢ b.kind) (entries_of resource_map) → IsGrouped (map (row_with parts) (map_rows resource_map))
map_grouped parts resource_map distinct =
    let run = entries_run parts resource_map (entries_of resource_map) (distinct_from entered (entries_of resource_map) distinct) in
    let P : List Row → Type 0 = IsGrouped in
    subst P (sym (map_twice parts resource_map (references_of resource_map))) (distinct_at counted _ run.distinct)

-- what bytes stand for is grouped
pub read_grouped : (limits : Limits) → IsReadGroupedWithin limits
read_grouped limits fork table stands = subst (λ (t : Table). IsGrouped t.rows) (sym stands.1) (map_grouped (data_of fork) (map_of fork) (stands.0.holds Types).distinct)
