-- Where the rows of each type and id are.
use Rattle.std.specs.Prelude.{◌≡◌, ℕ, ℤ, Bool, List, Option, option_copied}
use Rattle.std.specs.declared.cmp.Ordering.{Ordering}
use Rattle.std.specs.Ordering.{int_cmp, nat_cmp, ordering_then}
use Rattle.std.specs.Cmp.Lexicographic.{slice_cmp}
use Rattle.std.specs.Borrow.{Bor}
use Rattle.std.specs.Option.{unwrap_or}
use Rattle.std.specs.BTreeMap.{BTreeMap, get}
use Rattle.std.specs.BTreeSet.{BTreeSet, contains}
use Rattle.fork_bytes.specs.Rows.{Row}
use Rattle.fork_change.specs.declared.row.ResourceId.{ResourceId}
use Rattle.fork_change.specs.Differences.{count_at, nth_at}
use Rattle.fork_change.specs.Rows.{is_there}

-- the order of types and ids
abbrev pub key_cmp : List ℕ × ℤ → List ℕ × ℤ → Ordering
key_cmp key other = ordering_then (slice_cmp nat_cmp key.0 other.0) (int_cmp key.1 other.1)

-- the count of a type and id, and 0 where none is there
abbrev pub count_of : BTreeMap (List ℕ × ℤ) ℕ → ResourceId → ℕ
count_of counts what = unwrap_or (get key_cmp counts (what.kind, what.id)) 0

-- each type and id has as many of these rows
abbrev pub HasCounted : BTreeMap (List ℕ × ℤ) ℕ → List Row → Type 0
HasCounted counts rows = (what : ResourceId) → count_of counts what ≡ count_at what rows

-- the order of the rows of types and ids
abbrev pub place_cmp : (List ℕ × ℤ) × ℕ → (List ℕ × ℤ) × ℕ → Ordering
place_cmp place other = ordering_then (key_cmp place.0 other.0) (nat_cmp place.1 other.1)

-- the n-th row of a type and id, if it is there
abbrev pub found_at : BTreeMap ((List ℕ × ℤ) × ℕ) (Bor Row) → ResourceId → ℕ → Option Row
found_at index what n = option_copied (get place_cmp index ((what.kind, what.id), n))

-- the n-th of each type and id is that of these rows
abbrev pub IsIndexOf : BTreeMap ((List ℕ × ℤ) × ℕ) (Bor Row) → List Row → Type 0
IsIndexOf index rows = (what : ResourceId) (n : ℕ) → found_at index what n ≡ nth_at what n rows

-- whether a type and id are there
abbrev pub has_id : BTreeSet (List ℕ × ℤ) → ResourceId → Bool
has_id ids what = contains key_cmp ids (what.kind, what.id)

-- they are those of these rows
abbrev pub HasIds : BTreeSet (List ℕ × ℤ) → List Row → Type 0
HasIds ids rows = (what : ResourceId) → has_id ids what ≡ is_there what rows
