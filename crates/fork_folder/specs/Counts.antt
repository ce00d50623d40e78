-- How many rows there are of each type and id.
use Rattle.std.specs.Prelude.{◌≡◌, ℕ, ℤ, List, bytes_eq, count_by}
use Rattle.std.specs.declared.cmp.Ordering.{Ordering}
use Rattle.std.specs.Ordering.{int_cmp, nat_cmp, ordering_then}
use Rattle.std.specs.Cmp.Lexicographic.{slice_cmp}
use Rattle.std.specs.Option.{unwrap_or}
use Rattle.std.specs.BTreeMap.{BTreeMap, get}
use Rattle.fork_bytes.specs.Rows.{Row}
use Rattle.fork_folder.specs.declared.types.Types.{Types}
use Rattle.fork_folder.specs.Names.{folded}

-- the order of types and ids
abbrev pub key_cmp : List ℕ × ℤ → List ℕ × ℤ → Ordering
key_cmp key other = ordering_then (slice_cmp nat_cmp key.0 other.0) (int_cmp key.1 other.1)

-- the count of a row's type and id, and 0 where none is there
abbrev pub count_of : BTreeMap (List ℕ × ℤ) ℕ → Row → ℕ
count_of counts row = unwrap_or (get key_cmp counts (row.kind, row.id)) 0

-- the count of a type, and 0 where none is there
abbrev pub kind_count : BTreeMap (List ℕ) ℕ → List ℕ → ℕ
kind_count counts kind = unwrap_or (get (slice_cmp nat_cmp) counts kind) 0

-- the counts are those of the types of these rows, and of each without regard to case
abbrev pub CountTypes : Types → List Row → Type 0
CountTypes types rows =
    ((kind : List ℕ) → kind_count types.exact kind ≡ count_by (λ row. bytes_eq row.kind kind) rows)
    × ((small : List ℕ) → kind_count types.folded small ≡ count_by (λ row. bytes_eq (folded row.kind) small) rows)
