-- How many rows there are of each type.
use Rattle.std.specs.Prelude.{◌≡◌, ℕ, List, bytes_eq, count_by}
use Rattle.std.specs.Ordering.{nat_cmp}
use Rattle.std.specs.Cmp.Lexicographic.{slice_cmp}
use Rattle.std.specs.Option.{unwrap_or}
use Rattle.std.specs.BTreeMap.{BTreeMap, get}
use Rattle.mac_base.specs.declared.resource.Resource.{Resource}

-- the count of a type, and 0 where none is there
abbrev pub count_of : BTreeMap (List ℕ) ℕ → List ℕ → ℕ
count_of counts kind = unwrap_or (get (slice_cmp nat_cmp) counts kind) 0

-- it has the count of each type of these rows
abbrev pub CountsTypes : {X : Type 0} → BTreeMap (List ℕ) ℕ → List (Resource X) → Type 0
CountsTypes counts rows = (kind : List ℕ) → count_of counts kind ≡ count_by (λ row. bytes_eq row.kind kind) rows
