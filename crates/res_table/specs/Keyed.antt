-- The rows that have a key, in the order of keys, and among those with the same key in the order of rows.
use Rattle.std.specs.Prelude.{ℕ, ℤ, suc, ◌+◌, ◌-◌, ◌*◌, ◌%◌, ◌==◌, nat_lt, nat_le, Bool, ◌||◌, ◌&&◌, if◌then◌else◌, List, [], ◌∷◌, remove, Option, Some, None, false, ◌≡◌}
use Rattle.std.specs.Int.{w16, w32, cast_unsigned, from_be_bytes}
use Rattle.std.specs.List.{list_any}
use Rattle.res_table.specs.declared.keyed.Pair.{Pair}

-- the key of a handle: handles that are close have keys that are spread evenly
abbrev pub key_of_handle : ℕ → ℕ
key_of_handle h = ((h * 2654435761) % 4294967296) * 4294967296 + h

-- the key of a type and an id: the four bytes of the type, and after them the two of the id
abbrev pub key_of_resource : List ℕ → ℤ → ℕ
key_of_resource kind id = from_be_bytes w32 kind * 65536 + cast_unsigned w16 id

-- pairs, and how many there is room for
pub record KeyedPairs : Type 0 where
  pub pairs : List Pair
  pub room : ℕ

-- whether a pair is before another
abbrev pub is_before : Pair → Pair → Bool
is_before p q = nat_lt p.key q.key || (p.key == q.key && nat_lt p.place q.place)

-- how many pairs at the front are before this one
abbrev pub rank : Pair → List Pair → ℕ
rank p [] = 0
rank p (q ∷ qs) = if is_before q p then suc (rank p qs) else 0

-- the pairs with one more, where it belongs
abbrev pub with_pair : Pair → List Pair → List Pair
with_pair p [] = p ∷ []
with_pair p (q ∷ qs) = if is_before q p then q ∷ with_pair p qs else p ∷ q ∷ qs

-- pairs, put in where they belong
abbrev pub in_order : List Pair → List Pair
in_order [] = []
in_order (p ∷ ps) = with_pair p (in_order ps)

-- the pairs without the one that is where this one belongs
abbrev pub without_pair : Pair → List Pair → List Pair
without_pair p ps = remove ps (rank p ps)

-- the pairs with that of a row which has this key, or none
abbrev pub with_key : Option ℕ → ℕ → List Pair → List Pair
with_key None place ps = ps
with_key (Some k) place ps = with_pair (record { key = k; place = place }) ps

-- the pairs without that of a row which had this key, or none
abbrev pub without_key : Option ℕ → ℕ → List Pair → List Pair
without_key None place ps = ps
without_key (Some k) place ps = without_pair (record { key = k; place = place }) ps

-- a pair, where a row is put in at an index
abbrev pub pushed_back : ℕ → Pair → Pair
pushed_back at p = if nat_le at p.place then record { key = p.key; place = p.place + 1 } else p

-- a pair, where the row at an index, which isn't its own, is taken out
abbrev pub pulled_up : ℕ → Pair → Pair
pulled_up at p = if nat_lt at p.place then record { key = p.key; place = p.place - 1 } else p

-- the least place of a row with the key, where pairs are in order
abbrev pub first_place : ℕ → List Pair → Option ℕ
first_place k [] = None
first_place k (p ∷ ps) = if is_before p (record { key = k; place = 0 }) then first_place k ps else if p.key == k then Some p.place else None

-- whether a pair has the key
abbrev pub has_pair : ℕ → List Pair → Bool
has_pair k ps = list_any (λ p. p.key == k) ps

-- no pair is before this one
abbrev pub NoneBefore : Pair → List Pair → Type 0
NoneBefore p [] = Unit {0}
NoneBefore p (q ∷ qs) = (is_before q p ≡ false) × NoneBefore p qs

-- pairs are in order
abbrev pub AreInOrder : List Pair → Type 0
AreInOrder [] = Unit {0}
AreInOrder (p ∷ ps) = NoneBefore p ps × AreInOrder ps
