-- Whether a row is of a type, by the keys of rows.
use Rattle.std.proofs.Common.{◌≡◌, refl, sym, ap, ◌∙◌, subst, arith, ℕ, ◌+◌, ◌*◌, ◌<◌, ◌≤◌, pos, w16, List, [], ◌∷◌, length, get_or, drop, Bool, true, false, ◌||◌}
use Rattle.std.specs.Prelude.{◌/◌, ◌%◌, All, nat_lt, if◌then◌else◌}
use Rattle.std.specs.Int.{w32, cast_unsigned, from_be_bytes, to_be_bytes}
use Rattle.std.specs.List.{list_any}
use Rattle.std.proofs.lemmas.Bool.{ltb-true, ltb-false, lt-ltb, le-ltb}
use Rattle.std.proofs.lemmas.Int.{of_z-to_z}
use Rattle.std.proofs.lemmas.Slice.Eq.{bytes_eq-Decides}
use Rattle.std.proofs.lemmas.List.Elements.{All-head, All-tail}
use Rattle.res_table.specs.declared.row.Row.{Row}
use Rattle.res_table.specs.declared.keyed.Pair.{Pair}
use Rattle.res_table.specs.Keyed.{key_of_resource, rank, NoneBefore, AreInOrder}
use Rattle.res_table.specs.Indexed.{resource_key, pairs_from, pairs_of, IsKept, IsTold}
use Rattle.res_table.specs.Rows.{is_of_type}
use Rattle.res_table.proofs.Pairs.{order_dropped}
use Rattle.res_table.proofs.AnyPair.{any_with, any_from, none_after, least_key}

-- whether a key is of a type and any id, where this is that of the type and 0
abbrev is_key_of : ℕ → ℕ → Bool
is_key_of first k = if nat_lt k first then false else nat_lt k (first + 65536)

in_range : (first k : ℕ) → first ≤ k → k < first + 65536 → is_key_of first k ≡ true
in_range first k least less = ap (λ (b : Bool). if b then false else nat_lt k (first + 65536)) (le-ltb k first least) ∙ lt-ltb k (first + 65536) less

past_range : (first k : ℕ) → first + 65536 ≤ k → is_key_of first k ≡ false
past_range first k past = by (nat_lt k first)
  where
    by : (b : Bool) → (if b then false else nat_lt k (first + 65536)) ≡ false
    by true = refl
    by false = le-ltb k (first + 65536) past

before_range : (first k : ℕ) → k < first → is_key_of first k ≡ false
before_range first k less = ap (λ (b : Bool). if b then false else nat_lt k (first + 65536)) (lt-ltb k first less)

from_range : (first k : ℕ) → is_key_of first k ≡ true → (first ≤ k) × (k < first + 65536)
from_range first k is = by (nat_lt k first) refl is
  where
    by : (b : Bool) → nat_lt k first ≡ b → (if b then false else nat_lt k (first + 65536)) ≡ true → (first ≤ k) × (k < first + 65536)
    by true e is = absurd (cc is)
    by false e is = (ltb-false k first e, ltb-true k (first + 65536) is)

-- a row of the type has such a key, and no other row has
key_size : (n first k c : ℕ) → k ≡ n * 65536 + c → c < 65536 → first ≡ n * 65536 → (first ≤ k) × (k < first + 65536)
key_size n first k c is small start = (omega arith, omega arith)

same_type : (n first k : ℕ) → first ≡ n * 65536 → first ≤ k → k < first + 65536 → k / 65536 ≡ first / 65536
same_type n first k start least less = omega arith

type_by_key : {D : Type 0} (kind : List ℕ) (first : ℕ) (r : Row D) → IsTold r → first ≡ key_of_resource kind (pos 0) → to_be_bytes w32 (first / 65536) ≡ kind
    → is_key_of first (key_of_resource r.resource.kind r.resource.id) ≡ is_of_type kind r
type_by_key {D} kind first r told start kinds = by (is_key_of first key) (is_of_type kind r) refl refl
  where
    key : ℕ
    key = key_of_resource r.resource.kind r.resource.id

    id : ℕ
    id = key_of_resource r.resource.kind r.resource.id % 65536

    small : cast_unsigned w16 r.resource.id < 65536
    small =
        let same : cast_unsigned w16 r.resource.id ≡ id = ap (cast_unsigned w16) (sym told.1) ∙ of_z-to_z w16 id (omega arith) in
        let few : id < 65536 = omega arith in omega (arith, same, few)

    by : (b c : Bool) → is_key_of first key ≡ b → is_of_type kind r ≡ c → b ≡ c
    by true true e f = refl
    by false false e f = refl
    by false true e f =
        let same : r.resource.kind ≡ kind = (bytes_eq-Decides r.resource.kind kind).0 f in
        let its : key ≡ from_be_bytes w32 kind * 65536 + cast_unsigned w16 r.resource.id = ap (λ (k : List ℕ). key_of_resource k r.resource.id) same in
        let range = key_size (from_be_bytes w32 kind) first key (cast_unsigned w16 r.resource.id) its small (omega (arith, start)) in
        sym e ∙ in_range first key range.0 range.1
    by true false e f =
        let range = from_range first key e in
        let one : key / 65536 ≡ first / 65536 = same_type (from_be_bytes w32 kind) first key (omega (arith, start)) range.0 range.1 in
        let same : r.resource.kind ≡ kind = sym told.0 ∙ ap (to_be_bytes w32) one ∙ kinds in
        sym ((bytes_eq-Decides r.resource.kind kind).1 same) ∙ f

types_from : {D : Type 0} (kind : List ℕ) (first at : ℕ) (rows : List (Row D)) → All IsKept rows → first ≡ key_of_resource kind (pos 0) → to_be_bytes w32 (first / 65536) ≡ kind
    → list_any (λ p. is_key_of first p.key) (pairs_from resource_key at rows) ≡ list_any (is_of_type kind) rows
types_from kind first at [] all start kinds = refl
types_from kind first at (r ∷ rows) all start kinds =
    any_with (λ p. is_key_of first p.key) (record { key = key_of_resource r.resource.kind r.resource.id; place = at }) (pairs_from resource_key (at + 1) rows)
    ∙ ap (λ (b : Bool). b || list_any (λ p. is_key_of first p.key) (pairs_from resource_key (at + 1) rows)) (type_by_key kind first r (All-head IsKept r rows all).0 start kinds)
    ∙ ap (λ (b : Bool). is_of_type kind r || b) (types_from kind first (at + 1) rows (All-tail IsKept r rows all) start kinds)

-- the first pair from the key on decides
module _ {D : Type 0} (kind : List ℕ) (rows : List (Row D)) (ps rest : List Pair) (first : ℕ) (is : ps ≡ pairs_of resource_key rows) (all : All IsKept rows) (start : first ≡ key_of_resource kind (pos 0))
    (kinds : to_be_bytes w32 (first / 65536) ≡ kind) (left : rest ≡ drop (rank (record { key = first; place = 0 }) ps) ps) where
  by_rest : list_any (is_of_type kind) rows ≡ list_any (λ p. is_key_of first p.key) rest
  by_rest =
      sym (ap (list_any (λ p. is_key_of first p.key)) is ∙ types_from kind first 0 rows all start kinds)
      ∙ any_from (λ p. is_key_of first p.key) first ps (λ p less. before_range first p.key less) ∙ ap (list_any (λ p. is_key_of first p.key)) (sym left)

  pub none_of_type : length rest ≤ 0 → list_any (is_of_type kind) rows ≡ false
  none_of_type none = by_rest ∙ by rest none
    where
      by : (rest : List Pair) → length rest ≤ 0 → list_any (λ p. is_key_of first p.key) rest ≡ false
      by [] few = refl
      by (q ∷ qs) few = absurd (omega (arith, few))

  pub first_tells : (p : Pair) → AreInOrder ps → 0 < length rest → p ≡ get_or rest 0 p → list_any (is_of_type kind) rows ≡ nat_lt p.key (first + 65536)
  first_tells p order some read = by_rest ∙ by rest some read (subst AreInOrder (sym left) (order_dropped ps (rank (record { key = first; place = 0 }) ps) order)) least
    where
      least : first ≤ p.key
      least = subst (λ (q : Pair). first ≤ q.key) (sym (read ∙ ap (λ (qs : List Pair). get_or qs 0 p) left)) (least_key first ps 0 p order (subst (λ (qs : List Pair). 0 < length qs) left some))

      by : (rest : List Pair) → 0 < length rest → p ≡ get_or rest 0 p → AreInOrder rest → first ≤ p.key → list_any (λ p. is_key_of first p.key) rest ≡ nat_lt p.key (first + 65536)
      by [] some read order low = absurd (omega (arith, some))
      by (q ∷ qs) some read order low =
          ap (λ (x : Pair). is_key_of first x.key || list_any (λ p. is_key_of first p.key) qs) (sym read) ∙ step (nat_lt p.key (first + 65536)) refl
        where
          step : (b : Bool) → nat_lt p.key (first + 65536) ≡ b → (is_key_of first p.key || list_any (λ p. is_key_of first p.key) qs) ≡ b
          step true e = let near = ltb-true p.key (first + 65536) e in ap (λ (b : Bool). b || list_any (λ p. is_key_of first p.key) qs) (in_range first p.key low near)
          step false e =
              let far = ltb-false p.key (first + 65536) e in
              ap (λ (b : Bool). b || list_any (λ p. is_key_of first p.key) qs) (past_range first p.key far)
              ∙ none_after (λ p. is_key_of first p.key) p qs (subst (λ (x : Pair). NoneBefore x qs) (sym read) order.0) (λ x after. past_range first x.key (omega (arith, far, after)))
