-- A row is found by the key of its type and id.
use Rattle.std.proofs.Common.{◌≡◌, refl, sym, ap, ◌∙◌, arith, ℕ, ℤ, zero, suc, ◌+◌, ◌<◌, subst, List, [], ◌∷◌, length, get_or, set, take, drop, remove, Bool, true, false, Some, None, position, bytes_eq, if◌then◌else◌}
use Rattle.std.specs.Prelude.{◌&&◌, ◌==◌, ◌≤◌, ◌*◌, ◌/◌, ◌%◌, All, insert}
use Rattle.std.specs.Int.{w16, w32, cast_signed, to_be_bytes}
use Rattle.std.specs.List.{position_from}
use Rattle.std.specs.Ordering.{int_eq}
use Rattle.std.proofs.lemmas.Bool.Decides.{nat_tests, Decides-eqb, Decides-int_eq}
use Rattle.std.proofs.lemmas.List.Elements.{All-append, All-cons, All-drop, All-head, All-set, All-tail, All-take}
use Rattle.std.proofs.lemmas.List.Quantifiers.{position-Some}
use Rattle.std.proofs.lemmas.List.Sums.{sum_by-cons}
use Rattle.std.proofs.lemmas.Iterator.Adapters.{position_from-zero}
use Rattle.std.proofs.lemmas.Slice.Eq.{bytes_eq-Decides}
use Rattle.std.proofs.lemmas.Bool.{and_parts}
use Rattle.res_table.specs.declared.row.Row.{Row}
use Rattle.res_table.specs.Rows.{is_resource, name_size, names_size}
use Rattle.res_table.specs.Keyed.{key_of_resource, first_place}
use Rattle.res_table.specs.Indexed.{resource_key, pairs_of, most_name_size, IsKept}
use Rattle.res_table.proofs.RowPairs.{has_key, first_is}

-- a test that is passed only where another is
none_where_none : {X : Type 0} (p q : X → Bool) (at : ℕ) (xs : List X) → ((x : X) → q x ≡ true → p x ≡ true) → position_from p at xs ≡ None → position_from q at xs ≡ None
none_where_none p q at [] only none = refl
none_where_none p q at (x ∷ xs) only none = by (p x) (q x) refl refl none (none_where_none p q (at + 1) xs only)
  where
    by : (b c : Bool) → p x ≡ b → q x ≡ c → (if b then Some at else position_from p (at + 1) xs) ≡ None → (position_from p (at + 1) xs ≡ None → position_from q (at + 1) xs ≡ None)
        → (if c then Some at else position_from q (at + 1) xs) ≡ None
    by true c e f none deeper = absurd (cc none)
    by false true e f none deeper = absurd (let is = only x f in cc)
    by false false e f none deeper = deeper none

some_where_some : {X : Type 0} (p q : X → Bool) (at i : ℕ) (d : X) (xs : List X) → ((x : X) → q x ≡ true → p x ≡ true) → position_from p at xs ≡ Some (at + i) → q (get_or xs i d) ≡ true → i < length xs
    → position_from q at xs ≡ Some (at + i)
some_where_some p q at i d [] only found is within = absurd (omega arith)
some_where_some p q at zero d (x ∷ xs) only found is within = ap (λ (b : Bool). if b then Some at else position_from q (at + 1) xs) is ∙ (let e : at ≡ at + 0 = omega arith in ap Some e)
some_where_some p q at (suc i) d (x ∷ xs) only found is within = by (p x) (q x) refl refl found (λ now. some_where_some p q (at + 1) i d xs only now is (omega arith))
  where
    same : (m n : ℕ) → Some m ≡ Some n → m ≡ n
    same m n e = cc

    next : at + suc i ≡ at + 1 + i
    next = omega arith

    by : (b c : Bool) → p x ≡ b → q x ≡ c → (if b then Some at else position_from p (at + 1) xs) ≡ Some (at + suc i)
        → (position_from p (at + 1) xs ≡ Some (at + 1 + i) → position_from q (at + 1) xs ≡ Some (at + 1 + i))
        → (if c then Some at else position_from q (at + 1) xs) ≡ Some (at + suc i)
    by true c e f now deeper = absurd (let one = same at (at + suc i) now in omega arith)
    by false true e f now deeper = absurd (let that = only x f in cc)
    by false false e f now deeper = deeper (now ∙ ap Some next) ∙ ap Some (sym next)

-- a row with the type and the id has their key
same_number : (n : ℕ) → (n == n) ≡ true
same_number n = grind (arith, nat_tests)

with_its_key : {D : Type 0} (kind : List ℕ) (id : ℤ) (r : Row D) → is_resource kind id r ≡ true → has_key resource_key (key_of_resource kind id) r ≡ true
with_its_key kind id r is =
    let parts = and_parts (bytes_eq r.resource.kind kind) (int_eq r.resource.id id) is in
    let kinds : r.resource.kind ≡ kind = (bytes_eq-Decides r.resource.kind kind).0 parts.0 in
    let ids : r.resource.id ≡ id = (Decides-int_eq r.resource.id id).0 parts.1 in
    ap (λ (k : List ℕ). key_of_resource k r.resource.id == key_of_resource kind id) kinds
    ∙ ap (λ (n : ℤ). key_of_resource kind n == key_of_resource kind id) ids ∙ same_number (key_of_resource kind id)

pub none_found : {D : Type 0} (kind : List ℕ) (id : ℤ) (rows : List (Row D)) → first_place (key_of_resource kind id) (pairs_of resource_key rows) ≡ None → position (is_resource kind id) rows ≡ None
none_found kind id rows none =
    position_from-zero (is_resource kind id) rows
    ∙ none_where_none (has_key resource_key (key_of_resource kind id)) (is_resource kind id) 0 rows (with_its_key kind id)
    (sym (position_from-zero (has_key resource_key (key_of_resource kind id)) rows) ∙ sym (first_is resource_key (key_of_resource kind id) rows) ∙ none)

pub found_within : {D : Type 0} (k i : ℕ) (rows : List (Row D)) → first_place k (pairs_of resource_key rows) ≡ Some i → i < length rows
found_within k i [] found = absurd (cc found)
found_within k i (r ∷ rows) found = (position-Some (has_key resource_key k) (r ∷ rows) i r (sym (first_is resource_key k (r ∷ rows)) ∙ found)).0

pub one_found : {D : Type 0} (kind : List ℕ) (id : ℤ) (i : ℕ) (r : Row D) (rows : List (Row D)) → first_place (key_of_resource kind id) (pairs_of resource_key rows) ≡ Some i → r ≡ get_or rows i r → is_resource kind id r ≡ true
    → position (is_resource kind id) rows ≡ Some i
one_found kind id i r rows found read is =
    let start : 0 + i ≡ i = omega arith in
    position_from-zero (is_resource kind id) rows
    ∙ some_where_some (has_key resource_key (key_of_resource kind id)) (is_resource kind id) 0 i r rows (with_its_key kind id)
    (sym (position_from-zero (has_key resource_key (key_of_resource kind id)) rows) ∙ sym (first_is resource_key (key_of_resource kind id) rows) ∙ found ∙ ap Some (sym start))
    (sym (ap (is_resource kind id) read) ∙ is) (found_within (key_of_resource kind id) i rows found)
    ∙ ap Some start

-- a key that is found is the row's
pub key_found : {D : Type 0} (k i : ℕ) (r : Row D) (rows : List (Row D)) → first_place k (pairs_of resource_key rows) ≡ Some i → r ≡ get_or rows i r → (key_of_resource r.resource.kind r.resource.id == k) ≡ true
key_found k i r rows found read =
    ap (has_key resource_key k) read ∙ (position-Some (has_key resource_key k) rows i r (sym (first_is resource_key k rows) ∙ found)).1

-- types and ids that can be read from their keys are known by them
pub told_by_key : {D : Type 0} (kind : List ℕ) (id : ℤ) (r : Row D) (k l : ℕ) → k ≡ key_of_resource r.resource.kind r.resource.id → l ≡ key_of_resource kind id
    → to_be_bytes w32 (k / 65536) ≡ r.resource.kind → cast_signed w16 (k % 65536) ≡ r.resource.id → to_be_bytes w32 (l / 65536) ≡ kind → cast_signed w16 (l % 65536) ≡ id
    → (k == l) ≡ is_resource kind id r
told_by_key kind id r k l is is' kinds ids kinds' ids' = by (k == l) (is_resource kind id r) refl refl
  where
    by : (b c : Bool) → (k == l) ≡ b → is_resource kind id r ≡ c → b ≡ c
    by true true e f = refl
    by false false e f = refl
    by false true e f = sym e ∙ (ap (λ (n : ℕ). n == l) is ∙ ap (λ (n : ℕ). key_of_resource r.resource.kind r.resource.id == n) is' ∙ with_its_key kind id r f)
    by true false e f =
        let same : k ≡ l = (Decides-eqb k l).0 e in
        let one_kind : r.resource.kind ≡ kind = sym kinds ∙ ap (λ (n : ℕ). to_be_bytes w32 (n / 65536)) same ∙ kinds' in
        let one_id : r.resource.id ≡ id = sym ids ∙ ap (λ (n : ℕ). cast_signed w16 (n % 65536)) same ∙ ids' in
        sym (ap (λ (b : Bool). b && int_eq r.resource.id id) ((bytes_eq-Decides r.resource.kind kind).1 one_kind) ∙ (Decides-int_eq r.resource.id id).1 one_id) ∙ f

-- types and ids are known by their keys where a row is put in, taken out, or changed in other ways
pub told_inserted : {D : Type 0} (i : ℕ) (r : Row D) (rows : List (Row D)) → IsKept r → All IsKept rows → All IsKept (insert rows i r)
told_inserted i r rows told all =
    All-append IsKept (take i rows) (r ∷ drop i rows) (All-take IsKept i rows all) (All-cons IsKept r (drop i rows) told (All-drop IsKept i rows all))

pub told_removed : {D : Type 0} (i : ℕ) (rows : List (Row D)) → All IsKept rows → All IsKept (remove rows i)
told_removed i rows all = All-append IsKept (take i rows) (drop (suc i) rows) (All-take IsKept i rows all) (All-drop IsKept (suc i) rows all)

pub told_kept : {D : Type 0} (i : ℕ) (r new : Row D) (rows : List (Row D)) → i < length rows → r ≡ get_or rows i r → (IsKept r → IsKept new) → All IsKept rows → All IsKept (set rows i new)
told_kept i r new rows within is same all = All-set IsKept rows i new (same (subst IsKept (sym is) (all i r within))) all

-- how many bytes the names of rows take at most
pub names_few : {D : Type 0} (rows : List (Row D)) → All IsKept rows → names_size rows ≤ most_name_size * length rows
names_few [] all = omega arith
names_few (r ∷ rows) all =
    let one = (All-head IsKept r rows all).1 in let more = names_few rows (All-tail IsKept r rows all) in
    let sum : names_size (r ∷ rows) ≡ name_size r + names_size rows = sum_by-cons name_size r rows in omega (arith, one, more, sum)
