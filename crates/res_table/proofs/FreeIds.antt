-- Ids that rows of a type have, and the first that none has.
use Rattle.std.proofs.Common.{◌≡◌, refl, sym, ap, ◌∙◌, arith, ℕ, ℤ, zero, suc, ◌+◌, ◌-◌, ◌*◌, ◌<◌, ◌≤◌, pos, w16, List, [], ◌∷◌, length, Bool, true, false, ◌||◌, ◌==◌, bytes_eq, if◌then◌else◌}
use Rattle.std.specs.Prelude.{◌/◌, ◌%◌, All}
use Rattle.std.specs.Int.{w32, cast_signed, from_be_bytes, to_be_bytes}
use Rattle.std.specs.List.{list_any}
use Rattle.std.specs.Ordering.{int_eq}
use Rattle.std.proofs.Math.IntN.{nat_abs}
use Rattle.std.proofs.lemmas.Bool.{and_parts}
use Rattle.std.proofs.lemmas.Bool.Decides.{Decides-int_eq}
use Rattle.std.proofs.lemmas.Int.{ints}
use Rattle.std.proofs.lemmas.List.Elements.{All-head, All-tail}
use Rattle.res_table.specs.declared.row.Row.{Row}
use Rattle.res_table.specs.declared.keyed.Pair.{Pair}
use Rattle.res_table.specs.Keyed.{key_of_resource, has_pair}
use Rattle.res_table.specs.Indexed.{resource_key, pairs_from, pairs_of, IsKept}
use Rattle.res_table.specs.Rows.{is_resource, free_id_from, unique_id, largest_id, AreTaken, IsFree}
use Rattle.res_table.proofs.RowPairs.{has_key}
use Rattle.res_table.proofs.AnyPair.{any_with}
use Rattle.res_table.proofs.Resources.{told_by_key}

-- a pair of rows has the key of one of them
has_from : {D : Type 0} (k at : ℕ) (rows : List (Row D)) → has_pair k (pairs_from resource_key at rows) ≡ list_any (has_key resource_key k) rows
has_from k at [] = refl
has_from k at (r ∷ rows) =
    any_with (λ p. p.key == k) (record { key = key_of_resource r.resource.kind r.resource.id; place = at }) (pairs_from resource_key (at + 1) rows) ∙ ap (λ (t : Bool). has_key resource_key k r || t) (has_from k (at + 1) rows)

-- and so that row's type and id
told_any : {D : Type 0} (kind : List ℕ) (id : ℤ) (k : ℕ) (rows : List (Row D)) → k ≡ key_of_resource kind id → to_be_bytes w32 (k / 65536) ≡ kind → cast_signed w16 (k % 65536) ≡ id → All IsKept rows
    → list_any (has_key resource_key k) rows ≡ list_any (is_resource kind id) rows
told_any kind id k [] is kinds ids all = refl
told_any kind id k (r ∷ rows) is kinds ids all =
    let told = All-head IsKept r rows all in
    ap (λ (t : Bool). t || list_any (has_key resource_key k) rows) (told_by_key kind id r _ k refl is told.0.0 told.0.1 kinds ids)
    ∙ ap (λ (t : Bool). is_resource kind id r || t) (told_any kind id k rows is kinds ids (All-tail IsKept r rows all))

-- the keys of ids from 0 on follow one another
high : (n first m : ℕ) → first ≡ n * 65536 → m ≤ 32767 → (first + m) / 65536 ≡ first / 65536
high n first m start small = omega arith

low : (n first m : ℕ) → first ≡ n * 65536 → m ≤ 32767 → (first + m) % 65536 ≡ m
low n first m start small = omega arith

as_signed : (n : ℕ) → n < 32768 → cast_signed w16 n ≡ pos n
as_signed n small = omega (arith, ints)

module _ {D : Type 0} (kind : List ℕ) (rows : List (Row D)) (ps : List Pair) (first : ℕ) (is : ps ≡ pairs_of resource_key rows) (all : All IsKept rows) (start : first ≡ key_of_resource kind (pos 0))
    (kinds : to_be_bytes w32 (first / 65536) ≡ kind) where
  id_taken : (m : ℕ) → m ≤ 32767 → list_any (is_resource kind (pos m)) rows ≡ has_pair (first + m) ps
  id_taken m small =
      let key : first + m ≡ key_of_resource kind (pos m) = omega arith in
      let its = ap (to_be_bytes w32) (high (from_be_bytes w32 kind) first m (omega arith) small) ∙ kinds in
      let ids = ap (cast_signed w16) (low (from_be_bytes w32 kind) first m (omega arith) small) ∙ as_signed m (omega arith) in
      sym (ap (has_pair (first + m)) is ∙ has_from (first + m) 0 rows ∙ told_any kind (pos m) (first + m) rows key its ids all)

  -- ids are taken where their keys are
  pub ids_taken : (id free to : ℕ) → ((k : ℕ) → first + id ≤ k → k < free → has_pair k ps ≡ true) → first + to ≤ free → to ≤ 32768 → AreTaken kind id to rows
  ids_taken id free to taken most small m least less = id_taken m (omega arith) ∙ taken (first + m) (omega arith) (omega arith)

  -- and free where their keys are
  pub id_free : (free : ℕ) → has_pair free ps ≡ false → first ≤ free → free - first ≤ 32767 → IsFree kind (free - first) rows
  id_free free none least small = let end : first + (free - first) ≡ free = omega arith in id_taken (free - first) small ∙ ap (λ (k : ℕ). has_pair k ps) end ∙ none

-- the first id that isn't taken, where those before it are
pub free_after : {D : Type 0} (kind : List ℕ) (rows : List (Row D)) (n first place : ℕ) → place ≤ n
    → ((k : ℕ) → k < place → list_any (is_resource kind (pos (first + k))) rows ≡ true) → list_any (is_resource kind (pos (first + place))) rows ≡ false
    → free_id_from n first kind rows ≡ first + place
free_after kind rows zero first place few taken free = omega arith
free_after kind rows (suc n) first zero few taken free =
    let e : first + 0 ≡ first = omega arith in
    ap (λ (b : Bool). if b then free_id_from n (first + 1) kind rows else first) (ap (λ (at : ℕ). list_any (is_resource kind (pos at)) rows) (sym e) ∙ free) ∙ omega arith
free_after kind rows (suc n) first (suc place) few taken free =
    let here : first + 0 ≡ first = omega arith in
    let next : (first + 1) + place ≡ first + suc place = omega arith in
    ap (λ (b : Bool). if b then free_id_from n (first + 1) kind rows else first) (ap (λ (at : ℕ). list_any (is_resource kind (pos at)) rows) (sym here) ∙ taken 0 (omega arith))
    ∙ free_after kind rows n (first + 1) place (omega arith)
    (λ k below. let step : (first + 1) + k ≡ first + suc k = omega arith in ap (λ (at : ℕ). list_any (is_resource kind (pos at)) rows) step ∙ taken (suc k) (omega arith))
    (ap (λ (at : ℕ). list_any (is_resource kind (pos at)) rows) next ∙ free)
    ∙ next

-- it isn't among those that are taken
free_past : {D : Type 0} (kind : List ℕ) (rows : List (Row D)) (n first place : ℕ) → place ≤ n → AreTaken kind first (first + place) rows → first + place ≤ free_id_from n first kind rows
free_past kind rows n first zero few taken = least n first
  where
    least : (n first : ℕ) → first + 0 ≤ free_id_from n first kind rows
    least zero first = omega arith
    least (suc n) first = by (list_any (is_resource kind (pos first)) rows) (least n (first + 1))
      where
        by : (b : Bool) → first + 1 + 0 ≤ free_id_from n (first + 1) kind rows → first + 0 ≤ (if b then free_id_from n (first + 1) kind rows else first)
        by true deeper = omega arith
        by false deeper = omega arith
free_past kind rows zero first (suc place) few taken = absurd (omega arith)
free_past kind rows (suc n) first (suc place) few taken =
    let deeper = free_past kind rows n (first + 1) place (omega arith) (λ id least less. taken id (omega arith) (omega arith)) in
    let here = ap (λ (b : Bool). if b then free_id_from n (first + 1) kind rows else first) (taken first (omega arith) (omega arith)) in
    omega (arith, here, deeper)

-- how many of n ids are that of a row
abbrev of_row : {D : Type 0} → List ℕ → ℕ → ℕ → Row D → ℕ
of_row kind first zero r = 0
of_row kind first (suc n) r = (if is_resource kind (pos (first + n)) r then 1 else 0) + of_row kind first n r

abbrev of_rows : {D : Type 0} → List ℕ → ℕ → ℕ → List (Row D) → ℕ
of_rows kind first n [] = 0
of_rows kind first n (r ∷ rows) = of_row kind first n r + of_rows kind first n rows

same_id : {D : Type 0} (kind : List ℕ) (m k : ℕ) (r : Row D) → is_resource kind (pos m) r ≡ true → is_resource kind (pos k) r ≡ true → m ≡ k
same_id kind m k r one other =
    let first = and_parts (bytes_eq r.resource.kind kind) (int_eq r.resource.id (pos m)) one in
    let second = and_parts (bytes_eq r.resource.kind kind) (int_eq r.resource.id (pos k)) other in
    ap nat_abs (sym ((Decides-int_eq r.resource.id (pos m)).0 first.1) ∙ (Decides-int_eq r.resource.id (pos k)).0 second.1)

-- a row has one id
no_other : {D : Type 0} (kind : List ℕ) (first m n : ℕ) (r : Row D) → is_resource kind (pos (first + m)) r ≡ true → n ≤ m → of_row kind first n r ≡ 0
no_other kind first m zero r is few = refl
no_other kind first m (suc n) r is few = by (is_resource kind (pos (first + n)) r) refl (no_other kind first m n r is (omega arith))
  where
    by : (b : Bool) → is_resource kind (pos (first + n)) r ≡ b → of_row kind first n r ≡ 0 → (if b then 1 else 0) + of_row kind first n r ≡ 0
    by true other deeper = let same = same_id kind (first + m) (first + n) r is other in absurd (omega (arith, same, few))
    by false other deeper = omega arith

one_at_most : {D : Type 0} (kind : List ℕ) (first n : ℕ) (r : Row D) → of_row kind first n r ≤ 1
one_at_most kind first zero r = omega arith
one_at_most kind first (suc n) r = by (is_resource kind (pos (first + n)) r) refl (one_at_most kind first n r)
  where
    by : (b : Bool) → is_resource kind (pos (first + n)) r ≡ b → of_row kind first n r ≤ 1 → (if b then 1 else 0) + of_row kind first n r ≤ 1
    by true is deeper = let none = no_other kind first n n r is (omega arith) in omega (arith, none)
    by false is deeper = omega arith

all_at_most : {D : Type 0} (kind : List ℕ) (first n : ℕ) (rows : List (Row D)) → of_rows kind first n rows ≤ length rows
all_at_most kind first n [] = omega arith
all_at_most kind first n (r ∷ rows) = let one = one_at_most kind first n r in let deeper = all_at_most kind first n rows in omega arith

-- one more that is taken is that of one more row
more_rows : {D : Type 0} (kind : List ℕ) (first n : ℕ) (rows : List (Row D)) → of_rows kind first n rows ≤ of_rows kind first (suc n) rows
more_rows kind first n [] = omega arith
more_rows {D} kind first n (r ∷ rows) = by (is_resource kind (pos (first + n)) r) (more_rows kind first n rows)
  where
    by : (b : Bool) → of_rows kind first n rows ≤ of_rows kind first (suc n) rows
        → of_row kind first n r + of_rows kind first n rows ≤ ((if b then 1 else 0) + of_row kind first n r) + of_rows kind first (suc n) rows
    by true deeper = omega arith
    by false deeper = omega arith

one_more_row : {D : Type 0} (kind : List ℕ) (first n : ℕ) (rows : List (Row D)) → list_any (is_resource kind (pos (first + n))) rows ≡ true → suc (of_rows kind first n rows) ≤ of_rows kind first (suc n) rows
one_more_row kind first n [] taken = absurd (cc taken)
one_more_row kind first n (r ∷ rows) taken = by (is_resource kind (pos (first + n)) r) taken (one_more_row kind first n rows)
  where
    by : (b : Bool) → (b || list_any (is_resource kind (pos (first + n))) rows) ≡ true → (list_any (is_resource kind (pos (first + n))) rows ≡ true → suc (of_rows kind first n rows) ≤ of_rows kind first (suc n) rows)
        → suc (of_row kind first n r + of_rows kind first n rows) ≤ ((if b then 1 else 0) + of_row kind first n r) + of_rows kind first (suc n) rows
    by true is deeper = let more = more_rows kind first n rows in omega arith
    by false is deeper = let later = deeper is in omega arith

-- there are as many rows as ids that are taken
enough_rows : {D : Type 0} (kind : List ℕ) (first n : ℕ) (rows : List (Row D)) → AreTaken kind first (first + n) rows → n ≤ of_rows kind first n rows
enough_rows kind first zero rows taken = omega arith
enough_rows kind first (suc n) rows taken =
    let deeper = enough_rows kind first n rows (λ id least less. taken id least (omega arith)) in
    let one = one_more_row kind first n rows (taken (first + n) (omega arith) (omega arith)) in omega arith

few_taken : {D : Type 0} (kind : List ℕ) (first to : ℕ) (rows : List (Row D)) → AreTaken kind first to rows → to ≤ first + length rows
few_taken kind first to rows taken =
    let enough = enough_rows kind first (to - first) rows (λ id least less. taken id least (omega arith)) in
    let most = all_at_most kind first (to - first) rows in omega arith

-- the least id that is free, where those before it are taken
pub unique_is : {D : Type 0} (kind : List ℕ) (id : ℕ) (rows : List (Row D)) → 128 ≤ id → AreTaken kind 128 id rows → IsFree kind id rows → unique_id kind rows ≡ id
unique_is kind id rows least taken free =
    let few = few_taken kind 128 id rows taken in let end : 128 + (id - 128) ≡ id = omega arith in
    free_after kind rows (length rows) 128 (id - 128) (omega arith) (λ k below. taken (128 + k) (omega arith) (omega arith))
    (ap (λ (n : ℕ). list_any (is_resource kind (pos n)) rows) end ∙ free) ∙ end

-- and where none is
pub none_unique : {D : Type 0} (kind : List ℕ) (rows : List (Row D)) → AreTaken kind 128 (largest_id + 1) rows → (largest_id < unique_id kind rows) × (32640 ≤ length rows)
none_unique kind rows taken =
    let few = few_taken kind 128 (largest_id + 1) rows taken in
    let after = free_past kind rows (length rows) 128 32640 (omega arith) taken in (omega arith, omega arith)
