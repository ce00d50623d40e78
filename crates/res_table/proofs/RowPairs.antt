-- The pairs of rows.
use Rattle.std.proofs.Common.{ℤ, ◌≡◌, refl, sym, ap, ◌∙◌, subst, arith, ℕ, zero, suc, ◌+◌, ◌<◌, ◌≤◌, List, [], ◌∷◌, ◌++◌, length, map, get_or, set, remove, slice_get, Bool, false, ◌==◌, Option, Some, None, position, if◌then◌else◌}
use Rattle.std.specs.Prelude.{option_map, insert, All}
use Rattle.std.specs.List.{position_from}
use Rattle.std.proofs.lemmas.Iterator.Adapters.{position_from-zero}
use Rattle.res_table.specs.declared.row.Row.{Row}
use Rattle.res_table.specs.declared.keyed.Pair.{Pair}
use Rattle.std.specs.Option.{option_map_or}
use Rattle.std.proofs.lemmas.List.{length-set}
use Rattle.mac_base.specs.declared.resource.Resource.{Resource}
use Rattle.res_table.specs.Rows.{has_handle, changed_at, opened_row}
use Rattle.res_table.specs.Keyed.{key_of_handle, key_of_resource, with_pair, with_key, without_key, pushed_back, pulled_up, first_place, AreInOrder, in_order}
use Rattle.res_table.specs.Indexed.{handle_key, resource_key, pairs_from, pairs_of}
use Rattle.res_table.proofs.HandleKeys.{key_tells}
use Rattle.res_table.proofs.Pairs.{AreBelow, AreFrom, before, after, below_at, below_with, commute_key, first_with, from_less, from_with, length-with, order_pushed_from, order_with, pull_push, push_at, without_key_with}

-- all rows are after the index
pub push_all : {D : Type 0} (key : Row D → Option ℕ) (k at : ℕ) (rows : List (Row D)) → k ≤ at → map (pushed_back k) (pairs_from key at rows) ≡ pairs_from key (at + 1) rows
push_all key k at [] least = refl
push_all key k at (r ∷ rows) least =
    push_at k at (at + 1) (key r) (pairs_from key (at + 1) rows) (λ g. after k at g least)
    ∙ ap (with_key (key r) (at + 1)) (push_all key k (at + 1) rows (omega arith))

-- a row is put in
pub pairs_insert : {D : Type 0} (key : Row D → Option ℕ) (at i k : ℕ) (r : Row D) (rows : List (Row D)) → k ≡ at + i → i ≤ length rows
    → pairs_from key at (insert rows i r) ≡ with_key (key r) k (map (pushed_back k) (pairs_from key at rows))
pairs_insert key at zero k r rows is within = let e : k ≡ at = omega arith in
    rw e (ap (with_key (key r) at) (sym (push_all key at at rows (omega arith))))
pairs_insert key at (suc i) k r [] is within = absurd (omega arith)
pairs_insert key at (suc i) k r (q ∷ qs) is within =
    ap (with_key (key q) at) (pairs_insert key (at + 1) i k r qs (omega arith) (omega arith))
    ∙ commute_key (key q) (key r) at k (map (pushed_back k) (pairs_from key (at + 1) qs))
    ∙ ap (with_key (key r) k) (sym (push_at k at at (key q) (pairs_from key (at + 1) qs) (λ g. before k at g (omega arith))))

-- what is taken out of a list and put in again, or something else in its place
insert_removed : {X : Type 0} (xs : List X) (i : ℕ) (d : X) → i < length xs → insert (remove xs i) i (get_or xs i d) ≡ xs
insert_removed [] i d within = absurd (omega arith)
insert_removed (x ∷ xs) zero d within = refl
insert_removed (x ∷ xs) (suc i) d within = ap (λ (ys : List _). x ∷ ys) (insert_removed xs i d (omega arith))

insert_set : {X : Type 0} (xs : List X) (i : ℕ) (x : X) → i < length xs → insert (remove xs i) i x ≡ set xs i x
insert_set [] i x within = absurd (omega arith)
insert_set (y ∷ ys) zero x within = refl
insert_set (y ∷ ys) (suc i) x within = ap (λ (zs : List _). y ∷ zs) (insert_set ys i x (omega arith))

still_within : {X : Type 0} (xs : List X) (i : ℕ) → i < length xs → i ≤ length (remove xs i)
still_within [] i within = absurd (omega arith)
still_within (x ∷ xs) zero within = omega arith
still_within (x ∷ xs) (suc i) within = let deeper = still_within xs i (omega arith) in omega arith

-- a row is taken out
pub pairs_removed : {D : Type 0} (key : Row D → Option ℕ) (i : ℕ) (r : Row D) (rows : List (Row D)) → i < length rows → r ≡ get_or rows i r
    → map (pulled_up i) (without_key (key r) i (pairs_of key rows)) ≡ pairs_of key (remove rows i)
pairs_removed key i r rows within is =
    ap (λ (rs : List (Row _)). map (pulled_up i) (without_key (key r) i (pairs_of key rs))) (sym (ap (insert (remove rows i) i) is ∙ insert_removed rows i r within))
    ∙ ap (λ (ps : List Pair). map (pulled_up i) (without_key (key r) i ps)) (pairs_insert key 0 i i r (remove rows i) (omega arith) (still_within rows i within))
    ∙ ap (map (pulled_up i)) (without_key_with (key r) i _)
    ∙ pull_push i (pairs_of key (remove rows i))

-- a row changes its key
pub pairs_set : {D : Type 0} (key : Row D → Option ℕ) (i : ℕ) (r new : Row D) (rows : List (Row D)) → i < length rows → r ≡ get_or rows i r
    → with_key (key new) i (without_key (key r) i (pairs_of key rows)) ≡ pairs_of key (set rows i new)
pairs_set key i r new rows within is =
    ap (λ (rs : List (Row _)). with_key (key new) i (without_key (key r) i (pairs_of key rs))) (sym (ap (insert (remove rows i) i) is ∙ insert_removed rows i r within))
    ∙ ap (λ (ps : List Pair). with_key (key new) i (without_key (key r) i ps)) (pairs_insert key 0 i i r (remove rows i) (omega arith) (still_within rows i within))
    ∙ ap (with_key (key new) i) (without_key_with (key r) i _)
    ∙ sym (pairs_insert key 0 i i new (remove rows i) (omega arith) (still_within rows i within))
    ∙ ap (pairs_of key) (insert_set rows i new within)

-- or keeps it
pub pairs_kept : {D : Type 0} (key : Row D → Option ℕ) (at i : ℕ) (r new : Row D) (rows : List (Row D)) → r ≡ get_or rows i r → key new ≡ key r → pairs_from key at (set rows i new) ≡ pairs_from key at rows
pairs_kept key at i r new [] is kept = refl
pairs_kept key at zero r new (q ∷ qs) is kept = ap (λ (k : Option ℕ). with_key k at (pairs_from key (at + 1) qs)) (kept ∙ ap key is)
pairs_kept key at (suc i) r new (q ∷ qs) is kept = ap (with_key (key q) at) (pairs_kept key (at + 1) i r new qs is kept)

-- there are no more of them than rows
pub few_pairs : {D : Type 0} (key : Row D → Option ℕ) (at : ℕ) (rows : List (Row D)) → length (pairs_from key at rows) ≤ length rows
few_pairs key at [] = omega arith
few_pairs key at (r ∷ rows) = by (key r) (few_pairs key (at + 1) rows)
  where
    by : (k : Option ℕ) → length (pairs_from key (at + 1) rows) ≤ length rows → length (with_key k at (pairs_from key (at + 1) rows)) ≤ suc (length rows)
    by None deeper = omega arith
    by (Some k) deeper = let one = length-with (record { key = k; place = at }) (pairs_from key (at + 1) rows) in omega arith

-- they are in order
pub pairs_in_order : {D : Type 0} (key : Row D → Option ℕ) (at : ℕ) (rows : List (Row D)) → AreInOrder (pairs_from key at rows)
pairs_in_order key at [] = tt
pairs_in_order key at (r ∷ rows) = by (key r) (pairs_in_order key (at + 1) rows)
  where
    by : (k : Option ℕ) → AreInOrder (pairs_from key (at + 1) rows) → AreInOrder (with_key k at (pairs_from key (at + 1) rows))
    by None deeper = deeper
    by (Some k) deeper = order_with _ (pairs_from key (at + 1) rows) deeper

-- each is of a row from the first on
pairs_are_from : {D : Type 0} (key : Row D → Option ℕ) (at : ℕ) (rows : List (Row D)) → AreFrom at (pairs_from key at rows)
pairs_are_from key at [] = tt
pairs_are_from key at (r ∷ rows) = by (key r) (from_less at (at + 1) (pairs_from key (at + 1) rows) (omega arith) (pairs_are_from key (at + 1) rows))
  where
    by : (k : Option ℕ) → AreFrom at (pairs_from key (at + 1) rows) → AreFrom at (with_key k at (pairs_from key (at + 1) rows))
    by None deeper = deeper
    by (Some k) deeper = from_with at _ (pairs_from key (at + 1) rows) (omega arith) deeper

-- whether a row has the key
abbrev pub has_key : {D : Type 0} → (Row D → Option ℕ) → ℕ → Row D → Bool
has_key key k r = option_map_or (λ g. g == k) (key r) false

first_from : {D : Type 0} (key : Row D → Option ℕ) (k at : ℕ) (rows : List (Row D)) → first_place k (pairs_from key at rows) ≡ position_from (has_key key k) at rows
first_from key k at [] = refl
first_from key k at (r ∷ rows) = by (key r) (first_from key k (at + 1) rows)
  where
    by : (g : Option ℕ) → first_place k (pairs_from key (at + 1) rows) ≡ position_from (has_key key k) (at + 1) rows
        → first_place k (with_key g at (pairs_from key (at + 1) rows)) ≡ (if option_map_or (λ n. n == k) g false then Some at else position_from (has_key key k) (at + 1) rows)
    by None deeper = deeper
    by (Some g) deeper =
        first_with k at g (pairs_from key (at + 1) rows) (pairs_are_from key (at + 1) rows)
        ∙ ap (λ (found : Option ℕ). if g == k then Some at else found) deeper

-- the first place of a key is that of the first row with it
pub first_is : {D : Type 0} (key : Row D → Option ℕ) (k : ℕ) (rows : List (Row D)) → first_place k (pairs_of key rows) ≡ position (has_key key k) rows
first_is key k rows = first_from key k 0 rows ∙ sym (position_from-zero (has_key key k) rows)

-- a row is found by the key of its handle
by_handle_from : {D : Type 0} (h at : ℕ) (rows : List (Row D)) → position_from (has_key handle_key (key_of_handle h)) at rows ≡ position_from (has_handle h) at rows
by_handle_from h at [] = refl
by_handle_from h at (r ∷ rows) = by r.handle (by_handle_from h (at + 1) rows)
  where
    by : (g : Option ℕ) → position_from (has_key handle_key (key_of_handle h)) (at + 1) rows ≡ position_from (has_handle h) (at + 1) rows
        → (if has_key handle_key (key_of_handle h) (record r { handle = g }) then Some at else position_from (has_key handle_key (key_of_handle h)) (at + 1) rows)
        ≡ (if has_handle h (record r { handle = g }) then Some at else position_from (has_handle h) (at + 1) rows)
    by None deeper = deeper
    by (Some g) deeper =
        ap (λ (same : Bool). if same then Some at else position_from (has_key handle_key (key_of_handle h)) (at + 1) rows) (key_tells g h)
        ∙ ap (λ (found : Option ℕ). if g == h then Some at else found) deeper

pub by_handle : {D : Type 0} (h : ℕ) (rows : List (Row D)) → first_place (key_of_handle h) (pairs_of handle_key rows) ≡ position (has_handle h) rows
by_handle h rows = first_from handle_key (key_of_handle h) 0 rows ∙ by_handle_from h 0 rows ∙ sym (position_from-zero (has_handle h) rows)

-- and before the end
pairs_are_below : {D : Type 0} (key : Row D → Option ℕ) (at high : ℕ) (rows : List (Row D)) → at + length rows ≤ high → AreBelow high (pairs_from key at rows)
pairs_are_below key at high [] within = tt
pairs_are_below key at high (r ∷ rows) within = by (key r) (pairs_are_below key (at + 1) high rows (omega arith))
  where
    by : (k : Option ℕ) → AreBelow high (pairs_from key (at + 1) rows) → AreBelow high (with_key k at (pairs_from key (at + 1) rows))
    by None deeper = deeper
    by (Some k) deeper = below_with high _ (pairs_from key (at + 1) rows) (omega arith) deeper

pub places_below : {D : Type 0} (key : Row D → Option ℕ) (count : ℕ) (rows : List (Row D)) → count ≡ length rows → All (λ p. p.place < count) (pairs_of key rows)
places_below key count rows many k d inside = let low = below_at (length rows) (pairs_of key rows) k d (pairs_are_below key 0 (length rows) rows (omega arith)) inside in omega arith

-- a row is read
pub row_is : {D : Type 0} (i : ℕ) (r : Row D) (rows : List (Row D)) → i < length rows → r ≡ get_or rows i r → slice_get rows i ≡ Some r
row_is i r [] within is = absurd (omega arith)
row_is zero r (x ∷ rows) within is = ap Some (sym is)
row_is (suc i) r (x ∷ rows) within is = row_is i r rows (omega arith) is

-- and changed
pub changed_is : {D : Type 0} (i : ℕ) (change : Row D → Row D) (r : Row D) (rows : List (Row D)) → i < length rows → r ≡ get_or rows i r → set rows i (change r) ≡ changed_at i change rows
changed_is i change r rows within is = sym (ap (λ (found : Option (Row _)). option_map_or (λ x. set rows i (change x)) found rows) (row_is i r rows within is))

-- what is kept of pairs beside rows
abbrev pub AreKept : {D : Type 0} → List Pair → ℕ → List (Row D) → Type 0
AreKept ps room rows = (ps ≡ pairs_of handle_key rows) × (length rows ≤ room)

pub kept : {D : Type 0} (i : ℕ) (r new : Row D) (rows : List (Row D)) (ps : List Pair) (room : ℕ) → r ≡ get_or rows i r → new.handle ≡ r.handle → AreKept ps room rows → AreKept ps room (set rows i new)
kept i r new rows ps room is same all = (all.0 ∙ sym (pairs_kept handle_key 0 i r new rows is (ap (option_map key_of_handle) same)), let n = length-set rows i new in let few = all.1 in omega arith)

-- a row that keeps its type and its id
pub resources_kept : {D : Type 0} (i : ℕ) (r new : Row D) (rows : List (Row D)) (ps : List Pair) → r ≡ get_or rows i r → new.resource.kind ≡ r.resource.kind → new.resource.id ≡ r.resource.id
    → ps ≡ pairs_of resource_key rows → ps ≡ pairs_of resource_key (set rows i new)
resources_kept i r new rows ps is kind id all =
    all ∙ sym (pairs_kept resource_key 0 i r new rows is (ap (λ (k : List ℕ). Some (key_of_resource k new.resource.id)) kind ∙ ap (λ (n : ℤ). Some (key_of_resource r.resource.kind n)) id))

pub order_kept : {D : Type 0} (key : Row D → Option ℕ) (ps : List Pair) (rows : List (Row D)) → ps ≡ pairs_of key rows → AreInOrder ps
order_kept key ps rows is = subst AreInOrder (sym is) (pairs_in_order key 0 rows)

-- pairs of rows, one of which is put in
pub pushed_is : {D : Type 0} (key : Row D → Option ℕ) (i : ℕ) (r : Row D) (rows : List (Row D)) → i ≤ length rows → with_key (key r) i (map (pushed_back i) (pairs_of key rows)) ≡ pairs_of key (insert rows i r)
pushed_is key i r rows within = sym (pairs_insert key 0 i i r rows (omega arith) within)

pub order_pushed : {D : Type 0} (key : Row D → Option ℕ) (i : ℕ) (rows : List (Row D)) → AreInOrder (map (pushed_back i) (pairs_of key rows))
order_pushed key i rows = order_pushed_from i (pairs_of key rows) (pairs_in_order key 0 rows)

-- rows that were read have no handle
pub opened_pairs : {D : Type 0} (at : ℕ) (resources : List (Resource D)) → pairs_from handle_key at (map opened_row resources) ≡ []
opened_pairs at [] = refl
opened_pairs at (r ∷ resources) = opened_pairs (at + 1) resources

-- pairs of rows, one of which changes its key
pub replaced_is : {D : Type 0} (key : Row D → Option ℕ) (i : ℕ) (r new : Row D) (rows : List (Row D)) (ps left : List Pair) → i < length rows → r ≡ get_or rows i r
    → ps ≡ pairs_of key rows → left ≡ without_key (key r) i ps → with_key (key new) i left ≡ pairs_of key (set rows i new)
replaced_is key i r new rows ps left within is all less =
    ap (with_key (key new) i) (less ∙ ap (without_key (key r) i) all) ∙ pairs_set key i r new rows within is

-- as many as before, at most
pub replaced_few : {D : Type 0} (key : Row D → Option ℕ) (i : ℕ) (new : Row D) (rows : List (Row D)) (ps : List Pair) (room : ℕ) → ps ≡ pairs_of key (set rows i new) → length rows ≤ room → length ps ≤ room
replaced_few key i new rows ps room is few =
    let count = ap (λ (qs : List Pair). length qs) is in let less = few_pairs key 0 (set rows i new) in let n = length-set rows i new in omega arith

-- the pairs of rows as they come, of which the first is here
abbrev pub listed : {D : Type 0} → ℕ → List (Row D) → List Pair
listed at [] = []
listed at (r ∷ rows) = record { key = key_of_resource r.resource.kind r.resource.id; place = at } ∷ listed (at + 1) rows

pub listed_more : {D : Type 0} (at : ℕ) (r : Row D) (rows : List (Row D)) → listed at (rows ++ r ∷ []) ≡ listed at rows ++ record { key = key_of_resource r.resource.kind r.resource.id; place = at + length rows } ∷ []
listed_more at r [] = let e : at ≡ at + 0 = omega arith in ap (λ (n : ℕ). let p : Pair = record { key = key_of_resource r.resource.kind r.resource.id; place = n } in p ∷ []) e
listed_more at r (q ∷ qs) =
    ap (λ (ps : List Pair). record { key = key_of_resource q.resource.kind q.resource.id; place = at } ∷ ps)
    (listed_more (at + 1) r qs ∙ (let e : at + 1 + length qs ≡ at + suc (length qs) = omega arith in
    ap (λ (n : ℕ). let p : Pair = record { key = key_of_resource r.resource.kind r.resource.id; place = n } in listed (at + 1) qs ++ p ∷ []) e))

pub listed_are : {D : Type 0} (at : ℕ) (rows : List (Row D)) → in_order (listed at rows) ≡ pairs_from resource_key at rows
listed_are at [] = refl
listed_are at (r ∷ rows) = ap (with_pair (record { key = key_of_resource r.resource.kind r.resource.id; place = at })) (listed_are (at + 1) rows)
