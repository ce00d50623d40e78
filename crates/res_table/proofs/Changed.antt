-- Whether a changed row has a handle, as the pairs say.
use Rattle.std.proofs.Common.{◌≡◌, ◌≢◌, refl, sym, ap, ◌∙◌, subst, arith, ℕ, suc, ◌+◌, ◌<◌, ◌≤◌, List, [], ◌∷◌, length, get_or, drop, slice_get, Bool, false, ◌||◌, ◌&&◌, ◌==◌, Option, Some, None}
use Rattle.std.specs.Prelude.{All, option_map}
use Rattle.std.specs.List.{list_any}
use Rattle.std.specs.Option.{option_map_or}
use Rattle.std.proofs.Math.Bool.{and_comm}
use Rattle.std.proofs.lemmas.List.{drop_more}
use Rattle.std.proofs.lemmas.List.Elements.{All-drop}
use Rattle.std.proofs.lemmas.Bool.{eq-eqb}
use Rattle.res_table.specs.declared.row.Row.{Row}
use Rattle.res_table.specs.declared.keyed.Pair.{Pair}
use Rattle.res_table.specs.Rows.{has_changed, is_changed}
use Rattle.res_table.specs.Keyed.{key_of_handle, rank, with_key, AreInOrder}
use Rattle.res_table.specs.Indexed.{handle_key, pairs_from, pairs_of}
use Rattle.res_table.proofs.HandleKeys.{key_tells}
use Rattle.res_table.proofs.Pairs.{order_dropped}
use Rattle.res_table.proofs.RowPairs.{order_kept, places_below, row_is}
use Rattle.res_table.proofs.AnyPair.{below, above, any_with, any_from, none_after, least_key}

-- whether a pair has the key, and its row is changed
abbrev pub is_changed_pair : {D : Type 0} → ℕ → List (Row D) → Pair → Bool
is_changed_pair k rows p = (p.key == k) && option_map_or is_changed (slice_get rows p.place) false

-- one pair is of a changed row with the handle where such a row is there
changed_from : {D : Type 0} (h at : ℕ) (all rows : List (Row D)) → ((i j : ℕ) (r : Row D) → j ≡ at + i → slice_get rows i ≡ Some r → slice_get all j ≡ Some r)
    → list_any (is_changed_pair (key_of_handle h) all) (pairs_from handle_key at rows) ≡ has_changed h rows
changed_from h at all [] read = refl
changed_from h at all (r ∷ rows) read = by r.handle (changed_from h (at + 1) all rows (λ i j x is there. read (suc i) j x (omega arith) there))
  where
    test : Pair → Bool
    test = is_changed_pair (key_of_handle h) all

    rest : List Pair
    rest = pairs_from handle_key (at + 1) rows

    marked : option_map_or is_changed (slice_get all at) false ≡ is_changed r
    marked = ap (λ (found : Option (Row _)). option_map_or is_changed found false) (read 0 at r (omega arith) refl)

    by : (g : Option ℕ) → list_any test rest ≡ has_changed h rows
        → list_any test (with_key (option_map key_of_handle g) at rest) ≡ ((is_changed r && option_map_or (λ n. n == h) g false) || has_changed h rows)
    by None deeper = deeper ∙ ap (λ (t : Bool). t || has_changed h rows) (and_comm false (is_changed r))
    by (Some g) deeper =
        any_with test (record { key = key_of_handle g; place = at }) rest
        ∙ ap (λ (t : Bool). ((key_of_handle g == key_of_handle h) && t) || list_any test rest) marked
        ∙ ap (λ (t : Bool). (t && is_changed r) || list_any test rest) (key_tells g h)
        ∙ ap (λ (t : Bool). t || list_any test rest) (and_comm (g == h) (is_changed r))
        ∙ ap (λ (t : Bool). (is_changed r && (g == h)) || t) deeper

-- the pairs from the handle's key on
module _ {D : Type 0} (h k : ℕ) (rows : List (Row D)) (ps rest : List Pair) (key : k ≡ key_of_handle h) (is : ps ≡ pairs_of handle_key rows) (part : rest ≡ drop (rank (record { key = k; place = 0 }) ps) ps) where
  abbrev test : Pair → Bool
  test = is_changed_pair k rows

  smaller : (p : Pair) → p.key < k → test p ≡ false
  smaller p less = ap (λ (t : Bool). t && option_map_or is_changed (slice_get rows p.place) false) (below p.key k less)

  larger : (p : Pair) → k < p.key → test p ≡ false
  larger p more = ap (λ (t : Bool). t && option_map_or is_changed (slice_get rows p.place) false) (above p.key k more)

  there : (i j : ℕ) (r : Row D) → j ≡ 0 + i → slice_get rows i ≡ Some r → slice_get rows j ≡ Some r
  there i j r same found = let e : j ≡ i = omega arith in ap (slice_get rows) e ∙ found

  -- all of them decide
  pub all_tell : list_any test rest ≡ has_changed h rows
  all_tell =
      ap (list_any test) part ∙ sym (any_from test k ps smaller) ∙ ap (list_any test) is
      ∙ ap (λ (n : ℕ). list_any (is_changed_pair n rows) (pairs_of handle_key rows)) key ∙ changed_from h 0 rows rows there

  -- they are of rows
  pub place_within : (i : ℕ) (d : Pair) → i < length rest → (get_or rest i d).place < length rows
  place_within i d within =
      let all : All (λ p. p.place < length rows) ps = subst (λ (qs : List Pair). All (λ p. p.place < length rows) qs) (sym is) (places_below handle_key (length rows) rows refl) in
      subst (λ (qs : List Pair). All (λ p. p.place < length rows) qs) (sym part) (All-drop (λ p. p.place < length rows) (rank (record { key = k; place = 0 }) ps) ps all) i d within

  this : (i : ℕ) (d : Pair) → i < length rest → list_any test (drop i rest) ≡ (test (get_or rest i d) || list_any test (drop (i + 1) rest))
  this i d within = ap (list_any test) (drop_more rest i d within)

  -- from the first with another key on none has it
  pub none_from : (i : ℕ) (d : Pair) → i < length rest → (get_or rest i d).key ≢ k → list_any test (drop i rest) ≡ false
  none_from i d within other =
      let order = order_kept handle_key ps rows is in
      let least = subst (λ (qs : List Pair). i < length qs → k ≤ (get_or qs i d).key) (sym part) (least_key k ps i d order) within in
      let more : k < (get_or rest i d).key = omega (arith, least, other) in
      let ordered : AreInOrder rest = subst AreInOrder (sym part) (order_dropped ps (rank (record { key = k; place = 0 }) ps) order) in
      let after = subst AreInOrder (drop_more rest i d within) (order_dropped rest i ordered) in
      this i d within ∙ ap (λ (t : Bool). t || list_any test (drop (i + 1) rest)) (larger (get_or rest i d) more)
      ∙ none_after test (get_or rest i d) (drop (i + 1) rest) after.0 (λ q from. larger q (omega (arith, more, from)))

  -- one with the key, by its row
  pub by_row : (i : ℕ) (d : Pair) (r : Row D) (changed : Bool) → i < length rest → (get_or rest i d).key ≡ k → r ≡ get_or rows (get_or rest i d).place r → changed ≡ is_changed r
      → list_any test (drop i rest) ≡ (changed || list_any test (drop (i + 1) rest))
  by_row i d r changed within same read told =
      let found : slice_get rows (get_or rest i d).place ≡ Some r = row_is (get_or rest i d).place r rows (place_within i d within) read in
      this i d within
      ∙ ap (λ (t : Bool). (t && option_map_or is_changed (slice_get rows (get_or rest i d).place) false) || list_any test (drop (i + 1) rest)) (eq-eqb (get_or rest i d).key k same)
      ∙ ap (λ (found : Option (Row D)). option_map_or is_changed found false || list_any test (drop (i + 1) rest)) found
      ∙ ap (λ (t : Bool). t || list_any test (drop (i + 1) rest)) (sym told)
