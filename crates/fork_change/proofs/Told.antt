-- What changes are to each other.
use Rattle.std.proofs.Common.{◌≡◌, Bool, true, false, List, [], ◌∷◌, drop, Some, refl, sym, ap, ◌∙◌, bytes_eq, if◌then◌else◌}
use Rattle.std.specs.Prelude.{◌&&◌, ◌||◌, not}
use Rattle.std.specs.List.{filter, find, list_any}
use Rattle.std.specs.Ordering.{int_eq}
use Rattle.std.proofs.lemmas.Bool.{and_from, cond-false, cond-true, cond_both, false_from_ne_true, false≢true, not_from_false, not_from_true, or_parts, or_from}
use Rattle.std.proofs.lemmas.Bool.Decides.{Decides-int_eq}
use Rattle.std.proofs.lemmas.Slice.Eq.{bytes_eq-Decides}
use Rattle.fork_bytes.specs.Rows.{Row}
use Rattle.fork_change.specs.Rows.{added, changed_to, first_to, has_kind, id_of, is_at, is_there, removed}
use Rattle.fork_change.specs.Laws.{IsFoundPut, KeepsOthers, IsRemovedPut, IsSetBack, IsMovedBack}
use Rattle.fork_change.proofs.Changing.{kind_at}

-- a row is at its own type and id
pub at_own : (row : Row) → is_at (id_of row) row ≡ true
at_own row = and_from (bytes_eq row.kind row.kind) (int_eq row.id row.id) ((bytes_eq-Decides row.kind row.kind).1 refl) ((Decides-int_eq row.id row.id).1 refl)

-- what is found of the row that replaced another
found_first : (test : Row → Bool) (new : Row) (rows : List Row) → test new ≡ true → list_any test rows ≡ true → filter test (first_to test (new ∷ []) rows) ≡ new ∷ drop 1 (filter test rows)
found_first test new [] own there = absurd (false≢true there)
found_first test new (row ∷ rows) own there = by_case (test row) refl there (found_first test new rows own)
  where
    by_case : (b : Bool) → test row ≡ b → (b || list_any test rows) ≡ true → (list_any test rows ≡ true → filter test (first_to test (new ∷ []) rows) ≡ new ∷ drop 1 (filter test rows)) →
        filter test (if b then new ∷ rows else row ∷ first_to test (new ∷ []) rows) ≡ new ∷ drop 1 (if b then row ∷ filter test rows else filter test rows)
    by_case true is there others = cond-true (test new) (new ∷ filter test rows) (filter test rows) own
    by_case false is there others =
        cond-false (test row) (row ∷ filter test (first_to test (new ∷ []) rows)) (filter test (first_to test (new ∷ []) rows)) is ∙ others there

-- what is found where none was
none_found : (test : Row → Bool) (rows : List Row) → list_any test rows ≡ false → filter test rows ≡ []
none_found test [] none = refl
none_found test (row ∷ rows) none =
    let parts = or_parts (test row) (list_any test rows) none in
    cond-false (test row) (row ∷ filter test rows) (filter test rows) parts.0 ∙ none_found test rows parts.1

found_added : (test : Row → Bool) (new : Row) (rows : List Row) → test new ≡ true → list_any test rows ≡ false → filter test (added new rows) ≡ new ∷ []
found_added test new [] own none = cond-true (test new) (new ∷ []) [] own
found_added test new (row ∷ rows) own none =
    let parts = or_parts (test row) (list_any test rows) none in
    by_case (bytes_eq row.kind new.kind && not (has_kind new.kind rows)) parts.0 (none_found test rows parts.1) (found_added test new rows own parts.1)
  where
    by_case : (b : Bool) → test row ≡ false → filter test rows ≡ [] → filter test (added new rows) ≡ new ∷ [] → filter test (if b then row ∷ new ∷ rows else row ∷ added new rows) ≡ new ∷ []
    by_case true fails none others =
        cond-false (test row) (row ∷ filter test (new ∷ rows)) (filter test (new ∷ rows)) fails
        ∙ cond-true (test new) (new ∷ filter test rows) (filter test rows) own
        ∙ ap (λ (rest : List Row). new ∷ rest) none
    by_case false fails none others = cond-false (test row) (row ∷ filter test (added new rows)) (filter test (added new rows)) fails ∙ others

pub is_found_put : IsFoundPut
is_found_put new rows =
    let test = is_at (id_of new) in let own = at_own new in
    cond_both (is_there (id_of new) rows) (first_to test (new ∷ []) rows) (added new rows) (λ (all : List Row). filter test all ≡ new ∷ drop 1 (filter test rows))
    (λ there. found_first test new rows own there)
    (λ none. found_added test new rows own none ∙ ap (λ (found : List Row). new ∷ drop 1 found) (sym (none_found test rows none)))

-- the rows that don't pass
abbrev others : (Row → Bool) → List Row → List Row
others test rows = filter (λ row. not (test row)) rows

others_first : (test : Row → Bool) (new : Row) (rows : List Row) → test new ≡ true → others test (first_to test (new ∷ []) rows) ≡ others test rows
others_first test new [] own = refl
others_first test new (row ∷ rows) own = by_case (test row) refl (others_first test new rows own)
  where
    by_case : (b : Bool) → test row ≡ b → others test (first_to test (new ∷ []) rows) ≡ others test rows →
        others test (if b then new ∷ rows else row ∷ first_to test (new ∷ []) rows) ≡ (if not b then row ∷ others test rows else others test rows)
    by_case true is rest = cond-false (not (test new)) (new ∷ others test rows) (others test rows) (not_from_true (test new) own)
    by_case false is rest =
        cond-true (not (test row)) (row ∷ others test (first_to test (new ∷ []) rows)) (others test (first_to test (new ∷ []) rows)) (not_from_false (test row) is)
        ∙ ap (λ (all : List Row). row ∷ all) rest

pub others_added : (test : Row → Bool) (new : Row) (rows : List Row) → test new ≡ false → filter test (added new rows) ≡ filter test rows
others_added test new [] own = cond-false (test new) (new ∷ []) [] own
others_added test new (row ∷ rows) own = by_case (bytes_eq row.kind new.kind && not (has_kind new.kind rows)) (others_added test new rows own)
  where
    by_case : (b : Bool) → filter test (added new rows) ≡ filter test rows →
        filter test (if b then row ∷ new ∷ rows else row ∷ added new rows) ≡ (if test row then row ∷ filter test rows else filter test rows)
    by_case true rest = ap (λ (all : List Row). if test row then row ∷ all else all) (cond-false (test new) (new ∷ filter test rows) (filter test rows) own)
    by_case false rest = ap (λ (all : List Row). if test row then row ∷ all else all) rest

pub keeps_others : KeepsOthers
keeps_others new rows =
    let test = is_at (id_of new) in let own = at_own new in
    cond_both (is_there (id_of new) rows) (first_to test (new ∷ []) rows) (added new rows) (λ (all : List Row). others test all ≡ others test rows)
    (λ there. others_first test new rows own) (λ none. others_added (λ row. not (test row)) new rows (not_from_true (test new) own))

-- what was added is removed
removed_added : (test : Row → Bool) (new : Row) (rows : List Row) → test new ≡ true → list_any test rows ≡ false → first_to test [] (added new rows) ≡ rows
removed_added test new [] own none = cond-true (test new) [] (new ∷ []) own
removed_added test new (row ∷ rows) own none =
    let parts = or_parts (test row) (list_any test rows) none in
    by_case (bytes_eq row.kind new.kind && not (has_kind new.kind rows)) parts.0 (removed_added test new rows own parts.1)
  where
    by_case : (b : Bool) → test row ≡ false → first_to test [] (added new rows) ≡ rows → first_to test [] (if b then row ∷ new ∷ rows else row ∷ added new rows) ≡ row ∷ rows
    by_case true fails rest =
        cond-false (test row) (new ∷ rows) (row ∷ first_to test [] (new ∷ rows)) fails
        ∙ ap (λ (all : List Row). row ∷ all) (cond-true (test new) rows (new ∷ first_to test [] rows) own)
    by_case false fails rest =
        cond-false (test row) (added new rows) (row ∷ first_to test [] (added new rows)) fails ∙ ap (λ (all : List Row). row ∷ all) rest

pub is_removed_put : IsRemovedPut
is_removed_put new rows none =
    ap (removed (id_of new)) (cond-false (is_there (id_of new) rows) (first_to (is_at (id_of new)) (new ∷ []) rows) (added new rows) none)
    ∙ removed_added (is_at (id_of new)) new rows (at_own new) none

-- what is found passes
pub found_passes : (test : Row → Bool) (rows : List Row) (row : Row) → find test rows ≡ Some row → test row ≡ true
found_passes test [] row is = absurd (cc is)
found_passes test (first ∷ rows) row is = by_case (test first) refl is (found_passes test rows row)
  where
    by_case : (b : Bool) → test first ≡ b → (if b then Some first else find test rows) ≡ Some row → (find test rows ≡ Some row → test row ≡ true) → test row ≡ true
    by_case true passes is others = let same : first ≡ row = cc is in ap test (sym same) ∙ passes
    by_case false fails is others = others is

-- a row is replaced, and again by itself
replaced_back : (test back : Row → Bool) (old new : Row) (rows : List Row) → find test rows ≡ Some old → back new ≡ true → list_any back rows ≡ false →
    first_to back (old ∷ []) (first_to test (new ∷ []) rows) ≡ rows
replaced_back test back old new [] is own none = absurd (cc is)
replaced_back test back old new (row ∷ rows) is own none =
    let parts = or_parts (back row) (list_any back rows) none in
    by_case (test row) is parts.0 (λ found. replaced_back test back old new rows found own parts.1)
  where
    by_case : (b : Bool) → (if b then Some row else find test rows) ≡ Some old → back row ≡ false →
        (find test rows ≡ Some old → first_to back (old ∷ []) (first_to test (new ∷ []) rows) ≡ rows) →
        first_to back (old ∷ []) (if b then new ∷ rows else row ∷ first_to test (new ∷ []) rows) ≡ row ∷ rows
    by_case true is fails rest =
        let same : old ≡ row = cc is in
        cond-true (back new) (old ∷ rows) (new ∷ first_to back (old ∷ []) rows) own ∙ ap (λ (first : Row). first ∷ rows) same
    by_case false is fails rest =
        cond-false (back row) (old ∷ first_to test (new ∷ []) rows) (row ∷ first_to back (old ∷ []) (first_to test (new ∷ []) rows)) fails
        ∙ ap (λ (all : List Row). row ∷ all) (rest is)

pub is_set_back : IsSetBack
is_set_back what old new rows is same none =
    let old_kind = kind_at what old (found_passes (is_at what) rows old is) in
    let new_kind = (bytes_eq-Decides new.kind what.kind).0 same in
    let alike : bytes_eq old.kind new.kind ≡ true = (bytes_eq-Decides old.kind new.kind).1 (old_kind ∙ sym new_kind) in
    let all = changed_to what new rows in
    cond-true (bytes_eq old.kind new.kind) (first_to (is_at (id_of new)) (old ∷ []) all) (added old (removed (id_of new) all)) alike
    ∙ ap (first_to (is_at (id_of new)) (old ∷ [])) (cond-true (bytes_eq new.kind what.kind) (first_to (is_at what) (new ∷ []) rows) (added new (removed what rows)) same)
    ∙ replaced_back (is_at what) (is_at (id_of new)) old new rows is (at_own new) none

-- none is there where one is removed
none_removed : (test other : Row → Bool) (rows : List Row) → list_any other rows ≡ false → list_any other (first_to test [] rows) ≡ false
none_removed test other [] none = refl
none_removed test other (row ∷ rows) none =
    let parts = or_parts (other row) (list_any other rows) none in
    by_case (test row) parts (none_removed test other rows parts.1)
  where
    by_case : (b : Bool) → (other row ≡ false) × (list_any other rows ≡ false) → list_any other (first_to test [] rows) ≡ false →
        list_any other (if b then rows else row ∷ first_to test [] rows) ≡ false
    by_case true parts rest = parts.1
    by_case false parts rest = or_from (other row) (list_any other (first_to test [] rows)) parts.0 rest

pub is_moved_back : IsMovedBack
is_moved_back what old new rows is differ none =
    let old_kind = kind_at what old (found_passes (is_at what) rows old is) in
    let apart : bytes_eq old.kind new.kind ≡ false =
    false_from_ne_true (bytes_eq old.kind new.kind) (λ same.
    false≢true (sym differ ∙ (bytes_eq-Decides new.kind what.kind).1 (sym ((bytes_eq-Decides old.kind new.kind).0 same) ∙ old_kind))) in
    let all = changed_to what new rows in
    cond-false (bytes_eq old.kind new.kind) (first_to (is_at (id_of new)) (old ∷ []) all) (added old (removed (id_of new) all)) apart
    ∙ ap (λ (rest : List Row). added old (removed (id_of new) rest)) (cond-false (bytes_eq new.kind what.kind) (first_to (is_at what) (new ∷ []) rows) (added new (removed what rows)) differ)
    ∙ ap (added old) (removed_added (is_at (id_of new)) new (removed what rows) (at_own new) (none_removed (is_at what) (is_at (id_of new)) rows none))
