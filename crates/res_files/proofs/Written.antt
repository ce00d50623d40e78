-- One fork is written anew: the other files stay as they are, and where they were.
use Rattle.std.proofs.Common.{◌≡◌, refl, sym, ap, ◌∙◌, subst, arith, ℕ, ◌-◌, ◌≤◌, List, [], ◌∷◌, map, set, slice_get, unwrap_or, Bool, true, false, cond, Option, Some, IfSome, find}
use Rattle.std.specs.Prelude.{◌||◌, if◌then◌else◌}
use Rattle.std.specs.List.{list_any, AllByRecursion}
use Rattle.std.specs.Option.{option_map}
use Rattle.std.proofs.lemmas.Bool.{eqb-true, eqb-false}
use Rattle.std.proofs.lemmas.List.{length-set}
use Rattle.fork_bytes.specs.declared.place.Place.{Place}
use Rattle.res_table.specs.declared.row.Row.{Row}
use Rattle.res_table.specs.declared.chain.ResourceTable.{ResourceTable}
use Rattle.res_table.specs.declared.chain.OpenFile.{OpenFile}
use Rattle.res_table.specs.OpenFiles.{is_numbered, table_in, with_rows, changed_file, without}
use Rattle.res_update.specs.Changes.{FileRow}
use Rattle.res_update.specs.Placed.{rows_on, Holds}
use Rattle.res_files.specs.Standing.{fork_at, file_on, AreSmall, StandsOn, AreApart}
use Rattle.res_files.proofs.Stores.{get_other, new_set}

-- another number has another index
other_index : (k n : ℕ) → 1 ≤ k → 1 ≤ n → (n ≡ k → ⊥) → n - 1 ≡ k - 1 → ⊥
other_index k n low from other same = other (omega (arith, low, from, same))

-- each number is 1 or more
pub from_one : {S : Type 0} (fork : S → List ℕ) (is_ready is_honest : S → Type 0) (stores : List S) (files : List (OpenFile Place)) → AllByRecursion (StandsOn fork is_ready is_honest stores) files
    → AllByRecursion (λ (f : OpenFile Place). 1 ≤ f.number) files
from_one fork is_ready is_honest stores [] each = tt
from_one fork is_ready is_honest stores (f ∷ files) each = (each.0.from_one, from_one fork is_ready is_honest stores files each.1)

module _ (k : ℕ) (low : 1 ≤ k) where
  -- the file of a number that no other has
  only_here : (f : OpenFile Place) (files : List (OpenFile Place)) → is_numbered k f ≡ true → list_any (is_numbered f.number) files ≡ false → list_any (is_numbered k) files ≡ false
  only_here f files mine apart = subst (λ (n : ℕ). list_any (is_numbered n) files ≡ false) (eqb-true f.number k mine) apart

  none_left : (f : OpenFile Place) (files : List (OpenFile Place)) → list_any (is_numbered k) (f ∷ files) ≡ false → (is_numbered k f ≡ false) × (list_any (is_numbered k) files ≡ false)
  none_left f files none = by (is_numbered k f) none
    where
      by : (b : Bool) → (b || list_any (is_numbered k) files) ≡ false → (b ≡ false) × (list_any (is_numbered k) files ≡ false)
      by true is = absurd (cc is)
      by false is = (refl, is)

  module _ (forks : List (List ℕ)) (new : List ℕ) where
    other_fork : (n : ℕ) → 1 ≤ n → (n ≡ k → ⊥) → fork_at (set forks (k - 1) new) n ≡ fork_at forks n
    other_fork n from other = ap (λ (o : Option (List ℕ)). unwrap_or o []) (get_other forks (k - 1) (n - 1) new (other_index k n low from other))

    other_file : (f : OpenFile Place) → 1 ≤ f.number → is_numbered k f ≡ false → file_on (set forks (k - 1) new) f ≡ file_on forks f
    other_file f from other =
        ap (λ (bytes : List ℕ). let file : OpenFile (List ℕ) = record { number = f.number; table = record { rows = rows_on bytes f.table.rows; extra = f.table.extra; map_attributes = f.table.map_attributes } } in file)
        (other_fork f.number from (eqb-false f.number k other))

    -- the others are seen as before
    pub others_seen : (files : List (OpenFile Place)) → AllByRecursion (λ (f : OpenFile Place). 1 ≤ f.number) files → list_any (is_numbered k) files ≡ false
        → map (file_on (set forks (k - 1) new)) files ≡ map (file_on forks) files
    others_seen [] from none = refl
    others_seen (f ∷ files) from none =
        let both = none_left f files none in
        ap (λ (file : OpenFile (List ℕ)). file ∷ map (file_on (set forks (k - 1) new)) files) (other_file f from.0 both.0)
        ∙ ap (λ (all : List (OpenFile (List ℕ))). file_on forks f ∷ all) (others_seen files from.1 both.1)

    -- and the one of the number by its new fork
    pub one_seen : (own : List (Row Place) → List (Row Place)) (rows : List FileRow) (files : List (OpenFile Place)) → AllByRecursion (λ (f : OpenFile Place). 1 ≤ f.number) files → AreApart files
        → IfSome (option_map table_in (find (is_numbered k) files)) (λ table. rows_on (fork_at (set forks (k - 1) new) k) (own table.rows) ≡ rows)
        → map (file_on (set forks (k - 1) new)) (changed_file k own files) ≡ changed_file k (λ _. rows) (map (file_on forks) files)
    one_seen own rows [] from apart is = refl
    one_seen own rows (f ∷ files) from apart is = by (is_numbered k f) refl is (one_seen own rows files from.1 apart.1)
      where
        forks' : List (List ℕ)
        forks' = set forks (k - 1) new

        file_with : List FileRow → OpenFile (List ℕ)
        file_with rs = record { number = f.number; table = record { rows = rs; extra = f.table.extra; map_attributes = f.table.map_attributes } }

        by : (b : Bool) → is_numbered k f ≡ b
            → IfSome (option_map table_in (cond b (Some f) (find (is_numbered k) files))) (λ (table : ResourceTable Place). rows_on (fork_at forks' k) (own table.rows) ≡ rows)
            → (IfSome (option_map table_in (find (is_numbered k) files)) (λ (table : ResourceTable Place). rows_on (fork_at forks' k) (own table.rows) ≡ rows)
            → map (file_on forks') (changed_file k own files) ≡ changed_file k (λ _. rows) (map (file_on forks) files))
            → map (file_on forks') (if b then with_rows own f ∷ files else f ∷ changed_file k own files)
            ≡ (if b then with_rows (λ _. rows) (file_on forks f) ∷ map (file_on forks) files else file_on forks f ∷ changed_file k (λ _. rows) (map (file_on forks) files))
        by true mine is deeper =
            ap (λ (n : ℕ). file_with (rows_on (fork_at forks' n) (own f.table.rows)) ∷ map (file_on forks') files) (eqb-true f.number k mine)
            ∙ ap (λ (rs : List FileRow). file_with rs ∷ map (file_on forks') files) is
            ∙ ap (λ (all : List (OpenFile (List ℕ))). file_with rows ∷ all) (others_seen files from.1 (only_here f files mine apart.0))
        by false other is deeper =
            ap (λ (file : OpenFile (List ℕ)). file ∷ map (file_on forks') (changed_file k own files)) (other_file f from.0 other)
            ∙ ap (λ (all : List (OpenFile (List ℕ))). file_on forks f ∷ all) (deeper is)

    -- without it the others are seen as before
    pub rest_seen : (files : List (OpenFile Place)) → AllByRecursion (λ (f : OpenFile Place). 1 ≤ f.number) files → AreApart files
        → map (file_on (set forks (k - 1) new)) (without k files) ≡ without k (map (file_on forks) files)
    rest_seen [] from apart = refl
    rest_seen (f ∷ files) from apart = by (is_numbered k f) refl (rest_seen files from.1 apart.1)
      where
        by : (b : Bool) → is_numbered k f ≡ b → map (file_on (set forks (k - 1) new)) (without k files) ≡ without k (map (file_on forks) files)
            → map (file_on (set forks (k - 1) new)) (if b then files else f ∷ without k files)
            ≡ (if b then map (file_on forks) files else file_on forks f ∷ without k (map (file_on forks) files))
        by true mine deeper = others_seen files from.1 (only_here f files mine apart.0)
        by false other deeper =
            ap (λ (file : OpenFile (List ℕ)). file ∷ map (file_on (set forks (k - 1) new)) (without k files)) (other_file f from.0 other)
            ∙ ap (λ (all : List (OpenFile (List ℕ))). file_on forks f ∷ all) deeper

  module _ {S : Type 0} (fork : S → List ℕ) (is_ready is_honest : S → Type 0) (stores : List S) (new : S) where
    -- another file is on its own store
    other_stands : (f : OpenFile Place) → is_numbered k f ≡ false → StandsOn fork is_ready is_honest stores f → StandsOn fork is_ready is_honest (set stores (k - 1) new) f
    other_stands f other stands = record {
      from_one = stands.from_one;
      to_count = subst (λ (n : ℕ). f.number ≤ n) (sym (length-set stores (k - 1) new)) stands.to_count;
      small = stands.small;
      held = subst (λ (found : Option S). IfSome found (Holds fork is_ready is_honest f.table.rows))
          (sym (get_other stores (k - 1) (f.number - 1) new (other_index k f.number low stands.from_one (eqb-false f.number k other)))) stands.held;
    }

    pub others_stand : (files : List (OpenFile Place)) → list_any (is_numbered k) files ≡ false → AllByRecursion (StandsOn fork is_ready is_honest stores) files
        → AllByRecursion (StandsOn fork is_ready is_honest (set stores (k - 1) new)) files
    others_stand [] none each = each
    others_stand (f ∷ files) none each = let both = none_left f files none in (other_stands f both.0 each.0, others_stand files both.1 each.1)

    -- the one of the number is on the new one
    pub one_stands : (own : List (Row Place) → List (Row Place)) (files : List (OpenFile Place)) → AreApart files
        → IfSome (option_map table_in (find (is_numbered k) files)) (λ table. AreSmall (own table.rows) × Holds fork is_ready is_honest (own table.rows) new)
        → AllByRecursion (StandsOn fork is_ready is_honest stores) files → AllByRecursion (StandsOn fork is_ready is_honest (set stores (k - 1) new)) (changed_file k own files)
    one_stands own [] apart held each = each
    one_stands own (f ∷ files) apart held each = by (is_numbered k f) refl held (λ h. one_stands own files apart.1 h each.1)
      where
        Stands : OpenFile Place → Type 0
        Stands = StandsOn fork is_ready is_honest (set stores (k - 1) new)

        mine_stands : is_numbered k f ≡ true → AreSmall (own f.table.rows) → Holds fork is_ready is_honest (own f.table.rows) new → Stands (with_rows own f)
        mine_stands mine small held = record {
          from_one = each.0.from_one;
          to_count = subst (λ (n : ℕ). f.number ≤ n) (sym (length-set stores (k - 1) new)) each.0.to_count;
          small = small;
          held = subst (λ (n : ℕ). IfSome (slice_get (set stores (k - 1) new) (n - 1)) (Holds fork is_ready is_honest (own f.table.rows))) (sym (eqb-true f.number k mine))
              (new_set (Holds fork is_ready is_honest (own f.table.rows)) stores (k - 1) new held);
        }

        by : (b : Bool) → is_numbered k f ≡ b
            → IfSome (option_map table_in (cond b (Some f) (find (is_numbered k) files))) (λ (table : ResourceTable Place). AreSmall (own table.rows) × Holds fork is_ready is_honest (own table.rows) new)
            → (IfSome (option_map table_in (find (is_numbered k) files)) (λ (table : ResourceTable Place). AreSmall (own table.rows) × Holds fork is_ready is_honest (own table.rows) new)
            → AllByRecursion Stands (changed_file k own files))
            → AllByRecursion Stands (if b then with_rows own f ∷ files else f ∷ changed_file k own files)
        by true mine held deeper = (mine_stands mine held.0 held.1, others_stand files (only_here f files mine apart.0) each.1)
        by false other held deeper = (other_stands f other each.0, deeper held)

    -- without it the others are where they were
    pub rest_stands : (files : List (OpenFile Place)) → AreApart files → AllByRecursion (StandsOn fork is_ready is_honest stores) files
        → AllByRecursion (StandsOn fork is_ready is_honest (set stores (k - 1) new)) (without k files)
    rest_stands [] apart each = each
    rest_stands (f ∷ files) apart each = by (is_numbered k f) refl (rest_stands files apart.1 each.1)
      where
        by : (b : Bool) → is_numbered k f ≡ b → AllByRecursion (StandsOn fork is_ready is_honest (set stores (k - 1) new)) (without k files)
            → AllByRecursion (StandsOn fork is_ready is_honest (set stores (k - 1) new)) (if b then files else f ∷ without k files)
        by true mine deeper = others_stand files (only_here f files mine apart.0) each.1
        by false other deeper = (other_stands f other each.0, deeper)
