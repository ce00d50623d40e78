-- One of the stores is another: what stays the same of all.
use Rattle.std.proofs.Common.{◌≡◌, refl, sym, ap, ◌∙◌, subst, arith, ℕ, zero, suc, ◌-◌, ◌<◌, ◌≤◌, List, [], ◌∷◌, length, map, set, get_or, slice_get, unwrap_or, Option, None, Some, option_map, IfSome}
use Rattle.std.specs.Option.{option_map_or}
use Rattle.std.proofs.lemmas.Option.{slice_get-map}
use Rattle.std.specs.List.{AllByRecursion}
use Rattle.std.proofs.lemmas.List.{length-set}
use Rattle.fork_disk.specs.Disk.{Rose}
use Rattle.fork_bytes.specs.declared.place.Place.{Place}
use Rattle.res_table.specs.declared.chain.OpenFile.{OpenFile}
use Rattle.res_table.specs.OpenFiles.{OpenFiles}
use Rattle.res_update.specs.Placed.{AreInside, Holds}
use Rattle.res_files.specs.FilesOn.{failures_at}
use Rattle.res_files.specs.Standing.{StandsOn, StandOn, most_files}

-- the fork of a store, by the forks of all
pub fork_or : {S : Type 0} (fork : S → List ℕ) (stores : List S) (at : ℕ) → unwrap_or (slice_get (map fork stores) at) [] ≡ option_map_or fork (slice_get stores at) []
fork_or {S} fork stores at = ap (λ (o : Option (List ℕ)). unwrap_or o []) (slice_get-map fork stores at) ∙ by (slice_get stores at)
  where
    by : (o : Option S) → unwrap_or (option_map fork o) [] ≡ option_map_or fork o []
    by None = refl
    by (Some s) = refl

-- what was set is there
pub get_set : {X : Type 0} (xs : List X) (i : ℕ) (y : X) → i < length xs → slice_get (set xs i y) i ≡ Some y
get_set [] i y within = absurd (omega (arith, within))
get_set (x ∷ xs) zero y within = refl
get_set (x ∷ xs) (suc i) y within = get_set xs i y (omega (arith, within))

-- what holds at an index holds there still
pub held_set : {S : Type 0} (P : S → Type 0) (xs : List S) (i n : ℕ) (y d : S) → (P (get_or xs i d) → P y) → IfSome (slice_get xs n) P → IfSome (slice_get (set xs i y) n) P
held_set P [] i n y d step held = held
held_set P (x ∷ xs) zero zero y d step held = step held
held_set P (x ∷ xs) zero (suc n) y d step held = held
held_set P (x ∷ xs) (suc i) zero y d step held = held
held_set P (x ∷ xs) (suc i) (suc n) y d step held = held_set P xs i n y d step held

-- what holds of the new one holds there
pub new_set : {S : Type 0} (P : S → Type 0) (xs : List S) (i : ℕ) (y : S) → P y → IfSome (slice_get (set xs i y) i) P
new_set P [] i y mine = tt
new_set P (x ∷ xs) zero y mine = mine
new_set P (x ∷ xs) (suc i) y mine = new_set P xs i y mine

-- what holds of each store and itself, and of the one and the other, holds at each place
pub each_store : {S : Type 0} (R : Option S → Option S → Type 0) → ((o : Option S) → R o o) → (xs : List S) (i : ℕ) (y d : S) → R (Some (get_or xs i d)) (Some y) → (at : ℕ) → R (slice_get xs at) (slice_get (set xs i y) at)
each_store R same [] i y d step at = same (slice_get [] at)
each_store R same (x ∷ xs) zero y d step zero = step
each_store R same (x ∷ xs) zero y d step (suc at) = same (slice_get xs at)
each_store R same (x ∷ xs) (suc i) y d step zero = same (Some x)
each_store R same (x ∷ xs) (suc i) y d step (suc at) = each_store R same xs i y d step at

-- what is at another index
pub get_other : {X : Type 0} (xs : List X) (i j : ℕ) (y : X) → (j ≡ i → ⊥) → slice_get (set xs i y) j ≡ slice_get xs j
get_other [] i j y other = refl
get_other (x ∷ xs) zero zero y other = absurd (other refl)
get_other (x ∷ xs) zero (suc j) y other = refl
get_other (x ∷ xs) (suc i) zero y other = refl
get_other (x ∷ xs) (suc i) (suc j) y other = get_other xs i j y (λ same. other (ap suc same))

-- a count of failures that rose
pub one_failed : {S : Type 0} (failures : S → ℕ) (xs : List S) (i : ℕ) (y d : S) → i < length xs → Rose (failures (get_or xs i d)) (failures y) → Rose (failures_at failures i xs) (failures_at failures i (set xs i y))
one_failed failures [] i y d within rose = absurd (omega arith)
one_failed failures (x ∷ xs) zero y d within rose = rose
one_failed failures (x ∷ xs) (suc i) y d within rose = one_failed failures xs i y d (omega arith) rose

-- the files are still on the stores
module _ {S : Type 0} (fork : S → List ℕ) (is_ready is_honest : S → Type 0) (stores : List S) (i : ℕ) (y d : S)
    (kept : is_honest y → is_honest (get_or stores i d) × (fork y ≡ fork (get_or stores i d)) × (is_ready (get_or stores i d) → is_ready y)) where
  each_set : (files : List (OpenFile Place)) → AllByRecursion (StandsOn fork is_ready is_honest stores) files → AllByRecursion (StandsOn fork is_ready is_honest (set stores i y)) files
  each_set [] each = each
  each_set (f ∷ files) each = (
    record {
      from_one = each.0.from_one;
      to_count = subst (λ (n : ℕ). f.number ≤ n) (sym (length-set stores i y)) each.0.to_count;
      small = each.0.small;
      held = held_set (Holds fork is_ready is_honest f.table.rows) stores i (f.number - 1) y d
          (λ held honest. ((kept honest).2 (held (kept honest).0).0, subst (λ (bytes : List ℕ). AreInside bytes f.table.rows) (sym (kept honest).1) (held (kept honest).0).1)) each.0.held;
    },
    each_set files each.1,
  )

  pub stand_set : (chain : OpenFiles Place) → StandOn fork is_ready is_honest stores chain → StandOn fork is_ready is_honest (set stores i y) chain
  stand_set chain stand = record {
    few = subst (λ (n : ℕ). n ≤ most_files) (sym (length-set stores i y)) stand.few;
    each = each_set chain.files stand.each;
    apart = stand.apart;
    current = stand.current;
  }
