-- A call of one store: what follows of all stores and files.
use Rattle.std.proofs.Common.{◌≡◌, refl, sym, ap, ◌∙◌, subst, ℕ, ◌-◌, ◌<◌, List, [], length, map, set, get_or, slice_get, unwrap_or, Bool, Option, Some, option_map, Result, Ok, Err, MatchResult, IfSome, IsTrue}
use Rattle.std.specs.Option.{option_map_or}
use Rattle.std.proofs.lemmas.Option.{slice_get-map}
use Rattle.std.proofs.Math.Seq.{map-set_same}
use Rattle.fork_disk.specs.Disk.{Rose}
use Rattle.fork_bytes.specs.declared.place.Place.{Place}
use Rattle.res_table.specs.OpenFiles.{OpenFiles}
use Rattle.res_update.specs.Answered.{AnswersFor, known_files}
use Rattle.res_files.specs.FilesOn.{FilesOn, HonestAt, NoneFailed, failures_at}
use Rattle.res_files.specs.Standing.{fork_at, files_on, StandOn}
use Rattle.res_files.proofs.Known.{same_known}
use Rattle.res_files.proofs.Stores.{each_store, get_set, one_failed, stand_set}
use Rattle.res_files.proofs.On.{seen}

pub match_then : {A E : Type 0} (r : Result A E) (P Q P' Q' : Type 0) → MatchResult r (λ _. P) (λ _. Q) → (P → P') → (Q → Q') → MatchResult r (λ _. P') (λ _. Q')
match_then (Ok x) P Q P' Q' is ok err = ok is
match_then (Err e) P Q P' Q' is ok err = err is

module _ {S : Type 0} (fork : S → List ℕ) (is_honest : S → Type 0) (chain : OpenFiles Place) (loads : Bool) (stores : List S) (now : FilesOn S) (view_is : seen fork chain loads stores ≡ now)
    (at : ℕ) (within : at < length stores) (old new : S) (value : old ≡ get_or stores at old) where
  stores_are : now.stores ≡ stores
  stores_are = ap (λ (v : FilesOn S). v.stores) (sym view_is)

  -- the store is honest after the call
  pub mine : IfSome (slice_get (set stores at new) at) is_honest → is_honest new
  mine honest = subst (λ (found : Option S). IfSome found is_honest) (get_set stores at new within) honest

  -- at each place is the same store, or this one
  each : (R : Option S → Option S → Type 0) → ((o : Option S) → R o o) → R (Some old) (Some new) → (i : ℕ) → R (slice_get now.stores i) (slice_get (set stores at new) i)
  each R same step i = subst (λ (xs : List S). R (slice_get xs i) (slice_get (set stores at new) i)) (sym stores_are)
      (each_store R same stores at new old (subst (λ (s : S). R (Some s) (Some new)) value step) i)

  -- what is the same of this one where it is honest is so of each that is
  pub same_values : {X : Type 0} (f : S → X) (d : X) → (is_honest new → f new ≡ f old) → (k : ℕ) → HonestAt is_honest (set stores at new) k
      → option_map_or f (slice_get (set stores at new) (k - 1)) d ≡ option_map_or f (slice_get now.stores (k - 1)) d
  same_values f d same k = each (λ was is. IfSome is is_honest → option_map_or f is d ≡ option_map_or f was d) (λ o honest. refl) same (k - 1)

  -- each was honest that is
  pub same_honest : (is_honest new → is_honest old) → (k : ℕ) → HonestAt is_honest (set stores at new) k → HonestAt is_honest now.stores k
  same_honest same k = each (λ was is. IfSome is is_honest → IfSome was is_honest) (λ o honest. honest) same (k - 1)

  -- the files are the same but for the bytes of rows, and of those on an honest store, these too
  pub files_answer : (is_honest new → fork new ≡ fork old) → AnswersFor (HonestAt is_honest (set stores at new)) now.files (files_on (map fork (set stores at new)) chain)
  files_answer same known are =
      let default = λ (o : Option (List ℕ)). unwrap_or o [] in
      let here : (k : ℕ) → IsTrue (known k) → fork_at (map fork (set stores at new)) k ≡ fork_at (map fork stores) k =
      λ k is. ap default (slice_get-map fork (set stores at new) (k - 1))
      ∙ each_store (λ was is. IfSome is is_honest → default (option_map fork is) ≡ default (option_map fork was)) (λ o honest. refl) stores at new old (λ honest. same honest ∙ ap fork value) (k - 1) (are k is)
      ∙ sym (ap default (slice_get-map fork stores (k - 1))) in
      same_known known (map fork (set stores at new)) (map fork stores) here chain ∙ ap (λ (v : FilesOn S). known_files known v.files) view_is

  -- the files are still on the stores
  pub stand_still : (is_ready : S → Type 0) → (is_honest new → is_honest old) → (is_honest new → fork new ≡ fork old) → (is_honest new → is_ready new)
      → StandOn fork is_ready is_honest stores chain → StandOn fork is_ready is_honest (set stores at new) chain
  stand_still is_ready same forks ready stand =
      stand_set fork is_ready is_honest stores at new old (λ h. (subst is_honest value (same h), forks h ∙ ap fork value, λ _. ready h)) chain stand

  -- what failed
  pub none_failed : (failures : S → ℕ) → failures new ≡ failures old → NoneFailed failures now.stores (set stores at new)
  none_failed failures same = map-set_same failures stores at new old (same ∙ ap failures value) ∙ ap (map failures) (sym stores_are)

  pub this_failed : (failures : S → ℕ) → Rose (failures old) (failures new) → (at < length now.stores) × Rose (failures_at failures at now.stores) (failures_at failures at (set stores at new))
  this_failed failures rose =
      let here = subst (λ (s : S). Rose (failures s) (failures new)) value rose in
      subst (λ (xs : List S). (at < length xs) × Rose (failures_at failures at xs) (failures_at failures at (set stores at new))) (sym stores_are) (within, one_failed failures stores at new old within here)
