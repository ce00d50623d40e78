-- One of the stores is another: what happened to it.
use Rattle.std.proofs.Common.{◌≡◌, refl, sym, ap, ◌∙◌, subst, arith, ℕ, ◌-◌, ◌<◌, ◌≤◌, List, [], ◌∷◌, length, set, get_or, slice_get, Bool, true, false, Option, Some, IfSome, IsTrue}
use Rattle.std.specs.Prelude.{◌||◌, cond}
use Rattle.std.specs.List.{find, list_any}
use Rattle.std.specs.Option.{option_map, option_map_or}
use Rattle.std.proofs.lemmas.Bool.{false≢true}
use Rattle.std.proofs.lemmas.Option.{slice_get_read}
use Rattle.fork_disk.specs.Crash.{AlwaysFinds, Finds}
use Rattle.fork_bytes.specs.declared.place.Place.{Place}
use Rattle.res_table.specs.declared.chain.OpenFile.{OpenFile}
use Rattle.res_table.specs.OpenFiles.{OpenFiles, is_numbered, table_in}
use Rattle.res_files.specs.Crash.{history_of, OthersStay}
use Rattle.res_files.specs.FilesOn.{FilesOn, HonestAt, fork_of}
use Rattle.res_files.proofs.On.{seen}
use Rattle.res_files.proofs.Stores.{get_other, get_set}
use Rattle.res_files.proofs.Using.{mine}

-- an open file has a table
pub no_table : {D : Type 0} (k : ℕ) (files : List (OpenFile D)) → IfSome (option_map table_in (find (is_numbered k) files)) (λ _. ⊥) → IsTrue (list_any (is_numbered k) files) → ⊥
no_table k [] none is = false≢true is
no_table k (f ∷ files) none is = by (is_numbered k f) none is (no_table k files)
  where
    by : (b : Bool) → IfSome (option_map table_in (cond b (Some f) (find (is_numbered k) files))) (λ _. ⊥) → IsTrue (b || list_any (is_numbered k) files)
        → (IfSome (option_map table_in (find (is_numbered k) files)) (λ _. ⊥) → IsTrue (list_any (is_numbered k) files) → ⊥) → ⊥
    by true none is deeper = none
    by false none is deeper = deeper none is

module _ {S Event : Type 0} (fork : S → List ℕ) (is_honest : S → Type 0) (history : S → List Event) (chain : OpenFiles Place) (loads : Bool) (stores : List S) (now : FilesOn S) (view_is : seen fork chain loads stores ≡ now)
    (k : ℕ) (within : k - 1 < length stores) (old new : S) (value : old ≡ get_or stores (k - 1) old) where
  stores_are : now.stores ≡ stores
  stores_are = ap (λ (v : FilesOn S). v.stores) (sym view_is)

  honest_here : HonestAt is_honest (set stores (k - 1) new) k → is_honest new
  honest_here = mine fork is_honest chain loads stores now view_is (k - 1) within old new value

  before : history_of history k now.stores ≡ history old
  before = ap (λ (xs : List S). history_of history k xs) stores_are ∙ ap (λ (found : Option S). option_map_or history found []) (slice_get_read stores (length stores) (k - 1) old refl within value)

  after : history_of history k (set stores (k - 1) new) ≡ history new
  after = ap (λ (found : Option S). option_map_or history found []) (get_set stores (k - 1) new within)

  -- what a start finds, whenever a crash came
  pub found_always : (may_find : List Event → List ℕ → Type 0) (P : List Event → List ℕ → Type 0) → (is_honest new → AlwaysFinds may_find (P (history old)) (history old) (history new))
      → HonestAt is_honest (set stores (k - 1) new) k → AlwaysFinds may_find (P (history_of history k now.stores)) (history_of history k now.stores) (history_of history k (set stores (k - 1) new))
  found_always may_find P finds honest =
      subst (λ (h : List Event). AlwaysFinds may_find (P h) h (history_of history k (set stores (k - 1) new))) (sym before)
      (subst (λ (h : List Event). AlwaysFinds may_find (P (history old)) (history old) h) (sym after) (finds (honest_here honest)))

  -- the others are the same
  pub others_stay : 1 ≤ k → OthersStay k now.stores (set stores (k - 1) new)
  others_stay low other from apart =
      get_other stores (k - 1) (other - 1) new (λ same. apart (omega (arith, low, from, same))) ∙ ap (λ (xs : List S). slice_get xs (other - 1)) (sym stores_are)

  -- a start finds the fork that is read
  pub found_there : (may_find : List Event → List ℕ → Type 0) → (is_honest new → Finds may_find (λ found. found ≡ fork new) (history new))
      → HonestAt is_honest (set stores (k - 1) new) k → Finds may_find (λ found. found ≡ fork_of fork k (set stores (k - 1) new)) (history_of history k (set stores (k - 1) new))
  found_there may_find finds honest found may =
      finds (honest_here honest) found (subst (λ (h : List Event). may_find h found) after may) ∙ sym (ap (λ (s : Option S). option_map_or fork s []) (get_set stores (k - 1) new within))
