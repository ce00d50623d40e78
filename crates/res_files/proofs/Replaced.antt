-- A store of a file that isn't open is replaced: the others are where they were, and are seen as they were.
use Rattle.std.proofs.Common.{◌≡◌, refl, sym, ap, ◌∙◌, subst, arith, ℕ, ◌-◌, ◌≤◌, List, [], ◌∷◌, map, set, Bool, true, false, Option, IfSome, ◌||◌}
use Rattle.std.specs.Prelude.{IsFalse}
use Rattle.std.specs.List.{list_any, AllByRecursion}
use Rattle.std.proofs.lemmas.Bool.{eq-eqb}
use Rattle.std.proofs.lemmas.List.{length-set}
use Rattle.fork_bytes.specs.declared.place.Place.{Place}
use Rattle.res_table.specs.declared.chain.OpenFile.{OpenFile}
use Rattle.res_table.specs.OpenFiles.{OpenFiles, is_numbered, is_open}
use Rattle.res_update.specs.Placed.{Holds}
use Rattle.res_files.specs.FilesOn.{FilesOn}
use Rattle.res_files.specs.Standing.{files_on, StandsOn, StandOn, most_files}
use Rattle.res_files.proofs.Mapped.{open-mapped, set-mapped}
use Rattle.res_files.proofs.On.{seen, bytes_in, asked}
use Rattle.res_files.proofs.Stores.{get_other}
use Rattle.res_files.proofs.Written.{from_one, others_seen}

module _ {S : Type 0} (fork : S → List ℕ) (is_ready is_honest : S → Type 0) (k : ℕ) (low : 1 ≤ k) (stores : List S) (new : S) where
  -- an open file of another number is where it was
  other_stands : (f : OpenFile Place) → is_numbered k f ≡ false → StandsOn fork is_ready is_honest stores f → StandsOn fork is_ready is_honest (set stores (k - 1) new) f
  other_stands f other stands =
      let one : 1 ≤ f.number = stands.from_one in
      let apart : f.number - 1 ≡ k - 1 → ⊥ = λ same. let is : f.number ≡ k = omega (arith, same, one, low) in let open_here = eq-eqb f.number k is in cc in
      record {
        from_one = stands.from_one;
        to_count = subst (λ (n : ℕ). f.number ≤ n) (sym (length-set stores (k - 1) new)) stands.to_count;
        small = stands.small;
        held = subst (λ (found : Option S). IfSome found (Holds fork is_ready is_honest f.table.rows)) (sym (get_other stores (k - 1) (f.number - 1) new apart)) stands.held;
      }

  others_stand : (files : List (OpenFile Place)) → list_any (is_numbered k) files ≡ false → AllByRecursion (StandsOn fork is_ready is_honest stores) files
      → AllByRecursion (StandsOn fork is_ready is_honest (set stores (k - 1) new)) files
  others_stand [] closed each = each
  others_stand (f ∷ files) closed each = by (is_numbered k f) refl closed (λ none. others_stand files none each.1)
    where
      by : (b : Bool) → is_numbered k f ≡ b → (b || list_any (is_numbered k) files) ≡ false
          → (list_any (is_numbered k) files ≡ false → AllByRecursion (StandsOn fork is_ready is_honest (set stores (k - 1) new)) files)
          → AllByRecursion (StandsOn fork is_ready is_honest (set stores (k - 1) new)) (f ∷ files)
      by true same closed deeper = absurd (cc closed)
      by false same closed deeper = (other_stands f same each.0, deeper closed)

  -- the files are still on the stores
  pub stand_replaced : (chain : OpenFiles Place) → is_open k chain ≡ false → StandOn fork is_ready is_honest stores chain → StandOn fork is_ready is_honest (set stores (k - 1) new) chain
  stand_replaced chain closed stand = record {
    few = subst (λ (n : ℕ). n ≤ most_files) (sym (length-set stores (k - 1) new)) stand.few;
    each = others_stand chain.files closed stand.each;
    apart = stand.apart;
    current = stand.current;
  }

  module _ (chain : OpenFiles Place) (loads : Bool) (now : FilesOn S) (view_is : seen fork chain loads stores ≡ now) where
    -- a file that isn't seen open isn't
    pub closed_there : IsFalse (is_open k now.files) → is_open k chain ≡ false
    closed_there closed = asked fork chain loads stores now view_is (is_open k) (is_open k chain) (sym (open-mapped (bytes_in (map fork stores)) k chain)) ∙ closed

    -- the files are seen as before
    pub seen_replaced : StandOn fork is_ready is_honest stores chain → IsFalse (is_open k now.files) → seen fork chain loads (set stores (k - 1) new) ≡ record now { stores = set now.stores (k - 1) new }
    seen_replaced stand closed =
        ap (λ (forks : List (List ℕ)). let v : FilesOn S = record { files = files_on forks chain; loads = loads; stores = set stores (k - 1) new } in v) (sym (set-mapped fork stores (k - 1) new))
        ∙ ap (λ (files : List (OpenFile (List ℕ))). let v : FilesOn S = record { files = record { files = files; current = chain.current }; loads = loads; stores = set stores (k - 1) new } in v)
        (others_seen k low (map fork stores) (fork new) chain.files (from_one fork is_ready is_honest stores chain.files stand.each) (closed_there closed))
        ∙ ap (λ (v : FilesOn S). let w : FilesOn S = record { files = v.files; loads = v.loads; stores = set v.stores (k - 1) new } in w) view_is
