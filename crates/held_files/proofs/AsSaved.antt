-- Files whose forks are in memory, as `saved_files` saves them and makes them again.
use Rattle.std.proofs.Common.{◌≡◌, ◌∙◌, ℕ, ◌-◌, Bool, List, [], ◌∷◌, map, slice_get, Option, None, Some, IfSome, ap, refl, sym, subst, arith}
use Rattle.std.specs.Prelude.{⊤}
use Rattle.std.specs.List.{AllByRecursion}
use Rattle.std.specs.Option.{option_map}
use Rattle.std.proofs.lemmas.List.{length-map}
use Rattle.std.proofs.lemmas.Option.{slice_get-map}
use Rattle.fork_bytes.specs.declared.place.Place.{Place}
use Rattle.fork_disk.specs.declared.mem_disk.MemDisk.{MemDisk}
use Rattle.fork_disk.specs.declared.store.PlainStore.{PlainStore}
use Rattle.held_files.specs.Forks.{ForksState, seen_on, no_zones}
use Rattle.held_files.specs.declared.elsewhere.OtherZones.{OtherZones}
use Rattle.held_files.specs.Saving.{AreAsSaved, CantBeSaved, IsSavedOver, saved_of}
use Rattle.mac_base.specs.ZoneState.{ZoneState}
use Rattle.res_files.specs.FilesOn.{FilesOn}
use Rattle.res_files.specs.Standing.{StandsOn, StandOn, files_on}
use Rattle.res_table.specs.declared.chain.OpenFile.{OpenFile}
use Rattle.res_table.specs.OpenFiles.{OpenFiles}
use Rattle.res_update.specs.Device.{Disk}
use Rattle.res_update.specs.Placed.{Holds}
use Rattle.saved_files.specs.declared.loading.SavedFiles.{SavedFiles}
use Rattle.saved_files.specs.Parts.{saved_in}
use Rattle.saved_files.specs.Saved.{Saved}
use Rattle.saved_files.specs.Sound.{CanBeSaved, IsSavedAs, StandOnForks, disk_of}

-- a store in memory
abbrev Store : Type 0
Store = PlainStore MemDisk

-- open files are so on stores in memory
abbrev OnStores : List Store → OpenFiles Place → Type 0
OnStores stores chain = StandOn disk_of (λ _. ⊤) (λ _. ⊤) stores chain

each_more : {X : Type 0} (P Q : X → Type 0) → ((x : X) → P x → Q x) → (xs : List X) → AllByRecursion P xs → AllByRecursion Q xs
each_more P Q more [] each = tt
each_more P Q more (x ∷ xs) each = (more x each.0, each_more P Q more xs each.1)

-- what holds of the fork of a store, from the stores to their forks, and back
in_forks : (stores : List Store) (k : ℕ) (P : Disk → Type 0) → IfSome (slice_get stores k) (λ s. P (disk_of s)) → IfSome (slice_get (map disk_of stores) k) P
in_forks stores k P held = subst (λ (found : Option Disk). IfSome found P) (sym (slice_get-map disk_of stores k)) (by (slice_get stores k) held)
  where
    by : (found : Option Store) → IfSome found (λ s. P (disk_of s)) → IfSome (option_map disk_of found) P
    by None held = tt
    by (Some s) held = held

in_stores : (stores : List Store) (k : ℕ) (P : Disk → Type 0) → IfSome (slice_get (map disk_of stores) k) P → IfSome (slice_get stores k) (λ s. P (disk_of s))
in_stores stores k P held = by (slice_get stores k) (subst (λ (found : Option Disk). IfSome found P) (slice_get-map disk_of stores k) held)
  where
    by : (found : Option Store) → IfSome (option_map disk_of found) P → IfSome found (λ s. P (disk_of s))
    by None held = tt
    by (Some s) held = held

-- Open files are on stores in memory as they are on the forks of these.
pub on_forks : (stores : List Store) (chain : OpenFiles Place) → OnStores stores chain → StandOnForks (map disk_of stores) chain
on_forks stores chain on =
    let count = length-map stores disk_of in
    record { few = (let few = on.few in omega (arith, count, few)); each = each_more _ _ one chain.files on.each; apart = on.apart; current = on.current }
  where
    one : (f : OpenFile Place) → StandsOn disk_of (λ _. ⊤) (λ _. ⊤) stores f → StandsOn (λ (fork : Disk). fork) (λ _. ⊤) (λ _. ⊤) (map disk_of stores) f
    one f on = record {
      from_one = on.from_one;
      to_count = (let count = length-map stores disk_of in let low = on.to_count in omega (arith, count, low));
      small = on.small;
      held = in_forks stores (f.number - 1) (Holds (λ (fork : Disk). fork) (λ _. ⊤) (λ _. ⊤) f.table.rows) on.held;
    }

pub on_stores : (stores : List Store) (chain : OpenFiles Place) → StandOnForks (map disk_of stores) chain → OnStores stores chain
on_stores stores chain on =
    let count = length-map stores disk_of in
    record { few = (let few = on.few in omega (arith, count, few)); each = each_more _ _ one chain.files on.each; apart = on.apart; current = on.current }
  where
    one : (f : OpenFile Place) → StandsOn (λ (fork : Disk). fork) (λ _. ⊤) (λ _. ⊤) (map disk_of stores) f → StandsOn disk_of (λ _. ⊤) (λ _. ⊤) stores f
    one f on = record {
      from_one = on.from_one;
      to_count = (let count = length-map stores disk_of in let low = on.to_count in omega (arith, count, low));
      small = on.small;
      held = in_stores stores (f.number - 1) (Holds (λ (fork : Disk). fork) (λ _. ⊤) (λ _. ⊤) f.table.rows) on.held;
    }

-- what is saved of files on stores is what is saved of them as they are seen
same_saved : (zones : OtherZones) (on : FilesOn Store) (now : ForksState) → seen_on zones on ≡ now → (chain : OpenFiles Place) (stores : List Store) (loads : Bool) → stores ≡ on.stores → loads ≡ on.loads
    → record { chain = chain; loads = loads; disks = map disk_of stores } ≡ saved_of now chain
same_saved zones on now is chain stores loads stores_are loads_are =
    let disks = ap (map disk_of) stores_are ∙ ap (λ (s : ForksState). s.disks) is in
    let loaded = loads_are ∙ ap (λ (s : ForksState). s.loads) is in
    cc (disks, loaded)

-- files that can't be saved
pub cant-seen : (zones : OtherZones) (on : FilesOn Store) (now : ForksState) → seen_on zones on ≡ now → (chain : OpenFiles Place) (stores : List Store) (loads : Bool) → stores ≡ on.stores → loads ≡ on.loads
    → on.files ≡ files_on (map disk_of on.stores) chain → OnStores on.stores chain → (over table : ZoneState) → over ≡ table
    → ¬ CanBeSaved over (record { chain = chain; loads = loads; disks = map disk_of stores }) → CantBeSaved table now
cant-seen zones on now is chain stores loads stores_are loads_are seen placed over table over_is cant = record {
  chain = chain;
  seen = subst (λ (s : ForksState). s.files ≡ files_on s.disks chain) is seen;
  placed = subst (λ (s : ForksState). StandOnForks s.disks chain) is (on_forks on.stores chain placed);
  cant = subst (λ (t : ZoneState). ¬ CanBeSaved t (saved_of now chain)) over_is
      (subst (λ (s : Saved). ¬ CanBeSaved over s) (same_saved zones on now is chain stores loads stores_are loads_are) cant);
}

-- files that are made of bytes
pub loads-seen : (over table : ZoneState) → over ≡ table → (bytes : List ℕ) (files : SavedFiles) (new : ForksState)
    → new ≡ seen_on no_zones (record { files = files_on (map disk_of files.stores.items) files.chain; loads = files.loads; stores = files.stores.items })
    → IsSavedAs over (saved_in files) bytes → ((s : Saved) → IsSavedAs over s bytes → saved_in files ≡ s) → AreAsSaved table bytes new
loads-seen over table over_is bytes files new new_is saved same = subst (λ (t : ZoneState). AreAsSaved t bytes new) over_is (subst (λ (n : ForksState). AreAsSaved over bytes n) (sym new_is) (record {
  saved = record { chain = files.chain; seen = refl; saved = saved };
  same = λ other was.
      let one = same (saved_of other was.chain) was.saved in
      (ap (λ (s : Saved). files_on s.disks s.chain) one ∙ sym was.seen, ap (λ (s : Saved). s.loads) one, ap (λ (s : Saved). s.disks) one);
  zones = refl;
}))

-- bytes of no files
pub none-seen : (over table : ZoneState) → over ≡ table → (bytes : List ℕ) → ((s : Saved) → ¬ IsSavedAs over s bytes) → (other : ForksState) → ¬ IsSavedOver table other bytes
none-seen over table over_is bytes none = subst (λ (t : ZoneState). (other : ForksState) → ¬ IsSavedOver t other bytes) over_is (λ other was. none (saved_of other was.chain) was.saved)
