-- Volumes that are read one after another.
use Rattle.std.proofs.Common.{◌≡◌, ◌≢◌, ℕ, Bool, false, Result, Ok, Err, List, [], ◌∷◌, ◌++◌, length, map, refl, sym, ap, ◌∙◌, subst, append_assoc}
use Rattle.std.specs.Prelude.{slice_index_or, is_err, OnOk}
use Rattle.std.specs.List.{AllByRecursion, remove}
use Rattle.std.proofs.lemmas.List.{map-append}
use Rattle.fork_disk.specs.declared.disk.ForkDisk.{Ghosts}
use Rattle.hfs_tree.specs.Reads.{HasBytes, Learns}
use Rattle.hfs_tree.proofs.Learned.{keeps_both}
use Rattle.disk_image.specs.Images.{IsPlaced, placed_in, contents_in as disk_contents}
use Rattle.disk_image.specs.Opening.{image_in}
use Rattle.disk_image.specs.declared.image.Contents.{Contents as DiskContents}
use Rattle.disk_image.specs.declared.place.Placed.{Placed}
use Rattle.image_files.specs.Contents.{PlacedRead, contents_in, contents_of, placed_now, placed_of, placed_read}
use Rattle.image_files.specs.Placing.{IsPlacedIn, IsSoundAt}
use Rattle.image_files.specs.declared.volume.PlacedVolume.{PlacedVolume}

-- a call succeeded where a test for an error says so
pub on_ok : {A E : Type 0} (result : Result A E) (test : Bool) (P : Type 0) → test ≡ is_err result → test ≡ false → OnOk result P → P
on_ok (Ok value) test P is fails h = h
on_ok (Err fault) test P is fails h = absurd cc

-- what an image has whose volumes are these
pub image_volumes : (file : List ℕ) (contents : DiskContents) (volumes : List PlacedVolume) → image_in file ≡ Ok (disk_contents file contents)
    → map (placed_read file) volumes ≡ map (placed_now file) contents.volumes.items
    → contents_in file ≡ Ok (record { parts = contents.parts.items; volumes = map (placed_read file) volumes })
unfolding contents_in
image_volumes file contents volumes is same =
    ap contents_of is ∙ ap (λ (v : List PlacedRead). Ok (record { parts = contents.parts.items; volumes = v })) (both contents.volumes.items ∙ sym same)
  where
    both : (placed : List Placed) → map placed_of (map (placed_in file) placed) ≡ map (placed_now file) placed
    both [] = refl
    both (first ∷ others) = ap (λ (rest : List PlacedRead). placed_now file first ∷ rest) (both others)

-- the first volume is taken
pub taken : (items : List Placed) (first : Placed) → length items ≢ 0 → first ≡ slice_index_or items 0 first → items ≡ first ∷ remove items 0
taken [] first some is = absurd (some refl)
taken (other ∷ items) first some is = ap (λ (p : Placed). p ∷ items) (sym is)

module _ {D : Type 0} (disk : Ghosts D) (start : D) (all : List Placed) where
  -- these volumes were read, and these are left
  pub record Reading (now : D) (done : List PlacedVolume) (left : List Placed) : Type 0 where
    pub learned : disk.is_honest now → Learns disk start now (λ file. map (placed_read file) done ++ map (placed_now file) left ≡ map (placed_now file) all)
    pub sound : AllByRecursion IsSoundAt left
    pub there : HasBytes disk now (λ file. AllByRecursion (IsPlaced (length file)) left)
    pub placed : (size : ℕ) → AllByRecursion (IsPlaced size) all → AllByRecursion (IsPlacedIn size) done × AllByRecursion (IsPlaced size) left

  all_more : {T : Type 0} (P : T → Type 0) (xs : List T) (x : T) → AllByRecursion P xs → P x → AllByRecursion P (xs ++ x ∷ [])
  all_more P [] x hs h = (h, tt)
  all_more P (y ∷ xs) x hs h = (hs.0, all_more P xs x hs.1 h)

  -- one more
  pub goes_on : (now next : D) (done : List PlacedVolume) (first : Placed) (left : List Placed) (volume : PlacedVolume) → Reading now done (first ∷ left)
      → (disk.is_honest next → Learns disk now next (λ file. placed_read file volume ≡ placed_now file first)) → ((size : ℕ) → IsPlaced size first → IsPlacedIn size volume)
      → Reading next (done ++ volume ∷ []) left
  goes_on now next done first left volume before read here = record {
    learned = λ honest.
        let one = read honest in
        let others = before.learned one.keeps.honest in
        let file = disk.seen start in
        let same : placed_read file volume ≡ placed_now file first = subst (λ (f : List ℕ). placed_read f volume ≡ placed_now f first) others.keeps.same one.known in
        record {
          keeps = keeps_both disk start now next others.keeps one.keeps;
          known =
              ap (λ rows. rows ++ map (placed_now file) left) (map-append (placed_read file) done (volume ∷ []))
              ∙ append_assoc (map (placed_read file) done) (placed_read file volume ∷ []) (map (placed_now file) left)
              ∙ ap (λ row. map (placed_read file) done ++ (row ∷ map (placed_now file) left)) same
              ∙ others.known;
        };
    sound = before.sound.1;
    there = λ honest.
        let one = read honest in
        subst (λ (f : List ℕ). AllByRecursion (IsPlaced (length f)) left) (sym one.keeps.same) (before.there one.keeps.honest).1;
    placed = λ size placed.
        let both = before.placed size placed in
        (all_more (IsPlacedIn size) done volume both.0 (here size both.1.0), both.1.1);
  }
