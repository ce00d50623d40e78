-- A path and the texts of its names, from the last of them on.
use Rattle.std.proofs.Common.{◌≡◌, ℕ, zero, suc, ◌+◌, ◌<◌, ◌≤◌, ◌==◌, ◌&&◌, Bool, true, false, List, [], ◌∷◌, ◌++◌, length, take, get_or, map, ◌-◌, Option, None, Some, refl, sym, ap, ◌∙◌, arith}
use Rattle.std.specs.Cmp.Lexicographic.{pointwise}
use Rattle.std.specs.Global.{Vec}
use Rattle.std.proofs.lemmas.List.{map-append, take_more}
use Rattle.std.proofs.lemmas.Bool.{ne_eqb}
use Rattle.hfs_volume.specs.declared.name.Name.{Name}
use Rattle.hfs_volume.specs.Names.{name_bytes}
use Rattle.std.specs.Prelude.{find, ◌||◌, if◌then◌else◌}
use Rattle.std.proofs.Math.Seq.{take-length}
use Rattle.hfs_volume.specs.Entries.{is_folder, is_file}
use Rattle.hfs_volume.specs.declared.entry.Entry.{Entry}
use Rattle.volume_names.specs.Letters.{is_same_text}
use Rattle.volume_names.specs.Paths.{has_texts, is_folder_with, items_of, path_of, path_within, with_name}
use Rattle.volume_names.specs.Things.{has_path}
use Rattle.volume_names.proofs.Upwards.{path_up}
use Rattle.volume_names.specs.declared.letters.Rule.{Rule}

and_false : (b : Bool) → (b && false) ≡ false
and_false true = refl
and_false false = refl

swapped : (a b c : Bool) → (a && (b && c)) ≡ (b && (a && c))
swapped true b c = refl
swapped false b c = sym (and_false b)

module _ {A B : Type 0} (same : A → B → Bool) (x : A) (y : B) where
  not_longer : (ys : List B) → pointwise same [] (ys ++ y ∷ []) ≡ false
  not_longer [] = refl
  not_longer (z ∷ zs) = refl

  not_shorter : (xs : List A) → pointwise same (xs ++ x ∷ []) [] ≡ false
  not_shorter [] = refl
  not_shorter (z ∷ zs) = refl

  -- the last pair, and those before it
  last_pair : (xs : List A) (ys : List B) → pointwise same (xs ++ x ∷ []) (ys ++ y ∷ []) ≡ (same x y && pointwise same xs ys)
  last_pair [] [] = refl
  last_pair [] (b ∷ ys) = ap (λ (r : Bool). same x b && r) (not_longer ys) ∙ and_false (same x b) ∙ sym (and_false (same x y))
  last_pair (a ∷ xs) [] = ap (λ (r : Bool). same a y && r) (not_shorter xs) ∙ and_false (same a y) ∙ sym (and_false (same x y))
  last_pair (a ∷ xs) (b ∷ ys) = ap (λ (r : Bool). same a b && r) (last_pair xs ys) ∙ swapped (same a b) (same x y) (pointwise same xs ys)

module _ (rule : Rule) where
  -- a folder with one more name, and one more text
  pub more_texts : (texts : List (Vec ℕ)) (left : ℕ) (d : Vec ℕ) → left < length texts → (name : Name) (path : Option (List Name))
      → has_texts rule (map items_of (take (left + 1) texts)) (with_name name path)
      ≡ (is_same_text rule (name_bytes name) (get_or texts left d).items && has_texts rule (map items_of (take left texts)) path)
  more_texts texts left d at name None = sym (and_false (is_same_text rule (name_bytes name) (get_or texts left d).items))
  more_texts texts left d at name (Some path) =
      ap (λ (xs : List (Vec ℕ)). has_texts rule (map items_of xs) (Some (path ++ name ∷ []))) (take_more texts left d at)
      ∙ ap (λ (xs : List (List ℕ)). has_texts rule xs (Some (path ++ name ∷ []))) (map-append items_of (take left texts) (get_or texts left d ∷ []))
      ∙ last_pair (λ (own : Name) (text : List ℕ). is_same_text rule (name_bytes own) text) name (get_or texts left d).items path (map items_of (take left texts))

  -- no texts
  pub no_texts : (name : Name) (path : Option (List Name)) → has_texts rule [] (with_name name path) ≡ false
  no_texts name None = refl
  no_texts name (Some path) = not_shorter (λ (own : Name) (text : List ℕ). is_same_text rule (name_bytes own) text) name [] path

  -- the root has no names
  pub root_texts : (texts : List (Vec ℕ)) (left : ℕ) → left ≤ length texts → (left == 0) ≡ has_texts rule (map items_of (take left texts)) (Some [])
  root_texts texts zero few = refl
  root_texts [] (suc left) few = absurd (omega arith)
  root_texts (text ∷ texts) (suc left) few = ne_eqb (suc left) 0 (λ e. absurd (omega (arith, e)))

  -- the last of some texts is the name of a folder, and those before it are the path of the one that it is in
  pub text_step : (texts : List (Vec ℕ)) (left last : ℕ) (d : Vec ℕ) → left ≡ last + 1 → last < length texts
      → (entries : List Entry) (steps more id : ℕ) (folder : Entry) → steps ≡ suc more → (id == 2) ≡ false → find (is_folder_with id) entries ≡ Some folder
      → has_texts rule (map items_of (take left texts)) (path_within steps entries id)
      ≡ (is_same_text rule (name_bytes folder.name) (get_or texts last d).items && has_texts rule (map items_of (take last texts)) (path_within more entries folder.parent))
  text_step texts left last d one at entries steps more id folder some other is = rw one
      (ap (λ (o : Option (List Name)). has_texts rule (map items_of (take (last + 1) texts)) o) (path_up entries steps more id folder some other is)
      ∙ more_texts texts last d at folder.name (path_within more entries folder.parent))

  -- the last of some texts is the name of a thing, and those before it are the path of the folder that it is in
  pub thing_texts : (texts : List (Vec ℕ)) (d : Vec ℕ) (entries : List Entry) (thing : Entry) → 1 ≤ length texts → (is_folder thing || is_file thing) ≡ true
      → has_path rule entries (map items_of texts) thing
      ≡ (is_same_text rule (name_bytes thing.name) (get_or texts (length texts - 1) d).items && has_texts rule (map items_of (take (length texts - 1) texts)) (path_of entries thing.parent))
  thing_texts texts d entries thing some kind =
      ap (λ (b : Bool). has_texts rule (map items_of texts) (if b then with_name thing.name (path_of entries thing.parent) else None)) kind
      ∙ ap (λ (xs : List (Vec ℕ)). has_texts rule (map items_of xs) (with_name thing.name (path_of entries thing.parent))) (sym whole)
      ∙ more_texts texts (length texts - 1) d (omega arith) thing.name (path_of entries thing.parent)
    where
      one : length texts - 1 + 1 ≡ length texts
      one = omega arith

      whole : take (length texts - 1 + 1) texts ≡ texts
      whole = ap (λ (n : ℕ). take n texts) one ∙ take-length texts

pub or_first : (a b : Bool) → a ≡ true → (a || b) ≡ true
or_first true b is = refl
or_first false b is = absurd cc

pub or_second : (a b : Bool) → b ≡ true → (a || b) ≡ true
or_second true b is = refl
or_second false b is = is
