-- A request for a new block or a reservation is served exactly where it fits.
use Rattle.std.proofs.Common.{◌≡◌, ℕ, ◌<◌, ◌≤◌, Bool, true, [], ◌∷◌, refl, ◌∙◌, arith, Some, None, Option}
use Rattle.std.specs.Prelude.{◌||◌, nat_le, is_some, option_map, option_and_then}
use Rattle.std.specs.Option.{option_or}
use Rattle.std.specs.List.{list_any}
use Rattle.std.proofs.lemmas.Bool.{or_left, or_right, or_cases, le-leb}
use Rattle.std.proofs.lemmas.List.Folds.{list_any-append}
use Rattle.mac_base.specs.declared.block.Kind.{Kind}
use Rattle.mac_base.specs.declared.block.Kind.TheVariants.{Free, Master, Ptr, Rel}
use Rattle.mac_base.specs.HeadKind.{Shape}
use Rattle.mac_base.specs.ZoneMap.{ZoneMap, block, free_block, has_free, free_bytes, released}
use Rattle.mac_base.specs.HandleTable.{HandleTable}
use Rattle.mac_base.specs.Gap.{Gap, gaps, filled, room, lowest_gap, some_gap_has}
use Rattle.mac_base.specs.Arrangement.{down}
use Rattle.mac_base.specs.declared.request.Request.{Request}
use Rattle.mac_base.specs.declared.request.Request.TheVariants.{NewBlock, NewEmpty, NewPointer, NewMaster, Reserve, Replace}
use Rattle.mac_base.specs.Request.{size_needed, fits}
use Rattle.mac_base.specs.Serve.{take_lowest, placed_relocatable, placed_fixed, reserved, begins_free, cleared, gives, serve}
use Rattle.zone_laws.proofs.GapParts.{lowest_gap-is}
use Rattle.zone_laws.proofs.GapRoom.{is_some-find, some_gap_has-free}

-- a value where a function gives one
pub is_some-map : {A B : Type 0} (f : A → B) (o : Option A) → is_some (option_map f o) ≡ is_some o
is_some-map f None = refl
is_some-map f (Some a) = refl

-- a value where one of two is
pub is_some-or : {A : Type 0} (o p : Option A) → is_some (option_or o p) ≡ (is_some o || is_some p)
is_some-or None p = refl
is_some-or (Some a) p = refl

-- a request needs some bytes
pub size_needed-positive : (s : Shape) (r : Request) → 0 < size_needed s r
size_needed-positive s r = grind arith

-- a block is taken where a free one has k bytes
pub is_some-take_lowest : (s : Shape) (k : ℕ) (kind : Kind) (m : ZoneMap) → is_some (take_lowest s k kind m) ≡ list_any (has_free k) m
is_some-take_lowest s k kind [] = refl
is_some-take_lowest s k kind (e ∷ es) = grind (arith, is_some-take_lowest s k kind es, is_some-map)

-- one free block of n bytes, where n is not 0
pub free_block-some : (n : ℕ) → 0 < n → free_block n ≡ block Free n ∷ []
free_block-some n h = grind arith

-- blocks with room for k bytes, arranged down, have a free block of as many
pub has_free-down : (k : ℕ) (b : ZoneMap) → 0 < k → k ≤ free_bytes b → list_any (has_free k) (down b) ≡ true
has_free-down k b some fits = grind (arith, free_block-some, le-leb, list_any-append, or_left, or_right)

-- and cleared they begin with one
pub begins_free-cleared : (k : ℕ) (b : ZoneMap) → 0 < k → k ≤ free_bytes b → begins_free k (cleared k b) ≡ true
begins_free-cleared k b some fits = grind arith

-- what begins with a free block of k bytes has one
pub has_free-begins : (k : ℕ) (b : ZoneMap) → begins_free k b ≡ true → list_any (has_free k) b ≡ true
has_free-begins k [] h = h
has_free-begins k (e ∷ es) h = or_left _ _ h

same_truth : (a b : Bool) → (a ≡ true → b ≡ true) → (b ≡ true → a ≡ true) → a ≡ b
same_truth v0 v1 there back = grind arith

-- where a gap has room for k bytes, the lowest such gap is found
pub is_some-lowest_gap : (t : HandleTable) (k : ℕ) (m : ZoneMap) → is_some (lowest_gap k (gaps t m)) ≡ some_gap_has k (gaps t m)
is_some-lowest_gap t k m = is_some-find (λ g. nat_le k (room g)) (gaps t m)

-- what is made of the lowest gap with room is there where one has room
pub is_some-in_lowest : {A : Type 0} (f : Gap → Option A) (t : HandleTable) (k : ℕ) (m : ZoneMap) → ((g : Gap) → k ≤ room g → is_some (f g) ≡ true) → is_some (option_and_then f (lowest_gap k (gaps t m))) ≡ some_gap_has k (gaps t m)
is_some-in_lowest f t k m there =
    elim (lowest_gap k (gaps t m)) as (λ o. lowest_gap k (gaps t m) ≡ o → is_some (option_and_then f o) ≡ is_some o) [
      | None ↦ λ none. refl
      | Some g ↦ λ found. there g (lowest_gap-is t m k g found).1
    ] refl
    ∙ is_some-lowest_gap t k m

-- a relocatable block is placed exactly where a gap has room
pub is_some-placed_relocatable : (s : Shape) (t : HandleTable) (k : ℕ) (kind : Kind) (m : ZoneMap) → 0 < k → is_some (placed_relocatable s t k kind m) ≡ some_gap_has k (gaps t m)
is_some-placed_relocatable s t k kind m some = grind (arith, has_free-down, is_some-in_lowest, is_some-map, is_some-or, is_some-take_lowest, or_cases, or_right, same_truth, some_gap_has-free)

-- a block that stays is placed exactly where a gap has room
pub is_some-placed_fixed : (s : Shape) (t : HandleTable) (k : ℕ) (kind : ℕ → Kind) (m : ZoneMap) → 0 < k → is_some (placed_fixed s t k kind m) ≡ some_gap_has k (gaps t m)
is_some-placed_fixed s t k kind m some = grind (arith, begins_free-cleared, has_free-begins, is_some-in_lowest, is_some-map, is_some-take_lowest)

-- a reservation is made exactly where a gap has room
pub is_some-reserved : (t : HandleTable) (k : ℕ) (m : ZoneMap) → is_some (reserved t k m) ≡ some_gap_has k (gaps t m)
is_some-reserved t k m = is_some-map (λ (g : Gap). filled g (cleared k g.blocks)) (lowest_gap k (gaps t m)) ∙ is_some-lowest_gap t k m

-- a request for a new block is served exactly where it fits
pub serve-NewBlock : (s : Shape) (t : HandleTable) (slot : ℕ) (m : ZoneMap) (n : ℕ) → is_some (serve s t slot m (NewBlock n)) ≡ fits s t (NewBlock n) m
serve-NewBlock s t slot m n = let k : ℕ = size_needed s (NewBlock n) in is_some-map (gives slot) (placed_relocatable s t k (Rel slot) m) ∙ is_some-placed_relocatable s t k (Rel slot) m (size_needed-positive s (NewBlock n))

-- one for an empty handle always
pub serve-NewEmpty : (s : Shape) (t : HandleTable) (slot : ℕ) (m : ZoneMap) → is_some (serve s t slot m NewEmpty) ≡ fits s t NewEmpty m
serve-NewEmpty s t slot m = refl

-- one for a pointer exactly where it fits
pub serve-NewPointer : (s : Shape) (t : HandleTable) (slot : ℕ) (m : ZoneMap) (n : ℕ) → is_some (serve s t slot m (NewPointer n)) ≡ fits s t (NewPointer n) m
serve-NewPointer s t slot m n = is_some-placed_fixed s t (size_needed s (NewPointer n)) (λ p. Ptr p) m (size_needed-positive s (NewPointer n))

-- one for a master block exactly where it fits
pub serve-NewMaster : (s : Shape) (t : HandleTable) (slot : ℕ) (m : ZoneMap) → is_some (serve s t slot m NewMaster) ≡ fits s t NewMaster m
serve-NewMaster s t slot m = is_some-placed_fixed s t (size_needed s NewMaster) (λ p. Master) m (size_needed-positive s NewMaster)

-- one for a reservation exactly where it fits
pub serve-Reserve : (s : Shape) (t : HandleTable) (slot : ℕ) (m : ZoneMap) (n : ℕ) → is_some (serve s t slot m (Reserve n)) ≡ fits s t (Reserve n) m
serve-Reserve s t slot m n = is_some-map (gives 0) (reserved t (size_needed s (Reserve n)) m) ∙ is_some-reserved t (size_needed s (Reserve n)) m

-- one for a block in place of another exactly where it fits
pub serve-Replace : (s : Shape) (t : HandleTable) (slot : ℕ) (m : ZoneMap) (h n : ℕ) → is_some (serve s t slot m (Replace h n)) ≡ fits s t (Replace h n) m
serve-Replace s t slot m h n = let k : ℕ = size_needed s (Replace h n) in
    is_some-map (gives h) (placed_relocatable s t k (Rel h) (released h m)) ∙ is_some-placed_relocatable s t k (Rel h) (released h m) (size_needed-positive s (Replace h n))
