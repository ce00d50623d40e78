-- A block that stays is placed at the start of a gap; a master block, by its address.
use Rattle.std.proofs.Common.{◌≡◌, ℕ, ◌+◌, ◌-◌, ◌<◌, ◌≤◌, Bool, true, false, cond, List, [], ◌∷◌, ◌++◌, length, refl, ap, sym, ◌∙◌, subst, append_assoc, add_assoc, arith, Some, zero, suc, get_or}
use Rattle.std.specs.Prelude.{◌==◌, Contains, nat_lt, map, option_map, if◌then◌else◌}
use Rattle.std.proofs.lemmas.Bool.{and_parts, ne_eqb, eq-eqb}
use Rattle.std.proofs.lemmas.Bool.Decides.{nat_tests}
use Rattle.std.proofs.lemmas.List.Elements.{Contains-append_right}
use Rattle.std.proofs.lemmas.List.Folds.{list_all-append}
use Rattle.mac_base.specs.declared.block.Entry.{Entry}
use Rattle.mac_base.specs.declared.block.HeadKind.{HeadKind}
use Rattle.mac_base.specs.declared.block.HeadKind.TheVariants.{Bits24, Bits32}
use Rattle.mac_base.specs.declared.block.Kind.{Kind}
use Rattle.mac_base.specs.declared.block.Kind.TheVariants.{Free, Master}
use Rattle.mac_base.specs.HeadKind.{Shape, head_size, smallest_block}
use Rattle.mac_base.specs.ZoneMap.{ZoneMap, Rearranged, block, is_master, joined, freed_at, released_at, total_size, address_after, addresses_from, contents_addresses}
use Rattle.mac_base.specs.HandleTable.{HandleTable}
use Rattle.mac_base.specs.Suits.{free_apart, is_block_size}
use Rattle.mac_base.specs.Gap.{Gap, filled, is_fixed, room}
use Rattle.mac_base.specs.declared.request.Request.TheVariants.{NewMaster}
use Rattle.mac_base.specs.Request.{size_needed}
use Rattle.mac_base.specs.Serve.{taken, take_lowest, begins_free, cleared, placed_fixed, serve}
use Rattle.mac_base.specs.Trial.{MapServed}
use Rattle.zone_laws.proofs.GapParts.{IsGap}
use Rattle.zone_laws.proofs.GapApart.{sizes_possible}
use Rattle.zone_laws.proofs.Fitting.{begins_free-cleared, size_needed-positive}
use Rattle.zone_laws.proofs.JoinedBlocks.{joined-apart, joined-front, joined-two}
use Rattle.zone_laws.proofs.Placing.{has_free-is}
use Rattle.zone_laws.proofs.PlacedParts.{cleared-Rearranged, free_apart-cleared}
use Rattle.zone_laws.proofs.Maps.{addresses_from-append}
use Rattle.zone_laws.proofs.ServedPlaces.{placed_fixed-parts}

-- what is taken where the first block is free and has k bytes
pub record TakenFirst (s : Shape) (k : ℕ) (kind : Kind) (old new : ZoneMap) : Type 0 where
  pub size : ℕ
  pub back : ZoneMap
  pub was : old ≡ block Free size ∷ back
  pub is : new ≡ taken s k kind size ++ back
  pub fits : k ≤ size

-- where the first block has them, it is the one that is taken
pub taken_first : (s : Shape) (k : ℕ) (kind : Kind) (old new : ZoneMap) → begins_free k old ≡ true → take_lowest s k kind old ≡ Some new → TakenFirst s k kind old new
taken_first s k kind [] new begins h = absurd (cc begins)
taken_first s k kind (e ∷ es) new begins h =
    let free = has_free-is k e begins in
    let is : Some (taken s k kind e.size ++ es) ≡ Some new = sym (ap (λ c. cond c (Some (taken s k kind e.size ++ es)) (option_map (λ m. e ∷ m) (take_lowest s k kind es))) begins) ∙ h in
    record { size = e.size; back = es; was = ap (λ kind. record { size = e.size; kind = kind } ∷ es) free.0; is = cc is; fits = free.1 }

-- The parts of the map in which a block that stays is placed: right after what lies before its gap.
pub record PlacedFirst (s : Shape) (t : HandleTable) (k : ℕ) (kind : ℕ → Kind) (m : ZoneMap) (x : ℕ) (new : ZoneMap) : Type 0 where
  pub gap : Gap
  pub is_gap : IsGap t m gap
  pub has_room : k ≤ room gap
  pub number : address_after s gap.before + head_size s.heads ≡ x
  pub size : ℕ
  pub back : ZoneMap
  pub was : filled gap (cleared k gap.blocks) ≡ gap.before ++ block Free size ∷ back
  pub is : new ≡ gap.before ++ (taken s k (kind x) size ++ back)
  pub fits : k ≤ size

-- what was placed has those parts
pub placed_first : (s : Shape) (t : HandleTable) (k : ℕ) (kind : ℕ → Kind) (m : ZoneMap) (x : ℕ) (new : ZoneMap) → 0 < k → placed_fixed s t k kind m ≡ Some (x, new) → PlacedFirst s t k kind m x new
placed_first s t k kind m x new some h =
    let p = placed_fixed-parts s t k kind m x new h in
    let g : Gap = p.gap in
    let first = taken_first s k (kind x) (cleared k g.blocks) p.blocks (begins_free-cleared k g.blocks some p.has_room) p.taken in
    record {
      gap = g;
      is_gap = p.is_gap;
      has_room = p.has_room;
      number = p.number;
      size = first.size;
      back = first.back ++ g.after;
      was = ap (λ b. g.before ++ b ++ g.after) first.was ∙ append_assoc g.before (block Free first.size ∷ first.back) g.after;
      is = sym p.is ∙ ap (λ b. g.before ++ b ++ g.after) first.is ∙ append_assoc g.before (taken s k (kind x) first.size ++ first.back) g.after ∙ ap (λ b. g.before ++ b) (append_assoc (taken s k (kind x) first.size) first.back g.after);
      fits = first.fits;
    }

-- freeing by address, over two lists of blocks
pub freed_at-append : (at x : ℕ) (a b : ZoneMap) → freed_at at x (a ++ b) ≡ freed_at at x a ++ freed_at (at + total_size a) x b
freed_at-append at x [] b = ap (λ n. freed_at n x b) (let e : at ≡ at + 0 = omega arith in e)
freed_at-append at x (e ∷ es) b = ap (λ m. (if at == x then block Free e.size else e) ∷ m) (freed_at-append (at + e.size) x es b ∙ ap (λ n. freed_at (at + e.size) x es ++ freed_at n x b) (add_assoc at e.size (total_size es)))

-- blocks above the address stay
pub freed_at-above : (at x : ℕ) (b : ZoneMap) → x < at → freed_at at x b ≡ b
freed_at-above at x [] h = refl
freed_at-above at x (e ∷ es) h = ap (λ c. cond c (block Free e.size) e ∷ freed_at (at + e.size) x es) (ne_eqb at x (λ same. absurd (omega arith))) ∙ ap (λ m. e ∷ m) (freed_at-above (at + e.size) x es (omega arith))

smallest-positive : (heads : HeadKind) → 0 < smallest_block heads
smallest-positive Bits24 = omega arith
smallest-positive Bits32 = omega arith

-- a possible size is not 0
pub size-positive : (s : Shape) (n : ℕ) → is_block_size s n ≡ true → 0 < n
size-positive s n h = let some = smallest-positive s.heads in grind (arith, nat_tests)

-- and so do blocks below it
pub freed_at-below : (s : Shape) (at x : ℕ) (b : ZoneMap) → sizes_possible s b ≡ true → at + total_size b ≤ x → freed_at at x b ≡ b
freed_at-below s at x [] possible h = refl
freed_at-below s at x (e ∷ es) possible h =
    let parts = and_parts (is_block_size s e.size) (sizes_possible s es) possible in
    let some = size-positive s e.size parts.0 in
    ap (λ c. cond c (block Free e.size) e ∷ freed_at (at + e.size) x es) (ne_eqb at x (λ same. absurd (omega arith))) ∙ ap (λ m. e ∷ m) (freed_at-below s (at + e.size) x es parts.1 (omega arith))

free_either : (c : Bool) (n : ℕ) → cond c (block Free n) (block Free n) ≡ block Free n
free_either true n = refl
free_either false n = refl

-- the block that was taken, freed by its address, joins with what was left over
joined-freed_taken : (s : Shape) (k n x at : ℕ) (kind : Kind) (b : ZoneMap) → at ≡ x → 0 < k → k ≤ n → joined (freed_at at x (taken s k kind n ++ b)) ≡ joined (block Free n ∷ b)
joined-freed_taken s k n x at kind b same some fits = grind (arith, eq-eqb, free_either, freed_at-above, joined-two)

taken_head : (s : Shape) (k n : ℕ) (b : ZoneMap) (at : ℕ) → Contains (addresses_from at is_master (taken s k Master n ++ b)) at
taken_head s k n b at = elim (nat_lt (n - k) (smallest_block s.heads)) as (λ c. Contains (addresses_from at is_master (cond c (block Master n ∷ []) (block Master k ∷ block Free (n - k) ∷ []) ++ b)) at) [
  | true ↦ (0, omega arith, refl)
  | false ↦ (0, omega arith, refl)
]

Contains-map : (f : ℕ → ℕ) (ns : List ℕ) (n : ℕ) → Contains ns n → Contains (map f ns) (f n)
Contains-map f [] n h = absurd (omega (arith, h.1))
Contains-map f (a ∷ ns) n h = by_place h.0 h.1 h.2 (λ h. Contains-map f ns n h)
  where
    by_place : (k : ℕ) → k < length (a ∷ ns) → get_or (a ∷ ns) k n ≡ n → (Contains ns n → Contains (map f ns) (f n)) → Contains (f a ∷ map f ns) (f n)
    by_place zero lt is rest = (0, omega arith, ap f is)
    by_place (suc k) lt is rest = let there = rest (k, omega arith, is) in (suc there.0, (let lt = there.1 in omega arith), there.2)

-- the master block that was placed, released by its address, leaves the map with its gap cleared
released_at-placed : (s : Shape) (t : HandleTable) (k : ℕ) (m : ZoneMap) (x : ℕ) (new : ZoneMap) → 0 < k → free_apart m ≡ true → sizes_possible s m ≡ true → (p : PlacedFirst s t k (λ p. Master) m x new) → released_at s x new ≡ (let g = p.gap in filled g (cleared k g.blocks))
released_at-placed s t k m x new some apart possible p =
    let g : Gap = p.gap in
    let i = p.is_gap in
    let start : ℕ = address_after s [] + head_size s.heads in
    let number = p.number in
    let at : start + total_size g.before ≡ x = omega arith in
    let before : sizes_possible s g.before ≡ true = (and_parts _ _ (sym (list_all-append (λ (e : Entry). is_block_size s e.size) g.before (g.blocks ++ g.after)) ∙ ap (sizes_possible s) (sym (append_assoc g.before g.blocks g.after) ∙ sym i.parts) ∙ possible)).0 in
    ap (released_at s x) p.is ∙ ap joined (freed_at-append start x g.before (taken s k Master p.size ++ p.back) ∙ ap (λ a. a ++ freed_at (start + total_size g.before) x (taken s k Master p.size ++ p.back)) (freed_at-below s start x g.before before (omega arith)))
    ∙ joined-front g.before (freed_at (start + total_size g.before) x (taken s k Master p.size ++ p.back)) (block Free p.size ∷ p.back) (joined-freed_taken s k p.size x (start + total_size g.before) Master p.back at some p.fits) ∙ ap joined (sym p.was) ∙ joined-apart (filled g (cleared k g.blocks)) (free_apart-cleared t k m g i apart)

-- its contents begin at the number given
contents-placed : (s : Shape) (t : HandleTable) (k : ℕ) (m : ZoneMap) (x : ℕ) (new : ZoneMap) → PlacedFirst s t k (λ p. Master) m x new → Contains (contents_addresses s is_master new) x
contents-placed s t k m x new p =
    let g : Gap = p.gap in
    let start : ℕ = address_after s [] in
    let there : ℕ = start + total_size g.before in
    let number = p.number in
    let at : there + head_size s.heads ≡ x = omega arith in
    let rest : List ℕ = addresses_from there is_master (taken s k Master p.size ++ p.back) in
    subst (Contains (contents_addresses s is_master new)) at
    (subst (λ ns. Contains (map (λ at. at + head_size s.heads) ns) (there + head_size s.heads)) (sym (ap (addresses_from start is_master) p.is ∙ addresses_from-append start is_master g.before (taken s k Master p.size ++ p.back)))
    (Contains-map (λ at. at + head_size s.heads) (addresses_from start is_master g.before ++ rest) there (Contains-append_right (addresses_from start is_master g.before) rest there (taken_head s k p.size p.back there))))

-- a master block
pub served-NewMaster : (s : Shape) (t : HandleTable) (slot : ℕ) (m : ZoneMap) (x : ℕ) (new : ZoneMap) → free_apart m ≡ true → sizes_possible s m ≡ true → serve s t slot m NewMaster ≡ Some (x, new) → MapServed s t (size_needed s NewMaster) NewMaster x m new
served-NewMaster s t slot m x new apart possible h =
    let k : ℕ = size_needed s NewMaster in
    let some = size_needed-positive s NewMaster in
    let p = placed_first s t k (λ p. Master) m x new some h in
    let same = released_at-placed s t k m x new some apart possible p in
    (subst (Rearranged s (is_fixed t) m) (sym same) (cleared-Rearranged s t k m p.gap p.is_gap), contents-placed s t k m x new p)
