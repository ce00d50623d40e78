-- A request for a new block or a reservation, served exactly, is one that the map may be served by.
use Rattle.std.proofs.Common.{◌≡◌, ℕ, ◌<◌, ◌≤◌, true, false, not, cond, [], refl, ap, sym, ◌∙◌, subst, inl, inr, Some, None}
use Rattle.std.specs.Prelude.{◌⊎◌, IsTrue, nat_le, is_some, option_map, option_and_then}
use Rattle.std.specs.List.{list_any}
use Rattle.std.proofs.lemmas.Bool.{eq-eqb}
use Rattle.mac_base.specs.declared.block.Kind.{Kind}
use Rattle.mac_base.specs.declared.block.Kind.TheVariants.{Ptr, Rel}
use Rattle.mac_base.specs.HeadKind.{Shape}
use Rattle.mac_base.specs.ZoneMap.{ZoneMap, Rearranged, is_free, is_named, largest_free, released, sizes}
use Rattle.mac_base.specs.HandleTable.{HandleTable}
use Rattle.mac_base.specs.Suits.{free_apart}
use Rattle.mac_base.specs.Gap.{Gap, gaps, filled, is_fixed, room, lowest_gap}
use Rattle.mac_base.specs.Arrangement.{down}
use Rattle.mac_base.specs.declared.request.Request.TheVariants.{NewBlock, NewEmpty, NewPointer, Reserve, Replace}
use Rattle.mac_base.specs.Request.{size_needed}
use Rattle.mac_base.specs.Serve.{take_lowest, placed_relocatable, placed_fixed, reserved, begins_free, cleared, contents_at_gap, gives, serve}
use Rattle.mac_base.specs.Trial.{stays_for, MapServed}
use Rattle.zone_laws.proofs.GapParts.{IsGap, lowest_gap-is}
use Rattle.zone_laws.proofs.Arranging.{down-IsArrangement}
use Rattle.zone_laws.proofs.Rearranging.{Rearranged-refl, Rearranged-weaker, fixed-used, gap-Rearranged}
use Rattle.zone_laws.proofs.GapApart.{free_apart-arranged}
use Rattle.zone_laws.proofs.GapRoom.{gap_among}
use Rattle.zone_laws.proofs.Fitting.{is_some-take_lowest, begins_free-cleared, size_needed-positive}
use Rattle.zone_laws.proofs.ReleasedBlocks.{sizes-released, free_apart-released}
use Rattle.zone_laws.proofs.PlacedParts.{option_map-Some, option_and_then-Some, option_or-Some, gap_filled, sizes-gap_none, sizes-down, sizes-cleared, all_move-cleared, cleared-Rearranged, free_apart-cleared, largest_free-has, released-take_lowest, released-taken_in_gap}

-- an empty handle leaves the map
pub served-NewEmpty : (s : Shape) (t : HandleTable) (slot : ℕ) (m : ZoneMap) (x : ℕ) (new : ZoneMap) → serve s t slot m NewEmpty ≡ Some (x, new) → MapServed s t (size_needed s NewEmpty) NewEmpty x m new
served-NewEmpty s t slot m x new h = let same : ◌≡◌ {A = ℕ × ZoneMap} (slot, m) (x, new) = cc in sym (ap (λ p. p.1) same)

-- a reservation is a rearrangement, and some gap then begins with the bytes
reserved-Served : (s : Shape) (t : HandleTable) (k : ℕ) (m new : ZoneMap) → 0 < k → reserved t k m ≡ Some new → Rearranged s (is_fixed t) m new × IsTrue (list_any (λ (g : Gap). begins_free k g.blocks) (gaps t new))
reserved-Served s t k m new some h =
    let found = option_map-Some (λ (g : Gap). filled g (cleared k g.blocks)) (lowest_gap k (gaps t m)) new h in
    let g : Gap = found.0 in
    let low = lowest_gap-is t m k g found.1 in
    let i = low.0 in
    subst (λ new. Rearranged s (is_fixed t) m new × IsTrue (list_any (λ (g : Gap). begins_free k g.blocks) (gaps t new))) found.2
    (cleared-Rearranged s t k m g i, gap_among (λ (g : Gap). begins_free k g.blocks) t (filled g (cleared k g.blocks)) (record g { blocks = cleared k g.blocks }) (gap_filled t m g (cleared k g.blocks) i (all_move-cleared t k g.blocks i.moves)) (begins_free-cleared k g.blocks some low.1))

-- a reservation, served exactly, is served as it may be
pub served-Reserve : (s : Shape) (t : HandleTable) (slot : ℕ) (m : ZoneMap) (n x : ℕ) (new : ZoneMap) → serve s t slot m (Reserve n) ≡ Some (x, new) → MapServed s t (size_needed s (Reserve n)) (Reserve n) x m new
served-Reserve s t slot m n x new h =
    let found = option_map-Some (gives 0) (reserved t (size_needed s (Reserve n)) m) (x, new) h in
    let is : found.0 ≡ new = ap (λ p. p.1) found.2 in
    reserved-Served s t (size_needed s (Reserve n)) m new (size_needed-positive s (Reserve n)) (found.1 ∙ ap Some is)

stays_for-fixed : (t : HandleTable) (k : ℕ) (m : ZoneMap) (kind : Kind) → is_fixed t kind ≡ true → stays_for t k m kind ≡ true
stays_for-fixed t k m kind fixed = elim (nat_le k (largest_free m)) as (λ c. cond c (not (is_free kind)) (is_fixed t kind) ≡ true) [ true ↦ ap not (fixed-used t kind fixed) | false ↦ fixed ]

-- a relocatable block that is placed and released again leaves a rearrangement, in which nothing moved where a free
-- block served
pub placed_relocatable-Rearranged : (s : Shape) (t : HandleTable) (k x : ℕ) (kind : Kind) (m new : ZoneMap) → 0 < k → is_named x kind ≡ true → sizes (is_named x) m ≡ [] → free_apart m ≡ true
    → placed_relocatable s t k kind m ≡ Some new → Rearranged s (stays_for t k m) m (released x new)
placed_relocatable-Rearranged s t k x kind m new some named none apart h = by_place (option_or-Some (take_lowest s k kind m) _ new h)
  where
    none_free : take_lowest s k kind m ≡ None → nat_le k (largest_free m) ≡ false
    none_free missed = largest_free-has k m some ∙ sym (is_some-take_lowest s k kind m) ∙ ap is_some missed

    by_place : (take_lowest s k kind m ≡ Some new) ⊎ ((take_lowest s k kind m ≡ None) × (option_and_then (λ (g : Gap). option_map (filled g) (take_lowest s k kind (down g.blocks))) (lowest_gap k (gaps t m)) ≡ Some new))
        → Rearranged s (stays_for t k m) m (released x new)
    by_place (inl free) = subst (Rearranged s (stays_for t k m) m) (sym (released-take_lowest s k x kind m new free named none apart)) (Rearranged-refl s (stays_for t k m) m)
    by_place (inr gap) =
        let found = option_and_then-Some (λ (g : Gap). option_map (filled g) (take_lowest s k kind (down g.blocks))) (lowest_gap k (gaps t m)) new gap.1 in
        let g : Gap = found.0 in
        let i = (lowest_gap-is t m k g found.1).0 in
        let taken = option_map-Some (filled g) (take_lowest s k kind (down g.blocks)) new found.2 in
        let parts = sizes-gap_none (is_named x) t m g i none in
        let same = released-taken_in_gap s t k x kind m g (down g.blocks) taken.0 i taken.1 named none (sizes-down (is_named x) g.blocks refl ∙ parts.1) (free_apart-arranged t m g (down g.blocks) i (down-IsArrangement g.blocks) apart) in
        subst (Rearranged s (stays_for t k m) m) (sym same ∙ ap (released x) taken.2)
        (Rearranged-weaker s (is_fixed t) (stays_for t k m) m (filled g (down g.blocks)) (λ kind stays. sym (ap (λ c. cond c (not (is_free kind)) (is_fixed t kind)) (none_free gap.0)) ∙ stays)
        (gap-Rearranged s t m g (down g.blocks) i (down-IsArrangement g.blocks)))

-- and so fixed blocks stay
pub placed_relocatable-fixed : (s : Shape) (t : HandleTable) (k x : ℕ) (kind : Kind) (m new : ZoneMap) → 0 < k → is_named x kind ≡ true → sizes (is_named x) m ≡ [] → free_apart m ≡ true
    → placed_relocatable s t k kind m ≡ Some new → Rearranged s (is_fixed t) m (released x new)
placed_relocatable-fixed s t k x kind m new some named none apart h =
    Rearranged-weaker s (stays_for t k m) (is_fixed t) m (released x new) (stays_for-fixed t k m) (placed_relocatable-Rearranged s t k x kind m new some named none apart h)

-- a new block, for a slot that has none
pub served-NewBlock : (s : Shape) (t : HandleTable) (slot : ℕ) (m : ZoneMap) (n x : ℕ) (new : ZoneMap) → free_apart m ≡ true → sizes (is_named slot) m ≡ [] → serve s t slot m (NewBlock n) ≡ Some (x, new)
    → MapServed s t (size_needed s (NewBlock n)) (NewBlock n) x m new
served-NewBlock s t slot m n x new apart none h =
    let k : ℕ = size_needed s (NewBlock n) in
    let found = option_map-Some (gives slot) (placed_relocatable s t k (Rel slot) m) (x, new) h in
    let number : slot ≡ x = ap (λ p. p.0) found.2 in
    let is : found.0 ≡ new = ap (λ p. p.1) found.2 in
    subst (λ x. Rearranged s (stays_for t k m) m (released x new)) number
    (placed_relocatable-Rearranged s t k slot (Rel slot) m new (size_needed-positive s (NewBlock n)) (eq-eqb slot slot refl) none apart (found.1 ∙ ap Some is))

-- a block in place of another: once that is released, it is a new one
pub served-Replace : (s : Shape) (t : HandleTable) (slot : ℕ) (m : ZoneMap) (h n x : ℕ) (new : ZoneMap) → serve s t slot m (Replace h n) ≡ Some (x, new) → MapServed s t (size_needed s (Replace h n)) (Replace h n) x m new
served-Replace s t slot m h n x new served =
    let k : ℕ = size_needed s (Replace h n) in
    let found = option_map-Some (gives h) (placed_relocatable s t k (Rel h) (released h m)) (x, new) served in
    let is : found.0 ≡ new = ap (λ p. p.1) found.2 in
    placed_relocatable-Rearranged s t k h (Rel h) (released h m) new (size_needed-positive s (Replace h n)) (eq-eqb h h refl) (sizes-released h m) (free_apart-released h m) (found.1 ∙ ap Some is)

-- what is placed at the start of the lowest gap with room, by its parts
pub record PlacedFixed (s : Shape) (t : HandleTable) (k : ℕ) (kind : ℕ → Kind) (m : ZoneMap) (x : ℕ) (new : ZoneMap) : Type 0 where
  pub gap : Gap
  pub is_gap : IsGap t m gap
  pub has_room : k ≤ room gap
  pub number : contents_at_gap s gap ≡ x
  pub blocks : ZoneMap
  pub taken : take_lowest s k (kind x) (cleared k gap.blocks) ≡ Some blocks
  pub is : filled gap blocks ≡ new

-- and what was placed has them
pub placed_fixed-parts : (s : Shape) (t : HandleTable) (k : ℕ) (kind : ℕ → Kind) (m : ZoneMap) (x : ℕ) (new : ZoneMap) → placed_fixed s t k kind m ≡ Some (x, new) → PlacedFixed s t k kind m x new
placed_fixed-parts s t k kind m x new h =
    let found = option_and_then-Some (λ (g : Gap). option_map (λ blocks. (contents_at_gap s g, filled g blocks)) (take_lowest s k (kind (contents_at_gap s g)) (cleared k g.blocks))) (lowest_gap k (gaps t m)) (x, new) h in
    let g : Gap = found.0 in
    let low = lowest_gap-is t m k g found.1 in
    let made = option_map-Some (λ blocks. (contents_at_gap s g, filled g blocks)) (take_lowest s k (kind (contents_at_gap s g)) (cleared k g.blocks)) (x, new) found.2 in
    let number : contents_at_gap s g ≡ x = ap (λ p. p.0) made.2 in
    record { gap = g; is_gap = low.0; has_room = low.1; number = number; blocks = made.0; taken = sym (ap (λ x. take_lowest s k (kind x) (cleared k g.blocks)) number) ∙ made.1; is = ap (λ p. p.1) made.2 }

-- a new pointer, whose number names no block yet
pub served-NewPointer : (s : Shape) (t : HandleTable) (slot : ℕ) (m : ZoneMap) (n x : ℕ) (new : ZoneMap) → free_apart m ≡ true → sizes (is_named x) m ≡ [] → serve s t slot m (NewPointer n) ≡ Some (x, new)
    → MapServed s t (size_needed s (NewPointer n)) (NewPointer n) x m new
served-NewPointer s t slot m n x new apart none h =
    let k : ℕ = size_needed s (NewPointer n) in
    let p = placed_fixed-parts s t k (λ p. Ptr p) m x new h in
    let g : Gap = p.gap in
    let i = p.is_gap in
    let parts = sizes-gap_none (is_named x) t m g i none in
    let same = released-taken_in_gap s t k x (Ptr x) m g (cleared k g.blocks) p.blocks i p.taken (eq-eqb x x refl) none (sizes-cleared (is_named x) k g.blocks refl ∙ parts.1) (free_apart-cleared t k m g i apart) in
    subst (Rearranged s (is_fixed t) m) (sym same ∙ ap (released x) p.is) (cleared-Rearranged s t k m g i)
