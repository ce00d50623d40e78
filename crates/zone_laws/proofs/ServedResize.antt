-- A request for another size, served exactly, is one that the map may be served by.
use Rattle.std.proofs.Common.{◌≡◌, ℕ, ◌<◌, true, false, cond, [], ◌∷◌, ◌++◌, length, refl, ap, sym, ◌∙◌, subst, inl, inr, Some, None}
use Rattle.std.specs.Prelude.{◌⊎◌, IsTrue, option_map}
use Rattle.std.specs.Option.{option_or}
use Rattle.std.proofs.lemmas.Bool.{false≢true, eq-eqb}
use Rattle.mac_base.specs.declared.block.Kind.TheVariants.{Rel}
use Rattle.mac_base.specs.HeadKind.{Shape}
use Rattle.mac_base.specs.ZoneMap.{ZoneMap, Rearranged, is_named, released, contents_of, sizes}
use Rattle.mac_base.specs.HandleTable.{HandleTable}
use Rattle.mac_base.specs.Suits.{Suits}
use Rattle.mac_base.specs.Gap.{Gap, gaps, filled, is_fixed, own_gap, gap_after}
use Rattle.mac_base.specs.Arrangement.{up, open_at}
use Rattle.mac_base.specs.declared.request.Request.TheVariants.{Resize}
use Rattle.mac_base.specs.Request.{size_needed, stays, gap_to_grow}
use Rattle.mac_base.specs.Serve.{resized_in_place, opened_for, resized_in_gap, resized_elsewhere, resized_block, placed_relocatable, renamed, gives, serve}
use Rattle.mac_base.specs.Trial.{MapServed}
use Rattle.zone_laws.proofs.GapParts.{own_gap-is, gap_after-is}
use Rattle.zone_laws.proofs.Arranging.{up-IsArrangement}
use Rattle.zone_laws.proofs.ArrangingNamed.{open_at-IsArrangement}
use Rattle.zone_laws.proofs.Rearranging.{Rearranged-refl, fixed-used, gap-Rearranged}
use Rattle.zone_laws.proofs.NamedPlace.{first_named, At-from, own_gap-parts, gap_after-parts}
use Rattle.zone_laws.proofs.Fitting.{size_needed-positive}
use Rattle.zone_laws.proofs.FittingResize.{one_size, some_named}
use Rattle.zone_laws.proofs.OpenedGap.{opened_own-At, opened_after-At}
use Rattle.zone_laws.proofs.ReleasedBlocks.{Rearranged-released}
use Rattle.zone_laws.proofs.ResizedBlocks.{released-resized_in_place, contents_of-resized_in_place, contents_of-At, released-renamed}
use Rattle.zone_laws.proofs.PlacedParts.{option_map-Some, option_and_then-Some, option_or-Some}
use Rattle.zone_laws.proofs.ServedPlaces.{placed_relocatable-fixed}
use Rattle.zone_laws.proofs.SuitsNil.{named_none-nil}

-- how the map may change where the block of x is resized
abbrev pub IsResized : Shape → HandleTable → ℕ → ZoneMap → ZoneMap → Type 0
IsResized s t x old new = Rearranged s (is_fixed t) (released x old) (released x new) × (IsTrue (stays t x) → contents_of s x new ≡ contents_of s x old)

-- in its place
pub resized_in_place-IsResized : (s : Shape) (t : HandleTable) (k x n : ℕ) (m new : ZoneMap) → sizes (is_named x) m ≡ n ∷ [] → resized_in_place s k x m ≡ Some new → IsResized s t x m new
resized_in_place-IsResized s t k x n m new once h =
    let f = first_named x m (some_named x n m once) in
    let at = At-from x m n f.front f.block f.back once f.was f.named in (
      subst (Rearranged s (is_fixed t) (released x m)) (sym (released-resized_in_place s k x m n f.front f.block.kind f.back new at h)) (Rearranged-refl s (is_fixed t) (released x m)),
      λ fixed. contents_of-resized_in_place s k x m n f.front f.block.kind f.back new at h ∙ sym (contents_of-At s x m n f.front f.block.kind f.back at),
    )

released-Rearranged : (s : Shape) (t : HandleTable) (x : ℕ) (old new : ZoneMap) → Rearranged s (is_fixed t) old new → Rearranged s (is_fixed t) (released x old) (released x new)
released-Rearranged s t x old new r = Rearranged-released s (is_fixed t) x old new (fixed-used t) r

in_own_gap : (s : Shape) (t : HandleTable) (k x n : ℕ) (m new : ZoneMap) (g : Gap) → stays t x ≡ false → own_gap x (gaps t m) ≡ Some g → sizes (is_named x) m ≡ n ∷ [] → resized_in_place s k x (filled g (open_at x g.blocks)) ≡ Some new → IsResized s t x m new
in_own_gap s t k x n m new g moves found once h =
    let own = own_gap-is t m x g found in
    let p = own_gap-parts t m g x n own.0 own.1 once in
    let at = opened_own-At x g n p in (
      subst (Rearranged s (is_fixed t) (released x m)) (sym (released-resized_in_place s k x (filled g (open_at x g.blocks)) n _ p.kind _ new at h))
          (released-Rearranged s t x m (filled g (open_at x g.blocks)) (gap-Rearranged s t m g (open_at x g.blocks) own.0 (open_at-IsArrangement x g.blocks own.1))),
      λ fixed. absurd (false≢true (sym moves ∙ fixed)),
    )

in_gap_after : (s : Shape) (t : HandleTable) (k x n : ℕ) (m new : ZoneMap) (g : Gap) → gap_after x (gaps t m) ≡ Some g → sizes (is_named x) m ≡ n ∷ [] → resized_in_place s k x (filled g (up g.blocks)) ≡ Some new → IsResized s t x m new
in_gap_after s t k x n m new g found once h =
    let after = gap_after-is t m x g found in
    let p = gap_after-parts t m g x n after.0 after.1 once in
    let at = opened_after-At x m g n p in (
      subst (Rearranged s (is_fixed t) (released x m)) (sym (released-resized_in_place s k x (filled g (up g.blocks)) n p.front p.kind _ new at h))
          (released-Rearranged s t x m (filled g (up g.blocks)) (gap-Rearranged s t m g (up g.blocks) after.0 (up-IsArrangement g.blocks))),
      λ fixed. contents_of-resized_in_place s k x (filled g (up g.blocks)) n p.front p.kind _ new at h ∙ sym (contents_of-At s x m n p.front p.kind (g.blocks ++ g.after) p.at),
    )

-- once the other blocks of its gap have made way
pub resized_in_gap-IsResized : (s : Shape) (t : HandleTable) (k x n : ℕ) (m new : ZoneMap) → sizes (is_named x) m ≡ n ∷ [] → resized_in_gap s t k x m ≡ Some new → IsResized s t x m new
resized_in_gap-IsResized s t k x n m new once h =
    let found = option_and_then-Some (λ g. resized_in_place s k x (opened_for t x g)) (gap_to_grow t x m) new h in
    let g : Gap = found.0 in
    elim (stays t x) as (λ c. stays t x ≡ c → cond c (gap_after x (gaps t m)) (own_gap x (gaps t m)) ≡ Some g → resized_in_place s k x (filled g (cond c (up g.blocks) (open_at x g.blocks))) ≡ Some new → IsResized s t x m new) [
      | true ↦ λ fixed gap made. in_gap_after s t k x n m new g gap once made
      | false ↦ λ moves gap made. in_own_gap s t k x n m new g moves gap once made
    ] refl found.1 found.2

-- in a new place
pub resized_elsewhere-IsResized : (s : Shape) (t : HandleTable) (k x : ℕ) (m new : ZoneMap) → 0 < k → Suits s t m → resized_elsewhere s t k x m ≡ Some new → IsResized s t x m new
resized_elsewhere-IsResized s t k x m new some suits h =
    elim (stays t x) as (λ c. stays t x ≡ c → cond c None (option_map (λ found. renamed 0 x (released x found)) (placed_relocatable s t k (Rel 0) m)) ≡ Some new → IsResized s t x m new) [
      | true ↦ λ fixed none. absurd (cc none)
      | false ↦ λ moves is. let found = option_map-Some (λ found. renamed 0 x (released x found)) (placed_relocatable s t k (Rel 0) m) new is in (
        subst (Rearranged s (is_fixed t) (released x m)) (sym (released-renamed 0 x found.0) ∙ ap (released x) found.2)
            (released-Rearranged s t x m (released 0 found.0) (placed_relocatable-fixed s t k 0 (Rel 0) m found.0 some (eq-eqb 0 0 refl) (named_none-nil s t m suits) suits.apart found.1)),
        λ fixed. absurd (false≢true (sym moves ∙ fixed)),
      )
    ] refl h

-- another size for x, which names one block
pub served-Resize : (s : Shape) (t : HandleTable) (slot : ℕ) (m : ZoneMap) (y n x : ℕ) (new : ZoneMap) → Suits s t m → length (sizes (is_named y) m) ≡ 1 → serve s t slot m (Resize y n) ≡ Some (x, new) → MapServed s t (size_needed s (Resize y n)) (Resize y n) x m new
served-Resize s t slot m y n x new suits once h =
    let found = option_map-Some (gives y) (resized_block s t k y m) (x, new) h in
    let is : found.0 ≡ new = ap (λ p. p.1) found.2 in
    let one = one_size (sizes (is_named y) m) once in
    by_place one.0 one.1 (option_or-Some (resized_in_place s k y m) _ new (found.1 ∙ ap Some is))
  where
    k : ℕ
    k = size_needed s (Resize y n)

    later : (resized_in_gap s t k y m ≡ Some new) ⊎ ((resized_in_gap s t k y m ≡ None) × (resized_elsewhere s t k y m ≡ Some new)) → (size : ℕ) → sizes (is_named y) m ≡ size ∷ [] → IsResized s t y m new
    later (inl gap) size once = resized_in_gap-IsResized s t k y size m new once gap
    later (inr elsewhere) size once = resized_elsewhere-IsResized s t k y m new (size_needed-positive s (Resize y n)) suits elsewhere.1

    by_place : (size : ℕ) → sizes (is_named y) m ≡ size ∷ [] → (resized_in_place s k y m ≡ Some new) ⊎ ((resized_in_place s k y m ≡ None) × (option_or (resized_in_gap s t k y m) (resized_elsewhere s t k y m) ≡ Some new)) → IsResized s t y m new
    by_place size once (inl place) = resized_in_place-IsResized s t k y size m new once place
    by_place size once (inr rest) = later (option_or-Some (resized_in_gap s t k y m) (resized_elsewhere s t k y m) new rest.1) size once
