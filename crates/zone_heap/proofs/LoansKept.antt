-- What is lent keeps its place where a map is rearranged, so its loan can come back.
use Rattle.std.proofs.Common.{◌≡◌, ℕ, ◌+◌, true, false, cond, [], ◌∷◌, ◌++◌, length, refl, ap, sym, ◌∙◌, inl, inr, Option, Some, None}
use Rattle.std.specs.Prelude.{◌⊎◌, map, slice_index}
use Rattle.std.proofs.lemmas.Bool.{or_cases}
use Rattle.mac_base.specs.declared.block.Kind.{Kind}
use Rattle.mac_base.specs.declared.block.Kind.TheVariants.{Free, Master, Ptr, Rel}
use Rattle.mac_base.specs.Arrangement.{open_at}
use Rattle.mac_base.specs.Compaction.{all_down, moved_high}
use Rattle.mac_base.specs.Gap.{Gap, gaps, filled, is_fixed, own_gap}
use Rattle.mac_base.specs.HandleTable.{HandleTable, Live, EmptyHandle, FullHandle, Pointer, live_at, live_flags, live_full, live_pointer, is_full, is_locked, is_pointer}
use Rattle.mac_base.specs.HeadKind.{Shape, head_size}
use Rattle.mac_base.specs.Suits.{Coherent, is_handle_block, is_pointer_block}
use Rattle.mac_base.specs.ZoneMap.{ZoneMap, Rearranged, address_after, addresses, addresses_from, contents_of, is_named, sizes}
use Rattle.mac_base.specs.ZoneState.{ZoneState}
use Rattle.std.specs.Option.{option_map_or}
use Rattle.std.proofs.lemmas.List.{nil_from_length}
use Rattle.zone_laws.proofs.Arranging.{IsArrangement}
use Rattle.zone_laws.proofs.ArrangingNamed.{open_at-IsArrangement}
use Rattle.zone_laws.proofs.GapParts.{IsGap, own_gap-is}
use Rattle.zone_laws.proofs.Rearranging.{Rearranged-refl, gap-Rearranged}
use Rattle.zone_laws.proofs.GapAppend.{length-addresses_from}
use Rattle.zone_laws.proofs.Owners.{nothing_passes, no_map}
use Rattle.zone_laws.proofs.SuitsNamed.{full-no_pointer}
use Rattle.zone_laws.proofs.RearrangedSuits.{handle_block-kind, pointer_block-kind}
use Rattle.zone_laws.proofs.RearrangingAll.{all_down-Rearranged, moved_high-Rearranged}
use Rattle.linked_zone.specs.Changes.{with_map}
use Rattle.linked_zone.specs.Loans.{KeepsLoans}
use Rattle.zone_heap.specs.Gaps.{Settled, with_gap, opened_after}
use Rattle.zone_heap.proofs.Laws.{coherent-rearranged}

-- the block that a number names is that of its handle, where it is no pointer's
named-handle : (x : ℕ) (k : Kind) → is_pointer_block x k ≡ false → is_named x k ≡ is_handle_block x k
named-handle x Free h = refl
named-handle x Master h = refl
named-handle x (Ptr p) h = h
named-handle x (Rel g) h = refl

-- or that of its pointer, where it is no handle's
named-pointer : (x : ℕ) (k : Kind) → is_handle_block x k ≡ false → is_named x k ≡ is_pointer_block x k
named-pointer x Free h = refl
named-pointer x Master h = refl
named-pointer x (Ptr p) h = refl
named-pointer x (Rel g) h = h

addresses-handle : (at x : ℕ) (m : ZoneMap) → sizes (is_pointer_block x) m ≡ [] → addresses_from at (is_named x) m ≡ addresses_from at (is_handle_block x) m
addresses-handle at x [] none = refl
addresses-handle at x (e ∷ es) none =
    let parts = nothing_passes (is_pointer_block x e.kind) e.size (sizes (is_pointer_block x) es) none in
    ap (λ c. cond c (at ∷ []) [] ++ addresses_from (at + e.size) (is_named x) es) (named-handle x e.kind parts.0)
    ∙ ap (λ found. cond (is_handle_block x e.kind) (at ∷ []) [] ++ found) (addresses-handle (at + e.size) x es parts.1)

addresses-pointer : (at x : ℕ) (m : ZoneMap) → sizes (is_handle_block x) m ≡ [] → addresses_from at (is_named x) m ≡ addresses_from at (is_pointer_block x) m
addresses-pointer at x [] none = refl
addresses-pointer at x (e ∷ es) none =
    let parts = nothing_passes (is_handle_block x e.kind) e.size (sizes (is_handle_block x) es) none in
    ap (λ c. cond c (at ∷ []) [] ++ addresses_from (at + e.size) (is_named x) es) (named-pointer x e.kind parts.0)
    ∙ ap (λ found. cond (is_pointer_block x e.kind) (at ∷ []) [] ++ found) (addresses-pointer (at + e.size) x es parts.1)

-- a number that is no pointer has no block as one
no_pointer : (s : Shape) (t : HandleTable) (m : ZoneMap) (x : ℕ) → Coherent s t m → is_pointer t x ≡ false → sizes (is_pointer_block x) m ≡ []
no_pointer s t m x c other =
    let none = no_map _ _ (c.pointers x ∙ ap (λ b. cond b (x ∷ []) []) other) in
    nil_from_length _ (sym (length-addresses_from (address_after s []) (is_pointer_block x) m) ∙ ap length none)

-- and one that is no handle with a block none as a handle
pub no_handle : (s : Shape) (t : HandleTable) (m : ZoneMap) (x : ℕ) → Coherent s t m → is_full t x ≡ false → sizes (is_handle_block x) m ≡ []
no_handle s t m x c other = nil_from_length _ (sym (length-addresses_from (address_after s []) (is_handle_block x) m) ∙ c.handles x ∙ ap (λ b. cond b 1 0) other)

-- a pointer is no handle
pub pointer-no_full : (o : Option Live) → live_pointer o ≡ true → live_full o ≡ false
pointer-no_full None h = refl
pointer-no_full (Some EmptyHandle) h = refl
pointer-no_full (Some (FullHandle flags bytes)) h = absurd (cc h)
pointer-no_full (Some (Pointer bytes)) h = refl

-- a locked handle has a block
pub locked-full : (o : Option Live) → (live_flags o).lock ≡ true → live_full o ≡ true
locked-full None h = absurd (cc h)
locked-full (Some EmptyHandle) h = absurd (cc h)
locked-full (Some (FullHandle flags bytes)) h = refl
locked-full (Some (Pointer bytes)) h = absurd (cc h)

-- a pointer's block, and a locked handle's, keeps its address
addresses-kept : (s : Shape) (t : HandleTable) (old new : ZoneMap) (x : ℕ) → Coherent s t old → Rearranged s (is_fixed t) old new → (is_pointer t x ≡ true) ⊎ (is_locked t x ≡ true) → addresses s (is_named x) new ≡ addresses s (is_named x) old
addresses-kept s t old new x c r (inl pointer) =
    let other = pointer-no_full (live_at t x) pointer in
    let start : ℕ = address_after s [] in
    addresses-pointer start x new (no_handle s t new x (coherent-rearranged s t old new r c) other) ∙ ap (λ test. addresses s test new) (pointer_block-kind x) ∙ r.same_places (Ptr x) refl
    ∙ ap (λ test. addresses s test old) (sym (pointer_block-kind x)) ∙ sym (addresses-pointer start x old (no_handle s t old x c other))
addresses-kept s t old new x c r (inr locked) =
    let other = full-no_pointer t x (locked-full (live_at t x) locked) in
    let start : ℕ = address_after s [] in
    addresses-handle start x new (no_pointer s t new x (coherent-rearranged s t old new r c) other) ∙ ap (λ test. addresses s test new) (handle_block-kind x) ∙ r.same_places (Rel x) locked
    ∙ ap (λ test. addresses s test old) (sym (handle_block-kind x)) ∙ sym (addresses-handle start x old (no_pointer s t old x c other))

-- each loan of a settled zone is one once its map is rearranged
pub keeps_loans-rearranged : (z : ZoneState) (new : ZoneMap) → Settled z → Rearranged z.shape (is_fixed z.heap.table) z.heap.map new → KeepsLoans z (with_map new z)
keeps_loans-rearranged z new s r = (
  refl,
  λ x loan is.
      let t = z.heap.table in
      let same = addresses-kept z.shape t z.heap.map new x s.coherent r (or_cases (is_pointer t x) (is_locked t x) (s.loans x is.lent)) in
      let there : contents_of z.shape x new ≡ contents_of z.shape x z.heap.map = ap (λ at. slice_index (map (λ a. a + head_size z.shape.heads) at) 0) same in
      record { lent = is.lent; memory = is.memory; contents = is.contents ∙ sym there; long = is.long },
)

-- as where a gap is arranged
pub keeps_loans-gap : (z : ZoneState) (g : Gap) (b : ZoneMap) → IsGap z.heap.table z.heap.map g → IsArrangement g.blocks b → Settled z → KeepsLoans z (with_gap z g b)
keeps_loans-gap z g b is a s = keeps_loans-rearranged z (filled g b) s (gap-Rearranged z.shape z.heap.table z.heap.map g b is a)

-- or all are, down
pub keeps_loans-all_down : (z : ZoneState) → Settled z → KeepsLoans z (with_map (all_down z.heap.table z.heap.map) z)
keeps_loans-all_down z s = keeps_loans-rearranged z (all_down z.heap.table z.heap.map) s (all_down-Rearranged z.shape z.heap.table z.heap.map)

-- or a block is moved high
pub keeps_loans-moved_high : (z : ZoneState) (h : ℕ) → Settled z → KeepsLoans z (with_map (moved_high z.heap.table h z.heap.map) z)
keeps_loans-moved_high z h s = keeps_loans-rearranged z (moved_high z.heap.table h z.heap.map) s (moved_high-Rearranged z.shape z.heap.table h z.heap.map)

-- or a gap is opened
pub keeps_loans-opened_after : (z : ZoneState) (h : ℕ) → Settled z → KeepsLoans z (with_map (opened_after z.heap.table h z.heap.map) z)
keeps_loans-opened_after z h s = by_gap (own_gap h (gaps z.heap.table z.heap.map)) refl
  where
    by_gap : (o : Option Gap) → own_gap h (gaps z.heap.table z.heap.map) ≡ o → KeepsLoans z (with_map (option_map_or (λ (g : Gap). filled g (open_at h g.blocks)) o z.heap.map) z)
    by_gap None none = keeps_loans-rearranged z z.heap.map s (Rearranged-refl z.shape (is_fixed z.heap.table) z.heap.map)
    by_gap (Some g) found = let own = own_gap-is z.heap.table z.heap.map h g found in keeps_loans-gap z g (open_at h g.blocks) own.0 (open_at-IsArrangement h g.blocks own.1) s
