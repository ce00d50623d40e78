-- The handle whose block a block is is live.
use Rattle.std.proofs.Common.{◌≡◌, ℕ, Bool, true, false, cond, List, [], ◌∷◌, ◌++◌, length, refl, ap, sym, ◌∙◌, arith, Option, Some, None}
use Rattle.std.proofs.lemmas.Bool.Decides.{nat_tests}
use Rattle.mac_base.specs.declared.block.Entry.{Entry}
use Rattle.mac_base.specs.declared.block.Kind.{Kind}
use Rattle.mac_base.specs.declared.block.Kind.TheVariants.{Free, Master, Ptr, Rel}
use Rattle.mac_base.specs.HandleTable.{Live, EmptyHandle, FullHandle, Pointer, live_at, live_full, live_handle, is_full, is_handle}
use Rattle.mac_base.specs.Suits.{is_handle_block}
use Rattle.mac_base.specs.ZoneMap.{ZoneMap, address_after, sizes}
use Rattle.mac_base.specs.ZoneState.{ZoneState}
use Rattle.zone_laws.proofs.GapAppend.{sizes-append, length-addresses_from}
use Rattle.linked_zone.specs.Fit.{Fits}
use Rattle.linked_zone.specs.Places.{EntryAt, HasOwner}

-- a handle with a block is live
pub live_full-handle : (o : Option Live) → live_full o ≡ true → live_handle o ≡ true
live_full-handle None h = absurd (cc h)
live_full-handle (Some EmptyHandle) h = refl
live_full-handle (Some (FullHandle flags bytes)) h = refl
live_full-handle (Some (Pointer bytes)) h = absurd (cc h)

no_one : (xs : List ℕ) (n : ℕ) (ys : List ℕ) → length (xs ++ n ∷ ys) ≡ 0 → ⊥
no_one [] n ys h = absurd (omega arith)
no_one (x ∷ xs) n ys h = absurd (omega arith)

itself : (h : ℕ) → is_handle_block h (Rel h) ≡ true
itself h = grind (arith, nat_tests)

-- a handle that has a block of a zone
owner_full : (z : ZoneState) (h : ℕ) (before : ZoneMap) (e : Entry) (after : ZoneMap) → z.heap.map ≡ before ++ e ∷ after → e.kind ≡ Rel h → Fits z → (c : Bool) → is_full z.heap.table h ≡ c → is_handle z.heap.table h ≡ true
owner_full z h before e after map is fits true full = live_full-handle (live_at z.heap.table h) full
owner_full z h before e after map is fits false none =
    let here = ap (is_handle_block h) is ∙ itself h in
    let parts = ap (sizes (is_handle_block h)) map ∙ sizes-append (is_handle_block h) before (e ∷ after) ∙ ap (λ c. sizes (is_handle_block h) before ++ (cond c (e.size ∷ []) [] ++ sizes (is_handle_block h) after)) here in
    let count = sym (length-addresses_from (address_after z.shape []) (is_handle_block h) z.heap.map) ∙ (fits.coherent).handles h ∙ ap (λ c. cond c 1 0) none in
    absurd (no_one (sizes (is_handle_block h) before) e.size (sizes (is_handle_block h) after) (sym (ap length parts) ∙ count))

-- that of a block that is read
pub entry-owner : (z : ZoneState) (at : ℕ) (e : EntryAt z at) → Fits z → HasOwner z (e.here).kind
entry-owner z at e fits = by_kind (e.here).kind refl
  where
    by_kind : (k : Kind) → (e.here).kind ≡ k → HasOwner z k
    by_kind Free is = tt
    by_kind Master is = tt
    by_kind (Ptr p) is = tt
    by_kind (Rel h) is = owner_full z h e.before e.here e.after e.map is fits (is_full z.heap.table h) refl
