-- What a zone is once a pointer's block is free and the pointer isn't live.
use Rattle.std.proofs.Common.{◌≡◌, ℕ, ◌+◌, true, false, cond, [], ◌∷◌, ◌++◌, length, map, None, refl, ap, sym, ◌∙◌, subst, ne_eqb}
use Rattle.std.proofs.lemmas.Bool.{false_from_ne_true, eqb-true}
use Rattle.std.proofs.lemmas.List.{nil_from_length}
use Rattle.mac_base.specs.declared.block.Kind.{Kind}
use Rattle.mac_base.specs.declared.block.Kind.TheVariants.{Free, Master, Ptr, Rel}
use Rattle.mac_base.specs.HeadKind.{head_size}
use Rattle.mac_base.specs.ZoneMap.{ZoneMap, block, is_named, total_size, addresses, addresses_from, address_after, contents_addresses, contents_of}
use Rattle.mac_base.specs.HandleTable.{HandleTable, live_at, live_full, live_handle, live_pointer, is_full, is_handle, is_lent, is_pointer, without}
use Rattle.mac_base.specs.Suits.{is_handle_block, is_pointer_block}
use Rattle.mac_base.specs.ZoneState.{ZoneState, with_heap}
use Rattle.zone_laws.proofs.GapAppend.{addresses_from-none}
use Rattle.zone_laws.proofs.Tables.{AgreeBut, live_at-without_same, without_agrees, in_order-without, by_number, eqb_swap, pointer_no_handle}
use Rattle.zone_laws.proofs.Owners.{none_named}
use Rattle.zone_laws.proofs.Maps.{addresses_from-append}
use Rattle.linked_zone.specs.Owned.{slot_of}
use Rattle.linked_zone.specs.Places.{NamedAt}
use Rattle.linked_zone.specs.Changes.{unfixed}
use Rattle.linked_zone.specs.Fit.{Fits}
use Rattle.linked_zone.proofs.ChangeParts.{same_slot, Fits-kept}
use Rattle.linked_zone.proofs.ChangeBlock.{none_pointer, swapped-addresses, swapped-slots, swapped-pointers, swapped-contents}
use Rattle.linked_zone.proofs.ChangeSized.{names-one, passes-some}
use Rattle.linked_zone.proofs.ChangeBlock.{freed-only}
use Rattle.linked_zone.proofs.Lent.{loans-replaced}

module _ (z : ZoneState) (p at : ℕ) (fits : Fits z) (live : is_pointer z.heap.table p ≡ true) (b : NamedAt z p at) where
  no_handle : (is_handle z.heap.table p ≡ false) × (is_full z.heap.table p ≡ false)
  no_handle = pointer_no_handle z.heap.table p live

  -- the block is the pointer's
  kind_is : b.here.kind ≡ Ptr p
  kind_is = by_kind b.here.kind b.named (false_from_ne_true (is_handle_block p b.here.kind) (λ passes.
      passes-some (address_after z.shape []) (is_handle_block p) b.before b.here b.after passes (ap (addresses z.shape (is_handle_block p)) (sym b.map) ∙ nil_from_length _ (fits.coherent.handles p ∙ ap (λ c. cond c 1 0) no_handle.1))))
    where
      by_kind : (kind : Kind) → is_named p kind ≡ true → is_handle_block p kind ≡ false → kind ≡ Ptr p
      by_kind Free named other = absurd (cc named)
      by_kind Master named other = absurd (cc named)
      by_kind (Ptr q) named other = ap (λ x. Ptr x) (eqb-true q p named)
      by_kind (Rel g) named other = absurd (cc (named, other))

  -- it is in the map
  pub unfixed-was : z.heap.map ≡ b.before ++ block (Ptr p) b.here.size ∷ b.after
  unfixed-was = b.map ∙ ap (λ k. b.before ++ block k b.here.size ∷ b.after) kind_is

  -- no block before it bears the pointer's name
  pub unfixed-none_before : none_named p b.before ≡ true
  unfixed-none_before = (names-one z p b.before b.here b.after fits b.map b.named).none_before

  -- and none after it
  pub unfixed-none_after : none_named p b.after ≡ true
  unfixed-none_after = (names-one z p b.before b.here b.after fits b.map b.named).none_after

  abbrev u : HandleTable
  u = without p z.heap.table

  abbrev m : ZoneMap
  m = b.before ++ block Free b.here.size ∷ b.after

  -- the map is that with the block free
  pub unfixed-map : (unfixed p z).heap.map ≡ m
  unfixed-map = freed-only p z.heap.map b.before b.here b.after b.map b.named unfixed-none_before unfixed-none_after

  agree : AgreeBut p z.heap.table u
  agree = without_agrees p z.heap.table

  gone : live_at u p ≡ None
  gone = live_at-without_same p z.heap.table

  -- no block is the pointer's then
  no_block : contents_addresses z.shape (is_pointer_block p) m ≡ []
  no_block =
      let start = address_after z.shape [] in
      let here = start + total_size b.before in
      ap (map (λ a. a + head_size z.shape.heads))
      (addresses_from-append start (is_pointer_block p) b.before (block Free b.here.size ∷ b.after)
      ∙ ap (λ found. found ++ addresses_from (here + b.here.size) (is_pointer_block p) b.after) (addresses_from-none start (is_pointer_block p) b.before (none_pointer p b.before unfixed-none_before))
      ∙ addresses_from-none (here + b.here.size) (is_pointer_block p) b.after (none_pointer p b.after unfixed-none_after))

  fits_apart : is_lent z.heap.table p ≡ false → Fits (with_heap (record { table = u; map = m; free_slots = z.heap.free_slots }) z)
  fits_apart unlent = Fits-kept z u m fits
      (λ g. ap length (swapped-addresses z b.before (Ptr p) Free b.here.size b.after unfixed-was (is_handle_block g) refl) ∙ fits.coherent.handles g ∙ ap (λ c. cond c 1 0) (sym (full g)))
      (by_number (λ q. contents_addresses z.shape (is_pointer_block q) m ≡ cond (is_pointer u q) (q ∷ []) []) p
      (no_block ∙ ap (λ o. cond (live_pointer o) (p ∷ []) []) (sym gone))
      (λ q apart. swapped-pointers z b.before (Ptr p) Free b.here.size b.after unfixed-was q (sym (eqb_swap p q ∙ apart)) ∙ fits.coherent.pointers q ∙ ap (λ o. cond (live_pointer o) (q ∷ []) []) (sym (agree.others q apart))))
      (swapped-slots z b.before (Ptr p) Free b.here.size b.after unfixed-was refl)
      (by_number (λ y. is_handle u y ≡ is_handle z.heap.table y) p (ap live_handle gone ∙ sym no_handle.0) (λ y apart. ap live_handle (agree.others y apart)))
      (in_order-without p z.heap.table fits.coherent.in_order)
      (loans-replaced z.heap (record { table = u; map = m; free_slots = z.heap.free_slots }) b.before (block (Ptr p) b.here.size ∷ []) (block Free b.here.size ∷ []) b.after fits.loans refl unfixed-was refl
      (sym (ap (λ c. cond c (p ∷ []) []) unlent)))
    where
      full : (g : ℕ) → is_full u g ≡ is_full z.heap.table g
      full = by_number (λ g. is_full u g ≡ is_full z.heap.table g) p (ap live_full gone ∙ sym no_handle.1) (λ g apart. ap live_full (agree.others g apart))

  -- the zone still fits, where the pointer isn't lent
  pub unfixed-fits : is_lent z.heap.table p ≡ false → Fits (unfixed p z)
  unfixed-fits unlent = subst (λ m. Fits (with_heap (record { table = u; map = m; free_slots = z.heap.free_slots }) z)) (sym unfixed-map) (fits_apart unlent)

  -- the master pointers of all others stay
  pub unfixed-others : (x : ℕ) → (x ≡ p → ⊥) → slot_of (unfixed p z) x ≡ slot_of z x
  unfixed-others x other =
      let apart = ne_eqb x p other in
      same_slot z (unfixed p z) x refl (agree.others x apart)
      (ap (contents_of z.shape x) unfixed-map ∙ swapped-contents z b.before (Ptr p) Free b.here.size b.after unfixed-was x (sym (eqb_swap p x ∙ apart))) refl
