-- What a zone is once a handle has other flags.
use Rattle.std.proofs.Common.{◌≡◌, ℕ, true, Some, refl, ap, sym, ◌∙◌, ne_eqb}
use Rattle.mac_base.specs.declared.block.Flags.{Flags}
use Rattle.mac_base.specs.ZoneMap.{contents_of}
use Rattle.mac_base.specs.HandleTable.{HandleTable, FullHandle, Live, live_at, live_bytes, live_full, live_handle, live_pointer, bytes_of, is_full, with_live}
use Rattle.mac_base.specs.ZoneState.{ZoneState}
use Rattle.zone_laws.proofs.Tables.{AgreeBut, live_at-with_live_same, with_live_agrees, in_order-with_live, by_number, full_handle, handle_no_pointer}
use Rattle.zone_records.specs.declared.slot.Slot.TheVariants as slot
use Rattle.linked_zone.specs.Owned.{slot_flags, slot_of, next_free, slot_of_live}
use Rattle.linked_zone.specs.Changes.{flagged}
use Rattle.linked_zone.specs.Fit.{Fits}
use Rattle.linked_zone.proofs.ChangeParts.{same_slot, Fits-same_map}
use Rattle.linked_zone.proofs.Lent.{loans-kept}

module _ (z : ZoneState) (h : ℕ) (flags : Flags) (fits : Fits z) (full : is_full z.heap.table h ≡ true) where
  abbrev l : Live
  l = FullHandle flags (bytes_of z.heap.table h)

  abbrev u : HandleTable
  u = with_live h l z.heap.table

  agree : AgreeBut h z.heap.table u
  agree = with_live_agrees h l z.heap.table

  has : live_at u h ≡ Some l
  has = live_at-with_live_same h l z.heap.table

  -- the zone still fits
  pub flagged-fits : Fits (flagged h flags z)
  flagged-fits = Fits-same_map z h u fits agree
      (ap live_full has ∙ sym full)
      (ap live_pointer has ∙ sym (handle_no_pointer z.heap.table h (full_handle z.heap.table h full)))
      (ap live_handle has ∙ sym (full_handle z.heap.table h full))
      (in_order-with_live h l z.heap.table fits.coherent.in_order)
      (loans-kept z.heap (record { table = u; map = z.heap.map; free_slots = z.heap.free_slots }) fits.loans refl refl)

  -- its master pointer says the flags and where its block's contents begin
  pub flagged-pointer : slot_of (flagged h flags z) h ≡ slot.Full (slot_flags z.shape.heads flags) (contents_of z.shape h z.heap.map)
  flagged-pointer = ap (λ o. (slot_of_live z.shape.heads o (contents_of z.shape h z.heap.map) (next_free z.heap.free_slots h))) has

  -- all others stay
  pub flagged-others : (x : ℕ) → (x ≡ h → ⊥) → slot_of (flagged h flags z) x ≡ slot_of z x
  flagged-others x other = same_slot z (flagged h flags z) x refl (agree.others x (ne_eqb x h other)) refl refl

  -- the bytes of all stay
  pub flagged-bytes : (x : ℕ) → bytes_of (flagged h flags z).heap.table x ≡ bytes_of z.heap.table x
  flagged-bytes = by_number (λ x. bytes_of (flagged h flags z).heap.table x ≡ bytes_of z.heap.table x) h
      (ap live_bytes has)
      (λ x apart. ap live_bytes (agree.others x apart))
