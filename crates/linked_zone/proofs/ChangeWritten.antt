-- What a zone is once a handle or a pointer has other bytes.
use Rattle.std.proofs.Common.{◌≡◌, ℕ, true, List, Some, refl, ap, ◌∙◌, ne_eqb}
use Rattle.mac_base.specs.Heap.{with_table}
use Rattle.mac_base.specs.ZoneMap.{contents_of}
use Rattle.mac_base.specs.HandleTable.{HandleTable, Live, live_at, live_bytes, live_full, live_handle, live_pointer, bytes_of, has_block, refilled, with_bytes, with_live}
use Rattle.mac_base.specs.ZoneState.{ZoneState, with_heap}
use Rattle.zone_laws.proofs.Tables.{AgreeBut, live_at-with_live_same, with_live_agrees, in_order-with_live, by_number}
use Rattle.linked_zone.specs.Owned.{slot_of, next_free, slot_of_live}
use Rattle.linked_zone.specs.Fit.{Fits}
use Rattle.linked_zone.proofs.ChangeParts.{same_slot, Fits-same_map}
use Rattle.linked_zone.proofs.Lent.{loans-kept}
use Rattle.linked_zone.proofs.ChangeSized.{Refilled, refilled_block}

-- the zone in which x has these bytes
abbrev pub rewritten : ZoneState → ℕ → List ℕ → ZoneState
rewritten z x bytes = with_heap (with_table (with_bytes x bytes z.heap.table) z.heap) z

module _ (z : ZoneState) (x : ℕ) (bytes : List ℕ) (fits : Fits z) (is : has_block z.heap.table x ≡ true) where
  abbrev l : Live
  l = refilled bytes (live_at z.heap.table x)

  abbrev u : HandleTable
  u = with_live x l z.heap.table

  same : Refilled bytes (live_at z.heap.table x)
  same = refilled_block bytes (live_at z.heap.table x) is

  agree : AgreeBut x z.heap.table u
  agree = with_live_agrees x l z.heap.table

  has : live_at u x ≡ Some l
  has = live_at-with_live_same x l z.heap.table

  -- the zone still fits
  pub written-fits : Fits (rewritten z x bytes)
  written-fits = Fits-same_map z x u fits agree (ap live_full has ∙ same.full) (ap live_pointer has ∙ same.pointer) (ap live_handle has ∙ same.handle)
      (in_order-with_live x l z.heap.table fits.coherent.in_order)
      (loans-kept z.heap (record { table = u; map = z.heap.map; free_slots = z.heap.free_slots }) fits.loans refl refl)

  -- all master pointers stay
  pub written-pointers : (y : ℕ) → slot_of (rewritten z x bytes) y ≡ slot_of z y
  written-pointers = by_number (λ y. slot_of (rewritten z x bytes) y ≡ slot_of z y) x
      (ap (λ o. (slot_of_live z.shape.heads o (contents_of z.shape x z.heap.map) (next_free z.heap.free_slots x))) has ∙ same.word z.shape.heads (contents_of z.shape x z.heap.map) (next_free z.heap.free_slots x))
      (λ y apart. same_slot z (rewritten z x bytes) y refl (agree.others y apart) refl refl)

  -- it has these bytes
  pub written-bytes : bytes_of (rewritten z x bytes).heap.table x ≡ bytes
  written-bytes = ap live_bytes has ∙ same.holds

  -- the bytes of all others stay
  pub written-other_bytes : (y : ℕ) → (y ≡ x → ⊥) → bytes_of (rewritten z x bytes).heap.table y ≡ bytes_of z.heap.table y
  written-other_bytes y other = ap live_bytes (agree.others y (ne_eqb y x other))
