-- A trial in the zone: it grows where the request doesn't fit, and then is purged.
use Rattle.std.proofs.Common.{◌≡◌, ℕ, true, false, List, Some, ap, ◌∙◌, sym, subst}
use Rattle.std.specs.Prelude.{IsFalse}
use Rattle.mac_base.specs.Attempt.{attempted}
use Rattle.mac_base.specs.Heap.{grown}
use Rattle.mac_base.specs.Purging.{purged}
use Rattle.mac_base.specs.declared.request.Request.{Request}
use Rattle.mac_base.specs.Request.{fits}
use Rattle.mac_base.specs.ZoneState.{ZoneState, with_heap}
use Rattle.mac_base.specs.ExactRequest.{prepared}
use Rattle.zone_heap.specs.Attempts.{CanAsk, lacks_slot}
use Rattle.zone_heap.specs.Purge.{is_protected}
use Rattle.mem_calls.specs.Requesting.{EndsAttempt}
use Rattle.mem_calls.proofs.Trying.{prepared-grown}
use Rattle.mem_calls.proofs.Keeping.{Keeps, keeps-purged, ready-kept, slot-kept}

-- the zone grown to its limit
abbrev pub zone_grown : ZoneState → ZoneState
zone_grown z = with_heap (grown z.shape z.heap) z

-- and purged for a request
abbrev pub zone_purged : List ℕ → Request → ZoneState → ZoneState
zone_purged protected r z = with_heap (purged z.shape protected r z.heap) z

-- what is grown after an attempt that has changed nothing
pub is_grown : (old tried larger : ZoneState) → tried ≡ old → larger ≡ zone_grown tried → larger ≡ zone_grown old
is_grown old tried larger first then = then ∙ ap zone_grown first

-- a request that is served in the zone grown to its limit
pub trial-grown : (protected : List ℕ) (r : Request) (x : ℕ) (old tried larger new : ZoneState) → tried ≡ old → larger ≡ zone_grown tried → IsFalse (fits old.shape old.heap.table r old.heap.map)
    → EndsAttempt larger r (Some x) new → attempted old.shape r (prepared old.shape protected r old.heap) ≡ Some (x, new.heap)
trial-grown protected r x old tried larger new first then misses given =
    let served = subst (λ z. EndsAttempt z r (Some x) new) (is_grown old tried larger first then) given in
    ap (attempted old.shape r) (prepared-grown old.shape protected r old.heap misses served.0) ∙ served.1

-- what is purged after it
pub is_purged : (protected : List ℕ) (r : Request) (old tried larger again last_zone : ZoneState) → tried ≡ old → larger ≡ zone_grown tried → again ≡ larger → last_zone ≡ zone_purged protected r again
    → last_zone ≡ zone_purged protected r (zone_grown old)
is_purged protected r old tried larger again last_zone first then same last = last ∙ ap (zone_purged protected r) (same ∙ is_grown old tried larger first then)

keeps-grown_purged : (protected : List ℕ) (r : Request) (old : ZoneState) → Keeps protected old.heap (zone_purged protected r (zone_grown old)).heap
keeps-grown_purged protected r old = let keeps = keeps-purged old.shape protected r (grown old.shape old.heap) in record { same = keeps.same; slot = keeps.slot }

-- the request can be made in the zone that is purged
pub ready-purged : (protected : List ℕ) (r : Request) (old new : ZoneState) → is_protected protected r ≡ true → CanAsk old r → new ≡ zone_purged protected r (zone_grown old) → CanAsk new r
ready-purged protected r old new among ready is = subst (λ z. CanAsk z r) (sym is) (record {
  size = ready.size;
  operand = ready-kept protected r old.heap (zone_purged protected r (zone_grown old)).heap (keeps-grown_purged protected r old) among ready.operand;
})

-- and has its slot
pub slot-purged : (protected : List ℕ) (r : Request) (old new : ZoneState) → lacks_slot r old.heap ≡ false → new ≡ zone_purged protected r (zone_grown old) → lacks_slot r new.heap ≡ false
slot-purged protected r old new slot is = subst (λ (z : ZoneState). lacks_slot r z.heap ≡ false) (sym is)
    (slot-kept protected r old.heap (zone_purged protected r (zone_grown old)).heap (keeps-grown_purged protected r old) slot)
