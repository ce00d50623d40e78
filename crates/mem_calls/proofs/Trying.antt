-- Attempts and trials: an attempt is served just where the request fits, and a trial prepares no more than it needs.
use Rattle.std.proofs.Common.{◌≡◌, ℕ, ◌<◌, true, false, cond, not, List, [], ◌∷◌, length, Result, Ok, Err, Some, ap, sym, ◌∙◌, arith}
use Rattle.std.specs.Prelude.{is_some}
use Rattle.std.specs.Result.{result_ok}
use Rattle.std.proofs.lemmas.Bool.{and_parts}
use Rattle.mac_base.specs.Attempt.{attempted}
use Rattle.mac_base.specs.HeadKind.{Shape}
use Rattle.mac_base.specs.ZoneMap.{ZoneMap}
use Rattle.mac_base.specs.HandleTable.{has_block, is_lent}
use Rattle.mac_base.specs.Heap.{Heap, front_slot, granted, grown, has_none, with_all_emptied}
use Rattle.mac_base.specs.Purging.{purged}
use Rattle.mac_base.specs.declared.request.Request.{Request}
use Rattle.mac_base.specs.declared.request.Request.TheVariants.{NewBlock, NewEmpty, NewPointer, NewMaster, Reserve, Resize, Replace}
use Rattle.mac_base.specs.Request.{fits, candidates}
use Rattle.mac_base.specs.Serve.{serve}
use Rattle.mac_base.specs.Sound.{Sound}
use Rattle.mac_base.specs.ExactRequest.{prepared}
use Rattle.mac_base.specs.ZoneState.{ZoneState}
use Rattle.zone_heap.specs.declared.shortage.Shortage.{Shortage}
use Rattle.zone_heap.specs.declared.shortage.Shortage.TheVariants.{NoSlot, NoRoom}
use Rattle.zone_heap.specs.Attempts.{Attempts, is_ready, lacks_slot}
use Rattle.mem_calls.specs.Requesting.{EndsAttempt}
use Rattle.zone_laws.proofs.ServedRequests.{MayAsk, serve-fits, front_slot-not_live}
use Rattle.zone_laws.proofs.Emptied.{purged_until-none}
use Rattle.zone_laws.proofs.PlacedParts.{option_map-Some}

some_free : (xs : List ℕ) → has_none xs ≡ false → 0 < length xs
some_free [] h = absurd (cc h)
some_free (x ∷ xs) h = omega arith

-- what a request that can be made, and has a slot, knows
pub may_ask : (s : Shape) (heap : Heap) (r : Request) → Sound s heap → is_ready heap.table r ≡ true → lacks_slot r heap ≡ false → MayAsk heap.table (front_slot heap) r
may_ask s heap (NewBlock n) sound ready slot = front_slot-not_live s heap sound (some_free heap.free_slots slot)
may_ask s heap NewEmpty sound ready slot = front_slot-not_live s heap sound (some_free heap.free_slots slot)
may_ask s heap (NewPointer n) sound ready slot = tt
may_ask s heap NewMaster sound ready slot = tt
may_ask s heap (Reserve n) sound ready slot = tt
may_ask s heap (Resize x n) sound ready slot = (and_parts (has_block heap.table x) (not (is_lent heap.table x)) ready).0
may_ask s heap (Replace h n) sound ready slot = tt

-- a request that an attempt serves fits
pub attempted-fits : (s : Shape) (heap : Heap) (r : Request) (found : ℕ × Heap) → Sound s heap → is_ready heap.table r ≡ true → lacks_slot r heap ≡ false → attempted s r heap ≡ Some found
    → fits s heap.table r heap.map ≡ true
attempted-fits s heap r found sound ready slot is =
    let parts = option_map-Some (λ (p : ℕ × ZoneMap). (p.0, granted r p.0 p.1 heap)) (serve s heap.table (front_slot heap) heap.map r) found is in
    sym (serve-fits s heap.table (front_slot heap) heap.map r sound.suits (may_ask s heap r sound ready slot)) ∙ ap is_some parts.1

-- how an attempt ends, where a slot is free
pub ended-ok : (old new : ZoneState) (r : Request) (result : Result ℕ Shortage) → Sound old.shape old.heap → is_ready old.heap.table r ≡ true → lacks_slot r old.heap ≡ false → Attempts r old result new
    → EndsAttempt old r (result_ok result) new
ended-ok old new r (Ok x) sound ready slot served = (attempted-fits old.shape old.heap r (x, new.heap) sound ready slot served.1, served.1, served.2)
ended-ok old new r (Err NoSlot) sound ready slot refused = absurd (let lacks = refused.0 in cc)
ended-ok old new r (Err NoRoom) sound ready slot refused = (refused.1, refused.2, refused.3)

-- a heap in which the request does not fit is grown and purged
pub prepared-else : (s : Shape) (protected : List ℕ) (r : Request) (heap : Heap) → fits s heap.table r heap.map ≡ false → prepared s protected r heap ≡ purged s protected r (grown s heap)
prepared-else s protected r heap h = ap (λ b. cond b heap (purged s protected r (grown s heap))) h

-- nothing is purged where the request fits
pub purged-fits : (s : Shape) (protected : List ℕ) (r : Request) (heap : Heap) → fits s heap.table r heap.map ≡ true → purged s protected r heap ≡ heap
purged-fits s protected r heap h = ap (λ hs. with_all_emptied hs heap) (purged_until-none (fits s heap.table r) (candidates heap.table protected r heap.map) heap.map h)

-- where it fits in the zone grown to its limit, no more is done
pub prepared-grown : (s : Shape) (protected : List ℕ) (r : Request) (heap : Heap) → fits s heap.table r heap.map ≡ false → fits s (grown s heap).table r (grown s heap).map ≡ true
    → prepared s protected r heap ≡ grown s heap
prepared-grown s protected r heap h larger = prepared-else s protected r heap h ∙ purged-fits s protected r (grown s heap) larger
