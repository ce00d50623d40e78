-- The exact steps of calls that make no request are permitted, and leave sound heaps.
use Rattle.std.proofs.Common.{◌≡◌, ℕ, Bool, true, false, cond, List, [], ◌∷◌, None, Ok, Err, refl, sym, ◌∙◌, subst, inl, inr}
use Rattle.std.specs.Prelude.{◌⊎◌, IsFalse, MatchBool, nat_le}
use Rattle.std.proofs.lemmas.Bool.{true≢false}
use Rattle.mac_base.specs.declared.error.OsErr.TheVariants.{MemFullErr, MemLockedErr}
use Rattle.mac_base.specs.HeadKind.{Shape}
use Rattle.mac_base.specs.ZoneMap.{ZoneMap, Rearranged, largest_free}
use Rattle.mac_base.specs.HandleTable.{flags_of}
use Rattle.mac_base.specs.FlagState.{flags_from}
use Rattle.mac_base.specs.Compaction.{all_down, compacted, moved_high}
use Rattle.mac_base.specs.declared.request.Request.TheVariants.{NewEmpty}
use Rattle.mac_base.specs.Request.{candidates_in, purged_until}
use Rattle.mac_base.specs.Heap.{Heap, with_map, all_purged, with_all_emptied}
use Rattle.mac_base.specs.Sound.{Sound}
use Rattle.mac_base.specs.declared.memory_call.MemoryCall.{MemoryCall}
use Rattle.mac_base.specs.declared.memory_call.MemoryCall.TheVariants as memory_call
use Rattle.mac_base.specs.declared.memory_call.BlockCall.TheVariants as block_call
use Rattle.mac_base.specs.declared.memory_call.ZoneCall.TheVariants as zone_call
use Rattle.mac_base.specs.declared.reply.Results.TheVariants.{Nothing}
use Rattle.mac_base.specs.Tests.{NotLent, NotLocked, IsState, KeepsLent, refusal}
use Rattle.mac_base.specs.Effect.{effect_of}
use Rattle.mac_base.specs.Outcomes.{Outcome}
use Rattle.mac_base.specs.ExactStep.{rearranged, quiet_outcome}
use Rattle.mac_base.specs.MemoryStep.{Moved, QuietStep}
use Rattle.zone_laws.proofs.Emptied.{all_emptied, candidate-is, no_candidates, purged_until-part, purged_until-none, purged_until-enough}
use Rattle.zone_laws.proofs.FixesSame.{fixed-same}
use Rattle.zone_laws.proofs.RearrangingAll.{all_down-Rearranged, compacted-Rearranged, moved_high-Rearranged, Sound-all_down, Sound-compacted, Sound-moved_high}
use Rattle.zone_laws.proofs.SoundGrown.{sound-grown}
use Rattle.zone_laws.proofs.SoundPurged.{sound-all_purged}
use Rattle.zone_laws.proofs.SoundCalls.{sound-BlockMove, sound-DisposeHandle, sound-DisposePtr, sound-EmptyHandle, sound-Poke, sound-flagged}
use Rattle.zone_laws.proofs.Steps.{same_heap}

-- what is known of a step without a request
pub record QuietFacts (s : Shape) (heap : Heap) (call : MemoryCall) (after : Heap) : Type 0 where
  pub permitted : QuietStep s heap call (quiet_outcome s after call) after
  pub sound : Sound s after

-- as few are purged as leave n free bytes in one block
abbrev few : ℕ → Heap → List ℕ
few n heap = purged_until (λ (m : ZoneMap). nat_le n (largest_free m)) (candidates_in heap.table [] heap.map) heap.map

module _ (s : Shape) (heap : Heap) (sound : Sound s heap) where
  sound-few : (n : ℕ) → Sound s (with_all_emptied (few n heap) heap)
  sound-few n = let done = all_emptied s (few n heap) heap sound (λ h c. (candidate-is heap.table [] heap.map h (purged_until-part (λ (m : ZoneMap). nat_le n (largest_free m)) (candidates_in heap.table [] heap.map) heap.map h c)).may) in done.sound

  -- PurgeMem
  purges : (n : ℕ) → QuietFacts s heap (memory_call.OnZone (zone_call.PurgeMem n)) (with_all_emptied (few n heap) heap)
  purges n =
      let enough : ZoneMap → Bool = λ (m : ZoneMap). nat_le n (largest_free m) in
      let cs = candidates_in heap.table [] heap.map in
      let new = with_all_emptied (few n heap) heap in
      record {
        permitted = (
          few n heap,
          elim (enough heap.map) as (λ b. enough heap.map ≡ b → (few n heap ≡ []) ⊎ IsFalse b) [ true ↦ λ is. inl (purged_until-none enough cs heap.map is) | false ↦ λ _. inr refl ] refl,
          purged_until-part enough cs heap.map,
          same_heap new,
          elim (enough new.map) as (λ b. enough new.map ≡ b → (let outcome : Outcome = cond b (Ok Nothing) (Err MemFullErr) in MatchBool b (outcome ≡ Ok Nothing) ((outcome ≡ Err MemFullErr) × (candidates_in new.table [] new.map ≡ [])))) [
            | true ↦ λ is. refl
            | false ↦ λ lacks. (refl, none_left lacks (purged_until-enough enough cs heap))
          ] refl,
        );
        sound = sound-few n;
      }
    where
      none_left : nat_le n (largest_free (with_all_emptied (few n heap) heap).map) ≡ false → (nat_le n (largest_free (with_all_emptied (few n heap) heap).map) ≡ true) ⊎ (few n heap ≡ candidates_in heap.table [] heap.map)
          → (let new = with_all_emptied (few n heap) heap in candidates_in new.table [] new.map) ≡ []
      none_left lacks (inl enough) = absurd (true≢false (sym enough ∙ lacks))
      none_left lacks (inr all) = subst (λ hs. (let new = with_all_emptied hs heap in candidates_in new.table [] new.map) ≡ []) (sym all) (no_candidates s [] NewEmpty heap sound)

  -- MaxMem
  maximizes : QuietFacts s heap (memory_call.OnZone zone_call.MaxMem) (with_map (all_down heap.table (all_purged heap).map) (all_purged heap))
  maximizes =
      let mid = all_purged heap in
      let purged = all_emptied s (candidates_in heap.table [] heap.map) heap sound (λ h c. (candidate-is heap.table [] heap.map h c).may) in
      let after = Sound-all_down s heap.table mid (sound-all_purged s heap sound) in
      record {
        permitted = (
          record { table = refl; map = subst (λ fixed. Rearranged s fixed mid.map (all_down heap.table mid.map)) (sym (fixed-same heap.table mid.table purged.fixes)) (all_down-Rearranged s heap.table mid.map); suits = after.suits },
          refl,
        );
        sound = after;
      }

  -- CompactMem
  compacts : (n : ℕ) → QuietFacts s heap (memory_call.OnZone (zone_call.CompactMem n)) (with_map (compacted heap.table n heap.map) heap)
  compacts n = let after = Sound-compacted s heap.table n heap sound in
      record { permitted = (record { table = refl; map = compacted-Rearranged s heap.table n heap.map; suits = after.suits }, refl); sound = after }

  -- a block moved up
  moves : (h : ℕ) → Moved s heap (with_map (moved_high heap.table h heap.map) heap)
  moves h = let after = Sound-moved_high s heap.table h heap sound in record { table = refl; map = moved_high-Rearranged s heap.table h heap.map; suits = after.suits }

  -- and locked
  locks_high : (h : ℕ) → refusal s heap (memory_call.OnBlock (block_call.HLockHi h)) ≡ None → QuietFacts s heap (memory_call.OnBlock (block_call.HLockHi h)) (effect_of s (memory_call.OnBlock (block_call.HLockHi h)) (with_map (moved_high heap.table h heap.map) heap))
  locks_high h is =
      let mid = with_map (moved_high heap.table h heap.map) heap in
      record {
        permitted = (mid, moves h, same_heap (effect_of s (memory_call.OnBlock (block_call.HLockHi h)) mid), refl);
        sound = sound-flagged s mid h (record (flags_of heap.table h) { lock = true }) (NotLocked MemLockedErr h ∷ []) (Sound-moved_high s heap.table h heap sound) is;
      }

  -- the step of each call that makes no request
  pub quiet-facts : (call : MemoryCall) → refusal s heap call ≡ None → QuietFacts s heap call (effect_of s call (rearranged call heap))
  quiet-facts (memory_call.OnZone (zone_call.CompactMem n)) is = compacts n
  quiet-facts (memory_call.OnZone (zone_call.PurgeMem n)) is = purges n
  quiet-facts (memory_call.OnZone zone_call.MaxMem) is = maximizes
  quiet-facts (memory_call.OnBlock (block_call.MoveHHi h)) is = record { permitted = (moves h, refl); sound = Sound-moved_high s heap.table h heap sound }
  quiet-facts (memory_call.OnBlock (block_call.HLockHi h)) is = locks_high h is
  quiet-facts (memory_call.OnBlock (block_call.DisposeHandle h)) is = record { permitted = (same_heap _, refl); sound = sound-DisposeHandle s heap h sound is }
  quiet-facts (memory_call.OnBlock (block_call.DisposePtr p)) is = record { permitted = (same_heap _, refl); sound = sound-DisposePtr s heap p sound is }
  quiet-facts (memory_call.OnBlock (block_call.EmptyHandle h)) is = record { permitted = (same_heap _, refl); sound = sound-EmptyHandle s heap h sound is }
  quiet-facts (memory_call.OnBlock (block_call.HLock h)) is = record { permitted = (same_heap _, refl); sound = sound-flagged s heap h (record (flags_of heap.table h) { lock = true }) [] sound is }
  quiet-facts (memory_call.OnBlock (block_call.HUnlock h)) is = record { permitted = (same_heap _, refl); sound = sound-flagged s heap h (record (flags_of heap.table h) { lock = false }) (NotLent h ∷ []) sound is }
  quiet-facts (memory_call.OnBlock (block_call.HPurge h)) is = record { permitted = (same_heap _, refl); sound = sound-flagged s heap h (record (flags_of heap.table h) { purge = true }) [] sound is }
  quiet-facts (memory_call.OnBlock (block_call.HNoPurge h)) is = record { permitted = (same_heap _, refl); sound = sound-flagged s heap h (record (flags_of heap.table h) { purge = false }) [] sound is }
  quiet-facts (memory_call.OnBlock (block_call.HSetRBit h)) is = record { permitted = (same_heap _, refl); sound = sound-flagged s heap h (record (flags_of heap.table h) { resource = true }) [] sound is }
  quiet-facts (memory_call.OnBlock (block_call.HClrRBit h)) is = record { permitted = (same_heap _, refl); sound = sound-flagged s heap h (record (flags_of heap.table h) { resource = false }) [] sound is }
  quiet-facts (memory_call.OnBlock (block_call.HSetState h n)) is = record { permitted = (same_heap _, refl); sound = sound-flagged s heap h (flags_from n) (IsState n ∷ KeepsLent h n ∷ []) sound is }
  quiet-facts (memory_call.OnBlock (block_call.Poke x at bytes)) is = record { permitted = (same_heap _, refl); sound = sound-Poke s heap x at bytes sound is }
  quiet-facts (memory_call.OnBlock (block_call.BlockMove x at y to n)) is = record { permitted = (same_heap _, refl); sound = sound-BlockMove s heap x at y to n sound is }
  quiet-facts (memory_call.OnZone zone_call.MaxApplZone) is = record { permitted = (same_heap _, refl); sound = sound-grown s heap sound }
  quiet-facts call is = record { permitted = (same_heap heap, refl); sound = sound }
