-- The handle that a call purges first has a block.
use Rattle.std.proofs.Common.{◌≡◌, ◌∙◌, ℕ, Bool, true, false, List, [], ◌∷◌, Option, Some, None, refl, ap, sym}
use Rattle.std.specs.Prelude.{◌&&◌, nat_le}
use Rattle.std.specs.List.{slice_get}
use Rattle.mac_base.specs.declared.error.OsErr.{OsErr}
use Rattle.mac_base.specs.declared.request.Request.{Request}
use Rattle.mac_base.specs.declared.request.Request.TheVariants.{NewEmpty, NewMaster}
use Rattle.mac_base.specs.declared.memory_call.MemoryCall.{MemoryCall}
use Rattle.mac_base.specs.declared.memory_call.MemoryCall.TheVariants.{Filling, OnBlock, OnZone, Requesting, Showing}
use Rattle.mac_base.specs.declared.memory_call.ZoneCall.TheVariants.{CompactMem, PurgeMem, MaxMem, PurgeSpace, MaxBlock, FreeMem, MaxApplZone}
use Rattle.mac_base.specs.Attempt.{attempted}
use Rattle.mac_base.specs.Effect.{request_of}
use Rattle.mac_base.specs.HandleTable.{is_full}
use Rattle.mac_base.specs.HeadKind.{Shape}
use Rattle.mac_base.specs.Heap.{Heap, has_none}
use Rattle.mac_base.specs.Request.{candidates, candidates_in, fits, makes_handle}
use Rattle.mac_base.specs.Sound.{Sound}
use Rattle.mac_base.specs.Tests.{protected_by, refusal}
use Rattle.mac_base.specs.ZoneMap.{largest_free}
use Rattle.zone_laws.proofs.SoundServed.{attempted-parts, sound-attempted}
use Rattle.zone_heap.specs.NextPurge.{BeforePurge, before_purge, grown_for}
use Rattle.zone_heap.proofs.Purging.{first-candidate}
use Rattle.mem_calls.specs.Purges.{before_after, before_asking, before_call, before_quiet, before_request, before_unless, none_before}
use Rattle.mem_calls.proofs.PurgeSteps.{first-some, sound-ready, table-ready}

-- just before a call purges the table is as it was, and the handle that is next has a block
pub record NextFull (heap : Heap) (before : BeforePurge) : Type 0 where
  pub table : before.heap.table ≡ heap.table
  pub full : (h : ℕ) → before.next ≡ Some h → is_full before.heap.table h ≡ true

full-none : (heap : Heap) → NextFull heap (none_before heap)
full-none heap = record { table = refl; full = λ h some. absurd (cc some) }

first-all : (h : ℕ) (hs : List ℕ) → slice_get hs 0 ≡ Some h → (rest : List ℕ) × (hs ≡ h ∷ rest)
first-all h [] is = absurd (cc is)
first-all h (g ∷ hs) is = let same : g ≡ h = cc is in (hs, ap (λ g. g ∷ hs) same)

full-request : (s : Shape) (heap : Heap) → Sound s heap → (protected : List ℕ) (r : Request) → NextFull heap (before_purge s protected r heap)
full-request s heap sound protected r = record {
  table = table-ready s r heap;
  full = λ h some. (let here = grown_for s r heap in let known = first-some (fits s here.table r here.map) (candidates here.table protected r here.map) h some in
      (first-candidate s protected r here h known.1.0 (sound-ready s protected r heap sound) known.1.1).full);
}

module _ (s : Shape) (heap : Heap) (sound : Sound s heap) where
  -- after one for a master block
  full-master : (protected : List ℕ) (r : Request) → NextFull heap (before_request s protected r heap true)
  full-master protected r = let master = before_purge s protected NewMaster heap in by_parts master.next (attempted s NewMaster master.heap) refl
    where
      by_parts : (o : Option ℕ) (served : Option (ℕ × Heap)) → attempted s NewMaster (before_purge s protected NewMaster heap).heap ≡ served
          → NextFull heap (before_after s protected r (before_purge s protected NewMaster heap) o served)
      by_parts (Some h) served serves = full-request s heap sound protected NewMaster
      by_parts None None serves = full-request s heap sound protected NewMaster
      by_parts None (Some made) serves =
          let ready = (before_purge s protected NewMaster heap).heap in
          let known = attempted-parts s NewMaster ready made.0 made.1 serves in
          let table : made.1.table ≡ heap.table = ap (λ (new : Heap). new.table) (sym known.2) ∙ table-ready s NewMaster heap in
          let after = full-request s made.1 (sound-attempted s NewMaster ready made.0 made.1 (sound-ready s protected NewMaster heap sound) tt serves) protected r in
          record { table = after.table ∙ table; full = after.full }

  full-asked : (protected : List ℕ) (r : Request) (lacks : Bool) → NextFull heap (before_request s protected r heap lacks)
  full-asked protected r false = full-request s heap sound protected r
  full-asked protected r true = full-master protected r

  full-first : (h : ℕ) → (rest : List ℕ) × (candidates_in heap.table [] heap.map ≡ h ∷ rest) → is_full heap.table h ≡ true
  full-first h first = (first-candidate s [] NewEmpty heap h first.0 sound first.1).full

  full-quiet : (call : MemoryCall) → NextFull heap (before_quiet call heap)
  full-quiet (OnZone (PurgeMem n)) = record {
    table = refl;
    full = λ h some. full-first h (first-some (nat_le n (largest_free heap.map)) (candidates_in heap.table [] heap.map) h some).1;
  }
  full-quiet (OnZone MaxMem) = record { table = refl; full = λ h some. full-first h (first-all h (candidates_in heap.table [] heap.map) some) }
  full-quiet (OnZone (CompactMem n)) = full-none heap
  full-quiet (OnZone PurgeSpace) = full-none heap
  full-quiet (OnZone MaxBlock) = full-none heap
  full-quiet (OnZone FreeMem) = full-none heap
  full-quiet (OnZone MaxApplZone) = full-none heap
  full-quiet (OnBlock call) = full-none heap
  full-quiet (Showing call) = full-none heap
  full-quiet (Requesting call) = full-none heap
  full-quiet (Filling call) = full-none heap

  full-asking : (call : MemoryCall) (o : Option Request) → NextFull heap (before_asking s heap call o)
  full-asking call (Some r) = full-asked (protected_by call) r (makes_handle r && has_none heap.free_slots)
  full-asking call None = full-quiet call

  full-unless : (call : MemoryCall) (o : Option OsErr) → NextFull heap (before_unless s heap call o)
  full-unless call (Some code) = full-none heap
  full-unless call None = full-asking call (request_of heap.table call)

pub next-full : (s : Shape) (heap : Heap) (call : MemoryCall) → Sound s heap → NextFull heap (before_call s heap call)
next-full s heap call sound = full-unless s heap sound call (refusal s heap call)
