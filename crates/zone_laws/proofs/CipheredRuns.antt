-- Runs of requests on heaps in a cipher: they purge, ask and serve alike, and end in the cipher.
use Rattle.std.proofs.Common.{◌≡◌, ℕ, ◌-◌, cond, List, [], ◌∷◌, ◌++◌, Option, Some, None, refl}
use Rattle.std.specs.Prelude.{◌==◌, nat_le}
use Rattle.mac_base.specs.declared.error.OsErr.{OsErr}
use Rattle.mac_base.specs.declared.releasing.ReleasingCall.{ReleasingCall}
use Rattle.mac_base.specs.declared.releasing.ReleasingCall.TheVariants.{DisposesHandle, DisposesPtr, Empties}
use Rattle.mac_base.specs.declared.request.Request.{Request}
use Rattle.mac_base.specs.declared.request.Request.TheVariants.{NewBlock, NewEmpty, NewPointer, NewMaster, Reserve, Resize, Replace}
use Rattle.mac_base.specs.HandleTable.{HandleTable, EmptyHandle, FullHandle, Pointer, bytes_of, no_flags, resized, with_live, zeros}
use Rattle.mac_base.specs.HeadKind.{Shape}
use Rattle.mac_base.specs.Heap.{Heap, front_slot, granted, grown, table_granted, with_all_emptied, with_emptied}
use Rattle.mac_base.specs.Purging.{purged, purged_for}
use Rattle.mac_base.specs.Releasing.{heap_released, operand_of}
use Rattle.mac_base.specs.Request.{candidates, candidates_in, fits, is_among, purged_until, size_needed}
use Rattle.mac_base.specs.Serve.{serve}
use Rattle.mac_base.specs.ZoneMap.{ZoneMap, largest_free}
use Rattle.mac_base.specs.ExactRequest.{Ending, after_ask, asked, prepared, request_run, served_or, unserved}
use Rattle.mac_base.specs.GrowZone.{Answer, Carried, carried_from, carried_once, carried_out, heap_unless, memory_call}
use Rattle.mac_base.specs.Tests.{Test, IsHandle, IsPointer, IsBlock, NotEmpty, NotLent, NotLocked, IsSize, IsState, IsWithin, IsLent, MayBeLent, KeepsLent, IsContents, first_refusal, refusal, refused_by, tests_of}
use Rattle.zone_laws.proofs.FixesSame.{fits-same, stays-same}
use Rattle.zone_laws.specs.Contents.{heap_ciphered, table_ciphered}
use Rattle.zone_laws.proofs.Ciphered.{bytes-ciphered, chosen, fixes-ciphered, full-ciphered, handle-ciphered, length-ciphered, pointer-ciphered, purgeable-ciphered, resized-ciphered, with_bytes-ciphered, with_live-ciphered, without-ciphered, zeros-ciphered}
use Rattle.zone_laws.proofs.SameLayout.{candidates-same, candidates_in-same, serve_size-same}

module _ (cipher : ℕ → ℕ) where
  -- ---- tests

  refused-ciphered : (s : Shape) (heap : Heap) (test : Test) → refused_by s (heap_ciphered cipher heap) test ≡ refused_by s heap test
  refused-ciphered s heap (IsHandle h) = rw (handle-ciphered cipher heap.table h)
  refused-ciphered s heap (IsPointer p) = rw (pointer-ciphered cipher heap.table p)
  refused-ciphered s heap (IsBlock x) = rw (handle-ciphered cipher heap.table x, pointer-ciphered cipher heap.table x)
  refused-ciphered s heap (NotEmpty x) = rw (full-ciphered cipher heap.table x, pointer-ciphered cipher heap.table x)
  refused-ciphered s heap (NotLent x) = refl
  refused-ciphered s heap (NotLocked code h) = rw ((fixes-ciphered cipher heap.table).locked h)
  refused-ciphered s heap (IsSize n) = refl
  refused-ciphered s heap (IsState n) = refl
  refused-ciphered s heap (IsWithin x at n) = rw (length-ciphered cipher heap.table x)
  refused-ciphered s heap (IsLent x) = refl
  refused-ciphered s heap (MayBeLent x) = rw (stays-same heap.table (table_ciphered cipher heap.table) (fixes-ciphered cipher heap.table) x)
  refused-ciphered s heap (KeepsLent h n) = refl
  refused-ciphered s heap (IsContents a) = refl

  -- a call is refused in the cipher where it is
  pub first_refusal-ciphered : (s : Shape) (heap : Heap) (tests : List Test) → first_refusal s (heap_ciphered cipher heap) tests ≡ first_refusal s heap tests
  first_refusal-ciphered s heap [] = refl
  first_refusal-ciphered s heap (test ∷ tests) = rw (refused-ciphered s heap test, first_refusal-ciphered s heap tests)

  -- ---- blocks that are released and purged

  emptied-ciphered : (heap : Heap) (h : ℕ) → with_emptied (heap_ciphered cipher heap) h ≡ heap_ciphered cipher (with_emptied heap h)
  emptied-ciphered heap h = rw (with_live-ciphered cipher h EmptyHandle heap.table)

  pub all_emptied-ciphered : (hs : List ℕ) (heap : Heap) → with_all_emptied hs (heap_ciphered cipher heap) ≡ heap_ciphered cipher (with_all_emptied hs heap)
  all_emptied-ciphered [] heap = refl
  all_emptied-ciphered (h ∷ hs) heap = rw (emptied-ciphered heap h) (all_emptied-ciphered hs (with_emptied heap h))

  pub released-ciphered : (call : ReleasingCall) (heap : Heap) → heap_released call (heap_ciphered cipher heap) ≡ heap_ciphered cipher (heap_released call heap)
  released-ciphered (DisposesHandle h) heap = rw (without-ciphered cipher h heap.table)
  released-ciphered (DisposesPtr p) heap = rw (without-ciphered cipher p heap.table)
  released-ciphered (Empties h) heap = emptied-ciphered heap h

  pub purged_for-ciphered : (n : ℕ) (heap : Heap) → purged_for n (heap_ciphered cipher heap) ≡ heap_ciphered cipher (purged_for n heap)
  purged_for-ciphered n heap = rw (candidates_in-same (fixes-ciphered cipher heap.table) (purgeable-ciphered cipher heap.table) [] heap.map)
      (all_emptied-ciphered (purged_until (λ m. nat_le n (largest_free m)) (candidates_in heap.table [] heap.map) heap.map) heap)

  module _ (s : Shape) (protected : List ℕ) where
    purged-ciphered : (r : Request) (heap : Heap) → purged s protected r (heap_ciphered cipher heap) ≡ heap_ciphered cipher (purged s protected r heap)
    purged-ciphered r heap =
        let same = fixes-ciphered cipher heap.table in
        let enough : fits s (table_ciphered cipher heap.table) r ≡ fits s heap.table r = (λ i m. fits-same s heap.table (table_ciphered cipher heap.table) same r m i) in
        rw (candidates-same same (purgeable-ciphered cipher heap.table) protected r heap.map, enough) (all_emptied-ciphered (purged_until (fits s heap.table r) (candidates heap.table protected r heap.map) heap.map) heap)

    prepared-ciphered : (r : Request) (heap : Heap) → prepared s protected r (heap_ciphered cipher heap) ≡ heap_ciphered cipher (prepared s protected r heap)
    prepared-ciphered r heap = rw (fits-same s heap.table (table_ciphered cipher heap.table) (fixes-ciphered cipher heap.table) r heap.map, purged-ciphered r (grown s heap))
        (chosen (heap_ciphered cipher) (fits s heap.table r heap.map) heap (purged s protected r (grown s heap)))

  -- ---- the calls of an answer

  -- what answers' calls left, in the cipher
  abbrev carried_ciphered : Carried → Carried
  carried_ciphered c = record c { heap = heap_ciphered cipher c.heap }

  -- an ending in the cipher
  abbrev pub ending_ciphered : Ending → Ending
  ending_ciphered e = record e { heap = heap_ciphered cipher e.heap }

  unless-ciphered : (o : Option OsErr) (done heap : Heap) → heap_unless o (heap_ciphered cipher done) (heap_ciphered cipher heap) ≡ heap_ciphered cipher (heap_unless o done heap)
  unless-ciphered None done heap = refl
  unless-ciphered (Some code) done heap = refl

  module _ (s : Shape) (protected : List ℕ) where
    once-ciphered : (call : ReleasingCall) (c : Carried) → carried_once s protected call (carried_ciphered c) ≡ carried_ciphered (carried_once s protected call c)
    once-ciphered call c =
        let code = refusal s c.heap (memory_call call) in
        let done = heap_released call c.heap in
        rw (first_refusal-ciphered s c.heap (tests_of (memory_call call)), released-ciphered call c.heap, unless-ciphered code done c.heap)
        (chosen carried_ciphered (is_among protected (operand_of call)) c (record { heap = heap_unless code done c.heap; calls = c.calls ++ (call, code) ∷ [] }))

    carried_from-ciphered : (calls : List ReleasingCall) (c : Carried) → carried_from s protected calls (carried_ciphered c) ≡ carried_ciphered (carried_from s protected calls c)
    carried_from-ciphered [] c = refl
    carried_from-ciphered (call ∷ calls) c = rw (once-ciphered call c) (carried_from-ciphered calls (carried_once s protected call c))

    carried_out-ciphered : (calls : List ReleasingCall) (heap : Heap) → carried_out s protected calls (heap_ciphered cipher heap) ≡ carried_ciphered (carried_out s protected calls heap)
    carried_out-ciphered calls heap = carried_from-ciphered calls (record { heap = heap; calls = [] })

  -- ---- a request

  module _ (keeps : cipher 0 ≡ 0) where
    -- a new block has zeros in the cipher too
    new-ciphered : (x n : ℕ) (t : HandleTable) → with_live x (FullHandle no_flags (zeros n)) (table_ciphered cipher t) ≡ table_ciphered cipher (with_live x (FullHandle no_flags (zeros n)) t)
    new-ciphered x n t = rw (zeros-ciphered cipher keeps n) at (with_live-ciphered cipher x (FullHandle no_flags (zeros n)) t)

    table_granted-ciphered : (r : Request) (x : ℕ) (t : HandleTable) → table_granted r x (table_ciphered cipher t) ≡ table_ciphered cipher (table_granted r x t)
    table_granted-ciphered (NewBlock n) x t = new-ciphered x n t
    table_granted-ciphered NewEmpty x t = with_live-ciphered cipher x EmptyHandle t
    table_granted-ciphered (NewPointer n) x t = rw (zeros-ciphered cipher keeps n) at (with_live-ciphered cipher x (Pointer (zeros n)) t)
    table_granted-ciphered NewMaster x t = refl
    table_granted-ciphered (Reserve n) x t = refl
    table_granted-ciphered (Resize y n) x t = rw (bytes-ciphered cipher t y, resized-ciphered cipher keeps n (bytes_of t y)) (with_bytes-ciphered cipher y (resized n (bytes_of t y)) t)
    table_granted-ciphered (Replace h n) x t = new-ciphered h n t

    granted-ciphered : (r : Request) (x : ℕ) (m : ZoneMap) (heap : Heap) → granted r x m (heap_ciphered cipher heap) ≡ heap_ciphered cipher (granted r x m heap)
    granted-ciphered r x m heap = rw (table_granted-ciphered r x heap.table)

    served-ciphered : (r : Request) (mid : Heap) (left : List Answer) (other : Ending) (o : Option (ℕ × ZoneMap)) → served_or r (heap_ciphered cipher mid) left (ending_ciphered other) o ≡ ending_ciphered (served_or r mid left other o)
    served-ciphered r mid left other (Some found) = rw (granted-ciphered r found.0 found.1 mid)
    served-ciphered r mid left other None = refl

    -- a trial, where this follows if it fails
    trial-ciphered : (s : Shape) (r : Request) (mid : Heap) (left : List Answer) (other : Ending)
        → served_or r (heap_ciphered cipher mid) left (ending_ciphered other) (serve s (table_ciphered cipher mid.table) (front_slot mid) mid.map r) ≡ ending_ciphered (served_or r mid left other (serve s mid.table (front_slot mid) mid.map r))
    trial-ciphered s r mid left other = rw (serve_size-same (fixes-ciphered cipher mid.table) s (front_slot mid) mid.map (size_needed s r) r) (served-ciphered r mid left other (serve s mid.table (front_slot mid) mid.map r))

    -- the run of a request ends in the cipher as it does
    pub run-ciphered : (s : Shape) (protected : List ℕ) (r : Request) (allowed : ℕ) (answers : List Answer) (heap : Heap)
        → request_run s protected r allowed answers (heap_ciphered cipher heap) ≡ ending_ciphered (request_run s protected r allowed answers heap)
    run-ciphered s protected r allowed [] heap =
        let mid = prepared s protected r heap in
        rw (prepared-ciphered s protected r heap) (trial-ciphered s r mid [] (unserved mid (cond (allowed == 0) [] (asked s r None (carried_out s protected [] mid) ∷ [])) []))
    run-ciphered s protected r allowed (a ∷ later) heap =
        let mid = prepared s protected r heap in
        let c = carried_out s protected a.calls mid in
        let ask = asked s r (Some a) c in
        let refused = unserved mid [] (a ∷ later) in
        let stopped = unserved c.heap (ask ∷ []) later in
        let again = after_ask ask (request_run s protected r (allowed - 1) later c.heap) in
        rw (
          prepared-ciphered s protected r heap,
          carried_out-ciphered s protected a.calls mid,
          run-ciphered s protected r (allowed - 1) later c.heap,
          chosen ending_ciphered (a.value == 0) stopped again,
          chosen ending_ciphered (allowed == 0) refused (cond (a.value == 0) stopped again),
        ) (trial-ciphered s r mid (a ∷ later) (cond (allowed == 0) refused (cond (a.value == 0) stopped again)))
