-- Every handle has the flags last set.
use Rattle.std.proofs.Common.{arith, ◌≡◌, ℕ, true, false, cond, eqb, take, List, [], ◌∷◌, ◌++◌, Option, Some, None, Ok, Err, MatchOption, refl, ap, sym, subst, ◌∙◌}
use Rattle.std.specs.Prelude.{⊤}
use Rattle.std.proofs.lemmas.Bool.{or_left}
use Rattle.mac_base.specs.declared.block.Flags.{Flags}
use Rattle.mac_base.specs.declared.error.OsErr.{OsErr}
use Rattle.mac_base.specs.declared.error.OsErr.TheVariants.{MemLockedErr}
use Rattle.mac_base.specs.declared.releasing.ReleasingCall.TheVariants.{DisposesHandle, DisposesPtr, Empties}
use Rattle.mac_base.specs.declared.request.Request.{Request}
use Rattle.mac_base.specs.declared.request.Request.TheVariants.{NewBlock, NewEmpty, NewPointer, NewMaster, Reserve, Resize, Replace}
use Rattle.mac_base.specs.FlagState.{flags_from, state_of}
use Rattle.mac_base.specs.HandleTable.{HandleTable, Live, EmptyHandle, FullHandle, Pointer, bytes_of, flags_of, is_full, live_at, live_flags, live_full, live_pointer, no_flags, refilled, resized, with_bytes, with_flags, with_live, zeros}
use Rattle.mac_base.specs.HeadKind.{Shape}
use Rattle.mac_base.specs.Heap.{Heap, all_purged, table_granted}
use Rattle.mac_base.specs.Request.{candidates_in}
use Rattle.mac_base.specs.declared.memory_call.MemoryCall.{MemoryCall}
use Rattle.mac_base.specs.declared.memory_call.MemoryCall.TheVariants as memory_call
use Rattle.mac_base.specs.declared.memory_call.ShowingCall.TheVariants as showing_call
use Rattle.mac_base.specs.declared.memory_call.BlockCall.TheVariants as block_call
use Rattle.mac_base.specs.declared.memory_call.FillingCall.TheVariants as filling_call
use Rattle.mac_base.specs.declared.memory_call.RequestingCall.TheVariants as requesting_call
use Rattle.mac_base.specs.declared.memory_call.ZoneCall.TheVariants as zone_call
use Rattle.mac_base.specs.declared.reply.Results.TheVariants as results
use Rattle.mac_base.specs.Effect.{request_of, table_copied}
use Rattle.mac_base.specs.GrowZone.{Ask}
use Rattle.mac_base.specs.MemoryStep.{MemoryStep, QuietStep}
use Rattle.mac_base.specs.Outcomes.{Outcome, given_results}
use Rattle.mac_base.specs.Tests.{Test, IsHandle, NotEmpty, NotLent, NotLocked, IsState, KeepsLent, first_refusal, protected_by, refusal}
use Rattle.zone_laws.proofs.Tables.{by_number, eqb_same, live_at-with_live_same, with_live_agrees}
use Rattle.zone_laws.proofs.SoundCalls.{passed-full}
use Rattle.zone_laws.specs.LastSet.{HasFlags, LastSet, TellsFlags, set, set_by, set_with}
use Rattle.zone_laws.proofs.Fewer.{Ended, Fewer, fewer-purged, fewer-released, quiet, refused, served, step-ended, unserved}

-- one number is given something with these flags
pub flags-set : (x : ℕ) (l : Live) (flags : Flags) (t new : HandleTable) (last : LastSet) → (live_full (Some l) ≡ true → live_flags (Some l) ≡ flags) → new ≡ with_live x l t → HasFlags t last → HasFlags new (set x flags last)
flags-set x l flags t new last holds is has =
    let at = live_at-with_live_same x l t in
    let agree = with_live_agrees x l t in
    subst (λ u. HasFlags u (set x flags last)) (sym is)
    (by_number (λ y. is_full (with_live x l t) y ≡ true → flags_of (with_live x l t) y ≡ cond (eqb y x) flags (last y)) x
    (λ h. ap live_flags at ∙ holds (sym (ap live_full at) ∙ h) ∙ ap (λ b. cond b flags (last x)) (sym (eqb_same x)))
    (λ y apart h. ap live_flags (agree.others y apart) ∙ has y (sym (ap live_full (agree.others y apart)) ∙ h) ∙ ap (λ b. cond b flags (last y)) (sym apart)))

-- or something that has none, or keeps them
flags-kept : (x : ℕ) (l : Live) (t new : HandleTable) (last : LastSet) → (live_full (Some l) ≡ true → live_flags (Some l) ≡ last x) → new ≡ with_live x l t → HasFlags t last → HasFlags new last
flags-kept x l t new last holds is has =
    let at = live_at-with_live_same x l t in
    let agree = with_live_agrees x l t in
    subst (λ u. HasFlags u last) (sym is)
    (by_number (λ y. is_full (with_live x l t) y ≡ true → flags_of (with_live x l t) y ≡ last y) x
    (λ h. ap live_flags at ∙ holds (sym (ap live_full at) ∙ h))
    (λ y apart h. ap live_flags (agree.others y apart) ∙ has y (sym (ap live_full (agree.others y apart)) ∙ h)))

refilled-flags : (bytes : List ℕ) (o : Option Live) (flags : Flags) → (live_full o ≡ true → live_flags o ≡ flags) → live_full (Some (refilled bytes o)) ≡ true → live_flags (Some (refilled bytes o)) ≡ flags
refilled-flags bytes v1 flags has h = grind arith

pub flags-written : (x : ℕ) (bytes : List ℕ) (t : HandleTable) (last : LastSet) → HasFlags t last → HasFlags (with_bytes x bytes t) last
flags-written x bytes t last has = flags-kept x (refilled bytes (live_at t x)) t (with_bytes x bytes t) last (refilled-flags bytes (live_at t x) (last x) (has x)) refl has

pub flags-fewer : (protected : List ℕ) (old new : HandleTable) (last : LastSet) → Fewer protected old new → HasFlags old last → HasFlags new last
flags-fewer protected old new last fewer has h full =
    let same = fewer.same h (or_left (is_full new h) (live_pointer (live_at new h)) full) in
    ap live_flags same ∙ has h (sym (ap live_full same) ∙ full)

pub flags-same : (old new : HandleTable) (last : LastSet) → new ≡ old → HasFlags old last → HasFlags new last
flags-same old new last is has = subst (λ t. HasFlags t last) (sym is) has

-- ---- requests

abbrev set_granted : Request → ℕ → LastSet → LastSet
set_granted (NewBlock n) x last = set x no_flags last
set_granted (Replace h n) x last = set h no_flags last
set_granted _ x last = last

flags-granted : (r : Request) (x : ℕ) (t : HandleTable) (last : LastSet) → HasFlags t last → HasFlags (table_granted r x t) (set_granted r x last)
flags-granted (NewBlock n) x t last has = flags-set x (FullHandle no_flags (zeros n)) no_flags t (table_granted (NewBlock n) x t) last (λ _. refl) refl has
flags-granted NewEmpty x t last has = flags-kept x EmptyHandle t (table_granted NewEmpty x t) last (λ h. absurd (cc h)) refl has
flags-granted (NewPointer n) x t last has = flags-kept x (Pointer (zeros n)) t (table_granted (NewPointer n) x t) last (λ h. absurd (cc h)) refl has
flags-granted NewMaster x t last has = has
flags-granted (Reserve n) x t last has = has
flags-granted (Resize y n) x t last has = flags-written y (resized n (bytes_of t y)) t last has
flags-granted (Replace h n) x t last has = flags-set h (FullHandle no_flags (zeros n)) no_flags t (table_granted (Replace h n) x t) last (λ _. refl) refl has

flags-copied : (call : MemoryCall) (g : ℕ) (entry t : HandleTable) (last : LastSet) → HasFlags t last → HasFlags (table_copied call g entry t) last
flags-copied (memory_call.Filling (filling_call.HandToHand h)) g entry t last has = flags-written g (bytes_of entry h) t last has
flags-copied (memory_call.Filling (filling_call.PtrToHand p n)) g entry t last has = flags-written g (take n (bytes_of entry p)) t last has
flags-copied (memory_call.Filling (filling_call.PtrToXHand p h n)) g entry t last has = flags-written h (take n (bytes_of entry p)) t last has
flags-copied (memory_call.Filling (filling_call.PtrAndHand p h n)) g entry t last has = flags-written h (bytes_of entry h ++ take n (bytes_of entry p)) t last has
flags-copied (memory_call.Filling (filling_call.NewHandleOf bytes)) g entry t last has = flags-written g bytes t last has
flags-copied (memory_call.Filling (filling_call.SetHandleTo h bytes)) g entry t last has = flags-written h bytes t last has
flags-copied (memory_call.Filling (filling_call.Append h bytes)) g entry t last has = flags-written h (bytes_of entry h ++ bytes) t last has
flags-copied (memory_call.Filling (filling_call.HandAndHand a b)) g entry t last has = flags-written b (bytes_of entry b ++ bytes_of entry a) t last has
flags-copied call g entry t last has = has

-- a call sets what its request does
request-sets : (t : HandleTable) (call : MemoryCall) (x : ℕ) (last : LastSet) → MatchOption (request_of t call) ⊤ (λ r. set_with call (given_results call x) last ≡ set_granted r x last)
request-sets t v1 x last = grind arith

module _ (s : Shape) (old : Heap) (last : LastSet) (has : HasFlags old.table last) where
  abbrev Ends : MemoryCall → Outcome → Heap → Type 0
  Ends call outcome new = HasFlags new.table (set_by call outcome last)

  ends : (call : MemoryCall) (outcome want : Outcome) (new : Heap) → outcome ≡ want → HasFlags new.table (set_by call want last) → Ends call outcome new
  ends call outcome want new is h = subst (λ o. HasFlags new.table (set_by call o last)) (sym is) h

  -- ---- calls that make no request

  flagged : (h : ℕ) (change : Flags → Flags) (new : HandleTable) (tests : List Test) → first_refusal s old (IsHandle h ∷ NotEmpty h ∷ tests) ≡ None → new ≡ with_flags h (change (flags_of old.table h)) old.table → HasFlags new (set h (change (last h)) last)
  flagged h change new tests passed is =
      flags-set h (FullHandle (change (flags_of old.table h)) (bytes_of old.table h)) (change (last h)) old.table new last (λ _. ap change (has h (passed-full s old h tests passed))) is has

  purge_sets : (n : ℕ) (new : HandleTable) (outcome : Outcome) → HasFlags new last → HasFlags new (set_by (memory_call.OnZone (zone_call.PurgeMem n)) outcome last)
  purge_sets n new (Ok r) h = h
  purge_sets n new (Err code) h = h

  quiet-flags : (call : MemoryCall) (outcome : Outcome) (new : Heap) → request_of old.table call ≡ None → refusal s old call ≡ None → QuietStep s old call outcome new → Ends call outcome new
  quiet-flags (memory_call.OnZone (zone_call.CompactMem n)) outcome new none is q = ends (memory_call.OnZone (zone_call.CompactMem n)) outcome _ new q.1 (flags-same old.table new.table last q.0.table has)
  quiet-flags (memory_call.OnBlock (block_call.MoveHHi h)) outcome new none is q = ends (memory_call.OnBlock (block_call.MoveHHi h)) outcome _ new q.1 (flags-same old.table new.table last q.0.table has)
  quiet-flags (memory_call.OnBlock (block_call.HLockHi h)) outcome new none is q =
      ends (memory_call.OnBlock (block_call.HLockHi h)) outcome _ new q.3 (flagged h (λ f. record f { lock = true }) new.table (NotLocked MemLockedErr h ∷ []) is (q.2.table ∙ ap (λ t. with_flags h (record (flags_of t h) { lock = true }) t) q.1.table))
  quiet-flags (memory_call.OnZone zone_call.MaxMem) outcome new none is q = ends (memory_call.OnZone zone_call.MaxMem) outcome _ new q.1
      (flags-same (all_purged old).table new.table last q.0.table (flags-fewer [] old.table (all_purged old).table last (fewer-purged [] (candidates_in old.table [] old.map) old (λ h _. refl)) has))
  quiet-flags (memory_call.OnZone (zone_call.PurgeMem n)) outcome new none is q = purge_sets n new.table outcome (flags-same _ new.table last q.3.table (flags-fewer [] old.table _ last (fewer-purged [] q.0 old (λ h _. refl)) has))
  quiet-flags (memory_call.OnBlock (block_call.DisposeHandle h)) outcome new none is q = ends (memory_call.OnBlock (block_call.DisposeHandle h)) outcome _ new q.1 (flags-same _ new.table last q.0.table (flags-fewer [] old.table _ last (fewer-released [] (DisposesHandle h) old refl) has))
  quiet-flags (memory_call.OnBlock (block_call.DisposePtr p)) outcome new none is q = ends (memory_call.OnBlock (block_call.DisposePtr p)) outcome _ new q.1 (flags-same _ new.table last q.0.table (flags-fewer [] old.table _ last (fewer-released [] (DisposesPtr p) old refl) has))
  quiet-flags (memory_call.OnBlock (block_call.EmptyHandle h)) outcome new none is q = ends (memory_call.OnBlock (block_call.EmptyHandle h)) outcome _ new q.1 (flags-same _ new.table last q.0.table (flags-fewer [] old.table _ last (fewer-released [] (Empties h) old refl) has))
  quiet-flags (memory_call.OnBlock (block_call.HLock h)) outcome new none is q = ends (memory_call.OnBlock (block_call.HLock h)) outcome _ new q.1 (flagged h (λ f. record f { lock = true }) new.table [] is q.0.table)
  quiet-flags (memory_call.OnBlock (block_call.HUnlock h)) outcome new none is q = ends (memory_call.OnBlock (block_call.HUnlock h)) outcome _ new q.1 (flagged h (λ f. record f { lock = false }) new.table (NotLent h ∷ []) is q.0.table)
  quiet-flags (memory_call.OnBlock (block_call.HPurge h)) outcome new none is q = ends (memory_call.OnBlock (block_call.HPurge h)) outcome _ new q.1 (flagged h (λ f. record f { purge = true }) new.table [] is q.0.table)
  quiet-flags (memory_call.OnBlock (block_call.HNoPurge h)) outcome new none is q = ends (memory_call.OnBlock (block_call.HNoPurge h)) outcome _ new q.1 (flagged h (λ f. record f { purge = false }) new.table [] is q.0.table)
  quiet-flags (memory_call.OnBlock (block_call.HSetRBit h)) outcome new none is q = ends (memory_call.OnBlock (block_call.HSetRBit h)) outcome _ new q.1 (flagged h (λ f. record f { resource = true }) new.table [] is q.0.table)
  quiet-flags (memory_call.OnBlock (block_call.HClrRBit h)) outcome new none is q = ends (memory_call.OnBlock (block_call.HClrRBit h)) outcome _ new q.1 (flagged h (λ f. record f { resource = false }) new.table [] is q.0.table)
  quiet-flags (memory_call.OnBlock (block_call.HSetState h n)) outcome new none is q = ends (memory_call.OnBlock (block_call.HSetState h n)) outcome _ new q.1 (flagged h (λ f. flags_from n) new.table (IsState n ∷ KeepsLent h n ∷ []) is q.0.table)
  quiet-flags (memory_call.OnBlock (block_call.Poke x at bytes)) outcome new none is q = ends (memory_call.OnBlock (block_call.Poke x at bytes)) outcome _ new q.1 (flags-same _ new.table last q.0.table (flags-written x _ old.table last has))
  quiet-flags (memory_call.OnBlock (block_call.BlockMove x at y to n)) outcome new none is q = ends (memory_call.OnBlock (block_call.BlockMove x at y to n)) outcome _ new q.1 (flags-same _ new.table last q.0.table (flags-written y _ old.table last has))
  quiet-flags (memory_call.Requesting (requesting_call.NewHandle n)) outcome new none is q = absurd (cc none)
  quiet-flags (memory_call.Filling (filling_call.HandToHand h)) outcome new none is q = absurd (cc none)
  quiet-flags (memory_call.Filling (filling_call.PtrToHand p n)) outcome new none is q = absurd (cc none)
  quiet-flags (memory_call.Filling (filling_call.NewHandleOf bytes)) outcome new none is q = absurd (cc none)
  quiet-flags (memory_call.Requesting (requesting_call.ReallocateHandle h n)) outcome new none is q = absurd (cc none)
  quiet-flags (memory_call.Showing showing_call.ZoneMap) outcome new none is q = ends (memory_call.Showing showing_call.ZoneMap) outcome _ new q.1 (flags-same old.table new.table last q.0.table has)
  quiet-flags call outcome new none is q = ends call outcome _ new q.1 (flags-same old.table new.table last q.0.table has)

  tells : (call : MemoryCall) (outcome want : Outcome) → outcome ≡ want → TellsFlags call want last → TellsFlags call outcome last
  tells call outcome want is h = subst (λ o. TellsFlags call o last) (sym is) h

  quiet-tells : (call : MemoryCall) (outcome : Outcome) (new : Heap) → refusal s old call ≡ None → QuietStep s old call outcome new → TellsFlags call outcome last
  quiet-tells (memory_call.OnBlock (block_call.HGetState h)) outcome new is q = tells (memory_call.OnBlock (block_call.HGetState h)) outcome _ q.1 (ap (λ f. results.Number (state_of f)) (ap (λ t. flags_of t h) q.0.table ∙ has h (passed-full s old h [] is)))
  quiet-tells call outcome new is q = tt

  request-tells : (call : MemoryCall) (r : Request) (outcome : Outcome) → request_of old.table call ≡ Some r → TellsFlags call outcome last
  request-tells (memory_call.OnBlock (block_call.HGetState h)) r outcome is = absurd (cc is)
  request-tells call r outcome is = tt

  refused-tells : (call : MemoryCall) (code : OsErr) → TellsFlags call (Err code) last
  refused-tells (memory_call.OnBlock (block_call.HGetState h)) code = tt
  refused-tells call code = tt

  ended-flags : (call : MemoryCall) (outcome : Outcome) (new : Heap) → Ended s old call outcome new → Ends call outcome new × TellsFlags call outcome last
  ended-flags call outcome new (refused code is same) = (ends call outcome _ new is (flags-same old.table new.table last same has), tells call outcome _ is (refused-tells call code))
  ended-flags call outcome new (unserved r makes is fewer) = (ends call outcome _ new is (flags-fewer (protected_by call) old.table new.table last fewer has), request-tells call r outcome makes)
  ended-flags call outcome new (served r x mid makes passed leaves is copied) =
      let sets = subst (λ o. MatchOption o ⊤ (λ r. set_with call (given_results call x) last ≡ set_granted r x last)) makes (request-sets old.table call x last) in
      let granted = flags-same (table_granted r x leaves.before) mid (set_granted r x last) leaves.table (flags-granted r x leaves.before last (flags-fewer (protected_by call) old.table leaves.before last leaves.fewer has)) in (
        ends call outcome _ new is (flags-same (table_copied call x old.table mid) new.table (set_with call (given_results call x) last) copied
            (flags-copied call x old.table mid (set_with call (given_results call x) last) (subst (HasFlags mid) (sym sets) granted))),
        request-tells call r outcome makes,
      )
  ended-flags call outcome new (quiet makes passed q) = (quiet-flags call outcome new makes passed q, quiet-tells call outcome new passed q)

-- a call sets the flags last set, and gives them
pub step-flags : (s : Shape) (old : Heap) (call : MemoryCall) (asks : List Ask) (outcome : Outcome) (new : Heap) (last : LastSet) → MemoryStep s old call asks outcome new → HasFlags old.table last
    → HasFlags new.table (set_by call outcome last) × TellsFlags call outcome last
step-flags s old call asks outcome new last step has = ended-flags s old last has call outcome new (step-ended s old call asks outcome new step)
