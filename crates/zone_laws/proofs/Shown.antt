-- Every handle and pointer shows the bytes last put there: over one call.
use Rattle.std.proofs.Common.{arith, ◌≡◌, ℕ, ◌+◌, true, false, cond, eqb, length, take, drop, List, [], ◌∷◌, ◌++◌, Option, Some, None, Ok, Err, MatchOption, refl, ap, sym, subst, ◌∙◌}
use Rattle.std.specs.Prelude.{◌||◌, ⊤}
use Rattle.std.proofs.lemmas.Bool.{true≢false}
use Rattle.mac_base.specs.declared.block.Flags.{Flags}
use Rattle.mac_base.specs.declared.error.OsErr.{OsErr}
use Rattle.mac_base.specs.declared.error.OsErr.TheVariants.{MemLockedErr}
use Rattle.mac_base.specs.declared.releasing.ReleasingCall.TheVariants.{DisposesHandle, DisposesPtr, Empties}
use Rattle.mac_base.specs.declared.request.Request.{Request}
use Rattle.mac_base.specs.HandleTable.{HandleTable, Live, EmptyHandle, FullHandle, Pointer, bytes_of, flags_of, has_block, live_at, live_bytes, no_flags, refilled, resized, with_bytes, with_flags, with_live, zeros}
use Rattle.mac_base.specs.HeadKind.{Shape}
use Rattle.mac_base.specs.Heap.{Heap, all_purged}
use Rattle.mac_base.specs.Request.{candidates_in, is_among}
use Rattle.mac_base.specs.ZoneState.{written}
use Rattle.mac_base.specs.declared.memory_call.MemoryCall.{MemoryCall}
use Rattle.mac_base.specs.declared.memory_call.MemoryCall.TheVariants as memory_call
use Rattle.mac_base.specs.declared.memory_call.BlockCall.TheVariants as block_call
use Rattle.mac_base.specs.declared.memory_call.FillingCall.TheVariants as filling_call
use Rattle.mac_base.specs.declared.memory_call.RequestingCall.TheVariants as requesting_call
use Rattle.mac_base.specs.declared.memory_call.ShowingCall.TheVariants as showing_call
use Rattle.mac_base.specs.declared.memory_call.ZoneCall.TheVariants as zone_call
use Rattle.mac_base.specs.declared.reply.Results.TheVariants as results
use Rattle.mac_base.specs.Effect.{request_of, table_copied}
use Rattle.mac_base.specs.GrowZone.{Ask}
use Rattle.mac_base.specs.MemoryStep.{MemoryStep, QuietStep}
use Rattle.mac_base.specs.Outcomes.{Outcome, given_results}
use Rattle.mac_base.specs.Tests.{Test, IsHandle, IsPointer, IsBlock, NotEmpty, NotLent, NotLocked, IsSize, IsState, IsWithin, KeepsLent, first_refusal, protected_by, refusal}
use Rattle.zone_laws.proofs.Tables.{by_number, eqb_same, live_at-with_live_same, with_live_agrees}
use Rattle.zone_laws.proofs.Refusals.{passed-NotEmpty, pointer-block, test_1, test_2, test_4, test_5}
use Rattle.zone_laws.specs.LastPut.{LastPut, Tells, put, put_by, put_with}
use Rattle.zone_laws.proofs.Fewer.{Ended, Fewer, Granted, block_live, fewer-purged, fewer-released, quiet, refused, served, step-ended, unserved}

-- every handle that isn't empty and every pointer of a table has the bytes last put
abbrev pub TableShows : HandleTable → LastPut → Type 0
TableShows t last = (x : ℕ) → has_block t x ≡ true → bytes_of t x ≡ last x

-- ---- one number is given something

-- whatever else has a block is as it was
abbrev pub Others : ℕ → HandleTable → HandleTable → Type 0
Others x old new = (y : ℕ) → eqb y x ≡ false → has_block new y ≡ true → live_at new y ≡ live_at old y

others-fewer : (protected : List ℕ) (x : ℕ) (old new : HandleTable) → Fewer protected old new → Others x old new
others-fewer protected x old new fewer y apart h = fewer.same y h

others-with : (x : ℕ) (l : Live) (old t : HandleTable) → Others x old t → Others x old (with_live x l t)
others-with x l old t others y apart h = let e = (with_live_agrees x l t).others y apart in e ∙ others y apart (ap block_live (sym e) ∙ h)

shows-others : (x : ℕ) (bytes : List ℕ) (old new : HandleTable) (last : LastPut) → Others x old new → (has_block new x ≡ true → bytes_of new x ≡ bytes) → TableShows old last → TableShows new (put x bytes last)
shows-others x bytes old new last others here shows = by_number (λ y. has_block new y ≡ true → bytes_of new y ≡ cond (eqb y x) bytes (last y)) x
    (λ h. here h ∙ ap (λ b. cond b bytes (last x)) (sym (eqb_same x)))
    (λ y apart h. ap live_bytes (others y apart h) ∙ shows y (ap block_live (sym (others y apart h)) ∙ h) ∙ ap (λ b. cond b bytes (last y)) (sym apart))

-- x is given bytes
pub shows-put : (x : ℕ) (l : Live) (bytes : List ℕ) (old t new : HandleTable) (last : LastPut) → Others x old t → (block_live (Some l) ≡ true → live_bytes (Some l) ≡ bytes) → new ≡ with_live x l t → TableShows old last → TableShows new (put x bytes last)
shows-put x l bytes old t new last others holds is shows =
    let has = live_at-with_live_same x l t in
    subst (λ u. TableShows u (put x bytes last)) (sym is)
    (shows-others x bytes old (with_live x l t) last (others-with x l old t others) (λ h. ap live_bytes has ∙ holds (sym (ap block_live has) ∙ h)) shows)

-- what has a block is refilled with these bytes
pub refilled-holds : (bytes : List ℕ) (o : Option Live) → block_live (Some (refilled bytes o)) ≡ true → live_bytes (Some (refilled bytes o)) ≡ bytes
refilled-holds bytes v1 h = grind arith

shows-bytes : (x : ℕ) (bytes want : List ℕ) (old t new : HandleTable) (last : LastPut) → Others x old t → bytes ≡ want → new ≡ with_bytes x bytes t → TableShows old last → TableShows new (put x want last)
shows-bytes x bytes want old t new last others same is shows =
    subst (λ b. TableShows new (put x b last)) same (shows-put x (refilled bytes (live_at t x)) bytes old t new last others (refilled-holds bytes (live_at t x)) is shows)

-- a change after which whatever has a block is as it was
pub shows-fewer : (protected : List ℕ) (old new : HandleTable) (last : LastPut) → Fewer protected old new → TableShows old last → TableShows new last
shows-fewer protected old new last fewer shows x h = ap live_bytes (fewer.same x h) ∙ shows x (ap block_live (sym (fewer.same x h)) ∙ h)

shows-same : (old new : HandleTable) (last : LastPut) → new ≡ old → TableShows old last → TableShows new last
shows-same old new last is shows = subst (λ t. TableShows t last) (sym is) shows

-- x becomes empty
shows-empty : (x : ℕ) (old t new : HandleTable) (last : LastPut) → Others x old t → new ≡ with_live x EmptyHandle t → TableShows old last → TableShows new last
shows-empty x old t new last others is shows =
    let u = with_live x EmptyHandle t in
    let rest = others-with x EmptyHandle old t others in
    subst (λ u. TableShows u last) (sym is)
    (by_number (λ y. has_block u y ≡ true → bytes_of u y ≡ last y) x
    (λ h. absurd (true≢false (sym h ∙ ap block_live (live_at-with_live_same x EmptyHandle t))))
    (λ y apart h. ap live_bytes (rest y apart h) ∙ shows y (ap block_live (sym (rest y apart h)) ∙ h)))

-- ---- calls that make a request

-- the table that a call leaves whose request gave x shows what it puts
abbrev EndsShowing : Heap → MemoryCall → LastPut → Request → Type 0
EndsShowing old call last r = (x : ℕ) (mid new : HandleTable) → Granted (protected_by call) r x old.table mid → new ≡ table_copied call x old.table mid → TableShows new (put_with call (given_results call x) last)

module _ (s : Shape) (old : Heap) (last : LastPut) (shows : TableShows old.table last) where
  -- bytes over those that a request left
  copied : (protected : List ℕ) (x : ℕ) (l : Live) (bytes want : List ℕ) (before mid new : HandleTable) → Fewer protected old.table before → bytes ≡ want → mid ≡ with_live x l before → new ≡ with_bytes x bytes mid → TableShows new (put x want last)
  copied protected x l bytes want before mid new fewer same table is =
      shows-bytes x bytes want old.table (with_live x l before) new last (others-with x l old.table before (others-fewer protected x old.table before fewer)) same (is ∙ ap (with_bytes x bytes) table) shows

  -- another size
  sized : (protected : List ℕ) (x n : ℕ) (before new : HandleTable) → Fewer protected old.table before → is_among protected x ≡ true → has_block old.table x ≡ true → new ≡ with_bytes x (resized n (bytes_of before x)) before → TableShows new (put x (resized n (last x)) last)
  sized protected x n before new fewer among block is =
      shows-bytes x (resized n (bytes_of before x)) (resized n (last x)) old.table before new last (others-fewer protected x old.table before fewer) (ap (λ o. resized n (live_bytes o)) (fewer.protects x among) ∙ ap (resized n) (shows x block)) is shows

  among_first : (x : ℕ) (xs : List ℕ) → is_among (x ∷ xs) x ≡ true
  among_first x xs = ap (λ b. b || is_among xs x) (eqb_same x)

  request-shows : (call : MemoryCall) → refusal s old call ≡ None → MatchOption (request_of old.table call) ⊤ (EndsShowing old call last)
  request-shows (memory_call.Requesting (requesting_call.NewHandle n)) is = λ x mid new g end.
      shows-put x (FullHandle no_flags (zeros n)) (zeros n) old.table g.before new last (others-fewer [] x old.table g.before g.fewer) (λ _. refl) (end ∙ g.table) shows
  request-shows (memory_call.Requesting requesting_call.NewEmptyHandle) is = λ x mid new g end. shows-empty x old.table g.before new last (others-fewer [] x old.table g.before g.fewer) (end ∙ g.table) shows
  request-shows (memory_call.Requesting (requesting_call.NewPtr n)) is = λ x mid new g end.
      shows-put x (Pointer (zeros n)) (zeros n) old.table g.before new last (others-fewer [] x old.table g.before g.fewer) (λ _. refl) (end ∙ g.table) shows
  request-shows (memory_call.Requesting requesting_call.MoreMasters) is = λ x mid new g end. shows-same g.before new last (end ∙ g.table) (shows-fewer [] old.table g.before last g.fewer shows)
  request-shows (memory_call.Requesting (requesting_call.ReserveMem n)) is = λ x mid new g end. shows-same g.before new last (end ∙ g.table) (shows-fewer [] old.table g.before last g.fewer shows)
  request-shows (memory_call.Requesting (requesting_call.SetHandleSize h n)) is = λ x mid new g end.
      sized (h ∷ []) h n g.before new g.fewer (among_first h []) (passed-NotEmpty s old h (test_2 s old (IsHandle h) (NotEmpty h) (NotLent h ∷ IsSize n ∷ []) is)) (end ∙ g.table)
  request-shows (memory_call.Requesting (requesting_call.SetPtrSize p n)) is = λ x mid new g end.
      sized (p ∷ []) p n g.before new g.fewer (among_first p []) (pointer-block s old p (test_1 s old (IsPointer p) (NotLent p ∷ IsSize n ∷ []) is)) (end ∙ g.table)
  request-shows (memory_call.Requesting (requesting_call.ReallocateHandle h n)) is = λ x mid new g end.
      shows-put h (FullHandle no_flags (zeros n)) (zeros n) old.table g.before new last (others-fewer (h ∷ []) h old.table g.before g.fewer) (λ _. refl) (end ∙ g.table) shows
  request-shows (memory_call.Filling (filling_call.HandToHand h)) is = λ x mid new g end.
      copied (h ∷ []) x (FullHandle no_flags (zeros (length (bytes_of old.table h)))) (bytes_of old.table h) (last h) g.before mid new g.fewer (shows h (passed-NotEmpty s old h (test_2 s old (IsHandle h) (NotEmpty h) (NotLent h ∷ []) is))) g.table end
  request-shows (memory_call.Filling (filling_call.PtrToHand p n)) is = λ x mid new g end.
      copied (p ∷ []) x (FullHandle no_flags (zeros n)) (take n (bytes_of old.table p)) (take n (last p)) g.before mid new g.fewer (ap (take n) (shows p (pointer-block s old p (test_1 s old (IsPointer p) (NotLent p ∷ IsWithin p 0 n ∷ []) is)))) g.table end
  request-shows (memory_call.Filling (filling_call.PtrToXHand p h n)) is = λ x mid new g end.
      copied (p ∷ h ∷ []) h (refilled (resized n (bytes_of g.before h)) (live_at g.before h)) (take n (bytes_of old.table p)) (take n (last p)) g.before mid new g.fewer
      (ap (take n) (shows p (pointer-block s old p (test_1 s old (IsPointer p) (NotLent p ∷ IsHandle h ∷ NotEmpty h ∷ NotLent h ∷ IsWithin p 0 n ∷ []) is)))) g.table end
  request-shows (memory_call.Filling (filling_call.PtrAndHand p h n)) is = λ x mid new g end.
      let from = shows p (pointer-block s old p (test_1 s old (IsPointer p) (NotLent p ∷ IsHandle h ∷ NotEmpty h ∷ NotLent h ∷ IsWithin p 0 n ∷ []) is)) in
      let onto = shows h (passed-NotEmpty s old h (test_4 s old (IsPointer p) (NotLent p) (IsHandle h) (NotEmpty h) (NotLent h ∷ IsWithin p 0 n ∷ []) is)) in
      copied (p ∷ h ∷ []) h (refilled (resized (length (bytes_of old.table h) + n) (bytes_of g.before h)) (live_at g.before h)) (bytes_of old.table h ++ take n (bytes_of old.table p)) (last h ++ take n (last p)) g.before mid new g.fewer
      (ap (λ b. b ++ take n (bytes_of old.table p)) onto ∙ ap (λ b. last h ++ take n b) from) g.table end
  request-shows (memory_call.Filling (filling_call.NewHandleOf bytes)) is = λ x mid new g end.
      copied [] x (FullHandle no_flags (zeros (length bytes))) bytes bytes g.before mid new g.fewer refl g.table end
  request-shows (memory_call.Filling (filling_call.SetHandleTo h bytes)) is = λ x mid new g end.
      copied (h ∷ []) h (refilled (resized (length bytes) (bytes_of g.before h)) (live_at g.before h)) bytes bytes g.before mid new g.fewer refl g.table end
  request-shows (memory_call.Filling (filling_call.Append h bytes)) is = λ x mid new g end.
      copied (h ∷ []) h (refilled (resized (length (bytes_of old.table h) + length bytes) (bytes_of g.before h)) (live_at g.before h)) (bytes_of old.table h ++ bytes) (last h ++ bytes) g.before mid new g.fewer
      (ap (λ b. b ++ bytes) (shows h (passed-NotEmpty s old h (test_2 s old (IsHandle h) (NotEmpty h) (NotLent h ∷ IsSize (length bytes) ∷ []) is)))) g.table end
  request-shows (memory_call.Filling (filling_call.HandAndHand a b)) is = λ x mid new g end.
      let from = shows a (passed-NotEmpty s old a (test_2 s old (IsHandle a) (NotEmpty a) (NotLent a ∷ IsHandle b ∷ NotEmpty b ∷ NotLent b ∷ []) is)) in
      let onto = shows b (passed-NotEmpty s old b (test_5 s old (IsHandle a) (NotEmpty a) (NotLent a) (IsHandle b) (NotEmpty b) (NotLent b ∷ []) is)) in
      copied (a ∷ b ∷ []) b (refilled (resized (length (bytes_of old.table b) + length (bytes_of old.table a)) (bytes_of g.before b)) (live_at g.before b)) (bytes_of old.table b ++ bytes_of old.table a) (last b ++ last a) g.before mid new g.fewer
      (ap (λ bytes. bytes ++ bytes_of old.table a) onto ∙ ap (λ bytes. last b ++ bytes) from) g.table end
  request-shows call is = tt

  -- ---- calls that make no request

  flagged : (h : ℕ) (flags : Flags) (t new : HandleTable) → Others h old.table t → live_at t h ≡ live_at old.table h → has_block old.table h ≡ true → new ≡ with_flags h flags t → TableShows new last
  flagged h flags t new others same block is =
      let l = FullHandle flags (bytes_of t h) in
      let u = with_live h l t in
      let has = live_at-with_live_same h l t in
      let rest = others-with h l old.table t others in
      subst (λ u. TableShows u last) (sym is)
      (by_number (λ y. has_block u y ≡ true → bytes_of u y ≡ last y) h
      (λ _. ap live_bytes has ∙ ap live_bytes same ∙ shows h block)
      (λ y apart b. ap live_bytes (rest y apart b) ∙ shows y (ap block_live (sym (rest y apart b)) ∙ b)))

  full : (h : ℕ) (tests : List Test) → first_refusal s old (IsHandle h ∷ NotEmpty h ∷ tests) ≡ None → has_block old.table h ≡ true
  full h tests is = passed-NotEmpty s old h (test_2 s old (IsHandle h) (NotEmpty h) tests is)

  set : (h : ℕ) (flags : Flags) (new : HandleTable) (tests : List Test) → first_refusal s old (IsHandle h ∷ NotEmpty h ∷ tests) ≡ None → new ≡ with_flags h flags old.table → TableShows new last
  set h flags new tests is end = flagged h flags old.table new (λ y _ _. refl) refl (full h tests is) end

  -- PurgeMem puts nothing, whether it is refused or not
  purge_puts : (n : ℕ) (new : HandleTable) (outcome : Outcome) → TableShows new last → TableShows new (put_by (memory_call.OnZone (zone_call.PurgeMem n)) outcome last)
  purge_puts n new (Ok r) h = h
  purge_puts n new (Err code) h = h

  abbrev Ends : MemoryCall → Outcome → Heap → Type 0
  Ends call outcome new = TableShows new.table (put_by call outcome last)

  ends : (call : MemoryCall) (outcome want : Outcome) (new : Heap) → outcome ≡ want → TableShows new.table (put_by call want last) → Ends call outcome new
  ends call outcome want new is h = subst (λ o. TableShows new.table (put_by call o last)) (sym is) h

  quiet-shows : (call : MemoryCall) (outcome : Outcome) (new : Heap) → request_of old.table call ≡ None → refusal s old call ≡ None → QuietStep s old call outcome new → Ends call outcome new
  quiet-shows (memory_call.OnZone (zone_call.CompactMem n)) outcome new none is q = ends (memory_call.OnZone (zone_call.CompactMem n)) outcome _ new q.1 (shows-same old.table new.table last q.0.table shows)
  quiet-shows (memory_call.OnBlock (block_call.MoveHHi h)) outcome new none is q = ends (memory_call.OnBlock (block_call.MoveHHi h)) outcome _ new q.1 (shows-same old.table new.table last q.0.table shows)
  quiet-shows (memory_call.OnBlock (block_call.HLockHi h)) outcome new none is q =
      ends (memory_call.OnBlock (block_call.HLockHi h)) outcome _ new q.3 (set h _ new.table (NotLocked MemLockedErr h ∷ []) is (q.2.table ∙ ap (λ t. with_flags h (record (flags_of t h) { lock = true }) t) q.1.table))
  quiet-shows (memory_call.OnZone zone_call.MaxMem) outcome new none is q = ends (memory_call.OnZone zone_call.MaxMem) outcome _ new q.1
      (shows-same (all_purged old).table new.table last q.0.table (shows-fewer [] old.table (all_purged old).table last (fewer-purged [] (candidates_in old.table [] old.map) old (λ h _. refl)) shows))
  quiet-shows (memory_call.OnZone (zone_call.PurgeMem n)) outcome new none is q = purge_puts n new.table outcome (shows-same _ new.table last q.3.table (shows-fewer [] old.table _ last (fewer-purged [] q.0 old (λ h _. refl)) shows))
  quiet-shows (memory_call.OnBlock (block_call.DisposeHandle h)) outcome new none is q = ends (memory_call.OnBlock (block_call.DisposeHandle h)) outcome _ new q.1 (shows-same _ new.table last q.0.table (shows-fewer [] old.table _ last (fewer-released [] (DisposesHandle h) old refl) shows))
  quiet-shows (memory_call.OnBlock (block_call.DisposePtr p)) outcome new none is q = ends (memory_call.OnBlock (block_call.DisposePtr p)) outcome _ new q.1 (shows-same _ new.table last q.0.table (shows-fewer [] old.table _ last (fewer-released [] (DisposesPtr p) old refl) shows))
  quiet-shows (memory_call.OnBlock (block_call.EmptyHandle h)) outcome new none is q = ends (memory_call.OnBlock (block_call.EmptyHandle h)) outcome _ new q.1 (shows-same _ new.table last q.0.table (shows-fewer [] old.table _ last (fewer-released [] (Empties h) old refl) shows))
  quiet-shows (memory_call.OnBlock (block_call.HLock h)) outcome new none is q = ends (memory_call.OnBlock (block_call.HLock h)) outcome _ new q.1 (set h _ new.table [] is q.0.table)
  quiet-shows (memory_call.OnBlock (block_call.HUnlock h)) outcome new none is q = ends (memory_call.OnBlock (block_call.HUnlock h)) outcome _ new q.1 (set h _ new.table (NotLent h ∷ []) is q.0.table)
  quiet-shows (memory_call.OnBlock (block_call.HPurge h)) outcome new none is q = ends (memory_call.OnBlock (block_call.HPurge h)) outcome _ new q.1 (set h _ new.table [] is q.0.table)
  quiet-shows (memory_call.OnBlock (block_call.HNoPurge h)) outcome new none is q = ends (memory_call.OnBlock (block_call.HNoPurge h)) outcome _ new q.1 (set h _ new.table [] is q.0.table)
  quiet-shows (memory_call.OnBlock (block_call.HSetRBit h)) outcome new none is q = ends (memory_call.OnBlock (block_call.HSetRBit h)) outcome _ new q.1 (set h _ new.table [] is q.0.table)
  quiet-shows (memory_call.OnBlock (block_call.HClrRBit h)) outcome new none is q = ends (memory_call.OnBlock (block_call.HClrRBit h)) outcome _ new q.1 (set h _ new.table [] is q.0.table)
  quiet-shows (memory_call.OnBlock (block_call.HSetState h n)) outcome new none is q = ends (memory_call.OnBlock (block_call.HSetState h n)) outcome _ new q.1 (set h _ new.table (IsState n ∷ KeepsLent h n ∷ []) is q.0.table)
  quiet-shows (memory_call.OnBlock (block_call.Poke x at bytes)) outcome new none is q = ends (memory_call.OnBlock (block_call.Poke x at bytes)) outcome _ new q.1
      (shows-bytes x (written at bytes (bytes_of old.table x)) (written at bytes (last x)) old.table old.table new.table last (λ y _ _. refl)
      (ap (written at bytes) (shows x (passed-NotEmpty s old x (test_2 s old (IsBlock x) (NotEmpty x) (NotLent x ∷ IsWithin x at (length bytes) ∷ []) is)))) q.0.table shows)
  quiet-shows (memory_call.OnBlock (block_call.BlockMove x at y to n)) outcome new none is q =
      let from = shows x (passed-NotEmpty s old x (test_2 s old (IsBlock x) (NotEmpty x) (NotLent x ∷ IsBlock y ∷ NotEmpty y ∷ NotLent y ∷ IsWithin x at n ∷ IsWithin y to n ∷ []) is)) in
      let onto = shows y (passed-NotEmpty s old y (test_5 s old (IsBlock x) (NotEmpty x) (NotLent x) (IsBlock y) (NotEmpty y) (NotLent y ∷ IsWithin x at n ∷ IsWithin y to n ∷ []) is)) in
      ends (memory_call.OnBlock (block_call.BlockMove x at y to n)) outcome _ new q.1
      (shows-bytes y (written to (take n (drop at (bytes_of old.table x))) (bytes_of old.table y)) (written to (take n (drop at (last x))) (last y)) old.table old.table new.table last (λ y _ _. refl)
      (ap (λ b. written to (take n (drop at b)) (bytes_of old.table y)) from ∙ ap (written to (take n (drop at (last x)))) onto) q.0.table shows)
  quiet-shows (memory_call.Requesting (requesting_call.NewHandle n)) outcome new none is q = absurd (cc none)
  quiet-shows (memory_call.Requesting (requesting_call.NewPtr n)) outcome new none is q = absurd (cc none)
  quiet-shows (memory_call.Requesting (requesting_call.ReallocateHandle h n)) outcome new none is q = absurd (cc none)
  quiet-shows (memory_call.Requesting (requesting_call.SetHandleSize h n)) outcome new none is q = absurd (cc none)
  quiet-shows (memory_call.Requesting (requesting_call.SetPtrSize p n)) outcome new none is q = absurd (cc none)
  quiet-shows (memory_call.Filling (filling_call.HandToHand h)) outcome new none is q = absurd (cc none)
  quiet-shows (memory_call.Filling (filling_call.PtrToHand p n)) outcome new none is q = absurd (cc none)
  quiet-shows (memory_call.Filling (filling_call.PtrToXHand p h n)) outcome new none is q = absurd (cc none)
  quiet-shows (memory_call.Filling (filling_call.PtrAndHand p h n)) outcome new none is q = absurd (cc none)
  quiet-shows (memory_call.Filling (filling_call.NewHandleOf bytes)) outcome new none is q = absurd (cc none)
  quiet-shows (memory_call.Filling (filling_call.SetHandleTo h bytes)) outcome new none is q = absurd (cc none)
  quiet-shows (memory_call.Filling (filling_call.Append h bytes)) outcome new none is q = absurd (cc none)
  quiet-shows (memory_call.Filling (filling_call.HandAndHand a b)) outcome new none is q = absurd (cc none)
  quiet-shows (memory_call.Showing showing_call.ZoneMap) outcome new none is q = ends (memory_call.Showing showing_call.ZoneMap) outcome _ new q.1 (shows-same old.table new.table last q.0.table shows)
  quiet-shows call outcome new none is q = ends call outcome _ new q.1 (shows-same old.table new.table last q.0.table shows)

  -- ---- what is reported

  -- no request's outcome is about bytes
  request-tells : (call : MemoryCall) (r : Request) (outcome : Outcome) → request_of old.table call ≡ Some r → Tells call outcome last
  request-tells (memory_call.Showing (showing_call.Peek x at n)) r outcome is = absurd (cc is)
  request-tells (memory_call.OnBlock (block_call.GetHandleSize h)) r outcome is = absurd (cc is)
  request-tells (memory_call.OnBlock (block_call.GetPtrSize p)) r outcome is = absurd (cc is)
  request-tells call r outcome is = tt

  refused-tells : (call : MemoryCall) (code : OsErr) → Tells call (Err code) last
  refused-tells (memory_call.Showing (showing_call.Peek x at n)) code = tt
  refused-tells (memory_call.OnBlock (block_call.HLock h)) code = tt
  refused-tells call code = tt

  tells : (call : MemoryCall) (outcome want : Outcome) → outcome ≡ want → Tells call want last → Tells call outcome last
  tells call outcome want is h = subst (λ o. Tells call o last) (sym is) h

  quiet-tells : (call : MemoryCall) (outcome : Outcome) (new : Heap) → refusal s old call ≡ None → QuietStep s old call outcome new → Tells call outcome last
  quiet-tells (memory_call.Showing (showing_call.Peek x at n)) outcome new is q = tells (memory_call.Showing (showing_call.Peek x at n)) outcome _ q.1
      (ap (λ b. results.Bytes (take n (drop at b))) (ap (λ t. bytes_of t x) q.0.table ∙ shows x (passed-NotEmpty s old x (test_2 s old (IsBlock x) (NotEmpty x) (NotLent x ∷ IsWithin x at n ∷ []) is))))
  quiet-tells (memory_call.OnBlock (block_call.GetHandleSize h)) outcome new is q = tells (memory_call.OnBlock (block_call.GetHandleSize h)) outcome _ q.1 (ap (λ b. results.Number (length b)) (ap (λ t. bytes_of t h) q.0.table ∙ shows h (full h [] is)))
  quiet-tells (memory_call.OnBlock (block_call.GetPtrSize p)) outcome new is q = tells (memory_call.OnBlock (block_call.GetPtrSize p)) outcome _ q.1
      (ap (λ b. results.Number (length b)) (ap (λ t. bytes_of t p) q.0.table ∙ shows p (pointer-block s old p (test_1 s old (IsPointer p) [] is))))
  quiet-tells call outcome new is q = tt

  -- ---- all calls

  ended-shows : (call : MemoryCall) (outcome : Outcome) (new : Heap) → Ended s old call outcome new → Ends call outcome new × Tells call outcome last
  ended-shows call outcome new (refused code is same) = (ends call outcome _ new is (shows-same old.table new.table last same shows), tells call outcome _ is (refused-tells call code))
  ended-shows call outcome new (unserved r makes is fewer) = (ends call outcome _ new is (shows-fewer (protected_by call) old.table new.table last fewer shows), request-tells call r outcome makes)
  ended-shows call outcome new (served r x mid makes passed granted is copied) =
      let showing = subst (λ o. MatchOption o ⊤ (EndsShowing old call last)) makes (request-shows call passed) in
      (ends call outcome _ new is (showing x mid new.table granted copied), request-tells call r outcome makes)
  ended-shows call outcome new (quiet makes passed q) = (quiet-shows call outcome new makes passed q, quiet-tells call outcome new passed q)

-- a call shows what was last put, and reports it
pub step-shows : (s : Shape) (old : Heap) (call : MemoryCall) (asks : List Ask) (outcome : Outcome) (new : Heap) (last : LastPut) → MemoryStep s old call asks outcome new → TableShows old.table last → TableShows new.table (put_by call outcome last) × Tells call outcome last
step-shows s old call asks outcome new last step shows = ended-shows s old last shows call outcome new (step-ended s old call asks outcome new step)
