-- Calls of the Memory Manager lend nothing and take nothing back, and what is lent stays as it is.
use Rattle.std.proofs.Common.{arith, ◌≡◌, ℕ, ◌+◌, Bool, true, false, not, eqb, length, take, drop, List, [], ◌∷◌, ◌++◌, Option, Some, None, Ok, MatchOption, Contains, refl, ap, sym, ◌∙◌, subst, inl, inr}
use Rattle.std.specs.Prelude.{◌||◌, ◌&&◌, ◌==◌, ⊤}
use Rattle.std.specs.List.{list_any}
use Rattle.std.proofs.lemmas.Bool.{or_cases, true≢false}
use Rattle.mac_base.specs.declared.block.Flags.{Flags}
use Rattle.mac_base.specs.declared.error.OsErr.{OsErr}
use Rattle.mac_base.specs.declared.error.OsErr.TheVariants.{MemPurErr, MemLockedErr}
use Rattle.mac_base.specs.declared.releasing.ReleasingCall.{ReleasingCall}
use Rattle.mac_base.specs.declared.releasing.ReleasingCall.TheVariants.{DisposesHandle, DisposesPtr, Empties}
use Rattle.mac_base.specs.declared.request.Request.{Request}
use Rattle.mac_base.specs.declared.request.Request.TheVariants.{NewBlock, NewEmpty, NewPointer}
use Rattle.mac_base.specs.FlagState.{flags_from, state_locks}
use Rattle.mac_base.specs.HandleTable.{HandleTable, Live, EmptyHandle, FullHandle, Pointer, bytes_of, flags_of, is_lent, is_locked, is_pointer, live_at, live_bytes, live_flags, live_pointer, no_flags, refilled, resized, with_bytes, with_flags, with_live, zeros}
use Rattle.mac_base.specs.HeadKind.{Shape}
use Rattle.mac_base.specs.Heap.{Heap, every_slot_live, table_granted, with_all_emptied}
use Rattle.mac_base.specs.Loans.{LoansAreFixed}
use Rattle.mac_base.specs.Releasing.{heap_released, operand_of}
use Rattle.mac_base.specs.Request.{candidates_in, makes_handle}
use Rattle.mac_base.specs.Sound.{Sound}
use Rattle.mac_base.specs.Trial.{NumberGiven}
use Rattle.mac_base.specs.ZoneMap.{contents_of}
use Rattle.mac_base.specs.ZoneState.{written}
use Rattle.mac_base.specs.declared.memory_call.MemoryCall.{MemoryCall}
use Rattle.mac_base.specs.declared.memory_call.MemoryCall.TheVariants as memory_call
use Rattle.mac_base.specs.declared.memory_call.BlockCall.TheVariants as block_call
use Rattle.mac_base.specs.declared.memory_call.FillingCall.TheVariants as filling_call
use Rattle.mac_base.specs.declared.memory_call.RequestingCall.TheVariants as requesting_call
use Rattle.mac_base.specs.declared.memory_call.ZoneCall.TheVariants as zone_call
use Rattle.mac_base.specs.declared.reply.Results.{Results}
use Rattle.mac_base.specs.Effect.{effect_of, request_of, table_copied}
use Rattle.mac_base.specs.ExactStep.{exact_step}
use Rattle.mac_base.specs.GrowZone.{Answer, Ask}
use Rattle.mac_base.specs.MemoryStep.{MemoryStep, QuietStep, StepAsking, StepUnless}
use Rattle.mac_base.specs.Outcomes.{Outcome, given_results}
use Rattle.mac_base.specs.RequestRun.{RequestRun}
use Rattle.mac_base.specs.Tests.{Test, IsHandle, IsPointer, IsBlock, NotEmpty, NotLent, NotLocked, IsSize, IsState, IsWithin, KeepsLent as KeepsState, first_refusal, protected_by, refusal, unless_passed}
use Rattle.zone_laws.proofs.Lent.{KeepsLent, lent-apart}
use Rattle.zone_laws.proofs.Tables.{by_number, handle_no_pointer, live_at-with_live_same, with_live_agrees, without_agrees}
use Rattle.zone_laws.proofs.Emptied.{candidate-is}
use Rattle.zone_laws.proofs.KeepsLoans.{contents-pointer, unlocked-here}
use Rattle.zone_laws.proofs.Locked.{locked-exact_step, stand-contents}
use Rattle.zone_laws.proofs.Refusals.{passed-IsHandle, passed-NotLent, test_1, test_2, test_3, test_4, test_5, test_6}
use Rattle.zone_laws.proofs.RunTables.{Ran, Releases, passed-ok, purged-related, request-asked, run-ran}
use Rattle.zone_laws.proofs.StepPermitted.{exact-permitted, sound-exact_step}

-- what is lent is fixed
abbrev AreFixed : HandleTable → Type 0
AreFixed t = (x : ℕ) → is_lent t x ≡ true → (is_pointer t x || is_locked t x) ≡ true

-- whether it is a pointer, whether it is locked, and how long it is
abbrev form : Option Live → Bool × Bool × ℕ
form o = (live_pointer o, (live_flags o).lock, length (live_bytes o))

-- The same are lent, and where these are fixed each is as it was but for its bytes and other flags.
pub record LoansKept (old new : HandleTable) : Type 0 where
  pub lent : new.lent ≡ old.lent
  pub as_before : AreFixed old → (x : ℕ) → is_lent old x ≡ true → form (live_at new x) ≡ form (live_at old x)

kept-lent : (old new : HandleTable) (x : ℕ) → LoansKept old new → is_lent new x ≡ is_lent old x
kept-lent old new x kept = ap (list_any (λ y. y == x)) kept.lent

-- so they are as fixed, and as long
kept-fixed : (old new : HandleTable) → LoansKept old new → AreFixed old → AreFixed new
kept-fixed old new kept fixed x lent =
    let was = sym (kept-lent old new x kept) ∙ lent in
    ap (λ (f : Bool × Bool × ℕ). f.0 || f.1) (kept.as_before fixed x was) ∙ fixed x was

pub loans-fixed : (old new : Heap) → LoansKept old.table new.table → LoansAreFixed old → LoansAreFixed new
loans-fixed old new kept fixed = kept-fixed old.table new.table kept fixed

-- nothing changes
kept-refl : (t : HandleTable) → LoansKept t t
kept-refl t = record { lent = refl; as_before = λ _ x _. refl }

-- one change after another
kept-then : (a b c : HandleTable) → LoansKept a b → LoansKept b c → LoansKept a c
kept-then a b c one two = record { lent = two.lent ∙ one.lent; as_before = λ fixed x lent. two.as_before (kept-fixed a b one fixed) x (kept-lent a b x one ∙ lent) ∙ one.as_before fixed x lent }

kept-same : (old new : HandleTable) → new ≡ old → LoansKept old new
kept-same old new is = subst (LoansKept old) (sym is) (kept-refl old)

-- a change of what isn't lent
kept-but : (x : ℕ) (old new : HandleTable) → new.lent ≡ old.lent → (AreFixed old → is_lent old x ≡ false) → ((y : ℕ) → eqb y x ≡ false → live_at new y ≡ live_at old y) → LoansKept old new
kept-but x old new same here others = record { lent = same; as_before = λ fixed y lent. ap form (others y (lent-apart old x y (here fixed) lent)) }

-- a block is released that isn't lent
kept-released : (call : ReleasingCall) (heap : Heap) → (LoansAreFixed heap → is_lent heap.table (operand_of call) ≡ false) → LoansKept heap.table (heap_released call heap).table
kept-released (DisposesHandle h) heap here = kept-but h heap.table (heap_released (DisposesHandle h) heap).table refl here (without_agrees h heap.table).others
kept-released (DisposesPtr p) heap here = kept-but p heap.table (heap_released (DisposesPtr p) heap).table refl here (without_agrees p heap.table).others
kept-released (Empties h) heap here = kept-but h heap.table (heap_released (Empties h) heap).table refl here (with_live_agrees h EmptyHandle heap.table).others

-- so it is of a run
kept-rel : (protected : List ℕ) → Releases protected ⊤ LoansKept
kept-rel protected = record {
  same = kept-refl;
  next = kept-then;
  emptied = λ heap h _ may. kept-released (Empties h) heap (λ fixed. unlocked-here heap h fixed may);
  released = λ _ call heap _ here. kept-released call heap (λ _. here);
}

pub run-kept : (s : Shape) (protected : List ℕ) (r : Request) (allowed : ℕ) (old : Heap) (asks : List Ask) (given : Option ℕ) (new : Heap) → RequestRun s protected r allowed old asks given new → Ran LoansKept r given old.table new.table
run-kept s protected r allowed old asks given new run = run-ran s protected ⊤ LoansKept (kept-rel protected) r allowed old asks given new (inr tt) run

-- what isn't live isn't lent
not_live-here : (t : HandleTable) (x : ℕ) → live_at t x ≡ None → AreFixed t → is_lent t x ≡ false
not_live-here t x none fixed = grind arith

-- so a number that a request gives wasn't
pub given-here : (old before : HandleTable) (x : ℕ) → LoansKept old before → live_at before x ≡ None → AreFixed old → is_lent old x ≡ false
given-here old before x kept none fixed = sym (kept-lent old before x kept) ∙ not_live-here before x none (kept-fixed old before kept fixed)

-- what is granted is not lent
lent_granted : (r : Request) (x : ℕ) (t : HandleTable) → (table_granted r x t).lent ≡ t.lent
lent_granted NewEmpty x t = refl
lent_granted _ x t = refl

-- a run that gives a number keeps which are lent
pub ran-lent : (r : Request) (x : ℕ) (old new : HandleTable) → Ran LoansKept r (Some x) old new → new.lent ≡ old.lent
ran-lent r x old new ran = ap (λ (t : HandleTable). t.lent) ran.served.1 ∙ lent_granted r x ran.before ∙ ran.related.lent

-- and a new handle with a block is not lent
abbrev pub NewHere : Request → ℕ → Heap → Type 0
NewHere (NewBlock n) x heap = is_lent heap.table x ≡ false
NewHere _ x heap = ⊤

pub new-here : (r : Request) (x : ℕ) (old new : Heap) → Ran LoansKept r (Some x) old.table new.table → LoansAreFixed old → NewHere r x new
new-here (NewBlock n) x old new ran fixed = ap (list_any (λ y. y == x)) (ran-lent (NewBlock n) x old.table new.table ran) ∙ given-here old.table ran.before x ran.related ran.served.0 fixed
new-here r x old new ran fixed = tt

-- ---- calls that make a request

module _ (s : Shape) (heap : Heap) (t : HandleTable) (same : t.lent ≡ heap.table.lent) where
  -- a new number is given something, and then bytes
  new : (x : ℕ) (l : Live) → live_at t x ≡ None → LoansKept t (with_live x l t)
  new x l none = kept-but x t (with_live x l t) refl (not_live-here t x none) (with_live_agrees x l t).others

  filled : (x : ℕ) (l : Live) (bytes : List ℕ) → live_at t x ≡ None → LoansKept t (with_bytes x bytes (with_live x l t))
  filled x l bytes none =
      let u = with_live x l t in
      kept-but x t (with_bytes x bytes u) refl (not_live-here t x none) (λ y apart. (with_live_agrees x (refilled bytes (live_at u x)) u).others y apart ∙ (with_live_agrees x l t).others y apart)

  -- one that isn't lent gets something else
  changed : (x : ℕ) (l : Live) → is_lent heap.table x ≡ false → LoansKept t (with_live x l t)
  changed x l here = kept-but x t (with_live x l t) refl (λ _. ap (list_any (λ y. y == x)) same ∙ here) (with_live_agrees x l t).others

  rewritten : (x : ℕ) (l : Live) (bytes : List ℕ) → is_lent heap.table x ≡ false → LoansKept t (with_bytes x bytes (with_live x l t))
  rewritten x l bytes here =
      let u = with_live x l t in
      kept-then t u (with_bytes x bytes u) (changed x l here) (kept-but x u (with_bytes x bytes u) refl (λ _. ap (list_any (λ y. y == x)) same ∙ here) (with_live_agrees x (refilled bytes (live_at u x)) u).others)

  -- a call that isn't refused
  served-kept : (call : MemoryCall) → refusal s heap call ≡ None → MatchOption (request_of heap.table call) ⊤ (λ r. (x : ℕ) → NumberGiven r x t → LoansKept t (table_copied call x heap.table (table_granted r x t)))
  served-kept (memory_call.Requesting (requesting_call.NewHandle n)) is = λ x none. new x (FullHandle no_flags (zeros n)) none
  served-kept (memory_call.Requesting requesting_call.NewEmptyHandle) is = λ x none. new x EmptyHandle none
  served-kept (memory_call.Requesting (requesting_call.NewPtr n)) is = λ x none. new x (Pointer (zeros n)) none
  served-kept (memory_call.Requesting requesting_call.MoreMasters) is = λ x _. kept-refl t
  served-kept (memory_call.Requesting (requesting_call.ReserveMem n)) is = λ x _. kept-refl t
  served-kept (memory_call.Requesting (requesting_call.SetHandleSize h n)) is = λ x _. changed h (refilled (resized n (bytes_of t h)) (live_at t h)) (passed-NotLent s heap h (test_3 s heap (IsHandle h) (NotEmpty h) (NotLent h) (IsSize n ∷ []) is))
  served-kept (memory_call.Requesting (requesting_call.SetPtrSize p n)) is = λ x _. changed p (refilled (resized n (bytes_of t p)) (live_at t p)) (passed-NotLent s heap p (test_2 s heap (IsPointer p) (NotLent p) (IsSize n ∷ []) is))
  served-kept (memory_call.Requesting (requesting_call.ReallocateHandle h n)) is = λ x _. changed h (FullHandle no_flags (zeros n)) (passed-NotLent s heap h (test_2 s heap (IsHandle h) (NotLent h) (NotLocked MemPurErr h ∷ IsSize n ∷ []) is))
  served-kept (memory_call.Filling (filling_call.HandToHand h)) is = λ x none. filled x (FullHandle no_flags (zeros (length (bytes_of heap.table h)))) (bytes_of heap.table h) none
  served-kept (memory_call.Filling (filling_call.PtrToHand p n)) is = λ x none. filled x (FullHandle no_flags (zeros n)) (take n (bytes_of heap.table p)) none
  served-kept (memory_call.Filling (filling_call.PtrToXHand p h n)) is = λ x _. rewritten h (refilled (resized n (bytes_of t h)) (live_at t h)) (take n (bytes_of heap.table p))
      (passed-NotLent s heap h (test_5 s heap (IsPointer p) (NotLent p) (IsHandle h) (NotEmpty h) (NotLent h) (IsWithin p 0 n ∷ []) is))
  served-kept (memory_call.Filling (filling_call.PtrAndHand p h n)) is = λ x _. rewritten h (refilled (resized (length (bytes_of heap.table h) + n) (bytes_of t h)) (live_at t h)) (bytes_of heap.table h ++ take n (bytes_of heap.table p))
      (passed-NotLent s heap h (test_5 s heap (IsPointer p) (NotLent p) (IsHandle h) (NotEmpty h) (NotLent h) (IsWithin p 0 n ∷ []) is))
  served-kept (memory_call.Filling (filling_call.NewHandleOf bytes)) is = λ x none. filled x (FullHandle no_flags (zeros (length bytes))) bytes none
  served-kept (memory_call.Filling (filling_call.SetHandleTo h bytes)) is = λ x _. rewritten h (refilled (resized (length bytes) (bytes_of t h)) (live_at t h)) bytes
      (passed-NotLent s heap h (test_3 s heap (IsHandle h) (NotEmpty h) (NotLent h) (IsSize (length bytes) ∷ []) is))
  served-kept (memory_call.Filling (filling_call.Append h bytes)) is = λ x _. rewritten h (refilled (resized (length (bytes_of heap.table h) + length bytes) (bytes_of t h)) (live_at t h)) (bytes_of heap.table h ++ bytes)
      (passed-NotLent s heap h (test_3 s heap (IsHandle h) (NotEmpty h) (NotLent h) (IsSize (length bytes) ∷ []) is))
  served-kept (memory_call.Filling (filling_call.HandAndHand a b)) is = λ x _. rewritten b (refilled (resized (length (bytes_of heap.table b) + length (bytes_of heap.table a)) (bytes_of t b)) (live_at t b)) (bytes_of heap.table b ++ bytes_of heap.table a)
      (passed-NotLent s heap b (test_6 s heap (IsHandle a) (NotEmpty a) (NotLent a) (IsHandle b) (NotEmpty b) (NotLent b) [] is))
  served-kept call is = tt

-- ---- calls that make no request

module _ (s : Shape) (heap : Heap) where
  -- handles are purged that may be
  purged-kept : (hs : List ℕ) → ((h : ℕ) → Contains hs h → Contains (candidates_in heap.table [] heap.map) h) → LoansKept heap.table (with_all_emptied hs heap).table
  purged-kept hs part = purged-related s [] ⊤ LoansKept (kept-rel []) hs heap (λ h c. (let k = candidate-is heap.table [] heap.map h (part h c) in (k.may, k.unprotected)))

  -- bytes are written where nothing is lent
  written-kept : (x : ℕ) (bytes : List ℕ) → is_lent heap.table x ≡ false → LoansKept heap.table (with_bytes x bytes heap.table)
  written-kept x bytes here = changed s heap heap.table refl x (refilled bytes (live_at heap.table x)) here

  -- a handle gets flags, and stays locked if it is lent
  flagged : (h : ℕ) (flags : Flags) (tests : List Test) → first_refusal s heap (IsHandle h ∷ tests) ≡ None → (is_lent heap.table h ≡ true → is_locked heap.table h ≡ true → flags.lock ≡ true) → LoansKept heap.table (with_flags h flags heap.table)
  flagged h flags tests is locks =
      let l = FullHandle flags (bytes_of heap.table h) in
      let no_pointer = handle_no_pointer heap.table h (passed-IsHandle s heap h (test_1 s heap (IsHandle h) tests is)).1 in
      record {
        lent = refl;
        as_before = λ fixed. by_number (λ y. is_lent heap.table y ≡ true → form (live_at (with_flags h flags heap.table) y) ≡ form (live_at heap.table y)) h
            (λ lent. (let locked = ap (λ b. b || is_locked heap.table h) (sym no_pointer) ∙ fixed h lent in ap form (live_at-with_live_same h l heap.table) ∙ ap (λ (b : Bool). (false, b, length (bytes_of heap.table h))) (locks lent locked ∙ sym locked)
            ∙ ap (λ (b : Bool). (b, is_locked heap.table h, length (bytes_of heap.table h))) (sym no_pointer)))
            (λ y apart _. ap form ((with_live_agrees h l heap.table).others y apart));
      }

  -- what is set locks where it must
  passed_state : (locks lent : Bool) → unless_passed MemLockedErr (locks || not lent) ≡ None → lent ≡ true → locks ≡ true
  passed_state true lent is h = refl
  passed_state false true is h = absurd (cc is)
  passed_state false false is h = absurd (cc h)

  -- what a call does by itself
  effect-kept : (call : MemoryCall) → refusal s heap call ≡ None → LoansKept heap.table (effect_of s call heap).table
  effect-kept (memory_call.OnBlock (block_call.DisposeHandle h)) is = kept-released (DisposesHandle h) heap (λ _. passed-NotLent s heap h (test_2 s heap (IsHandle h) (NotLent h) [] is))
  effect-kept (memory_call.OnBlock (block_call.DisposePtr p)) is = kept-released (DisposesPtr p) heap (λ _. passed-NotLent s heap p (test_2 s heap (IsPointer p) (NotLent p) [] is))
  effect-kept (memory_call.OnBlock (block_call.EmptyHandle h)) is = kept-released (Empties h) heap (λ _. passed-NotLent s heap h (test_2 s heap (IsHandle h) (NotLent h) (NotLocked MemPurErr h ∷ []) is))
  effect-kept (memory_call.OnBlock (block_call.HLock h)) is = flagged h (record (flags_of heap.table h) { lock = true }) (NotEmpty h ∷ []) is (λ _ _. refl)
  effect-kept (memory_call.OnBlock (block_call.HLockHi h)) is = flagged h (record (flags_of heap.table h) { lock = true }) (NotEmpty h ∷ NotLocked MemLockedErr h ∷ []) is (λ _ _. refl)
  effect-kept (memory_call.OnBlock (block_call.HUnlock h)) is = flagged h (record (flags_of heap.table h) { lock = false }) (NotEmpty h ∷ NotLent h ∷ []) is
      (λ lent _. absurd (true≢false (sym lent ∙ passed-NotLent s heap h (test_3 s heap (IsHandle h) (NotEmpty h) (NotLent h) [] is))))
  effect-kept (memory_call.OnBlock (block_call.HPurge h)) is = flagged h (record (flags_of heap.table h) { purge = true }) (NotEmpty h ∷ []) is (λ _ locked. locked)
  effect-kept (memory_call.OnBlock (block_call.HNoPurge h)) is = flagged h (record (flags_of heap.table h) { purge = false }) (NotEmpty h ∷ []) is (λ _ locked. locked)
  effect-kept (memory_call.OnBlock (block_call.HSetRBit h)) is = flagged h (record (flags_of heap.table h) { resource = true }) (NotEmpty h ∷ []) is (λ _ locked. locked)
  effect-kept (memory_call.OnBlock (block_call.HClrRBit h)) is = flagged h (record (flags_of heap.table h) { resource = false }) (NotEmpty h ∷ []) is (λ _ locked. locked)
  effect-kept (memory_call.OnBlock (block_call.HSetState h n)) is = flagged h (flags_from n) (NotEmpty h ∷ IsState n ∷ KeepsState h n ∷ []) is
      (λ lent _. passed_state (state_locks n) (is_lent heap.table h) (test_4 s heap (IsHandle h) (NotEmpty h) (IsState n) (KeepsState h n) [] is) lent)
  effect-kept (memory_call.OnBlock (block_call.Poke x at bytes)) is = written-kept x (written at bytes (bytes_of heap.table x)) (passed-NotLent s heap x (test_3 s heap (IsBlock x) (NotEmpty x) (NotLent x) (IsWithin x at (length bytes) ∷ []) is))
  effect-kept (memory_call.OnBlock (block_call.BlockMove x at y to n)) is = written-kept y (written to (take n (drop at (bytes_of heap.table x))) (bytes_of heap.table y))
      (passed-NotLent s heap y (test_6 s heap (IsBlock x) (NotEmpty x) (NotLent x) (IsBlock y) (NotEmpty y) (NotLent y) (IsWithin x at n ∷ IsWithin y to n ∷ []) is))
  effect-kept (memory_call.OnZone zone_call.MaxMem) is = kept-refl heap.table
  effect-kept call is = kept-refl heap.table

  -- and what it may move and purge
  quiet-kept : (call : MemoryCall) (outcome : Outcome) (new : Heap) → refusal s heap call ≡ None → QuietStep s heap call outcome new → LoansKept heap.table new.table
  quiet-kept (memory_call.OnZone (zone_call.CompactMem n)) outcome new is quiet = kept-same heap.table new.table quiet.0.table
  quiet-kept (memory_call.OnBlock (block_call.MoveHHi h)) outcome new is quiet = kept-same heap.table new.table quiet.0.table
  quiet-kept (memory_call.OnBlock (block_call.HLockHi h)) outcome new is quiet =
      subst (LoansKept heap.table) (sym (quiet.2.table ∙ ap (λ t. with_flags h (record (flags_of t h) { lock = true }) t) quiet.1.table)) (effect-kept (memory_call.OnBlock (block_call.HLockHi h)) is)
  quiet-kept (memory_call.OnZone zone_call.MaxMem) outcome new is quiet = subst (LoansKept heap.table) (sym quiet.0.table) (purged-kept (candidates_in heap.table [] heap.map) (λ h c. c))
  quiet-kept (memory_call.OnZone (zone_call.PurgeMem n)) outcome new is quiet = subst (LoansKept heap.table) (sym quiet.3.table) (purged-kept quiet.0 quiet.2)
  quiet-kept call outcome new is quiet = subst (LoansKept heap.table) (sym quiet.0.table) (effect-kept call is)

-- ---- all calls

module _ (s : Shape) (old : Heap) (call : MemoryCall) (asks : List Ask) (outcome : Outcome) (new : Heap) where
  asking-kept : (o : Option Request) → request_of old.table call ≡ o → refusal s old call ≡ None → StepAsking RequestRun o s old call asks outcome new → LoansKept old.table new.table
  asking-kept None is passed step = quiet-kept s old call outcome new passed step.1
  asking-kept (Some r) is passed step =
      let a = request-asked s call ⊤ LoansKept (kept-rel (protected_by call)) (makes_handle r && every_slot_live s old) old r asks outcome new (inr tt) step in
      let served = subst (λ o. MatchOption o ⊤ (λ r. (x : ℕ) → NumberGiven r x a.before → LoansKept a.before (table_copied call x old.table (table_granted r x a.before)))) is (served-kept s old a.before a.related.lent call passed) in
      kept-then old.table a.before new.table a.related (elim a.ended as (λ _. LoansKept a.before new.table) [
        | inl e ↦ kept-same a.before new.table e.1
        | inr g ↦ subst (LoansKept a.before) (sym g.3) (served g.0 g.2)
      ])

  unless-kept : (o : Option OsErr) → refusal s old call ≡ o → StepUnless RequestRun o s old call asks outcome new → LoansKept old.table new.table
  unless-kept (Some code) is step = kept-same old.table new.table step.2.table
  unless-kept None is step = asking-kept (request_of old.table call) refl is step

-- a call keeps what is lent
pub step-kept : (s : Shape) (old : Heap) (call : MemoryCall) (asks : List Ask) (outcome : Outcome) (new : Heap) → MemoryStep s old call asks outcome new → LoansKept old.table new.table
step-kept s old call asks outcome new step = unless-kept s old call asks outcome new (refusal s old call) refl step

-- so after it just those are lent that were lent before it
pub step_keeps_lent : (s : Shape) (old : Heap) (call : MemoryCall) (asks : List Ask) (outcome : Outcome) (new : Heap) → MemoryStep s old call asks outcome new → new.table.lent ≡ old.table.lent
step_keeps_lent s old call asks outcome new step = let kept = step-kept s old call asks outcome new step in kept.lent

-- and what a call gives was not lent
number-here : (s : Shape) (old : Heap) (call : MemoryCall) (r : Request) (asks : List Ask) (res : Results) (new : Heap) → LoansAreFixed old → request_of old.table call ≡ Some r → ((x : ℕ) (t : HandleTable) → NumberGiven r x t → live_at t x ≡ None)
    → MemoryStep s old call asks (Ok res) new → (x : ℕ) × (res ≡ given_results call x) × (is_lent old.table x ≡ false)
number-here s old call r asks res new fixed is free step =
    let own = subst (λ o. StepAsking RequestRun o s old call asks (Ok res) new) is (subst (λ o. StepUnless RequestRun o s old call asks (Ok res) new) (passed-ok s old call asks res new step) step) in
    let a = request-asked s call ⊤ LoansKept (kept-rel (protected_by call)) (makes_handle r && every_slot_live s old) old r asks (Ok res) new (inr tt) own in
    elim a.ended [
      | inl e ↦ absurd (cc e.0)
      | inr g ↦ (let same : res ≡ given_results call g.0 = cc g.1 in (g.0, same, given-here old.table a.before g.0 a.related (free g.0 a.before g.2) fixed))
    ]

pub block-here : (s : Shape) (old : Heap) (call : MemoryCall) (n : ℕ) (asks : List Ask) (res : Results) (new : Heap) → LoansAreFixed old → request_of old.table call ≡ Some (NewBlock n) → MemoryStep s old call asks (Ok res) new → (x : ℕ) × (res ≡ given_results call x) × (is_lent old.table x ≡ false)
block-here s old call n asks res new fixed is step = number-here s old call (NewBlock n) asks res new fixed is (λ x t none. none) step

pub pointer-here : (s : Shape) (old : Heap) (call : MemoryCall) (n : ℕ) (asks : List Ask) (res : Results) (new : Heap) → LoansAreFixed old → request_of old.table call ≡ Some (NewPointer n) → MemoryStep s old call asks (Ok res) new → (x : ℕ) × (res ≡ given_results call x) × (is_lent old.table x ≡ false)
pointer-here s old call n asks res new fixed is step = number-here s old call (NewPointer n) asks res new fixed is (λ x t none. none) step

-- What is lent keeps its block where it is: a pointer has it where its number says, and a locked handle's stays.
pub lent-exact_step : (s : Shape) (answers : List Answer) (heap : Heap) (call : MemoryCall) → Sound s heap → LoansAreFixed heap → KeepsLent s heap (exact_step s answers heap call).heap
lent-exact_step s answers heap call sound fixed =
    let e = exact_step s answers heap call in
    let new : Heap = e.heap in
    let after = sound-exact_step s answers heap call sound in
    let kept = step-kept s heap call e.asks e.outcome new (exact-permitted s answers heap call sound) in
    let as_before : (x : ℕ) → is_lent heap.table x ≡ true → form (live_at new.table x) ≡ form (live_at heap.table x) = kept.as_before fixed in
    record {
      lent = kept.lent;
      contents = λ x lent. elim (or_cases (is_pointer heap.table x) (is_locked heap.table x) (fixed x lent)) as (λ _. contents_of s x new.map ≡ contents_of s x heap.map) [
        | inl pointer ↦ contents-pointer s new.table new.map x after.suits (ap (λ (f : Bool × Bool × ℕ). f.0) (as_before x lent) ∙ pointer) ∙ sym (contents-pointer s heap.table heap.map x sound.suits pointer)
        | inr locked ↦ (let still = ap (λ (f : Bool × Bool × ℕ). f.1) (as_before x lent) ∙ locked in stand-contents s heap new x sound after locked still (locked-exact_step s answers heap call sound x locked still))
      ];
      long = λ x lent. ap (λ (f : Bool × Bool × ℕ). f.2) (as_before x lent);
      fixed = λ x lent is. ap (λ (f : Bool × Bool × ℕ). f.0 || f.1) (as_before x lent) ∙ is;
    }
