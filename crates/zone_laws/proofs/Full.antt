-- memFullErr is given only where no usable gap has room.
use Rattle.std.proofs.Common.{◌≡◌, ℕ, Bool, true, false, cond, length, List, [], ◌∷◌, Option, Some, None, Ok, Err, refl, ap, sym, ◌∙◌, ◌++◌, append_assoc, length-append, arith, ◌-◌}
use Rattle.std.specs.Prelude.{◌+◌, ◌||◌, ◌==◌, MatchBool, nat_le, IsFalse}
use Rattle.std.specs.Option.{option_or}
use Rattle.std.proofs.lemmas.Bool.{or_right}
use Rattle.std.specs.List.{list_any}
use Rattle.mac_base.specs.declared.error.OsErr.{OsErr}
use Rattle.mac_base.specs.declared.error.OsErr.TheVariants.{NilHandleErr, MemFullErr}
use Rattle.mac_base.specs.declared.request.Request.{Request}
use Rattle.mac_base.specs.HandleTable.{is_handle, is_pointer}
use Rattle.mac_base.specs.HeadKind.{Shape}
use Rattle.mac_base.specs.Heap.{Heap}
use Rattle.mac_base.specs.Request.{candidates_in}
use Rattle.mac_base.specs.Trial.{SameHeap}
use Rattle.mac_base.specs.ZoneMap.{largest_free}
use Rattle.mac_base.specs.declared.memory_call.MemoryCall.{MemoryCall}
use Rattle.mac_base.specs.declared.memory_call.MemoryCall.TheVariants as memory_call
use Rattle.mac_base.specs.declared.memory_call.ShowingCall.TheVariants as showing_call
use Rattle.mac_base.specs.declared.memory_call.FillingCall.TheVariants as filling_call
use Rattle.mac_base.specs.declared.memory_call.BlockCall.TheVariants as block_call
use Rattle.mac_base.specs.declared.memory_call.RequestingCall.TheVariants as requesting_call
use Rattle.mac_base.specs.declared.memory_call.ZoneCall.TheVariants as zone_call
use Rattle.mac_base.specs.declared.reply.Results.TheVariants as results
use Rattle.mac_base.specs.Effect.{request_of}
use Rattle.mac_base.specs.GrowZone.{Ask, carried_out, most_answers}
use Rattle.mac_base.specs.MemoryStep.{EndsRequest, MemoryStep, QuietStep, StepAsking, StepUnless}
use Rattle.mac_base.specs.Outcomes.{Outcome}
use Rattle.mac_base.specs.RequestRun.{RequestRun}
use Rattle.mac_base.specs.Tests.{Test, IsHandle, IsBlock, NotLocked, first_refusal, protected_by, refusal, refused_by, tests_of}
use Rattle.zone_laws.specs.Course.{GaveUp, HadNoRoom, MayBeFull, calls_in}
use Rattle.zone_laws.proofs.Trials.{LastRequest, Ran, step-last}

-- ---- refusals

-- whether a test may refuse by memFullErr
gives_full : Test → Bool
gives_full (NotLocked MemFullErr h) = true
gives_full _ = false

passed-full : {code : OsErr} (b : Bool) → cond b None (Some code) ≡ Some MemFullErr → code ≡ MemFullErr
passed-full true h = absurd (cc h)
passed-full false h = cc h

nil-full : {o : Option OsErr} (b : Bool) → cond b (Some NilHandleErr) o ≡ Some MemFullErr → o ≡ Some MemFullErr
nil-full true h = absurd (cc h)
nil-full false h = h

test-full : (s : Shape) (heap : Heap) (test : Test) → refused_by s heap test ≡ Some MemFullErr → gives_full test ≡ true
unfolding gives_full
test-full s heap (NotLocked code h) is = ap (λ code. gives_full (NotLocked code h)) (passed-full _ is)
test-full s heap (IsHandle h) is = absurd (cc (passed-full (is_handle heap.table h) (nil-full (h == 0) is)))
test-full s heap (IsBlock x) is = absurd (cc (passed-full (is_handle heap.table x || is_pointer heap.table x) (nil-full (x == 0) is)))
test-full s heap test is = absurd (cc (passed-full _ is))

some_full : (s : Shape) (heap : Heap) (tests : List Test) → first_refusal s heap tests ≡ Some MemFullErr → list_any gives_full tests ≡ true
unfolding gives_full
some_full s heap [] is = absurd (cc is)
some_full s heap (test ∷ tests) is = by_first (some_full s heap tests) (refused_by s heap test) refl is
  where
    by_first : (first_refusal s heap tests ≡ Some MemFullErr → list_any gives_full tests ≡ true) → (o : Option OsErr) → refused_by s heap test ≡ o → option_or o (first_refusal s heap tests) ≡ Some MemFullErr → (gives_full test || list_any gives_full tests) ≡ true
    by_first rest None here h = or_right (gives_full test) (list_any gives_full tests) (rest h)
    by_first rest (Some code) here h = ap (λ b. b || list_any gives_full tests) (test-full s heap test (here ∙ h))

none_full : (call : MemoryCall) → list_any gives_full (tests_of call) ≡ false
unfolding gives_full
none_full (memory_call.Requesting (requesting_call.NewHandle n)) = refl
none_full (memory_call.Filling (filling_call.HandToHand h)) = refl
none_full (memory_call.OnBlock (block_call.HLock h)) = refl
none_full (memory_call.OnZone zone_call.MaxMem) = refl
none_full (memory_call.Showing showing_call.ZoneMap) = refl
none_full call = refl

-- no refusal is by memFullErr
refusal-not_full : (s : Shape) (heap : Heap) (call : MemoryCall) (code : OsErr) → refusal s heap call ≡ Some code → code ≡ MemFullErr → ⊥
refusal-not_full s heap call code is full = cc (none_full call, some_full s heap (tests_of call) (is ∙ ap Some full))

-- ---- requests

same-then : (a b c : Heap) → SameHeap b a → SameHeap c b → SameHeap c a
same-then a b c one two = record { table = two.table ∙ one.table; map = two.map ∙ one.map }

gave_up-same : (s : Shape) (protected : List ℕ) (r : Request) (full : Heap) (asks : List Ask) (mid new : Heap) → SameHeap new mid → GaveUp s protected r full asks mid → GaveUp s protected r full asks new
gave_up-same s protected r full [] mid new same gave = same-then full mid new gave same
gave_up-same s protected r full (ask ∷ []) mid new same gave =
    let asked = gave.0 in
    ((asked.0, asked.1, same-then (carried_out s protected (calls_in ask.answer) full).heap mid new asked.2 same), gave.1)
gave_up-same s protected r full (ask ∷ other ∷ asks) mid new same gave = gave

-- ---- calls

module _ (s : Shape) (old : Heap) where
  last-full : (call : MemoryCall) (asks : List Ask) (outcome : Outcome) (new : Heap) → outcome ≡ Err MemFullErr → LastRequest s old call asks outcome new → (r : Request) × HadNoRoom s old call asks r new
  last-full call asks outcome new full last = by_given last.given last.ran last.ends
    where
      by_given : (given : Option ℕ) → Ran s (protected_by call) last.request (most_answers - length last.first) last.from last.rest given last.mid → EndsRequest call old.table given last.mid outcome new → (r : Request) × HadNoRoom s old call asks r new
      by_given (Some x) ran ends = absurd (cc (ends.0, full))
      by_given None ran ends = (
        last.request,
        (
          last.first ++ ran.0,
          ran.1,
          ran.2,
          ran.3,
          last.parts ∙ ap (λ rest. last.first ++ rest) ran.4 ∙ sym (append_assoc last.first ran.0 ran.1),
          (last.first, ran.0, last.from, refl, last.begins, ran.5),
          ran.6,
          gave_up-same s (protected_by call) last.request ran.3 ran.1 last.mid new ends.1 ran.7,
          λ none. ap length last.parts ∙ length-append last.first last.rest ∙ ap (λ n. length last.first + n) (ran.8 none) ∙ omega (arith, last.few),
        ),
      )

  -- PurgeMem
  purge-full : (n : ℕ) (outcome : Outcome) (new : Heap) (b : Bool) → nat_le n (largest_free new.map) ≡ b → outcome ≡ Err MemFullErr → MatchBool b (outcome ≡ Ok results.Nothing) ((outcome ≡ Err MemFullErr) × (candidates_in new.table [] new.map ≡ []))
      → (candidates_in new.table [] new.map ≡ []) × IsFalse (nat_le n (largest_free new.map))
  purge-full n outcome new true lacks full m = absurd (cc (m, full))
  purge-full n outcome new false lacks full m = (m.1, lacks)

  quiet-full : (call : MemoryCall) (asks : List Ask) (outcome : Outcome) (new : Heap) → request_of old.table call ≡ None → outcome ≡ Err MemFullErr → QuietStep s old call outcome new → MayBeFull s old call asks new
  quiet-full (memory_call.OnZone (zone_call.PurgeMem n)) asks outcome new none full q = purge-full n outcome new (nat_le n (largest_free new.map)) refl full q.4
  quiet-full (memory_call.OnBlock (block_call.HLockHi h)) asks outcome new none full q = absurd (cc (q.3, full))
  quiet-full (memory_call.Showing showing_call.ZoneMap) asks outcome new none full q = absurd (cc (q.1, full))
  quiet-full call asks outcome new none full q = absurd (cc (q.1, full))

  -- of a call that makes a request
  requested : (call : MemoryCall) (asks : List Ask) (r : Request) (new : Heap) → request_of old.table call ≡ Some r → (r : Request) × HadNoRoom s old call asks r new → MayBeFull s old call asks new
  requested (memory_call.OnZone (zone_call.PurgeMem n)) asks r new is why = absurd (cc is)
  requested call asks r new is why = why

  asking-full : (o : Option Request) (call : MemoryCall) (asks : List Ask) (outcome : Outcome) (new : Heap) → request_of old.table call ≡ o → outcome ≡ Err MemFullErr → StepAsking RequestRun o s old call asks outcome new → MayBeFull s old call asks new
  asking-full (Some r) call asks outcome new is full step = requested call asks r new is (last-full call asks outcome new full (step-last s old call asks outcome new r is step))
  asking-full None call asks outcome new is full step = quiet-full call asks outcome new is full step.1

  unless-full : (o : Option OsErr) (call : MemoryCall) (asks : List Ask) (outcome : Outcome) (new : Heap) → refusal s old call ≡ o → outcome ≡ Err MemFullErr → StepUnless RequestRun o s old call asks outcome new → MayBeFull s old call asks new
  unless-full (Some code) call asks outcome new is full step = absurd (refusal-not_full s old call code is (cc (step.1, full)))
  unless-full None call asks outcome new is full step = asking-full (request_of old.table call) call asks outcome new refl full step

-- a call gives memFullErr only where it may
pub step-full : (s : Shape) (old : Heap) (call : MemoryCall) (asks : List Ask) (outcome : Outcome) (new : Heap) → MemoryStep s old call asks outcome new → outcome ≡ Err MemFullErr → MayBeFull s old call asks new
step-full s old call asks outcome new step full = unless-full s old (refusal s old call) call asks outcome new refl full step
