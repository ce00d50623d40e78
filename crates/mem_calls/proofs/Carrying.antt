-- The calls of an answer, one after another, and their reports to the procedure.
use Rattle.std.proofs.Common.{◌≡◌, ℕ, ◌+◌, ◌<◌, ◌≤◌, Bool, true, false, cond, List, [], ◌∷◌, ◌++◌, length, Option, Some, Result, Ok, Err, refl, ap, sym, ◌∙◌, arith, append-nil, append_assoc, length-append, nat_lt}
use Rattle.std.specs.Result.{result_err}
use Rattle.std.proofs.lemmas.Bool.Decides.{nat_tests}
use Rattle.mac_base.specs.declared.error.OsErr.{OsErr}
use Rattle.mac_base.specs.HeadKind.{Shape}
use Rattle.mac_base.specs.Heap.{Heap}
use Rattle.mac_base.specs.declared.releasing.ReleasingCall.{ReleasingCall}
use Rattle.mac_base.specs.Releasing.{operand_of, heap_released}
use Rattle.mac_base.specs.Request.{is_among}
use Rattle.mac_base.specs.GrowZone.{Answer, Ask, new_ask, noted, may_note, Carried, memory_call, heap_unless, carried_once, carried_from}
use Rattle.mac_base.specs.Tests.{refusal}
use Rattle.mac_base.specs.ZoneState.{ZoneState}
use Rattle.mem_calls.specs.Releasing.{EndsRelease}
use Rattle.mem_calls.specs.Requesting.{IsNewlyAnswered, with_carried}

-- where no call was carried out
pub carried-none : (asks : List Ask) → with_carried [] asks ≡ asks
carried-none [] = refl
carried-none (a ∷ []) = ap (λ done. record a { carried = done } ∷ []) (append-nil a.carried)
carried-none (a ∷ b ∷ asks) = ap (λ rest. a ∷ rest) (carried-none (b ∷ asks))

-- where one was
pub noted-carried : (call : ReleasingCall) (code : Option OsErr) (asks : List Ask) → noted call code asks ≡ with_carried ((call, code) ∷ []) asks
noted-carried call code [] = refl
noted-carried call code (a ∷ []) = refl
noted-carried call code (a ∷ b ∷ asks) = ap (λ rest. a ∷ rest) (noted-carried call code (b ∷ asks))

-- and where more follow
pub carried-more : (first then : List (ReleasingCall × Option OsErr)) (asks : List Ask) → with_carried then (with_carried first asks) ≡ with_carried (first ++ then) asks
carried-more first then [] = refl
carried-more first then (a ∷ []) = ap (λ done. record a { carried = done } ∷ []) (append_assoc a.carried first then)
carried-more first then (a ∷ b ∷ []) = ap (λ rest. a ∷ rest) (carried-more first then (b ∷ []))
carried-more first then (a ∷ b ∷ d ∷ asks) = ap (λ rest. a ∷ rest) (carried-more first then (b ∷ d ∷ asks))

-- what was asked and answered last
pub carried-last : (done : List (ReleasingCall × Option OsErr)) (before : List Ask) (a : Ask) → with_carried done (before ++ a ∷ []) ≡ before ++ record a { carried = a.carried ++ done } ∷ []
carried-last done [] a = refl
carried-last done (b ∷ []) a = refl
carried-last done (b ∷ d ∷ before) a = ap (λ rest. b ∷ rest) (carried-last done (d ∷ before) a)

pub may_note-last : (before : List Ask) (a : Ask) → may_note (before ++ a ∷ []) ≡ may_note (a ∷ [])
may_note-last [] a = refl
may_note-last (b ∷ []) a = refl
may_note-last (b ∷ d ∷ before) a = may_note-last (d ∷ before) a

-- a call may be reported while the answer has more of them
pub may_note-carried : (done : List (ReleasingCall × Option OsErr)) (a : Answer) (asks : List Ask) → IsNewlyAnswered a asks → length done < length a.calls → may_note (with_carried done asks) ≡ true
may_note-carried done a asks (before, needed, is) fewer =
    let last : Ask = record { needed = needed; answer = Some a; carried = done } in
    ap (λ xs. may_note (with_carried done xs)) is ∙ ap may_note (carried-last done before (new_ask needed (Some a))) ∙ may_note-last before last
    ∙ below (length done) (length a.calls) fewer
  where
    below : (m n : ℕ) → m < n → nat_lt m n ≡ true
    below m n h = grind (arith, nat_tests)

-- nothing has been carried out
abbrev pub uncarried : Heap → Carried
uncarried heap = record { heap = heap; calls = [] }

once_more : (s : Shape) (protected : List ℕ) (call : ReleasingCall) (c : Carried) (b : Bool) (code : Option OsErr)
    → let one = cond b (uncarried c.heap) (record { heap = heap_unless code (heap_released call c.heap) c.heap; calls = (call, code) ∷ [] }) in
    cond b c (record { heap = heap_unless code (heap_released call c.heap) c.heap; calls = c.calls ++ (call, code) ∷ [] }) ≡ record { heap = one.heap; calls = c.calls ++ one.calls }
once_more s protected call c true code = ap (λ calls. record { heap = c.heap; calls = calls }) (sym (append-nil c.calls))
once_more s protected call c false code = refl

-- one more call, as if it were the first
pub carried_once-more : (s : Shape) (protected : List ℕ) (call : ReleasingCall) (c : Carried)
    → carried_once s protected call c ≡ record { heap = (carried_once s protected call (uncarried c.heap)).heap; calls = c.calls ++ (carried_once s protected call (uncarried c.heap)).calls }
carried_once-more s protected call c = once_more s protected call c (is_among protected (operand_of call)) (refusal s c.heap (memory_call call))

-- the last call
pub carried_from-last : (s : Shape) (protected : List ℕ) (calls : List ReleasingCall) (call : ReleasingCall) (c : Carried) → carried_from s protected (calls ++ call ∷ []) c ≡ carried_once s protected call (carried_from s protected calls c)
carried_from-last s protected [] call c = refl
carried_from-last s protected (first ∷ calls) call c = carried_from-last s protected calls call (carried_once s protected first c)

once_few : (call : ReleasingCall) (c : Carried) (b : Bool) (code : Option OsErr)
    → length (cond b c (record { heap = heap_unless code (heap_released call c.heap) c.heap; calls = c.calls ++ (call, code) ∷ [] })).calls ≤ length c.calls + 1
once_few call c true code = omega arith
once_few call c false code = let long = length-append c.calls ((call, code) ∷ []) in omega (arith, long)

-- no more calls are carried out than there are
pub carried_from-few : (s : Shape) (protected : List ℕ) (calls : List ReleasingCall) (c : Carried) → length (carried_from s protected calls c).calls ≤ length c.calls + length calls
carried_from-few s protected [] c = omega arith
carried_from-few s protected (call ∷ calls) c =
    let rest = carried_from-few s protected calls (carried_once s protected call c) in
    let first = once_few call c (is_among protected (operand_of call)) (refusal s c.heap (memory_call call)) in
    omega (arith, rest, first)

-- a call whose operand is protected is not carried out
pub once-protected : (s : Shape) (protected : List ℕ) (call : ReleasingCall) (heap : Heap) → is_among protected (operand_of call) ≡ true → carried_once s protected call (uncarried heap) ≡ uncarried heap
once-protected s protected call heap h =
    let code = refusal s heap (memory_call call) in
    ap (λ b. cond b (uncarried heap) (record { heap = heap_unless code (heap_released call heap) heap; calls = (call, code) ∷ [] })) h

-- another is carried out, with its code
pub once-free : (s : Shape) (protected : List ℕ) (call : ReleasingCall) (heap : Heap) (code : Option OsErr) → is_among protected (operand_of call) ≡ false → refusal s heap (memory_call call) ≡ code
    → carried_once s protected call (uncarried heap) ≡ record { heap = heap_unless code (heap_released call heap) heap; calls = (call, code) ∷ [] }
once-free s protected call heap code free is =
    let refused = refusal s heap (memory_call call) in
    ap (λ b. cond b (uncarried heap) (record { heap = heap_unless refused (heap_released call heap) heap; calls = (call, refused) ∷ [] })) free
    ∙ ap (λ (o : Option OsErr). record { heap = heap_unless o (heap_released call heap) heap; calls = (call, o) ∷ [] }) is

-- the code of its refusal, if it was refused
pub released_code : (old new : ZoneState) (call : ReleasingCall) (result : Result (Unit {0}) OsErr) → EndsRelease call old result new → refusal old.shape old.heap (memory_call call) ≡ result_err result
released_code old new call (Ok u) end = end.0
released_code old new call (Err code) end = end.0

-- the heap after it
pub released_heap : (old new : ZoneState) (call : ReleasingCall) (result : Result (Unit {0}) OsErr) → EndsRelease call old result new → new.heap ≡ heap_unless (result_err result) (heap_released call old.heap) old.heap
released_heap old new call (Ok u) end = end.1
released_heap old new call (Err code) end = ap (λ (z : ZoneState). z.heap) end.1
