-- A guest's own grow-zone procedure runs between two calls: the first asks and gives memFullErr, and after the
-- procedure it is made again.
use Rattle.std.specs.Prelude.{◌≡◌, ◌⊎◌, ◌<◌, ◌≤◌, ◌==◌, ℕ, Bool, true, false, not, ◌&&◌, if◌then◌else◌, IsTrue, IsFalse, List, [], ◌∷◌, length, map, Some, None, Err, ⊤}
use Rattle.std.specs.List.{list_all}
use Rattle.std.specs.Option.{option_map_or}
use Rattle.mac_base.specs.declared.error.OsErr.TheVariants.{MemFullErr}
use Rattle.mac_base.specs.declared.releasing.ReleasingCall.{ReleasingCall}
use Rattle.mac_base.specs.declared.releasing.ReleasingCall.TheVariants.{DisposesHandle}
use Rattle.mac_base.specs.HeadKind.{Shape}
use Rattle.mac_base.specs.Heap.{Heap, has_none}
use Rattle.mac_base.specs.Releasing.{operand_of}
use Rattle.mac_base.specs.Request.{is_among, makes_handle}
use Rattle.mac_base.specs.declared.memory_call.MemoryCall.{MemoryCall}
use Rattle.mac_base.specs.Effect.{request_of}
use Rattle.mac_base.specs.ExactStep.{StepEnd, exact_step, heap_after}
use Rattle.mac_base.specs.GrowZone.{Answer, Carried, carried_out, memory_call, most_answers, new_ask}
use Rattle.mac_base.specs.Outcomes.{Outcome}
use Rattle.mac_base.specs.Tests.{protected_by}

-- the call asked once, in vain, for so many bytes, and gave memFullErr
abbrev pub AskedFor : StepEnd → ℕ → Type 0
AskedFor e needed = (e.asks ≡ new_ask needed None ∷ []) × (e.outcome ≡ Err MemFullErr)

-- A call without a procedure asks nothing, or asks so.
abbrev pub AsksInVain : Type 0
AsksInVain = (s : Shape) (heap : Heap) (call : MemoryCall)
    → (let e = exact_step s [] heap call in (e.asks ≡ []) ⊎ ((needed : ℕ) × AskedFor e needed))

-- ---- one answer

-- the calls of an answer to this call carried out in this heap, but for those on the call's operands
abbrev pub carried_between : Shape → MemoryCall → Answer → Heap → Carried
carried_between s call a heap = carried_out s (protected_by call) a.calls heap

-- whether the call makes a handle where no slot is free, so that it first requests a master block
abbrev pub lacks_slot : Heap → MemoryCall → Bool
lacks_slot heap call = option_map_or makes_handle (request_of heap.table call) false && has_none heap.free_slots

-- if the call lacks a slot before, it still does after
abbrev pub FreesNoSlot : MemoryCall → Heap → Heap → Type 0
FreesNoSlot call before after = IsTrue (lacks_slot before call) → IsTrue (lacks_slot after call)

-- memFullErr, with this heap and these answers left
abbrev pub full_end : Heap → List Answer → StepEnd
full_end heap left = record { outcome = Err MemFullErr; heap = heap; asks = []; left = left }

-- the end with one more ask before its asks, which had this answer
abbrev pub past_ask : ℕ → Answer → Carried → StepEnd → StepEnd
past_ask needed a c e =
    record e { asks = record { needed = needed; answer = Some a; carried = c.calls } ∷ e.asks }

-- the two end alike and leave the same heap
abbrev pub EndsAs : StepEnd → StepEnd → Type 0
EndsAs one other = (one.outcome ≡ other.outcome) × (one.heap ≡ other.heap)

-- A call asked for so many bytes, and an answer's calls left c.heap after it. What it does if it gets this answer and
-- later ones:
pub record AnsweredBetween (s : Shape) (old : Heap) (call : MemoryCall) (needed : ℕ) (full : Heap) (a : Answer) (later : List Answer)
    (c : Carried) : Type 0 where
  -- If the answer's value is 0, that is all.
  pub last : IsTrue (a.value == 0) → exact_step s (a ∷ later) old call ≡ past_ask needed a c (full_end c.heap later)
  -- Else it ends as the call made again does, for at most 16 answers in all,
  pub again : IsFalse (a.value == 0) → FreesNoSlot call full c.heap → length (a ∷ later) ≤ most_answers
      → EndsAs (exact_step s (a ∷ later) old call) (exact_step s later c.heap call)
  -- and for fewer it asks what that asks, after its first ask.
  pub asks : IsFalse (a.value == 0) → FreesNoSlot call full c.heap → length (a ∷ later) < most_answers
      → exact_step s (a ∷ later) old call ≡ past_ask needed a c (exact_step s later c.heap call)

-- An answer between two calls does what an answer within the call does.
abbrev pub AnswersBetween : Type 0
AnswersBetween = (s : Shape) (heap : Heap) (call : MemoryCall) (needed : ℕ) (a : Answer) (later : List Answer)
    → (let e = exact_step s [] heap call in AskedFor e needed
    → AnsweredBetween s heap call needed e.heap a later (carried_between s call a e.heap))

-- ---- all answers

-- the heap after an answer's calls, made as any others
abbrev pub heap_between : Shape → Answer → Heap → Heap
heap_between s a heap = heap_after s heap (map memory_call a.calls)

-- whether no call of the answer is on an operand of this call
abbrev pub spares_operands : MemoryCall → Answer → Bool
spares_operands call a = list_all (λ (c : ReleasingCall). not (is_among (protected_by call) (operand_of c))) a.calls

-- Made as any others they leave what they leave where they are carried out, if none is on an operand of the call that
-- asked.
abbrev pub AnswersAreCalls : Type 0
AnswersAreCalls = (s : Shape) (a : Answer) (heap : Heap) (call : MemoryCall) → IsTrue (spares_operands call a)
    → heap_between s a heap ≡ (carried_between s call a heap).heap

-- The call made, and made again after each of these answers until it asks nothing or an answer's value is 0: its end,
-- and the heap.
abbrev pub made_again : Shape → List Answer → Heap → MemoryCall → Outcome × Heap
made_again s [] heap call = let e = exact_step s [] heap call in (e.outcome, e.heap)
made_again s (a ∷ later) heap call =
    let e = exact_step s [] heap call in
    let after = heap_between s a e.heap in
    if length e.asks == 0 then (e.outcome, e.heap)
    else (if a.value == 0 then (e.outcome, after) else made_again s later after call)

-- Each answer that the call takes spares its operands and, where the call is made again, frees no slot that it lacks.
abbrev pub AnswersSuit : Shape → List Answer → Heap → MemoryCall → Type 0
AnswersSuit s [] heap call = ⊤
AnswersSuit s (a ∷ later) heap call =
    let e = exact_step s [] heap call in
    let after = heap_between s a e.heap in
    (e.asks ≡ []) ⊎ (IsTrue (spares_operands call a)
    × (IsTrue (a.value == 0) ⊎ (FreesNoSlot call e.heap after × AnswersSuit s later after call)))

-- The call made again does what the call does that gets these answers.
abbrev pub MadeAgainIsExact : Type 0
MadeAgainIsExact = (s : Shape) (answers : List Answer) (heap : Heap) (call : MemoryCall) → AnswersSuit s answers heap call
    → length answers ≤ most_answers
    → (let e = exact_step s answers heap call in made_again s answers heap call ≡ (e.outcome, e.heap))

-- whether a call disposes of no handle
abbrev pub disposes_of_none : ReleasingCall → Bool
disposes_of_none (DisposesHandle h) = false
disposes_of_none _ = true

-- Answers that spare the call's operands suit it where it lacks no slot, and where none disposes of a handle.
abbrev pub SparingAnswersSuit : Type 0
SparingAnswersSuit = (s : Shape) (answers : List Answer) (heap : Heap) (call : MemoryCall)
    → IsTrue (list_all (spares_operands call) answers)
    → IsFalse (lacks_slot heap call) ⊎ IsTrue (list_all (λ (a : Answer). list_all disposes_of_none a.calls) answers)
    → AnswersSuit s answers heap call
