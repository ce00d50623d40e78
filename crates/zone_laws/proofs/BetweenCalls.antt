-- What an answer's calls do between two calls: what they would do alone, and they free a slot only by disposing of a
-- handle.
use Rattle.std.proofs.Common.{◌≡◌, ℕ, suc, ◌≤◌, Bool, length, Err, arith, true, false, cond, List, [], ◌∷◌, ◌++◌, map, Option, Some, None, refl, ap, sym, ◌∙◌, subst, inl, inr}
use Rattle.std.specs.Prelude.{◌⊎◌, ◌==◌, ◌&&◌, not, is_some, IsFalse, IsTrue}
use Rattle.std.specs.List.{list_all}
use Rattle.std.specs.Option.{option_map_or}
use Rattle.std.proofs.lemmas.Bool.{and_parts, not-true, true≢false}
use Rattle.mac_base.specs.declared.error.OsErr.{OsErr}
use Rattle.mac_base.specs.declared.error.OsErr.TheVariants.{MemFullErr}
use Rattle.mac_base.specs.declared.releasing.ReleasingCall.{ReleasingCall}
use Rattle.mac_base.specs.declared.releasing.ReleasingCall.TheVariants.{DisposesHandle, DisposesPtr, Empties}
use Rattle.mac_base.specs.declared.request.Request.{Request}
use Rattle.mac_base.specs.HeadKind.{Shape}
use Rattle.mac_base.specs.Heap.{Heap, has_none}
use Rattle.mac_base.specs.Releasing.{heap_released, operand_of}
use Rattle.mac_base.specs.Request.{is_among, makes_handle}
use Rattle.mac_base.specs.ZoneMap.{ZoneMap}
use Rattle.mac_base.specs.declared.memory_call.MemoryCall.{MemoryCall}
use Rattle.mac_base.specs.Effect.{request_of}
use Rattle.mac_base.specs.ExactRequest.{prepared}
use Rattle.mac_base.specs.ExactStep.{StepEnd, exact_step, heap_after, request_end, request_step, step_asking, step_unless}
use Rattle.mac_base.specs.GrowZone.{Answer, Ask, Carried, carried_from, carried_once, carried_out, heap_unless, memory_call as as_call, most_answers}
use Rattle.mac_base.specs.Outcomes.{Outcome}
use Rattle.mac_base.specs.Tests.{protected_by, refusal}
use Rattle.zone_laws.specs.MadeAgain.{AnswersAreCalls, AnswersSuit, AskedFor, EndsAs, FreesNoSlot, MadeAgainIsExact, SparingAnswersSuit, carried_between, disposes_of_none, heap_between, lacks_slot, made_again, spares_operands}
use Rattle.zone_laws.proofs.MadeAgain.{answers_between, asks_in_vain, slot-stays}
use Rattle.zone_laws.proofs.MoreAllowed.{not_zero}
use Rattle.zone_laws.proofs.Operands.{Kept, kept-carried, kept-prepared, kept-then, same-call, slots-prepared}
use Rattle.zone_laws.proofs.RunAnswers.{all_answered, last, trial}
use Rattle.zone_laws.proofs.RunPermitted.{running-carried_out}
use Rattle.zone_laws.proofs.StepAnswers.{exact-framed}

-- ---- an answer's calls as any others

module _ (s : Shape) where
  plain-unless : (call : ReleasingCall) (heap : Heap) (o : Option OsErr)
      → (step_unless s [] heap (as_call call) o).heap ≡ heap_unless o (heap_released call heap) heap
  plain-unless call heap (Some code) = refl
  plain-unless (DisposesHandle h) heap None = refl
  plain-unless (DisposesPtr p) heap None = refl
  plain-unless (Empties h) heap None = refl

  plain-once : (protected : List ℕ) (call : ReleasingCall) (c : Carried) → is_among protected (operand_of call) ≡ false
      → (exact_step s [] c.heap (as_call call)).heap ≡ (carried_once s protected call c).heap
  plain-once protected call c other =
      let code = refusal s c.heap (as_call call) in
      let done : Carried = record { heap = heap_unless code (heap_released call c.heap) c.heap; calls = c.calls ++ (call, code) ∷ [] } in
      plain-unless call c.heap code ∙ sym (ap (λ b. (cond b c done).heap) other)

  plain-from : (protected : List ℕ) (calls : List ReleasingCall) (c : Carried)
      → list_all (λ (c : ReleasingCall). not (is_among protected (operand_of c))) calls ≡ true
      → heap_after s c.heap (map as_call calls) ≡ (carried_from s protected calls c).heap
  plain-from protected [] c others = refl
  plain-from protected (call ∷ calls) c others =
      let guarded = is_among protected (operand_of call) in
      let both = and_parts (not guarded) (list_all (λ (c : ReleasingCall). not (is_among protected (operand_of c))) calls) others in
      ap (λ heap. heap_after s heap (map as_call calls)) (plain-once protected call c (not-true guarded both.0))
      ∙ plain-from protected calls (carried_once s protected call c) both.1

pub answers_are_calls : AnswersAreCalls
answers_are_calls s a heap call others = plain-from s (protected_by call) a.calls (record { heap = heap; calls = [] }) others

-- ---- slots

slots-unless : (call : ReleasingCall) (heap : Heap) (o : Option OsErr) → disposes_of_none call ≡ true
    → (heap_unless o (heap_released call heap) heap).free_slots ≡ heap.free_slots
slots-unless v0 heap v2 none = grind arith

slots-once : (s : Shape) (protected : List ℕ) (call : ReleasingCall) (c : Carried) → disposes_of_none call ≡ true
    → (carried_once s protected call c).heap.free_slots ≡ c.heap.free_slots
slots-once s protected call c none =
    let code = refusal s c.heap (as_call call) in
    let done : Carried = record { heap = heap_unless code (heap_released call c.heap) c.heap; calls = c.calls ++ (call, code) ∷ [] } in
    elim (is_among protected (operand_of call)) as (λ b. (cond b c done).heap.free_slots ≡ c.heap.free_slots) [
      | true ↦ refl
      | false ↦ slots-unless call c.heap code none
    ]

slots-from : (s : Shape) (protected : List ℕ) (calls : List ReleasingCall) (c : Carried) → list_all disposes_of_none calls ≡ true
    → (carried_from s protected calls c).heap.free_slots ≡ c.heap.free_slots
slots-from s protected [] c none = refl
slots-from s protected (call ∷ calls) c none =
    let both = and_parts (disposes_of_none call) (list_all disposes_of_none calls) none in
    slots-from s protected calls (carried_once s protected call c) both.1 ∙ slots-once s protected call c both.0

-- what a call lacks it lacks by its request
lacks-by : (o : Option Request) (xs : List ℕ) → (option_map_or makes_handle o false && has_none xs) ≡ true → is_some o ≡ true
lacks-by (Some r) xs h = refl
lacks-by None xs h = absurd (cc h)

-- an answer that disposes of no handle frees no slot
frees-none : (s : Shape) (call : MemoryCall) (a : Answer) (heap : Heap) → list_all disposes_of_none a.calls ≡ true
    → FreesNoSlot call heap (carried_between s call a heap).heap
frees-none s call a heap none lacks =
    let after = (carried_between s call a heap).heap in
    let same = same-call s heap after call (kept-carried s (protected_by call) a.calls heap)
    (lacks-by (request_of heap.table call) heap.free_slots lacks) in
    ap (λ o. option_map_or makes_handle o false && has_none after.free_slots) same.request
    ∙ ap (λ xs. option_map_or makes_handle (request_of heap.table call) false && has_none xs)
    (slots-from s (protected_by call) a.calls (record { heap = heap; calls = [] }) none) ∙ lacks

-- a call that asked, and lacked no slot, changed neither what it protects nor the free slots
record AskedFirst (call : MemoryCall) (old new : Heap) : Type 0 where
  asks : is_some (request_of old.table call) ≡ true
  kept : Kept (protected_by call) old new
  slots : new.free_slots ≡ old.free_slots

module _ (s : Shape) (heap : Heap) (call : MemoryCall) where
  request-first : (r : Request) → request_of heap.table call ≡ Some r
      → (let first = request_step s [] heap call false r in (first.asks ≡ [] → ⊥) → AskedFirst call heap first.heap)
  request-first r is =
      let mid = prepared s (protected_by call) r heap in
      let end : Option (ℕ × ZoneMap) → StepEnd = λ o. (let e = last s r mid (carried_out s (protected_by call) [] mid) false o in
      request_end call heap.table [] e e.given) in
      elim (trial s r mid) as (λ o. (let first = end o in (first.asks ≡ [] → ⊥) → AskedFirst call heap first.heap)) [
        | Some found ↦ λ asked. absurd (asked refl)
        | None ↦ λ asked. record {
          asks = ap is_some is;
          kept = kept-prepared s (protected_by call) r heap;
          slots = slots-prepared s (protected_by call) r heap;
        }
      ]

  asking-first : (o : Option Request) → request_of heap.table call ≡ o
      → (option_map_or makes_handle o false && has_none heap.free_slots) ≡ false
      → (let first = step_asking s [] heap call o in (first.asks ≡ [] → ⊥) → AskedFirst call heap first.heap)
  asking-first (Some r) is slot = subst
      (λ b. (let first = request_step s [] heap call b r in (first.asks ≡ [] → ⊥) → AskedFirst call heap first.heap)) (sym slot)
      (request-first r is)
  asking-first None is slot = λ asked. absurd (asked refl)

  unless-first : (o : Option OsErr) → lacks_slot heap call ≡ false
      → (let first = step_unless s [] heap call o in (first.asks ≡ [] → ⊥) → AskedFirst call heap first.heap)
  unless-first (Some code) slot asked = absurd (asked refl)
  unless-first None slot asked = asking-first (request_of heap.table call) refl slot asked

-- where the call lacked no slot before it asked, it lacks none then, nor after an answer
record LacksNone (s : Shape) (call : MemoryCall) (a : Answer) (heap : Heap) : Type 0 where
  first : lacks_slot (exact_step s [] heap call).heap call ≡ false
  following : lacks_slot (carried_between s call a (exact_step s [] heap call).heap).heap call ≡ false

lacks-none : (s : Shape) (call : MemoryCall) (a : Answer) (heap : Heap) → lacks_slot heap call ≡ false
    → ((exact_step s [] heap call).asks ≡ [] → ⊥) → LacksNone s call a heap
lacks-none s call a heap slot asked =
    let mid = (exact_step s [] heap call).heap in
    let after = (carried_between s call a mid).heap in
    let known : AskedFirst call heap mid = unless-first s heap call (refusal s heap call) slot asked in
    let makes = option_map_or makes_handle (request_of heap.table call) false in
    let one = same-call s heap mid call known.kept known.asks in
    let two = same-call s heap after call
    (kept-then (protected_by call) heap mid after known.kept (kept-carried s (protected_by call) a.calls mid)) known.asks in
    let here : (makes && has_none mid.free_slots) ≡ false = ap (λ xs. makes && has_none xs) known.slots ∙ slot in
    record {
      first = ap (λ o. option_map_or makes_handle o false && has_none mid.free_slots) one.request ∙ here;
      following = ap (λ o. option_map_or makes_handle o false && has_none after.free_slots) two.request
          ∙ slot-stays makes mid.free_slots after.free_slots (running-carried_out s (protected_by call) a.calls mid).free here;
    }

-- ---- all answers

-- a call that asked gave memFullErr, and asked for some bytes
asked-for : (e : StepEnd) (ask : Ask) (asks : List Ask) → e.asks ≡ ask ∷ asks → (e.asks ≡ []) ⊎ ((needed : ℕ) × AskedFor e needed)
    → (needed : ℕ) × AskedFor e needed
asked-for e ask asks is (inl none) = absurd (cc (sym is ∙ none))
asked-for e ask asks is (inr known) = known

module _ (s : Shape) (a : Answer) (later : List Answer) (heap : Heap) (call : MemoryCall) (many : suc (length later) ≤ most_answers) where
  abbrev first : StepEnd
  first = exact_step s [] heap call

  abbrev between : Heap
  between = (carried_between s call a first.heap).heap

  abbrev plain : Heap
  plain = heap_between s a first.heap

  -- how the call ends that gets the answers
  abbrev ended : StepEnd → Outcome × Heap
  ended e = (e.outcome, e.heap)

  ended-as : (one other : StepEnd) → EndsAs one other → ended one ≡ ended other
  ended-as one other same = ap (λ outcome. (outcome, one.heap)) same.0 ∙ ap (λ heap. (other.outcome, heap)) same.1

  -- the loop from the first call on, by what it asked and by the answer's value
  abbrev loop : List Ask → Bool → Outcome × Heap
  loop asks w = cond (length asks == 0) (first.outcome, first.heap) (cond w (first.outcome, plain) (made_again s later plain call))

  loop-last : (needed : ℕ) → AskedFor first needed → IsTrue (spares_operands call a) → (a.value == 0) ≡ true
      → (first.outcome, plain) ≡ ended (exact_step s (a ∷ later) heap call)
  loop-last needed asks spares none =
      let known = answers_between s heap call needed a later asks in
      ap (λ outcome. (outcome, plain)) asks.1 ∙ ap (λ heap. (Err MemFullErr, heap)) (answers_are_calls s a first.heap call spares)
      ∙ sym (ap ended (known.last none))

  loop-again : (needed : ℕ) → AskedFor first needed → IsTrue (spares_operands call a) → (a.value == 0) ≡ false
      → FreesNoSlot call first.heap plain
      → made_again s later plain call ≡ ended (exact_step s later plain call)
      → made_again s later plain call ≡ ended (exact_step s (a ∷ later) heap call)
  loop-again needed asks spares worth frees next =
      let known = answers_between s heap call needed a later asks in
      let same = answers_are_calls s a first.heap call spares in
      next ∙ ap (λ heap. ended (exact_step s later heap call)) same
      ∙ sym (ended-as (exact_step s (a ∷ later) heap call) (exact_step s later between call)
      (known.again worth (subst (FreesNoSlot call first.heap) same frees) many))

  abbrev Suits : Type 0
  Suits = IsTrue (a.value == 0) ⊎ (FreesNoSlot call first.heap plain × AnswersSuit s later plain call)

  loop-asked : (needed : ℕ) → AskedFor first needed → IsTrue (spares_operands call a) → Suits
      → (AnswersSuit s later plain call → made_again s later plain call ≡ ended (exact_step s later plain call))
      → (w : Bool) → (a.value == 0) ≡ w
      → cond w (first.outcome, plain) (made_again s later plain call) ≡ ended (exact_step s (a ∷ later) heap call)
  loop-asked needed asks spares suits next true is = loop-last needed asks spares is
  loop-asked needed asks spares (inl none) next false is = absurd (true≢false (sym none ∙ is))
  loop-asked needed asks spares (inr both) next false is = loop-again needed asks spares is both.0 (next both.1)

  asked-none : first.asks ≡ [] → ended first ≡ ended (exact_step s (a ∷ later) heap call)
  asked-none none = ap ended (sym (exact-framed s [] (a ∷ later) heap call (ap all_answered none)))

  loop-is : (asks : List Ask) → first.asks ≡ asks → (first.asks ≡ []) ⊎ (IsTrue (spares_operands call a) × Suits)
      → (AnswersSuit s later plain call → made_again s later plain call ≡ ended (exact_step s later plain call))
      → loop asks (a.value == 0) ≡ ended (exact_step s (a ∷ later) heap call)
  loop-is [] is suits next = asked-none is
  loop-is (ask ∷ asks) is (inl none) next = absurd (cc (sym is ∙ none))
  loop-is (ask ∷ asks) is (inr both) next =
      let known = asked-for first ask asks is (asks_in_vain s heap call) in
      ap (λ b. cond b (first.outcome, first.heap) (cond (a.value == 0) (first.outcome, plain) (made_again s later plain call)))
      (not_zero (suc (length asks)) 0 (omega arith))
      ∙ loop-asked known.0 known.1 both.0 both.1 next (a.value == 0) refl

pub made_again_is_exact : MadeAgainIsExact
made_again_is_exact s [] heap call suits many = refl
made_again_is_exact s (a ∷ later) heap call suits many =
    let first = exact_step s [] heap call in
    let plain = heap_between s a first.heap in
    loop-is s a later heap call many first.asks refl suits (λ suits. made_again_is_exact s later plain call suits (omega (arith, many)))

-- ---- answers that suit

abbrev none_disposes : List Answer → Bool
none_disposes answers = list_all (λ (a : Answer). list_all disposes_of_none a.calls) answers

pub sparing_answers_suit : SparingAnswersSuit
sparing_answers_suit s [] heap call spares may = tt
sparing_answers_suit s (a ∷ later) heap call spares may =
    let first = exact_step s [] heap call in
    let both = and_parts (spares_operands call a) (list_all (spares_operands call) later) spares in
    by_asks first.asks refl may both.0 (sparing_answers_suit s later (heap_between s a first.heap) call both.1)
  where
    by_asks : (let first = exact_step s [] heap call in let after = heap_between s a first.heap in
        (asks : List Ask) → first.asks ≡ asks
        → IsFalse (lacks_slot heap call) ⊎ IsTrue (none_disposes (a ∷ later))
        → IsTrue (spares_operands call a)
        → (IsFalse (lacks_slot after call) ⊎ IsTrue (none_disposes later) → AnswersSuit s later after call)
        → (first.asks ≡ []) ⊎ (IsTrue (spares_operands call a)
        × (IsTrue (a.value == 0) ⊎ (FreesNoSlot call first.heap after × AnswersSuit s later after call))))
    by_asks [] is may spares rest = inl is
    by_asks (ask ∷ asks) is (inl slot) spares rest =
        let first = exact_step s [] heap call in
        let after = heap_between s a first.heap in
        let none = lacks-none s call a heap slot (λ none. cc (sym is ∙ none)) in
        let same = answers_are_calls s a first.heap call spares in
        let frees : FreesNoSlot call first.heap after = λ lacks. absurd (true≢false (sym lacks ∙ none.first)) in
        inr (spares, inr (frees, rest (inl (ap (λ heap. lacks_slot heap call) same ∙ none.following))))
    by_asks (ask ∷ asks) is (inr none) spares rest =
        let first = exact_step s [] heap call in
        let both = and_parts (list_all disposes_of_none a.calls) (none_disposes later) none in
        let same = answers_are_calls s a first.heap call spares in
        inr (spares, inr (subst (FreesNoSlot call first.heap) (sym same) (frees-none s call a first.heap both.0), rest (inr both.1)))
