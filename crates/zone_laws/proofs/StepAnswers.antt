-- A call takes answers from the front of a queue: those of its asks. More answers after them change nothing.
use Rattle.std.proofs.Common.{◌≡◌, ℕ, ◌-◌, Bool, true, false, List, [], ◌++◌, length, Some, None, Option, refl, ap, sym, ◌∙◌, subst, append-nil, append_assoc}
use Rattle.std.specs.Prelude.{◌&&◌, is_some}
use Rattle.std.proofs.lemmas.Bool.{and_parts, true≢false}
use Rattle.std.proofs.lemmas.List.Elements.{filter_map-append}
use Rattle.std.proofs.lemmas.List.Folds.{list_all-append}
use Rattle.mac_base.specs.declared.error.OsErr.{OsErr}
use Rattle.mac_base.specs.HeadKind.{Shape}
use Rattle.mac_base.specs.HandleTable.{HandleTable}
use Rattle.mac_base.specs.declared.request.Request.{Request}
use Rattle.mac_base.specs.declared.request.Request.TheVariants.{NewMaster}
use Rattle.mac_base.specs.Request.{makes_handle}
use Rattle.mac_base.specs.Heap.{Heap, has_none}
use Rattle.mac_base.specs.declared.memory_call.MemoryCall.{MemoryCall}
use Rattle.mac_base.specs.Tests.{refusal, protected_by}
use Rattle.mac_base.specs.GrowZone.{Answer, Ask, most_answers}
use Rattle.mac_base.specs.ExactRequest.{Ending, request_run}
use Rattle.mac_base.specs.Effect.{request_of}
use Rattle.mac_base.specs.ExactStep.{StepEnd, request_end, after_master, request_step, step_asking, step_unless, exact_step}
use Rattle.zone_laws.proofs.RunAnswers.{answers_of, all_answered, with_left, run-takes, run-answered, run-unanswered, run-framed, run-alone}

-- the end of a call with other answers left
abbrev pub step_left : List Answer → StepEnd → StepEnd
step_left left e = record e { left = left }

answers-append : (a b : List Ask) → answers_of (a ++ b) ≡ answers_of a ++ answers_of b
answers-append a b = filter_map-append (λ (ask : Ask). ask.answer) a b

answered-append : (a b : List Ask) → all_answered (a ++ b) ≡ true → (all_answered a ≡ true) × (all_answered b ≡ true)
answered-append a b h = and_parts (all_answered a) (all_answered b) (sym (list_all-append (λ (ask : Ask). is_some ask.answer) a b) ∙ h)

-- ---- the end of a request

module _ (call : MemoryCall) (entry : HandleTable) (first : List Ask) where
  end-asks : (e : Ending) (given : Option ℕ) → (request_end call entry first e given).asks ≡ first ++ e.asks
  end-asks e (Some x) = refl
  end-asks e None = refl

  end-is_left : (e : Ending) (given : Option ℕ) → (request_end call entry first e given).left ≡ e.left
  end-is_left e (Some x) = refl
  end-is_left e None = refl

  end-with_left : (left : List Answer) (e : Ending) (given : Option ℕ) → request_end call entry first (with_left left e) given ≡ step_left left (request_end call entry first e given)
  end-with_left left e (Some x) = refl
  end-with_left left e None = refl

-- what is known of a step that takes its answers from a queue
record TakesAnswers (step : List Answer → StepEnd) (answers : List Answer) : Type 0 where
  pub takes : answers ≡ answers_of (step answers).asks ++ (step answers).left
  pub framed : (more : List Answer) → all_answered (step answers).asks ≡ true → step (answers ++ more) ≡ step_left ((step answers).left ++ more) (step answers)
  pub alone : step (answers_of (step answers).asks) ≡ step_left [] (step answers)
  pub unanswered : all_answered (step answers).asks ≡ false → (step answers).left ≡ []

module _ (s : Shape) (heap : Heap) (call : MemoryCall) (r : Request) where
  -- the call's own request
  own-takes : (answers : List Answer) → TakesAnswers (λ xs. request_step s xs heap call false r) answers
  own-takes answers =
      let run : List Answer → Ending = λ xs. request_run s (protected_by call) r most_answers xs heap in
      let e = run answers in
      let end : Ending → StepEnd = λ e. request_end call heap.table [] e e.given in
      let asks = end-asks call heap.table [] e e.given in
      let left = end-is_left call heap.table [] e e.given in
      record {
        takes = run-takes s (protected_by call) r most_answers answers heap ∙ sym (ap (λ asks. answers_of asks ++ (end e).left) asks ∙ ap (λ xs. answers_of e.asks ++ xs) left);
        framed = λ more answered. ap end (run-framed s (protected_by call) r most_answers answers more heap (ap all_answered (sym asks) ∙ answered)) ∙ end-with_left call heap.table [] (e.left ++ more) e e.given
            ∙ ap (λ xs. step_left (xs ++ more) (end e)) (sym left);
        alone = ap (λ asks. end (run (answers_of asks))) asks ∙ ap end (run-alone s (protected_by call) r most_answers answers heap) ∙ end-with_left call heap.table [] [] e e.given;
        unanswered = λ lacks. left ∙ run-unanswered s (protected_by call) r most_answers answers heap (sym (ap all_answered asks) ∙ lacks);
      }

  -- the request after one for a master block, which ended so
  abbrev second : Ending → Option ℕ → Ending
  second master given = after_master s (protected_by call) r master given

  second-takes : (master : Ending) (given : Option ℕ) → master.left ≡ answers_of (second master given).asks ++ (second master given).left
  second-takes master (Some x) = run-takes s (protected_by call) r (most_answers - length master.asks) master.left master.heap
  second-takes master None = refl

  second-framed : (master : Ending) (given : Option ℕ) (more : List Answer) → all_answered (second master given).asks ≡ true → second (with_left (master.left ++ more) master) given ≡ with_left ((second master given).left ++ more) (second master given)
  second-framed master (Some x) more answered = run-framed s (protected_by call) r (most_answers - length master.asks) master.left more master.heap answered
  second-framed master None more answered = refl

  second-alone : (master : Ending) (given : Option ℕ) → second (with_left (answers_of (second master given).asks) master) given ≡ with_left [] (second master given)
  second-alone master (Some x) = run-alone s (protected_by call) r (most_answers - length master.asks) master.left master.heap
  second-alone master None = refl

  -- the first request alone, with the answers of the second after its own
  master-alone : (answers : List Answer) (given : Option ℕ) → (let master = request_run s (protected_by call) NewMaster most_answers answers heap in master.given ≡ given
      → (let xs = answers_of (second master given).asks in request_run s (protected_by call) NewMaster most_answers (answers_of master.asks ++ xs) heap ≡ with_left xs master))
  master-alone answers (Some x) is =
      let run : List Answer → Ending = λ xs. request_run s (protected_by call) NewMaster most_answers xs heap in
      let master = run answers in
      let xs = answers_of (second master (Some x)).asks in
      let alone = run-alone s (protected_by call) NewMaster most_answers answers heap in
      let answered = run-answered s (protected_by call) NewMaster most_answers answers heap (ap is_some is) in
      run-framed s (protected_by call) NewMaster most_answers (answers_of master.asks) xs heap (ap (λ (e : Ending). all_answered e.asks) alone ∙ answered) ∙ ap (λ (e : Ending). with_left (e.left ++ xs) e) alone
  master-alone answers None is =
      let master = request_run s (protected_by call) NewMaster most_answers answers heap in
      ap (λ xs. request_run s (protected_by call) NewMaster most_answers xs heap) (append-nil (answers_of master.asks)) ∙ run-alone s (protected_by call) NewMaster most_answers answers heap

  -- where an ask of either had no answer, none is left
  second-unanswered : (answers : List Answer) (given : Option ℕ)
      → (let master = request_run s (protected_by call) NewMaster most_answers answers heap in master.given ≡ given → all_answered (master.asks ++ (second master given).asks) ≡ false → (second master given).left ≡ [])
  second-unanswered answers (Some x) is lacks =
      let master = request_run s (protected_by call) NewMaster most_answers answers heap in
      let e = second master (Some x) in
      let answered = run-answered s (protected_by call) NewMaster most_answers answers heap (ap is_some is) in
      run-unanswered s (protected_by call) r (most_answers - length master.asks) master.left master.heap
      (ap (λ b. b && all_answered e.asks) (sym answered) ∙ sym (list_all-append (λ (ask : Ask). is_some ask.answer) master.asks e.asks) ∙ lacks)
  second-unanswered answers None is lacks =
      let master = request_run s (protected_by call) NewMaster most_answers answers heap in
      run-unanswered s (protected_by call) NewMaster most_answers answers heap (ap all_answered (sym (append-nil master.asks)) ∙ lacks)

  -- both requests
  both-takes : (answers : List Answer) → TakesAnswers (λ xs. request_step s xs heap call true r) answers
  both-takes answers =
      let run : List Answer → Ending = λ xs. request_run s (protected_by call) NewMaster most_answers xs heap in
      let master = run answers in
      let e = second master master.given in
      let end : Ending → StepEnd = λ master. (let e = second master master.given in request_end call heap.table master.asks e e.given) in
      let asks = end-asks call heap.table master.asks e e.given in
      let left = end-is_left call heap.table master.asks e e.given in
      let finish : Ending → StepEnd = λ e. request_end call heap.table master.asks e e.given in
      record {
        takes = run-takes s (protected_by call) NewMaster most_answers answers heap ∙ ap (λ xs. answers_of master.asks ++ xs) (second-takes master master.given)
            ∙ sym (append_assoc (answers_of master.asks) (answers_of e.asks) e.left) ∙ ap (λ xs. xs ++ e.left) (sym (answers-append master.asks e.asks))
            ∙ sym (ap (λ asks. answers_of asks ++ (end master).left) asks ∙ ap (λ xs. answers_of (master.asks ++ e.asks) ++ xs) left);
        framed = λ more answered. (let parts = answered-append master.asks e.asks (ap all_answered (sym asks) ∙ answered) in
            ap end (run-framed s (protected_by call) NewMaster most_answers answers more heap parts.0) ∙ ap finish (second-framed master master.given more parts.1)
            ∙ end-with_left call heap.table master.asks (e.left ++ more) e e.given ∙ ap (λ xs. step_left (xs ++ more) (end master)) (sym left));
        alone = ap (λ asks. end (run (answers_of asks))) asks ∙ ap (λ xs. end (run xs)) (answers-append master.asks e.asks) ∙ ap end (master-alone answers master.given refl)
            ∙ ap finish (second-alone master master.given) ∙ end-with_left call heap.table master.asks [] e e.given;
        unanswered = λ lacks. left ∙ second-unanswered answers master.given refl (sym (ap all_answered asks) ∙ lacks);
      }

  request-takes : (b : Bool) (answers : List Answer) → TakesAnswers (λ xs. request_step s xs heap call b r) answers
  request-takes true answers = both-takes answers
  request-takes false answers = own-takes answers

-- a step that takes no answers
none-taken : (step : List Answer → StepEnd) (answers : List Answer) → ((xs : List Answer) → step xs ≡ step_left xs (step [])) → (step []).asks ≡ [] → TakesAnswers step answers
none-taken step answers same none =
    let asks : (step answers).asks ≡ [] = ap (λ (e : StepEnd). e.asks) (same answers) ∙ none in
    let left : (step answers).left ≡ answers = ap (λ (e : StepEnd). e.left) (same answers) in
    record {
      takes = sym (ap (λ asks. answers_of asks ++ (step answers).left) asks ∙ left);
      framed = λ more answered. same (answers ++ more) ∙ sym (ap (λ xs. step_left (xs ++ more) (step answers)) left ∙ ap (step_left (answers ++ more)) (same answers));
      alone = ap (λ asks. step (answers_of asks)) asks ∙ same [] ∙ sym (ap (step_left []) (same answers));
      unanswered = λ lacks. absurd (true≢false (sym (ap all_answered asks) ∙ lacks));
    }

step-takes : (s : Shape) (heap : Heap) (call : MemoryCall) (refused : Option OsErr) (asks : Option Request) (answers : List Answer) → request_of heap.table call ≡ asks → TakesAnswers (λ xs. step_unless s xs heap call refused) answers
step-takes s heap call (Some code) asks answers is = none-taken (λ xs. step_unless s xs heap call (Some code)) answers (λ xs. refl) refl
step-takes s heap call None None answers is = subst (λ o. TakesAnswers (λ xs. step_asking s xs heap call o) answers) (sym is) (none-taken (λ xs. step_asking s xs heap call None) answers (λ xs. refl) refl)
step-takes s heap call None (Some r) answers is = subst (λ o. TakesAnswers (λ xs. step_asking s xs heap call o) answers) (sym is) (request-takes s heap call r (makes_handle r && has_none heap.free_slots) answers)

exact-steps : (s : Shape) (answers : List Answer) (heap : Heap) (call : MemoryCall) → TakesAnswers (λ xs. exact_step s xs heap call) answers
exact-steps s answers heap call = step-takes s heap call (refusal s heap call) (request_of heap.table call) answers refl

-- where each ask had an answer, more answers after them change nothing, and are left too
pub exact-framed : (s : Shape) (answers more : List Answer) (heap : Heap) (call : MemoryCall) → (let e = exact_step s answers heap call in all_answered e.asks ≡ true → exact_step s (answers ++ more) heap call ≡ step_left (e.left ++ more) e)
exact-framed s answers more heap call answered = let t = exact-steps s answers heap call in t.framed more answered

-- so where no answer was left, just those are
pub exact-framed_all : (s : Shape) (answers more : List Answer) (heap : Heap) (call : MemoryCall)
    → (let e = exact_step s answers heap call in e.left ≡ [] → all_answered e.asks ≡ true → exact_step s (answers ++ more) heap call ≡ step_left more e)
exact-framed_all s answers more heap call none answered = exact-framed s answers more heap call answered ∙ ap (λ left. step_left (left ++ more) (exact_step s answers heap call)) none
