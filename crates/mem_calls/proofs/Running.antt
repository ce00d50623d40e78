-- The run of a request: trials and turns of the grow-zone procedure, one after another.
use Rattle.std.proofs.Common.{◌≡◌, ◌≢◌, ℕ, ◌-◌, true, cond, eqb, List, [], ◌∷◌, ◌++◌, length, Option, Some, None, ap, ◌∙◌, arith, length-append}
use Rattle.std.specs.Prelude.{is_some, ◌&&◌}
use Rattle.std.specs.List.{list_all}
use Rattle.std.proofs.lemmas.List.Folds.{list_all-append}
use Rattle.mac_base.specs.HeadKind.{Shape}
use Rattle.mac_base.specs.Heap.{Heap}
use Rattle.mac_base.specs.declared.request.Request.{Request}
use Rattle.mac_base.specs.GrowZone.{Answer, Ask, carried_out}
use Rattle.mac_base.specs.ExactRequest.{Ending, unserved, after_ask, asked, request_run}
use Rattle.mem_calls.specs.Requesting.{IsTurn, MayAskMore, calls_in, is_worth}

-- the ending where the first trial fails and the first answer is this
abbrev pub other_answered : Shape → List ℕ → Request → ℕ → Answer → List Answer → Heap → Ending
other_answered s protected r allowed a later mid =
    let c = carried_out s protected a.calls mid in
    let ask = asked s r (Some a) c in
    cond (eqb allowed 0) (unserved mid [] (a ∷ later)) (cond (eqb a.value 0) (unserved c.heap (ask ∷ []) later) (after_ask ask (request_run s protected r (allowed - 1) later c.heap)))

module _ (s : Shape) (protected : List ℕ) (r : Request) where
  -- the procedure may be asked once more, where its answer is worth another trial
  pub may_ask-again : (allowed : ℕ) (old : Heap) (before after : List Ask) (new : Heap) → MayAskMore allowed before → allowed ≢ 0 → IsTurn s protected r old before true after new → MayAskMore (allowed - 1) after
  may_ask-again allowed old before after new more some (answer, following, again, is) = by_answer answer following again
    where
      by_answer : (answer : Option Answer) → after ≡ before ++ asked s r answer (carried_out s protected (calls_in answer) old) ∷ [] → true ≡ is_worth answer → MayAskMore (allowed - 1) after
      by_answer None following again = absurd (cc again)
      by_answer (Some a) following again =
          let ask = asked s r (Some a) (carried_out s protected a.calls old) in
          let few = more.few in
          let long = ap (λ (asks : List Ask). length asks) following ∙ length-append before (ask ∷ []) in
          record {
            few = omega (arith, few, long, some);
            answered = ap (list_all (λ (a : Ask). is_some a.answer)) following ∙ list_all-append (λ (a : Ask). is_some a.answer) before (ask ∷ []) ∙ ap (λ b. b && true) more.answered;
          }
