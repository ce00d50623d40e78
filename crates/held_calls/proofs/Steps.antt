-- A call takes its answers from the front of those that are left.
use Rattle.std.proofs.Common.{◌≡◌, List, ◌++◌, sym, ap, ◌∙◌, inl, inr}
use Rattle.std.proofs.lemmas.List.{append-nil}
use Rattle.mac_base.specs.HeadKind.{Shape}
use Rattle.mac_base.specs.Heap.{Heap}
use Rattle.mac_base.specs.declared.memory_call.MemoryCall.{MemoryCall}
use Rattle.mac_base.specs.ExactStep.{IsExactStep, StepEnd, exact_step}
use Rattle.mac_base.specs.GrowZone.{Answer, Ask, answers_in}
use Rattle.mac_base.specs.Outcomes.{Outcome}
use Rattle.zone_laws.proofs.RunAnswers.{all_answered}
use Rattle.zone_laws.proofs.StepAnswers.{exact-framed_all, step_left}
use Rattle.held_calls.specs.Answers.{OutOfAnswers, taken}

-- the call does just what it does with the answers that it took, and leaves the others
pub exact-queued : (s : Shape) (old : Heap) (call : MemoryCall) (outcome : Outcome) (new : Heap) (asks : List Ask) (left source : List Answer)
    → IsExactStep s old call asks outcome new → taken asks left ≡ source → OutOfAnswers asks left
    → exact_step s source old call ≡ record { outcome = outcome; heap = new; asks = asks; left = left }
exact-queued s old call outcome new asks left source exact took out = ap (λ (answers : List Answer). exact_step s answers old call) (sym took) ∙ elim out [
  | inl all ↦
      exact-framed_all s (answers_in asks) left old call (ap (λ (e : StepEnd). e.left) exact) (ap (λ (e : StepEnd). all_answered e.asks) exact ∙ all)
      ∙ ap (λ (e : StepEnd). step_left left e) exact
  | inr none ↦
      ap (λ (rest : List Answer). exact_step s (answers_in asks ++ rest) old call) none
      ∙ ap (λ (answers : List Answer). exact_step s answers old call) (append-nil (answers_in asks))
      ∙ exact
      ∙ ap (λ (rest : List Answer). record { outcome = outcome; heap = new; asks = asks; left = rest }) (sym none)
]
