-- Acts on zones in a cipher: each is done in the cipher where it is done.
use Rattle.std.proofs.Common.{◌≡◌, ℕ, not, List, [], ◌∷◌, Option, Some, None, Ok, refl, ap, subst, sym, ◌∙◌}
use Rattle.std.specs.Prelude.{◌==◌, filter, map}
use Rattle.std.proofs.lemmas.List.{length-map, map-append}
use Rattle.mac_base.specs.declared.error.OsErr.{OsErr}
use Rattle.mac_base.specs.declared.releasing.ReleasingCall.{ReleasingCall}
use Rattle.mac_base.specs.declared.releasing.ReleasingCall.TheVariants.{DisposesHandle, DisposesPtr, Empties}
use Rattle.mac_base.specs.HandleTable.{HandleTable, FullHandle, bytes_of}
use Rattle.mac_base.specs.HeadKind.{Shape}
use Rattle.mac_base.specs.Heap.{Heap, with_table}
use Rattle.mac_base.specs.Loans.{with_lent}
use Rattle.mac_base.specs.ZoneState.{written}
use Rattle.mac_base.specs.declared.loan_call.LoanCall.{LoanCall}
use Rattle.mac_base.specs.declared.loan_call.LoanCall.TheVariants as loan_call
use Rattle.mac_base.specs.ExactStep.{exact_step, heap_after, outcomes_to}
use Rattle.mac_base.specs.GrowZone.{answers_in}
use Rattle.mac_base.specs.LoanStep.{Loans, LoanStepUnless, heap_after_loan, held_bytes, loan_refusal, loan_results, loans_after, tests_of_loan, with_held}
use Rattle.mac_base.specs.Outcomes.{Outcome}
use Rattle.zone_laws.specs.Act.{Act, AreDone, Calls, Does, Done, HasOperand, Loads, Moment, OnLoan, Unloads}
use Rattle.zone_laws.specs.Contents.{IgnoresContents, MovesContents, RunsIgnoreContents, RunsMoveContents, act_ciphered, blank, call_ciphered, done_ciphered, end_ciphered, heap_ciphered, loan_call_ciphered, loans_ciphered, moment_ciphered, outcome_ciphered, results_ciphered, table_ciphered}
use Rattle.zone_laws.proofs.Ciphered.{bytes-ciphered, chosen, full-ciphered, handle-ciphered, length-ciphered, pointer-ciphered, slice-ciphered, with_bytes-ciphered, with_live-ciphered, without-changed, written-ciphered}
use Rattle.zone_laws.proofs.CipheredCalls.{heap_after-ciphered, outcomes-ciphered, step-ciphered}
use Rattle.zone_laws.proofs.CipheredRuns.{first_refusal-ciphered, released-ciphered}

module _ (cipher : ℕ → ℕ) where
  -- ---- loans

  held-ciphered : (x : ℕ) (loans : Loans) → held_bytes x (loans_ciphered cipher loans) ≡ map cipher (held_bytes x loans)
  held-ciphered x [] = refl
  held-ciphered x (loan ∷ loans) = rw (held-ciphered x loans) (chosen (map cipher) (loan.0 == x) loan.1 (held_bytes x loans))

  with_held-ciphered : (x : ℕ) (bytes : List ℕ) (loans : Loans) → with_held x (map cipher bytes) (loans_ciphered cipher loans) ≡ loans_ciphered cipher (with_held x bytes loans)
  with_held-ciphered x bytes [] = refl
  with_held-ciphered x bytes (loan ∷ loans) = rw (with_held-ciphered x bytes loans, chosen {B = ℕ × List ℕ} (λ loan. (loan.0, map cipher loan.1)) (loan.0 == x) (x, bytes) loan)

  loan_refusal-ciphered : (s : Shape) (heap : Heap) (call : LoanCall) → loan_refusal s (heap_ciphered cipher heap) (loan_call_ciphered cipher call) ≡ loan_refusal s heap call
  loan_refusal-ciphered s heap (loan_call.LentPoke x at bytes) = rw (length-map bytes cipher) (first_refusal-ciphered cipher s heap (tests_of_loan (loan_call.LentPoke x at bytes)))
  loan_refusal-ciphered s heap call = first_refusal-ciphered cipher s heap (tests_of_loan call)

  results-ciphered : (call : LoanCall) (loans : Loans) → loan_results (loan_call_ciphered cipher call) (loans_ciphered cipher loans) ≡ results_ciphered cipher (loan_results call loans)
  results-ciphered (loan_call.LentPeek x at n) loans = rw (held-ciphered x loans, slice-ciphered cipher at n (held_bytes x loans))
  results-ciphered (loan_call.LentPoke x at bytes) loans = refl
  results-ciphered call loans = refl

  loans_after-ciphered : (call : LoanCall) (t : HandleTable) (loans : Loans) → loans_after (loan_call_ciphered cipher call) (table_ciphered cipher t) (loans_ciphered cipher loans) ≡ loans_ciphered cipher (loans_after call t loans)
  loans_after-ciphered (loan_call.Lend x) t loans = rw (bytes-ciphered cipher t x) (sym (map-append (λ (loan : ℕ × List ℕ). (loan.0, map cipher loan.1)) loans ((x, bytes_of t x) ∷ [])))
  loans_after-ciphered (loan_call.LentPeek x at n) t loans = refl
  loans_after-ciphered (loan_call.LentPoke x at bytes) t loans = rw (held-ciphered x loans, written-ciphered cipher at bytes (held_bytes x loans)) (with_held-ciphered x (written at bytes (held_bytes x loans)) loans)
  loans_after-ciphered (loan_call.Return x) t loans = without-changed (map cipher) x loans

  heap_after_loan-ciphered : (call : LoanCall) (loans : Loans) (heap : Heap) → heap_after_loan (loan_call_ciphered cipher call) (loans_ciphered cipher loans) (heap_ciphered cipher heap) ≡ heap_ciphered cipher (heap_after_loan call loans heap)
  heap_after_loan-ciphered (loan_call.Return x) loans heap = rw (held-ciphered x loans)
      (ap (λ (t : HandleTable). with_table (with_lent (filter (λ y. not (y == x)) heap.table.lent) t) heap) (with_bytes-ciphered cipher x (held_bytes x loans) heap.table))
  heap_after_loan-ciphered (loan_call.Lend x) loans heap = refl
  heap_after_loan-ciphered (loan_call.LentPeek x at n) loans heap = refl
  heap_after_loan-ciphered (loan_call.LentPoke x at bytes) loans heap = refl

  loan-ciphered : (call : LoanCall) (outcome : Outcome) (old new : Moment) (o : Option OsErr) → LoanStepUnless o old.loans old.heap call outcome new.loans new.heap
      → LoanStepUnless o (loans_ciphered cipher old.loans) (heap_ciphered cipher old.heap) (loan_call_ciphered cipher call) (outcome_ciphered cipher outcome) (loans_ciphered cipher new.loans) (heap_ciphered cipher new.heap)
  loan-ciphered call outcome old new (Some refusal) step = (ap (outcome_ciphered cipher) step.0, ap (loans_ciphered cipher) step.1, ap (heap_ciphered cipher) step.2)
  loan-ciphered call outcome old new None step = (
    ap (outcome_ciphered cipher) step.0 ∙ ap (λ r. Ok r) (sym (results-ciphered call old.loans)),
    ap (loans_ciphered cipher) step.1 ∙ sym (loans_after-ciphered call old.heap.table old.loans),
    ap (heap_ciphered cipher) step.2 ∙ sym (heap_after_loan-ciphered call old.loans old.heap),
  )

  -- ---- each act

  operand-ciphered : (heap : Heap) (call : ReleasingCall) → HasOperand heap call → HasOperand (heap_ciphered cipher heap) call
  operand-ciphered heap (DisposesHandle h) has = handle-ciphered cipher heap.table h ∙ has
  operand-ciphered heap (DisposesPtr p) has = pointer-ciphered cipher heap.table p ∙ has
  operand-ciphered heap (Empties h) has = handle-ciphered cipher heap.table h ∙ has

  module _ (keeps : cipher 0 ≡ 0) (s : Shape) where
    act-ciphered : (act : Act) (old new : Moment) → Does s act old new → Does s (act_ciphered cipher act) (moment_ciphered cipher old) (moment_ciphered cipher new)
    act-ciphered (Calls call asks outcome) old new does = (step-ciphered cipher keeps s (answers_in asks) old.heap call ∙ ap (end_ciphered cipher) does.0, ap (loans_ciphered cipher) does.1)
    act-ciphered (OnLoan call outcome) old new does = subst
        (λ o. LoanStepUnless o (loans_ciphered cipher old.loans) (heap_ciphered cipher old.heap) (loan_call_ciphered cipher call) (outcome_ciphered cipher outcome) (loans_ciphered cipher new.loans) (heap_ciphered cipher new.heap))
        (sym (loan_refusal-ciphered s old.heap call)) (loan-ciphered call outcome old new (loan_refusal s old.heap call) does)
    act-ciphered (Loads h flags bytes) old new does = (
      (
        full-ciphered cipher old.heap.table h ∙ (does.0).0,
        length-map bytes cipher ∙ (does.0).1 ∙ sym (length-ciphered cipher old.heap.table h),
        (does.0).2,
      ),
      ap (heap_ciphered cipher) does.1 ∙ ap (λ t. with_table t old.heap) (sym (with_live-ciphered cipher h (FullHandle flags bytes) old.heap.table)),
      ap (loans_ciphered cipher) does.2,
    )
    act-ciphered (Unloads call) old new does = (
      operand-ciphered old.heap call does.0,
      does.1,
      ap (heap_ciphered cipher) does.2 ∙ sym (released-ciphered cipher call old.heap),
      ap (loans_ciphered cipher) does.3,
    )

    run-ciphered : (from : Moment) (acts : List Done) → AreDone s from acts → AreDone s (moment_ciphered cipher from) (done_ciphered cipher acts)
    run-ciphered from [] is = tt
    run-ciphered from (done ∷ later) is = (act-ciphered done.act from done.left is.0, run-ciphered done.left later is.1)

-- ---- the laws

pub moves_contents : MovesContents
moves_contents cipher keeps s = step-ciphered cipher keeps s

pub runs_move_contents : RunsMoveContents
runs_move_contents cipher keeps s = run-ciphered cipher keeps s

pub ignores_contents : IgnoresContents
ignores_contents s answers heap other call with_others same_heap same_call =
    sym (step-ciphered blank refl s answers heap call) ∙ ap (λ heap. exact_step s answers heap (call_ciphered blank call)) same_heap
    ∙ ap (exact_step s answers (heap_ciphered blank other)) same_call ∙ step-ciphered blank refl s answers other with_others

pub runs_ignore_contents : RunsIgnoreContents
runs_ignore_contents s heap other calls with_others same_heap same_calls = (
  sym (heap_after-ciphered blank refl s heap calls) ∙ ap (λ heap. heap_after s heap (map (call_ciphered blank) calls)) same_heap
      ∙ ap (heap_after s (heap_ciphered blank other)) same_calls ∙ heap_after-ciphered blank refl s other with_others,
  sym (outcomes-ciphered blank refl s heap calls) ∙ ap (λ heap. outcomes_to s heap (map (call_ciphered blank) calls)) same_heap
      ∙ ap (outcomes_to s (heap_ciphered blank other)) same_calls ∙ outcomes-ciphered blank refl s other with_others,
)
