-- What a call knows of the heap once its request has given a number.
use Rattle.std.proofs.Common.{◌≡◌, ℕ, ◌-◌, ◌<◌, Bool, true, false, List, length, Option, Some, None, Result, Ok, MatchOption, refl, ap, sym, ◌∙◌, subst}
use Rattle.std.specs.Prelude.{⊤}
use Rattle.mac_base.specs.declared.error.OsErr.{OsErr}
use Rattle.mac_base.specs.HeadKind.{Shape}
use Rattle.mac_base.specs.HandleTable.{live_at}
use Rattle.mac_base.specs.Heap.{Heap, has_none}
use Rattle.mac_base.specs.Loans.{LoansAreFixed}
use Rattle.mac_base.specs.Sound.{Sound}
use Rattle.mac_base.specs.declared.request.Request.{Request}
use Rattle.mac_base.specs.declared.request.Request.TheVariants.{NewMaster}
use Rattle.mac_base.specs.Request.{makes_handle}
use Rattle.mac_base.specs.ExactRequest.{Ending, request_run}
use Rattle.mac_base.specs.ExactStep.{after_master}
use Rattle.mac_base.specs.GrowZone.{Answer, Ask, answers_in, most_answers}
use Rattle.zone_laws.proofs.SoundServed.{MayServe}
use Rattle.zone_laws.proofs.LentSteps.{LoansKept, NewHere, loans-fixed, new-here, ran-lent, run-kept}
use Rattle.zone_laws.proofs.RunPermitted.{Gives, Grants, Guards, grants-after, run-facts}
use Rattle.zone_laws.proofs.RunTables.{Ran}
use Rattle.zone_laws.proofs.StepPermitted.{may_serve-from, operand-handle, slot-free, makes-first}
use Rattle.zone_laws.proofs.StepRequests.{HasOperand}
use Rattle.zone_heap.specs.Attempts.{lacks_slot}
use Rattle.mem_calls.specs.Requesting.{IsCallRun, call_run, given_or_full}

-- a request gave x
pub record Served (protected : List ℕ) (r : Request) (x : ℕ) (old new : Heap) : Type 0 where
  pub grants : Grants protected r x old new
  pub gives : Gives r x new
  pub here : NewHere r x new
  pub lent : new.table.lent ≡ old.table.lent

module _ (s : Shape) (protected : List ℕ) (r : Request) (guards : Guards protected r) where
  -- by one run
  by_run : (allowed : ℕ) (answers : List Answer) (heap : Heap) → Sound s heap → LoansAreFixed heap → MayServe heap r → (x : ℕ) → (request_run s protected r allowed answers heap).given ≡ Some x
      → Served protected r x heap (request_run s protected r allowed answers heap).heap
  by_run allowed answers heap sound fixed may x is =
      let e = request_run s protected r allowed answers heap in
      let facts = run-facts s protected r allowed answers heap sound guards may in
      let ran = subst (λ o. Ran LoansKept r o heap.table e.heap.table) is (run-kept s protected r allowed heap e.asks e.given e.heap facts.permitted) in
      record {
        grants = subst (λ o. MatchOption o ⊤ (λ x. Grants protected r x heap e.heap)) is facts.grants;
        gives = subst (λ o. MatchOption o ⊤ (λ x. Gives r x e.heap)) is facts.gives;
        here = new-here r x heap e.heap ran fixed;
        lent = ran-lent r x heap.table e.heap.table ran;
      }

  -- or by one after that for a master block
  by_master : (answers : List Answer) (old : Heap) → Sound s old → LoansAreFixed old → makes_handle r ≡ true → (x : ℕ) → let master = request_run s protected NewMaster most_answers answers old in
      (given : Option ℕ) → master.given ≡ given → (after_master s protected r master given).given ≡ Some x → Served protected r x old (after_master s protected r master given).heap
  by_master answers old sound fixed makes x None none h = absurd (cc h)
  by_master answers old sound fixed makes x (Some m) first h =
      let master = request_run s protected NewMaster most_answers answers old in
      let facts = run-facts s protected NewMaster most_answers answers old sound tt tt in
      let ran = subst (λ o. Ran LoansKept NewMaster o old.table master.heap.table) first (run-kept s protected NewMaster most_answers old master.asks master.given master.heap facts.permitted) in
      let keeps = subst (LoansKept old.table) (sym ran.served.1) ran.related in
      let slots : 0 < length master.heap.free_slots = subst (λ o. MatchOption o ⊤ (λ m. 0 < length master.heap.free_slots)) first facts.gives in
      let grants : Grants protected NewMaster m old master.heap = subst (λ o. MatchOption o ⊤ (λ m. Grants protected NewMaster m old master.heap)) first facts.grants in
      let allowed = most_answers - length master.asks in
      let then = by_run allowed master.left master.heap facts.sound (loans-fixed old master.heap keeps fixed) (may_serve-from master.heap r (operand-handle master.heap r makes) (λ _. slots)) x h in
      record {
        grants = grants-after protected r old master.heap (request_run s protected r allowed master.left master.heap).heap (Some x)
            (record { free = λ _. slots; protects = λ y among. ap (λ t. live_at t y) grants.table ∙ grants.protects y among }) then.grants;
        gives = then.gives;
        here = then.here;
        lent = then.lent ∙ keeps.lent;
      }

  by_call : (answers : List Answer) (old : Heap) (b : Bool) → lacks_slot r old ≡ b → Sound s old → LoansAreFixed old → HasOperand old r → (x : ℕ) → (call_run s protected r answers old b).given ≡ Some x
      → Served protected r x old (call_run s protected r answers old b).heap
  by_call answers old false slot sound fixed operand x is = by_run most_answers answers old sound fixed (may_serve-from old r operand (slot-free (makes_handle r) old.free_slots slot)) x is
  by_call answers old true slot sound fixed operand x is =
      by_master answers old sound fixed (makes-first (makes_handle r) (has_none old.free_slots) slot) x (request_run s protected NewMaster most_answers answers old).given refl is

-- a request of a call that gave x
pub called : (s : Shape) (protected : List ℕ) (r : Request) (asks : List Ask) (old new : Heap) (result : Result ℕ OsErr) (x : ℕ) → IsCallRun s protected r asks old result new → result ≡ Ok x
    → Guards protected r → Sound s old → LoansAreFixed old → HasOperand old r → Served protected r x old new
called s protected r asks old new result x run is guards sound fixed operand =
    subst (λ (heap : Heap). Served protected r x old heap) (ap (λ (e : Ending). e.heap) run.run)
    (by_call s protected r guards (answers_in asks) old (lacks_slot r old) refl sound fixed operand x (ap (λ (e : Ending). e.given) run.run ∙ given run.given (sym run.result_is ∙ is)))
  where
    given : (o : Option ℕ) → given_or_full o ≡ Ok x → o ≡ Some x
    given None h = absurd (cc h)
    given (Some y) h = cc h
