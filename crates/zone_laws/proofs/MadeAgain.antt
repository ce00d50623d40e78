-- A call that asked, an answer's calls, and the call made again do what the call does in which the procedure gives this
-- answer.
use Rattle.std.proofs.Common.{◌≡◌, ℕ, suc, ◌-◌, ◌<◌, ◌≤◌, Bool, true, false, cond, length, List, [], ◌∷◌, ◌++◌, Option, Some, None, refl, ap, sym, ◌∙◌, subst, inl, inr, arith}
use Rattle.std.specs.Prelude.{◌⊎◌, ◌&&◌, ◌==◌, is_some}
use Rattle.std.specs.Option.{option_map_or}
use Rattle.std.proofs.lemmas.Bool.{true≢false}
use Rattle.mac_base.specs.declared.error.OsErr.{OsErr}
use Rattle.mac_base.specs.declared.request.Request.{Request}
use Rattle.mac_base.specs.declared.request.Request.TheVariants.{NewMaster}
use Rattle.mac_base.specs.HandleTable.{HandleTable}
use Rattle.mac_base.specs.HeadKind.{Shape}
use Rattle.mac_base.specs.Heap.{Heap, granted, has_none, with_table}
use Rattle.mac_base.specs.Request.{makes_handle, size_needed}
use Rattle.mac_base.specs.Suits.{slots_from}
use Rattle.mac_base.specs.ZoneMap.{ZoneMap}
use Rattle.mac_base.specs.declared.memory_call.MemoryCall.{MemoryCall}
use Rattle.mac_base.specs.Effect.{request_of, table_copied}
use Rattle.mac_base.specs.ExactRequest.{Ending, after_ask, prepared, request_run, unserved}
use Rattle.mac_base.specs.ExactStep.{StepEnd, after_master, exact_step, request_end, request_step, step_asking, step_unless}
use Rattle.mac_base.specs.GrowZone.{Answer, Ask, Carried, carried_out, most_answers}
use Rattle.mac_base.specs.Tests.{protected_by, refusal}
use Rattle.zone_laws.specs.MadeAgain.{AnsweredBetween, AnswersBetween, AskedFor, AsksInVain, FreesNoSlot, past_ask, carried_between, full_end, lacks_slot}
use Rattle.zone_laws.proofs.MoreAllowed.{Alike, run-alike, run-lengths}
use Rattle.zone_laws.proofs.Operands.{Kept, SameCall, kept-carried, kept-prepared, kept-then, same-call, slots-prepared}
use Rattle.zone_laws.proofs.RunAnswers.{last, once, trial}
use Rattle.zone_laws.proofs.RunPermitted.{running-carried_out}

-- Two calls end alike, and where answers were few they ask alike.
pub record Ends (few : Type 0) (one other : StepEnd) : Type 0 where
  pub outcome : one.outcome ≡ other.outcome
  pub heap : one.heap ≡ other.heap
  pub left : one.left ≡ other.left
  pub asks : few → one.asks ≡ other.asks

ends-refl : (few : Type 0) (e : StepEnd) → Ends few e e
ends-refl few e = record { outcome = refl; heap = refl; left = refl; asks = λ _. refl }

-- an ask for so many bytes that had this answer
abbrev shown : ℕ → Answer → Carried → Ask
shown needed a c = record { needed = needed; answer = Some a; carried = c.calls }

-- what follows a call by what it asked: nothing, or the answer's calls and then, unless its value is 0, the call again
abbrev then_again : Shape → MemoryCall → Answer → List Answer → StepEnd → List Ask → StepEnd
then_again s call a later first [] = record first { left = a ∷ later }
then_again s call a later first (ask ∷ asks) = let c = carried_between s call a first.heap in
    past_ask ask.needed a c (cond (a.value == 0) (full_end c.heap later) (exact_step s later c.heap call))

-- ends of requests that are alike, where the calls copy alike
module _ (few : Type 0) (call : MemoryCall) (entry t : HandleTable)
    (copied : (x : ℕ) (u : HandleTable) → table_copied call x t u ≡ table_copied call x entry u) (needed : ℕ) (a : Answer)
    (c : Carried) where
  ends-by : (before following : List Ask) (one other : Ending) → one.heap ≡ other.heap → one.left ≡ other.left
      → (few → before ++ one.asks ≡ following ++ other.asks) → (o : Option ℕ)
      → Ends few (past_ask needed a c (request_end call t before one o)) (request_end call entry (shown needed a c ∷ following) other o)
  ends-by before following one other heap left asks (Some x) = record {
    outcome = refl;
    heap = ap (λ u. with_table u one.heap) (copied x one.heap.table)
        ∙ ap (λ (heap : Heap). with_table (table_copied call x entry heap.table) heap) heap;
    left = left;
    asks = λ is. ap (λ asks. shown needed a c ∷ asks) (asks is);
  }
  ends-by before following one other heap left asks None =
      record { outcome = refl; heap = heap; left = left; asks = λ is. ap (λ asks. shown needed a c ∷ asks) (asks is) }

  end-after : (other : Ending) (o : Option ℕ)
      → request_end call entry [] (after_ask (shown needed a c) other) o ≡ request_end call entry (shown needed a c ∷ []) other o
  end-after other (Some x) = refl
  end-after other None = refl

  ends-alike : (before following : List Ask) (fewer : Type 0) (one other : Ending) → Alike fewer one other → (few → fewer) → before ≡ following
      → Ends few (past_ask needed a c (request_end call t before one one.given))
      (request_end call entry (shown needed a c ∷ following) other other.given)
  ends-alike before following fewer one other alike to same =
      subst (λ o. Ends few (past_ask needed a c (request_end call t before one one.given))
      (request_end call entry (shown needed a c ∷ following) other o)) alike.given
      (ends-by before following one other alike.heap alike.left
      (λ is. ap (λ xs. xs ++ one.asks) same ∙ ap (λ xs. following ++ xs) (alike.asks (to is))) one.given)

-- a slot that is free stays free
pub slot-stays : (makes : Bool) (xs ys : List ℕ) → (0 < length xs → 0 < length ys) → (makes && has_none xs) ≡ false
    → (makes && has_none ys) ≡ false
slot-stays v0 v1 v2 keeps h = grind arith

master-slots : (makes : Bool) (n x : ℕ) (xs : List ℕ) → (makes && has_none (slots_from (suc n) x ++ xs)) ≡ false
master-slots true n x xs = refl
master-slots false n x xs = refl

module _ (s : Shape) (call : MemoryCall) (a : Answer) (later : List Answer)
    (many : (a.value == 0) ≡ false → length later < most_answers) where
  -- if the call is made again, not all answers that are allowed are given
  abbrev few : Type 0
  few = (a.value == 0) ≡ false → suc (length later) < most_answers

  abbrev again : Heap → StepEnd
  again heap = exact_step s later heap call

  -- the answer frees no slot that the call lacks, where it asked and is made again
  abbrev FreesAfter : StepEnd → Type 0
  FreesAfter first = (first.asks ≡ [] → ⊥) → (a.value == 0) ≡ false
      → FreesNoSlot call first.heap (carried_between s call a first.heap).heap

  module _ (heap : Heap) (r : Request) (passes : refusal s heap call ≡ None) (requests : request_of heap.table call ≡ Some r) where
    kept-same : (after : Heap) → Kept (protected_by call) heap after → SameCall s call heap after
    kept-same after kept = same-call s heap after call kept (ap is_some requests)

    -- the call made again
    again-is : (after : Heap) (b : Bool) → Kept (protected_by call) heap after → (makes_handle r && has_none after.free_slots) ≡ b
        → again after ≡ request_step s later after call b r
    again-is after b kept is =
        let same = kept-same after kept in
        ap (step_unless s later after call) (same.refusal ∙ passes) ∙ ap (step_asking s later after call) (same.request ∙ requests)
        ∙ ap (λ b. request_step s later after call b r) is

    -- ---- the call's own request

    module _ (from : Heap) (kept : Kept (protected_by call) heap from) (slot : (makes_handle r && has_none from.free_slots) ≡ false) where
      abbrev own_mid : Heap
      own_mid = prepared s (protected_by call) r from

      abbrev own_c : Carried
      own_c = carried_out s (protected_by call) a.calls own_mid

      abbrev own_needed : ℕ
      own_needed = size_needed s r

      own-kept : Kept (protected_by call) heap own_c.heap
      own-kept = kept-then (protected_by call) heap own_mid own_c.heap
          (kept-then (protected_by call) heap from own_mid kept (kept-prepared s (protected_by call) r from))
          (kept-carried s (protected_by call) a.calls own_mid)

      own-slot : (makes_handle r && has_none own_c.heap.free_slots) ≡ false
      own-slot = slot-stays (makes_handle r) own_mid.free_slots own_c.heap.free_slots
          (running-carried_out s (protected_by call) a.calls own_mid).free
          (ap (λ xs. makes_handle r && has_none xs) (slots-prepared s (protected_by call) r from) ∙ slot)

      abbrev own_with : Bool → Option (ℕ × ZoneMap) → StepEnd
      own_with w o =
          let e = once s r own_mid own_c a false w o later (request_run s (protected_by call) r (most_answers - 1) later own_c.heap) in
          request_end call heap.table [] e e.given

      own-failed : (w : Bool) → (a.value == 0) ≡ w
          → Ends few (past_ask own_needed a own_c (cond w (full_end own_c.heap later) (again own_c.heap))) (own_with w None)
      own-failed true is = ends-refl few (past_ask own_needed a own_c (full_end own_c.heap later))
      own-failed false is =
          let more = request_run s (protected_by call) r most_answers later own_c.heap in
          let e = request_run s (protected_by call) r (most_answers - 1) later own_c.heap in
          let same = kept-same own_c.heap own-kept in
          let alike = run-alike s (protected_by call) r most_answers (most_answers - 1) later own_c.heap (omega (arith, many is))
          (omega (arith, many is)) in
          subst (λ end. Ends few (past_ask own_needed a own_c end) (own_with false None))
          (sym (again-is own_c.heap false own-kept own-slot))
          (subst (λ end. Ends few (past_ask own_needed a own_c (request_end call own_c.heap.table [] more more.given)) end)
          (sym (end-after few call heap.table own_c.heap.table same.copied own_needed a own_c e e.given))
          (ends-alike few call heap.table own_c.heap.table same.copied own_needed a own_c [] []
          ((length later < most_answers) × (length later < most_answers - 1)) more e alike
          (λ less. (many is, omega (arith, less is))) refl))

      abbrev own_first : Option (ℕ × ZoneMap) → StepEnd
      own_first o = let e = last s r own_mid (carried_out s (protected_by call) [] own_mid) false o in
          request_end call heap.table [] e e.given

      abbrev own_end : List Answer → StepEnd
      own_end answers =
          let e = request_run s (protected_by call) r most_answers answers from in
          request_end call heap.table [] e e.given

      own-again : Ends few (let first = own_end [] in then_again s call a later first first.asks) (own_end (a ∷ later))
      own-again = elim (trial s r own_mid) as
          (λ o. Ends few (let first = own_first o in then_again s call a later first first.asks) (own_with (a.value == 0) o)) [
            | Some found ↦ record { outcome = refl; heap = refl; left = refl; asks = λ _. refl }
            | None ↦ own-failed (a.value == 0) refl
          ]

    -- ---- after a request for a master block

    -- what the call lacks in a heap in which it makes the same request
    lacks-is : (after : Heap) → Kept (protected_by call) heap after → lacks_slot after call ≡ (makes_handle r && has_none after.free_slots)
    lacks-is after kept =
        let same = kept-same after kept in
        ap (λ o. option_map_or makes_handle o false && has_none after.free_slots) (same.request ∙ requests)

    module _ (lacks : (makes_handle r && has_none heap.free_slots) ≡ true) where
      abbrev mid : Heap
      mid = prepared s (protected_by call) NewMaster heap

      abbrev c : Carried
      c = carried_out s (protected_by call) a.calls mid

      abbrev master_needed : ℕ
      master_needed = size_needed s NewMaster

      -- the call's end after its request for a master block
      abbrev end_after : HandleTable → Ending → StepEnd
      end_after t master = let e = after_master s (protected_by call) r master master.given in request_end call t master.asks e e.given

      abbrev master_first : Option (ℕ × ZoneMap) → StepEnd
      master_first o = end_after heap.table (last s NewMaster mid (carried_out s (protected_by call) [] mid) false o)

      abbrev master_with : Bool → Option (ℕ × ZoneMap) → StepEnd
      master_with w o = end_after heap.table
          (once s NewMaster mid c a false w o later (request_run s (protected_by call) NewMaster (most_answers - 1) later c.heap))

      mid-kept : Kept (protected_by call) heap mid
      mid-kept = kept-prepared s (protected_by call) NewMaster heap

      c-kept : Kept (protected_by call) heap c.heap
      c-kept = kept-then (protected_by call) heap mid c.heap mid-kept (kept-carried s (protected_by call) a.calls mid)

      -- the requests for a master block in the two, and those after them
      abbrev more : Ending
      more = request_run s (protected_by call) NewMaster most_answers later c.heap

      abbrev less : Ending
      less = request_run s (protected_by call) NewMaster (most_answers - 1) later c.heap

      masters-alike : (a.value == 0) ≡ false → Alike ((length later < most_answers) × (length later < most_answers - 1)) more less
      masters-alike is = run-alike s (protected_by call) NewMaster most_answers (most_answers - 1) later c.heap (omega (arith, many is))
          (omega (arith, many is))

      -- how the call ends in the two, by what these requests gave
      abbrev more_end : Option ℕ → StepEnd
      more_end o = let e = after_master s (protected_by call) r more o in request_end call c.heap.table more.asks e e.given

      abbrev less_end : Option ℕ → StepEnd
      less_end o =
          let e = after_master s (protected_by call) r (after_ask (shown master_needed a c) less) o in
          request_end call heap.table (shown master_needed a c ∷ less.asks) e e.given

      after-ends : (o : Option ℕ) → more.given ≡ o → (a.value == 0) ≡ false
          → Ends few (past_ask master_needed a c (more_end o)) (less_end o)
      after-ends None given worth =
          let alike = masters-alike worth in
          let same = kept-same c.heap c-kept in
          ends-by few call heap.table c.heap.table same.copied master_needed a c more.asks less.asks
          (unserved more.heap [] more.left) (unserved less.heap [] less.left) alike.heap alike.left
          (λ less. ap (λ xs. xs ++ []) (alike.asks (many worth, omega (arith, less worth)))) None
      after-ends (Some x) given worth =
          let alike = masters-alike worth in
          let same = kept-same c.heap c-kept in
          let asks = alike.served (ap is_some given) in
          let count = run-lengths s (protected_by call) NewMaster most_answers later c.heap (ap is_some given) in
          let n = most_answers - length more.asks in
          let k = most_answers - suc (length more.asks) in
          let own = run-alike s (protected_by call) r n k more.left more.heap (omega (arith, count, many worth))
          (omega (arith, count, many worth)) in
          let run : ℕ → List Answer → Heap → Ending = request_run s (protected_by call) r in
          let left = most_answers - suc (length less.asks) in
          let here : run k more.left more.heap ≡ run left less.left less.heap =
          ap (λ (asks : List Ask). run (most_answers - suc (length asks)) more.left more.heap) asks
          ∙ ap (λ answers. run left answers more.heap) alike.left ∙ ap (run left less.left) alike.heap in
          let fewer = (length more.left < n) × (length more.left < k) in
          ends-alike few call heap.table c.heap.table same.copied master_needed a c more.asks less.asks
          fewer (run n more.left more.heap) (run left less.left less.heap)
          (subst (λ (e : Ending). Alike fewer (run n more.left more.heap) e) here own)
          (λ less. (omega (arith, count, many worth, less worth), omega (arith, count, many worth, less worth))) asks

      master-failed : (w : Bool) → (a.value == 0) ≡ w → (w ≡ false → FreesNoSlot call mid c.heap)
          → Ends few (past_ask master_needed a c (cond w (full_end c.heap later) (again c.heap))) (master_with w None)
      master-failed true is frees = ends-refl few (past_ask master_needed a c (full_end c.heap later))
      master-failed false is frees =
          let alike = masters-alike is in
          let lacking : lacks_slot mid call ≡ true = lacks-is mid mid-kept
          ∙ ap (λ xs. makes_handle r && has_none xs) (slots-prepared s (protected_by call) NewMaster heap) ∙ lacks in
          let lacks_still = sym (lacks-is c.heap c-kept) ∙ frees refl lacking in
          subst (λ end. Ends few (past_ask master_needed a c end) (master_with false None))
          (sym (again-is c.heap true c-kept lacks_still))
          (subst (λ o. Ends few (past_ask master_needed a c (more_end more.given)) (less_end o)) alike.given
          (after-ends more.given refl is))

      master-again : (let first = request_step s [] heap call true r in
          FreesAfter first → Ends few (then_again s call a later first first.asks) (request_step s (a ∷ later) heap call true r))
      master-again = elim (trial s NewMaster mid) as (λ o. (let first = master_first o in
          FreesAfter first → Ends few (then_again s call a later first first.asks) (master_with (a.value == 0) o))) [
            | Some found ↦ λ _. (let kept = mid-kept in
                own-again (granted NewMaster found.0 found.1 mid) (record { protects = kept.protects; lent = kept.lent })
                (master-slots (makes_handle r) 63 found.0 mid.free_slots))
            | None ↦ λ frees. master-failed (a.value == 0) refl (frees (λ none. cc none))
          ]

    kept-refl : Kept (protected_by call) heap heap
    kept-refl = record { protects = λ y among. refl; lent = refl }

    request-again : (b : Bool) → (makes_handle r && has_none heap.free_slots) ≡ b → (let first = request_step s [] heap call b r in
        FreesAfter first → Ends few (then_again s call a later first first.asks) (request_step s (a ∷ later) heap call b r))
    request-again true is frees = master-again is frees
    request-again false is frees = own-again heap kept-refl is

  asking-again : (heap : Heap) (o : Option Request) → refusal s heap call ≡ None → request_of heap.table call ≡ o
      → (let first = step_asking s [] heap call o in
      FreesAfter first → Ends few (then_again s call a later first first.asks) (step_asking s (a ∷ later) heap call o))
  asking-again heap (Some r) passes requests frees =
      request-again heap r passes requests (makes_handle r && has_none heap.free_slots) refl frees
  asking-again heap None passes requests frees = record { outcome = refl; heap = refl; left = refl; asks = λ _. refl }

  unless-again : (heap : Heap) (o : Option OsErr) → refusal s heap call ≡ o → (let first = step_unless s [] heap call o in
      FreesAfter first → Ends few (then_again s call a later first first.asks) (step_unless s (a ∷ later) heap call o))
  unless-again heap (Some code) is frees = record { outcome = refl; heap = refl; left = refl; asks = λ _. refl }
  unless-again heap None is frees = asking-again heap (request_of heap.table call) is refl frees

  -- a call, and what follows where it asked
  pub step-again : (heap : Heap) → (let first = exact_step s [] heap call in
      FreesAfter first → Ends few (then_again s call a later first first.asks) (exact_step s (a ∷ later) heap call))
  step-again heap frees = unless-again heap (refusal s heap call) refl frees

-- ---- a call without a procedure asks nothing, or asks in vain

module _ (s : Shape) (call : MemoryCall) where
  abbrev AsksAtMostOnce : StepEnd → Type 0
  AsksAtMostOnce e = (e.asks ≡ []) ⊎ ((needed : ℕ) × AskedFor e needed)

  own-in_vain : (entry : HandleTable) (from : Heap) (r : Request)
      → (let e = request_run s (protected_by call) r most_answers [] from in AsksAtMostOnce (request_end call entry [] e e.given))
  own-in_vain entry from r =
      let mid = prepared s (protected_by call) r from in
      let end : Option (ℕ × ZoneMap) → Ending = last s r mid (carried_out s (protected_by call) [] mid) false in
      elim (trial s r mid) as (λ o. (let e = end o in AsksAtMostOnce (request_end call entry [] e e.given))) [
        | Some found ↦ inl refl
        | None ↦ inr (size_needed s r, (refl, refl))
      ]

  request-in_vain : (heap : Heap) (b : Bool) (r : Request) → AsksAtMostOnce (request_step s [] heap call b r)
  request-in_vain heap false r = own-in_vain heap.table heap r
  request-in_vain heap true r =
      let mid = prepared s (protected_by call) NewMaster heap in
      let end : Option (ℕ × ZoneMap) → Ending = last s NewMaster mid (carried_out s (protected_by call) [] mid) false in
      elim (trial s NewMaster mid) as (λ o. (let master = end o in let e = after_master s (protected_by call) r master master.given in
      AsksAtMostOnce (request_end call heap.table master.asks e e.given))) [
        | Some found ↦ own-in_vain heap.table (granted NewMaster found.0 found.1 mid) r
        | None ↦ inr (size_needed s NewMaster, (refl, refl))
      ]

  asking-in_vain : (heap : Heap) (o : Option Request) → AsksAtMostOnce (step_asking s [] heap call o)
  asking-in_vain heap None = inl refl
  asking-in_vain heap (Some r) = request-in_vain heap (makes_handle r && has_none heap.free_slots) r

  unless-in_vain : (heap : Heap) (o : Option OsErr) → AsksAtMostOnce (step_unless s [] heap call o)
  unless-in_vain heap (Some code) = inl refl
  unless-in_vain heap None = asking-in_vain heap (request_of heap.table call)

pub asks_in_vain : AsksInVain
asks_in_vain s heap call = unless-in_vain s call heap (refusal s heap call)

-- ---- one answer

-- where answers are few, the two are the same
ends-are : (one other : StepEnd) (fewer : Type 0) → Ends fewer one other → fewer → one ≡ other
ends-are one other fewer ends is = grind arith

module _ (s : Shape) (heap : Heap) (call : MemoryCall) (needed : ℕ) (a : Answer) (later : List Answer)
    (asks : AskedFor (exact_step s [] heap call) needed) where
  abbrev first : StepEnd
  first = exact_step s [] heap call

  abbrev following : Carried
  following = carried_between s call a first.heap

  -- what follows the call by what it asked, and by the answer's value
  asked-then : (w : Bool) → (a.value == 0) ≡ w
      → then_again s call a later first first.asks ≡ past_ask needed a following
      (cond w (full_end following.heap later) (exact_step s later following.heap call))
  asked-then w is = ap (then_again s call a later first) asks.0
      ∙ ap (λ w. past_ask needed a following (cond w (full_end following.heap later) (exact_step s later following.heap call))) is

  between-last : (a.value == 0) ≡ true → exact_step s (a ∷ later) heap call ≡ past_ask needed a following (full_end following.heap later)
  between-last none =
      let known = step-again s call a later (λ worth. absurd (true≢false (sym none ∙ worth))) heap
      (λ _ worth. absurd (true≢false (sym none ∙ worth))) in
      sym (ends-are (then_again s call a later first first.asks) (exact_step s (a ∷ later) heap call)
      (few s call a later (λ worth. absurd (true≢false (sym none ∙ worth)))) known (λ worth. absurd (true≢false (sym none ∙ worth))))
      ∙ asked-then true none

  between-again : (worth : (a.value == 0) ≡ false) (frees : FreesNoSlot call first.heap following.heap) → suc (length later) ≤ most_answers
      → Ends ((a.value == 0) ≡ false → suc (length later) < most_answers)
      (past_ask needed a following (exact_step s later following.heap call)) (exact_step s (a ∷ later) heap call)
  between-again worth frees many =
      subst (λ e. Ends ((a.value == 0) ≡ false → suc (length later) < most_answers) e (exact_step s (a ∷ later) heap call))
      (asked-then false worth)
      (step-again s call a later (λ _. omega (arith, many)) heap (λ _ _. frees))

  between-all : AnsweredBetween s heap call needed first.heap a later following
  between-all = record {
    last = between-last;
    again = λ worth frees many. (let ends = between-again worth frees many in (sym ends.outcome, sym ends.heap));
    asks = λ worth frees less. sym
        (ends-are (past_ask needed a following (exact_step s later following.heap call)) (exact_step s (a ∷ later) heap call)
        ((a.value == 0) ≡ false → suc (length later) < most_answers) (between-again worth frees (omega (arith, less))) (λ _. less));
  }

pub answers_between : AnswersBetween
answers_between s heap call needed a later asks = between-all s heap call needed a later asks
