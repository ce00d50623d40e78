-- What is lent keeps its address, and comes back with what its holder wrote.
use Rattle.std.proofs.Common.{◌≡◌, ℕ, Bool, true, false, eqb, cond, List, [], ◌∷◌, ◌++◌, Option, Some, None, Ok, Err, refl, ap, sym, subst, ◌∙◌}
use Rattle.std.specs.Prelude.{◌||◌, ◌==◌}
use Rattle.std.specs.List.{list_any}
use Rattle.std.proofs.lemmas.Bool.{eqb-true}
use Rattle.mac_base.specs.declared.error.OsErr.{OsErr}
use Rattle.mac_base.specs.HandleTable.{bytes_of, has_block, is_lent, live_at, live_bytes, refilled}
use Rattle.mac_base.specs.HeadKind.{Shape}
use Rattle.mac_base.specs.Heap.{Heap}
use Rattle.mac_base.specs.Sound.{Sound}
use Rattle.mac_base.specs.ZoneMap.{contents_of}
use Rattle.mac_base.specs.ZoneState.{written}
use Rattle.mac_base.specs.declared.loan_call.LoanCall.{LoanCall}
use Rattle.mac_base.specs.declared.loan_call.LoanCall.TheVariants as loan_call
use Rattle.mac_base.specs.declared.reply.Results.TheVariants.{Nothing}
use Rattle.mac_base.specs.ExactStep.{StepEnd}
use Rattle.mac_base.specs.GrowZone.{answers_in}
use Rattle.mac_base.specs.LoanStep.{LoanStepUnless, held_bytes, loan_refusal, with_held}
use Rattle.mac_base.specs.Outcomes.{Outcome}
use Rattle.mac_base.specs.Tests.{IsBlock, MayBeLent, NotEmpty, NotLent}
use Rattle.zone_laws.proofs.Lent.{KeepsLent, lent-block}
use Rattle.zone_laws.proofs.LentChanges.{keeps-released}
use Rattle.zone_laws.proofs.Tables.{eqb_same, eqb_swap, live_at-with_live_same}
use Rattle.zone_laws.proofs.Refusals.{passed-NotLent, test_3}
use Rattle.zone_laws.proofs.LentSteps.{lent-exact_step}
use Rattle.zone_laws.specs.Act.{Act, Calls, Does, Done, AreDone, Loads, Moment, OnLoan, Unloads, moment_after}
use Rattle.zone_laws.specs.Headline.{KeepsAddress, NotReturned, left_by_holder, written_by_holder}
use Rattle.zone_laws.specs.LastPut.{LastPut, put_by_act}
use Rattle.zone_laws.specs.LastSet.{LastSet, set_by_act}
use Rattle.zone_laws.proofs.Fewer.{block_live}
use Rattle.zone_laws.proofs.LoanLists.{held-before, held-last, held-with_other, held-with_same, held-without, is_loaned, loaned-last, loaned-with, loaned-without_other}
use Rattle.zone_laws.proofs.Loaned.{LoansHeld, loan-map}
use Rattle.zone_laws.proofs.Losing.{written-keeps}
use Rattle.zone_laws.proofs.Shown.{refilled-holds}
use Rattle.zone_laws.proofs.Standing.{Standing, run-first, run-later, stand-act}

module _ (s : Shape) (x : ℕ) where
  -- x stays lent in an act, and its holder has what it made of its bytes
  record StaysLent (old new : Moment) (act : Act) : Type 0 where
    pub lent : is_lent new.heap.table x ≡ true
    pub address : KeepsAddress s x old new
    pub bytes : held_bytes x new.loans ≡ written_by_holder x act (held_bytes x old.loans)

  module _ (old new : Moment) (held : LoansHeld old) (after : LoansHeld new) (lent : is_lent old.heap.table x ≡ true) where
    loaned : is_loaned x old.loans ≡ true
    loaned = sym (held.loaned x) ∙ lent

    -- an act on the heap that keeps what is lent
    kept : (act : Act) → KeepsLent s old.heap new.heap → new.loans ≡ old.loans → ((bytes : List ℕ) → written_by_holder x act bytes ≡ bytes) → StaysLent old new act
    kept act keeps same writes = record {
      lent = ap (list_any (λ y. y == x)) keeps.lent ∙ lent;
      address = keeps.contents x lent;
      bytes = ap (held_bytes x) same ∙ sym (writes (held_bytes x old.loans));
    }

    -- one on a loan, where x is still among the loans
    on-loan : (act : Act) → new.heap.map ≡ old.heap.map → is_loaned x new.loans ≡ true → held_bytes x new.loans ≡ written_by_holder x act (held_bytes x old.loans) → StaysLent old new act
    on-loan act map is bytes = record { lent = after.loaned x ∙ is; address = ap (contents_of s x) map; bytes = bytes }

    loan-stays : (call : LoanCall) (outcome : Outcome) (o : Option OsErr) → LoanStepUnless o old.loans old.heap call outcome new.loans new.heap → new.heap.map ≡ old.heap.map
        → ((let done : Act = OnLoan (loan_call.Return x) (Ok Nothing) in OnLoan call outcome ≡ done) → ⊥) → StaysLent old new (OnLoan call outcome)
    loan-stays call outcome (Some code) step map not_returned =
        subst (λ o. StaysLent old new (OnLoan call o)) (sym step.0) (on-loan (OnLoan call (Err code)) map (ap (is_loaned x) step.1 ∙ loaned) (ap (held_bytes x) step.1 ∙ sym (refused call code)))
      where
        refused : (call : LoanCall) (code : OsErr) → written_by_holder x (OnLoan call (Err code)) (held_bytes x old.loans) ≡ held_bytes x old.loans
        refused (loan_call.LentPoke y at bytes) code = refl
        refused call code = refl
    loan-stays (loan_call.Lend y) outcome None step map not_returned =
        on-loan (OnLoan (loan_call.Lend y) outcome) map
        (ap (is_loaned x) step.1 ∙ loaned-last y x (bytes_of old.heap.table y) old.loans ∙ ap (λ b. b || (y == x)) loaned)
        (ap (held_bytes x) step.1 ∙ held-before x old.loans ((y, bytes_of old.heap.table y) ∷ []) loaned)
    loan-stays (loan_call.LentPeek y at n) outcome None step map not_returned =
        on-loan (OnLoan (loan_call.LentPeek y at n) outcome) map (ap (is_loaned x) step.1 ∙ loaned) (ap (held_bytes x) step.1)
    loan-stays (loan_call.LentPoke y at bytes) outcome None step map not_returned =
        subst (λ o. StaysLent old new (OnLoan (loan_call.LentPoke y at bytes) o)) (sym step.0)
        (on-loan (OnLoan (loan_call.LentPoke y at bytes) (Ok Nothing)) map (ap (is_loaned x) step.1 ∙ loaned-with y x over old.loans ∙ loaned) (ap (held_bytes x) step.1 ∙ by_number (eqb y x) refl))
      where
        over : List ℕ
        over = written at bytes (held_bytes y old.loans)

        by_number : (b : Bool) → eqb y x ≡ b → held_bytes x (with_held y over old.loans) ≡ cond b (written at bytes (held_bytes x old.loans)) (held_bytes x old.loans)
        by_number true is = let same = eqb-true y x is in subst (λ z. held_bytes x (with_held z (written at bytes (held_bytes z old.loans)) old.loans) ≡ written at bytes (held_bytes x old.loans)) (sym same) (held-with_same x (written at bytes (held_bytes x old.loans)) old.loans loaned)
        by_number false apart = held-with_other y x over old.loans (eqb_swap x y ∙ apart)
    loan-stays (loan_call.Return y) outcome None step map not_returned = by_number (eqb x y) refl
      where
        by_number : (b : Bool) → eqb x y ≡ b → StaysLent old new (OnLoan (loan_call.Return y) outcome)
        by_number true is = absurd (not_returned (ap (λ o. OnLoan (loan_call.Return y) o) step.0 ∙ ap (λ z. OnLoan (loan_call.Return z) (Ok Nothing)) (sym (eqb-true x y is))))
        by_number false apart = on-loan (OnLoan (loan_call.Return y) outcome) map (ap (is_loaned x) step.1 ∙ loaned-without_other y x old.loans apart ∙ loaned) (ap (held_bytes x) step.1 ∙ held-without y x old.loans apart)

    -- any act that isn't its return
    act-stays : (act : Act) → Sound s old.heap → Does s act old new → ((let done : Act = OnLoan (loan_call.Return x) (Ok Nothing) in act ≡ done) → ⊥) → StaysLent old new act
    act-stays (Calls call asks outcome) sound does not_returned =
        kept (Calls call asks outcome) (subst (λ (e : StepEnd). KeepsLent s old.heap e.heap) does.0 (lent-exact_step s (answers_in asks) old.heap call sound held.fixed)) does.1 (λ bytes. refl)
    act-stays (OnLoan call outcome) sound does not_returned = loan-stays call outcome (loan_refusal s old.heap call) does (loan-map s old new call outcome (loan_refusal s old.heap call) does) not_returned
    act-stays (Loads h flags bytes) sound does not_returned = record {
      lent = ap (λ (heap : Heap). is_lent heap.table x) does.1 ∙ lent;
      address = ap (λ (heap : Heap). contents_of s x heap.map) does.1;
      bytes = ap (held_bytes x) does.2;
    }
    act-stays (Unloads call) sound does not_returned = kept (Unloads call) (subst (KeepsLent s old.heap) (sym does.2) (keeps-released s old.heap call does.1)) does.3 (λ bytes. refl)

  -- from a moment where x is lent to its return
  record Held (from to : Moment) (between : List Done) : Type 0 where
    pub lent : is_lent to.heap.table x ≡ true
    pub loans : LoansHeld to
    pub address : KeepsAddress s x from to
    pub bytes : held_bytes x to.loans ≡ left_by_holder x between (held_bytes x from.loans)

  -- its holder has what it made of its bytes, as long as it isn't returned
  held-run : (from : Moment) (between : List Done) (put : LastPut) (set : LastSet) → Standing s from put set → AreDone s from between → is_lent from.heap.table x ≡ true → NotReturned x between → Held from (moment_after from between) between
  held-run from [] put set stands is lent not_returned = record { lent = lent; loans = stands.held; address = refl; bytes = refl }
  held-run from (d ∷ later) put set stands is lent not_returned =
      let next = stand-act s d.act from d.left put set stands is.0 in
      let one = act-stays from d.left stands.held next.held lent d.act stands.sound is.0 not_returned.0 in
      let others = held-run d.left later (put_by_act d.act put) (set_by_act d.act set) next is.1 one.lent not_returned.1 in
      record {
        lent = others.lent;
        loans = others.loans;
        address = others.address ∙ one.address;
        bytes = others.bytes ∙ ap (left_by_holder x later) one.bytes;
      }

  -- the block is lent, with its bytes
  record LentNow (from to : Moment) : Type 0 where
    pub lent : is_lent to.heap.table x ≡ true
    pub address : KeepsAddress s x from to
    pub bytes : held_bytes x to.loans ≡ bytes_of from.heap.table x

  lend-unless : (from to : Moment) (o : Option OsErr) → LoansHeld from → LoansHeld to → to.heap.map ≡ from.heap.map → loan_refusal s from.heap (loan_call.Lend x) ≡ o → LoanStepUnless o from.loans from.heap (loan_call.Lend x) (Ok Nothing) to.loans to.heap → LentNow from to
  lend-unless from to (Some code) held after map is step = absurd (cc step.0)
  lend-unless from to None held after map is step =
      let here = passed-NotLent s from.heap x (test_3 s from.heap (IsBlock x) (NotEmpty x) (NotLent x) (MayBeLent x ∷ []) is) in
      record {
        lent = after.loaned x ∙ ap (is_loaned x) step.1 ∙ loaned-last x x (bytes_of from.heap.table x) from.loans ∙ ap (λ b. is_loaned x from.loans || b) (eqb_same x) ∙ or_true (is_loaned x from.loans);
        address = ap (contents_of s x) map;
        bytes = ap (held_bytes x) step.1 ∙ held-last x (bytes_of from.heap.table x) from.loans (sym (held.loaned x) ∙ here);
      }
    where
      or_true : (b : Bool) → (b || true) ≡ true
      or_true true = refl
      or_true false = refl

  -- a block that is returned has the bytes that its holder had
  return-unless : (from to : Moment) (o : Option OsErr) → has_block from.heap.table x ≡ true → LoanStepUnless o from.loans from.heap (loan_call.Return x) (Ok Nothing) to.loans to.heap → bytes_of to.heap.table x ≡ held_bytes x from.loans
  return-unless from to (Some code) block step = absurd (cc step.0)
  return-unless from to None block step =
      let has = live_at-with_live_same x (refilled (held_bytes x from.loans) (live_at from.heap.table x)) from.heap.table in
      ap (λ (heap : Heap). bytes_of heap.table x) step.2 ∙ ap live_bytes has
      ∙ refilled-holds (held_bytes x from.loans) (live_at from.heap.table x) (sym (ap block_live has) ∙ written-keeps x (held_bytes x from.loans) from.heap.table x block)

  -- from Lend on
  pub lent-since : (from : Moment) (lend : Done) (between : List Done) (put : LastPut) (set : LastSet) → Standing s from put set → AreDone s from (lend ∷ between)
      → (let lends : Act = OnLoan (loan_call.Lend x) (Ok Nothing) in lend.act ≡ lends) → NotReturned x between
      → let at = moment_after lend.left between in (is_lent at.heap.table x ≡ true) × LoansHeld at × KeepsAddress s x from at × (held_bytes x at.loans ≡ left_by_holder x between (bytes_of from.heap.table x))
  lent-since from lend between put set stands is lends not_returned =
      let next = stand-act s lend.act from lend.left put set stands is.0 in
      let lending = subst (λ act. Does s act from lend.left) lends is.0 in
      let map = loan-map s from lend.left (loan_call.Lend x) (Ok Nothing) (loan_refusal s from.heap (loan_call.Lend x)) lending in
      let first = lend-unless from lend.left (loan_refusal s from.heap (loan_call.Lend x)) stands.held next.held map refl lending in
      let held = held-run lend.left between (put_by_act lend.act put) (set_by_act lend.act set) next is.1 first.lent not_returned in
      (held.lent, held.loans, held.address ∙ first.address, held.bytes ∙ ap (left_by_holder x between) first.bytes)

  -- to Return
  pub comes-back : (from : Moment) (lend back : Done) (between : List Done) (put : LastPut) (set : LastSet) → Standing s from put set → AreDone s from (lend ∷ between ++ back ∷ [])
      → (let lends : Act = OnLoan (loan_call.Lend x) (Ok Nothing) in lend.act ≡ lends) → NotReturned x between → (let returns : Act = OnLoan (loan_call.Return x) (Ok Nothing) in back.act ≡ returns)
      → KeepsAddress s x from back.left × (bytes_of back.left.heap.table x ≡ left_by_holder x between (bytes_of from.heap.table x))
  comes-back from lend back between put set stands is lends not_returned returns =
      let held = lent-since from lend between put set stands (is.0, run-first s lend.left between (back ∷ []) is.1) lends not_returned in
      let at = moment_after lend.left between in
      let loans = held.1 in
      let last = run-later s lend.left between (back ∷ []) is.1 in
      let returning = subst (λ act. Does s act at back.left) returns last.0 in (
        ap (contents_of s x) (loan-map s at back.left (loan_call.Return x) (Ok Nothing) (loan_refusal s at.heap (loan_call.Return x)) returning) ∙ held.2,
        return-unless at back.left (loan_refusal s at.heap (loan_call.Return x)) (lent-block at.heap x loans.fixed held.0) returning ∙ held.3,
      )
