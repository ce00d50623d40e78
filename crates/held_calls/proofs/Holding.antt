-- What is lent is what is held, from call to call.
use Rattle.std.specs.Prelude.{nat_le, nat_lt, ok_or, is_some, IfOk, IfSome}
use Rattle.std.specs.Result.{result_err}
use Rattle.std.specs.List.{AllByRecursion, IsDistinct, list_any}
use Rattle.std.specs.Set.{is_member}
use Rattle.std.proofs.Common.{◌≡◌, ℕ, suc, ◌+◌, ◌<◌, ◌≤◌, ◌&&◌, ◌||◌, ◌==◌, not, Bool, true, false, cond, eqb, List, [], ◌∷◌, ◌++◌, length, Option, Some, None, refl, sym, ap, subst, ◌∙◌, arith, Ok}
use Rattle.std.proofs.lemmas.Bool.{and_parts, or_parts, or_from, le-leb, lt-leb, eqb-true}
use Rattle.std.proofs.lemmas.Bool.Decides.{nat_tests}
use Rattle.std.proofs.lemmas.Map.Views.{any-filter_same}
use Rattle.std.proofs.lemmas.Cmp.{nat_eq_equiv}
use Rattle.std.proofs.lemmas.Map.Made.{length-le_from_is_member}
use Rattle.zone_laws.proofs.Tables.{eqb_same, eqb_swap}
use Rattle.zone_laws.proofs.Refusals.{first_passed, passed-NotLent, passed as passed_test}
use Rattle.zone_laws.proofs.SoundCalls.{length-written}
use Rattle.held_calls.proofs.Places.{held_bytes-after}
use Rattle.mac_base.specs.declared.error.OsErr.TheVariants.{ParamErr}
use Rattle.mac_base.specs.HandleTable.{is_lent, is_locked, is_pointer, bytes_of}
use Rattle.mac_base.specs.HeadKind.{Shape}
use Rattle.mac_base.specs.Heap.{Heap}
use Rattle.mac_base.specs.Loans.{lent_out, may_be_lent, most_loans, owners, returned}
use Rattle.mac_base.specs.ZoneState.{ZoneState, with_heap, written}
use Rattle.linked_zone.specs.Loans.{IsLoanOf, KeepsLoans, KeepsOtherLoans}
use Rattle.mac_base.specs.declared.loan_call.LoanCall.TheVariants.{Lend, LentPeek, LentPoke, Return}
use Rattle.mac_base.specs.declared.reply.Results.TheVariants.{Nothing}
use Rattle.mac_base.specs.LoanStep.{Loans, held_bytes, loan_refusal, with_held, without_loan}
use Rattle.mac_base.specs.Tests.{IsBlock, NotEmpty, NotLent, MayBeLent, first_refusal}
use Rattle.raw_region.specs.State.{Loan}
use Rattle.held_calls.specs.Holding.{Holds, EachIsLoan, EachOnce, is_held, loans_of, LoanSteps, TakenOut, held_written, loan_written, IsOnLoan, IsWindow}
use Rattle.held_calls.specs.declared.window.Window.{Window}
use Rattle.held_calls.specs.declared.loans.Held.{Held}

-- a loan of x among two lists of loans
pub is_held-append : (x : ℕ) (a b : List Held) → is_held x (a ++ b) ≡ (is_held x a || is_held x b)
is_held-append x [] b = refl
is_held-append x (h ∷ hs) b = elim (h.block == x) as (λ v. (v || is_held x (hs ++ b)) ≡ ((v || is_held x hs) || is_held x b)) [ true ↦ refl | false ↦ is_held-append x hs b ]

-- each loan is still that of its block
pub EachIsLoan-kept : (old new : ZoneState) (held : List Held) → KeepsLoans old new → EachIsLoan old held → EachIsLoan new held
EachIsLoan-kept old new [] keeps each = tt
EachIsLoan-kept old new (h ∷ hs) keeps each = (keeps.1 h.block h.loan each.0, EachIsLoan-kept old new hs keeps each.1)

EachIsLoan-append : (zone : ZoneState) (a b : List Held) → EachIsLoan zone a → EachIsLoan zone b → EachIsLoan zone (a ++ b)
EachIsLoan-append zone [] b first second = second
EachIsLoan-append zone (h ∷ hs) b first second = (first.0, EachIsLoan-append zone hs b first.1 second)

EachIsLoan-front : (zone : ZoneState) (a b : List Held) → EachIsLoan zone (a ++ b) → EachIsLoan zone a
EachIsLoan-front zone [] b each = tt
EachIsLoan-front zone (h ∷ hs) b each = (each.0, EachIsLoan-front zone hs b each.1)

EachIsLoan-after : (zone : ZoneState) (a b : List Held) → EachIsLoan zone (a ++ b) → EachIsLoan zone b
EachIsLoan-after zone [] b each = each
EachIsLoan-after zone (h ∷ hs) b each = EachIsLoan-after zone hs b each.1

-- all but the loan of x are still those of their blocks
EachIsLoan-others : (x : ℕ) (old new : ZoneState) (held : List Held) → KeepsOtherLoans x old new → is_held x held ≡ false → EachIsLoan old held → EachIsLoan new held
EachIsLoan-others x old new [] keeps none each = tt
EachIsLoan-others x old new (h ∷ hs) keeps none each =
    let parts = or_parts (h.block == x) (is_held x hs) none in
    let other : h.block ≡ x → ⊥ = λ same. let both : true ≡ false = sym (eqb_same x) ∙ ap (λ (y : ℕ). y == x) (sym same) ∙ parts.0 in cc in
    (keeps h.block h.loan other each.0, EachIsLoan-others x old new hs keeps parts.1 each.1)

-- what is held is lent
held_is_lent : (zone : ZoneState) (x : ℕ) (held : List Held) → EachIsLoan zone held → is_held x held ≡ true → is_lent zone.heap.table x ≡ true
held_is_lent zone x [] each is = absurd (cc is)
held_is_lent zone x (h ∷ hs) each is =
    let P : Bool → Type 0 = λ b. (h.block == x) ≡ b → (b || is_held x hs) ≡ true → is_lent zone.heap.table x ≡ true in
    elim (h.block == x) as (λ b. P b) [
      | true ↦ λ here yes. ap (λ (y : ℕ). is_lent zone.heap.table y) (sym (eqb-true h.block x here)) ∙ each.0.lent
      | false ↦ λ other yes. held_is_lent zone x hs each.1 yes
    ] refl is

-- one more loan, of a block that had none
EachOnce-push : (held : List Held) (h : Held) → is_held h.block held ≡ false → EachOnce held → EachOnce (held ++ h ∷ [])
EachOnce-push [] h none once = (refl, tt)
EachOnce-push (g ∷ gs) h none once =
    let parts = or_parts (g.block == h.block) (is_held h.block gs) none in
    let other : (h.block == g.block) ≡ false = grind (arith, nat_tests) in
    (is_held-append g.block gs (h ∷ []) ∙ or_from (is_held g.block gs) (is_held g.block (h ∷ [])) once.0 (or_from (h.block == g.block) false other refl), EachOnce-push gs h parts.1 once.1)

EachOnce-without : (before : List Held) (h : Held) (after : List Held) → EachOnce (before ++ h ∷ after) → EachOnce (before ++ after)
EachOnce-without [] h after once = once.1
EachOnce-without (g ∷ gs) h after once =
    let parts = or_parts (is_held g.block gs) (is_held g.block (h ∷ after)) (sym (is_held-append g.block gs (h ∷ after)) ∙ once.0) in
    let rest = or_parts (h.block == g.block) (is_held g.block after) parts.1 in
    (is_held-append g.block gs after ∙ or_from (is_held g.block gs) (is_held g.block after) parts.0 rest.1, EachOnce-without gs h after once.1)

EachOnce-after : (before : List Held) (h : Held) (after : List Held) → EachOnce (before ++ h ∷ after) → is_held h.block after ≡ false
EachOnce-after [] h after once = once.0
EachOnce-after (g ∷ gs) h after once = EachOnce-after gs h after once.1

-- a call that lends nothing and takes nothing back
pub Holds-kept : (old new : ZoneState) (held : List Held) → KeepsLoans old new → new.heap.table.lent ≡ old.heap.table.lent → Holds old held → Holds new held
Holds-kept old new held keeps lent holds = record {
  each = EachIsLoan-kept old new held keeps holds.each;
  once = holds.once;
  all = λ x. ap (λ (xs : List ℕ). list_any (λ y. y == x) xs) lent ∙ holds.all x;
}

-- whether x is lent once y is
lent_more : (zone : ZoneState) (x y : ℕ) → is_lent (lent_out x zone.heap).table y ≡ (((y == x) || is_lent zone.heap.table y) && list_any (λ z. z == y) (owners zone.heap.map))
lent_more zone x y =
    let p : ℕ → Bool = λ z. z == x || is_lent zone.heap.table z in
    any-filter_same (λ z. z == y) p (p y) (λ k same. ap p (eqb-true k y same)) (owners zone.heap.map)

-- a block is lent, and its loan is held after the others
pub Holds-lent : (old new : ZoneState) (held : List Held) (x : ℕ) (loan : Loan) → new ≡ with_heap (lent_out x old.heap) old → IsLoanOf new x loan → KeepsLoans old new → is_lent old.heap.table x ≡ false → Holds old held
    → Holds new (held ++ record { block = x; loan = loan } ∷ [])
Holds-lent old new held x loan is here keeps none holds =
    let h : Held = record { block = x; loan = loan } in
    let each : EachIsLoan new (held ++ h ∷ []) = EachIsLoan-append new held (h ∷ []) (EachIsLoan-kept old new held keeps holds.each) (here, tt) in
    let by_case : (y : ℕ) (b : Bool) → is_held y (held ++ h ∷ []) ≡ b → is_lent new.heap.table y ≡ b =
    λ y b. elim b as (λ v. is_held y (held ++ h ∷ []) ≡ v → is_lent new.heap.table y ≡ v) [
      | true ↦ λ yes. held_is_lent new y (held ++ h ∷ []) each yes
      | false ↦ λ none.
          let parts = or_parts (is_held y held) (is_held y (h ∷ [])) (sym (is_held-append y held (h ∷ [])) ∙ none) in
          let other = or_parts (x == y) false parts.1 in
          let apart : (y == x) ≡ false = let facts = other.0 in grind (arith, nat_tests) in
          ap (λ (z : ZoneState). is_lent z.heap.table y) is
          ∙ lent_more old x y
          ∙ ap (λ b. b && list_any (λ z. z == y) (owners old.heap.map)) (or_from (y == x) (is_lent old.heap.table y) apart (holds.all y ∙ parts.0))
    ]
    in
    record {
      each = each;
      once = EachOnce-push held h (sym (holds.all x) ∙ none) holds.once;
      all = λ y. by_case y (is_held y (held ++ h ∷ [])) refl;
    }

-- a write leaves the blocks whose loans are held
is_held-written : (y x at : ℕ) (bytes : List ℕ) (held : List Held) → is_held y (held_written x at bytes held) ≡ is_held y held
is_held-written y x at bytes [] = refl
is_held-written y x at bytes (h ∷ hs) =
    elim (h.block == x) as (λ b. is_held y (cond b (record { block = h.block; loan = loan_written at bytes h.loan } ∷ hs) (h ∷ held_written x at bytes hs)) ≡ is_held y (h ∷ hs)) [
      | true ↦ refl
      | false ↦ ap (λ b. (h.block == y) || b) (is_held-written y x at bytes hs)
    ]

EachOnce-written : (x at : ℕ) (bytes : List ℕ) (held : List Held) → EachOnce held → EachOnce (held_written x at bytes held)
EachOnce-written x at bytes [] once = tt
EachOnce-written x at bytes (h ∷ hs) once =
    elim (h.block == x) as (λ b. EachOnce (cond b (record { block = h.block; loan = loan_written at bytes h.loan } ∷ hs) (h ∷ held_written x at bytes hs))) [
      | true ↦ once
      | false ↦ (is_held-written h.block x at bytes hs ∙ once.0, EachOnce-written x at bytes hs once.1)
    ]

EachIsLoan-written : (zone : ZoneState) (x at : ℕ) (bytes : List ℕ) (held : List Held) → at + length bytes ≤ length (held_bytes x (loans_of held)) → EachIsLoan zone held → EachIsLoan zone (held_written x at bytes held)
EachIsLoan-written zone x at bytes [] within each = tt
EachIsLoan-written zone x at bytes (h ∷ hs) within each =
    let P : Bool → Type 0 = λ b. at + length bytes ≤ length (cond b h.loan.bytes (held_bytes x (loans_of hs))) → EachIsLoan zone (cond b (record { block = h.block; loan = loan_written at bytes h.loan } ∷ hs) (h ∷ held_written x at bytes hs)) in
    elim (h.block == x) as (λ b. P b) [
      | true ↦ λ room. (record { lent = each.0.lent; memory = each.0.memory; contents = each.0.contents; long = length-written at bytes h.loan.bytes room ∙ each.0.long }, each.1)
      | false ↦ λ room. (each.0, EachIsLoan-written zone x at bytes hs room each.1)
    ] within

-- bytes are written into a loan
pub Holds-written : (zone : ZoneState) (held : List Held) (x at : ℕ) (bytes : List ℕ) → at + length bytes ≤ length (held_bytes x (loans_of held)) → Holds zone held → Holds zone (held_written x at bytes held)
Holds-written zone held x at bytes within holds = record {
  each = EachIsLoan-written zone x at bytes held within holds.each;
  once = EachOnce-written x at bytes held holds.once;
  all = λ y. holds.all y ∙ sym (is_held-written y x at bytes held);
}

-- where x has no loan, its holder's bytes are no others
with_held-none : (x : ℕ) (bytes : List ℕ) (held : List Held) → is_held x held ≡ false → with_held x bytes (loans_of held) ≡ loans_of held
with_held-none x bytes [] none = refl
with_held-none x bytes (h ∷ hs) none =
    let parts = or_parts (h.block == x) (is_held x hs) none in
    ap (λ b. cond b (x, bytes) (h.block, h.loan.bytes) ∷ with_held x bytes (loans_of hs)) parts.0 ∙ ap (λ (t : Loans). (h.block, h.loan.bytes) ∷ t) (with_held-none x bytes hs parts.1)

-- the loans once bytes are written into one of them
pub loans_of-written : (x at : ℕ) (bytes : List ℕ) (held : List Held) → EachOnce held → loans_of (held_written x at bytes held) ≡ with_held x (written at bytes (held_bytes x (loans_of held))) (loans_of held)
loans_of-written x at bytes [] once = refl
loans_of-written x at bytes (h ∷ hs) once =
    let P : Bool → Type 0 = λ b. (h.block == x) ≡ b
    → loans_of (cond b (record { block = h.block; loan = loan_written at bytes h.loan } ∷ hs) (h ∷ held_written x at bytes hs))
    ≡ cond b (x, written at bytes (cond b h.loan.bytes (held_bytes x (loans_of hs)))) (h.block, h.loan.bytes) ∷ with_held x (written at bytes (cond b h.loan.bytes (held_bytes x (loans_of hs)))) (loans_of hs) in
    elim (h.block == x) as (λ b. P b) [
      | true ↦ λ here.
          let same : h.block ≡ x = eqb-true h.block x here in
          ap (λ (y : ℕ). (y, written at bytes h.loan.bytes) ∷ loans_of hs) same
          ∙ ap (λ (t : Loans). (x, written at bytes h.loan.bytes) ∷ t) (sym (with_held-none x (written at bytes h.loan.bytes) hs (ap (λ (y : ℕ). is_held y hs) (sym same) ∙ once.0)))
      | false ↦ λ other. ap (λ (t : Loans). (h.block, h.loan.bytes) ∷ t) (loans_of-written x at bytes hs once.1)
    ] refl

-- the loan that is taken out is that of its block
pub taken_is_loan : (zone : ZoneState) (x : ℕ) (old : List Held) (loan : Loan) (new : List Held) → TakenOut x old loan new → EachIsLoan zone old → IsLoanOf zone x loan
taken_is_loan zone x old loan new taken each =
    let P : List Held → Type 0 = λ hs. EachIsLoan zone hs in
    (EachIsLoan-after zone taken.before (record { block = x; loan = loan } ∷ taken.after) (subst P taken.was each)).0

-- the others have their own blocks
after_none : (x : ℕ) (old : List Held) (loan : Loan) (new : List Held) (taken : TakenOut x old loan new) → EachOnce old → is_held x taken.after ≡ false
after_none x old loan new taken once =
    let P : List Held → Type 0 = λ hs. EachOnce hs in
    EachOnce-after taken.before (record { block = x; loan = loan }) taken.after (subst P taken.was once)

-- whether y is held among others than x
held_but : (x y : ℕ) (before : List Held) (loan : Loan) (after : List Held) → is_held x before ≡ false → is_held x after ≡ false → (not (y == x) && is_held y (before ++ record { block = x; loan = loan } ∷ after)) ≡ is_held y (before ++ after)
held_but x y before loan after one other =
    let P : Bool → Type 0 = λ b. (y == x) ≡ b → (not b && is_held y (before ++ record { block = x; loan = loan } ∷ after)) ≡ is_held y (before ++ after) in
    elim (y == x) as (λ b. P b) [
      | true ↦ λ same. sym (ap (λ (z : ℕ). is_held z (before ++ after)) (eqb-true y x same) ∙ is_held-append x before after ∙ or_from (is_held x before) (is_held x after) one other)
      | false ↦ λ differ.
          let apart : (x == y) ≡ false = grind (arith, nat_tests) in
          is_held-append y before (record { block = x; loan = loan } ∷ after)
          ∙ ap (λ b. is_held y before || (b || is_held y after)) apart
          ∙ sym (is_held-append y before after)
    ] refl

-- what is lent once x came back
lent_less : (zone : ZoneState) (x y : ℕ) (bytes : List ℕ) → is_lent (returned x bytes zone.heap).table y ≡ (not (y == x) && is_lent zone.heap.table y)
lent_less zone x y bytes = any-filter_same (λ z. z == y) (λ z. not (z == x)) (not (y == x)) (λ k same. ap (λ (z : ℕ). not (z == x)) (eqb-true k y same)) zone.heap.table.lent

-- a loan is given back, and the others are held
pub Holds-returned : (old new : ZoneState) (x : ℕ) (held : List Held) (loan : Loan) (rest : List Held) → TakenOut x held loan rest → new ≡ with_heap (returned x loan.bytes old.heap) old → KeepsOtherLoans x old new → Holds old held → Holds new rest
Holds-returned old new x held loan rest taken is keeps holds =
    let P : List Held → Type 0 = λ hs. EachIsLoan old hs in
    let Q : List Held → Type 0 = λ hs. EachOnce hs in
    let R : List Held → Type 0 = λ hs. Holds new hs in
    let each : EachIsLoan old (taken.before ++ record { block = x; loan = loan } ∷ taken.after) = subst P taken.was holds.each in
    let none = after_none x held loan rest taken holds.once in
    let now : Holds new (taken.before ++ taken.after) = record {
      each = EachIsLoan-append new taken.before taken.after
          (EachIsLoan-others x old new taken.before keeps taken.first (EachIsLoan-front old taken.before (record { block = x; loan = loan } ∷ taken.after) each))
          (EachIsLoan-others x old new taken.after keeps none (EachIsLoan-after old taken.before (record { block = x; loan = loan } ∷ taken.after) each).1);
      once = EachOnce-without taken.before (record { block = x; loan = loan }) taken.after (subst Q taken.was holds.once);
      all = λ y. ap (λ (z : ZoneState). is_lent z.heap.table y) is
          ∙ lent_less old x y loan.bytes
          ∙ ap (λ b. not (y == x) && b) (holds.all y ∙ ap (λ (hs : List Held). is_held y hs) taken.was)
          ∙ held_but x y taken.before loan taken.after taken.first none;
    } in
    subst R (sym taken.is) now

without_none : (x : ℕ) (held : List Held) → is_held x held ≡ false → without_loan x (loans_of held) ≡ loans_of held
without_none x [] none = refl
without_none x (h ∷ hs) none =
    let parts = or_parts (h.block == x) (is_held x hs) none in
    ap (λ b. cond (not b) ((h.block, h.loan.bytes) ∷ without_loan x (loans_of hs)) (without_loan x (loans_of hs))) parts.0 ∙ ap (λ (t : Loans). (h.block, h.loan.bytes) ∷ t) (without_none x hs parts.1)

without_taken : (x : ℕ) (before : List Held) (loan : Loan) (after : List Held) → is_held x before ≡ false → is_held x after ≡ false → loans_of (before ++ after) ≡ without_loan x (loans_of (before ++ record { block = x; loan = loan } ∷ after))
without_taken x [] loan after one other = sym (ap (λ b. cond (not b) ((x, loan.bytes) ∷ without_loan x (loans_of after)) (without_loan x (loans_of after))) (eqb_same x) ∙ without_none x after other)
without_taken x (h ∷ hs) loan after one other =
    let parts = or_parts (h.block == x) (is_held x hs) one in
    let rest = loans_of (hs ++ record { block = x; loan = loan } ∷ after) in
    ap (λ (t : Loans). (h.block, h.loan.bytes) ∷ t) (without_taken x hs loan after parts.1 other)
    ∙ ap (λ b. cond (not b) ((h.block, h.loan.bytes) ∷ without_loan x rest) (without_loan x rest)) (sym parts.0)

-- the loans without the one that is taken out
pub loans_of-taken : (x : ℕ) (old : List Held) (loan : Loan) (new : List Held) → TakenOut x old loan new → EachOnce old → loans_of new ≡ without_loan x (loans_of old)
loans_of-taken x old loan new taken once =
    ap loans_of taken.is ∙ without_taken x taken.before loan taken.after taken.first (after_none x old loan new taken once) ∙ ap (λ (hs : List Held). without_loan x (loans_of hs)) (sym taken.was)

-- its bytes
pub bytes_of-taken : (x : ℕ) (old : List Held) (loan : Loan) (new : List Held) → TakenOut x old loan new → held_bytes x (loans_of old) ≡ loan.bytes
bytes_of-taken x old loan new taken = ap (λ (hs : List Held). held_bytes x (loans_of hs)) taken.was ∙ held_bytes-after x taken.before (record { block = x; loan = loan }) taken.after taken.first refl

-- the bytes of a loan are as many as those of its block
pub long_held : (zone : ZoneState) (x : ℕ) (held : List Held) → EachIsLoan zone held → is_held x held ≡ true → length (held_bytes x (loans_of held)) ≡ length (bytes_of zone.heap.table x)
long_held zone x [] each is = absurd (cc is)
long_held zone x (h ∷ hs) each is =
    let P : Bool → Type 0 = λ b. (h.block == x) ≡ b → (b || is_held x hs) ≡ true → length (cond b h.loan.bytes (held_bytes x (loans_of hs))) ≡ length (bytes_of zone.heap.table x) in
    elim (h.block == x) as (λ b. P b) [
      | true ↦ λ here yes. each.0.long ∙ ap (λ (y : ℕ). length (bytes_of zone.heap.table y)) (eqb-true h.block x here)
      | false ↦ λ other yes. long_held zone x hs each.1 yes
    ] refl is

-- where no loan is held, nothing is lent
pub nothing_lent : (zone : ZoneState) → Holds zone [] → zone.heap.table.lent ≡ []
nothing_lent zone holds = by_case zone.heap.table.lent holds.all
  where
    by_case : (xs : List ℕ) → ((x : ℕ) → list_any (λ y. y == x) xs ≡ false) → xs ≡ []
    by_case [] none = refl
    by_case (x ∷ xs) none = let both : true ≡ false = ap (λ b. b || list_any (λ y. y == x) xs) (sym (eqb_same x)) ∙ none x in absurd (cc both)

abbrev blocks_of : List Held → List ℕ
blocks_of [] = []
blocks_of (h ∷ hs) = h.block ∷ blocks_of hs

member_held : (q : ℕ) (held : List Held) → is_member eqb (blocks_of held) q ≡ is_held q held
member_held q [] = refl
member_held q (h ∷ hs) = ap (λ b. b || is_member eqb (blocks_of hs) q) (eqb_swap q h.block) ∙ ap (λ b. (h.block == q) || b) (member_held q hs)

member_lent : (q : ℕ) (xs : List ℕ) → is_member eqb xs q ≡ list_any (λ y. y == q) xs
member_lent q [] = refl
member_lent q (x ∷ xs) = ap (λ b. b || is_member eqb xs q) (eqb_swap q x) ∙ ap (λ b. (x == q) || b) (member_lent q xs)

length-blocks_of : (held : List Held) → length (blocks_of held) ≡ length held
length-blocks_of [] = refl
length-blocks_of (h ∷ hs) = ap suc (length-blocks_of hs)

others_apart : (x : ℕ) (held : List Held) → is_held x held ≡ false → AllByRecursion (λ y. eqb x y ≡ false) (blocks_of held)
others_apart x [] none = tt
others_apart x (h ∷ hs) none = let parts = or_parts (h.block == x) (is_held x hs) none in (eqb_swap x h.block ∙ parts.0, others_apart x hs parts.1)

distinct_blocks : (held : List Held) → EachOnce held → IsDistinct eqb (blocks_of held)
unfolding IsDistinct
distinct_blocks [] once = tt
distinct_blocks (h ∷ hs) once = (others_apart h.block hs once.0, distinct_blocks hs once.1)

-- what is held is no more than what is lent
held_few : (zone : ZoneState) (held : List Held) → Holds zone held → length held ≤ length zone.heap.table.lent
held_few zone held holds =
    let le : length (blocks_of held) ≤ length zone.heap.table.lent = length-le_from_is_member nat_eq_equiv (blocks_of held) zone.heap.table.lent (distinct_blocks held holds.once) (λ q is. member_lent q zone.heap.table.lent ∙ holds.all q ∙ sym (member_held q held) ∙ is) in
    let same : length (blocks_of held) ≡ length held = length-blocks_of held in
    omega arith

-- what is known where Lend isn't refused
pub record LendsMore (heap : Heap) (x : ℕ) : Type 0 where
  pub not_lent : is_lent heap.table x ≡ false
  pub few : length heap.table.lent < 8

pub passed-Lend : (s : Shape) (heap : Heap) (x : ℕ) → loan_refusal s heap (Lend x) ≡ None → LendsMore heap x
passed-Lend s heap x is =
    let first = first_passed s heap (IsBlock x) (NotEmpty x ∷ NotLent x ∷ MayBeLent x ∷ []) is in
    let second = first_passed s heap (NotEmpty x) (NotLent x ∷ MayBeLent x ∷ []) first.1 in
    let third = first_passed s heap (NotLent x) (MayBeLent x ∷ []) second.1 in
    let fourth = first_passed s heap (MayBeLent x) [] third.1 in
    let both = and_parts (is_pointer heap.table x || is_locked heap.table x) (nat_lt (length heap.table.lent) most_loans) (passed_test ParamErr (may_be_lent heap.table x) fourth.0) in
    let count = length heap.table.lent in
    let test : nat_lt count 8 ≡ true = both.1 in
    record { not_lent = passed-NotLent s heap x third.0; few = grind (arith, nat_tests) }

-- there is room for one more loan
pub room_to_lend : (zone : ZoneState) (held : List Held) (x : ℕ) → Holds zone held → loan_refusal zone.shape zone.heap (Lend x) ≡ None → length held < 8
room_to_lend zone held x holds passed = let few = (passed-Lend zone.shape zone.heap x passed).few in let no_more = held_few zone held holds in omega arith

-- a call on a lent block that is live, by whether it reaches too far
pub reaches_lent : (zone : ZoneState) (held : List Held) (x at n : ℕ) → Holds zone held → first_refusal zone.shape zone.heap (IsBlock x ∷ []) ≡ None → is_held x held ≡ true → at + n ≤ length (held_bytes x (loans_of held))
    → loan_refusal zone.shape zone.heap (LentPeek x at n) ≡ None
reaches_lent zone held x at n holds live is within =
    let long = long_held zone x held holds.each is in
    let test : nat_le (at + n) (length (bytes_of zone.heap.table x)) ≡ true = le-leb (at + n) (length (bytes_of zone.heap.table x)) (omega arith) in
    rw ((first_passed zone.shape zone.heap (IsBlock x) [] live).0, holds.all x, is, test) refl

pub exceeds_lent : (zone : ZoneState) (held : List Held) (x at n : ℕ) → Holds zone held → first_refusal zone.shape zone.heap (IsBlock x ∷ []) ≡ None → is_held x held ≡ true → length (held_bytes x (loans_of held)) < at + n
    → loan_refusal zone.shape zone.heap (LentPeek x at n) ≡ Some ParamErr
exceeds_lent zone held x at n holds live is beyond =
    let long = long_held zone x held holds.each is in
    let test : nat_le (at + n) (length (bytes_of zone.heap.table x)) ≡ false = lt-leb (at + n) (length (bytes_of zone.heap.table x)) (omega arith) in
    rw ((first_passed zone.shape zone.heap (IsBlock x) [] live).0, holds.all x, is, test) refl

-- a LentPoke that isn't refused
pub lent_poke_step : (zone : ZoneState) (held : List Held) (x at : ℕ) (bytes : List ℕ) (new : List Held) → Holds zone held → loan_refusal zone.shape zone.heap (LentPoke x at bytes) ≡ None → new ≡ held_written x at bytes held → LoanSteps zone held (LentPoke x at bytes) (Ok Nothing) zone new
lent_poke_step zone held x at bytes new holds passed is = (rw passed (refl, ap loans_of is ∙ loans_of-written x at bytes held holds.once, refl), refl)

-- a Return that isn't refused
pub return_step : (old new : ZoneState) (x : ℕ) (held : List Held) (loan : Loan) (rest : List Held) → TakenOut x held loan rest → new ≡ with_heap (returned x loan.bytes old.heap) old → first_refusal old.shape old.heap (IsBlock x ∷ []) ≡ None → Holds old held
    → LoanSteps old held (Return x) (Ok Nothing) new rest
return_step old new x held loan rest taken is live holds =
    let lent : is_lent old.heap.table x ≡ true = (taken_is_loan old x held loan rest taken holds.each).lent in
    let heap : new.heap ≡ returned x (held_bytes x (loans_of held)) old.heap = ap (λ (z : ZoneState). z.heap) is ∙ ap (λ (bs : List ℕ). returned x bs old.heap) (sym (bytes_of-taken x held loan rest taken)) in
    (rw ((first_passed old.shape old.heap (IsBlock x) [] live).0, lent) (refl, loans_of-taken x held loan rest taken holds.once, heap), ap (λ (z : ZoneState). z.shape) is)

-- a lent block may be returned
pub held_returns : (zone : ZoneState) (held : List Held) (x : ℕ) → Holds zone held → first_refusal zone.shape zone.heap (IsBlock x ∷ []) ≡ None → is_held x held ≡ true → loan_refusal zone.shape zone.heap (Return x) ≡ None
held_returns zone held x holds live is = rw ((first_passed zone.shape zone.heap (IsBlock x) [] live).0, holds.all x, is) refl

-- the window on a loan that is held
pub window_of : (zone : ZoneState) (x : ℕ) (held : List Held) (window : Window) → IsOnLoan x held window → Holds zone held → IsWindow zone (loans_of held) x window
window_of zone x held window on holds = record {
  loan = on.0;
  is = taken_is_loan zone x held on.0 on.1 on.2 holds.each;
  bytes = sym (bytes_of-taken x held on.0 on.1 on.2);
  on = on.3;
}

-- how a call for the window on a loan ends
pub window_ends : (zone : ZoneState) (held : List Held) (x : ℕ) (found : Option Window) → Holds zone held → first_refusal zone.shape zone.heap (IsBlock x ∷ []) ≡ None → is_some found ≡ is_held x held → IfSome found (λ window. IsOnLoan x held window)
    → (result_err (ok_or found ParamErr) ≡ loan_refusal zone.shape zone.heap (Return x)) × IfOk (ok_or found ParamErr) (λ window. IsWindow zone (loans_of held) x window)
window_ends zone held x None holds live is on = (sym (rw ((first_passed zone.shape zone.heap (IsBlock x) [] live).0, holds.all x, sym is) refl), tt)
window_ends zone held x (Some window) holds live is on = (sym (held_returns zone held x holds live (sym is)), window_of zone x held window on holds)
