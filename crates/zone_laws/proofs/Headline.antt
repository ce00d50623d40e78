-- What is promised of every run from a new zone on.
use Rattle.std.proofs.Common.{◌≡◌, ℕ, Bool, true, false, eqb, List, [], ◌∷◌, ◌++◌, Option, Some, None, refl, ap, sym, subst, ◌∙◌, inl, inr}
use Rattle.std.proofs.lemmas.Bool.{true≢false, eqb-true}
use Rattle.mac_base.specs.declared.error.OsErr.{OsErr}
use Rattle.mac_base.specs.HandleTable.{EmptyHandle, FullHandle, bytes_of, has_block, is_handle, is_lent, is_locked, live_handle}
use Rattle.mac_base.specs.HeadKind.{Shape}
use Rattle.mac_base.specs.Heap.{Heap}
use Rattle.mac_base.specs.Releasing.{heap_released, operand_of}
use Rattle.mac_base.specs.Sound.{Sound}
use Rattle.mac_base.specs.ZoneMap.{contents_of}
use Rattle.mac_base.specs.ZoneSizes.{shape_of}
use Rattle.mac_base.specs.declared.loan_call.LoanCall.{LoanCall}
use Rattle.mac_base.specs.declared.loan_call.LoanCall.TheVariants as loan_call
use Rattle.mac_base.specs.LoanStep.{LoanStepUnless, held_bytes, loan_refusal}
use Rattle.mac_base.specs.Outcomes.{Outcome}
use Rattle.mac_base.specs.declared.releasing.ReleasingCall.{ReleasingCall}
use Rattle.mac_base.specs.declared.releasing.ReleasingCall.TheVariants.{DisposesHandle, DisposesPtr, Empties}
use Rattle.mac_base.specs.Released.{disposed_by}
use Rattle.zone_laws.proofs.Tables.{handle_no_pointer}
use Rattle.zone_laws.proofs.KeepsLoans.{contents-pointer}
use Rattle.zone_laws.specs.Act.{Act, Calls, Does, Done, HasOperand, AreDone, Loads, Moment, OnLoan, Unloads, moment_after, new_zone}
use Rattle.zone_laws.specs.Headline.{ActMayDispose, ActMayLose, ActTells, AllPromised, ByOne, FullWhereItMay, IsLockedThroughout, KeepsAddress, OfNext, Promised}
use Rattle.zone_laws.specs.LastPut.{LastPut, put_by_act, put_in}
use Rattle.zone_laws.specs.LastSet.{LastSet, set_by_act, set_in}
use Rattle.zone_laws.proofs.Full.{step-full}
use Rattle.zone_laws.proofs.StaysLent.{comes-back, lent-since}
use Rattle.zone_laws.proofs.Loaned.{act-tells, loan-map}
use Rattle.zone_laws.proofs.Stays.{Stay, stay-released}
use Rattle.zone_laws.proofs.Locked.{stand-contents, step-locked}
use Rattle.zone_laws.proofs.Alive.{a_handle, step-alive}
use Rattle.zone_laws.proofs.Fewer.{released-agrees}
use Rattle.zone_laws.proofs.Losing.{bytes-keep, given-keeps, lost_only, released-keeps, set-keeps, step-loses, written-keeps}
use Rattle.zone_laws.proofs.Standing.{Standing, run-first, run-later, stand-act, stand-new, stand-run}
use Rattle.zone_laws.proofs.ActSteps.{step-may}

-- ---- one act

-- the contents of a handle that is locked before and after it stay
act-locked : (s : Shape) (act : Act) (old new : Moment) (h : ℕ) → Sound s old.heap → Sound s new.heap → Does s act old new → is_locked old.heap.table h ≡ true → is_locked new.heap.table h ≡ true → KeepsAddress s h old new
act-locked s (Calls call asks outcome) old new h sound after does was locked = step-locked s old.heap call asks outcome new.heap h sound after does.0 was locked
act-locked s (OnLoan call outcome) old new h sound after does was locked = ap (contents_of s h) (loan-map s old new call outcome (loan_refusal s old.heap call) does)
act-locked s (Loads g flags bytes) old new h sound after does was locked = ap (λ (heap : Heap). contents_of s h heap.map) does.1
act-locked s (Unloads call) old new h sound after does was locked =
    let stay = subst (Stay s old.heap) (sym does.2) (stay-released s call old.heap) in
    stand-contents s old.heap new.heap h sound after was locked (stay.place h locked)

-- a call on a loan leaves each block
loan-block : (s : Shape) (old new : Moment) (call : LoanCall) (outcome : Outcome) (o : Option OsErr) → LoanStepUnless o old.loans old.heap call outcome new.loans new.heap → (x : ℕ) → has_block old.heap.table x ≡ true → has_block new.heap.table x ≡ true
loan-block s old new call outcome (Some code) step x block = ap (λ (h : Heap). has_block h.table x) step.2 ∙ block
loan-block s old new (loan_call.Return y) outcome None step x block = ap (λ (h : Heap). has_block h.table x) step.2 ∙ written-keeps y (held_bytes y old.loans) old.heap.table x block
loan-block s old new call outcome None step x block = ap (λ (h : Heap). has_block h.table x) step.2 ∙ block

-- a block is lost only where it may be
act-loses : (s : Shape) (act : Act) (old new : Moment) (x : ℕ) → Sound s old.heap → Does s act old new → has_block old.heap.table x ≡ true → has_block new.heap.table x ≡ false → ActMayLose s old.heap act x
act-loses s (Calls call asks outcome) old new x sound does block lost = step-loses s old.heap call asks outcome new.heap x (step-may s old.heap call asks outcome new.heap sound does.0) block lost
act-loses s (OnLoan call outcome) old new x sound does block lost = true≢false (sym (loan-block s old new call outcome (loan_refusal s old.heap call) does x block) ∙ lost)
act-loses s (Loads h flags bytes) old new x sound does block lost =
    true≢false (sym (ap (λ (heap : Heap). has_block heap.table x) does.1 ∙ given-keeps h (FullHandle flags bytes) old.heap.table x (λ _. refl) block) ∙ lost)
act-loses s (Unloads call) old new x sound does block lost =
    lost_only (heap_released call old.heap).table x (operand_of call ≡ x) (released-keeps call old.heap x block) (ap (λ (heap : Heap). has_block heap.table x) (sym does.2) ∙ lost)

-- and a handle is disposed of only where it may be
loan-handle : (s : Shape) (old new : Moment) (call : LoanCall) (outcome : Outcome) (o : Option OsErr) → LoanStepUnless o old.loans old.heap call outcome new.loans new.heap → (h : ℕ) → is_handle old.heap.table h ≡ true → is_handle new.heap.table h ≡ true
loan-handle s old new call outcome (Some code) step h was = ap (λ (heap : Heap). is_handle heap.table h) step.2 ∙ was
loan-handle s old new (loan_call.Return y) outcome None step h was = ap (λ (heap : Heap). is_handle heap.table h) step.2 ∙ bytes-keep a_handle h y (held_bytes y old.loans) old.heap.table was
loan-handle s old new call outcome None step h was = ap (λ (heap : Heap). is_handle heap.table h) step.2 ∙ was

act-disposes : (s : Shape) (act : Act) (old new : Moment) (h : ℕ) → Sound s old.heap → Does s act old new → is_handle old.heap.table h ≡ true → is_handle new.heap.table h ≡ false → ActMayDispose act h
act-disposes s (Calls call asks outcome) old new h sound does was gone = step-alive s old.heap call asks outcome new.heap h (step-may s old.heap call asks outcome new.heap sound does.0) was gone
act-disposes s (OnLoan call outcome) old new h sound does was gone = true≢false (sym (loan-handle s old new call outcome (loan_refusal s old.heap call) does h was) ∙ gone)
act-disposes s (Loads g flags bytes) old new h sound does was gone =
    true≢false (sym (ap (λ (heap : Heap). is_handle heap.table h) does.1 ∙ set-keeps a_handle h g (FullHandle flags bytes) old.heap.table (λ _. refl) was) ∙ gone)
act-disposes s (Unloads call) old new h sound does was gone = by_call call does.0 (ap (λ (heap : Heap). is_handle heap.table h) (sym does.2) ∙ gone)
  where
    other : (call : ReleasingCall) → eqb h (operand_of call) ≡ false → is_handle (heap_released call old.heap).table h ≡ true
    other call apart = ap live_handle ((released-agrees call old.heap).others h apart) ∙ was

    by_call : (call : ReleasingCall) → HasOperand old.heap call → is_handle (heap_released call old.heap).table h ≡ false → disposed_by (call, None) ≡ Some h
    by_call (Empties g) has gone = absurd (true≢false (sym (set-keeps a_handle h g EmptyHandle old.heap.table (λ _. refl) was) ∙ gone))
    by_call (DisposesHandle g) has gone = by_number (eqb h g) refl
      where
        by_number : (b : Bool) → eqb h g ≡ b → Some g ≡ Some h
        by_number true is = ap (λ x. Some x) (sym (eqb-true h g is))
        by_number false apart = absurd (true≢false (sym (other (DisposesHandle g) apart) ∙ gone))
    by_call (DisposesPtr p) has gone = absurd (true≢false (by_number (eqb h p) refl))
      where
        by_number : (b : Bool) → eqb h p ≡ b → true ≡ false
        by_number true is = sym has ∙ handle_no_pointer old.heap.table p (ap (is_handle old.heap.table) (sym (eqb-true h p is)) ∙ was)
        by_number false apart = sym (other (DisposesPtr p) apart) ∙ gone

-- and memFullErr is given only where it may be
act-full : (s : Shape) (act : Act) (old new : Moment) → Sound s old.heap → Does s act old new → FullWhereItMay s old.heap act new.heap
act-full s (Calls call asks outcome) old new sound does = step-full s old.heap call asks outcome new.heap (step-may s old.heap call asks outcome new.heap sound does.0)
act-full s (OnLoan call outcome) old new sound does = tt
act-full s (Loads h flags bytes) old new sound does = tt
act-full s (Unloads call) old new sound does = tt

-- ---- runs

module _ (s : Shape) where
  tells-next : (from : Moment) (acts : List Done) (put : LastPut) (set : LastSet) → Standing s from put set → AreDone s from acts → OfNext acts (λ done. ActTells s from done.act put set)
  tells-next from [] put set stands is = tt
  tells-next from (d ∷ later) put set stands is = act-tells s from d.left put stands.sound stands.held stands.shows set stands.flags d.act is.0

  full-next : (from : Moment) (acts : List Done) → Sound s from.heap → AreDone s from acts → OfNext acts (λ done. FullWhereItMay s from.heap done.act done.left.heap)
  full-next from [] sound is = tt
  full-next from (d ∷ later) sound is = act-full s d.act from d.left sound is.0

  -- locked throughout is locked at first
  locked-first : (h : ℕ) (from : Moment) (acts : List Done) → IsLockedThroughout h from acts → is_locked from.heap.table h ≡ true
  locked-first h from [] locked = locked
  locked-first h from (d ∷ later) locked = locked.0

  locked-run : (h : ℕ) (from : Moment) (acts : List Done) (put : LastPut) (set : LastSet) → Standing s from put set → AreDone s from acts → IsLockedThroughout h from acts → KeepsAddress s h from (moment_after from acts)
  locked-run h from [] put set stands is locked = refl
  locked-run h from (d ∷ later) put set stands is locked =
      let next = stand-act s d.act from d.left put set stands is.0 in
      locked-run h d.left later (put_by_act d.act put) (set_by_act d.act set) next is.1 locked.1
      ∙ act-locked s d.act from d.left h stands.sound next.sound is.0 locked.0 (locked-first h d.left later locked.1)

  -- what holds of x at a moment, and no more at a later one, was ended by one of the acts between
  ended-run : (holds : Moment → Bool) (Said : Moment → Act → Type 0) → ((old new : Moment) (act : Act) → Sound s old.heap → Does s act old new → holds old ≡ true → holds new ≡ false → Said old act)
      → (from : Moment) (acts : List Done) (put : LastPut) (set : LastSet) → Standing s from put set → AreDone s from acts → holds from ≡ true → holds (moment_after from acts) ≡ false → ByOne Said from acts
  ended-run holds Said ends from [] put set stands is was gone = true≢false (sym was ∙ gone)
  ended-run holds Said ends from (d ∷ later) put set stands is was gone =
      by_next (holds d.left) refl (λ next. ended-run holds Said ends d.left later (put_by_act d.act put) (set_by_act d.act set) (stand-act s d.act from d.left put set stands is.0) is.1 next gone)
    where
      by_next : (b : Bool) → holds d.left ≡ b → (holds d.left ≡ true → ByOne Said d.left later) → ByOne Said from (d ∷ later)
      by_next true next rest = inr (rest next)
      by_next false next rest = inl (ends from d.left d.act stands.sound is.0 was next)

  -- the last act leaves the last moment
  last-left : (from : Moment) (between : List Done) (back : Done) → moment_after from (between ++ back ∷ []) ≡ back.left
  last-left from [] back = refl
  last-left from (d ∷ later) back = last-left d.left later back

  -- so all is promised of a run from a moment of which this is known
  pub promised : (from : Moment) (acts : List Done) (put : LastPut) (set : LastSet) → Standing s from put set → AreDone s from acts → Promised s from acts put set
  promised from acts put set stands is =
      let to = stand-run s from acts put set stands is in
      let sound = to.sound in
      record {
        bytes = to.shows;
        flags = to.flags;
        replies = tells-next from acts put set stands is;
        locked = λ h locked. locked-run h from acts put set stands is locked;
        pointers = λ p live. contents-pointer s (moment_after from acts).heap.table (moment_after from acts).heap.map p sound.suits live;
        emptied = λ x. ended-run (λ at. has_block at.heap.table x) (λ at act. ActMayLose s at.heap act x) (λ old new act sound does. act-loses s act old new x sound does) from acts put set stands is;
        handles = λ h. ended-run (λ at. is_handle at.heap.table h) (λ at act. ActMayDispose act h) (λ old new act sound does. act-disposes s act old new h sound does) from acts put set stands is;
        full = full-next from acts stands.sound is;
        lent = λ x lend between run lends not_returned.
            (let held = lent-since s x from lend between put set stands (subst (AreDone s from) run is) lends not_returned in
            let same = ap (moment_after from) run in (
              ap (λ (at : Moment). is_lent at.heap.table x) same ∙ held.0,
              ap (λ (at : Moment). contents_of s x at.heap.map) same ∙ held.2,
            ));
        returned = λ x lend back between run lends not_returned returns.
            (let back_then = comes-back s x from lend back between put set stands (subst (AreDone s from) run is) lends not_returned returns in
            let last = ap (moment_after from) run ∙ last-left lend.left between back in (
              ap (λ (at : Moment). contents_of s x at.heap.map) last ∙ back_then.0,
              ap (λ (at : Moment). bytes_of at.heap.table x) last ∙ back_then.1,
            ));
      }

-- so it is promised of every run from a new zone on
pub headline : AllPromised
headline z first acts put set possible is =
    let s = shape_of z in
    promised s (moment_after (new_zone z) first) acts (put_in first put) (set_in first set)
    (stand-run s (new_zone z) first put set (stand-new z put set possible) (run-first s (new_zone z) first acts is)) (run-later s (new_zone z) first acts is)
