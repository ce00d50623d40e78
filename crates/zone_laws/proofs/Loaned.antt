-- Every handle and pointer shows the bytes last put there, lent or not.
use Rattle.std.proofs.Common.{arith, ◌≡◌, ℕ, ◌+◌, ◌≤◌, Bool, true, false, not, cond, eqb, length, take, drop, List, [], ◌∷◌, ◌++◌, Option, Some, None, Ok, Err, refl, ap, sym, subst, ◌∙◌}
use Rattle.std.specs.Prelude.{◌||◌, ◌&&◌, ◌==◌, nat_lt}
use Rattle.std.specs.List.{list_any}
use Rattle.std.proofs.lemmas.Bool.{true≢false, and_parts}
use Rattle.mac_base.specs.declared.error.OsErr.{OsErr}
use Rattle.mac_base.specs.declared.error.OsErr.TheVariants.{MemPurErr, ParamErr}
use Rattle.mac_base.specs.HandleTable.{FullHandle, bytes_of, has_block, is_lent, is_locked, is_pointer, live_at, live_bytes, refilled, resized, with_live, zeros}
use Rattle.mac_base.specs.HeadKind.{Shape}
use Rattle.mac_base.specs.Heap.{Heap, with_table}
use Rattle.mac_base.specs.Loans.{LoansAreFixed, lent_out, may_be_lent, most_loans, owners, returned}
use Rattle.mac_base.specs.Releasing.{heap_released}
use Rattle.mac_base.specs.declared.block.Flags.{Flags}
use Rattle.mac_base.specs.declared.releasing.ReleasingCall.{ReleasingCall}
use Rattle.mac_base.specs.Sound.{Sound}
use Rattle.mac_base.specs.ZoneState.{written}
use Rattle.mac_base.specs.declared.loan_call.LoanCall.{LoanCall}
use Rattle.mac_base.specs.declared.loan_call.LoanCall.TheVariants as loan_call
use Rattle.mac_base.specs.declared.memory_call.MemoryCall.{MemoryCall}
use Rattle.mac_base.specs.declared.memory_call.MemoryCall.TheVariants as memory_call
use Rattle.mac_base.specs.declared.memory_call.BlockCall.TheVariants as block_call
use Rattle.mac_base.specs.declared.memory_call.FillingCall.TheVariants as filling_call
use Rattle.mac_base.specs.declared.memory_call.RequestingCall.TheVariants as requesting_call
use Rattle.mac_base.specs.declared.memory_call.ShowingCall.TheVariants as showing_call
use Rattle.mac_base.specs.declared.reply.Results.{Results}
use Rattle.mac_base.specs.declared.reply.Results.TheVariants as results
use Rattle.mac_base.specs.ExactStep.{IsExactStep, StepEnd}
use Rattle.mac_base.specs.GrowZone.{Ask, answers_in}
use Rattle.mac_base.specs.LoanStep.{Loans, LoanStepUnless, heap_after_loan, held_bytes, loan_refusal, loan_results, loans_after, with_held, without_loan}
use Rattle.mac_base.specs.MemoryStep.{MemoryStep, StepUnless}
use Rattle.mac_base.specs.Outcomes.{Outcome}
use Rattle.mac_base.specs.RequestRun.{RequestRun}
use Rattle.mac_base.specs.Tests.{IsHandle, IsPointer, IsBlock, NotEmpty, NotLent, NotLocked, IsSize, IsWithin, IsLent, MayBeLent, refusal, refused_by, unless_passed}
use Rattle.zone_laws.proofs.Lent.{KeepsLent, block-owner, fixed-kept, lent-apart, lent-block, lent-filtered}
use Rattle.zone_laws.proofs.LentChanges.{lent_out-fixed, returned-bytes, returned-fixed, sound-lent, sound-returned}
use Rattle.zone_laws.proofs.Tables.{by_number, eqb_same, eqb_swap, live_at-with_live_same, with_live_agrees}
use Rattle.zone_laws.proofs.LentSteps.{block-here, lent-exact_step, pointer-here}
use Rattle.zone_laws.proofs.Refusals.{passed-IsWithin, passed-NotEmpty, passed-NotLent, test_2, test_3, test_4, test_5, test_6}
use Rattle.zone_laws.proofs.SoundCalls.{length-written}
use Rattle.zone_laws.specs.LastPut.{LastPut, Tells, number_in, put, put_by, put_by_act, put_with}
use Rattle.zone_laws.specs.LastSet.{HasFlags, LastSet, set_by_act}
use Rattle.zone_laws.specs.Act.{Act, Calls, Does, Loads, Moment, OnLoan, Unloads}
use Rattle.zone_laws.specs.Headline.{ActTells, Shows}
use Rattle.zone_laws.proofs.Fewer.{block_live, fewer-released}
use Rattle.zone_laws.proofs.Flagged.{flags-fewer, flags-same, flags-set, flags-written, step-flags}
use Rattle.zone_laws.proofs.LoanLists.{held-before, held-last, held-with_other, held-with_same, held-without, is_loaned, loaned-last, loaned-with, loaned-without_other, loaned-without_same}
use Rattle.zone_laws.proofs.ActSteps.{released-sound, sound-filled, step-address, step-may, step-sound}
use Rattle.zone_laws.proofs.Shown.{TableShows, refilled-holds, shows-fewer, shows-put, step-shows}
use Rattle.zone_laws.proofs.Spared.{Spared, spared-fixed, spared-released}

-- what is known of loans: what is lent is fixed, just what is lent has a loan, and each is as long as its block
pub record LoansHeld (held : Moment) : Type 0 where
  pub fixed : LoansAreFixed held.heap
  pub loaned : (x : ℕ) → is_lent held.heap.table x ≡ is_loaned x held.loans
  pub long : (x : ℕ) → is_lent held.heap.table x ≡ true → length (held_bytes x held.loans) ≡ length (bytes_of held.heap.table x)

-- ---- acts on the heap

module _ (s : Shape) (held : Moment) (last : LastPut) (inv : LoansHeld held) (shows : Shows held last) where
  -- the same where nothing is lent, and what the table has where it is
  seen : LastPut
  seen x = cond (is_lent held.heap.table x) (bytes_of held.heap.table x) (last x)

  seen-shows : TableShows held.heap.table seen
  unfolding seen
  seen-shows x block = by_lent (is_lent held.heap.table x) (shows x block)
    where
      by_lent : (b : Bool) → cond b (held_bytes x held.loans) (bytes_of held.heap.table x) ≡ last x → bytes_of held.heap.table x ≡ cond b (bytes_of held.heap.table x) (last x)
      by_lent true h = refl
      by_lent false h = h

  seen-here : (x : ℕ) → is_lent held.heap.table x ≡ false → seen x ≡ last x
  unfolding seen
  seen-here x here = ap (λ b. cond b (bytes_of held.heap.table x) (last x)) here

  -- what is put over the one and over the other is the same where nothing is lent, and nothing is put where something
  -- is
  record Agree (f g : LastPut) : Type 0 where
    pub lent : (x : ℕ) → is_lent held.heap.table x ≡ true → g x ≡ last x
    pub here : (x : ℕ) → is_lent held.heap.table x ≡ false → f x ≡ g x

  agree-none : Agree seen last
  agree-none = record { lent = λ x l. refl; here = seen-here }

  agree-put : (y : ℕ) (a b : List ℕ) → is_lent held.heap.table y ≡ false → a ≡ b → Agree (put y a seen) (put y b last)
  agree-put y a b here same = record {
    lent = λ x l. ap (λ c. cond c b (last x)) (lent-apart held.heap.table y x here l);
    here = λ x h. ap (λ v. cond (eqb x y) v (seen x)) same ∙ ap (λ v. cond (eqb x y) b v) (seen-here x h);
  }

  -- a call that isn't refused
  agree-call : (call : MemoryCall) (asks : List Ask) (r : Results) (new : Heap) → refusal s held.heap call ≡ None → MemoryStep s held.heap call asks (Ok r) new → Agree (put_with call r seen) (put_with call r last)
  agree-call (memory_call.Requesting (requesting_call.NewHandle n)) asks r new is step =
      let g = block-here s held.heap (memory_call.Requesting (requesting_call.NewHandle n)) n asks r new inv.fixed refl step in
      agree-put (number_in r) (zeros n) (zeros n) (ap (λ r. is_lent held.heap.table (number_in r)) g.1 ∙ g.2) refl
  agree-call (memory_call.Requesting (requesting_call.NewPtr n)) asks r new is step =
      let g = pointer-here s held.heap (memory_call.Requesting (requesting_call.NewPtr n)) n asks r new inv.fixed refl step in
      agree-put (number_in r) (zeros n) (zeros n) (ap (λ r. is_lent held.heap.table (number_in r)) g.1 ∙ g.2) refl
  agree-call (memory_call.Requesting (requesting_call.ReallocateHandle h n)) asks r new is step =
      agree-put h (zeros n) (zeros n) (passed-NotLent s held.heap h (test_2 s held.heap (IsHandle h) (NotLent h) (NotLocked MemPurErr h ∷ IsSize n ∷ []) is)) refl
  agree-call (memory_call.Requesting (requesting_call.SetHandleSize h n)) asks r new is step =
      let here = passed-NotLent s held.heap h (test_3 s held.heap (IsHandle h) (NotEmpty h) (NotLent h) (IsSize n ∷ []) is) in
      agree-put h (resized n (seen h)) (resized n (last h)) here (ap (resized n) (seen-here h here))
  agree-call (memory_call.Requesting (requesting_call.SetPtrSize p n)) asks r new is step =
      let here = passed-NotLent s held.heap p (test_2 s held.heap (IsPointer p) (NotLent p) (IsSize n ∷ []) is) in
      agree-put p (resized n (seen p)) (resized n (last p)) here (ap (resized n) (seen-here p here))
  agree-call (memory_call.Filling (filling_call.HandToHand h)) asks r new is step =
      let here = passed-NotLent s held.heap h (test_3 s held.heap (IsHandle h) (NotEmpty h) (NotLent h) [] is) in
      let g = block-here s held.heap (memory_call.Filling (filling_call.HandToHand h)) (length (bytes_of held.heap.table h)) asks r new inv.fixed refl step in
      agree-put (number_in r) (seen h) (last h) (ap (λ r. is_lent held.heap.table (number_in r)) g.1 ∙ g.2) (seen-here h here)
  agree-call (memory_call.Filling (filling_call.PtrToHand p n)) asks r new is step =
      let here = passed-NotLent s held.heap p (test_2 s held.heap (IsPointer p) (NotLent p) (IsWithin p 0 n ∷ []) is) in
      let g = block-here s held.heap (memory_call.Filling (filling_call.PtrToHand p n)) n asks r new inv.fixed refl step in
      agree-put (number_in r) (take n (seen p)) (take n (last p)) (ap (λ r. is_lent held.heap.table (number_in r)) g.1 ∙ g.2) (ap (take n) (seen-here p here))
  agree-call (memory_call.Filling (filling_call.PtrToXHand p h n)) asks r new is step =
      let from = passed-NotLent s held.heap p (test_2 s held.heap (IsPointer p) (NotLent p) (IsHandle h ∷ NotEmpty h ∷ NotLent h ∷ IsWithin p 0 n ∷ []) is) in
      let onto = passed-NotLent s held.heap h (test_5 s held.heap (IsPointer p) (NotLent p) (IsHandle h) (NotEmpty h) (NotLent h) (IsWithin p 0 n ∷ []) is) in
      agree-put h (take n (seen p)) (take n (last p)) onto (ap (take n) (seen-here p from))
  agree-call (memory_call.Filling (filling_call.PtrAndHand p h n)) asks r new is step =
      let from = passed-NotLent s held.heap p (test_2 s held.heap (IsPointer p) (NotLent p) (IsHandle h ∷ NotEmpty h ∷ NotLent h ∷ IsWithin p 0 n ∷ []) is) in
      let onto = passed-NotLent s held.heap h (test_5 s held.heap (IsPointer p) (NotLent p) (IsHandle h) (NotEmpty h) (NotLent h) (IsWithin p 0 n ∷ []) is) in
      agree-put h (seen h ++ take n (seen p)) (last h ++ take n (last p)) onto (ap (λ v. v ++ take n (seen p)) (seen-here h onto) ∙ ap (λ v. last h ++ take n v) (seen-here p from))
  agree-call (memory_call.Filling (filling_call.NewHandleOf bytes)) asks r new is step =
      let g = block-here s held.heap (memory_call.Filling (filling_call.NewHandleOf bytes)) (length bytes) asks r new inv.fixed refl step in
      agree-put (number_in r) bytes bytes (ap (λ r. is_lent held.heap.table (number_in r)) g.1 ∙ g.2) refl
  agree-call (memory_call.Filling (filling_call.SetHandleTo h bytes)) asks r new is step =
      agree-put h bytes bytes (passed-NotLent s held.heap h (test_3 s held.heap (IsHandle h) (NotEmpty h) (NotLent h) (IsSize (length bytes) ∷ []) is)) refl
  agree-call (memory_call.Filling (filling_call.Append h bytes)) asks r new is step =
      let here = passed-NotLent s held.heap h (test_3 s held.heap (IsHandle h) (NotEmpty h) (NotLent h) (IsSize (length bytes) ∷ []) is) in
      agree-put h (seen h ++ bytes) (last h ++ bytes) here (ap (λ v. v ++ bytes) (seen-here h here))
  agree-call (memory_call.Filling (filling_call.HandAndHand a b)) asks r new is step =
      let from = passed-NotLent s held.heap a (test_3 s held.heap (IsHandle a) (NotEmpty a) (NotLent a) (IsHandle b ∷ NotEmpty b ∷ NotLent b ∷ []) is) in
      let onto = passed-NotLent s held.heap b (test_6 s held.heap (IsHandle a) (NotEmpty a) (NotLent a) (IsHandle b) (NotEmpty b) (NotLent b) [] is) in
      agree-put b (seen b ++ seen a) (last b ++ last a) onto (ap (λ v. v ++ seen a) (seen-here b onto) ∙ ap (λ v. last b ++ v) (seen-here a from))
  agree-call (memory_call.OnBlock (block_call.Poke x at bytes)) asks r new is step =
      let here = passed-NotLent s held.heap x (test_3 s held.heap (IsBlock x) (NotEmpty x) (NotLent x) (IsWithin x at (length bytes) ∷ []) is) in
      agree-put x (written at bytes (seen x)) (written at bytes (last x)) here (ap (written at bytes) (seen-here x here))
  agree-call (memory_call.OnBlock (block_call.BlockMove x at y to n)) asks r new is step =
      let from = passed-NotLent s held.heap x (test_3 s held.heap (IsBlock x) (NotEmpty x) (NotLent x) (IsBlock y ∷ NotEmpty y ∷ NotLent y ∷ IsWithin x at n ∷ IsWithin y to n ∷ []) is) in
      let onto = passed-NotLent s held.heap y (test_6 s held.heap (IsBlock x) (NotEmpty x) (NotLent x) (IsBlock y) (NotEmpty y) (NotLent y) (IsWithin x at n ∷ IsWithin y to n ∷ []) is) in
      agree-put y (written to (take n (drop at (seen x))) (seen y)) (written to (take n (drop at (last x))) (last y)) onto
      (ap (λ v. written to (take n (drop at v)) (seen y)) (seen-here x from) ∙ ap (written to (take n (drop at (last x)))) (seen-here y onto))
  agree-call call asks r new is step = agree-none

  passed-of : (call : MemoryCall) (asks : List Ask) (r : Results) (new : Heap) (o : Option OsErr) → refusal s held.heap call ≡ o → StepUnless RequestRun o s held.heap call asks (Ok r) new → refusal s held.heap call ≡ None
  passed-of call asks r new (Some code) is step = absurd (cc step.1)
  passed-of call asks r new None is step = is

  agree-outcome : (call : MemoryCall) (asks : List Ask) (outcome : Outcome) (new : Heap) → MemoryStep s held.heap call asks outcome new → Agree (put_by call outcome seen) (put_by call outcome last)
  agree-outcome call asks (Ok r) new step = agree-call call asks r new (passed-of call asks r new (refusal s held.heap call) refl step) step
  agree-outcome call asks (Err code) new step = agree-none

  -- what an act keeps of what is lent
  record Keeps (new : Heap) : Type 0 where
    pub lent : new.table.lent ≡ held.heap.table.lent
    pub fixed : LoansAreFixed new
    pub long : (x : ℕ) → is_lent held.heap.table x ≡ true → length (bytes_of new.table x) ≡ length (bytes_of held.heap.table x)

  spared-keeps : (new : Heap) → Spared held.heap.table new.table → Keeps new
  spared-keeps new spared = record { lent = spared.lent; fixed = spared-fixed held.heap new spared inv.fixed; long = λ x l. ap (λ o. length (live_bytes o)) (spared.same x l) }

  call-keeps : (call : MemoryCall) (asks : List Ask) (outcome : Outcome) (new : Heap) → Sound s held.heap → IsExactStep s held.heap call asks outcome new → Keeps new
  call-keeps call asks outcome new sound does =
      let keeps = subst (λ (e : StepEnd). KeepsLent s held.heap e.heap) does (lent-exact_step s (answers_in asks) held.heap call sound inv.fixed) in
      record { lent = keeps.lent; fixed = fixed-kept s held.heap new keeps inv.fixed; long = keeps.long }

  -- what an act reports
  long-seen : (x : ℕ) → length (seen x) ≡ length (last x)
  unfolding seen
  long-seen x = by_lent (is_lent held.heap.table x) refl
    where
      by_lent : (b : Bool) → is_lent held.heap.table x ≡ b → length (cond b (bytes_of held.heap.table x) (last x)) ≡ length (last x)
      by_lent true is = sym (inv.long x is) ∙ ap length (sym (ap (λ b. cond b (held_bytes x held.loans) (bytes_of held.heap.table x)) is) ∙ shows x (lent-block held.heap x inv.fixed is))
      by_lent false is = refl

  tells-call : (call : MemoryCall) (r : Results) → refusal s held.heap call ≡ None → Tells call (Ok r) seen → Tells call (Ok r) last
  tells-call (memory_call.Showing (showing_call.Peek x at n)) r is told =
      told ∙ ap (λ b. results.Bytes (take n (drop at b))) (seen-here x (passed-NotLent s held.heap x (test_3 s held.heap (IsBlock x) (NotEmpty x) (NotLent x) (IsWithin x at n ∷ []) is)))
  tells-call (memory_call.OnBlock (block_call.GetHandleSize h)) r is told = told ∙ ap results.Number (long-seen h)
  tells-call (memory_call.OnBlock (block_call.GetPtrSize p)) r is told = told ∙ ap results.Number (long-seen p)
  tells-call call r is told = tt

  refused-tells : (call : MemoryCall) (code : OsErr) → Tells call (Err code) last
  refused-tells (memory_call.Showing (showing_call.Peek x at n)) code = tt
  refused-tells (memory_call.OnBlock (block_call.HLock h)) code = tt
  refused-tells call code = tt

  tells-outcome : (call : MemoryCall) (asks : List Ask) (outcome : Outcome) (new : Heap) → MemoryStep s held.heap call asks outcome new → Tells call outcome seen → Tells call outcome last
  tells-outcome call asks (Ok r) new step told = tells-call call r (passed-of call asks r new (refusal s held.heap call) refl step) told
  tells-outcome call asks (Err code) new step told = refused-tells call code

  -- the zone after an act on the heap, by what was put over the one and over the other
  heap-shows : (new : Moment) (f g : LastPut) → Keeps new.heap → Agree f g → TableShows new.heap.table f → new.loans ≡ held.loans → Shows new g
  heap-shows new f g keeps agree shown same x block =
      let is_same : is_lent new.heap.table x ≡ is_lent held.heap.table x = ap (list_any (λ y. y == x)) keeps.lent in
      by_lent (is_lent held.heap.table x) refl is_same (shown x block)
    where
      by_lent : (b : Bool) → is_lent held.heap.table x ≡ b → is_lent new.heap.table x ≡ is_lent held.heap.table x → bytes_of new.heap.table x ≡ f x
          → cond (is_lent new.heap.table x) (held_bytes x new.loans) (bytes_of new.heap.table x) ≡ g x
      by_lent true is is_same h =
          ap (λ b. cond b (held_bytes x new.loans) (bytes_of new.heap.table x)) (is_same ∙ is) ∙ ap (held_bytes x) same
          ∙ sym (ap (λ b. cond b (held_bytes x held.loans) (bytes_of held.heap.table x)) is) ∙ shows x (lent-block held.heap x inv.fixed is) ∙ sym (agree.lent x is)
      by_lent false is is_same h = ap (λ b. cond b (held_bytes x new.loans) (bytes_of new.heap.table x)) (is_same ∙ is) ∙ h ∙ agree.here x is

  heap-held : (new : Moment) → Keeps new.heap → new.loans ≡ held.loans → LoansHeld new
  heap-held new keeps same =
      let is_same : (x : ℕ) → is_lent new.heap.table x ≡ is_lent held.heap.table x = λ x. ap (list_any (λ y. y == x)) keeps.lent in
      record {
        fixed = keeps.fixed;
        loaned = λ x. is_same x ∙ inv.loaned x ∙ ap (is_loaned x) (sym same);
        long = λ x l. (let was = sym (is_same x) ∙ l in ap (λ loans. length (held_bytes x loans)) same ∙ inv.long x was ∙ sym (keeps.long x was));
      }

  -- what an act leaves
  pub record Leaves (new : Moment) (g : LastPut) : Type 0 where
    pub sound : Sound s new.heap
    pub held_too : LoansHeld new
    pub shown : Shows new g

  heap-leaves : (new : Moment) (f g : LastPut) → Sound s new.heap → Keeps new.heap → Agree f g → TableShows new.heap.table f → new.loans ≡ held.loans → Leaves new g
  heap-leaves new f g sound keeps agree shown same = record { sound = sound; held_too = heap-held new keeps same; shown = heap-shows new f g keeps agree shown same }

  call-leaves : (call : MemoryCall) (asks : List Ask) (outcome : Outcome) (new : Moment) → Sound s held.heap → IsExactStep s held.heap call asks outcome new.heap → new.loans ≡ held.loans → Leaves new (put_by call outcome last) × Tells call outcome last
  call-leaves call asks outcome new sound does same =
      let may = step-may s held.heap call asks outcome new.heap sound does in
      let step = step-shows s held.heap call asks outcome new.heap seen may seen-shows in (
        heap-leaves new (put_by call outcome seen) (put_by call outcome last) (step-sound s held.heap call asks outcome new.heap sound does) (call-keeps call asks outcome new.heap sound does)
            (agree-outcome call asks outcome new.heap may) step.0 same,
        tells-outcome call asks outcome new.heap may step.1,
      )

  load-leaves : (h : ℕ) (flags : Flags) (bytes : List ℕ) (new : Moment) → Sound s held.heap → Does s (Loads h flags bytes) held new → Leaves new (put h bytes last)
  load-leaves h flags bytes new sound does =
      let may = does.0 in
      let filled : Heap = with_table (with_live h (FullHandle flags bytes) held.heap.table) held.heap in
      let spared : Spared held.heap.table filled.table = record { lent = refl; same = λ x l. (with_live_agrees h (FullHandle flags bytes) held.heap.table).others x (lent-apart held.heap.table h x may.2 l) } in
      heap-leaves new (put h bytes seen) (put h bytes last) (subst (Sound s) (sym does.1) (sound-filled s held.heap h flags bytes sound may.0 may.1)) (subst Keeps (sym does.1) (spared-keeps filled spared))
      (agree-put h bytes bytes may.2 refl)
      (shows-put h (FullHandle flags bytes) bytes held.heap.table held.heap.table new.heap.table seen (λ y _ _. refl) (λ _. refl) (ap (λ (heap : Heap). heap.table) does.1) seen-shows) does.2

  unload-leaves : (call : ReleasingCall) (new : Moment) → Sound s held.heap → Does s (Unloads call) held new → Leaves new last
  unload-leaves call new sound does =
      heap-leaves new seen last (subst (Sound s) (sym does.2) (released-sound s held.heap call sound does.0)) (subst Keeps (sym does.2) (spared-keeps (heap_released call held.heap) (spared-released call held.heap does.1))) agree-none
      (subst (λ (heap : Heap). TableShows heap.table seen) (sym does.2) (shows-fewer [] held.heap.table (heap_released call held.heap).table seen (fewer-released [] call held.heap refl) seen-shows)) does.3

  -- ---- calls on loans

  passed-true : (b : Bool) → unless_passed ParamErr b ≡ None → b ≡ true
  passed-true true is = refl
  passed-true false is = absurd (cc is)

  passed-IsLent : (x : ℕ) → refused_by s held.heap (IsLent x) ≡ None → is_lent held.heap.table x ≡ true
  passed-IsLent x is = passed-true (is_lent held.heap.table x) is

  -- the holder's bytes are those last put
  held-last_put : (x : ℕ) → is_lent held.heap.table x ≡ true → held_bytes x held.loans ≡ last x
  held-last_put x l = sym (ap (λ b. cond b (held_bytes x held.loans) (bytes_of held.heap.table x)) l) ∙ shows x (lent-block held.heap x inv.fixed l)

  -- Lend
  module _ (sound : Sound s held.heap) (x : ℕ) (block : has_block held.heap.table x ≡ true) (here : is_lent held.heap.table x ≡ false) (may : (is_pointer held.heap.table x || is_locked held.heap.table x) ≡ true) where
    lent : Moment
    lent = record { heap = lent_out x held.heap; loans = held.loans ++ (x, bytes_of held.heap.table x) ∷ [] }

    now-lent : (y : ℕ) → is_lent (lent_out x held.heap).table y ≡ ((y == x || is_lent held.heap.table y) && list_any (λ z. z == y) (owners held.heap.map))
    now-lent y = lent-filtered (λ z. z == x || is_lent held.heap.table z) y (owners held.heap.map)

    lent-same : is_lent (lent_out x held.heap).table x ≡ true
    lent-same = now-lent x ∙ ap (λ b. (b || is_lent held.heap.table x) && list_any (λ z. z == x) (owners held.heap.map)) (eqb_same x) ∙ block-owner s held.heap.table held.heap.map x sound.suits block

    lent-other : (y : ℕ) → eqb y x ≡ false → is_lent (lent_out x held.heap).table y ≡ is_lent held.heap.table y
    lent-other y apart = now-lent y ∙ ap (λ b. (b || is_lent held.heap.table y) && list_any (λ z. z == y) (owners held.heap.map)) apart ∙ by_lent (is_lent held.heap.table y) refl
      where
        and_true : (a b : Bool) → b ≡ true → (a && b) ≡ a
        and_true true b h = h
        and_true false b h = refl

        by_lent : (b : Bool) → is_lent held.heap.table y ≡ b → (b && list_any (λ z. z == y) (owners held.heap.map)) ≡ b
        by_lent true is = block-owner s held.heap.table held.heap.map y sound.suits (lent-block held.heap y inv.fixed is)
        by_lent false is = refl

    not-loaned : is_loaned x held.loans ≡ false
    not-loaned = sym (inv.loaned x) ∙ here

    loaned-now : (y : ℕ) → is_lent (lent_out x held.heap).table y ≡ is_loaned y (held.loans ++ (x, bytes_of held.heap.table x) ∷ [])
    loaned-now = by_number (λ y. is_lent (lent_out x held.heap).table y ≡ is_loaned y (held.loans ++ (x, bytes_of held.heap.table x) ∷ [])) x
        (lent-same ∙ sym (loaned-last x x (bytes_of held.heap.table x) held.loans ∙ ap (λ b. is_loaned x held.loans || b) (eqb_same x) ∙ ap (λ b. b || true) not-loaned))
        (λ y apart. lent-other y apart ∙ inv.loaned y ∙ sym (loaned-last x y (bytes_of held.heap.table x) held.loans ∙ ap (λ b. is_loaned y held.loans || b) (eqb_swap x y ∙ apart) ∙ or_false (is_loaned y held.loans)))
      where
        or_false : (b : Bool) → (b || false) ≡ b
        or_false true = refl
        or_false false = refl

    held-other : (y : ℕ) → is_lent held.heap.table y ≡ true → held_bytes y (held.loans ++ (x, bytes_of held.heap.table x) ∷ []) ≡ held_bytes y held.loans
    held-other y l = held-before y held.loans ((x, bytes_of held.heap.table x) ∷ []) (sym (inv.loaned y) ∙ l)

    lend-held : LoansHeld (record { heap = lent_out x held.heap; loans = held.loans ++ (x, bytes_of held.heap.table x) ∷ [] })
    lend-held = record {
      fixed = lent_out-fixed held.heap x inv.fixed may;
      loaned = loaned-now;
      long = by_number (λ y. is_lent (lent_out x held.heap).table y ≡ true → length (held_bytes y (held.loans ++ (x, bytes_of held.heap.table x) ∷ [])) ≡ length (bytes_of held.heap.table y)) x
          (λ _. ap length (held-last x (bytes_of held.heap.table x) held.loans not-loaned))
          (λ y apart l. (let was = sym (lent-other y apart) ∙ l in ap length (held-other y was) ∙ inv.long y was));
    }

    lend-shows : Shows (record { heap = lent_out x held.heap; loans = held.loans ++ (x, bytes_of held.heap.table x) ∷ [] }) last
    lend-shows = by_number (λ y. has_block held.heap.table y ≡ true → cond (is_lent (lent_out x held.heap).table y) (held_bytes y (held.loans ++ (x, bytes_of held.heap.table x) ∷ [])) (bytes_of held.heap.table y) ≡ last y) x
        (λ b. ap (λ c. cond c (held_bytes x (held.loans ++ (x, bytes_of held.heap.table x) ∷ [])) (bytes_of held.heap.table x)) lent-same ∙ held-last x (bytes_of held.heap.table x) held.loans not-loaned
        ∙ sym (ap (λ c. cond c (held_bytes x held.loans) (bytes_of held.heap.table x)) here) ∙ shows x b)
        (λ y apart b. ap (λ c. cond c (held_bytes y (held.loans ++ (x, bytes_of held.heap.table x) ∷ [])) (bytes_of held.heap.table y)) (lent-other y apart) ∙ by_lent y (is_lent held.heap.table y) refl ∙ shows y b)
      where
        by_lent : (y : ℕ) (c : Bool) → is_lent held.heap.table y ≡ c → cond c (held_bytes y (held.loans ++ (x, bytes_of held.heap.table x) ∷ [])) (bytes_of held.heap.table y) ≡ cond (is_lent held.heap.table y) (held_bytes y held.loans) (bytes_of held.heap.table y)
        by_lent y true is = held-other y is ∙ sym (ap (λ c. cond c (held_bytes y held.loans) (bytes_of held.heap.table y)) is)
        by_lent y false is = sym (ap (λ c. cond c (held_bytes y held.loans) (bytes_of held.heap.table y)) is)

  -- LentPoke
  module _ (x at : ℕ) (bytes : List ℕ) (l : is_lent held.heap.table x ≡ true) (within : at + length bytes ≤ length (bytes_of held.heap.table x)) where
    abbrev over : List ℕ
    over = written at bytes (held_bytes x held.loans)

    poked-held : LoansHeld (record { heap = held.heap; loans = with_held x (written at bytes (held_bytes x held.loans)) held.loans })
    poked-held = record {
      fixed = inv.fixed;
      loaned = λ y. inv.loaned y ∙ sym (loaned-with x y over held.loans);
      long = by_number (λ y. is_lent held.heap.table y ≡ true → length (held_bytes y (with_held x over held.loans)) ≡ length (bytes_of held.heap.table y)) x
          (λ _. ap length (held-with_same x over held.loans (sym (inv.loaned x) ∙ l)) ∙ length-written at bytes (held_bytes x held.loans) (subst (λ n. at + length bytes ≤ n) (sym (inv.long x l)) within) ∙ inv.long x l)
          (λ y apart ly. ap length (held-with_other x y over held.loans apart) ∙ inv.long y ly);
    }

    poked-shows : Shows (record { heap = held.heap; loans = with_held x (written at bytes (held_bytes x held.loans)) held.loans }) (put x (written at bytes (last x)) last)
    poked-shows = by_number (λ y. has_block held.heap.table y ≡ true → cond (is_lent held.heap.table y) (held_bytes y (with_held x over held.loans)) (bytes_of held.heap.table y) ≡ cond (eqb y x) (written at bytes (last x)) (last y)) x
        (λ _. ap (λ c. cond c (held_bytes x (with_held x over held.loans)) (bytes_of held.heap.table x)) l ∙ held-with_same x over held.loans (sym (inv.loaned x) ∙ l) ∙ ap (written at bytes) (held-last_put x l)
        ∙ sym (ap (λ c. cond c (written at bytes (last x)) (last x)) (eqb_same x)))
        (λ y apart b. ap (λ v. cond (is_lent held.heap.table y) v (bytes_of held.heap.table y)) (held-with_other x y over held.loans apart) ∙ shows y b ∙ sym (ap (λ c. cond c (written at bytes (last x)) (last y)) apart))

  -- Return
  module _ (sound : Sound s held.heap) (x : ℕ) (l : is_lent held.heap.table x ≡ true) where
    abbrev back : Heap
    back = returned x (held_bytes x held.loans) held.heap

    now-back : (y : ℕ) → is_lent (returned x (held_bytes x held.loans) held.heap).table y ≡ (not (y == x) && is_lent held.heap.table y)
    now-back y = lent-filtered (λ z. not (z == x)) y held.heap.table.lent

    back-same : is_lent (returned x (held_bytes x held.loans) held.heap).table x ≡ false
    back-same = now-back x ∙ ap (λ b. not b && is_lent held.heap.table x) (eqb_same x)

    back-other : (y : ℕ) → eqb y x ≡ false → is_lent (returned x (held_bytes x held.loans) held.heap).table y ≡ is_lent held.heap.table y
    back-other y apart = now-back y ∙ ap (λ b. not b && is_lent held.heap.table y) apart

    return-held : LoansHeld (record { heap = returned x (held_bytes x held.loans) held.heap; loans = without_loan x held.loans })
    return-held = record {
      fixed = returned-fixed x (held_bytes x held.loans) held.heap inv.fixed;
      loaned = by_number (λ y. is_lent back.table y ≡ is_loaned y (without_loan x held.loans)) x (back-same ∙ sym (loaned-without_same x held.loans))
          (λ y apart. back-other y apart ∙ inv.loaned y ∙ sym (loaned-without_other x y held.loans apart));
      long = by_number (λ y. is_lent back.table y ≡ true → length (held_bytes y (without_loan x held.loans)) ≡ length (bytes_of back.table y)) x
          (λ is. absurd (true≢false (sym is ∙ back-same)))
          (λ y apart is. ap length (held-without x y held.loans apart) ∙ inv.long y (sym (back-other y apart) ∙ is) ∙ ap length (sym (returned-bytes x (held_bytes x held.loans) held.heap y apart)));
    }

    return-shows : Shows (record { heap = returned x (held_bytes x held.loans) held.heap; loans = without_loan x held.loans }) last
    return-shows = by_number (λ y. has_block back.table y ≡ true → cond (is_lent back.table y) (held_bytes y (without_loan x held.loans)) (bytes_of back.table y) ≡ last y) x
        (λ b. ap (λ c. cond c (held_bytes x (without_loan x held.loans)) (bytes_of back.table x)) back-same ∙ ap live_bytes has ∙ refilled-holds (held_bytes x held.loans) (live_at held.heap.table x) (sym (ap block_live has) ∙ b) ∙ held-last_put x l)
        (λ y apart b. ap (λ c. cond c (held_bytes y (without_loan x held.loans)) (bytes_of back.table y)) (back-other y apart)
        ∙ ap (λ v. cond (is_lent held.heap.table y) v (bytes_of back.table y)) (held-without x y held.loans apart) ∙ ap (λ v. cond (is_lent held.heap.table y) (held_bytes y held.loans) v) (returned-bytes x (held_bytes x held.loans) held.heap y apart)
        ∙ shows y (ap block_live (sym ((with_live_agrees x (refilled (held_bytes x held.loans) (live_at held.heap.table x)) held.heap.table).others y apart)) ∙ b))
      where
        has : live_at (returned x (held_bytes x held.loans) held.heap).table x ≡ Some (refilled (held_bytes x held.loans) (live_at held.heap.table x))
        has = live_at-with_live_same x (refilled (held_bytes x held.loans) (live_at held.heap.table x)) held.heap.table

  loan-left : (call : LoanCall) (r : Results) (new : Moment) → Sound s held.heap → loan_refusal s held.heap call ≡ None → (let want : Moment = record { heap = heap_after_loan call held.loans held.heap; loans = loans_after call held.heap.table held.loans } in new ≡ want) → Leaves new (put_by_act (OnLoan call (Ok r)) last)
  loan-left (loan_call.Lend x) r new sound is same =
      let block = passed-NotEmpty s held.heap x (test_2 s held.heap (IsBlock x) (NotEmpty x) (NotLent x ∷ MayBeLent x ∷ []) is) in
      let here = passed-NotLent s held.heap x (test_3 s held.heap (IsBlock x) (NotEmpty x) (NotLent x) (MayBeLent x ∷ []) is) in
      let may = passed-true (may_be_lent held.heap.table x) (test_4 s held.heap (IsBlock x) (NotEmpty x) (NotLent x) (MayBeLent x) [] is) in
      let fixes = (and_parts (is_pointer held.heap.table x || is_locked held.heap.table x) (nat_lt (length held.heap.table.lent) most_loans) may).0 in
      subst (λ n. Leaves n last) (sym same) (record { sound = sound-lent s held.heap (lent_out x held.heap).table.lent sound; held_too = lend-held sound x block here fixes; shown = lend-shows sound x block here fixes })
  loan-left (loan_call.LentPeek x at n) r new sound is same = subst (λ n. Leaves n last) (sym same) (record { sound = sound; held_too = inv; shown = shows })
  loan-left (loan_call.LentPoke x at bytes) r new sound is same =
      let l = passed-IsLent x (test_2 s held.heap (IsBlock x) (IsLent x) (IsWithin x at (length bytes) ∷ []) is) in
      let within = passed-IsWithin s held.heap x at (length bytes) (test_3 s held.heap (IsBlock x) (IsLent x) (IsWithin x at (length bytes)) [] is) in
      subst (λ n. Leaves n (put x (written at bytes (last x)) last)) (sym same) (record { sound = sound; held_too = poked-held x at bytes l within; shown = poked-shows x at bytes l within })
  loan-left (loan_call.Return x) r new sound is same =
      let l = passed-IsLent x (test_2 s held.heap (IsBlock x) (IsLent x) [] is) in
      subst (λ n. Leaves n last) (sym same) (record { sound = sound-returned s held.heap x (held_bytes x held.loans) sound inv.fixed l (inv.long x l); held_too = return-held sound x l; shown = return-shows sound x l })

-- ---- acts

refused-puts : (call : LoanCall) (code : OsErr) (last : LastPut) → put_by_act (OnLoan call (Err code)) last ≡ last
refused-puts (loan_call.LentPoke x at bytes) code last = refl
refused-puts call code last = refl

moment : Heap → Loans → Moment
moment heap loans = record { heap = heap; loans = loans }

same-moment : (new : Moment) (heap : Heap) (loans : Loans) → new.heap ≡ heap → new.loans ≡ loans → (let want : Moment = record { heap = heap; loans = loans } in new ≡ want)
unfolding moment
same-moment new heap loans h l = ap (λ h. moment h new.loans) h ∙ ap (moment heap) l

-- a call on a lent block
module _ (s : Shape) (old new : Moment) (last : LastPut) (sound : Sound s old.heap) (held : LoansHeld old) (shows : Shows old last) where
  loan-unless : (call : LoanCall) (outcome : Outcome) (o : Option OsErr) → loan_refusal s old.heap call ≡ o → LoanStepUnless o old.loans old.heap call outcome new.loans new.heap
      → Leaves s old last held shows new (put_by_act (OnLoan call outcome) last)
  loan-unless call outcome (Some code) is step =
      let same = same-moment new old.heap old.loans step.2 step.1 in
      let start : Leaves s old last held shows old last = record { sound = sound; held_too = held; shown = shows } in
      subst (λ put. Leaves s old last held shows new put) (sym (ap (λ o. put_by_act (OnLoan call o) last) step.0 ∙ refused-puts call code last)) (subst (λ n. Leaves s old last held shows n last) (sym same) start)
  loan-unless call outcome None is step =
      let same = same-moment new (heap_after_loan call old.loans old.heap) (loans_after call old.heap.table old.loans) step.2 step.1 in
      subst (λ o. Leaves s old last held shows new (put_by_act (OnLoan call o) last)) (sym step.0) (loan-left s old last held shows call (loan_results call old.loans) new sound is same)

  -- every act leaves a sound heap, whose blocks show what was last put
  pub act-leaves : (act : Act) → Does s act old new → Leaves s old last held shows new (put_by_act act last)
  act-leaves (Calls call asks outcome) does = (call-leaves s old last held shows call asks outcome new sound does.0 does.1).0
  act-leaves (OnLoan call outcome) does = loan-unless call outcome (loan_refusal s old.heap call) refl does
  act-leaves (Loads h flags bytes) does = load-leaves s old last held shows h flags bytes new sound does
  act-leaves (Unloads call) does = unload-leaves s old last held shows call new sound does

  peeked : (x from n : ℕ) (r : Results) (o : Option OsErr) → loan_refusal s old.heap (loan_call.LentPeek x from n) ≡ o → LoanStepUnless o old.loans old.heap (loan_call.LentPeek x from n) (Ok r) new.loans new.heap
      → r ≡ results.Bytes (take n (drop from (last x)))
  peeked x from n r (Some code) is step = absurd (cc step.0)
  peeked x from n r None is step =
      let told : r ≡ results.Bytes (take n (drop from (held_bytes x old.loans))) = cc step.0 in
      told ∙ ap (λ b. results.Bytes (take n (drop from b))) (held-last_put s old last held shows x (passed-IsLent s old last held shows x (test_2 s old.heap (IsBlock x) (IsLent x) (IsWithin x from n ∷ []) is)))

  -- its reply gives the bytes last put, the flags last set, and where contents are
  pub act-tells : (set : LastSet) → HasFlags old.heap.table set → (act : Act) → Does s act old new → ActTells s old act last set
  act-tells set has (Calls call asks outcome) does =
      let may = step-may s old.heap call asks outcome new.heap sound does.0 in
      ((call-leaves s old last held shows call asks outcome new sound does.0 does.1).1, (step-flags s old.heap call asks outcome new.heap set may has).1, step-address s old.heap call asks outcome new.heap may)
  act-tells set has (OnLoan (loan_call.LentPeek x from n) (Ok r)) does = peeked x from n r (loan_refusal s old.heap (loan_call.LentPeek x from n)) refl does
  act-tells set has act does = tt

-- a call on a lent block moves nothing
pub loan-map : (s : Shape) (old new : Moment) (call : LoanCall) (outcome : Outcome) (o : Option OsErr) → LoanStepUnless o old.loans old.heap call outcome new.loans new.heap → new.heap.map ≡ old.heap.map
loan-map s old new v3 outcome v5 step = grind arith

-- ---- flags

loan-flags : (old new : Moment) (call : LoanCall) (outcome : Outcome) (o : Option OsErr) (last : LastSet) → LoanStepUnless o old.loans old.heap call outcome new.loans new.heap → HasFlags old.heap.table last → HasFlags new.heap.table last
loan-flags old new call outcome (Some code) last step has = flags-same old.heap.table new.heap.table last (ap (λ (h : Heap). h.table) step.2) has
loan-flags old new (loan_call.Lend x) outcome None last step has = subst (λ (h : Heap). HasFlags h.table last) (sym step.2) has
loan-flags old new (loan_call.Return x) outcome None last step has = subst (λ (h : Heap). HasFlags h.table last) (sym step.2) (flags-written x (held_bytes x old.loans) old.heap.table last has)
loan-flags old new call outcome None last step has = flags-same old.heap.table new.heap.table last (ap (λ (h : Heap). h.table) step.2) has

-- every handle has the flags last set
pub act-flags : (s : Shape) (act : Act) (old new : Moment) (last : LastSet) → Sound s old.heap → Does s act old new → HasFlags old.heap.table last → HasFlags new.heap.table (set_by_act act last)
act-flags s (Calls call asks outcome) old new last sound does has = (step-flags s old.heap call asks outcome new.heap last (step-may s old.heap call asks outcome new.heap sound does.0) has).0
act-flags s (OnLoan call outcome) old new last sound does has = loan-flags old new call outcome (loan_refusal s old.heap call) last does has
act-flags s (Loads h flags bytes) old new last sound does has = flags-set h (FullHandle flags bytes) flags old.heap.table new.heap.table last (λ _. refl) (ap (λ (heap : Heap). heap.table) does.1) has
act-flags s (Unloads call) old new last sound does has =
    flags-same (heap_released call old.heap).table new.heap.table last (ap (λ (heap : Heap). heap.table) does.2) (flags-fewer [] old.heap.table (heap_released call old.heap).table last (fewer-released [] call old.heap refl) has)
