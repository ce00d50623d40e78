-- The place for a row's bytes: what is in the heap once it is made, and which handles serve as they are.
use Rattle.std.proofs.Common.{◌≡◌, ℕ, Bool, true, false, cond, List, [], Option, Some, None, Result, Ok, Err, refl, ap, sym, ◌∙◌, subst, arith}
use Rattle.std.specs.Prelude.{◌==◌, ◌||◌, IfOk, is_ok}
use Rattle.std.specs.Option.{option_or}
use Rattle.std.specs.Result.{result_and}
use Rattle.std.proofs.lemmas.Bool.{true≢false}
use Rattle.std.proofs.lemmas.Bool.Decides.{nat_tests}
use Rattle.mac_base.specs.declared.error.OsErr.{OsErr}
use Rattle.mac_base.specs.declared.error.OsErr.TheVariants.{NilHandleErr, MemWzErr}
use Rattle.mac_base.specs.HeadKind.{Shape, head_size, slot_count}
use Rattle.mac_base.specs.HandleTable.{HandleTable, Live, EmptyHandle, FullHandle, Pointer, live_at, live_full, live_handle, live_pointer, live_flags, is_full, is_handle, is_lent, no_flags, with_live, zeros}
use Rattle.mac_base.specs.Heap.{Heap}
use Rattle.mac_base.specs.Loans.{LoansAreFixed}
use Rattle.mac_base.specs.Sound.{Sound}
use Rattle.mac_base.specs.ZoneMap.{address_after}
use Rattle.mac_base.specs.ZoneState.{ZoneState}
use Rattle.mac_base.specs.declared.request.Request.TheVariants.{NewBlock, Replace}
use Rattle.mac_base.specs.declared.memory_call.MemoryCall.TheVariants.{OnBlock, Requesting}
use Rattle.mac_base.specs.declared.memory_call.BlockCall.TheVariants.{HGetState}
use Rattle.mac_base.specs.declared.memory_call.RequestingCall.TheVariants.{NewHandle, ReallocateHandle}
use Rattle.mac_base.specs.declared.reply.Results.{Results}
use Rattle.mac_base.specs.declared.reply.Results.TheVariants.{Handle, Nothing}
use Rattle.mac_base.specs.GrowZone.{Ask}
use Rattle.mac_base.specs.MemoryStep.{MemoryStep, StepUnless}
use Rattle.mac_base.specs.Outcomes.{done_outcome, handle_outcome, number_outcome}
use Rattle.mac_base.specs.RequestRun.{RequestRun}
use Rattle.mac_base.specs.Tests.{refusal}
use Rattle.zone_laws.proofs.SlotPlaces.{slots_at-above}
use Rattle.zone_laws.proofs.SlotOwners.{rooms-suits}
use Rattle.zone_laws.proofs.Tables.{live_at-with_live_same}
use Rattle.res_manager.proofs.Granting.{step-granted}
use Rattle.res_manager.specs.Loading.{IsPlaced, handle_placed}

-- a live handle isn't 0
pub handle-not_nil : (s : Shape) (heap : Heap) (h : ℕ) → Sound s heap → is_handle heap.table h ≡ true → (h == 0) ≡ false
handle-not_nil s heap h sound live =
    let suits = sound.suits in
    let coherent = suits.coherent in
    let above = slots_at-above (head_size s.heads) slot_count (address_after s []) heap.map h (rooms-suits s heap.table heap.map suits) (coherent.in_slots h live) in
    grind (arith, nat_tests, above)

-- a new block of a table whose loans are fixed isn't lent
pub placed-from : (s : Shape) (heap : Heap) (h n : ℕ) (t : HandleTable) → Sound s heap → LoansAreFixed heap → heap.table ≡ with_live h (FullHandle no_flags (zeros n)) t → IsPlaced heap h n
placed-from s heap h n t sound fixed is =
    let block : live_at heap.table h ≡ Some (FullHandle no_flags (zeros n)) = ap (λ t. live_at t h) is ∙ live_at-with_live_same h (FullHandle no_flags (zeros n)) t in
    record {
      some = handle-not_nil s heap h sound (ap live_handle block);
      block = block;
      here = elim (is_lent heap.table h) as (λ b. is_lent heap.table h ≡ b → b ≡ false) [
        | true ↦ λ lent. absurd (true≢false (sym (fixed h lent) ∙ ap (λ o. live_pointer o || (live_flags o).lock) block))
        | false ↦ λ _. refl
      ] refl;
    }

-- a new handle
pub placed-new : (s now : Shape) (old new : Heap) (n : ℕ) (asks : List Ask) (result : Result ℕ OsErr) → Sound now new → LoansAreFixed new → MemoryStep s old (Requesting (NewHandle n)) asks (handle_outcome result) new → IfOk result (λ h. IsPlaced new h n)
placed-new s now old new n asks (Err code) sound fixed step = tt
placed-new s now old new n asks (Ok h) sound fixed step =
    let gave = step-granted s old new (Requesting (NewHandle n)) (NewBlock n) (Handle h) (λ x t. refl) asks refl step in
    let same : h ≡ gave.0 = cc gave.1 in
    subst (λ x. IsPlaced new x n) (sym same) ((let granted = gave.2 in placed-from now new gave.0 n granted.0 sound fixed granted.1))

-- the row's own handle
pub placed-own : (s now : Shape) (old new : Heap) (h n : ℕ) (asks : List Ask) (result : Result (Unit {0}) OsErr) → Sound now new → LoansAreFixed new → MemoryStep s old (Requesting (ReallocateHandle h n)) asks (done_outcome result) new
    → IfOk (result_and result (Ok h)) (λ h. IsPlaced new h n)
placed-own s now old new h n asks (Err code) sound fixed step = tt
placed-own s now old new h n asks (Ok u) sound fixed step =
    let gave = step-granted s old new (Requesting (ReallocateHandle h n)) (Replace h n) Nothing (λ x t. refl) asks refl step in
    let granted = gave.2 in
    placed-from now new h n granted.0 sound fixed granted.1

-- and so is the row's own handle
pub given-own : (h : ℕ) (result : Result (Unit {0}) OsErr) → result_and result (Ok h) ≡ handle_placed (Some h) (done_outcome result)
given-own h (Ok u) = refl
given-own h (Err code) = refl

-- the same where the loans and the soundness are those of what the zone is then
module _ (now new : ZoneState) (is : now ≡ new) (sound : Sound now.shape now.heap) (fixed : LoansAreFixed now.heap) where
  sound_then : Sound new.shape new.heap
  sound_then = subst (λ (z : ZoneState). Sound z.shape z.heap) is sound

  fixed_then : LoansAreFixed new.heap
  fixed_then = subst (λ (z : ZoneState). LoansAreFixed z.heap) is fixed

  pub new-then : (s : Shape) (old : Heap) (n : ℕ) (asks : List Ask) (result : Result ℕ OsErr) → MemoryStep s old (Requesting (NewHandle n)) asks (handle_outcome result) new.heap → IfOk result (λ h. IsPlaced new.heap h n)
  new-then s old n asks result step = placed-new s new.shape old new.heap n asks result sound_then fixed_then step

  pub own-then : (s : Shape) (old : Heap) (h n : ℕ) (asks : List Ask) (result : Result (Unit {0}) OsErr) → MemoryStep s old (Requesting (ReallocateHandle h n)) asks (done_outcome result) new.heap → IfOk (result_and result (Ok h)) (λ h. IsPlaced new.heap h n)
  own-then s old h n asks result step = placed-own s new.shape old new.heap h n asks result sound_then fixed_then step

-- what a call gives that makes a new handle is its place
pub given-new : (own : Option ℕ) (result : Result ℕ OsErr) → result ≡ handle_placed own (handle_outcome result)
given-new own (Ok h) = refl
given-new own (Err code) = refl

-- whether a handle with this in the table may be asked for its flags
abbrev refusal_of : Bool → Option Live → Option OsErr
refusal_of nil o = option_or (cond nil (Some NilHandleErr) (cond (live_handle o) None (Some MemWzErr))) (option_or (cond (live_full o || live_pointer o) None (Some NilHandleErr)) None)

full-passes : (nil : Bool) (o : Option Live) → live_full o ≡ true → nil ≡ false → refusal_of nil o ≡ None
full-passes nil None full is = absurd (cc full)
full-passes nil (Some EmptyHandle) full is = absurd (cc full)
full-passes nil (Some (Pointer bytes)) full is = absurd (cc full)
full-passes nil (Some (FullHandle flags bytes)) full is = rw is refl

passes-full : (nil : Bool) (o : Option Live) → refusal_of nil o ≡ None → live_full o ≡ true
passes-full true o is = absurd (cc is)
passes-full false None is = absurd (cc is)
passes-full false (Some EmptyHandle) is = absurd (cc is)
passes-full false (Some (Pointer bytes)) is = absurd (cc is)
passes-full false (Some (FullHandle flags bytes)) is = refl

live-full : (o : Option Live) → live_full o ≡ true → live_handle o ≡ true
live-full None full = absurd (cc full)
live-full (Some EmptyHandle) full = absurd (cc full)
live-full (Some (Pointer bytes)) full = absurd (cc full)
live-full (Some (FullHandle flags bytes)) full = refl

-- HGetState gives the flags of a handle that has a block, and of no other
pub full-answers : (s : Shape) (heap : Heap) (h : ℕ) (result : Result ℕ OsErr) → Sound s heap → MemoryStep s heap (OnBlock (HGetState h)) [] (number_outcome result) heap → is_ok result ≡ is_full heap.table h
full-answers s heap h result sound step = by_refusal (refusal s heap (OnBlock (HGetState h))) refl step result refl
  where
    by_refusal : (o : Option OsErr) → refusal s heap (OnBlock (HGetState h)) ≡ o → StepUnless RequestRun o s heap (OnBlock (HGetState h)) [] (number_outcome result) heap → (r : Result ℕ OsErr) → r ≡ result → is_ok r ≡ is_full heap.table h
    by_refusal None is step (Ok n) same = sym (passes-full (h == 0) (live_at heap.table h) is)
    by_refusal None is step (Err code) same = let ends : Result Results OsErr = Err code in absurd (cc (ap number_outcome same ∙ (let quiet = step.1 in quiet.1)))
    by_refusal (Some code) is step (Ok n) same = absurd (cc (ap number_outcome same ∙ step.1))
    by_refusal (Some code) is step (Err other) same = elim (is_full heap.table h) as (λ b. is_full heap.table h ≡ b → false ≡ b) [
      | true ↦ λ full. absurd (cc (sym is ∙ full-passes (h == 0) (live_at heap.table h) full (handle-not_nil s heap h sound (live-full (live_at heap.table h) full))))
      | false ↦ λ _. refl
    ] refl
