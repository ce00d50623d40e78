-- A locked handle stays as it is while steps are made on others, where no procedure answers.
use Rattle.std.proofs.Common.{◌≡◌, ◌≢◌, ℕ, zero, suc, ◌<◌, eqb, length, replicate, get_or, true, false, List, [], ◌∷◌, ◌++◌, Option, Some, None, Ok, refl, ap, sym, subst, ◌∙◌, inl, inr}
use Rattle.std.specs.Prelude.{⊤, slice_index, slice_set}
use Rattle.std.proofs.lemmas.Bool.{true≢false, false_from_ne_true, eqb-true}
use Rattle.std.proofs.lemmas.List.{get_or_default}
use Rattle.mac_base.specs.declared.error.OsErr.{OsErr}
use Rattle.mac_base.specs.declared.request.Request.TheVariants.{NewBlock, Resize}
use Rattle.mac_base.specs.HandleTable.{HandleTable, Live, EmptyHandle, FullHandle, Pointer, bytes_of, flags_of, is_locked, live_at, live_flags, live_handle, no_flags, refilled, resized, zeros}
use Rattle.mac_base.specs.HeadKind.{Shape}
use Rattle.mac_base.specs.Heap.{Heap, every_slot_live}
use Rattle.mac_base.specs.Sound.{Sound}
use Rattle.mac_base.specs.declared.memory_call.MemoryCall.{MemoryCall}
use Rattle.mac_base.specs.declared.reply.Results.TheVariants as results
use Rattle.mac_base.specs.Effect.{request_of}
use Rattle.mac_base.specs.GrowZone.{Ask, answers_in, asked_in_vain}
use Rattle.mac_base.specs.MemoryStep.{MemoryStep, StepAsking, StepUnless}
use Rattle.mac_base.specs.Outcomes.{Outcome}
use Rattle.mac_base.specs.RequestRun.{RequestRun}
use Rattle.mac_base.specs.Tests.{protected_by, refusal}
use Rattle.zone_laws.proofs.Tables.{with_live_agrees, without_agrees}
use Rattle.zone_laws.proofs.SuitsNil.{nil-no_handle}
use Rattle.zone_laws.proofs.RunTables.{Releases, request-asked}
use Rattle.paint_trace.specs.declared.trace.Action.{Action}
use Rattle.paint_trace.specs.declared.trace.Action.TheVariants as action
use Rattle.mac_base.specs.declared.releasing.ReleasingCall.{ReleasingCall}
use Rattle.paint_trace.specs.declared.procedure.Carried.{Carried}
use Rattle.paint_trace.specs.declared.procedure.Procedure.{Procedure}
use Rattle.paint_trace.specs.Trace.{IsOther, KeepsOthers, answers_of, asks_of, call_of, given_asks, source_of}

-- h is as it was
abbrev Same : ℕ → HandleTable → HandleTable → Type 0
Same h old new = live_at new h ≡ live_at old h

still_locked : (h : ℕ) (old new : HandleTable) → Same h old new → is_locked old h ≡ true → is_locked new h ≡ true
still_locked h old new same locked = ap (λ o. (live_flags o).lock) same ∙ locked

apart : (h y : ℕ) → y ≢ h → eqb h y ≡ false
apart h y other = false_from_ne_true (eqb h y) (λ is. other (sym (eqb-true h y is)))

-- another number than that of a locked handle
unlocked_other : (t : HandleTable) (h y : ℕ) → is_locked t h ≡ true → is_locked t y ≡ false → y ≢ h
unlocked_other t h y locked free = λ is. true≢false (sym locked ∙ subst (λ z. is_locked t z ≡ false) is free)

-- a locked h is as it was
abbrev SameLocked : ℕ → HandleTable → HandleTable → Type 0
SameLocked h old new = is_locked old h ≡ true → Same h old new

-- so it is while nobody answers
locked_rel : (h : ℕ) (protected : List ℕ) → Releases protected ⊥ (SameLocked h)
locked_rel h protected = record {
  same = λ t locked. refl;
  next = λ a b c one two locked. two (still_locked h a b (one locked) locked) ∙ one locked;
  emptied = λ heap y _ may locked. (with_live_agrees y EmptyHandle heap.table).others h (apart h y (unlocked_other heap.table h y locked may.unlocked));
  released = λ no call heap _ _. absurd no;
}

-- the outcome gives no handle, or another one
abbrev OutcomeOther : ℕ → Outcome → Type 0
OutcomeOther h (Ok (results.Handle x)) = x ≢ h
OutcomeOther h _ = ⊤

-- the call leaves a locked h as it is, and gives another handle
record Keeps (h : ℕ) (old : Heap) (outcome : Outcome) (new : Heap) : Type 0 where
  pub same : Same h old.table new.table
  pub other : OutcomeOther h outcome

-- h is as it was in a table that is the new one
kept : (h : ℕ) (old new : Heap) {t : HandleTable} (outcome : Outcome) {o : Outcome} → new.table ≡ t → Same h old.table t → outcome ≡ o → OutcomeOther h o → Keeps h old outcome new
kept h old new outcome table same is other = record { same = ap (λ (t : HandleTable). live_at t h) table ∙ same; other = subst (OutcomeOther h) (sym is) other }

-- ---- a step

kept_asking : (h : ℕ) (s : Shape) (old : Heap) (g : ℕ) (act : Action) (asks : List Ask) (outcome : Outcome) (new : Heap) → StepAsking RequestRun (request_of old.table (call_of g act)) s old (call_of g act) asks outcome new → answers_in asks ≡ [] → g ≢ h → is_locked old.table h ≡ true → Keeps h old outcome new
kept_asking h s old g (action.NewHandle n) asks outcome new step none other locked =
    let call : MemoryCall = call_of g (action.NewHandle n) in
    let a = request-asked s call ⊥ (SameLocked h) (locked_rel h (protected_by call)) (every_slot_live s old) old (NewBlock n) asks outcome new (inl none) step in
    let same = a.related locked in
    elim a.ended [
      | inl e ↦ kept h old new outcome e.1 same e.0 tt
      | inr e ↦ (let x_other = unlocked_other a.before h e.0 (still_locked h old.table a.before same locked) (ap (λ o. (live_flags o).lock) e.2) in
          kept h old new outcome e.3 ((with_live_agrees e.0 (FullHandle no_flags (zeros n)) a.before).others h (apart h e.0 x_other) ∙ same) e.1 x_other)
    ]
kept_asking h s old g (action.SetHandleSize n) asks outcome new step none other locked =
    let call : MemoryCall = call_of g (action.SetHandleSize n) in
    let a = request-asked s call ⊥ (SameLocked h) (locked_rel h (protected_by call)) false old (Resize g n) asks outcome new (inl none) step in
    let same = a.related locked in
    elim a.ended [
      | inl e ↦ kept h old new outcome e.1 same e.0 tt
      | inr e ↦ kept h old new outcome e.3 ((with_live_agrees g (refilled (resized n (bytes_of a.before g)) (live_at a.before g)) a.before).others h (apart h g other) ∙ same) e.1 tt
    ]
kept_asking h s old g action.HLock asks outcome new step none other locked =
    kept h old new outcome step.1.0.table ((with_live_agrees g (FullHandle (record (flags_of old.table g) { lock = true }) (bytes_of old.table g)) old.table).others h (apart h g other)) step.1.1 tt
kept_asking h s old g action.HUnlock asks outcome new step none other locked =
    kept h old new outcome step.1.0.table ((with_live_agrees g (FullHandle (record (flags_of old.table g) { lock = false }) (bytes_of old.table g)) old.table).others h (apart h g other)) step.1.1 tt
kept_asking h s old g action.HPurge asks outcome new step none other locked =
    kept h old new outcome step.1.0.table ((with_live_agrees g (FullHandle (record (flags_of old.table g) { purge = true }) (bytes_of old.table g)) old.table).others h (apart h g other)) step.1.1 tt
kept_asking h s old g action.DisposeHandle asks outcome new step none other locked =
    kept h old new outcome step.1.0.table ((without_agrees g old.table).others h (apart h g other)) step.1.1 tt

kept_unless : (o : Option OsErr) (h : ℕ) (s : Shape) (old : Heap) (g : ℕ) (act : Action) (asks : List Ask) (outcome : Outcome) (new : Heap) → StepUnless RequestRun o s old (call_of g act) asks outcome new → answers_in asks ≡ [] → g ≢ h → is_locked old.table h ≡ true → Keeps h old outcome new
kept_unless (Some code) h s old g act asks outcome new step none other locked = kept h old new outcome step.2.table refl step.1 tt
kept_unless None h s old g act asks outcome new step none other locked = kept_asking h s old g act asks outcome new step none other locked

-- a step on another handle keeps a locked one, and gives no new block its number
step_keeps_locked : (s : Shape) (old : Heap) (g : ℕ) (act : Action) (asks : List Ask) (outcome : Outcome) (new : Heap) (h : ℕ) → MemoryStep s old (call_of g act) asks outcome new → answers_in asks ≡ [] → g ≢ h → is_locked old.table h ≡ true → Keeps h old outcome new
step_keeps_locked s old g act asks outcome new h step none other locked = kept_unless (refusal s old (call_of g act)) h s old g act asks outcome new step none other locked

-- nobody answers in vain
in_vain : (needed : Option ℕ) → answers_in (asked_in_vain needed) ≡ []
in_vain None = refl
in_vain (Some n) = refl

without_cushion : (cushion : Option ReleasingCall) (given : Option ℕ) (carried : Option Carried) (needed : Option ℕ) → answers_of cushion ≡ [] → answers_in (given_asks cushion given carried ++ asked_in_vain needed) ≡ []
without_cushion None given carried needed none = in_vain needed
without_cushion (Some call) given carried needed none = absurd (cc none)

-- nobody answers where there was no answer
pub none_answered : (p : Procedure) → source_of p ≡ [] → answers_in (asks_of p) ≡ []
none_answered p none = without_cushion p.cushion p.given_for p.carried p.in_vain none

-- a step keeps what is locked and none of the trace's; d is what a read past the handles would give
pub others_kept : (handles : List ℕ) (block d : ℕ) (s : Shape) (old : Heap) (act : Action) (asks : List Ask) (outcome : Outcome) (new : Heap) → block < length handles → answers_in asks ≡ [] → MemoryStep s old (call_of (get_or handles block d) act) asks outcome new
    → KeepsOthers handles old.table handles new.table
others_kept handles block d s old act asks outcome new within none step = λ h locked other.
    ((step_keeps_locked s old (get_or handles block d) act asks outcome new h step none (λ same. other block (get_or_default handles block 0 d within ∙ same)) locked).same, other)

set_other : (xs : List ℕ) (i x k h : ℕ) → x ≢ h → slice_index xs k ≢ h → slice_index (slice_set xs i x) k ≢ h
set_other [] i x k h new old = old
set_other (y ∷ ys) zero x zero h new old = new
set_other (y ∷ ys) zero x (suc k) h new old = old
set_other (y ∷ ys) (suc i) x zero h new old = old
set_other (y ∷ ys) (suc i) x (suc k) h new old = set_other ys i x k h new old

-- and so does one that gives a new block, whose handle becomes one of the trace's
pub others_given : (handles : List ℕ) (block n : ℕ) (s : Shape) (old : Heap) (p : Procedure) (x : ℕ) (new : Heap) → source_of p ≡ [] → MemoryStep s old (call_of (slice_index handles block) (action.NewHandle n)) (asks_of p) (Ok (results.Handle x)) new
    → KeepsOthers handles old.table (slice_set handles block x) new.table
others_given handles block n s old p x new none step = λ h locked other.
    let keeps = step_keeps_locked s old (slice_index handles block) (action.NewHandle n) (asks_of p) (Ok (results.Handle x)) new h step (none_answered p none) (other block) locked in
    (keeps.same, λ k. set_other handles block x k h keeps.other (other k))

-- ---- the first step

nil_unlocked : (o : Option Live) → live_handle o ≡ false → (live_flags o).lock ≡ false
nil_unlocked None none = refl
nil_unlocked (Some EmptyHandle) none = refl
nil_unlocked (Some (FullHandle flags bytes)) none = absurd (cc none)
nil_unlocked (Some (Pointer bytes)) none = refl

all_nil : (n nil h block : ℕ) → nil ≢ h → 0 ≢ h → slice_index (replicate n nil) block ≢ h
all_nil zero nil h block other zero_other = zero_other
all_nil (suc n) nil h zero other zero_other = other
all_nil (suc n) nil h (suc block) other zero_other = all_nil n nil h block other zero_other

-- a locked handle is none of a trace's that has no block yet
pub other_at_first : (s : Shape) (heap : Heap) (n nil h : ℕ) → Sound s heap → nil ≡ 0 → is_locked heap.table h ≡ true → IsOther (replicate n nil) h
other_at_first s heap n nil h sound is locked =
    let other : 0 ≢ h = unlocked_other heap.table h 0 locked (nil_unlocked (live_at heap.table 0) (nil-no_handle s heap.table heap.map sound.suits)) in
    λ block. all_nil n nil h block (λ same. other (sym is ∙ same)) other
