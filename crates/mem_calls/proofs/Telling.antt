-- The calls of an answer carried out in order, as far as they are.
use Rattle.std.proofs.Common.{◌≡◌, ℕ, suc, ◌+◌, ◌<◌, true, List, [], ◌∷◌, ◌++◌, length, take, drop, Option, Some, None, refl, ap, sym, ◌∙◌, arith, append-nil, length-append, slice_index_or}
use Rattle.std.specs.List.{flat_map}
use Rattle.std.specs.Option.{option_to_list}
use Rattle.std.proofs.lemmas.Grind.{flat_map-append}
use Rattle.std.proofs.lemmas.List.{take_more}
use Rattle.std.proofs.Math.Seq.{split_at}
use Rattle.mac_base.specs.HeadKind.{Shape}
use Rattle.mac_base.specs.Heap.{Heap}
use Rattle.mac_base.specs.ZoneState.{ZoneState}
use Rattle.mac_base.specs.declared.releasing.ReleasingCall.{ReleasingCall}
use Rattle.linked_zone.specs.Loans.{KeepsLoans}
use Rattle.mac_base.specs.GrowZone.{Answer, Ask, Carried, may_note, carried_once, carried_out}
use Rattle.mem_calls.specs.Requesting.{IsNewlyAnswered, with_carried}
use Rattle.mem_calls.proofs.Carrying.{uncarried, carried-none, carried-more, carried_once-more, carried_from-last, carried_from-few, may_note-carried}

-- the calls in these places
abbrev pub calls_at : List (Option ReleasingCall) → List ReleasingCall
calls_at places = flat_map option_to_list places

-- a place with a call
pub calls-more : (places : List (Option ReleasingCall)) (i : ℕ) (place : Option ReleasingCall) (call : ReleasingCall) → i < length places → place ≡ slice_index_or places i place → place ≡ Some call
    → calls_at (take (i + 1) places) ≡ calls_at (take i places) ++ call ∷ []
calls-more places i place call below at is = ap calls_at (take_more places i place below ∙ ap (λ o. take i places ++ o ∷ []) (sym at ∙ is)) ∙ flat_map-append option_to_list (take i places) (Some call ∷ [])

-- a place without one
pub calls-same : (places : List (Option ReleasingCall)) (i : ℕ) (place : Option ReleasingCall) → i < length places → place ≡ slice_index_or places i place → place ≡ None
    → calls_at (take (i + 1) places) ≡ calls_at (take i places)
calls-same places i place below at is = ap calls_at (take_more places i place below ∙ ap (λ o. take i places ++ o ∷ []) (sym at ∙ is)) ∙ flat_map-append option_to_list (take i places) (None ∷ [])
    ∙ append-nil (calls_at (take i places))

-- before a call there are fewer of them than in all
pub calls-fewer : (places : List (Option ReleasingCall)) (i : ℕ) (place : Option ReleasingCall) (call : ReleasingCall) → i < length places → place ≡ slice_index_or places i place → place ≡ Some call
    → length (calls_at (take i places)) < length (calls_at places)
calls-fewer places i place call below at is =
    let rest = drop (suc i) places in
    let split : places ≡ take i places ++ Some call ∷ rest = split_at places i place below ∙ ap (λ o. take i places ++ o ∷ rest) (sym at ∙ is) in
    let long = ap (λ xs. length (calls_at xs)) split ∙ ap length (flat_map-append option_to_list (take i places) (Some call ∷ rest)) ∙ length-append (calls_at (take i places)) (calls_at (Some call ∷ rest)) in
    let some : length (calls_at (Some call ∷ rest)) ≡ 1 + length (calls_at rest) = omega arith in
    omega (arith, long, some)

-- so far, these calls have been carried out and reported to the procedure
pub record Carries (old : ZoneState) (protected : List ℕ) (before : List Ask) (done : List ReleasingCall) (new : ZoneState) (told : List Ask) : Type 0 where
  pub heap : new.heap ≡ (carried_out old.shape protected done old.heap).heap
  pub notes : told ≡ with_carried (carried_out old.shape protected done old.heap).calls before
  pub shape : new.shape ≡ old.shape
  pub loans : KeepsLoans old new

-- at first none
pub carries-none : (old : ZoneState) (protected : List ℕ) (before : List Ask) → Carries old protected before [] old before
carries-none old protected before = record { heap = refl; notes = sym (carried-none before); shape = refl; loans = (refl, λ x loan lent. lent) }

-- then one more
pub carries-more : (old : ZoneState) (protected : List ℕ) (before : List Ask) (done : List ReleasingCall) (call : ReleasingCall) (mid new : ZoneState) (told later : List Ask) → Carries old protected before done mid told
    → new.heap ≡ (carried_once mid.shape protected call (uncarried mid.heap)).heap → later ≡ with_carried (carried_once mid.shape protected call (uncarried mid.heap)).calls told → new.shape ≡ mid.shape → KeepsLoans mid new
    → Carries old protected before (done ++ call ∷ []) new later
carries-more old protected before done call mid new told later first heap noted shape loans =
    let c = carried_out old.shape protected done old.heap in
    let once : carried_once mid.shape protected call (uncarried mid.heap) ≡ carried_once old.shape protected call (uncarried c.heap)
    = ap (λ (s : Shape). carried_once s protected call (uncarried mid.heap)) first.shape ∙ ap (λ (heap : Heap). carried_once old.shape protected call (uncarried heap)) first.heap in
    let last : carried_out old.shape protected (done ++ call ∷ []) old.heap ≡ record { heap = (carried_once old.shape protected call (uncarried c.heap)).heap; calls = c.calls ++ (carried_once old.shape protected call (uncarried c.heap)).calls }
    = carried_from-last old.shape protected done call (uncarried old.heap) ∙ carried_once-more old.shape protected call c in
    record {
      heap = heap ∙ ap (λ (e : Carried). e.heap) once ∙ sym (ap (λ (e : Carried). e.heap) last);
      notes = noted ∙ ap (λ (e : Carried). with_carried e.calls told) once ∙ ap (with_carried (carried_once old.shape protected call (uncarried c.heap)).calls) first.notes
          ∙ carried-more c.calls (carried_once old.shape protected call (uncarried c.heap)).calls before ∙ sym (ap (λ (e : Carried). with_carried e.calls before) last);
      shape = shape ∙ first.shape;
      loans = (loans.0 ∙ first.loans.0, λ x loan lent. loans.1 x loan (first.loans.1 x loan lent));
    }

-- one more may be reported to the procedure
pub carries-may_note : (old : ZoneState) (protected : List ℕ) (before : List Ask) (done : List ReleasingCall) (mid : ZoneState) (told : List Ask) (a : Answer) → Carries old protected before done mid told
    → IsNewlyAnswered a before → length done < length a.calls → may_note told ≡ true
carries-may_note old protected before done mid told a first asked fewer =
    let few = carried_from-few old.shape protected done (uncarried old.heap) in
    ap may_note first.notes ∙ may_note-carried (carried_out old.shape protected done old.heap).calls a before asked (omega (arith, few))
