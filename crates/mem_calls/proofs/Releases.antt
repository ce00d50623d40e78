-- EmptyHandle is refused where one of its tests fails.
use Rattle.std.proofs.Common.{◌≡◌, ℕ, [], ◌∷◌, Some, None, Ok, Err, refl, ap, sym, ◌∙◌}
use Rattle.std.specs.Prelude.{Result}
use Rattle.std.specs.Result.{IsErrAnd}
use Rattle.mac_base.specs.declared.error.OsErr.{OsErr}
use Rattle.mac_base.specs.declared.error.OsErr.TheVariants.{MemPurErr}
use Rattle.mac_base.specs.HeadKind.{Shape}
use Rattle.mac_base.specs.Heap.{Heap}
use Rattle.mac_base.specs.ZoneState.{ZoneState}
use Rattle.mac_base.specs.declared.releasing.ReleasingCall.{ReleasingCall}
use Rattle.mac_base.specs.GrowZone.{memory_call}
use Rattle.mac_base.specs.Tests.{IsHandle, NotLent, NotLocked, first_refusal, refusal}
use Rattle.mac_base.specs.declared.memory_call.MemoryCall.TheVariants.{OnBlock}
use Rattle.mac_base.specs.declared.memory_call.BlockCall.TheVariants.{EmptyHandle}
use Rattle.mem_calls.specs.Releasing.{EndsRelease}
use Rattle.mem_calls.proofs.Passing.{refused-first, refused-later}

-- the handle isn't live, or is lent
pub empty-not_here : (s : Shape) (heap : Heap) (h : ℕ) (code : OsErr) → first_refusal s heap (IsHandle h ∷ NotLent h ∷ []) ≡ Some code → refusal s heap (OnBlock (EmptyHandle h)) ≡ Some code
empty-not_here s heap h code is = refused-first s heap (IsHandle h ∷ NotLent h ∷ []) (NotLocked MemPurErr h ∷ []) code is

-- it is locked
pub empty-locked : (s : Shape) (heap : Heap) (h : ℕ) (code : OsErr) → first_refusal s heap (IsHandle h ∷ NotLent h ∷ []) ≡ None → first_refusal s heap (NotLocked MemPurErr h ∷ []) ≡ Some code
    → refusal s heap (OnBlock (EmptyHandle h)) ≡ Some code
empty-locked s heap h code passed is = refused-later s heap (IsHandle h ∷ NotLent h ∷ []) (NotLocked MemPurErr h ∷ []) code passed is

-- a call that is refused has changed nothing
pub ends-refused : (call same : ReleasingCall) (old : ZoneState) (result : Result (Unit {0}) OsErr) (code : OsErr) → call ≡ same → refusal old.shape old.heap (memory_call same) ≡ Some code
    → IsErrAnd result (λ e. e ≡ code) → EndsRelease call old result old
ends-refused call same old (Ok u) code is refused h = absurd h
ends-refused call same old (Err e) code is refused h = (ap (λ c. refusal old.shape old.heap (memory_call c)) is ∙ refused ∙ ap Some (sym h), refl)
