-- While a request fails and an answer's calls are carried out, what a call protects stays. Made again it is tested,
-- asks and copies alike.
use Rattle.std.proofs.Common.{arith, ◌≡◌, ℕ, true, false, cond, List, [], ◌∷◌, Option, refl, ap, ◌∙◌}
use Rattle.std.specs.Prelude.{is_some}
use Rattle.mac_base.specs.declared.error.OsErr.{OsErr}
use Rattle.mac_base.specs.declared.releasing.ReleasingCall.{ReleasingCall}
use Rattle.mac_base.specs.declared.request.Request.{Request}
use Rattle.mac_base.specs.HandleTable.{HandleTable, is_locked, live_at, live_flags}
use Rattle.mac_base.specs.HeadKind.{Shape}
use Rattle.mac_base.specs.Heap.{Heap, grown, with_all_emptied, with_emptied}
use Rattle.mac_base.specs.Purging.{purged}
use Rattle.mac_base.specs.Releasing.{heap_released}
use Rattle.mac_base.specs.Request.{blocks_to_purge, candidates, fits, is_among, purged_until}
use Rattle.mac_base.specs.declared.memory_call.MemoryCall.{MemoryCall}
use Rattle.mac_base.specs.declared.memory_call.MemoryCall.TheVariants as memory_call
use Rattle.mac_base.specs.declared.memory_call.FillingCall.TheVariants as filling_call
use Rattle.mac_base.specs.declared.memory_call.RequestingCall.TheVariants as requesting_call
use Rattle.mac_base.specs.Effect.{request_of, table_copied}
use Rattle.mac_base.specs.ExactRequest.{prepared}
use Rattle.mac_base.specs.GrowZone.{Carried, carried_out, heap_unless, memory_call as as_call}
use Rattle.mac_base.specs.Tests.{protected_by, refusal}
use Rattle.zone_laws.proofs.Emptied.{candidate-is, purged_until-part}
use Rattle.zone_laws.proofs.Fewer.{fewer-purged}
use Rattle.zone_laws.proofs.RunPermitted.{running-carried_out}
use Rattle.zone_laws.proofs.StepRequests.{first_among, second_among}
use Rattle.zone_laws.proofs.Trials.{carried-steps}

-- what is protected is as it was, and the same blocks are lent
pub record Kept (protected : List ℕ) (old new : Heap) : Type 0 where
  pub protects : (y : ℕ) → is_among protected y ≡ true → live_at new.table y ≡ live_at old.table y
  pub lent : new.table.lent ≡ old.table.lent

pub kept-then : (protected : List ℕ) (a b c : Heap) → Kept protected a b → Kept protected b c → Kept protected a c
kept-then protected a b c one two = record { protects = λ y among. two.protects y among ∙ one.protects y among; lent = two.lent ∙ one.lent }

-- ---- a trial

lent-emptied : (hs : List ℕ) (heap : Heap) → (with_all_emptied hs heap).table.lent ≡ heap.table.lent
lent-emptied [] heap = refl
lent-emptied (h ∷ hs) heap = lent-emptied hs (with_emptied heap h)

slots-emptied : (hs : List ℕ) (heap : Heap) → (with_all_emptied hs heap).free_slots ≡ heap.free_slots
slots-emptied [] heap = refl
slots-emptied (h ∷ hs) heap = slots-emptied hs (with_emptied heap h)

module _ (s : Shape) (protected : List ℕ) (r : Request) (heap : Heap) where
  abbrev purges : List ℕ
  purges = let wide = grown s heap in purged_until (fits s heap.table r) (candidates heap.table protected r wide.map) wide.map

  pub kept-prepared : Kept protected heap (prepared s protected r heap)
  kept-prepared = elim (fits s heap.table r heap.map) as (λ b. Kept protected heap (cond b heap (purged s protected r (grown s heap)))) [
    | true ↦ record { protects = λ y among. refl; lent = refl }
    | false ↦ let wide = grown s heap in
        let fewer = fewer-purged protected purges wide (λ h c. (candidate-is heap.table protected (blocks_to_purge heap.table r wide.map) h
        (purged_until-part (fits s heap.table r) (candidates heap.table protected r wide.map) wide.map h c)).unprotected) in
        record { protects = fewer.protects; lent = lent-emptied purges wide }
  ]

  pub slots-prepared : (prepared s protected r heap).free_slots ≡ heap.free_slots
  slots-prepared = elim (fits s heap.table r heap.map) as
      (λ b. (cond b heap (purged s protected r (grown s heap))).free_slots ≡ heap.free_slots) [
        | true ↦ refl
        | false ↦ slots-emptied purges (grown s heap)
      ]

-- ---- an answer's calls

lent-unless : (call : ReleasingCall) (heap : Heap) (o : Option OsErr)
    → (heap_unless o (heap_released call heap) heap).table.lent ≡ heap.table.lent
lent-unless v0 heap v2 = grind arith

pub kept-carried : (s : Shape) (protected : List ℕ) (calls : List ReleasingCall) (heap : Heap)
    → Kept protected heap (carried_out s protected calls heap).heap
kept-carried s protected calls heap = record {
  protects = (running-carried_out s protected calls heap).protects;
  lent = carried-steps s protected (λ (c : Carried). c.heap.table.lent ≡ heap.table.lent)
      (λ call c other here. lent-unless call c.heap (refusal s c.heap (as_call call)) ∙ here) calls
      (record { heap = heap; calls = [] }) refl;
}

-- ---- the call made again

-- The call is tested alike, makes the same request, and copies the same bytes.
pub record SameCall (s : Shape) (call : MemoryCall) (old new : Heap) : Type 0 where
  pub refusal : refusal s new call ≡ refusal s old call
  pub request : request_of new.table call ≡ request_of old.table call
  pub copied : (x : ℕ) (t : HandleTable) → table_copied call x new.table t ≡ table_copied call x old.table t

module _ (s : Shape) (old new : Heap) where
  -- a call with one protected operand, and one with two
  one-kept : (x : ℕ) → Kept (x ∷ []) old new → live_at new.table x ≡ live_at old.table x
  one-kept x kept = kept.protects x (first_among x [])

  first-kept : (x y : ℕ) → Kept (x ∷ y ∷ []) old new → live_at new.table x ≡ live_at old.table x
  first-kept x y kept = kept.protects x (first_among x (y ∷ []))

  second-kept : (x y : ℕ) → Kept (x ∷ y ∷ []) old new → live_at new.table y ≡ live_at old.table y
  second-kept x y kept = kept.protects y (second_among x y)

  lock-kept : (x : ℕ) → Kept (x ∷ []) old new → is_locked new.table x ≡ is_locked old.table x
  lock-kept x kept = ap (λ o. (live_flags o).lock) (one-kept x kept)

  pub same-call : (call : MemoryCall) → Kept (protected_by call) old new → is_some (request_of old.table call) ≡ true
      → SameCall s call old new
  same-call (memory_call.Requesting (requesting_call.NewHandle n)) kept asks = record { refusal = refl; request = refl; copied = λ x t. refl }
  same-call (memory_call.Requesting requesting_call.NewEmptyHandle) kept asks = record { refusal = refl; request = refl; copied = λ x t. refl }
  same-call (memory_call.Requesting (requesting_call.NewPtr n)) kept asks = record { refusal = refl; request = refl; copied = λ x t. refl }
  same-call (memory_call.Requesting requesting_call.MoreMasters) kept asks = record { refusal = refl; request = refl; copied = λ x t. refl }
  same-call (memory_call.Requesting (requesting_call.ReserveMem n)) kept asks = record { refusal = refl; request = refl; copied = λ x t. refl }
  same-call (memory_call.Requesting (requesting_call.SetHandleSize h n)) kept asks =
      record { refusal = rw (one-kept h kept, kept.lent) refl; request = refl; copied = λ x t. refl }
  same-call (memory_call.Requesting (requesting_call.SetPtrSize p n)) kept asks =
      record { refusal = rw (one-kept p kept, kept.lent) refl; request = refl; copied = λ x t. refl }
  same-call (memory_call.Requesting (requesting_call.ReallocateHandle h n)) kept asks =
      record { refusal = rw (lock-kept h kept, one-kept h kept, kept.lent) refl; request = refl; copied = λ x t. refl }
  same-call (memory_call.Filling (filling_call.HandToHand h)) kept asks =
      record {
        refusal = rw (one-kept h kept, kept.lent) refl;
        request = rw (one-kept h kept) refl;
        copied =
            λ x t. rw (one-kept h kept) refl;
      }
  same-call (memory_call.Filling (filling_call.PtrToHand p n)) kept asks =
      record { refusal = rw (one-kept p kept, kept.lent) refl; request = refl; copied = λ x t. rw (one-kept p kept) refl }
  same-call (memory_call.Filling (filling_call.PtrToXHand p h n)) kept asks =
      record {
        refusal = rw (first-kept p h kept, second-kept p h kept, kept.lent) refl;
        request = refl;
        copied =
            λ x t. rw (first-kept p h kept) refl;
      }
  same-call (memory_call.Filling (filling_call.PtrAndHand p h n)) kept asks =
      record {
        refusal = rw (first-kept p h kept, second-kept p h kept, kept.lent) refl;
        request = rw (second-kept p h kept) refl;
        copied =
            λ x t. rw (first-kept p h kept, second-kept p h kept) refl;
      }
  same-call (memory_call.Filling (filling_call.NewHandleOf bytes)) kept asks = record { refusal = refl; request = refl; copied = λ x t. refl }
  same-call (memory_call.Filling (filling_call.SetHandleTo h bytes)) kept asks =
      record { refusal = rw (one-kept h kept, kept.lent) refl; request = refl; copied = λ x t. refl }
  same-call (memory_call.Filling (filling_call.Append h bytes)) kept asks =
      record {
        refusal = rw (one-kept h kept, kept.lent) refl;
        request = rw (one-kept h kept) refl;
        copied =
            λ x t. rw (one-kept h kept) refl;
      }
  same-call (memory_call.Filling (filling_call.HandAndHand a b)) kept asks =
      record {
        refusal = rw (first-kept a b kept, second-kept a b kept, kept.lent) refl;
        request =
            rw (first-kept a b kept, second-kept a b kept) refl;
        copied = λ x t. rw (first-kept a b kept, second-kept a b kept) refl;
      }
  same-call call kept asks = absurd (cc asks)
