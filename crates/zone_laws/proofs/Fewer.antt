-- What stays as it is in the table while a request runs: whatever still has a block, and what is protected.
use Rattle.std.proofs.Common.{arith, ◌≡◌, ℕ, Bool, true, false, eqb, List, [], ◌∷◌, Option, Some, None, Contains, refl, ap, sym, subst, ◌∙◌, inl, inr}
use Rattle.std.specs.Prelude.{◌&&◌, ◌||◌, ◌⊎◌, Ok, Err, ⊤}
use Rattle.std.proofs.lemmas.Bool.{true≢false}
use Rattle.mac_base.specs.declared.error.OsErr.{OsErr}
use Rattle.mac_base.specs.declared.error.OsErr.TheVariants.{MemFullErr}
use Rattle.mac_base.specs.declared.releasing.ReleasingCall.{ReleasingCall}
use Rattle.mac_base.specs.declared.releasing.ReleasingCall.TheVariants.{DisposesHandle, DisposesPtr, Empties}
use Rattle.mac_base.specs.declared.request.Request.{Request}
use Rattle.mac_base.specs.declared.request.Request.TheVariants.{NewMaster}
use Rattle.mac_base.specs.HandleTable.{HandleTable, Live, EmptyHandle, has_block, live_at, live_full, live_pointer}
use Rattle.mac_base.specs.HeadKind.{Shape}
use Rattle.mac_base.specs.Heap.{Heap, every_slot_live, table_granted, with_all_emptied, with_emptied}
use Rattle.mac_base.specs.Releasing.{heap_released, operand_of}
use Rattle.mac_base.specs.Request.{is_among, makes_handle}
use Rattle.mac_base.specs.Trial.{Fails, MayPrepare, NumberGiven, Preparation, prepared_by}
use Rattle.mac_base.specs.GrowZone.{Ask, carried_out}
use Rattle.mac_base.specs.declared.memory_call.MemoryCall.{MemoryCall}
use Rattle.mac_base.specs.Effect.{request_of, table_copied}
use Rattle.mac_base.specs.MemoryStep.{MemoryStep, QuietStep, StepAsking, StepUnless}
use Rattle.mac_base.specs.Outcomes.{Outcome, given_results}
use Rattle.mac_base.specs.RequestRun.{RequestRun}
use Rattle.mac_base.specs.Tests.{protected_by, refusal}
use Rattle.zone_laws.proofs.SlotPlaces.{Contains-here, Contains-later}
use Rattle.zone_laws.proofs.Tables.{AgreeBut, by_number, live_at-with_live_same, live_at-without_same, with_live_agrees, without_agrees}
use Rattle.zone_laws.specs.Course.{Asked, Begins, Tried, calls_in}
use Rattle.zone_laws.proofs.RunTables.{Asked as RunAsked, Releases, carried-related, failed-related, prepared-related, request-asked}

-- whether what is live has a block
abbrev pub block_live : Option Live → Bool
block_live o = live_full o || live_pointer o

-- what still has a block is as it was, and so is what is protected
pub record Fewer (protected : List ℕ) (old new : HandleTable) : Type 0 where
  pub same : (x : ℕ) → has_block new x ≡ true → live_at new x ≡ live_at old x
  pub protects : (x : ℕ) → is_among protected x ≡ true → live_at new x ≡ live_at old x

pub fewer-refl : (protected : List ℕ) (t : HandleTable) → Fewer protected t t
fewer-refl protected t = record { same = λ x _. refl; protects = λ x _. refl }

-- what has a block had one
pub fewer-block : (protected : List ℕ) (old new : HandleTable) (x : ℕ) → Fewer protected old new → has_block new x ≡ true → has_block old x ≡ true
fewer-block protected old new x fewer h = ap block_live (sym (fewer.same x h)) ∙ h

pub fewer-then : (protected : List ℕ) (a b c : HandleTable) → Fewer protected a b → Fewer protected b c → Fewer protected a c
fewer-then protected a b c one two = record {
  same = λ x h. two.same x h ∙ one.same x (fewer-block protected b c x two h);
  protects = λ x among. two.protects x among ∙ one.protects x among;
}

pub fewer-same : (protected : List ℕ) (a b c : HandleTable) → c ≡ b → Fewer protected a b → Fewer protected a c
fewer-same protected a b c is fewer = subst (λ t. Fewer protected a t) (sym is) fewer

-- what is protected is none that isn't
among_apart : (protected : List ℕ) (x y : ℕ) → is_among protected x ≡ false → is_among protected y ≡ true → eqb y x ≡ false
among_apart protected x y other guarded = grind arith

-- a call that releases a block changes no other
pub released-agrees : (call : ReleasingCall) (heap : Heap) → AgreeBut (operand_of call) heap.table (heap_released call heap).table
released-agrees (DisposesHandle h) heap = without_agrees h heap.table
released-agrees (DisposesPtr p) heap = without_agrees p heap.table
released-agrees (Empties h) heap = with_live_agrees h EmptyHandle heap.table

released-gone : (call : ReleasingCall) (heap : Heap) → has_block (heap_released call heap).table (operand_of call) ≡ false
released-gone (DisposesHandle h) heap = ap block_live (live_at-without_same h heap.table)
released-gone (DisposesPtr p) heap = ap block_live (live_at-without_same p heap.table)
released-gone (Empties h) heap = ap block_live (live_at-with_live_same h EmptyHandle heap.table)

pub fewer-released : (protected : List ℕ) (call : ReleasingCall) (heap : Heap) → is_among protected (operand_of call) ≡ false → Fewer protected heap.table (heap_released call heap).table
fewer-released protected call heap other =
    let new = (heap_released call heap).table in
    let agree = released-agrees call heap in
    record {
      same = by_number (λ x. has_block new x ≡ true → live_at new x ≡ live_at heap.table x) (operand_of call) (λ block. absurd (true≢false (sym block ∙ released-gone call heap))) (λ x apart _. agree.others x apart);
      protects = λ x guarded. agree.others x (among_apart protected (operand_of call) x other guarded);
    }

-- purging
pub fewer-purged : (protected : List ℕ) (hs : List ℕ) (heap : Heap) → ((h : ℕ) → Contains hs h → is_among protected h ≡ false) → Fewer protected heap.table (with_all_emptied hs heap).table
fewer-purged protected [] heap others = fewer-refl protected heap.table
fewer-purged protected (h ∷ hs) heap others =
    let mid = with_emptied heap h in
    fewer-then protected heap.table mid.table (with_all_emptied hs mid).table (fewer-released protected (Empties h) heap (others h (Contains-here h hs))) (fewer-purged protected hs mid (λ y c. others y (Contains-later h hs y c)))

-- so it is of each run and call: a handle is purged, and an answer's call releases a block
pub fewer-releases : (protected : List ℕ) → Releases protected ⊤ (Fewer protected)
fewer-releases protected = record {
  same = fewer-refl protected;
  next = fewer-then protected;
  emptied = λ heap h other may. fewer-released protected (Empties h) heap other;
  released = λ _ call heap other here. fewer-released protected call heap other;
}

pub fewer-failed : (s : Shape) (protected : List ℕ) (r : Request) (old new : Heap) → Fails s protected r old new → Fewer protected old.table new.table
fewer-failed s protected = failed-related s protected ⊤ (Fewer protected) (fewer-releases protected)

pub fewer-prepared : (s : Shape) (protected : List ℕ) (r : Request) (heap : Heap) (p : Preparation) → MayPrepare s protected r heap p → Fewer protected heap.table (prepared_by s p heap).table
fewer-prepared s protected = prepared-related s protected ⊤ (Fewer protected) (fewer-releases protected)

-- ---- trials

-- the table once a request has given x: there was one in which no more has a block than before, and there it was served
pub record Granted (protected : List ℕ) (r : Request) (x : ℕ) (old new : HandleTable) : Type 0 where
  pub before : HandleTable
  pub fewer : Fewer protected old before
  pub number : NumberGiven r x before
  pub table : new ≡ table_granted r x before

module _ (s : Shape) (protected : List ℕ) (r : Request) where
  fewer-asked : (full : Heap) (ask : Ask) (after : Heap) → Asked s protected r full ask after → Fewer protected full.table after.table
  fewer-asked full ask after asked = fewer-same protected full.table (carried_out s protected (calls_in ask.answer) full).heap.table after.table asked.2.table
      (carried-related s protected ⊤ (Fewer protected) (fewer-releases protected) tt (calls_in ask.answer) (record { heap = full; calls = [] }))

  -- the next trial
  pub fewer-tried : (old : Heap) (asks : List Ask) (at : Heap) → Tried s protected r old asks at → Fewer protected old.table at.table
  fewer-tried old [] at tried = fewer-same protected old.table old.table at.table (ap (λ (heap : Heap). heap.table) tried) (fewer-refl protected old.table)
  fewer-tried old (ask ∷ asks) at tried =
      fewer-then protected old.table (tried.0).table at.table (fewer-failed s protected r old tried.0 tried.2)
      (fewer-then protected (tried.0).table (tried.1).table at.table (fewer-asked tried.0 ask tried.1 tried.3) (fewer-tried tried.1 asks at tried.5))

-- where a request of a call begins, and where a trial of it does
pub fewer-begun : (s : Shape) (old : Heap) (call : MemoryCall) (r : Request) (first : List Ask) (from : Heap) → Begins s old call r first from → Fewer (protected_by call) old.table from.table
fewer-begun s old call r first from (inl at_entry) = fewer-same (protected_by call) old.table old.table from.table (ap (λ (heap : Heap). heap.table) at_entry.2) (fewer-refl (protected_by call) old.table)
fewer-begun s old call r first from (inr following) =
    let made = following.2 in
    let serves = made.3 in
    let before = prepared_by s serves.0 made.0 in
    fewer-same (protected_by call) old.table before.table from.table serves.2.table
    (fewer-then (protected_by call) old.table (made.0).table before.table (fewer-tried s (protected_by call) NewMaster old first made.0 made.2) (fewer-prepared s (protected_by call) NewMaster made.0 serves.0 serves.1))

-- ---- a call

-- how a call ended: refused, without a place for its request, with the number that its request gave, or as a call that
-- makes none
pub data Ended (s : Shape) (old : Heap) (call : MemoryCall) (outcome : Outcome) (new : Heap) : Type 0 where
  refused : (code : OsErr) → outcome ≡ Err code → new.table ≡ old.table → Ended s old call outcome new
  unserved : (r : Request) → request_of old.table call ≡ Some r → outcome ≡ Err MemFullErr → Fewer (protected_by call) old.table new.table → Ended s old call outcome new
  served : (r : Request) (x : ℕ) (mid : HandleTable) → request_of old.table call ≡ Some r → refusal s old call ≡ None → Granted (protected_by call) r x old.table mid
      → outcome ≡ Ok (given_results call x) → new.table ≡ table_copied call x old.table mid → Ended s old call outcome new
  quiet : request_of old.table call ≡ None → refusal s old call ≡ None → QuietStep s old call outcome new → Ended s old call outcome new

module _ (s : Shape) (old : Heap) (call : MemoryCall) (asks : List Ask) (outcome : Outcome) (new : Heap) where
  asked-ended : (r : Request) → request_of old.table call ≡ Some r → refusal s old call ≡ None → RunAsked (Fewer (protected_by call)) call r old.table new.table outcome → Ended s old call outcome new
  asked-ended r makes passed asked = by_end asked.ended
    where
      by_end : ((outcome ≡ Err MemFullErr) × (new.table ≡ asked.before)) ⊎ ((x : ℕ) × (outcome ≡ Ok (given_results call x)) × NumberGiven r x asked.before × (new.table ≡ table_copied call x old.table (table_granted r x asked.before)))
          → Ended s old call outcome new
      by_end (inl full) = unserved r makes full.0 (fewer-same (protected_by call) old.table asked.before new.table full.1 asked.related)
      by_end (inr gave) = served r gave.0 (table_granted r gave.0 asked.before) makes passed (record { before = asked.before; fewer = asked.related; number = gave.2; table = refl }) gave.1 gave.3

  asking-ended : (o : Option Request) → request_of old.table call ≡ o → refusal s old call ≡ None → StepAsking RequestRun o s old call asks outcome new → Ended s old call outcome new
  asking-ended (Some r) makes passed step = asked-ended r makes passed
      (request-asked s call ⊤ (Fewer (protected_by call)) (fewer-releases (protected_by call)) (makes_handle r && every_slot_live s old) old r asks outcome new (inr tt) step)
  asking-ended None makes passed step = quiet makes passed step.1

  unless-ended : (o : Option OsErr) → refusal s old call ≡ o → StepUnless RequestRun o s old call asks outcome new → Ended s old call outcome new
  unless-ended (Some code) is step = refused code step.1 step.2.table
  unless-ended None passed step = asking-ended (request_of old.table call) refl passed step

  -- how each call ends
  pub step-ended : MemoryStep s old call asks outcome new → Ended s old call outcome new
  step-ended step = unless-ended (refusal s old call) refl step
