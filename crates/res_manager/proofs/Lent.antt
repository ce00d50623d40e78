-- Calls of the Resource Manager lend nothing and take nothing back.
use Rattle.std.proofs.Common.{◌≡◌, ℕ, Bool, List, [], ◌∷◌, Option, Some, None, refl, ◌∙◌}
use Rattle.mac_base.specs.declared.error.OsErr.{OsErr}
use Rattle.mac_base.specs.HeadKind.{Shape}
use Rattle.mac_base.specs.Heap.{Heap}
use Rattle.mac_base.specs.ZoneState.{ZoneState}
use Rattle.mac_base.specs.declared.memory_call.MemoryCall.{MemoryCall}
use Rattle.mac_base.specs.declared.memory_call.MemoryCall.TheVariants.{OnBlock}
use Rattle.mac_base.specs.declared.memory_call.BlockCall.TheVariants.{DisposeHandle}
use Rattle.mac_base.specs.ExactStep.{step_unless, exact_step}
use Rattle.mac_base.specs.GrowZone.{Ask}
use Rattle.mac_base.specs.Outcomes.{Outcome}
use Rattle.mac_base.specs.Tests.{refusal}
use Rattle.zone_laws.proofs.LentSteps.{step_keeps_lent}
use Rattle.res_update.specs.Updates.{disposed}
use Rattle.res_manager.specs.Loading.{place_call}
use Rattle.res_update.specs.Steps.{Memory}

-- a call keeps what is lent where it does so when it isn't refused
unless_refused : (s : Shape) (heap : Heap) (c : MemoryCall) (o : Option OsErr) → (step_unless s [] heap c None).heap.table.lent ≡ heap.table.lent → (step_unless s [] heap c o).heap.table.lent ≡ heap.table.lent
unless_refused s heap c None same = same
unless_refused s heap c (Some code) same = refl

lent_disposing : (s : Shape) (h : ℕ) (heap : Heap) → (exact_step s [] heap (OnBlock (DisposeHandle h))).heap.table.lent ≡ heap.table.lent
lent_disposing s h heap = unless_refused s heap (OnBlock (DisposeHandle h)) (refusal s heap (OnBlock (DisposeHandle h))) refl

-- handles that are disposed of, one after another
pub lent_disposed : (s : Shape) (hs : List ℕ) (heap : Heap) → (disposed s hs heap).table.lent ≡ heap.table.lent
lent_disposed s [] heap = refl
lent_disposed s (h ∷ hs) heap = lent_disposed s hs (exact_step s [] heap (OnBlock (DisposeHandle h))).heap ∙ lent_disposing s h heap

-- the step of the Memory Manager that makes a place
pub lent_placed : (old new : ZoneState) (own : Option ℕ) (size : ℕ) (loads : Bool) (asks : List Ask) (outcome : Outcome) → Memory old.shape old.heap (place_call own size loads) asks outcome new.heap → new.heap.table.lent ≡ old.heap.table.lent
lent_placed old new own size loads asks outcome step = step_keeps_lent old.shape old.heap (place_call own size loads) asks outcome new.heap step.0
