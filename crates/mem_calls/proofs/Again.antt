-- After a trial that fails and a turn of the procedure the request can be made again.
use Rattle.std.proofs.Common.{◌≡◌, ℕ, Bool, true, List, None, subst, sym}
use Rattle.mac_base.specs.HeadKind.{Shape}
use Rattle.mac_base.specs.Heap.{Heap}
use Rattle.mac_base.specs.ZoneState.{ZoneState}
use Rattle.mac_base.specs.declared.request.Request.{Request}
use Rattle.mac_base.specs.GrowZone.{Ask}
use Rattle.zone_heap.specs.Attempts.{CanAsk}
use Rattle.zone_heap.specs.Purge.{is_protected}
use Rattle.mem_calls.specs.Requesting.{IsTrial, IsTurn, calls_in}
use Rattle.mem_calls.proofs.Keeping.{Keeps, keeps-both, keeps-prepared, keeps-carried_out, ready-kept}

-- what is protected stays as it is
pub keeps-again : (s t : Shape) (protected : List ℕ) (r : Request) (old mid new : Heap) (before after : List Ask) (again : Bool) → IsTrial s protected r old None mid → IsTurn t protected r mid before again after new → Keeps protected old new
keeps-again s t protected r old mid new before after again trial (answer, following, worth, is) =
    keeps-both protected old mid new
    (subst (λ heap. Keeps protected old heap) (sym trial.1) (keeps-prepared s protected r old))
    (subst (λ heap. Keeps protected mid heap) (sym is) (keeps-carried_out t protected (calls_in answer) mid))

-- the request can be made
pub can_ask-again : (protected : List ℕ) (r : Request) (old new : ZoneState) → Keeps protected old.heap new.heap → is_protected protected r ≡ true → CanAsk old r → CanAsk new r
can_ask-again protected r old new keeps among ready = record { size = ready.size; operand = ready-kept protected r old.heap new.heap keeps among ready.operand }
