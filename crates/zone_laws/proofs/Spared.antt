-- What is lent stays as it is in the table where a block is released that isn't lent.
use Rattle.std.proofs.Common.{◌≡◌, ℕ, true, false, refl, ap, sym, ◌∙◌}
use Rattle.std.specs.Prelude.{◌||◌, ◌==◌}
use Rattle.std.specs.List.{list_any}
use Rattle.mac_base.specs.declared.releasing.ReleasingCall.{ReleasingCall}
use Rattle.mac_base.specs.declared.releasing.ReleasingCall.TheVariants.{DisposesHandle, DisposesPtr, Empties}
use Rattle.mac_base.specs.HandleTable.{HandleTable, EmptyHandle, is_lent, live_at, live_flags, live_pointer}
use Rattle.mac_base.specs.Heap.{Heap}
use Rattle.mac_base.specs.Loans.{LoansAreFixed}
use Rattle.mac_base.specs.Releasing.{heap_released, operand_of}
use Rattle.zone_laws.proofs.Lent.{lent-apart}
use Rattle.zone_laws.proofs.Tables.{with_live_agrees, without_agrees}

-- the same are lent, and each is as it was
pub record Spared (old new : HandleTable) : Type 0 where
  pub lent : new.lent ≡ old.lent
  pub same : (x : ℕ) → is_lent old x ≡ true → live_at new x ≡ live_at old x

pub spared-fixed : (old new : Heap) → Spared old.table new.table → LoansAreFixed old → LoansAreFixed new
spared-fixed old new spared fixed x lent =
    let was = ap (list_any (λ y. y == x)) (sym spared.lent) ∙ lent in
    ap (λ o. live_pointer o || (live_flags o).lock) (spared.same x was) ∙ fixed x was

pub spared-released : (call : ReleasingCall) (heap : Heap) → is_lent heap.table (operand_of call) ≡ false → Spared heap.table (heap_released call heap).table
spared-released (DisposesHandle h) heap here = record { lent = refl; same = λ x lent. (without_agrees h heap.table).others x (lent-apart heap.table h x here lent) }
spared-released (DisposesPtr p) heap here = record { lent = refl; same = λ x lent. (without_agrees p heap.table).others x (lent-apart heap.table p x here lent) }
spared-released (Empties h) heap here = record { lent = refl; same = λ x lent. (with_live_agrees h EmptyHandle heap.table).others x (lent-apart heap.table h x here lent) }
