use Rattle.std.proofs.Common.{◌≡◌, ℕ, ◌==◌, List, false, ap}
use Rattle.std.specs.List.{list_any}
use Rattle.mac_base.specs.HandleTable.{is_lent}
use Rattle.zone_heap.proofs.zone.Zone.adopt.Goals as goal

pub invariant_of-result : goal.invariant_of-result
invariant_of-result c =
    let zone = c.in_ok-pointers.ensures.zone.0 in
    record {
      sound = zone.sound;
      fixed = λ x lent. let not_lent : is_lent c.in_ok-pointers.pointers.heap.table x ≡ false = ap (λ (xs : List ℕ). list_any (λ y. y == x) xs) zone.nothing_lent in absurd (cc (not_lent, lent));
    }
