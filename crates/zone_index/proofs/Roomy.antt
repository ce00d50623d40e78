-- Where the most that one gap has is less than is asked for, no gap has room.
use Rattle.std.proofs.Common.{◌≡◌, ℕ, ◌<◌, Bool, false, cond, List, [], ◌∷◌, Some, None, refl, ap, ◌∙◌, arith}
use Rattle.std.specs.Prelude.{map, max, nat_le}
use Rattle.std.proofs.lemmas.Bool.Decides.{nat_tests}
use Rattle.mac_base.specs.Gap.{Gap, lowest_gap, room}
use Rattle.mac_base.specs.Reports.{largest}
use Rattle.zone_index.proofs.Most.{fold-max}

pub none-roomy : (k : ℕ) (gs : List Gap) → largest (map room gs) < k → lowest_gap k gs ≡ None
none-roomy k [] less = refl
none-roomy k (g ∷ gs) less =
    let all = fold-max (max 0 (room g)) (map room gs) in
    let here : nat_le k (room g) ≡ false = small (room g) (omega arith) in
    ap (λ (c : Bool). cond c (Some g) (lowest_gap k gs)) here ∙ none-roomy k gs (omega arith)
  where
    small : (n : ℕ) → n < k → nat_le k n ≡ false
    small n below = grind (arith, nat_tests)
