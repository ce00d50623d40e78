-- Where volumes are placed.
use Rattle.std.proofs.Common.{ℕ, zero, suc, arith, ◌<◌, List, [], ◌∷◌, length, get_or}
use Rattle.std.specs.List.{AllByRecursion}
use Rattle.disk_image.specs.declared.place.Placed.{Placed}
use Rattle.disk_image.specs.Images.{IsPlaced}

-- what holds of all holds of one of them
pub each_at : (size : ℕ) (volumes : List Placed) (i : ℕ) (d : Placed) → i < length volumes → AllByRecursion (IsPlaced size) volumes → IsPlaced size (get_or volumes i d)
each_at size [] i d at all = absurd (omega arith)
each_at size (first ∷ volumes) zero d at all = all.0
each_at size (first ∷ volumes) (suc i) d at all = each_at size volumes i d (omega arith) all.1
