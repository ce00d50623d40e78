-- The largest of free blocks.
use Rattle.std.proofs.Common.{◌≡◌, [], ◌∷◌, refl, ap, arith}
use Rattle.std.specs.Prelude.{⊤}
use Rattle.sum_tree.specs.Largest.{largest_laws, of_size}
use Rattle.mac_base.specs.HandleTable.{HandleTable}
use Rattle.mac_base.specs.ZoneMap.{ZoneMap, largest_free}
use Rattle.zone_index.specs.Free.{largest_of, summing_largest}
use Rattle.zone_index.specs.Weights.{weights}
use Rattle.zone_index.proofs.Summing.{IsSumming}

pub largest_are : IsSumming summing_largest (λ x. ⊤)
largest_are = record { laws = largest_laws; idle = λ w moves none. ap of_size none }

-- that of all blocks
pub largest_of-all : (t : HandleTable) (m : ZoneMap) → (largest_of (weights t m)).bytes ≡ largest_free m
largest_of-all t [] = refl
largest_of-all t (e ∷ es) = let rest = largest_of-all t es in omega arith
