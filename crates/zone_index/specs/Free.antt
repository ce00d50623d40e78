-- The largest free blocks, by the sums of the blocks that begin in each leaf of a zone.
use Rattle.std.specs.Prelude.{ℕ, ◌-◌, ◌<◌, ◌≤◌, List}
use Rattle.sum_tree.specs.declared.largest.Largest.{Largest}
use Rattle.sum_tree.specs.Largest.{no_block, larger, of_size}
use Rattle.sum_tree.specs.Leaves.{begun}
use Rattle.mac_base.specs.HeadKind.{zone_header}
use Rattle.mac_base.specs.ZoneState.{ZoneState}
use Rattle.zone_index.specs.declared.weight.Weight.{Weight}
use Rattle.zone_index.specs.Leaves.{Summing, sum_in, sum_over}
use Rattle.zone_index.specs.Weights.{weights}

-- the largest free block is summed up
abbrev pub summing_largest : Summing Largest
summing_largest = record { empty = no_block; op = larger; one = λ (w : Weight). of_size w.free }

-- that of many blocks
abbrev pub largest_of : List Weight → Largest
largest_of = sum_over summing_largest

-- that of the blocks that begin in a leaf
abbrev pub largest_in : ZoneState → ℕ → Largest
largest_in = sum_in summing_largest

-- no free block that begins below an address has k bytes
pub record SmallBelow (z : ZoneState) (from k : ℕ) : Type 0 where
  pub low : z.shape.base ≤ from
  pub small : (largest_of (begun (λ (w : Weight). w.bytes) 0 (from - z.shape.base) zone_header (weights z.heap.table z.heap.map))).bytes < k
