-- Sums of the blocks that begin in each leaf of a zone. A leaf has 256 bytes.
use Rattle.std.specs.Prelude.{◌≡◌, ℕ, ◌+◌, ◌-◌, ◌/◌, ◌<◌, ◌≤◌, ◌⊎◌, IsTrue, true, false, List, ◌++◌, map, length, replicate}
use Rattle.std.proofs.Common.{get_or}
use Rattle.sum_tree.specs.Leaves.{leaf_sum}
use Rattle.sum_tree.specs.Monoids.{total}
use Rattle.sum_tree.specs.Stale.{Stored, AreRight, AllRight}
use Rattle.mac_base.specs.HeadKind.{Shape, zone_header}
use Rattle.mac_base.specs.ZoneMap.{ZoneMap, free_bytes, total_size}
use Rattle.mac_base.specs.ZoneState.{ZoneState}
use Rattle.linked_zone.specs.Places.{SplitAt}
use Rattle.zone_index.specs.declared.weight.Weight.{Weight}
use Rattle.zone_index.specs.Weights.{weights}

-- the bytes of a leaf
abbrev pub leaf_size : ℕ
leaf_size = 0x100

-- the leaf of an address
abbrev pub leaf : Shape → ℕ → ℕ
leaf s at = (at - s.base) / leaf_size

-- how many leaves a zone has at most
abbrev pub leaf_count : ZoneState → ℕ
leaf_count z = z.shape.limit / leaf_size + 1

-- what is summed up of blocks: what none has, how two sums are joined, and what one block has
pub record Summing (M : Type 0) : Type 0 where
  pub empty : M
  pub op : M → M → M
  pub one : Weight → M

-- what many have
abbrev pub sum_over : {M : Type 0} → Summing M → List Weight → M
sum_over s ws = total s.empty s.op (map s.one ws)

-- what those have that begin in a leaf
abbrev pub sum_in : {M : Type 0} → Summing M → ZoneState → ℕ → M
sum_in s z i = leaf_sum s.empty s.op (λ (w : Weight). w.bytes) s.one zone_header (weights z.heap.table z.heap.map) i

-- the sums of all leaves, of which those that aren't stale are right
pub record AreSums {M : Type 0} (s : Summing M) (z : ZoneState) (kept : Stored M) : Type 0 where
  pub places : length kept.sums ≡ leaf_count z
  pub right : AreRight s.empty kept.sums kept.stale (sum_in s z)

-- all are right
pub record AllFresh {M : Type 0} (s : Summing M) (z : ZoneState) (kept : Stored M) : Type 0 where
  pub places : length kept.sums ≡ leaf_count z
  pub right : AllRight s.empty kept.sums (sum_in s z)

-- so many sums of nothing, all stale
pub record AllNew {M : Type 0} (empty : M) (kept : Stored M) (count : ℕ) : Type 0 where
  pub sums : kept.sums ≡ replicate count empty
  pub stale : kept.stale ≡ replicate count true

-- the sum of a leaf is stale now, and those that were
pub record TouchedAt {M : Type 0} (old new : Stored M) (i : ℕ) : Type 0 where
  pub sums : new.sums ≡ old.sums
  pub here : IsTrue (get_or new.stale i false)
  pub others : (j : ℕ) → IsTrue (get_or old.stale j false) → IsTrue (get_or new.stale j false)

-- the sums of the leaves of these addresses are, and those that were
pub record Touched {M : Type 0} (s : Shape) (old new : Stored M) (at : ℕ → Type 0) : Type 0 where
  pub sums : new.sums ≡ old.sums
  pub here : (n : ℕ) → at n → IsTrue (get_or new.stale (leaf s n) false)
  pub others : (j : ℕ) → IsTrue (get_or old.stale j false) → IsTrue (get_or new.stale j false)

-- none of the blocks between two addresses is free
abbrev pub IsUsed : {z : ZoneState} {low : ℕ} → SplitAt z low → ℕ → Type 0
IsUsed {low = low} split high = (blocks after : ZoneMap) → split.after ≡ blocks ++ after → low + total_size blocks ≤ high → free_bytes blocks ≡ 0

-- that is so and what was stale is, or all sums are stale
abbrev pub IsPassed : {M : Type 0} {z : ZoneState} {low : ℕ} → Stored M → Stored M → SplitAt z low → ℕ → Type 0
IsPassed old new split high = (IsUsed split high × ((j : ℕ) → IsTrue (get_or old.stale j false) → IsTrue (get_or new.stale j false))) ⊎ ((j : ℕ) → j < length old.sums → IsTrue (get_or new.stale j false))
