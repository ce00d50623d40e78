-- All that is kept of the leaves of a zone.
use Rattle.std.specs.Prelude.{◌≡◌, ℕ, ◌<◌, IsTrue, false, length}
use Rattle.std.proofs.Common.{get_or}
use Rattle.sum_tree.specs.Largest.{no_block}
use Rattle.sum_tree.specs.Span.{no_span}
use Rattle.mac_base.specs.HeadKind.{Shape}
use Rattle.mac_base.specs.ZoneState.{ZoneState}
use Rattle.linked_zone.specs.Places.{SplitAt}
use Rattle.zone_index.specs.declared.leaves.LeafSums.{LeafSums}
use Rattle.zone_index.specs.Free.{summing_largest}
use Rattle.zone_index.specs.Leaves.{AllNew, AreSums, IsPassed, Touched, TouchedAt}
use Rattle.zone_index.specs.Rooms.{AreRooms}

-- the sums that aren't stale are right
pub record AreLeaves (z : ZoneState) (l : LeafSums) : Type 0 where
  pub rooms : AreRooms z l.rooms
  pub largest : AreSums summing_largest z l.largest

-- so many leaves are new: all their sums are stale
pub record IsNew (l : LeafSums) (count : ℕ) : Type 0 where
  pub rooms : AllNew no_span l.rooms count
  pub largest : AllNew no_block l.largest count

-- a leaf has its sums among them
pub record HasLeaf (l : LeafSums) (i : ℕ) : Type 0 where
  pub rooms : i < length (l.rooms).sums
  pub largest : i < length (l.largest).sums

-- they are the same
pub record SameSums (old new : LeafSums) : Type 0 where
  pub rooms : (new.rooms).sums ≡ (old.rooms).sums
  pub largest : (new.largest).sums ≡ (old.largest).sums

-- those of a leaf are stale now
pub record LeafTouched (old new : LeafSums) (i : ℕ) : Type 0 where
  pub rooms : TouchedAt old.rooms new.rooms i
  pub largest : TouchedAt old.largest new.largest i

-- those of the leaves of these addresses are
pub record LeavesTouched (s : Shape) (old new : LeafSums) (at : ℕ → Type 0) : Type 0 where
  pub rooms : Touched s old.rooms new.rooms at
  pub largest : Touched s old.largest new.largest at

-- those of all leaves are
pub record AllStale (old new : LeafSums) : Type 0 where
  pub rooms : (j : ℕ) → j < length (old.rooms).sums → IsTrue (get_or (new.rooms).stale j false)
  pub largest : (j : ℕ) → j < length (old.largest).sums → IsTrue (get_or (new.largest).stale j false)

-- no free block lies between two addresses, or all are
pub record LeavesPassed {z : ZoneState} {low : ℕ} (old new : LeafSums) (split : SplitAt z low) (high : ℕ) : Type 0 where
  pub rooms : IsPassed old.rooms new.rooms split high
  pub largest : IsPassed old.largest new.largest split high
