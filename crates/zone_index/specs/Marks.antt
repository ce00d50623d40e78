-- What is kept beside a zone: where its fixed blocks are, and those of handles that may be purged.
use Rattle.std.specs.Prelude.{◌≡◌, ℕ, ◌+◌, ◌-◌, ◌/◌, ◌≤◌, Bool, List, length, slice_index, IsTrue}
use Rattle.mac_base.specs.declared.block.Kind.{Kind}
use Rattle.mac_base.specs.Gap.{is_fixed}
use Rattle.mac_base.specs.HandleTable.{HandleTable}
use Rattle.mac_base.specs.HeadKind.{Shape}
use Rattle.mac_base.specs.ZoneState.{ZoneState}
use Rattle.linked_zone.specs.Places.{EntryAt}

-- the place of an address: there is one for each four bytes of the zone
abbrev pub place : Shape → ℕ → ℕ
place s at = (at - s.base) / 4

-- the header of a block that passes a test is at an address
pub record PassesAt (test : HandleTable → Kind → Bool) (z : ZoneState) (at : ℕ) : Type 0 where
  pub entry : EntryAt z at
  pub passes : IsTrue (test z.heap.table (entry.here).kind)

-- a fixed block's is
abbrev pub FixedAt : ZoneState → ℕ → Type 0
FixedAt = PassesAt is_fixed

-- each block that passes a test has a mark; one elsewhere says nothing
pub record AreMarked (test : HandleTable → Kind → Bool) (z : ZoneState) (marks : List ℕ) : Type 0 where
  pub places : length marks ≡ z.shape.limit / 4 + 1
  pub marked : (at : ℕ) → PassesAt test z at → 1 ≤ slice_index marks (place z.shape at)
