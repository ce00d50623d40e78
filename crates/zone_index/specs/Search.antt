-- What a search for blocks that pass a test finds.
use Rattle.std.specs.Prelude.{ℕ, ◌<◌, ◌≤◌, Bool}
use Rattle.mac_base.specs.declared.block.Kind.{Kind}
use Rattle.mac_base.specs.Gap.{is_fixed}
use Rattle.mac_base.specs.HandleTable.{HandleTable}
use Rattle.mac_base.specs.ZoneState.{ZoneState}
use Rattle.zone_index.specs.Marks.{FixedAt, PassesAt}

-- the first one from an address on is at another
pub record NextPassing (test : HandleTable → Kind → Bool) (z : ZoneState) (from at : ℕ) : Type 0 where
  pub here : PassesAt test z at
  pub above : from ≤ at
  pub first : (other : ℕ) → PassesAt test z other → from ≤ other → at ≤ other

-- there is none
abbrev pub NonePassing : (HandleTable → Kind → Bool) → ZoneState → ℕ → Type 0
NonePassing test z from = (at : ℕ) → PassesAt test z at → from ≤ at → ⊥

-- the first fixed block from an address on is at another
abbrev pub NextFixed : ZoneState → ℕ → ℕ → Type 0
NextFixed = NextPassing is_fixed

-- there is none
abbrev pub NoneFrom : ZoneState → ℕ → Type 0
NoneFrom = NonePassing is_fixed

-- the last fixed block below an address is at another
pub record LastFixed (z : ZoneState) (end at : ℕ) : Type 0 where
  pub here : FixedAt z at
  pub below : at < end
  pub last : (other : ℕ) → FixedAt z other → other < end → other ≤ at

-- there is none
abbrev pub NoneBelow : ZoneState → ℕ → Type 0
NoneBelow z end = (at : ℕ) → FixedAt z at → at < end → ⊥
