-- The places of blocks.
use Rattle.std.proofs.Common.{◌≡◌, ℕ, ◌+◌, ◌/◌, ◌≤◌, ◌∷◌, ap, sym, ◌∙◌, subst, arith}
use Rattle.mac_base.specs.ZoneMap.{total_size}
use Rattle.mac_base.specs.ZoneSizes.{ArePossible}
use Rattle.mac_base.specs.ZoneState.{ZoneState}
use Rattle.linked_zone.specs.Fit.{HasSizes}
use Rattle.linked_zone.specs.Places.{EntryAt, SplitAt}
use Rattle.linked_zone.specs.Sizes.{sizes_of}
use Rattle.zone_index.specs.Marks.{place}
use Rattle.zone_laws.proofs.Maps.{total_size-append}

-- an address between blocks is none after the zone's limit
pub split-within : (z : ZoneState) (at : ℕ) → ArePossible (sizes_of z) → SplitAt z at → (z.shape.base ≤ at) × (at ≤ z.shape.base + z.shape.limit)
split-within z at possible s =
    let all = ap total_size s.map ∙ total_size-append s.before s.after in
    let there = s.place in
    let within = possible.within in
    (omega arith, omega arith)

abbrev pub entry-split : {at : ℕ} (z : ZoneState) → EntryAt z at → SplitAt z at
entry-split z e = record { before = e.before; after = e.here ∷ e.after; map = e.map; place = e.place }

-- a block has a place
pub place-within : (z : ZoneState) (at : ℕ) → ArePossible (sizes_of z) → EntryAt z at → place z.shape at ≤ z.shape.limit / 4
place-within z at possible e = let within = split-within z at possible (entry-split z e) in omega (arith, within.0, within.1)

-- a place that was asked for
pub record Placed (z : ZoneState) (at p : ℕ) : Type 0 where
  pub value : p ≡ place z.shape at
  pub inside : place z.shape at ≤ z.shape.limit / 4
  pub sizes : HasSizes z

pub placed : (i z : ZoneState) → i ≡ z → (at p : ℕ) → p ≡ place z.shape at → p ≤ z.shape.limit / 4 → HasSizes z → Placed i at p
placed i z is at p value inside sizes = subst (λ (z : ZoneState). Placed z at p) (sym is) (record { value = value; inside = subst (λ p. p ≤ z.shape.limit / 4) value inside; sizes = sizes })
