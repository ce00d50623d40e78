-- Where a walk from page to page is.
use Rattle.std.specs.Prelude.{ℕ, ◌+◌, ◌<◌, ⊤, [], ◌∷◌}
use Rattle.mac_base.specs.HeadKind.{zone_header}
use Rattle.mac_base.specs.ZoneMap.{ZoneMap}
use Rattle.mac_base.specs.ZoneState.{ZoneState}
use Rattle.linked_zone.specs.Places.{EntryAt}
use Rattle.zone_index.specs.Pages.{page, page_start}

-- all of these blocks begin below a place, where the first begins at another
abbrev pub AllBelow : ℕ → ℕ → ZoneMap → Type 0
AllBelow high at [] = ⊤
AllBelow high at (e ∷ es) = (at < high) × AllBelow high (at + e.size) es

-- the first block of a page is at an address
pub record FirstOfPage (z : ZoneState) (at : ℕ) : Type 0 where
  pub entry : EntryAt z at
  pub below : AllBelow (page_start (page z.shape at)) zone_header entry.before
