-- The gap before a block.
use Rattle.std.proofs.Common.{ℕ, ◌+◌, ◌≤◌, ◌∷◌, ◌++◌, ap, ◌∙◌, append_assoc, arith}
use Rattle.mac_base.specs.ZoneMap.{total_size, address_after}
use Rattle.mac_base.specs.ZoneState.{ZoneState}
use Rattle.linked_zone.specs.Places.{EntryAt, SplitAt}
use Rattle.zone_index.specs.Runs.{FrontAt}
use Rattle.zone_index.proofs.Splits.{last_run}
use Rattle.zone_laws.proofs.Maps.{total_size-append}

module _ (z : ZoneState) (at : ℕ) (s : SplitAt z at) where
  -- the blocks before an address, up to a fixed one
  abbrev pub front_split : FrontAt z at
  front_split = record {
    before = (last_run z.heap.table s.before).before;
    blocks = (last_run z.heap.table s.before).blocks;
    after = s.after;
    map = s.map ∙ ap (λ m. m ++ s.after) (last_run z.heap.table s.before).parts ∙ append_assoc (last_run z.heap.table s.before).before (last_run z.heap.table s.before).blocks s.after;
    place = s.place ∙ ap (address_after z.shape) (last_run z.heap.table s.before).parts;
    moves = (last_run z.heap.table s.before).moves;
    below = (last_run z.heap.table s.before).below;
  }

-- a block's address parts the map
abbrev pub split_entry : (z : ZoneState) (at : ℕ) → EntryAt z at → SplitAt z at
split_entry z at e = record { before = e.before; after = e.here ∷ e.after; map = e.map; place = e.place }

-- a block ends where the zone does, or below
pub entry-high : (z : ZoneState) (at : ℕ) (e : EntryAt z at) → at + e.here.size ≤ address_after z.shape z.heap.map
entry-high z at e = let here = e.place in let all = ap total_size e.map ∙ total_size-append e.before (e.here ∷ e.after) in omega arith
