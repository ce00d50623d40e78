-- Runs of neighbouring blocks by their addresses.
use Rattle.std.specs.Prelude.{◌≡◌, ℕ, ◌+◌, Bool, true, IsTrue, [], ◌∷◌, ◌++◌}
use Rattle.std.specs.List.{list_all}
use Rattle.mac_base.specs.declared.block.Entry.{Entry}
use Rattle.mac_base.specs.declared.block.Kind.{Kind}
use Rattle.mac_base.specs.declared.block.Kind.TheVariants.{Free, Master, Ptr, Rel}
use Rattle.mac_base.specs.HandleTable.{HandleTable, is_handle}
use Rattle.mac_base.specs.ZoneMap.{ZoneMap, block, free_block, is_free, address_after, total_size}
use Rattle.mac_base.specs.ZoneState.{ZoneState}
use Rattle.linked_zone.specs.Changes.{with_map}
use Rattle.linked_zone.specs.Places.{all_can_move, none_free}
use Rattle.zone_index.specs.Runs.{none_fixed}

-- whether the handle whose block a block of this kind is is live
abbrev pub has_owner : HandleTable → Kind → Bool
has_owner t (Rel h) = is_handle t h
has_owner t Free = true
has_owner t Master = true
has_owner t (Ptr p) = true

-- each handle with a block is live
abbrev pub HasOwners : ZoneState → Type 0
HasOwners z = IsTrue (list_all (λ (e : Entry). has_owner z.heap.table e.kind) z.heap.map)

-- a run of blocks that can be moved, none of them fixed, is between two addresses
pub record RunAt (z : ZoneState) (start end : ℕ) : Type 0 where
  pub before : ZoneMap
  pub blocks : ZoneMap
  pub after : ZoneMap
  pub map : z.heap.map ≡ before ++ (blocks ++ after)
  pub place : start ≡ address_after z.shape before
  pub long : end ≡ start + total_size blocks
  pub moves : IsTrue (all_can_move z.heap.table blocks)
  pub loose : IsTrue (none_fixed z.heap.table blocks)

-- the zone with other blocks in place of a run
abbrev pub arranged : {start end : ℕ} → (z : ZoneState) → RunAt z start end → ZoneMap → ZoneState
arranged z run blocks = with_map (run.before ++ (blocks ++ run.after)) z

-- a block is at an address, others after it end at a second, and free bytes after those at a third; the blocks
-- can be moved, and none of them is fixed
pub record PackedAt (z : ZoneState) (at free end : ℕ) : Type 0 where
  pub before : ZoneMap
  pub here : Entry
  pub blocks : ZoneMap
  pub bytes : ℕ
  pub after : ZoneMap
  pub map : z.heap.map ≡ before ++ (here ∷ blocks ++ (free_block bytes ++ after))
  pub place : at ≡ address_after z.shape before
  pub long : free ≡ at + (here.size + total_size blocks)
  pub ends : end ≡ free + bytes
  pub moves : IsTrue (all_can_move z.heap.table (here ∷ blocks))
  pub loose : IsTrue (none_fixed z.heap.table (here ∷ blocks))

-- the zone with the block after the others and the free bytes
abbrev pub topped : {at free end : ℕ} → (z : ZoneState) → PackedAt z at free end → ZoneState
topped z packed = with_map (packed.before ++ (packed.blocks ++ (free_block packed.bytes ++ packed.here ∷ packed.after))) z

-- whether the first is free, if there is one
abbrev pub begins_unused : ZoneMap → Bool
begins_unused [] = true
begins_unused (e ∷ es) = is_free e.kind

-- the blocks in use with which these begin end at an address, where these begin at another
pub record UsedUpTo (blocks : ZoneMap) (from at : ℕ) : Type 0 where
  pub used : ZoneMap
  pub rest : ZoneMap
  pub parts : blocks ≡ used ++ rest
  pub none : IsTrue (none_free used)
  pub begins : IsTrue (begins_unused rest)
  pub place : at ≡ from + total_size used

-- the blocks in use with which these end begin at an address, where these begin at another
pub record UsedFrom (blocks : ZoneMap) (start at : ℕ) : Type 0 where
  pub rest : ZoneMap
  pub used : ZoneMap
  pub parts : blocks ≡ rest ++ used
  pub none : IsTrue (none_free used)
  pub ends : (front : ZoneMap) (e : Entry) → rest ≡ front ++ e ∷ [] → IsTrue (is_free e.kind)
  pub place : at ≡ start + total_size rest

-- the last free one of these blocks, which begin at an address, is at another
pub record LastFree (blocks : ZoneMap) (start at : ℕ) : Type 0 where
  pub front : ZoneMap
  pub size : ℕ
  pub used : ZoneMap
  pub parts : blocks ≡ front ++ block Free size ∷ used
  pub none : IsTrue (none_free used)
  pub place : at ≡ start + total_size front
