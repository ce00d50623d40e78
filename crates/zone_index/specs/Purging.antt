-- Which blocks may be purged, and what a search for them finds.
use Rattle.std.specs.Prelude.{◌≡◌, ℕ, ◌+◌, Bool, false, not, IsTrue, ◌∷◌, ◌++◌, ◌&&◌}
use Rattle.std.specs.List.{list_all}
use Rattle.mac_base.specs.declared.block.Entry.{Entry}
use Rattle.mac_base.specs.declared.block.Flags.{Flags}
use Rattle.mac_base.specs.declared.block.Kind.{Kind}
use Rattle.mac_base.specs.declared.block.Kind.TheVariants.{Free, Master, Ptr, Rel}
use Rattle.mac_base.specs.HandleTable.{HandleTable, is_purgeable}
use Rattle.mac_base.specs.ZoneMap.{ZoneMap, block, total_size}

-- whether a handle with a block may be purged under these flags
abbrev pub may_purge : Flags → Bool
may_purge flags = flags.purge && not flags.lock

-- whether a block may be purged: that of a handle that is purgeable and unlocked
abbrev pub may_go : HandleTable → Kind → Bool
may_go t Free = false
may_go t Master = false
may_go t (Ptr p) = false
may_go t (Rel h) = is_purgeable t h

-- whether none of these blocks may be purged
abbrev pub none_purgeable : HandleTable → ZoneMap → Bool
none_purgeable t blocks = list_all (λ (e : Entry). not (may_go t e.kind)) blocks

-- the first of these blocks that may be purged is at an address, where the first of all begins at another
pub record FirstPurgeable (t : HandleTable) (blocks : ZoneMap) (from at : ℕ) : Type 0 where
  pub passed : ZoneMap
  pub handle : ℕ
  pub size : ℕ
  pub after : ZoneMap
  pub splits : blocks ≡ passed ++ block (Rel handle) size ∷ after
  pub kept : IsTrue (none_purgeable t passed)
  pub goes : IsTrue (is_purgeable t handle)
  pub place : at ≡ from + total_size passed
