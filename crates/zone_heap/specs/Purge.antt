-- Purging, block by block.
use Rattle.std.specs.Prelude.{◌≡◌, ℕ, ◌+◌, Bool, true, if◌then◌else◌, List, ◌++◌, Option, Some, None}
use Rattle.mac_base.specs.declared.block.Kind.{Kind}
use Rattle.mac_base.specs.declared.block.Kind.TheVariants.{Rel}
use Rattle.mac_base.specs.declared.request.Request.{Request}
use Rattle.mac_base.specs.declared.request.Request.TheVariants.{Resize, Replace}
use Rattle.mac_base.specs.Request.{is_among}
use Rattle.mac_base.specs.ZoneMap.{ZoneMap, address_after, total_size}
use Rattle.mac_base.specs.ZoneState.{ZoneState}

-- whether what a request resizes or replaces is among the protected
abbrev pub is_protected : List ℕ → Request → Bool
is_protected protected (Resize x n) = is_among protected x
is_protected protected (Replace h n) = is_among protected h
is_protected protected _ = true

-- the handle whose block a block of this kind is, unless it is protected
abbrev pub unprotected : List ℕ → Kind → Option ℕ
unprotected protected (Rel h) = if is_among protected h then None else Some h
unprotected protected _ = None

-- blocks are between two addresses
pub record BlocksAt (z : ZoneState) (start end : ℕ) : Type 0 where
  pub before : ZoneMap
  pub blocks : ZoneMap
  pub after : ZoneMap
  pub map : z.heap.map ≡ before ++ (blocks ++ after)
  pub place : start ≡ address_after z.shape before
  pub long : end ≡ start + total_size blocks
