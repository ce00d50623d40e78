-- How a zone of C begins and ends.
use Rattle.std.specs.Prelude.{◌≡◌, ℕ, ◌+◌, ◌-◌, ◌%◌, ℤ, pos, ◌==◌, ◌&&◌, nat_le, if◌then◌else◌, Option, Some, None}
use Rattle.mac_base.specs.Codes.{minus}
use Rattle.mac_base.specs.declared.block.HeadKind.{HeadKind}
use Rattle.mac_base.specs.declared.block.HeadKind.TheVariants.{Bits24, Bits32}
use Rattle.mac_base.specs.declared.zone_spec.BadSpec.{BadSpec}
use Rattle.mac_base.specs.ZoneSizes.{ZoneSizes, first_large_fault}
use Rattle.held_zone.specs.declared.host_err.HostErr.TheVariants.{BadNumber, InUse, NotThere}
use Rattle.held_zone.specs.HostCodes.{host_code}
use Rattle.held_zone.specs.State.{State, IsNew}

-- the blocks of a mode: it is 24 or 32
abbrev pub heads_of : ℕ → Option HeadKind
heads_of mode = if mode == 24 then Some Bits24 else if mode == 32 then Some Bits32 else None

-- sizes without a fault, with blocks of a known mode
abbrev pub faultless : Option HeadKind → Option BadSpec → ℕ → ℕ → ℕ → Option ZoneSizes
faultless (Some heads) None base size limit = Some (record { heads = heads; base = base; size = size; limit = limit })
faultless _ _ base size limit = None

-- the sizes that C asks for, where a zone may have them: it may be large
abbrev pub large_with : Option HeadKind → ℕ → ℕ → ℕ → Option ZoneSizes
large_with None base size limit = None
large_with (Some heads) base size limit = faultless (Some heads) (first_large_fault heads base size limit) base size limit

abbrev pub large_sizes_of : ℕ → ℕ → ℕ → ℕ → Option ZoneSizes
large_sizes_of mode base size limit = large_with (heads_of mode) base size limit

-- an even number of bytes without the two over a multiple of 4, in which no block has room
abbrev pub whole : ℕ → ℕ
whole n = if n % 4 == 2 then n - 2 else n

-- the sizes of a zone in memory of its own, which are any even ones
abbrev pub own_sizes_of : ℕ → ℕ → ℕ → ℕ → Option ZoneSizes
own_sizes_of mode base size limit = large_sizes_of mode base (whole size) (whole limit)

-- those where it isn't large: it has 1,048,576 bytes at most, and an end of 24 bits whatever its blocks are
abbrev pub sizes_of : ℕ → ℕ → ℕ → ℕ → Option ZoneSizes
sizes_of mode base size limit = if nat_le limit 0x10_0000 && nat_le (base + limit) 0x100_0000 then own_sizes_of mode base size limit else None

-- There is a new zone of these sizes; or none, since there are no such zones, or the host has no memory (memFullErr).
abbrev pub Begins : Option ZoneSizes → ℤ → Option State → Type 0
Begins None code new = (code ≡ host_code BadNumber) × (new ≡ None)
Begins (Some sizes) code None = code ≡ minus 108
Begins (Some sizes) code (Some new) = (code ≡ pos 0) × IsNew sizes new

-- A zone is made where there is none. Where there is one, it stays.
abbrev pub IsMade : Option State → Option ZoneSizes → ℤ → Option State → Type 0
IsMade None sizes code new = Begins sizes code new
IsMade (Some old) sizes code new = (code ≡ host_code InUse) × (new ≡ Some old)

-- The zone ends, where there is one, with what is lent.
abbrev pub Ends : Option State → ℤ → Option State → Type 0
Ends None code new = (code ≡ host_code NotThere) × (new ≡ None)
Ends (Some old) code new = (code ≡ pos 0) × (new ≡ None)
