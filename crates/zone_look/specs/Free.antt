-- The free master pointers of a zone: a list from hFstFree on, in which each says where the next is.
use Rattle.std.specs.Prelude.{ℕ, Bool, zero, suc, ◌+◌, ◌-◌, ◌*◌, ◌/◌, ◌==◌, ◌||◌, nat_lt, if◌then◌else◌, List, [], ◌∷◌, Option, Some, None}
use Rattle.mac_base.specs.HeadKind.{zone_header}
use Rattle.zone_look.specs.declared.fault.Fault.{Fault}
use Rattle.zone_look.specs.declared.fault.Problem.TheVariants.{BadFree, EndlessFree}
use Rattle.zone_look.specs.Memory.{Memory, address_in, fault_at, word_at}

-- where hFstFree is, the address of the first free master pointer
abbrev pub free_field : ℕ
free_field = 8

-- The address of the free master pointer that the word at a place says, 0 where it says none. Its last bit isn't heeded:
-- in this heap's own zones it says that a master pointer is free.
abbrev pub next_free : Memory → ℕ → ℕ
next_free m at = 2 * (address_in m.heads (word_at m at) / 2)

-- free master pointers, and what is wrong after them
pub record FreeList : Type 0 where
  pub slots : List ℕ
  pub fault : Option Fault

-- whether an address isn't that of four bytes between the zone's header and its end
abbrev pub is_outside : Memory → ℕ → ℕ → Bool
is_outside m end address = nat_lt address (m.base + zone_header) || nat_lt (m.base + end - 4) address

-- The free master pointers from an address that a word says on, where these follow the first: 0 ends the list, and so
-- does an address outside the zone.
abbrev pub free_then : Memory → ℕ → ℕ → ℕ → FreeList → FreeList
free_then m end at next rest =
    if next == 0 then record { slots = []; fault = None }
    else (if is_outside m end next then record { slots = []; fault = Some (fault_at m BadFree at next 0) }
    else record { slots = next ∷ rest.slots; fault = rest.fault })

-- The free master pointers from the one on that the word at a place says, so many at most. Where there are as many as the
-- zone has words the list has no end.
abbrev pub free_from : ℕ → Memory → ℕ → ℕ → FreeList
free_from zero m end at = record { slots = []; fault = Some (fault_at m EndlessFree free_field (end / 4) (end / 4 - 1)) }
free_from (suc most) m end at = free_then m end at (next_free m at) (free_from most m end (next_free m at - m.base))

-- those of a zone that ends at this place
abbrev pub free_list : Memory → ℕ → FreeList
free_list m end = free_from (end / 4) m end free_field
