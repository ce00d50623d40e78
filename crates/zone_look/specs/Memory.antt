-- Memory from a zone's start on, and what the zone's header says: Inside Macintosh: Memory, chapter 2, "Heap Zones".
use Rattle.std.specs.Prelude.{ℕ, ◌+◌, ◌-◌, ◌%◌, nat_lt, min, if◌then◌else◌, List, length, drop, Option, Some, None}
use Rattle.byteorder.specs.Endian.{big_number}
use Rattle.mac_base.specs.declared.block.HeadKind.{HeadKind}
use Rattle.mac_base.specs.declared.block.HeadKind.TheVariants.{Bits24, Bits32}
use Rattle.mac_base.specs.HeadKind.{zone_header}
use Rattle.zone_look.specs.declared.fault.Fault.{Fault}
use Rattle.zone_look.specs.declared.fault.Problem.{Problem}
use Rattle.zone_look.specs.declared.fault.Problem.TheVariants.{ShortZone, LowLimit, HighLimit, CutHeader, Overlaps, LeavesZone, OddSize, BadTag, BadZone, BadHandle, BadMaster, BadFree, EndlessFree}

-- how the zone's blocks are headed, the address of the first byte, which is the zone's, and the bytes
pub record Memory : Type 0 where
  pub heads : HeadKind
  pub base : ℕ
  pub bytes : List ℕ

-- the four bytes at a place, as a number; a place is counted from the zone's start
abbrev pub word_at : Memory → ℕ → ℕ
word_at m at = big_number 4 (drop at m.bytes)

-- the address that a word says: under 24-bit addressing its high byte is none of it
abbrev pub address_in : HeadKind → ℕ → ℕ
address_in Bits24 word = word % 0x100_0000
address_in Bits32 word = word

-- something that is wrong at a place
abbrev pub fault_at : Memory → Problem → ℕ → ℕ → ℕ → Fault
fault_at m problem at found wanted = record { problem = problem; place = m.base + at; found = found; wanted = wanted }

-- bkLim, the zone's first field: the address after the last block, where a trailer may be
abbrev pub limit_of : Memory → ℕ
limit_of m = address_in m.heads (word_at m 0)

-- the place after the last block
abbrev pub end_of : Memory → ℕ
end_of m = limit_of m - m.base

-- what is wrong with the header: there are fewer bytes than it has, or bkLim isn't between its end and that of the bytes
abbrev pub header_fault : Memory → Option Fault
header_fault m =
    if nat_lt (length m.bytes) zone_header then Some (fault_at m ShortZone 0 (length m.bytes) zone_header)
    else (if nat_lt (limit_of m) (m.base + zone_header) then Some (fault_at m LowLimit 0 (limit_of m) (min (m.base + zone_header) 0xFFFF_FFFF))
    else (if nat_lt (m.base + length m.bytes) (limit_of m) then Some (fault_at m HighLimit 0 (limit_of m) (m.base + length m.bytes))
    else None))

-- the number of a kind of fault
abbrev pub problem_number : Problem → ℕ
problem_number ShortZone = 1
problem_number LowLimit = 2
problem_number HighLimit = 3
problem_number CutHeader = 4
problem_number Overlaps = 5
problem_number LeavesZone = 6
problem_number OddSize = 7
problem_number BadTag = 8
problem_number BadZone = 9
problem_number BadHandle = 10
problem_number BadMaster = 11
problem_number BadFree = 12
problem_number EndlessFree = 13
