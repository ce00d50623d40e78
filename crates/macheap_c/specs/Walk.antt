-- What C is shown of a zone's blocks.
use Rattle.std.specs.Prelude.{◌≡◌, ℕ, ℤ, pos, [], Option, Some, None}
use Rattle.mac_base.specs.BlockReport.{report_at}
use Rattle.mac_base.specs.Codes.{minus}
use Rattle.mac_base.specs.declared.block.Block.{Block}
use Rattle.mac_base.specs.declared.block.Kind.{Kind}
use Rattle.mac_base.specs.declared.block.Kind.TheVariants.{Free, Master, Ptr, Rel}
use Rattle.mac_base.specs.FlagState.{state_of}
use Rattle.mac_base.specs.ZoneMap.{address_after}
use Rattle.macheap_c.specs.declared.walk.MhBlock.{MhBlock}
use Rattle.held_zone.specs.declared.host_err.HostErr.TheVariants.{NotThere}
use Rattle.held_zone.specs.HostCodes.{host_code}
use Rattle.held_zone.specs.State.{State}

-- the number of a kind of block
abbrev pub kind_number : Kind → ℕ
kind_number Free = 0
kind_number Master = 1
kind_number (Ptr pointer) = 2
kind_number (Rel handle) = 3

-- the pointer or the handle whose block it is, and 0 where it is nobody's
abbrev pub owner_number : Kind → ℕ
owner_number Free = 0
owner_number Master = 0
owner_number (Ptr pointer) = pointer
owner_number (Rel handle) = handle

-- a block as C is shown it
abbrev pub shown_block : Block → MhBlock
shown_block b = record { address = b.address; size = b.entry.size; kind = kind_number b.entry.kind; owner = owner_number b.entry.kind; length = b.length; flags = state_of b.flags }

-- the block at an address is shown; where no header is there, the answer is memWZErr
abbrev pub ShowsBlock : Option Block → ℤ → MhBlock → MhBlock → Type 0
ShowsBlock (Some found) code before block = (code ≡ pos 0) × (block ≡ shown_block found)
ShowsBlock None code before block = (code ≡ minus 111) × (block ≡ before)

-- C is shown the block at an address, and the state stays.
abbrev pub BlockTold : Option State → ℕ → ℤ → MhBlock → MhBlock → Option State → Type 0
BlockTold None at code before block new = (code ≡ host_code NotThere) × (block ≡ before) × (new ≡ None)
BlockTold (Some old) at code before block new = ShowsBlock (report_at old.zone.shape old.zone.heap at) code before block × (new ≡ Some old)

-- C learns where the first block header is, and the state stays.
abbrev pub FirstTold : Option State → ℤ → ℕ → ℕ → Option State → Type 0
FirstTold None code before at new = (code ≡ host_code NotThere) × (at ≡ before) × (new ≡ None)
FirstTold (Some old) code before at new = (code ≡ pos 0) × (at ≡ address_after old.zone.shape []) × (new ≡ Some old)
