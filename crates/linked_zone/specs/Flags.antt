-- Where a handle's flags are.
use Rattle.mac_base.specs.declared.block.Flags.{Flags}
use Rattle.mac_base.specs.declared.block.HeadKind.{HeadKind}
use Rattle.mac_base.specs.declared.block.HeadKind.TheVariants.{Bits24, Bits32}

-- of the flags that its slot and its block's header say, those that are its own: the slot's in a zone of 24-bit blocks,
-- and the header's in one of 32-bit blocks
abbrev pub flags_there : HeadKind → Flags → Flags → Flags
flags_there Bits24 slot header = slot
flags_there Bits32 slot header = header
