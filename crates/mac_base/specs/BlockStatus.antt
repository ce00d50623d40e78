-- What a number is to the calls that read and write bytes.
use Rattle.std.specs.Prelude.{ℕ, ◌||◌, if◌then◌else◌}
use Rattle.mac_base.specs.declared.block.Status.{Status}
use Rattle.mac_base.specs.declared.block.Status.TheVariants.{NotLive, Empty, Lent, Full}
use Rattle.mac_base.specs.HandleTable.{HandleTable, is_handle, is_pointer, is_lent, has_block}

-- whether x is live, empty or lent: the first of these that refuses it, or else full
abbrev pub status_of : HandleTable → ℕ → Status
status_of t x = if is_handle t x || is_pointer t x
    then (if has_block t x then (if is_lent t x then Lent else Full) else Empty)
    else NotLive
