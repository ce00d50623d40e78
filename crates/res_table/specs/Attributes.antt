-- The attributes of a resource: a set of bits.
use Rattle.std.specs.Prelude.{ℕ, ◌==◌, Bool, bit_and}
use Rattle.bitflags.specs.Sets.{without}
use Rattle.mac_base.specs.declared.resource.ResAttrs.{ResAttrs}

-- resChanged: the resource is to be written
abbrev pub res_changed : ℕ
res_changed = 2

-- whether resChanged is set
abbrev pub is_marked : ResAttrs → Bool
is_marked attributes = bit_and attributes.0 res_changed == res_changed

-- the attributes, a byte, without resChanged
abbrev pub unmarked : ResAttrs → ResAttrs
unmarked attributes = record { 0 = without 8 attributes.0 res_changed }
