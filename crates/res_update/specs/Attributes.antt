-- The attributes of a resource, as the calls read and set them.
use Rattle.std.specs.Prelude.{ℕ, ◌==◌, Bool, if◌then◌else◌, bit_and, bit_or}
use Rattle.mac_base.specs.declared.resource.ResAttrs.{ResAttrs}
use Rattle.res_table.specs.Attributes.{res_changed, is_marked, unmarked}

-- resProtected: the resource is neither marked as changed nor removed
abbrev pub res_protected : ℕ
res_protected = 8

-- resLocked: it is loaded as a locked block
abbrev pub res_locked : ℕ
res_locked = 16

-- resPurgeable: it is loaded as a purgeable block
abbrev pub res_purgeable : ℕ
res_purgeable = 32

-- whether an attribute is set
abbrev pub has_bit : ℕ → ResAttrs → Bool
has_bit bit attributes = bit_and attributes.0 bit == bit

-- the attributes with resChanged
abbrev pub marked : ResAttrs → ResAttrs
marked attributes = record { 0 = bit_or attributes.0 res_changed }

-- the attributes that SetResAttrs sets over old ones: resChanged stays as it was
abbrev pub replaced_attributes : ℕ → ResAttrs → ResAttrs
replaced_attributes new old = if is_marked old then marked (record { 0 = new }) else unmarked (record { 0 = new })
