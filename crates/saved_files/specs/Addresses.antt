-- The addresses of a zone.
use Rattle.std.specs.Prelude.{ℕ, ◌+◌, Bool, ◌&&◌, nat_le, nat_lt}
use Rattle.mac_base.specs.HeadKind.{Shape}

-- whether a zone has an address, once it has grown to its limit
abbrev pub has_address : Shape → ℕ → Bool
has_address shape at = nat_le shape.base at && nat_lt at (shape.base + shape.limit)
