-- What the host hands over.
use Rattle.std.specs.Prelude.{ℕ, List, Option, Some, None, Bool, true, false}
use base.Fraction.{full_share}
use base.Fml.{Fml, ftrue}
use denote.Array.{Array}
use denote.Builtin.{u8}
use denote.RawPtr.{Ptr, lies_at}

-- n bytes of the host from a pointer on, if they are there
abbrev pub host_bytes : Option (List ℕ) → Ptr → ℕ → Fml
host_bytes None p n = ftrue
host_bytes (Some xs) p n = lies_at (Array u8 n) full_share p xs

-- whether they are
abbrev pub are_there : Option (List ℕ) → Bool
are_there None = false
are_there (Some xs) = true
