-- Places in bytes.
use Rattle.std.specs.Prelude.{ℕ, nat_lt, if◌then◌else◌, List, length, Result, Ok, Err}
use Rattle.pict_bytes.specs.declared.fault.Fault.{Fault}
use Rattle.pict_bytes.specs.declared.fault.Fault.TheVariants.{Short}

-- what comes after a result, if that is right
abbrev pub and_then : {A B : Type 0} → Result A Fault → (A → Result B Fault) → Result B Fault
and_then (Ok value) next = next value
and_then (Err fault) next = Err fault

-- a place, if the bytes reach it
abbrev pub within : List ℕ → ℕ → Result ℕ Fault
within bytes end = if nat_lt (length bytes) end then Err (Short end) else Ok end
