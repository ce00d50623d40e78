-- What a variable takes that a reply is assigned to.
use Rattle.std.specs.Prelude.{ℕ, ◌-◌, ◌^◌, min, length, Result, Ok}
use Rattle.mac_base.specs.declared.error.OsErr.{OsErr}
use Rattle.mac_base.specs.declared.reply.Results.{Results}
use Rattle.mac_base.specs.declared.reply.Results.TheVariants as results

-- The first result as a number: the number of blocks where a call shows blocks, and 0 after a refusal or where there
-- is no number.
abbrev pub first_number : Result Results OsErr → ℕ
first_number (Ok (results.Handle handle)) = handle
first_number (Ok (results.Pointer pointer)) = pointer
first_number (Ok (results.Address at)) = at
first_number (Ok (results.Number n)) = n
first_number (Ok (results.TwoNumbers one other)) = one
first_number (Ok (results.Blocks blocks)) = min (length blocks) (2 ^ 32 - 1)
first_number outcome = 0
