-- What C gets from calls that copy its bytes.
use Rattle.std.proofs.Common.{◌≡◌, ℕ, List, Some, Ok, Err, refl}
use Rattle.std.specs.Prelude.{OnErr, Result}
use Rattle.mac_base.specs.declared.error.OsErr.{OsErr}
use Rattle.mac_base.specs.Outcomes.{done_outcome}
use Rattle.held_zone.specs.Told.{bytes_told, code_told, shown_outcome}

-- the code is that of a call without results
pub code-shown : (given : Result (Unit {0}) OsErr) (bytes : List ℕ) → code_told (Some (done_outcome given)) ≡ code_told (Some (shown_outcome given bytes))
code-shown (Ok u) bytes = refl
code-shown (Err code) bytes = refl

-- the bytes are those that it shows, or those that were there
pub bytes-shown : (given : Result (Unit {0}) OsErr) (before after : List ℕ) → OnErr given (after ≡ before) → after ≡ bytes_told before (Some (shown_outcome given after))
bytes-shown (Ok u) before after kept = refl
bytes-shown (Err code) before after kept = kept
