-- The bytes of a file.
use Rattle.std.specs.Prelude.{◌≡◌, ◌≢◌, ◌<◌, ℕ, List, length, Option, IfSome, ⊤}
use Rattle.std.specs.IoError.{error_kind}
use Rattle.std.specs.declared.io.ErrorKind.TheVariants.{Interrupted}
use Rattle.file_acts.specs.declared.message.Problem.{Problem}
use Rattle.file_acts.specs.declared.message.Problem.TheVariants as problem
use Rattle.file_acts.specs.declared.input.NotRead.{NotRead}
use Rattle.file_acts.specs.declared.input.NotRead.TheVariants as not_read

-- why the bytes of a reader aren't read: a call failed, and not for an interruption; or there are more than these
abbrev pub IsNotRead : Option (List ℕ) → ℕ → NotRead → Type 0
IsNotRead all most (not_read.Failed error) = error_kind error ≢ Interrupted
IsNotRead all most (not_read.TooLong limit) = (limit ≡ most) × IfSome all (λ bytes. most < length bytes)

-- that a file which belongs to another isn't read, unless the host has no memory
abbrev pub IsToldUnread : Problem → Type 0
IsToldUnread (problem.Unread path why) = ⊤
IsToldUnread problem.HostFull = ⊤
IsToldUnread other = ⊥
