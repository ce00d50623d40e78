-- Faults that are passed on.
use Rattle.std.proofs.Common.{◌≡◌, Result, Ok, Err, ◌∙◌}
use Rattle.std.specs.Prelude.{MatchResult}
use Rattle.std.specs.Result.{IsErrAnd}
use Rattle.row_image.specs.declared.fault.SaveFault.{SaveFault}
use Rattle.row_image.specs.declared.fault.SaveFault.TheVariants.{HostFull}

-- that the host has no memory is passed on
pub passed_on : {T : Type 0} (r : Result T SaveFault) (P : T → Type 0) (e : SaveFault) → IsErrAnd r (λ y. y ≡ e) → e ≡ HostFull → MatchResult r P (λ fault. fault ≡ HostFull)
passed_on (Ok t) P e is full = absurd is
passed_on (Err y) P e is full = is ∙ full
