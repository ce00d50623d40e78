-- The kind of an error that is handed on.
use Rattle.std.proofs.Common.{◌≡◌, Result, Ok, Err, sym, subst}
use Rattle.std.specs.IoError.{error_kind}
use Rattle.std.specs.Prelude.{IfErr}
use Rattle.std.specs.Result.{IsErrAnd}
use Rattle.std.specs.declared.io.Error.{Error}
use Rattle.std.specs.declared.io.ErrorKind.{ErrorKind}

-- what is so of the error is so of the one that is handed on
pub failed_with : {T : Type 0} (r : Result T Error) (e : Error) (P : ErrorKind → Type 0) → IsErrAnd r (λ x. x ≡ e) → P (error_kind e) → IfErr r (λ x. P (error_kind x))
failed_with (Ok value) e P is so = absurd is
failed_with (Err x) e P is so = subst (λ (y : Error). P (error_kind y)) (sym is) so
