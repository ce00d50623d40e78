-- A fault that a caller passes on.
use Rattle.std.proofs.Common.{◌≡◌, Result, Err}
use Rattle.std.specs.Prelude.{IsErrOf}

-- what came out was what went in
pub passed_on : {T U E : Type 0} (from : Result T E) (to : Result U E) (fault passed : E) → from ≡ Err fault → to ≡ Err passed → passed ≡ fault → {e : E} → IsErrOf to e → IsErrOf from e
passed_on from to fault passed was is same told = cc (was, is, same, told)
