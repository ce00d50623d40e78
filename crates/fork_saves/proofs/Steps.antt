-- What is done step by step.
use Rattle.std.proofs.Common.{◌≡◌, inl, inr, Result, Ok, Err, ap, ◌∙◌}
use Rattle.std.specs.Prelude.{IsErrAnd}
use Rattle.std.proofs.lemmas.Result.{err_from_is_err_and}
use Rattle.file_acts.specs.declared.message.Problem.{Problem}
use Rattle.file_acts.specs.Acts.{Log, Then}

-- the first step wasn't done, and its problem is handed on
pub then_not : {T U : Type 0} (first : Result T Problem → Log → Log → Type 0) (next : T → Result U Problem → Log → Log → Type 0) (result : Result U Problem) (why : Problem) (old new : Log)
    → IsErrAnd result (λ told. told ≡ why) → first (Err why) old new → Then first next result old new
unfolding Then
then_not first next result why old new is not = let p = err_from_is_err_and result is in inr (why, p.1 ∙ ap (λ (e : Problem). Err e) p.2, not)

-- one step was done, and then the other
pub then_done : {T U : Type 0} (first : Result T Problem → Log → Log → Type 0) (next : T → Result U Problem → Log → Log → Type 0) (done : T) (mid : Log) (result : Result U Problem) (old new : Log)
    → first (Ok done) old mid → next done result mid new → Then first next result old new
unfolding Then
then_done first next done mid result old new one other = inl (done, mid, one, other)
