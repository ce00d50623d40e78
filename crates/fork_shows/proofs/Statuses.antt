-- A status of 0.
use Rattle.std.proofs.Common.{◌≡◌, ℕ, Bool, true, false, Result, Ok, Err, arith}
use Rattle.std.specs.Prelude.{IfOk, if◌then◌else◌, max}
use Rattle.file_acts.specs.declared.message.Problem.{Problem}
use Rattle.file_acts.specs.Statuses.{is_of_fork, is_of_resource, is_of_words, status_after, status_of}

-- the higher one of two is 0 only if both are
pub neither : (one other : ℕ) → max one other ≡ 0 → (one ≡ 0) × (other ≡ 0)
neither one other zero = (omega arith, omega arith)

none_is_0 : (resource words fork : Bool) → ◌≡◌ {A = ℕ} (if resource then 1 else if words then 2 else if fork then 3 else 4) 0 → ⊥
none_is_0 true words fork zero = omega arith
none_is_0 false true fork zero = omega arith
none_is_0 false false true zero = omega arith
none_is_0 false false false zero = omega arith

-- that of a problem isn't, so it is that of what was done
pub is_done : (P : Type 0) (done : Result ℕ Problem) → status_after done ≡ 0 → IfOk done (λ status. P) → P
is_done P (Ok status) zero holds = holds
is_done P (Err why) zero holds = absurd (none_is_0 (is_of_resource why) (is_of_words why) (is_of_fork why) zero)
