-- What the tests of a call's operands answer.
use Rattle.std.specs.Prelude.{◌≡◌, ℕ, nat_le, List, Option, Some, None, Result, MatchResult}
use Rattle.mac_base.specs.declared.error.OsErr.{OsErr}
use Rattle.mac_base.specs.declared.error.OsErr.TheVariants.{ParamErr}
use Rattle.mac_base.specs.Tests.{Test, first_refusal, unless_passed}
use Rattle.mac_base.specs.HeadKind.{max_size}
use Rattle.mac_base.specs.ZoneState.{ZoneState}

-- an error is the refusal, if there is one
abbrev pub Answers : {T : Type 0} → Option OsErr → Result T OsErr → Type 0
Answers refusal result = MatchResult result (λ _. refusal ≡ None) (λ code. refusal ≡ Some code)

-- it is the first refusal of these tests
abbrev pub Tests : {T : Type 0} → ZoneState → List Test → Result T OsErr → Type 0
Tests z tests result = Answers (first_refusal z.shape z.heap tests) result

-- it is the refusal of a size
abbrev pub TestsSize : {T : Type 0} → ℕ → Result T OsErr → Type 0
TestsSize n result = Answers (unless_passed ParamErr (nat_le n max_size)) result
