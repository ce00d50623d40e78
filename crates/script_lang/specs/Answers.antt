-- The answers that lines queue, with the values that variables have.
use Rattle.std.specs.Prelude.{ℕ, map}
use Rattle.mac_base.specs.declared.releasing.ReleasingCall.{ReleasingCall}
use Rattle.mac_base.specs.declared.releasing.ReleasingCall.TheVariants.{DisposesHandle, DisposesPtr, Empties}
use Rattle.mac_base.specs.GrowZone.{Answer}
use Rattle.script_lang.specs.declared.line.ReleasingName.{ReleasingName}
use Rattle.script_lang.specs.declared.line.ReleasingName.TheVariants.{DisposeHandle, DisposePtr, EmptyHandle}
use Rattle.script_lang.specs.declared.line.WrittenAnswer.{WrittenAnswer}
use Rattle.script_lang.specs.declared.line.WrittenCall.{WrittenCall}
use Rattle.script_lang.specs.Resolving.{number_of}
use Rattle.script_lang.specs.Variables.{Variables}

-- the call of this name on a handle or a pointer with this number
abbrev pub releasing : ReleasingName → ℕ → ReleasingCall
releasing DisposeHandle number = DisposesHandle number
releasing DisposePtr number = DisposesPtr number
releasing EmptyHandle number = Empties number

-- a call of an answer, with the value that its operand has
abbrev pub releasing_with : Variables → WrittenCall → ReleasingCall
releasing_with variables written = releasing written.call (number_of variables written.operand)

-- an answer as it is written, with the values that its operands have
abbrev pub answer_with : Variables → WrittenAnswer → Answer
answer_with variables written = record { calls = map (releasing_with variables) written.calls; value = number_of variables written.value }
