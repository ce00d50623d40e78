-- What a line says that queues an answer of the grow-zone procedure.
use Rattle.std.specs.Prelude.{◌≡◌, ◌≢◌, ℕ, ◌≤◌, List, [], ◌∷◌, length, codes}
use Rattle.script_lang.specs.declared.line.ReleasingName.{ReleasingName}
use Rattle.script_lang.specs.declared.line.ReleasingName.TheVariants.{DisposeHandle, DisposePtr, EmptyHandle}
use Rattle.script_lang.specs.declared.line.WrittenAnswer.{WrittenAnswer}
use Rattle.script_lang.specs.declared.line.WrittenCall.{WrittenCall}
use Rattle.script_lang.specs.Calls.{most_calls}
use Rattle.script_text.specs.Tokens.{Token, Semicolon, Word}
use Rattle.script_text.specs.Operands.{IsNumberOperand}

-- the name of a call that an answer may make
abbrev pub releasing_text : ReleasingName → List ℕ
releasing_text DisposeHandle = codes "DisposeHandle"
releasing_text DisposePtr = codes "DisposePtr"
releasing_text EmptyHandle = codes "EmptyHandle"

-- a token is the name of this call
abbrev pub IsNamed : Token → ReleasingName → Type 0
IsNamed token name = token ≡ Word (releasing_text name)

-- two tokens are this call: its name, and its operand, which is a number or a variable that was assigned before
abbrev pub IsWrittenCall : List (List ℕ) → Token → Token → WrittenCall → Type 0
IsWrittenCall names name operand written = IsNamed name written.call × IsNumberOperand names operand written.operand

-- the tokens are these calls, in order, parted by semicolons
abbrev pub AreCalls : List (List ℕ) → List Token → List WrittenCall → Type 0
AreCalls names [] [] = Unit {0}
AreCalls names (name ∷ operand ∷ []) (written ∷ []) = IsWrittenCall names name operand written
AreCalls names (name ∷ operand ∷ mark ∷ token ∷ tokens) (written ∷ others) = IsWrittenCall names name operand written × (mark ≡ Semicolon) × AreCalls names (token ∷ tokens) others
AreCalls names tokens calls = ⊥

-- the tokens are these calls, and an answer may have as many
abbrev pub AreFewCalls : List (List ℕ) → List Token → List WrittenCall → Type 0
AreFewCalls names tokens calls = AreCalls names tokens calls × (length calls ≤ most_calls)

-- gz value [call operand [; call operand] ..]; the value is a number or a variable that was assigned before
abbrev pub IsAnswer : List (List ℕ) → List Token → WrittenAnswer → Type 0
IsAnswer names tokens answer =
    (value : Token)
    × (calls : List Token)
    × (tokens ≡ Word (codes "gz") ∷ value ∷ calls)
    × IsNumberOperand names value answer.value
    × AreCalls names calls answer.calls
    × (length answer.calls ≤ most_calls)

-- these tokens may be after a call in an answer: none, or a `;` and then others
abbrev pub MayFollow : List Token → Type 0
MayFollow [] = Unit {0}
MayFollow (mark ∷ tokens) = (mark ≡ Semicolon) × (tokens ≢ [])
