-- Tokens queue one answer at most, and none where they make a call.
use Rattle.std.proofs.Common.{◌≡◌, ◌≢◌, ℕ, List, [], ◌∷◌, ◌++◌, Option, Some, None, length, codes, refl, sym, ap, subst, ◌∙◌, arith}
use Rattle.script_lang.specs.Lines.{name_of}
use Rattle.script_lang.specs.Table.{signature}
use Rattle.script_lang.specs.declared.table.CallName.{CallName}
use Rattle.script_lang.specs.declared.table.CallName.TheVariants as name
use Rattle.script_lang.specs.declared.table.BytesName.{BytesName}
use Rattle.script_lang.specs.declared.table.BytesName.TheVariants as bytes
use Rattle.script_lang.specs.declared.table.FileName.{FileName}
use Rattle.script_lang.specs.declared.table.FileName.TheVariants as file
use Rattle.script_lang.specs.declared.table.KindName.{KindName}
use Rattle.script_lang.specs.declared.table.KindName.TheVariants as kind
use Rattle.script_lang.specs.declared.table.HandleName.{HandleName}
use Rattle.script_lang.specs.declared.table.HandleName.TheVariants as handle
use Rattle.script_lang.specs.declared.table.ResourceHandleName.{ResourceHandleName}
use Rattle.script_lang.specs.declared.table.ResourceHandleName.TheVariants as resource_handle
use Rattle.script_lang.specs.declared.table.NumberName.{NumberName}
use Rattle.script_lang.specs.declared.table.NumberName.TheVariants as number
use Rattle.script_lang.specs.declared.table.PlainName.{PlainName}
use Rattle.script_lang.specs.declared.table.PlainName.TheVariants as plain
use Rattle.script_lang.specs.declared.table.ResourceName.{ResourceName}
use Rattle.script_lang.specs.declared.table.ResourceName.TheVariants as resource
use Rattle.script_lang.specs.declared.table.ThreeNumbersName.{ThreeNumbersName}
use Rattle.script_lang.specs.declared.table.ThreeNumbersName.TheVariants as three_numbers
use Rattle.script_lang.specs.declared.table.TwoNumbersName.{TwoNumbersName}
use Rattle.script_lang.specs.declared.table.TwoNumbersName.TheVariants as two_numbers
use Rattle.script_lang.specs.declared.line.CallLine.{CallLine}
use Rattle.script_lang.specs.declared.line.NumberOperand.{NumberOperand}
use Rattle.script_lang.specs.declared.line.ReleasingName.{ReleasingName}
use Rattle.script_lang.specs.declared.line.ReleasingName.TheVariants.{DisposeHandle, DisposePtr, EmptyHandle}
use Rattle.script_lang.specs.declared.line.WrittenAnswer.{WrittenAnswer}
use Rattle.script_lang.specs.declared.line.WrittenCall.{WrittenCall}
use Rattle.script_text.specs.Tokens.{Token, Equals, Word}
use Rattle.script_text.specs.Answers.{releasing_text, IsWrittenCall, AreCalls, IsAnswer}
use Rattle.script_text.specs.Operands.{IsNumberOperand}
use Rattle.script_text.specs.Script.{assignment, IsCall}
use Rattle.script_text.proofs.OneOperand.{one_number_operand}

-- no two calls of answers have one name
pub one_releasing : (a b : ReleasingName) → releasing_text a ≡ releasing_text b → a ≡ b
one_releasing DisposeHandle DisposeHandle e = refl
one_releasing DisposeHandle DisposePtr e = let long : 13 ≡ 10 = ap length e in absurd (omega (arith, long))
one_releasing DisposeHandle EmptyHandle e = let long : 13 ≡ 11 = ap length e in absurd (omega (arith, long))
one_releasing DisposePtr DisposeHandle e = let long : 10 ≡ 13 = ap length e in absurd (omega (arith, long))
one_releasing DisposePtr DisposePtr e = refl
one_releasing DisposePtr EmptyHandle e = let long : 10 ≡ 11 = ap length e in absurd (omega (arith, long))
one_releasing EmptyHandle DisposeHandle e = let long : 11 ≡ 13 = ap length e in absurd (omega (arith, long))
one_releasing EmptyHandle DisposePtr e = let long : 11 ≡ 10 = ap length e in absurd (omega (arith, long))
one_releasing EmptyHandle EmptyHandle e = refl

-- a call of these parts
abbrev made : ReleasingName → NumberOperand → WrittenCall
made call operand = record { call = call; operand = operand }

-- two tokens are one call at most
pub one_written : (names : List (List ℕ)) (name operand : Token) (a b : WrittenCall) → IsWrittenCall names name operand a → IsWrittenCall names name operand b → a ≡ b
one_written names name operand a b p q =
    let words : Word (releasing_text a.call) ≡ Word (releasing_text b.call) = sym p.0 ∙ q.0 in
    let texts : releasing_text a.call ≡ releasing_text b.call = cc in
    ap (λ (c : ReleasingName). made c a.operand) (one_releasing a.call b.call texts) ∙ ap (λ (o : NumberOperand). made b.call o) (one_number_operand names operand a.operand b.operand p.1 q.1)

-- tokens are one list of calls at most
pub one_calls : (names : List (List ℕ)) (tokens : List Token) (a b : List WrittenCall) → AreCalls names tokens a → AreCalls names tokens b → a ≡ b
one_calls names [] [] [] p q = refl
one_calls names [] [] (y ∷ b) p q = absurd q
one_calls names [] (x ∷ a) b p q = absurd p
one_calls names (name ∷ []) a b p q = absurd p
one_calls names (name ∷ operand ∷ []) [] b p q = absurd p
one_calls names (name ∷ operand ∷ []) (x ∷ x2 ∷ a) b p q = absurd p
one_calls names (name ∷ operand ∷ []) (x ∷ []) [] p q = absurd q
one_calls names (name ∷ operand ∷ []) (x ∷ []) (y ∷ y2 ∷ b) p q = absurd q
one_calls names (name ∷ operand ∷ []) (x ∷ []) (y ∷ []) p q = ap (λ (w : WrittenCall). w ∷ []) (one_written names name operand x y p q)
one_calls names (name ∷ operand ∷ mark ∷ []) a b p q = absurd p
one_calls names (name ∷ operand ∷ mark ∷ token ∷ tokens) [] b p q = absurd p
one_calls names (name ∷ operand ∷ mark ∷ token ∷ tokens) (x ∷ a) [] p q = absurd q
one_calls names (name ∷ operand ∷ mark ∷ token ∷ tokens) (x ∷ a) (y ∷ b) p q =
    let head : x ≡ y = one_written names name operand x y p.0 q.0 in
    let tail : a ≡ b = one_calls names (token ∷ tokens) a b p.2 q.2 in
    cc

-- an answer of these parts
abbrev answer_of : NumberOperand → List WrittenCall → WrittenAnswer
answer_of value calls = record { value = value; calls = calls }

-- tokens queue one answer at most
pub one_answer : (names : List (List ℕ)) (tokens : List Token) (a b : WrittenAnswer) → IsAnswer names tokens a → IsAnswer names tokens b → a ≡ b
one_answer names tokens a b p q =
    let same : Word (codes "gz") ∷ p.0 ∷ p.1 ≡ Word (codes "gz") ∷ q.0 ∷ q.1 = sym p.2 ∙ q.2 in
    let value : q.0 ≡ p.0 = cc in
    let calls : q.1 ≡ p.1 = cc in
    ap (λ (v : NumberOperand). answer_of v a.calls) (one_number_operand names p.0 a.value b.value p.3 (subst (λ (t : Token). IsNumberOperand names t b.value) value q.3))
    ∙ ap (λ (c : List WrittenCall). answer_of b.value c) (one_calls names p.1 a.calls b.calls p.4 (subst (λ (t : List Token). AreCalls names t b.calls) calls q.4))

plain_not_two : (call : PlainName) → length (signature (name.Plain call)).name ≡ 2 → ⊥
plain_not_two plain.NewEmptyHandle e = absurd (omega (arith, e))
plain_not_two _ e = absurd (omega (arith, e))

handle_not_two : (call : HandleName) → length (signature (name.Number (number.Handle call))).name ≡ 2 → ⊥
handle_not_two handle.DisposeHandle e = absurd (omega (arith, e))
handle_not_two _ e = absurd (omega (arith, e))

resource_handle_not_two : (call : ResourceHandleName) → length (signature (name.Number (number.ResourceHandle call))).name ≡ 2 → ⊥
resource_handle_not_two resource_handle.LoadResource e = absurd (omega (arith, e))
resource_handle_not_two _ e = absurd (omega (arith, e))

number_not_two : (call : NumberName) → length (signature (name.Number call)).name ≡ 2 → ⊥
number_not_two (number.Handle call) e = handle_not_two call e
number_not_two (number.ResourceHandle call) e = resource_handle_not_two call e
number_not_two number.NewHandle e = absurd (omega (arith, e))
number_not_two _ e = absurd (omega (arith, e))

two_numbers_not_two : (call : TwoNumbersName) → length (signature (name.TwoNumbers call)).name ≡ 2 → ⊥
two_numbers_not_two two_numbers.SetHandleSize e = absurd (omega (arith, e))
two_numbers_not_two _ e = absurd (omega (arith, e))

three_numbers_not_two : (call : ThreeNumbersName) → length (signature (name.ThreeNumbers call)).name ≡ 2 → ⊥
three_numbers_not_two three_numbers.Peek e = absurd (omega (arith, e))
three_numbers_not_two _ e = absurd (omega (arith, e))

bytes_not_two : (call : BytesName) → length (signature (name.Bytes call)).name ≡ 2 → ⊥
bytes_not_two bytes.Poke e = absurd (omega (arith, e))
bytes_not_two _ e = absurd (omega (arith, e))

resource_not_two : (call : ResourceName) → length (signature (name.Resource call)).name ≡ 2 → ⊥
resource_not_two resource.GetResource e = absurd (omega (arith, e))
resource_not_two _ e = absurd (omega (arith, e))

kind_not_two : (call : KindName) → length (signature (name.Kind call)).name ≡ 2 → ⊥
kind_not_two kind.UniqueID e = absurd (omega (arith, e))
kind_not_two _ e = absurd (omega (arith, e))

file_not_two : (call : FileName) → length (signature (name.File call)).name ≡ 2 → ⊥
file_not_two file.CloseResFile e = absurd (omega (arith, e))
file_not_two _ e = absurd (omega (arith, e))

not_two : (call : CallName) → length (signature call).name ≡ 2 → ⊥
not_two (name.Plain call) e = plain_not_two call e
not_two (name.Number call) e = number_not_two call e
not_two (name.TwoNumbers call) e = two_numbers_not_two call e
not_two (name.ThreeNumbers call) e = three_numbers_not_two call e
not_two (name.Bytes call) e = bytes_not_two call e
not_two (name.Resource call) e = resource_not_two call e
not_two (name.Kind call) e = kind_not_two call e
not_two (name.File call) e = file_not_two call e
not_two name.BlockMove e = absurd (omega (arith, e))
not_two name.GetIndResource e = absurd (omega (arith, e))
not_two name.AddResource e = absurd (omega (arith, e))

-- no call is named gz
no_gz : (call : CallName) → (signature call).name ≢ codes "gz"
no_gz call e = not_two call (ap length e)

-- `=` is no value
no_equals : (names : List (List ℕ)) (x : NumberOperand) → ¬ IsNumberOperand names Equals x
no_equals names x p = p

-- tokens that queue an answer make no call
pub not_both : (names : List (List ℕ)) (tokens : List Token) (line : CallLine) (answer : WrittenAnswer) → IsCall names tokens line → ¬ IsAnswer names tokens answer
not_both names tokens line answer p q = by_name p.0 (sym p.2 ∙ q.2)
  where
    by_name : (name : Option (List ℕ)) → assignment name ++ Word (signature (name_of line.call)).name ∷ p.1 ≡ Word (codes "gz") ∷ q.0 ∷ q.1 → ⊥
    by_name None e = let same : (signature (name_of line.call)).name ≡ codes "gz" = cc in no_gz (name_of line.call) same
    by_name (Some name) e = let value : q.0 ≡ Equals = cc in no_equals names answer.value (subst (λ (t : Token). IsNumberOperand names t answer.value) value q.3)
