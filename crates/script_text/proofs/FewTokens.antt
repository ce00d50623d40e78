-- A line that says something has few tokens.
use Rattle.std.proofs.Common.{ℕ, ◌*◌, ◌<◌, ◌≤◌, List, [], ◌∷◌, length, ap, ◌∙◌, arith, lit≤, Option, None, Some}
use Rattle.std.proofs.lemmas.List.{length-append}
use Rattle.script_lang.specs.declared.line.Statement.{Statement}
use Rattle.script_lang.specs.declared.line.Statement.TheVariants.{Call, Answer}
use Rattle.script_lang.specs.declared.line.WrittenCall.{WrittenCall}
use Rattle.script_text.specs.Answers.{AreCalls}
use Rattle.script_text.specs.Script.{assignment, IsStatement, IsNoLine, MayStand, max_lines}
use Rattle.script_text.specs.Tokens.{Token, HasNoFewTokens, most_tokens}
use Rattle.script_text.specs.Operands.{operands_of}
use Rattle.script_text.proofs.CallLaws.{five_operands}
use Rattle.script_text.proofs.OperandLaws.{AreOperands-length}

few_assigned : (name : Option (List ℕ)) → length (assignment name) ≤ 2
few_assigned None = lit≤ tt
few_assigned (Some name) = lit≤ tt

-- so many calls have three times as many tokens at most
few_calls : (names : List (List ℕ)) (tokens : List Token) (calls : List WrittenCall) → AreCalls names tokens calls → length tokens ≤ 3 * length calls
few_calls names [] [] are = omega arith
few_calls names [] (c ∷ cs) are = absurd are
few_calls names (a ∷ []) calls are = absurd are
few_calls names (a ∷ b ∷ []) [] are = absurd are
few_calls names (a ∷ b ∷ []) (c ∷ []) are = omega arith
few_calls names (a ∷ b ∷ []) (c ∷ d ∷ cs) are = absurd are
few_calls names (a ∷ b ∷ m ∷ []) calls are = absurd are
few_calls names (a ∷ b ∷ m ∷ t ∷ ts) [] are = absurd are
few_calls names (a ∷ b ∷ m ∷ t ∷ ts) (c ∷ cs) are = let more = few_calls names (t ∷ ts) cs are.2 in omega arith

-- what says something has few tokens
few_tokens : (names : List (List ℕ)) (tokens : List Token) (statement : Statement) → IsStatement names tokens statement → length tokens ≤ most_tokens
few_tokens names tokens (Call line) is =
    let name = few_assigned is.0 in
    let operands = AreOperands-length names is.1 (operands_of line.call) is.5 in
    let few = five_operands line.call in
    let all = ap length is.2 ∙ length-append (assignment is.0) _ in
    omega arith
few_tokens names tokens (Answer line) is =
    let calls = few_calls names is.1 line.calls is.4 in
    let all = ap length is.2 in
    let few = is.5 in
    omega arith

-- a text with more is no line
pub many_none : (number : ℕ) (names : List (List ℕ)) (text : List ℕ) → HasNoFewTokens text → IsNoLine number names text
many_none number names text many tokens are may = by tokens (many tokens are) may
  where
    by : (tokens : List Token) → most_tokens < length tokens → MayStand number names tokens → ⊥
    by [] more may = omega arith
    by (t ∷ ts) more may = let few = few_tokens names (t ∷ ts) may.0.statement may.1.2 in omega arith

-- nor is one after the last
pub beyond_none : (number : ℕ) (names : List (List ℕ)) (text : List ℕ) → max_lines < number → IsNoLine number names text
beyond_none number names text beyond tokens are may = by tokens may
  where
    by : (tokens : List Token) → MayStand number names tokens → ⊥
    by [] small = omega arith
    by (t ∷ ts) may = let small = may.1.0 in omega arith
