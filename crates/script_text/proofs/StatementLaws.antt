-- What the tokens of a line say.
use Rattle.std.proofs.Common.{◌≡◌, ◌≢◌, ℕ, ◌<◌, ◌≤◌, List, [], ◌∷◌, length, Option, None, Some, refl, subst, arith}
use Rattle.script_lang.specs.declared.line.CallLine.{CallLine}
use Rattle.script_lang.specs.declared.line.Statement.{Statement}
use Rattle.script_lang.specs.declared.line.Statement.TheVariants.{Call, Answer}
use Rattle.script_lang.specs.declared.line.WrittenAnswer.{WrittenAnswer}
use Rattle.script_text.specs.Answers.{IsAnswer}
use Rattle.script_text.specs.Tokens.{Token, AreTokens}
use Rattle.script_text.specs.Script.{assigned_by, IsCall, IsStatement, MayStand, IsNoLine, names_after, with_assigned, max_lines}
use Rattle.script_text.specs.Reading.{Says, Reads}
use Rattle.script_text.proofs.NameLaws.{with_name-few}
use Rattle.script_text.proofs.TokenLaws.{one_tokens}

says_none : (number : ℕ) (names : List (List ℕ)) (tokens : List Token) → tokens ≢ [] → ((statement : Statement) → ¬ IsStatement names tokens statement) → ¬ MayStand number names tokens
says_none number names [] some none may = some refl
says_none number names (token ∷ tokens) some none may = none may.0.statement may.1.2

-- a text whose tokens make no call and queue no answer is no line
pub no_line : (number : ℕ) (names : List (List ℕ)) (text : List ℕ) (tokens : List Token) → AreTokens text tokens → tokens ≢ [] → ((statement : Statement) → ¬ IsStatement names tokens statement) → IsNoLine number names text
no_line number names text tokens are some none other there may =
    says_none number names tokens some none (subst (λ (t : List Token). MayStand number names t) (one_tokens text other tokens there are) may)

-- tokens that say what a line says
pub says_line : (number : ℕ) (names : List (List ℕ)) (tokens : List Token) (statement : Statement) → number ≤ max_lines → tokens ≢ [] → IsStatement names tokens statement → Says number names tokens (Some (record { number = number; statement = statement }))
says_line number names [] statement small some is = absurd (some refl)
says_line number names (token ∷ tokens) statement small some is = (small, refl, is)

-- tokens that make no call and queue no answer say nothing
pub no_statement : (names : List (List ℕ)) (tokens : List Token) → ((line : CallLine) → ¬ IsCall names tokens line) → ((line : WrittenAnswer) → ¬ IsAnswer names tokens line) → (statement : Statement) → ¬ IsStatement names tokens statement
no_statement names tokens call answer (Call line) is = call line is
no_statement names tokens call answer (Answer line) is = answer line is

-- the tokens of a text that make a call or queue an answer say what its line says
pub reads_statement : (number : ℕ) (names after : List (List ℕ)) (text : List ℕ) (tokens : List Token) (statement : Statement) → number ≤ max_lines → AreTokens text tokens → tokens ≢ [] → IsStatement names tokens statement → after ≡ names_after names tokens → Reads number names text (Some (record { number = number; statement = statement })) after
reads_statement number names after text tokens statement small are some is named = record { tokens = tokens; are = are; says = says_line number names tokens statement small some is; named = named }

named_few : (number : ℕ) (names : List (List ℕ)) (name : Option (List ℕ)) → length names < number → length (with_assigned names name) ≤ number
named_few number names None few = omega (arith, few)
named_few number names (Some name) few = omega (arith, few, with_name-few names name)

-- a line assigns one name at most
pub names_after-few : (number : ℕ) (names : List (List ℕ)) (tokens : List Token) → length names < number → length (names_after names tokens) ≤ number
names_after-few number names tokens few = named_few number names (assigned_by tokens) few
