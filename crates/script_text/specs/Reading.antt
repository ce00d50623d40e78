-- What is read from one line.
use Rattle.std.specs.Prelude.{◌≡◌, ℕ, ◌≤◌, List, [], ◌∷◌, ◌++◌, Option, None, Some, option_to_list}
use Rattle.script_lang.specs.declared.line.Line.{Line}
use Rattle.script_text.specs.declared.script.Fault.{Fault}
use Rattle.script_text.specs.declared.script.Fault.TheVariants as fault
use Rattle.script_text.specs.Tokens.{Token, AreTokens}
use Rattle.script_text.specs.Script.{max_lines, IsLine, IsNoLine, names_after}

-- what the tokens of a text say: nothing, or what a line says
abbrev pub Says : ℕ → List (List ℕ) → List Token → Option Line → Type 0
Says number names [] None = number ≤ max_lines
Says number names (token ∷ tokens) (Some line) = IsLine number names (token ∷ tokens) line
Says number names tokens found = ⊥

-- what a text says, and the names that are assigned when it ends
pub record Reads (number : ℕ) (names : List (List ℕ)) (text : List ℕ) (found : Option Line) (after : List (List ℕ)) : Type 0 where
  pub tokens : List Token
  pub are : AreTokens text tokens
  pub says : Says number names tokens found
  pub named : after ≡ names_after names tokens

-- what a text says follows the lines before it
abbrev pub Adds : ℕ → List (List ℕ) → List ℕ → List Line → List (List ℕ) → List Line → Type 0
Adds number names text script after longer = (found : Option Line) × Reads number names text found after × (longer ≡ script ++ option_to_list found)

-- the reason why a text is no line with this number holds; want of memory may come at any time
abbrev pub Fails : ℕ → List (List ℕ) → List ℕ → Fault → Type 0
Fails number names text (fault.Line n wrong) = (n ≡ number) × IsNoLine number names text
Fails number names text fault.HostFull = Unit {0}
