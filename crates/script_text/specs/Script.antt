-- The lines of a script.
use Rattle.std.specs.Prelude.{◌≡◌, ◌≢◌, ℕ, zero, suc, ◌+◌, ◌^◌, ◌<◌, ◌≤◌, Bool, IsTrue, List, [], ◌∷◌, ◌++◌, length, take, Option, None, Some, IfSome, option_map, slice_get}
use Rattle.std.specs.Str.Lines.{lines}
use Rattle.script_lang.specs.declared.line.CallLine.{CallLine}
use Rattle.script_lang.specs.declared.line.Line.{Line}
use Rattle.script_lang.specs.declared.line.Statement.{Statement}
use Rattle.script_lang.specs.declared.line.Statement.TheVariants.{Call, Answer}
use Rattle.script_text.specs.declared.script.Fault.{Fault}
use Rattle.script_text.specs.declared.script.Fault.TheVariants as fault
use Rattle.script_text.specs.Tokens.{Token, Equals, Word, AreTokens}
use Rattle.script_lang.specs.declared.table.CallName.{CallName}
use Rattle.script_lang.specs.Lines.{name_of}
use Rattle.script_lang.specs.Table.{signature}
use Rattle.script_text.specs.Answers.{IsAnswer}
use Rattle.script_text.specs.Operands.{is_name, operands_of, AreOperands}
use Rattle.script_text.specs.Names.{place_for, with_name}

-- `name =`, or nothing
abbrev pub assignment : Option (List ℕ) → List Token
assignment None = []
assignment (Some name) = Word name ∷ Equals ∷ []

-- the name that tokens begin with, if `=` is after it
abbrev pub assigned_by : List Token → Option (List ℕ)
assigned_by (Word name ∷ Equals ∷ others) = Some name
assigned_by tokens = None

-- the tokens don't begin with a word
abbrev pub HasNoFirstWord : List Token → Type 0
HasNoFirstWord tokens = (word : List ℕ) (others : List Token) → tokens ≢ Word word ∷ others

-- the tokens don't begin with the name of a call
abbrev pub HasNoCall : List Token → Type 0
HasNoCall tokens = (call : CallName) (others : List Token) → tokens ≢ Word (signature call).name ∷ others

-- a line that assigns this name, if it assigns one, may make a call whose result is assignable, or isn't
abbrev pub MayAssign : Bool → Option (List ℕ) → Type 0
MayAssign is_assignable name = IfSome name (λ word. IsTrue (is_name word) × IsTrue is_assignable)

-- [name =] Call operand ..; a variable among the operands was assigned before, and the name takes its own place
abbrev pub IsCall : List (List ℕ) → List Token → CallLine → Type 0
IsCall names tokens line =
    let call = signature (name_of line.call) in
    (name : Option (List ℕ))
    × (operands : List Token)
    × (tokens ≡ assignment name ++ Word call.name ∷ operands)
    × IfSome name (λ word. IsTrue (is_name word) × IsTrue call.is_assignable)
    × (line.assigned ≡ option_map (place_for names) name)
    × AreOperands names operands (operands_of line.call)

-- the tokens make this call, or queue this answer
abbrev pub IsStatement : List (List ℕ) → List Token → Statement → Type 0
IsStatement names tokens (Call line) = IsCall names tokens line
IsStatement names tokens (Answer line) = IsAnswer names tokens line

-- a script has at most this many lines
abbrev pub max_lines : ℕ
max_lines = 65536

-- the tokens say what this line says, which has this number, where these names have been assigned
abbrev pub IsLine : ℕ → List (List ℕ) → List Token → Line → Type 0
IsLine number names tokens line = (number ≤ max_lines) × (line.number ≡ number) × IsStatement names tokens line.statement

-- the names, and the one that this may be
abbrev pub with_assigned : List (List ℕ) → Option (List ℕ) → List (List ℕ)
with_assigned names None = names
with_assigned names (Some name) = with_name names name

-- the names that were assigned before, and the one that a line of these tokens assigns; an answer assigns none
abbrev pub names_after : List (List ℕ) → List Token → List (List ℕ)
names_after names tokens = with_assigned names (assigned_by tokens)

-- The tokens of texts, numbered from this number on, say nothing, or what a line says: these lines, in order.
abbrev pub AreLines : ℕ → List (List ℕ) → List (List Token) → List Line → Type 0
AreLines number names [] [] = Unit {0}
AreLines number names ([] ∷ texts) script = (number ≤ max_lines) × AreLines (number + 1) names texts script
AreLines number names ((token ∷ tokens) ∷ texts) (line ∷ script) = IsLine number names (token ∷ tokens) line × AreLines (number + 1) (names_after names (token ∷ tokens)) texts script
AreLines number names texts script = ⊥

-- each text has these tokens
abbrev pub AreParted : List (List ℕ) → List (List Token) → Type 0
AreParted [] [] = Unit {0}
AreParted (text ∷ texts) (tokens ∷ parted) = AreTokens text tokens × AreParted texts parted
AreParted texts parted = ⊥

-- a script has at most this many bytes
abbrev pub max_script : ℕ
max_script = 2 ^ 20

-- the bytes are the script of these lines, which are those that say something
abbrev pub IsScript : List ℕ → List Line → Type 0
IsScript text script = (length text ≤ max_script) × (parted : List (List Token)) × AreParted (lines text) parted × AreLines 1 [] parted script

-- the names that the texts of these tokens assign, and those that were assigned before
abbrev pub names_of : List (List ℕ) → List (List Token) → List (List ℕ)
names_of names [] = names
names_of names (tokens ∷ texts) = names_of (names_after names tokens) texts

-- these tokens may be in a line with this number: they are nothing, or make a call, or queue an answer
abbrev pub MayStand : ℕ → List (List ℕ) → List Token → Type 0
MayStand number names [] = number ≤ max_lines
MayStand number names (token ∷ tokens) = (line : Line) × IsLine number names (token ∷ tokens) line

-- a text is no line with this number
abbrev pub IsNoLine : ℕ → List (List ℕ) → List ℕ → Type 0
IsNoLine number names text = (tokens : List Token) → AreTokens text tokens → ¬ MayStand number names tokens

-- so many texts are lines, and the next one is none
pub record StopsAfter (text : List ℕ) (count : ℕ) : Type 0 where
  pub small : length text ≤ max_script
  pub parted : List (List Token)
  pub parts : AreParted (take count (lines text)) parted
  pub front : List Line
  pub before : AreLines 1 [] parted front
  pub here : List ℕ
  pub next : slice_get (lines text) count ≡ Some here
  pub none : IsNoLine (count + 1) (names_of [] parted) here

-- The bytes are no script, and this is the first line that is none: 0 where there are too many bytes.
abbrev pub IsFaultAt : List ℕ → ℕ → Type 0
IsFaultAt text zero = max_script < length text
IsFaultAt text (suc count) = StopsAfter text count

-- the reason why bytes are no script holds; want of memory may come at any time
abbrev pub IsFault : List ℕ → Fault → Type 0
IsFault text (fault.Line number wrong) = IsFaultAt text number
IsFault text fault.HostFull = Unit {0}

-- No bytes have two first lines that are none.
abbrev pub OneFault : Type 0
OneFault = (text : List ℕ) (m n : ℕ) → IsFaultAt text m → IsFaultAt text n → m ≡ n

-- No script has a line that is none.
abbrev pub NoFault : Type 0
NoFault = (text : List ℕ) (n : ℕ) (script : List Line) → IsScript text script → ¬ IsFaultAt text n

-- No bytes are the script of two lists of lines.
abbrev pub OneReading : Type 0
OneReading = (text : List ℕ) (a b : List Line) → IsScript text a → IsScript text b → a ≡ b
