-- The texts of a table as lines, and a table with the texts of lines.
use Rattle.std.specs.Prelude.{◌≡◌, ◌⊎◌, ℕ, ◌+◌, ◌-◌, ◌==◌, Bool, false, not, if◌then◌else◌, List, [], ◌∷◌, length, take, count_by, Option, None, Some, Result, Ok, Err, map}
use Rattle.std.specs.List.{filter, flat_map, list_any}
use Rattle.fork_bytes.specs.Rows.{Row}
use Rattle.fork_change.specs.Rows.{id_of}
use Rattle.fork_change.specs.declared.row.ResourceId.{ResourceId}
use Rattle.fork_list.specs.Roman.{AreBytes, roman_text}
use Rattle.fork_texts.specs.declared.entry.Entry.{Entry}
use Rattle.fork_texts.specs.declared.fault.Fault.{Fault}
use Rattle.fork_texts.specs.declared.fault.ReadError.{ReadError}
use Rattle.fork_texts.specs.declared.fault.ReadError.TheVariants as errors
use Rattle.fork_texts.specs.declared.fault.Refusal.{Refusal}
use Rattle.fork_texts.specs.declared.fault.TextFault.{TextFault}
use Rattle.fork_texts.specs.declared.fault.TextFault.TheVariants as faults
use Rattle.fork_texts.specs.declared.fault.Why.{Why}
use Rattle.fork_texts.specs.declared.fault.Why.TheVariants.{NotThere, Order}
use Rattle.fork_texts.specs.declared.kinds.TextType.{TextType}
use Rattle.fork_texts.specs.declared.line.Line.{Line}
use Rattle.fork_texts.specs.Lines.{line_text}
use Rattle.fork_texts.specs.Putting.{Puts}
use Rattle.fork_texts.specs.Reading.{lines_at}
use Rattle.fork_texts.specs.Romans.{IsRomanOf}
use Rattle.fork_texts.specs.Texts.{entries_of, is_at, is_typed}

-- the lines of the texts of rows, in MacRoman
abbrev pub row_lines : List TextType → Row → List ℕ
row_lines types row = flat_map line_text (entries_of types row)

abbrev pub lines_of : List TextType → List Row → List ℕ
lines_of types rows = flat_map (row_lines types) rows

-- the resources whose bytes aren't of their type
abbrev pub odd_of : List TextType → List Row → List ResourceId
odd_of types rows = map id_of (filter (λ row. not (is_typed types row)) rows)

-- whether some row has the text of a line
abbrev pub has_text : List TextType → Line → Row → Bool
has_text types line row = list_any (λ entry. is_at line.entry entry) (entries_of types row)

-- why a line is left
abbrev pub why_left : List TextType → List Row → Line → Why
why_left types rows line = if list_any (has_text types line) rows then Order else NotThere

-- no rows come of these lines, unless the host has no memory
abbrev pub PutsNone : List TextType → List Row → List Line → ReadError → Type 0
PutsNone types rows lines errors.HostFull = Unit {0}
PutsNone types rows lines (errors.Refused fault) = (changed : List Row) → ¬ Puts types rows lines changed

-- the rows that change by lines in MacRoman
abbrev pub PutsText : List TextType → List Row → List ℕ → List Row → Type 0
PutsText types rows text changed = (lines : List Line) × (lines_at text ≡ Ok lines) × Puts types rows lines changed

-- no rows change by them, unless the host has no memory
abbrev pub TextPutsNone : List TextType → List Row → List ℕ → ReadError → Type 0
TextPutsNone types rows text errors.HostFull = Unit {0}
TextPutsNone types rows text (errors.Refused fault) = (changed : List Row) → ¬ PutsText types rows text changed

-- the line and the column after these bytes, which begin in this line and column
abbrev pub position : ℕ → ℕ → List ℕ → ℕ × ℕ
position line column [] = (line, column)
position line column (byte ∷ bytes) = if byte == 10 then position (line + 1) 1 bytes else position line (column + 1) bytes

-- a fault with its line and column
abbrev pub refusal_of : List ℕ → Fault → Refusal
refusal_of text fault =
    let at = position 1 1 (take (length text - fault.left) text) in
    record { line = at.0; column = at.1; why = fault.why }

-- no rows come of these lines in MacRoman, unless the host has no memory
abbrev pub RomanRefuses : List TextType → List Row → List ℕ → TextFault → Type 0
RomanRefuses types rows text faults.HostFull = Unit {0}
RomanRefuses types rows text (faults.Refused refusal) = (changed : List Row) → ¬ PutsText types rows text changed

-- no rows come of these lines, which have a letter that MacRoman lacks, or aren't lines of the texts of these rows; unless
-- the host has no memory
abbrev pub Refuses : List TextType → List Row → List ℕ → TextFault → Type 0
Refuses types rows lines fault =
    ((bytes : List ℕ) × IsRomanOf lines false bytes) ⊎ (((bytes : List ℕ) × (lines ≡ roman_text bytes) × RomanRefuses types rows bytes fault) ⊎ (fault ≡ faults.HostFull))
