-- What a text says: a table, or the line where it is none.
use Rattle.std.specs.Prelude.{◌≡◌, ℕ, ◌+◌, ◌-◌, ◌==◌, ◌&&◌, ◌||◌, not, Bool, List, ◌∷◌, length, take, count_by, Result, Ok, Err}
use Rattle.std.specs.List.{zip}
use Rattle.fork_bytes.specs.declared.table.Table.{Table}
use Rattle.fork_bytes.specs.Written.{plain_rows}
use Rattle.fork_rez.specs.declared.fault.Fault.{Fault}
use Rattle.fork_rez.specs.declared.fault.Refusal.{Refusal}
use Rattle.fork_rez.specs.declared.fault.RezFault.{RezFault}
use Rattle.fork_rez.specs.declared.fault.RezFault.TheVariants.{HostFull, Refused}
use Rattle.fork_rez.specs.declared.table.Made.{Made}
use Rattle.fork_rez.specs.Reading.{table_at}

-- a byte ends a line: a carriage return, or a line feed that doesn't come right after one
abbrev pub ends_line : ℕ → ℕ → Bool
ends_line previous byte = byte == 13 || (byte == 10 && not (previous == 13))

-- how many lines end in a text
abbrev pub line_ends : List ℕ → ℕ
line_ends text = count_by (λ pair. ends_line pair.0 pair.1) (zip (0 ∷ text) text)

-- the line, from 1 on, where so many bytes of a text are left
abbrev pub line_at : List ℕ → ℕ → ℕ
line_at text left = 1 + line_ends (take (length text - left) text)

-- a table, or the line of the fault
abbrev pub said : List ℕ → Result Table Fault → Result Table Refusal
said text (Ok table) = Ok table
said text (Err fault) = Err (record { line = line_at text fault.left; expected = fault.expected })

-- what a whole text says
abbrev pub table_of : List ℕ → Result Table Refusal
table_of text = said text (table_at text)

-- the table of what was made
abbrev pub made_table : Made → Table
made_table made = record { rows = plain_rows (λ v. v.items) made.rows.items; extra = made.extra; map_attributes = made.map_attributes }

-- an answer that is the table or the refusal, unless the host has no memory
abbrev pub Answers : Result Made RezFault → Result Table Refusal → Type 0
Answers (Ok made) read = read ≡ Ok (made_table made)
Answers (Err (Refused refusal)) read = read ≡ Err refusal
Answers (Err HostFull) read = Unit {0}
