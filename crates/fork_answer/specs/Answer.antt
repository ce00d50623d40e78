-- What is shown of a resource fork.
use Rattle.std.specs.Prelude.{◌≡◌, ◌≢◌, ℕ, ◌⊎◌, Bool, true, false, List, [], ◌++◌, length, replicate, slice_get, Option, None, Some, Result, Ok, Err, ⊤}
use Rattle.std.specs.List.{filter}
use Rattle.std.specs.Io.KnownBytes.{Appends}
use Rattle.fork_bytes.specs.declared.fault.ForkFault.{ForkFault}
use Rattle.fork_bytes.specs.declared.table.Table.{Table}
use Rattle.fork_bytes.specs.Rows.{Row}
use Rattle.mac_base.specs.declared.resource.Resource.{Resource}
use Rattle.fork_bytes.specs.Fork.{StandsForWithin, RefusesWithin, format_limits}
use Rattle.fork_list.specs.Compressed.{unpacked_length}
use Rattle.fork_list.specs.Listing.{listing}
use Rattle.fork_list.specs.Types.{type_lines}
use Rattle.fork_list.specs.Find.{is_wanted}
use Rattle.fork_answer.specs.Source.{IsForkIn, IsNoForkIn}
use Rattle.fork_answer.specs.declared.source.NoFork.{NoFork}
use Rattle.fork_answer.specs.declared.request.Request.{Request}
use Rattle.fork_answer.specs.declared.request.Request.TheVariants as request
use Rattle.fork_list.specs.declared.find.Wanted.{Wanted}
use Rattle.fork_answer.specs.declared.answer.Failure.{Failure}
use Rattle.fork_answer.specs.declared.answer.Failure.TheVariants as failure

-- the table of a file without resources
abbrev pub empty_table : Table
empty_table = record { rows = []; extra = replicate 240 0; map_attributes = 0 }

-- the table of a fork: that which its bytes stand for; without any, it has no resources
abbrev pub IsTableOf : List ℕ → Table → Type 0
IsTableOf fork table = ((fork ≡ []) × (table ≡ empty_table)) ⊎ StandsForWithin format_limits fork table

-- what reading a fork gives: its table, or why it is none
abbrev pub IsReadOf : List ℕ → Result Table ForkFault → Type 0
IsReadOf fork (Ok table) = IsTableOf fork table
IsReadOf fork (Err fault) = (fork ≢ []) × RefusesWithin format_limits fork fault

-- the resource that is wanted: the n-th of those with its type, and its id or its name
abbrev pub wanted_row : {X : Type 0} → Wanted → List (Resource X) → Option (Resource X)
wanted_row wanted rows = slice_get (filter (is_wanted wanted) rows) wanted.nth

-- the text is what is asked for of the table: its list, that of its types, or the bytes of a resource
abbrev pub IsAsked : Request → Table → List ℕ → Type 0
IsAsked (request.List choice) table text = text ≡ listing length unpacked_length choice.letters choice.kinds.items table.rows
IsAsked (request.Types choice) table text = text ≡ type_lines choice.letters choice.kinds.items table.rows None table.rows
IsAsked (request.Get wanted) table text = (row : Row) × (wanted_row wanted table.rows ≡ Some row) × (text ≡ row.datum)

-- the bytes of a resource are asked for, and no list
abbrev pub is_get : Request → Bool
is_get (request.List choice) = false
is_get (request.Types choice) = false
is_get (request.Get wanted) = true

-- the table has no such resource as is asked for
abbrev pub Lacks : Request → Table → Type 0
Lacks (request.List choice) table = ⊥
Lacks (request.Types choice) table = ⊥
Lacks (request.Get wanted) table = wanted_row wanted table.rows ≡ None

-- a proper front of a text was written, and nothing else
abbrev pub WritesFront : List ℕ → Option (List ℕ) → Option (List ℕ) → Type 0
WritesFront text old new = (front : List ℕ) × (rest : List ℕ) × (text ≡ front ++ rest) × (rest ≢ []) × Appends old new front

-- what an answer says of a table, and of what was written: what is asked for, or that the table lacks it; where a write
-- fails, a proper front of what is asked for
abbrev pub Shows : {T : Type 0} → Request → Table → Option (List ℕ) → Option (List ℕ) → Result T Failure → Type 0
Shows request table old new (Ok done) = (text : List ℕ) × IsAsked request table text × Appends old new text
Shows request table old new (Err failure.NotFound) = Lacks request table
Shows request table old new (Err failure.HostFull) = ⊤
Shows request table old new (Err (failure.Write fault)) = (text : List ℕ) × IsAsked request table text × WritesFront text old new
Shows request table old new (Err (failure.Fork fault)) = ⊥
Shows request table old new (Err (failure.NoFork fault)) = ⊥

-- this text was written, or a proper front of it where a write fails; the host may have no memory
abbrev pub Writes : {T : Type 0} → List ℕ → Option (List ℕ) → Option (List ℕ) → Result T Failure → Type 0
Writes text old new (Ok done) = Appends old new text
Writes text old new (Err failure.NotFound) = ⊥
Writes text old new (Err failure.HostFull) = ⊤
Writes text old new (Err (failure.Write fault)) = WritesFront text old new
Writes text old new (Err (failure.Fork fault)) = ⊥
Writes text old new (Err (failure.NoFork fault)) = ⊥

-- what an answer says of a fork's bytes: what was written is what is asked for of its table, or the table lacks it; or
-- they stand for no table, and the answer says why. Where a write fails, a proper front of it was written; the host may
-- have no memory.
abbrev pub AnswersFork : {T : Type 0} → Request → List ℕ → Option (List ℕ) → Option (List ℕ) → Result T Failure → Type 0
AnswersFork request fork old new result = ((table : Table) × IsTableOf fork table × Shows request table old new result)
    ⊎ ((fault : ForkFault) × (fork ≢ []) × RefusesWithin format_limits fork fault × (result ≡ Err (failure.Fork fault)))

-- what an answer says of a file: what it says of the resource fork in it, or why there is none
abbrev pub Answers : {T : Type 0} → Request → List ℕ → Option (List ℕ) → Option (List ℕ) → Result T Failure → Type 0
Answers request file old new result = ((fork : List ℕ) × IsForkIn file fork × AnswersFork request fork old new result)
    ⊎ ((fault : NoFork) × IsNoForkIn file fault × (result ≡ Err (failure.NoFork fault)))

-- the failure comes before anything is written
abbrev pub IsQuiet : Failure → Type 0
IsQuiet (failure.Write fault) = ⊥
IsQuiet other = ⊤
