-- What a run of a script writes, and how it ends.
use Rattle.std.specs.Prelude.{◌≡◌, ◌≢◌, ◌⊎◌, ℕ, List, [], ◌∷◌, ◌++◌}
use Rattle.std.proofs.Common.{inl, inr}
use Rattle.std.specs.List.{concat}
use Rattle.mac_base.specs.declared.call.Call.TheVariants.{Resource}
use Rattle.mac_base.specs.declared.resource_call.ResourceCall.TheVariants.{OpenResFile}
use Rattle.mac_base.specs.Outcomes.{Outcome}
use Rattle.fork_disk.specs.declared.store.ForkStore.{Ghosts}
use Rattle.script_lang.specs.declared.line.Line.{Line}
use Rattle.script_lang.specs.declared.line.Statement.{Statement}
use Rattle.script_lang.specs.declared.line.Statement.TheVariants.{Call, Answer}
use Rattle.script_lang.specs.Resolving.{call_of}
use Rattle.script_text.specs.Script.{IsScript, IsFaultAt}
use Rattle.script_lang.specs.Text.{fault_text}
pub use Rattle.script_lang.specs.Text.{no_memory_text}
use Rattle.script_run.specs.declared.end.RunEnd.{RunEnd}
use Rattle.script_run.specs.declared.end.RunEnd.TheVariants.{Finished, ScriptFault, NoMemory, ReadFault, WriteFault}
use Rattle.script_run.specs.declared.machine.Machine.{Machine}
use Rattle.script_run.specs.declared.moments.Moment.{Moment}
use Rattle.script_run.specs.Line.{LineDoes, OpensFirst, SameForks, StopsAt}
use Rattle.script_run.specs.Turns.{Idle, Made, Turn, moments_of, stores_of, turn_at}

-- from old the lines may print these texts, one for each line, and leave new
abbrev pub AreRun : {S : Type 0} → Ghosts S → Machine S → List Line → List (List ℕ) → Machine S → Type 0
AreRun store old [] [] new = new ≡ old
AreRun {S = S} store old (line ∷ lines) (text ∷ texts) new = (mid : Machine S) × LineDoes store old line text mid × AreRun store mid lines texts new
AreRun store old [] (text ∷ texts) new = ⊥
AreRun store old (line ∷ lines) [] new = ⊥

-- From start, file 1 is opened, which may print the first of these texts, and then the lines may print one each and
-- leave new.
abbrev pub IsRun : {S : Type 0} → Ghosts S → Machine S → List Line → List (List ℕ) → Machine S → Type 0
IsRun store start lines [] new = ⊥
IsRun {S = S} store start lines (text ∷ texts) new = (opened : Machine S) × OpensFirst store start text opened × AreRun store opened lines texts new

-- the turns of these lines
abbrev pub turns_at : {S : Type 0} (store : Ghosts S) (old : Machine S) (lines : List Line) (texts : List (List ℕ)) (new : Machine S) → AreRun store old lines texts new → List (Turn S)
turns_at store old (line ∷ lines) (text ∷ texts) new run = turn_at store old line.number line.statement text run.0 run.1 ∷ turns_at store run.0 lines texts new run.2
turns_at store old _ _ new run = []

-- the turn in which file 1 is opened, by its outcome, the machine that it leaves and what it prints
abbrev pub opening_turn : {S : Type 0} → Machine S → Outcome → List ℕ → Turn S
opening_turn opened outcome text = Made (record { call = Resource (OpenResFile 1); asks = []; outcome = outcome; left = opened.toolbox }) text

-- the turns of a run: the opening of file 1, and each line
abbrev pub turns_of : {S : Type 0} (store : Ghosts S) (start : Machine S) (lines : List Line) (texts : List (List ℕ)) (new : Machine S) → IsRun store start lines texts new → List (Turn S)
turns_of store start lines (text ∷ texts) new run = opening_turn run.0 (run.1.0) text ∷ turns_at store run.0 lines texts new run.2
turns_of store start lines [] new run = []

-- A run as far as it came: from start, file 1 was opened and the first lines of the script were run, which print these
-- texts and leave last.
pub record Ran {S : Type 0} (store : Ghosts S) (start : Machine S) (input : List ℕ) : Type 0 where
  pub lines : List Line
  pub rest : List Line
  pub script : IsScript input (lines ++ rest)
  pub texts : List (List ℕ)
  pub last : Machine S
  pub run : IsRun store start lines texts last

-- the turn at the line where host memory ends: its call is made, and its reply is too long, or it makes none
abbrev pub turn_stopped : {S : Type 0} (store : Ghosts S) (old : Machine S) (number : ℕ) (statement : Statement) (new : Machine S) → StopsAt store old number statement new → Turn S
turn_stopped store old number (Call line) new (inl unmade) = Idle new.toolbox no_memory_text
turn_stopped store old number (Call line) new (inr long) =
    Made (record { call = call_of old.variables line; asks = long.1; outcome = (long.0).outcome; left = new.toolbox }) no_memory_text
turn_stopped store old number (Answer line) new same = Idle new.toolbox no_memory_text

-- The texts that a run makes and writes one after the other, until it ends so, its turns, and the stores that it leaves.
abbrev pub Makes : {S : Type 0} → Ghosts S → Machine S → List ℕ → RunEnd → List (List ℕ) → List (Turn S) → List S → Type 0
-- all replies
Makes store start input Finished texts turns left = (ran : Ran store start input) × (ran.rest ≡ []) × (texts ≡ ran.texts)
    × (turns ≡ turns_of store start ran.lines ran.texts ran.last ran.run) × (left ≡ stores_of ran.last)
-- the one line that names the first line that is none
Makes store start input (ScriptFault line wrong) texts turns left = IsFaultAt input line × (texts ≡ fault_text line ∷ []) × (turns ≡ []) × (left ≡ stores_of start)
-- the line `no memory`, before file 1 was opened, or since that had none; or the replies so far, and `no memory` at the
-- next line
Makes {S = S} store start input NoMemory texts turns left = ((texts ≡ no_memory_text ∷ []) × (turns ≡ []) × (left ≡ stores_of start))
    ⊎ (((after : Machine S) × (texts ≡ no_memory_text ∷ []) × (turns ≡ Idle after.toolbox no_memory_text ∷ []) × SameForks store (stores_of start) (stores_of after) × (left ≡ stores_of after))
    ⊎ ((ran : Ran store start input) × (line : Line) × (later : List Line) × (after : Machine S) × (ran.rest ≡ line ∷ later)
    × (stops : StopsAt store ran.last line.number line.statement after) × (texts ≡ ran.texts ++ no_memory_text ∷ [])
    × (turns ≡ turns_of store start ran.lines ran.texts ran.last ran.run ++ turn_stopped store ran.last line.number line.statement after stops ∷ []) × (left ≡ stores_of after)))
-- none
Makes store start input ReadFault texts turns left = (texts ≡ []) × (turns ≡ []) × (left ≡ stores_of start)
-- the replies so far
Makes store start input WriteFault texts turns left = (ran : Ran store start input) × (texts ≡ ran.texts)
    × (turns ≡ turns_of store start ran.lines ran.texts ran.last ran.run) × (left ≡ stores_of ran.last)

-- one begins the other, which is longer
abbrev pub IsProperFront : List ℕ → List ℕ → Type 0
IsProperFront front whole = (rest : List ℕ) × (whole ≡ front ++ rest) × (rest ≢ [])

-- all but the last of these texts were written whole, and of the last one a proper front
abbrev pub IsCut : List (List ℕ) → List ℕ → Type 0
IsCut texts written = (whole : List (List ℕ)) × (last : List ℕ) × (front : List ℕ) × (texts ≡ whole ++ last ∷ []) × IsProperFront front last × (written ≡ concat whole ++ front)

-- A run from start on this input ends so, having written this, had these moments, and leaves these stores: all texts
-- were written, or a write failed at the last one that was made.
abbrev pub Ends : {S : Type 0} → Ghosts S → Machine S → List ℕ → RunEnd → List ℕ → List (Moment S) → List S → Type 0
Ends {S = S} store start input WriteFault written moments left = (end : RunEnd) × (texts : List (List ℕ)) × (turns : List (Turn S)) × Makes store start input end texts turns left
    × IsCut texts written × (moments ≡ moments_of [] start.toolbox turns)
Ends {S = S} store start input end written moments left = (texts : List (List ℕ)) × (turns : List (Turn S)) × Makes store start input end texts turns left
    × (written ≡ concat texts) × (moments ≡ moments_of [] start.toolbox turns)

-- having made a last text to end as it says, a run ends so: the text was written, or a write failed
abbrev pub Tells : RunEnd → List ℕ → RunEnd → List ℕ → Type 0
Tells meant text end written = ((end ≡ meant) × (written ≡ text)) ⊎ ((end ≡ WriteFault) × IsProperFront written text)
