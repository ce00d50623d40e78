-- What a run does at each line, and the moments before it and after it.
use Rattle.std.specs.Prelude.{◌≡◌, ℕ, List, [], ◌∷◌, ◌++◌, map}
use Rattle.fork_disk.specs.declared.store.ForkStore.{Ghosts}
use Rattle.script_lang.specs.declared.line.Statement.{Statement}
use Rattle.script_lang.specs.declared.line.Statement.TheVariants.{Call, Answer}
use Rattle.script_lang.specs.Resolving.{call_of}
use Rattle.script_run.specs.declared.machine.Machine.{Machine}
use Rattle.script_run.specs.declared.moments.Moment.{Moment}
use Rattle.script_run.specs.Line.{StatementDoes}
use Rattle.toolbox.specs.Headline.{Stepped}
use Rattle.toolbox.specs.ToolState.{ToolState}

-- the stores that a machine has
abbrev pub stores_of : {S : Type 0} → Machine S → List S
stores_of machine = machine.toolbox.resources.stores

-- this had been written, and these were the stores
abbrev pub moment : {S : Type 0} → List ℕ → List S → Moment S
moment written stores = record { written = written; stores = stores }

-- These moments were noted: of each, what had been written since then, after this.
abbrev pub Noted : {S : Type 0} → List ℕ → List (Moment S) → List (Moment S) → List (Moment S) → Type 0
Noted {S = S} before old noted new = new ≡ old ++ map (λ (m : Moment S). moment (before ++ m.written) m.stores) noted

-- some moments were noted, of which this is so
abbrev pub Notes : {S : Type 0} → List ℕ → List (Moment S) → List (Moment S) → (List (Moment S) → Type 0) → Type 0
Notes {S = S} before old new So = (noted : List (Moment S)) × Noted before old noted new × So noted

-- A turn of a run, at a line or where file 1 is opened: the call that was made and what it left, or no call, and the
-- toolbox as it was then; and the text that was printed.
pub data Turn (S : Type 0) : Type 0 where
  Made : Stepped S → List ℕ → Turn S
  Idle : ToolState S → List ℕ → Turn S

-- the toolbox after a turn
abbrev pub turn_left : {S : Type 0} → Turn S → ToolState S
turn_left (Made step text) = step.left
turn_left (Idle left text) = left

-- what it prints
abbrev pub turn_text : {S : Type 0} → Turn S → List ℕ
turn_text (Made step text) = text
turn_text (Idle left text) = text

-- the toolbox after some turns
abbrev pub toolbox_after : {S : Type 0} → ToolState S → List (Turn S) → ToolState S
toolbox_after old [] = old
toolbox_after old (turn ∷ turns) = toolbox_after (turn_left turn) turns

-- what has been printed after them, where this was before them
abbrev pub printed_after : {S : Type 0} → List ℕ → List (Turn S) → List ℕ
printed_after front [] = front
printed_after front (turn ∷ turns) = printed_after (front ++ turn_text turn) turns

-- The moments of some turns, where this was printed before them: of each, one before its call and one after it. What
-- the turn prints is written only then, and all of it before the next turn.
abbrev pub moments_of : {S : Type 0} → List ℕ → ToolState S → List (Turn S) → List (Moment S)
moments_of front old [] = []
moments_of front old (turn ∷ turns) = moment front old.resources.stores ∷ moment front (turn_left turn).resources.stores
    ∷ moments_of (front ++ turn_text turn) (turn_left turn) turns

-- the turn at a line that does so: it makes its call, or queues an answer
abbrev pub turn_at : {S : Type 0} (store : Ghosts S) (old : Machine S) (number : ℕ) (statement : Statement) (text : List ℕ) (new : Machine S)
    → StatementDoes store old number statement text new → Turn S
turn_at store old number (Call line) text new does =
    Made (record { call = call_of old.variables line; asks = does.1; outcome = (does.0).outcome; left = new.toolbox }) text
turn_at store old number (Answer line) text new does = Idle new.toolbox text
