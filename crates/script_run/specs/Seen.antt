-- What a start finds after a crash, by what the user had seen of the runs before it.
use Rattle.std.specs.Prelude.{◌≡◌, ℕ, ◌-◌, ◌≤◌, ◌⊎◌, List, [], ◌∷◌, ◌++◌, slice_get, ⊤}
use Rattle.std.specs.Option.{IsSomeAnd}
use Rattle.mac_base.specs.ZoneSizes.{ZoneSizes}
use Rattle.fork_disk.specs.declared.store.ForkStore.{Ghosts}
use Rattle.fork_disk.specs.Crash.{Finds}
use Rattle.res_files.specs.Crash.{history_of}
use Rattle.res_files.specs.FilesOn.{HonestAt}
use Rattle.toolbox.specs.Headline.{Stepped}
use Rattle.toolbox.specs.Recovery.{Saves, Settles}
use Rattle.toolbox.specs.ToolState.{ToolState}
use Rattle.script_run.specs.declared.end.RunEnd.{RunEnd}
use Rattle.script_run.specs.declared.moments.Moment.{Moment}
use Rattle.script_run.specs.Line.{start_of}
use Rattle.script_run.specs.Run.{IsProperFront, Makes}
use Rattle.script_run.specs.Turns.{Made, Idle, Turn, moment, moments_of, printed_after, toolbox_after, turn_left, turn_text}

-- one begins the other
abbrev pub IsFront : List ℕ → List ℕ → Type 0
IsFront front whole = (rest : List ℕ) × (whole ≡ front ++ rest)

-- a history, the last event first, that goes on from an older one
abbrev pub GoesOn : {Event : Type 0} → List Event → List Event → Type 0
GoesOn {Event = Event} old new = (since : List Event) × (new ≡ since ++ old)

-- where a crash cuts off a run: what has been written, and what has happened to the store of one file
pub record Crash (Event : Type 0) : Type 0 where
  pub written : List ℕ
  pub history : List Event

-- A crash comes between these two moments: at least what there was at the one has been written and has happened to the
-- file of this number, and at most what there was at the other.
pub record ComesBetween {S : Type 0} (store : Ghosts S) (number : ℕ) (from to : Moment S) (crash : Crash store.Event) : Type 0 where
  pub written_since : IsFront from.written crash.written
  pub written_until : IsFront crash.written to.written
  pub happened_since : GoesOn (history_of store.history number from.stores) crash.history
  pub happened_until : GoesOn crash.history (history_of store.history number to.stores)

-- It comes at any time from the first of these moments to the last: between one and the next.
abbrev pub ComesIn : {S : Type 0} (store : Ghosts S) → ℕ → List (Moment S) → Crash store.Event → Type 0
ComesIn store number (from ∷ to ∷ later) crash = ComesBetween store number from to crash ⊎ ComesIn store number (to ∷ later) crash
ComesIn store number (from ∷ []) crash = ⊥
ComesIn store number [] crash = ⊥

-- A run that a crash cut off at any time, and one of its files, whose device is honest: without the crash it would have
-- taken these turns, and ended so with this written and these stores left.
pub record CutOff {S : Type 0} (store : Ghosts S) : Type 0 where
  pub sizes : ZoneSizes
  pub stores : List S
  pub input : List ℕ
  pub end : RunEnd
  pub texts : List (List ℕ)
  pub turns : List (Turn S)
  pub left : List S
  pub makes : Makes store (start_of sizes stores) input end texts turns left
  pub written : List ℕ
  pub number : ℕ
  pub low : 1 ≤ number
  pub honest : HonestAt store.is_honest left number
  pub crash : Crash store.Event
  pub comes : ComesIn store number (moment [] stores ∷ (moments_of [] (start_of sizes stores).toolbox turns ++ moment written left ∷ [])) crash

-- The next run starts on this file as the crash left it: its fork is one that a start may find then, and until something
-- happens to the file a start finds no other.
abbrev pub StartsOn : {S : Type 0} (store : Ghosts S) → Crash store.Event → ℕ → List S → Type 0
StartsOn {S = S} store crash number stores = IsSomeAnd (slice_get stores (number - 1))
    (λ (s : S). store.may_find crash.history (store.fork s) × Finds store.may_find (λ found. found ≡ store.fork s) (store.history s))

-- each of these runs starts so on the file as the crash in the one before it left it
abbrev pub AreRestarted : {S : Type 0} (store : Ghosts S) → (Crash store.Event → ℕ → List S → Type 0) → List (CutOff store) → Type 0
AreRestarted store Starts (run ∷ next ∷ later) = Starts run.crash next.number next.stores × AreRestarted store Starts (next ∷ later)
AreRestarted store Starts (run ∷ []) = ⊤
AreRestarted store Starts [] = ⊤

-- the crash in the last of these runs, or this one where there are none
abbrev pub last_crash : {S : Type 0} (store : Ghosts S) → Crash store.Event → List (CutOff store) → Crash store.Event
last_crash store crash [] = crash
last_crash store crash (run ∷ later) = last_crash store run.crash later

-- a turn's call is an update of the file of this number, which saves its table as this fork, unless it is refused or
-- fails
abbrev pub TurnSaves : {S : Type 0} → Ghosts S → ToolState S → Turn S → ℕ → List ℕ → Type 0
TurnSaves store old (Made step text) number fork = Saves store old step.call number fork
TurnSaves store old (Idle left text) number fork = ⊥

-- One of these turns saves this fork, and may have begun when this had been written: all that is printed before it had.
-- This is printed before the first.
abbrev pub SavedBy : {S : Type 0} → Ghosts S → List ℕ → ToolState S → List ℕ → List (Turn S) → ℕ → List ℕ → Type 0
SavedBy store written old front [] number fork = ⊥
SavedBy store written old front (turn ∷ later) number fork = (IsFront front written × TurnSaves store old turn number fork)
    ⊎ SavedBy store written (turn_left turn) (front ++ turn_text turn) later number fork

-- one of these runs did so
abbrev pub SavedInRuns : {S : Type 0} (store : Ghosts S) → List (CutOff store) → List ℕ → Type 0
SavedInRuns store [] fork = ⊥
SavedInRuns store (run ∷ later) fork = SavedBy store run.crash.written (start_of run.sizes run.stores).toolbox [] run.turns run.number fork
    ⊎ SavedInRuns store later fork

-- A call of a run settled the file, and its reply is whole in what had been written when the crash came. So something
-- had been written since that call began.
pub record WasSeen {S : Type 0} (store : Ghosts S) (run : CutOff store) : Type 0 where
  pub before : List (Turn S)
  pub step : Stepped S
  pub text : List ℕ
  pub after : List (Turn S)
  pub are : run.turns ≡ before ++ Made step text ∷ after
  pub fork : List ℕ
  pub settles : Settles store (toolbox_after (start_of run.sizes run.stores).toolbox before) step run.number fork
  pub whole : IsFront (printed_after [] before ++ text) run.crash.written
  pub some : IsProperFront (printed_after [] before) run.crash.written

-- Where stores have journals, and runs follow each other that start so, each of which a crash cut off at any time: once a
-- call settled the file in the first of them, and its reply had been written, each fork that the next start may find is
-- the one that it settled, or one that a call saves that came after it and may have begun.
abbrev pub KeepsSeen : {S : Type 0} (store : Ghosts S) → (Crash store.Event → ℕ → List S → Type 0) → Type 0
KeepsSeen {S = S} store Starts = (run : CutOff store) (later : List (CutOff store)) (seen : WasSeen store run) (found : List ℕ)
    → store.has_journal → AreRestarted store Starts (run ∷ later) → store.may_find (last_crash store run.crash later).history found
    → (found ≡ seen.fork) ⊎ (SavedBy store run.crash.written seen.step.left (printed_after [] seen.before ++ seen.text) seen.after run.number found
    ⊎ SavedInRuns store later found)
