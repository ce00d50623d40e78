-- The turns of a run.
use Rattle.std.proofs.Common.{◌≡◌, ℕ, List, [], ◌∷◌, ◌++◌, refl, sym, ap, subst, ◌∙◌, inl, inr}
use Rattle.fork_disk.specs.declared.store.ForkStore.{Ghosts}
use Rattle.toolbox.specs.ToolState.{ToolState}
use Rattle.script_lang.specs.declared.line.Line.{Line}
use Rattle.script_lang.specs.declared.line.Statement.{Statement}
use Rattle.script_lang.specs.declared.line.Statement.TheVariants.{Call, Answer}
use Rattle.script_lang.specs.Resolving.{call_of}
use Rattle.script_run.specs.declared.end.RunEnd.{RunEnd}
use Rattle.script_run.specs.declared.end.RunEnd.TheVariants.{Finished, ScriptFault, NoMemory, ReadFault, WriteFault}
use Rattle.script_run.specs.declared.machine.Machine.{Machine}
use Rattle.script_run.specs.Line.{StatementDoes, StopsAt}
use Rattle.script_run.specs.Run.{AreRun, IsRun, Makes, turn_stopped, turns_at, turns_of}
use Rattle.script_run.specs.Turns.{Turn, stores_of, toolbox_after, turn_at, turn_left}
use Rattle.script_run.proofs.Crashing.{AreTurns, IsTurn}
use Rattle.script_run.proofs.Opening.{same_forks, unchanged_keeps_forks}

module _ {S : Type 0} (store : Ghosts S) where
  abbrev stores-in : ToolState S → List S
  stores-in t = t.resources.stores

  -- a turn from the one toolbox to the other
  abbrev pub Goes : ToolState S → Turn S → ToolState S → Type 0
  Goes old turn new = IsTurn store old turn × (turn_left turn ≡ new)

  abbrev pub GoOn : ToolState S → List (Turn S) → ToolState S → Type 0
  GoOn old turns new = AreTurns store old turns × (toolbox_after old turns ≡ new)

  -- one, and others after it
  first-goes : (old mid new : ToolState S) (turn : Turn S) (turns : List (Turn S)) → Goes old turn mid → GoOn mid turns new → GoOn old (turn ∷ turns) new
  first-goes old mid new turn turns one others =
      let rest = subst (λ (t : ToolState S). GoOn t turns new) (sym one.1) others in ((one.0, rest.0), rest.1)

  -- and one more
  then-goes : (old mid new : ToolState S) (turns : List (Turn S)) (turn : Turn S) → GoOn old turns mid → Goes mid turn new → GoOn old (turns ++ turn ∷ []) new
  then-goes old mid new [] turn are one = let first = subst (λ (t : ToolState S). Goes t turn new) (sym are.1) one in ((first.0, tt), first.1)
  then-goes old mid new (first ∷ turns) turn are one = let rest = then-goes (turn_left first) mid new turns turn (are.0.1, are.1) one in ((are.0.0, rest.0), rest.1)

  -- that of a line
  pub line-goes : (old : Machine S) (number : ℕ) (statement : Statement) (text : List ℕ) (new : Machine S) (does : StatementDoes store old number statement text new)
      → Goes old.toolbox (turn_at store old number statement text new does) new.toolbox
  line-goes old number (Call line) text new does = ((does.2).0, refl)
  line-goes old number (Answer line) text new does = (same_forks store (stores_of old) (stores_of new) (ap stores-in does.1), refl)

  lines-go : (old : Machine S) (lines : List Line) (texts : List (List ℕ)) (new : Machine S) (run : AreRun store old lines texts new)
      → GoOn old.toolbox (turns_at store old lines texts new run) new.toolbox
  lines-go old [] [] new run = (tt, ap (λ (m : Machine S). m.toolbox) (sym run))
  lines-go old (line ∷ lines) (text ∷ texts) new run =
      first-goes old.toolbox (run.0).toolbox new.toolbox (turn_at store old line.number line.statement text run.0 run.1) (turns_at store run.0 lines texts new run.2)
      (line-goes old line.number line.statement text run.0 run.1) (lines-go run.0 lines texts new run.2)
  lines-go old [] (text ∷ texts) new run = absurd run
  lines-go old (line ∷ lines) [] new run = absurd run

  -- those of a run
  pub run-goes : (start : Machine S) (lines : List Line) (texts : List (List ℕ)) (last : Machine S) (run : IsRun store start lines texts last)
      → GoOn start.toolbox (turns_of store start lines texts last run) last.toolbox
  run-goes start lines [] last run = absurd run
  run-goes start lines (text ∷ texts) last run = let rest = lines-go run.0 lines texts last run.2 in ((run.1.1, rest.0), rest.1)

  -- the one where host memory ended
  pub stopped-goes : (old : Machine S) (number : ℕ) (statement : Statement) (new : Machine S) (stops : StopsAt store old number statement new)
      → Goes old.toolbox (turn_stopped store old number statement new stops) new.toolbox
  stopped-goes old number (Call line) new (inl unmade) = (unchanged_keeps_forks store old.toolbox new.toolbox (call_of old.variables line) unmade.0, refl)
  stopped-goes old number (Call line) new (inr long) = ((long.2).0, refl)
  stopped-goes old number (Answer line) new same = (same_forks store (stores_of old) (stores_of new) (ap stores-in same), refl)

  -- A run takes such turns, and leaves the stores that the last of them left.
  abbrev Takes : Machine S → List (Turn S) → List S → Type 0
  Takes start turns left = AreTurns store start.toolbox turns × (left ≡ (toolbox_after start.toolbox turns).resources.stores)

  took : (start : Machine S) (turns : List (Turn S)) (last : Machine S) (left : List S) → GoOn start.toolbox turns last.toolbox → left ≡ stores_of last → Takes start turns left
  took start turns last left go is = (go.0, is ∙ ap stores-in (sym go.1))

  takes-these : (start : Machine S) (turns these : List (Turn S)) (left : List S) → turns ≡ these → Takes start these left → Takes start turns left
  takes-these start turns these left is takes = subst (λ (ts : List (Turn S)). Takes start ts left) (sym is) takes

  pub makes-turns : (start : Machine S) (input : List ℕ) (end : RunEnd) (texts : List (List ℕ)) (turns : List (Turn S)) (left : List S) → Makes store start input end texts turns left → Takes start turns left
  makes-turns start input Finished texts turns left makes =
      let ran = makes.0 in takes-these start turns _ left makes.3 (took start _ ran.last left (run-goes start ran.lines ran.texts ran.last ran.run) makes.4)
  makes-turns start input (ScriptFault line wrong) texts turns left makes = takes-these start turns [] left makes.2 (tt, makes.3)
  makes-turns start input NoMemory texts turns left (inl none) = takes-these start turns [] left none.1 (tt, none.2)
  makes-turns start input NoMemory texts turns left (inr (inl unopened)) = takes-these start turns _ left unopened.2 ((unopened.3, tt), unopened.4)
  makes-turns start input NoMemory texts turns left (inr (inr makes)) =
      let ran = makes.0 in
      let line = makes.1 in
      let after = makes.3 in
      let go = run-goes start ran.lines ran.texts ran.last ran.run in
      let one = stopped-goes ran.last line.number line.statement after makes.5 in
      takes-these start turns _ left makes.7 (took start _ after left (then-goes start.toolbox (ran.last).toolbox after.toolbox _ _ go one) makes.8)
  makes-turns start input ReadFault texts turns left makes = takes-these start turns [] left makes.1 (tt, makes.2)
  makes-turns start input WriteFault texts turns left makes =
      let ran = makes.0 in takes-these start turns _ left makes.2 (took start _ ran.last left (run-goes start ran.lines ran.texts ran.last ran.run) makes.3)
