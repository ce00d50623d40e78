-- What was seen of a run is found after a crash, also after others.
use Rattle.std.proofs.Common.{◌≡◌, ℕ, ◌-◌, ◌⊎◌, List, [], ◌∷◌, ◌++◌, Option, None, Some, slice_get, sym, subst, inl, inr, ⊎_elim}
use Rattle.std.specs.Option.{IsSomeAnd, option_map_or}
use Rattle.fork_disk.specs.declared.store.ForkStore.{Ghosts}
use Rattle.fork_disk.specs.Crash.{Finds}
use Rattle.res_files.specs.Crash.{history_of}
use Rattle.res_files.specs.FilesOn.{HonestAt}
use Rattle.toolbox.specs.Recovery.{MayFind}
use Rattle.toolbox.specs.ToolState.{IsHonest, ToolState}
use Rattle.script_run.specs.Line.{start_of}
use Rattle.script_run.specs.Seen.{AreRestarted, ComesIn, Crash, CutOff, KeepsSeen, SavedBy, SavedInRuns, StartsOn, WasSeen, last_crash}
use Rattle.script_run.specs.Turns.{Made, Turn, moment, moments_of, printed_after, toolbox_after}
use Rattle.script_run.proofs.Crashing.{AreTurns, found-settled, found-since, front-refl}
use Rattle.script_run.proofs.Turning.{makes-turns}

module _ {S : Type 0} (store : Ghosts S) (journal : store.has_journal) where
  abbrev start : CutOff store → ToolState S
  start run = (start_of run.sizes run.stores).toolbox

  -- the stores that a run leaves are those after its turns
  last-stores : (run : CutOff store) → run.left ≡ (toolbox_after (start run) run.turns).resources.stores
  last-stores run = (makes-turns store (start_of run.sizes run.stores) run.input run.end run.texts run.turns run.left run.makes).1

  turns-are : (run : CutOff store) → AreTurns store (start run) run.turns
  turns-are run = (makes-turns store (start_of run.sizes run.stores) run.input run.end run.texts run.turns run.left run.makes).0

  honest-last : (run : CutOff store) → IsHonest store (toolbox_after (start run) run.turns) run.number
  honest-last run = subst (λ (stores : List S). HonestAt store.is_honest stores run.number) (last-stores run) run.honest

  comes-so : (run : CutOff store) → ComesIn store run.number (moment [] run.stores ∷ (moments_of [] (start run) run.turns ++ moment run.written (toolbox_after (start run) run.turns).resources.stores ∷ [])) run.crash
  comes-so run = subst (λ (stores : List S). ComesIn store run.number (moment [] run.stores ∷ (moments_of [] (start run) run.turns ++ moment run.written stores ∷ [])) run.crash) (last-stores run) run.comes

  -- whenever the crash came, a start finds what it might have found when the run began, or what the run saved
  since-start : (run : CutOff store) (found : List ℕ) → store.may_find run.crash.history found
      → MayFind store (start run) run.number found ⊎ SavedBy store run.crash.written (start run) [] run.turns run.number found
  since-start run found may =
      let since = found-since store journal run.number run.low run.crash run.written found may [] [] (start run) run.turns (turns-are run) (honest-last run) (front-refl []) (comes-so run) in
      since.1

  -- what a run starts on is one of the forks that might be found after the crash before it
  on-start : (P : List ℕ → Type 0) (crash : Crash store.Event) (number : ℕ) (stores : List S) → Finds store.may_find P crash.history → StartsOn store crash number stores
      → Finds store.may_find P (history_of store.history number stores)
  on-start P crash number stores each = by (slice_get stores (number - 1))
    where
      by : (at : Option S) → IsSomeAnd at (λ (s : S). store.may_find crash.history (store.fork s) × Finds store.may_find (λ f. f ≡ store.fork s) (store.history s)) → Finds store.may_find P (option_map_or store.history at [])
      by None starts = absurd starts
      by (Some s) starts = λ found may. subst P (sym (starts.1 found may)) (each (store.fork s) starts.0)

  -- so what may be found after one run is found after others, or one of them saved it
  runs-keep : (later : List (CutOff store)) (run : CutOff store) (P : List ℕ → Type 0) → Finds store.may_find P run.crash.history → AreRestarted store (StartsOn store) (run ∷ later)
      → (found : List ℕ) → store.may_find (last_crash store run.crash later).history found → P found ⊎ SavedInRuns store later found
  runs-keep [] run P each are found may = inl (each found may)
  runs-keep (next ∷ later) run P each are found may =
      let saved : List ℕ → Type 0 = λ fork. SavedBy store next.crash.written (start next) [] next.turns next.number fork in
      let first : Finds store.may_find P (history_of store.history next.number next.stores) = on-start P run.crash next.number next.stores each are.0 in
      let then : Finds store.may_find (λ fork. P fork ⊎ saved fork) next.crash.history = λ fork found-there. ⊎_elim (λ m. inl (first fork m)) inr (since-start next fork found-there) in
      ⊎_elim (⊎_elim inl (λ s. inr (inl s))) (λ s. inr (inr s)) (runs-keep later next (λ fork. P fork ⊎ saved fork) then are.1 found may)

  -- what was seen of a run
  seen-kept : (run : CutOff store) (seen : WasSeen store run) → Finds store.may_find
      (λ found. (found ≡ seen.fork) ⊎ SavedBy store run.crash.written seen.step.left (printed_after [] seen.before ++ seen.text) seen.after run.number found) run.crash.history
  seen-kept run seen = λ found may.
      let old = start run in
      let turns = seen.before ++ Made seen.step seen.text ∷ seen.after in
      let are = subst (AreTurns store old) seen.are (turns-are run) in
      let honest = subst (λ (ts : List (Turn S)). IsHonest store (toolbox_after old ts) run.number) seen.are (honest-last run) in
      let comes = subst (λ (ts : List (Turn S)). ComesIn store run.number (moment [] run.stores ∷ (moments_of [] old ts ++ moment run.written (toolbox_after old ts).resources.stores ∷ [])) run.crash) seen.are (comes-so run) in
      found-settled store journal run.number run.low run.crash run.written found may [] [] old seen.before seen.step seen.text seen.after seen.fork are honest seen.settles seen.some comes

-- this is promised of crashes in any runs
pub keeps-seen : {S : Type 0} (store : Ghosts S) → KeepsSeen store (StartsOn store)
keeps-seen store run later seen found journal are may =
    ⊎_elim (⊎_elim inl (λ saved. inr (inl saved))) (λ saved. inr (inr saved)) (runs-keep store journal later run _ (seen-kept store journal run seen) are found may)

module _ {S : Type 0} (store : Ghosts S) (Starts : Crash store.Event → ℕ → List S → Type 0) (starts : (crash : Crash store.Event) (number : ℕ) (stores : List S) → Starts crash number stores → StartsOn store crash number stores) where
  restarted : (runs : List (CutOff store)) → AreRestarted store Starts runs → AreRestarted store (StartsOn store) runs
  restarted [] are = tt
  restarted (run ∷ []) are = tt
  restarted (run ∷ next ∷ later) are = (starts run.crash next.number next.stores are.0, restarted (next ∷ later) are.1)

  -- and of crashes in runs that start in a way from which it follows that they start on the file as the crash left it
  pub keeps-seen-where : KeepsSeen store Starts
  keeps-seen-where run later seen found journal are may = keeps-seen store run later seen found journal (restarted (run ∷ later) are) may
