-- A device that is honest after lines was so before them.
use Rattle.std.proofs.Common.{◌≡◌, ℕ, ◌-◌, List, [], ◌∷◌, Option, None, Some, slice_get, All, IfSome, refl, subst}
use Rattle.std.proofs.lemmas.Option.{get_or_from_slice_get, slice_get_within}
use Rattle.fork_disk.specs.declared.store.ForkStore.{Ghosts}
use Rattle.res_files.specs.FilesOn.{HonestAt}
use Rattle.toolbox.specs.ToolState.{IsHonest}
use Rattle.toolbox.proofs.Headline.{was-honest}
use Rattle.script_lang.specs.declared.line.Line.{Line}
use Rattle.script_lang.specs.declared.line.Statement.{Statement}
use Rattle.script_lang.specs.declared.line.Statement.TheVariants.{Call, Answer}
use Rattle.script_lang.specs.Resolving.{call_of}
use Rattle.script_run.specs.declared.machine.Machine.{Machine}
use Rattle.script_run.specs.Line.{StatementDoes}
use Rattle.script_run.specs.Run.{AreRun}

module _ {S : Type 0} (store : Ghosts S) where
  before-statement : (old new : Machine S) (number : ℕ) (statement : Statement) (text : List ℕ) → StatementDoes store old number statement text new → (k : ℕ) → IsHonest store new.toolbox k → IsHonest store old.toolbox k
  before-statement old new number (Call line) text does k honest = let step = does.2 in was-honest store old.toolbox (call_of old.variables line) does.1 (does.0).outcome new.toolbox step.0 k honest
  before-statement old new number (Answer line) text does k honest = subst (λ t. IsHonest store t k) does.1 honest

  pub before-lines : (old : Machine S) (lines : List Line) (texts : List (List ℕ)) (new : Machine S) → AreRun store old lines texts new → (k : ℕ) → IsHonest store new.toolbox k → IsHonest store old.toolbox k
  before-lines old [] [] new run k honest = subst (λ (m : Machine S). IsHonest store m.toolbox k) run honest
  before-lines old (line ∷ lines) (text ∷ texts) new run k honest = before-statement old run.0 line.number line.statement text run.1 k (before-lines run.0 lines texts new run.2 k honest)
  before-lines old [] (text ∷ texts) new run k honest = absurd run
  before-lines old (line ∷ lines) [] new run k honest = absurd run

-- where all devices are honest, so is each file's
pub each-honest : {S : Type 0} (is_honest : S → Type 0) (stores : List S) → All is_honest stores → (k : ℕ) → HonestAt is_honest stores k
each-honest {S} is_honest stores all k = by (slice_get stores (k - 1)) refl
  where
    by : (found : Option S) → slice_get stores (k - 1) ≡ found → IfSome found is_honest
    by None is = tt
    by (Some s) is = subst is_honest (get_or_from_slice_get stores (k - 1) s s is) (all (k - 1) s (slice_get_within stores (k - 1) s is))
