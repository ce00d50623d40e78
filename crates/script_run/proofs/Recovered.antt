-- What a start finds after a crash that comes anywhere in the run of a script.
use Rattle.std.proofs.Common.{◌≡◌, ℕ, List, [], ◌∷◌, refl, subst, sym}
use Rattle.mac_base.specs.declared.call.Call.TheVariants.{Resource}
use Rattle.mac_base.specs.declared.resource_call.ResourceCall.TheVariants.{OpenResFile}
use Rattle.mac_base.specs.Outcomes.{Outcome}
use Rattle.fork_disk.specs.declared.store.ForkStore.{Ghosts}
use Rattle.toolbox.specs.Tools.{Called}
use Rattle.toolbox.specs.Headline.{Stepped, calls_of, left_by}
use Rattle.toolbox.specs.Recovery.{AreGiven}
use Rattle.toolbox.specs.ToolState.{ToolState}
use Rattle.toolbox.proofs.Recovery.{toolbox-recovers}
use Rattle.script_lang.specs.declared.line.Line.{Line}
use Rattle.script_lang.specs.declared.line.Statement.{Statement}
use Rattle.script_lang.specs.declared.line.Statement.TheVariants.{Call as CallStatement, Answer}
use Rattle.script_lang.specs.Resolving.{call_of}
use Rattle.script_lang.specs.Variables.{Variables}
use Rattle.script_run.specs.declared.machine.Machine.{Machine}
use Rattle.script_run.specs.Headline.{PrintReplies, PrintsReply}
use Rattle.script_run.specs.Line.{StatementDoes, start_of}
use Rattle.script_run.specs.Recovery.{RunRecovers}
use Rattle.script_run.specs.Run.{AreRun}

module _ {S : Type 0} (store : Ghosts S) where
  -- the calls that lines make from the one toolbox to the other, of which this is so
  record Made (from to : ToolState S) (Prints : List Called → Type 0) : Type 0 where
    pub steps : List (Stepped S)
    pub prints : Prints (calls_of store steps)
    pub given : AreGiven store from steps
    pub left : left_by from steps ≡ to

  -- those of one statement, and then others
  statement-makes : (old mid new : Machine S) (number : ℕ) (statement : Statement) (text : List ℕ) (Rest : Variables → List Called → Type 0)
      → StatementDoes store old number statement text mid → Made mid.toolbox new.toolbox (Rest mid.variables)
      → Made old.toolbox new.toolbox (λ calls. PrintsReply old.variables number statement text calls Rest)
  statement-makes old mid new number (CallStatement line) text Rest does others =
      let outcome : Outcome = (does.0).outcome in
      let step = does.2 in
      record {
        steps = record { call = call_of old.variables line; asks = does.1; outcome = outcome; left = mid.toolbox } ∷ others.steps;
        prints = (refl, does.5, subst (λ v. Rest v (calls_of store others.steps)) does.4 others.prints);
        given = (step.0, others.given);
        left = others.left;
      }
  statement-makes old mid new number (Answer line) text Rest does others = record {
    steps = others.steps;
    prints = (does.0, subst (λ v. Rest v (calls_of store others.steps)) does.2 others.prints);
    given = subst (λ (t : ToolState S). AreGiven store t others.steps) does.1 others.given;
    left = subst (λ (t : ToolState S). left_by t others.steps ≡ new.toolbox) does.1 others.left;
  }

  lines-make : (old : Machine S) (lines : List Line) (texts : List (List ℕ)) (new : Machine S) → AreRun store old lines texts new
      → Made old.toolbox new.toolbox (PrintReplies old.variables lines texts)
  lines-make old [] [] new run =
      record { steps = []; prints = refl; given = tt; left = subst (λ (m : Machine S). old.toolbox ≡ m.toolbox) (sym run) refl }
  lines-make old (line ∷ lines) (text ∷ texts) new run =
      let later = lines-make run.0 lines texts new run.2 in
      statement-makes old run.0 new line.number line.statement text (λ now rest. PrintReplies now lines texts rest) run.1 later
  lines-make old [] (text ∷ texts) new run = absurd run
  lines-make old (line ∷ lines) [] new run = absurd run

-- so it is of the calls that a whole script makes
pub run-recovers : {S : Type 0} (store : Ghosts S) → RunRecovers store
run-recovers store sizes stores lines [] last journal run = absurd run
run-recovers {S} store sizes stores lines (text ∷ texts) last journal run =
    let start = start_of sizes stores in
    let opened = run.0 in
    let opens = run.1 in
    let made = lines-make store opened lines texts last run.2 in
    let steps : List (Stepped S) = record { call = Resource (OpenResFile 1); asks = []; outcome = opens.0; left = opened.toolbox } ∷ made.steps in
    let given : AreGiven store start.toolbox steps = (opens.1, made.given) in
    let left : left_by start.toolbox steps ≡ last.toolbox = made.left in
    let prints = subst (λ v. PrintReplies v lines texts (calls_of store made.steps)) opens.5 made.prints in
    (steps, (refl, opens.7, prints), given, left, toolbox-recovers store start.toolbox steps journal given)
