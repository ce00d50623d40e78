-- The lines of a script print the replies of a run of calls.
use Rattle.std.proofs.Common.{ℕ, List, [], ◌∷◌, refl, subst}
use Rattle.mac_base.specs.declared.call.Call.TheVariants.{Resource}
use Rattle.mac_base.specs.declared.resource_call.ResourceCall.TheVariants.{OpenResFile}
use Rattle.mac_base.specs.Outcomes.{Outcome}
use Rattle.fork_disk.specs.declared.store.ForkStore.{Ghosts}
use Rattle.toolbox.specs.Headline.{tools_of}
use Rattle.toolbox.specs.ToolState.{IsHonest}
use Rattle.toolbox.proofs.Headline.{tool-does}
use Rattle.script_lang.specs.declared.line.Line.{Line}
use Rattle.script_lang.specs.declared.line.Statement.{Statement}
use Rattle.script_lang.specs.declared.line.Statement.TheVariants.{Call as CallStatement, Answer}
use Rattle.script_lang.specs.Resolving.{call_of}
use Rattle.script_lang.specs.Variables.{Variables}
use Rattle.script_run.specs.declared.machine.Machine.{Machine}
use Rattle.script_run.specs.Line.{StatementDoes, start_of}
use Rattle.script_run.specs.Run.{AreRun}
use Rattle.script_run.proofs.Honest.{before-lines}
use Rattle.toolbox.specs.Tools.{Called, IsToolRun, Tools}
use Rattle.toolbox.proofs.Tools.{tools-show}
use Rattle.script_run.specs.Headline.{PrintReplies, PrintsReply, RunShows}

module _ {S : Type 0} (store : Ghosts S) (honest : ℕ → Type 0) where
  -- what some lines print
  record Printed (old : Tools) (variables : Variables) (lines : List Line) (texts : List (List ℕ)) : Type 0 where
    pub calls : List Called
    pub prints : PrintReplies variables lines texts calls
    pub run : IsToolRun honest old calls

  -- one statement, and then others
  record Stated (old : Tools) (variables : Variables) (number : ℕ) (statement : Statement) (text : List ℕ) (Rest : Variables → List Called → Type 0) : Type 0 where
    pub calls : List Called
    pub prints : PrintsReply variables number statement text calls Rest
    pub run : IsToolRun honest old calls

  stated : (old mid : Machine S) (number : ℕ) (statement : Statement) (text : List ℕ) (Rest : Variables → List Called → Type 0) → ((k : ℕ) → honest k → IsHonest store mid.toolbox k) → StatementDoes store old number statement text mid
      → (later : List Called) × Rest mid.variables later × IsToolRun honest (tools_of store mid.toolbox) later → Stated (tools_of store old.toolbox) old.variables number statement text Rest
  stated old mid number (CallStatement line) text Rest all does others =
      let call = call_of old.variables line in
      let step = does.2 in
      let outcome : Outcome = (does.0).outcome in
      record {
        calls = record { call = call; asks = does.1; outcome = outcome; tools = tools_of store mid.toolbox } ∷ others.0;
        prints = (refl, does.5, subst (λ v. Rest v others.0) does.4 others.1);
        run = (tool-does store honest old.toolbox call does.1 outcome mid.toolbox step.0 step.1 all, others.2);
      }
  stated old mid number (Answer line) text Rest all does others =
      record { calls = others.0; prints = (does.0, subst (λ v. Rest v others.0) does.2 others.1); run = subst (λ t. IsToolRun honest (tools_of store t) others.0) does.1 others.2 }

  lines-print : (old : Machine S) (lines : List Line) (texts : List (List ℕ)) (new : Machine S) → ((k : ℕ) → honest k → IsHonest store new.toolbox k) → AreRun store old lines texts new → Printed (tools_of store old.toolbox) old.variables lines texts
  lines-print old [] [] new all run = record { calls = []; prints = refl; run = tt }
  lines-print old (line ∷ lines) (text ∷ texts) new all run =
      let mid = run.0 in
      let later = lines-print mid lines texts new all run.2 in
      let one = stated old mid line.number line.statement text (λ now rest. PrintReplies now lines texts rest) (λ k h. before-lines store mid lines texts new run.2 k (all k h)) run.1 (later.calls, later.prints, later.run) in
      record { calls = one.calls; prints = one.prints; run = one.run }
  lines-print old [] (text ∷ texts) new all run = absurd run
  lines-print old (line ∷ lines) [] new all run = absurd run

-- whatever the lines of a script print is the replies of such calls
pub run-shows : {S : Type 0} (store : Ghosts S) → RunShows store
run-shows store sizes stores lines [] last possible run = absurd run
run-shows store sizes stores lines (text ∷ texts) last possible run =
    let honest = IsHonest store last.toolbox in
    let start = start_of sizes stores in
    let opened = run.0 in
    let opens = run.1 in
    let printed = lines-print store honest opened lines texts last (λ k h. h) run.2 in
    let opening : Called = record { call = Resource (OpenResFile 1); asks = []; outcome = opens.0; tools = tools_of store opened.toolbox } in
    let calls = opening ∷ printed.calls in
    let goes : IsToolRun honest (tools_of store start.toolbox) calls = (tool-does store honest start.toolbox (Resource (OpenResFile 1)) [] opens.0 opened.toolbox opens.1 opens.2 (before-lines store opened lines texts last run.2), printed.run) in
    (calls, (refl, opens.7, subst (λ v. PrintReplies v lines texts printed.calls) opens.5 printed.prints), goes, tools-show honest sizes (tools_of store start.toolbox) calls possible refl refl refl goes)
