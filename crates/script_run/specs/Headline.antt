-- What the lines of a script print, by the calls that were made.
use Rattle.std.specs.Prelude.{◌≡◌, ℕ, List, [], ◌∷◌}
use Rattle.mac_base.specs.ZoneSizes.{ArePossible, ZoneSizes}
use Rattle.mac_base.specs.declared.call.Call.TheVariants.{Resource}
use Rattle.mac_base.specs.declared.resource_call.ResourceCall.TheVariants.{OpenResFile}
use Rattle.mac_base.specs.GrowZone.{answered}
use Rattle.fork_disk.specs.declared.store.ForkStore.{Ghosts}
use Rattle.toolbox.specs.Headline.{tools_of}
use Rattle.toolbox.specs.ToolState.{IsHonest}
use Rattle.script_lang.specs.declared.line.Line.{Line}
use Rattle.script_lang.specs.declared.line.Statement.{Statement}
use Rattle.script_lang.specs.declared.line.Statement.TheVariants.{Call as CallStatement, Answer}
use Rattle.script_lang.specs.Text.{reply_text}
use Rattle.script_run.specs.declared.machine.Machine.{Machine}
use Rattle.script_lang.specs.Taken.{first_number}
use Rattle.script_lang.specs.Lines.{name_of}
use Rattle.script_lang.specs.Resolving.{call_of}
use Rattle.script_lang.specs.Variables.{Variables}
use Rattle.script_run.specs.Line.{assigned, opening_text, start_of}
use Rattle.script_run.specs.Run.{IsRun}
use Rattle.toolbox.specs.Tools.{Called, Headline, IsToolRun}

-- With these variables, a statement makes the first of these calls and prints its reply, with the asks that had an
-- answer; then the rest goes on with the others, where the reply's first number is assigned. An answer is no call, and
-- prints nothing.
abbrev pub PrintsReply : Variables → ℕ → Statement → List ℕ → List Called → (Variables → List Called → Type 0) → Type 0
PrintsReply variables number (CallStatement line) text (called ∷ later) Rest = (called.call ≡ call_of variables line)
    × (text ≡ reply_text number (name_of line.call) (record { outcome = called.outcome }) (answered called.asks))
    × Rest (assigned line.assigned (first_number called.outcome) variables) later
PrintsReply variables number (CallStatement line) text [] Rest = ⊥
PrintsReply variables number (Answer line) text calls Rest = (text ≡ []) × Rest variables calls

-- these lines make these calls, and print their replies
abbrev pub PrintReplies : Variables → List Line → List (List ℕ) → List Called → Type 0
PrintReplies variables [] [] calls = calls ≡ []
PrintReplies variables (line ∷ lines) (text ∷ texts) calls = PrintsReply variables line.number line.statement text calls (λ now rest. PrintReplies now lines texts rest)
PrintReplies variables [] (text ∷ texts) calls = ⊥
PrintReplies variables (line ∷ lines) [] calls = ⊥

-- the first call opens file 1, and the others are made by the lines
abbrev pub PrintAllReplies : List Line → List (List ℕ) → List Called → Type 0
PrintAllReplies lines (text ∷ texts) (opening ∷ calls) = (opening.call ≡ Resource (OpenResFile 1)) × (text ≡ opening_text opening.outcome) × PrintReplies [] lines texts calls
PrintAllReplies lines [] calls = ⊥
PrintAllReplies lines (text ∷ texts) [] = ⊥

-- Whatever the lines of a script print is the replies of calls that were made, and this is what is promised of these
-- calls: of the zone for any stores, and of each fork where the device of its store is honest, as they leave it.
abbrev pub RunShows : {S : Type 0} → Ghosts S → Type 0
RunShows {S = S} store = (sizes : ZoneSizes) (stores : List S) (lines : List Line) (texts : List (List ℕ)) (last : Machine S)
    → ArePossible sizes → IsRun store (start_of sizes stores) lines texts last
    → (let start = tools_of store (start_of sizes stores).toolbox in let honest = IsHonest store last.toolbox in
    (calls : List Called) × PrintAllReplies lines texts calls × IsToolRun honest start calls × Headline honest start calls)
