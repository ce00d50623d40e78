-- Runs of calls of the Memory Manager, of the Resource Manager and on loans.
use Rattle.std.specs.Prelude.{◌≡◌, ℕ, List, [], ◌∷◌, ◌++◌, flat_map, map, ⊤}
use Rattle.mac_base.specs.Heap.{Heap}
use Rattle.mac_base.specs.ZoneSizes.{ArePossible, ZoneSizes, shape_of}
use Rattle.mac_base.specs.declared.call.Call.{Call}
use Rattle.mac_base.specs.declared.call.Call.TheVariants.{Memory as MemoryCalls, Loan, Resource}
use Rattle.mac_base.specs.ExactStep.{IsExactStep}
use Rattle.mac_base.specs.GrowZone.{Ask}
use Rattle.mac_base.specs.LoanStep.{Loans, LoanStep}
use Rattle.mac_base.specs.Outcomes.{Outcome}
use Rattle.mac_base.specs.Released.{disposed_of}
use Rattle.res_table.specs.OpenFiles.{no_files}
use Rattle.res_update.specs.Answered.{AnswersStep, WasAnswered}
use Rattle.res_update.specs.Device.{Anything}
use Rattle.res_update.specs.Changes.{handles_forgotten}
use Rattle.res_update.specs.Files.{ResState, with_files, with_heap}
use Rattle.res_update.specs.Steps.{Memory, ReadsBack}
use Rattle.zone_laws.specs.LastPut.{LastPut, put_in}
use Rattle.zone_laws.specs.LastSet.{LastSet, set_in}
use Rattle.zone_laws.specs.Act.{Act, Calls, Done, AreDone, Moment, OnLoan, moment_after, new_zone}
use Rattle.zone_laws.specs.Headline.{Promised}
use Rattle.toolbox.specs.Acts.{AreResourceActs}
use Rattle.toolbox.specs.Forks.{ReadOffForks}

-- the zone, the resource files and their disks, and the blocks that are lent
pub record Tools : Type 0 where
  pub resources : ResState
  pub loans : Loans

-- the zone at this moment
abbrev pub moment_of : Tools → Moment
moment_of tools = record { heap = tools.resources.heap; loans = tools.loans }

-- the zone and the files with this heap, where no row has any of these handles
abbrev pub with_rows_forgotten : List ℕ → Heap → ResState → ResState
with_rows_forgotten handles heap state = with_heap heap (with_files (handles_forgotten handles state.files) state)

-- What a call may do: the zone and the files step as its definition says, by what the devices answered; a device may
-- fail in any way; an updated fork reads back, where its device is honest. This says of which files the devices are
-- honest.
abbrev pub ToolDoes : (ℕ → Type 0) → Tools → Call → List Ask → Outcome → Tools → Type 0
ToolDoes honest old (MemoryCalls call) asks outcome new = IsExactStep old.resources.shape old.resources.heap call asks outcome new.resources.heap × (new.loans ≡ old.loans)
    × (new.resources ≡ with_rows_forgotten (disposed_of call asks outcome) new.resources.heap old.resources)
ToolDoes honest old (Loan call) asks outcome new = LoanStep old.resources.shape old.loans old.resources.heap call outcome new.loans new.resources.heap
    × (new.resources ≡ with_heap new.resources.heap old.resources)
ToolDoes honest old (Resource call) asks outcome new = AnswersStep honest ⊤ (λ k. ⊤) Memory Anything old.resources call asks outcome new.resources
    × (new.loans ≡ old.loans) × (new.resources.shape ≡ old.resources.shape) × ReadsBack honest old.resources call outcome new.resources
ToolDoes honest old _ asks outcome new = (new.resources ≡ old.resources) × (new.loans ≡ old.loans)

-- a call that was made, and what it left
pub record Called : Type 0 where
  pub call : Call
  pub asks : List Ask
  pub outcome : Outcome
  pub tools : Tools

-- from the old state these calls were made, each from the state that the one before left
abbrev pub IsToolRun : (ℕ → Type 0) → Tools → List Called → Type 0
IsToolRun honest old [] = ⊤
IsToolRun honest old (called ∷ later) = ToolDoes honest old called.call called.asks called.outcome called.tools × IsToolRun honest called.tools later

-- the zone and the files after these calls
abbrev pub tools_after : Tools → List Called → Tools
tools_after start [] = start
tools_after start (called ∷ later) = tools_after called.tools later

-- the fork that a call updated with success reads back as the resource table that was saved, where its device is honest
abbrev pub UpdateReadsBack : (ℕ → Type 0) → Tools → Call → Outcome → Tools → Type 0
UpdateReadsBack honest old (Resource call) outcome new = ReadsBack honest old.resources call outcome new.resources
UpdateReadsBack honest old _ outcome new = ⊤

-- These acts are the call's own: one of the Memory Manager, or on a lent block, is one act, and MemError and ResError
-- are none. Those of the Resource Manager are by the rows' bytes as the devices answered.
abbrev pub AreActsOf : (ℕ → Type 0) → Tools → Call → List Ask → Outcome → List Act → Type 0
AreActsOf honest old (MemoryCalls call) asks outcome acts = acts ≡ Calls call asks outcome ∷ []
AreActsOf honest old (Loan call) asks outcome acts = acts ≡ OnLoan call outcome ∷ []
AreActsOf honest old (Resource call) asks outcome acts = (answered : ResState) × WasAnswered honest old.resources call answered × AreResourceActs answered call asks outcome acts
AreActsOf honest old _ asks outcome acts = acts ≡ []

-- the act that was done
abbrev pub act_of : Done → Act
act_of done = done.act

-- the call takes the zone from its old moment to its new one by these acts of its own
pub record IsMadeOf (honest : ℕ → Type 0) (old : Tools) (called : Called) (acts : List Done) : Type 0 where
  pub run : AreDone old.resources.shape (moment_of old) acts
  pub ends : moment_after (moment_of old) acts ≡ moment_of called.tools
  pub own : AreActsOf honest old called.call called.asks called.outcome (map act_of acts)

-- each of these calls is made of the acts beside it
abbrev pub AreMadeOf : (ℕ → Type 0) → Tools → List Called → List (List Done) → Type 0
AreMadeOf honest old [] [] = ⊤
AreMadeOf honest old (called ∷ later) (acts ∷ others) = IsMadeOf honest old called acts × AreMadeOf honest called.tools later others
AreMadeOf honest old _ _ = ⊥

-- all acts of some calls, in their order
abbrev pub all_acts : List (List Done) → List Done
all_acts acts = flat_map (λ (own : List Done). own) acts

-- What is promised of calls that were made from a new zone on: of the zone whatever the devices answered, and of each
-- fork whose device is honest.
pub record Headline (honest : ℕ → Type 0) (start : Tools) (calls : List Called) : Type 0 where
  -- Each call is made of acts of its own.
  pub acts : List (List Done)
  pub own : AreMadeOf honest start calls acts
  -- From each moment to each later one every handle and pointer shows the bytes last put there, and so on.
  pub promised : (first part later : List Done) (put : LastPut) (set : LastSet) → all_acts acts ≡ first ++ (part ++ later)
      → Promised start.resources.shape (moment_after (moment_of start) first) part (put_in first put) (set_in first set)
  -- Every updated fork reads back as the resource table.
  pub forks : (first later : List Called) (called : Called) → calls ≡ first ++ (called ∷ later) → UpdateReadsBack honest (tools_after start first) called.call called.outcome called.tools
  -- Each row of an open file has the bytes that its fork has, and a load puts these (`AreResourceActs`).
  pub rows : (first later : List Called) → calls ≡ first ++ later → ReadOffForks honest (tools_after start first).resources

-- So it is for each list of calls from a new zone on, whatever is on the disks, where no file is open, and this says of
-- which files the devices are honest.
abbrev pub ToolsShow : (ℕ → Type 0) → Type 0
ToolsShow honest = (z : ZoneSizes) (start : Tools) (calls : List Called) → ArePossible z → start.resources.shape ≡ shape_of z → moment_of start ≡ new_zone z
    → start.resources.files ≡ no_files → IsToolRun honest start calls → Headline honest start calls
