-- What is promised of the calls that are made of a toolbox.
use Rattle.std.specs.Prelude.{◌≡◌, List, [], ◌∷◌, map, ⊤}
use Rattle.mac_base.specs.Heap.{new_heap}
use Rattle.mac_base.specs.ZoneSizes.{ArePossible, ZoneSizes, shape_of}
use Rattle.mac_base.specs.declared.call.Call.{Call}
use Rattle.mac_base.specs.GrowZone.{Ask}
use Rattle.mac_base.specs.Outcomes.{Outcome}
use Rattle.fork_disk.specs.declared.store.ForkStore.{Ghosts}
use Rattle.res_table.specs.OpenFiles.{no_files}
use Rattle.toolbox.specs.Tools.{Called, Headline, IsToolRun, Tools}
use Rattle.toolbox.specs.Steps.{Steps}
use Rattle.toolbox.specs.ToolState.{IsHonest, ToolState, resource_state}

-- the zone, the resource files and the loans of a toolbox
abbrev pub tools_of : {S : Type 0} → Ghosts S → ToolState S → Tools
tools_of store t = record { resources = resource_state store t; loans = t.loans }

-- a call that was made of a toolbox, with what it asked and its outcome, and the toolbox that it left
pub record Stepped (S : Type 0) : Type 0 where
  pub call : Call
  pub asks : List Ask
  pub outcome : Outcome
  pub left : ToolState S

-- these calls were made, each of the toolbox that the one before it left
abbrev pub AreSteps : {S : Type 0} → Ghosts S → ToolState S → List (Stepped S) → Type 0
AreSteps store old [] = ⊤
AreSteps store old (step ∷ later) = Steps store old step.call step.asks step.outcome step.left × AreSteps store step.left later

-- the same calls, of the zone, the files and the loans
abbrev pub calls_of : {S : Type 0} → Ghosts S → List (Stepped S) → List Called
calls_of {S = S} store steps = map (λ (step : Stepped S). record { call = step.call; asks = step.asks; outcome = step.outcome; tools = tools_of store step.left }) steps

-- what the last of these calls left, or the old toolbox where there are none
abbrev pub left_by : {S : Type 0} → ToolState S → List (Stepped S) → ToolState S
left_by old [] = old
left_by old (step ∷ later) = left_by step.left later

-- nothing was done in the zone, and no file is open
pub record IsNew {S : Type 0} (sizes : ZoneSizes) (t : ToolState S) : Type 0 where
  pub shape : t.shape ≡ shape_of sizes
  pub heap : t.heap ≡ new_heap (shape_of sizes) sizes.size
  pub loans : t.loans ≡ []
  pub files : t.resources.files ≡ no_files

-- This is promised of the calls that are made of a toolbox over a new zone: of the zone for any stores, and of each
-- fork where the device of its store is honest, as the calls leave it.
abbrev pub ToolboxShows : {S : Type 0} → Ghosts S → Type 0
ToolboxShows {S = S} store = (sizes : ZoneSizes) (start : ToolState S) (steps : List (Stepped S)) → ArePossible sizes → IsNew sizes start → AreSteps store start steps
    → (let honest = IsHonest store (left_by start steps) in IsToolRun honest (tools_of store start) (calls_of store steps) × Headline honest (tools_of store start) (calls_of store steps))
