-- Two runs of a script in which no device fails.
use Rattle.std.specs.Prelude.{◌≡◌, ℕ, List, [], ◌∷◌, map, All, ⊤}
use Rattle.mac_base.specs.ZoneSizes.{ZoneSizes}
use Rattle.fork_disk.specs.declared.store.ForkStore.{Ghosts}
use Rattle.res_files.specs.FilesOn.{SomeFailed}
use Rattle.toolbox.specs.Headline.{tools_of}
use Rattle.script_lang.specs.declared.line.Line.{Line}
use Rattle.script_run.specs.declared.machine.Machine.{Machine}
use Rattle.script_run.specs.Line.{start_of}
use Rattle.script_run.specs.Run.{AreRun, IsRun}

-- all devices worked from old to new: no count of failures rose
abbrev pub DevicesWorked : {S : Type 0} → Ghosts S → Machine S → Machine S → Type 0
DevicesWorked store old new = SomeFailed store.failures old.toolbox.resources.stores new.toolbox.resources.stores → ⊥

-- they worked in each of these lines
abbrev pub LinesWorked : {S : Type 0} (store : Ghosts S) (old : Machine S) (lines : List Line) (texts : List (List ℕ)) (new : Machine S)
    → AreRun store old lines texts new → Type 0
LinesWorked store old (line ∷ lines) (text ∷ texts) new run = DevicesWorked store old run.0 × LinesWorked store run.0 lines texts new run.2
LinesWorked store old _ _ new run = ⊤

-- they worked in the opening of file 1, and in each line
abbrev pub RunWorked : {S : Type 0} (store : Ghosts S) (start : Machine S) (lines : List Line) (texts : List (List ℕ)) (new : Machine S)
    → IsRun store start lines texts new → Type 0
RunWorked store start lines (text ∷ texts) new run = DevicesWorked store start run.0 × LinesWorked store run.0 lines texts new run.2
RunWorked store start lines [] new run = ⊤

-- from start the lines may print these texts and leave new, while all devices work
abbrev pub IsWorkingRun : {S : Type 0} → Ghosts S → Machine S → List Line → List (List ℕ) → Machine S → Type 0
IsWorkingRun store start lines texts new = (run : IsRun store start lines texts new) × RunWorked store start lines texts new run

-- Two runs of the same lines, with the same sizes of the zone and the same forks, print the same texts and leave the
-- same zone, loans, files and forks, where all devices worked and those of the stores that they leave are honest.
abbrev pub RunsAgree : {S : Type 0} → Ghosts S → Type 0
RunsAgree {S = S} store = (sizes : ZoneSizes) (one other : List S) (lines : List Line) (texts other_texts : List (List ℕ)) (last other_last : Machine S)
    → All store.is_honest last.toolbox.resources.stores → All store.is_honest other_last.toolbox.resources.stores → map store.fork one ≡ map store.fork other
    → IsWorkingRun store (start_of sizes one) lines texts last → IsWorkingRun store (start_of sizes other) lines other_texts other_last
    → (texts ≡ other_texts) × (tools_of store last.toolbox ≡ tools_of store other_last.toolbox)
