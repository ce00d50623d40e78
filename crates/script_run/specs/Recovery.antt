-- What is promised of crashes that come anywhere in the run of a script.
use Rattle.std.specs.Prelude.{◌≡◌, ℕ, List}
use Rattle.mac_base.specs.ZoneSizes.{ZoneSizes}
use Rattle.fork_disk.specs.declared.store.ForkStore.{Ghosts}
use Rattle.toolbox.specs.Headline.{Stepped, calls_of, left_by}
use Rattle.toolbox.specs.Recovery.{AreGiven, Recovers}
use Rattle.script_lang.specs.declared.line.Line.{Line}
use Rattle.script_run.specs.declared.machine.Machine.{Machine}
use Rattle.script_run.specs.Headline.{PrintAllReplies}
use Rattle.script_run.specs.Line.{start_of}
use Rattle.script_run.specs.Run.{IsRun}

-- The lines of a script make calls and print their replies, and this is promised of crashes in these calls, where the
-- stores have journals: of each file whose device is honest. Each reply is written before the next line is run: so it
-- says what a start may find once a reply was written.
abbrev pub RunRecovers : {S : Type 0} → Ghosts S → Type 0
RunRecovers {S = S} store = (sizes : ZoneSizes) (stores : List S) (lines : List Line) (texts : List (List ℕ)) (last : Machine S)
    → store.has_journal → IsRun store (start_of sizes stores) lines texts last
    → (let start = (start_of sizes stores).toolbox in
    (steps : List (Stepped S)) × PrintAllReplies lines texts (calls_of store steps)
    × AreGiven store start steps × (left_by start steps ≡ last.toolbox) × Recovers store start steps)
