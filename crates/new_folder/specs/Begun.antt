-- A folder that is written to is open, and it is noted.
use Rattle.std.specs.Prelude.{◌≡◌, true, false, List, ℕ, ◌∷◌, Result, Ok, Err}
use Rattle.new_folder.specs.declared.calls.FolderCall.TheVariants.{Begin}
use Rattle.new_folder.specs.declared.folder.NewFolder.{NewFolder}
use Rattle.new_folder.specs.Checked.{IsBegun}
use Rattle.new_folder.specs.NewFolder.{Event, event}

-- the folder of a path was begun, by the calls that it has with it, or wasn't; and that is noted
abbrev pub Begins : {E : Type 0} → List ℕ → Result NewFolder E → List Event → List Event → Type 0
Begins path (Ok it) old new = (new ≡ event Begin true path ∷ old) × IsBegun path it.owner it.opened.folder it.opened.asked.events
Begins path (Err error) old new = new ≡ event Begin false path ∷ old
