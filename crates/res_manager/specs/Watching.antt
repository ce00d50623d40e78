-- What a watch over the grow-zone procedure does to the resource files.
use Rattle.std.specs.Prelude.{ℕ, List, [], ◌∷◌}
use Rattle.mac_base.specs.GrowZone.{Ask, Answer}
use Rattle.mac_base.specs.Released.{disposed_in}
use Rattle.res_files.specs.FilesOn.{FilesOn}
use Rattle.res_update.specs.Changes.{handles_forgotten}

-- the files after these asks: no row has a handle of which their answers disposed
abbrev pub files_after : {S : Type 0} → List Ask → FilesOn S → FilesOn S
files_after asks files = record files { files = handles_forgotten (disposed_in asks) files.files }

-- what stays of a procedure under watch: which files and which procedure it borrows, each as the value of an answer in
-- front, and what stays of that procedure
abbrev pub watched_source : ℕ → ℕ → List Answer → List Answer
watched_source files procedure answers = record { calls = []; value = files } ∷ record { calls = []; value = procedure } ∷ answers
