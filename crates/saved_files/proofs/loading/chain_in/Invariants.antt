use Rattle.std.proofs.Common.{◌≡◌, ◌++◌, map, drop}
use Rattle.std.specs.List.{AllByRecursion, flat_map}
use Rattle.fork_bytes.specs.declared.place.Place.{Place}
use Rattle.res_table.specs.OpenFiles.{OpenFiles}
use Rattle.row_image.specs.Images.{HasImages}
use Rattle.saved_files.specs.Saved.{file_text, number_of}
use Rattle.saved_files.specs.Sound.{StandOnForks, disk_of}
use Rattle.saved_files.proofs.loading.chain_in.Given as goal

-- the files so far are on their forks; where the bytes are those of files, they are the first of these, and the others are
-- left
abbrev pub invariant-loop-number : goal.invariant-loop-number
invariant-loop-number l = StandOnForks (map disk_of l.stores) l.chain
    × ((want : OpenFiles Place) → StandOnForks (map disk_of l.stores) want → AllByRecursion HasImages want.files
    → l.numbers ≡ map number_of want.files → l.bytes ≡ flat_map file_text want.files
    → (l.chain.files ++ drop l.number-index want.files ≡ want.files) × (l.rest ≡ flat_map file_text (drop l.number-index want.files)))
