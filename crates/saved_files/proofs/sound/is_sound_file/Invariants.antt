use Rattle.std.proofs.Common.{◌≡◌, ℕ, ◌<◌, slice_get, Some}
use Rattle.fork_bytes.specs.declared.place.Place.{Place}
use Rattle.res_table.specs.declared.row.Row.{Row}
use Rattle.saved_files.specs.Sound.{IsSoundAt}
use Rattle.saved_files.proofs.sound.is_sound_file.Given as goal

-- so it is of each row so far
abbrev pub invariant-loop-index : goal.invariant-loop-index
invariant-loop-index l = (k : ℕ) (r : Row Place) → k < l.index → slice_get l.file.table.rows k ≡ Some r → IsSoundAt l.zone l.chain l.file.number k r
