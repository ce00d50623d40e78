use Rattle.std.proofs.Common.{◌≡◌, ℕ, ◌<◌, true, map, take}
use Rattle.std.specs.Prelude.{is_some}
use Rattle.volume_names.specs.Paths.{items_of}
use Rattle.image_files.specs.Finding.{thing_named}
use Rattle.image_files.proofs.found.leading.Given as goal

-- fewer names lead to something
abbrev pub invariant-loop-count : goal.invariant-loop-count
invariant-loop-count l = (k : ℕ) → 0 < k → k < l.count → is_some (thing_named l.files (take k (map items_of l.names))) ≡ true
