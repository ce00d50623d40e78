use Rattle.std.proofs.Common.{◌≡◌, ◌++◌, drop}
use Rattle.std.specs.List.{AllByRecursion, flat_map}
use Rattle.row_image.specs.Images.{HasImages, IsGroupedFile}
use Rattle.saved_files.specs.Saved.{file_text}
use Rattle.saved_files.proofs.saving.push_files.Given as goal

-- what was there, and all files, once the others follow; those so far have images, and the rows of the others are together
-- by their types
abbrev pub invariant-loop-file : goal.invariant-loop-file
invariant-loop-file l = (l.bytes.items ++ flat_map file_text (drop l.file-index l.files) ≡ l.fn.bytes.items ++ flat_map file_text l.files)
    × (AllByRecursion HasImages (drop l.file-index l.files) → AllByRecursion HasImages l.files)
    × AllByRecursion IsGroupedFile (drop l.file-index l.files)
