use Rattle.std.proofs.Common.{take, map}
use Rattle.fork_folder.specs.Manifest.{AllSay}
use Rattle.fork_folder.specs.PackedAgain.{entry_of}
use Rattle.fork_folder.specs.Unpacked.{file_row, unpacked_file}
use Rattle.fork_folder.specs.declared.files.File.{File}
use Rattle.fork_view.proofs.manifest.resources_of.Given as goal

-- the manifest says of the files so far what is listed of them
abbrev pub invariant-loop-file : goal.invariant-loop-file
invariant-loop-file l = AllSay l.resources.items (map (λ (file : File). entry_of (file_row file) (unpacked_file file)) (take l.file-index l.files))
