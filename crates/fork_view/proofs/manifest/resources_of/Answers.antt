use Rattle.std.proofs.Common.{◌+◌, List, map, take, subst, sym}
use Rattle.fork_folder.specs.Manifest.{AllSay, Says}
use Rattle.fork_folder.specs.PackedAgain.{entry_of}
use Rattle.fork_folder.specs.Unpacked.{file_row, unpacked_file}
use Rattle.fork_folder.specs.declared.files.File.{File}
use Rattle.fork_folder.specs.declared.manifest.Resource.{Resource}
use Rattle.fork_view.proofs.Saying.{said_at}
use Rattle.fork_view.proofs.manifest.resources_of.Goals as goal

pub loop-file-preserved : goal.loop-file-preserved
loop-file-preserved c =
    let P : List Resource → Type 0 = λ resources. AllSay resources (map (λ (file : File). entry_of (file_row file) (unpacked_file file)) (take (c.loop-file.file-index + 1) c.args.files.now)) in
    let Q : File → Type 0 = λ file. Says c.in_ok-resource_of.field-0 (entry_of (file_row file) (unpacked_file file)) in
    let one = subst Q c.file-item.is c.in_ok-resource_of.ensures in
    subst P (sym c.in_ok-push.ensures.items) (said_at c.args.files.now c.loop-file.file-index c.file-item.result _ _ c.loop-file-test.true c.loop-file.invariant one)
