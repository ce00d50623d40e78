use Rattle.std.proofs.Common.{sym}
use Rattle.std.proofs.lemmas.Result.{err_from_is_err_and}
use Rattle.fork_folder.specs.Unpacked.{unpacked_file}
use Rattle.fork_view.proofs.Stopping.{follows_by, one_more_made, one_stops}
use Rattle.fork_view.proofs.unpack.Outer.write_all.Goals as goal

pub returns-in_err-write : goal.returns-in_err-write
returns-in_err-write c =
    let p = err_from_is_err_and c.from_residual.result c.from_residual.ensures.1 in
    rw p.1 (one_stops unpacked_file _ c.args.files.now c.loop-file.file-index c.file-item.result _ _ _ _ c.loop-file-test.true (sym c.file-item.is)
    c.loop-file.invariant.all c.loop-file.invariant.after c.in_err-write.ensures.made)

pub loop-file-preserved : goal.loop-file-preserved
loop-file-preserved c = record {
  all = one_more_made unpacked_file _ c.args.files.now c.loop-file.file-index c.file-item.result _ _ _ _ c.loop-file-test.true (sym c.file-item.is)
      c.loop-file.invariant.all c.in_ok-write.ensures.name c.in_ok-write.ensures.made;
  after = follows_by _ _ _ _ _ c.in_ok-write.ensures.made c.loop-file.invariant.after;
}
