use Rattle.std.proofs.lemmas.Result.{err_from_is_err_and}
use Rattle.fork_folder.specs.Unpacked.{unpacked_file}
use Rattle.fork_view.proofs.Stopping.{folder_stops, write_stops}
use Rattle.fork_view.proofs.unpack.Outer.write.Goals as goal

pub returns-in_err-inner-clause-made : goal.returns-in_err-inner-clause-made
returns-in_err-inner-clause-made c =
    let p = err_from_is_err_and c.from_residual.result c.from_residual.ensures.1 in
    rw p.1 (folder_stops _ (unpacked_file c.args.file.now) _ _ _ c.as_str.ensures.value c.in_err-inner.ensures.made)

pub returns-clause-made : goal.returns-clause-made
returns-clause-made c =
    write_stops _ (unpacked_file c.args.file.now) _ _ _ _ _ _ _ c.as_str.ensures.value c.in_ok-inner.ensures.name c.as_str-2.ensures.value
    c.as_slice.ensures c.in_ok-inner.ensures.made c.in-Err.ensures.made
