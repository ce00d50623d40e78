use Rattle.std.proofs.Common.{map}
use Rattle.std.proofs.lemmas.Result.{err_from_is_err_and}
use Rattle.fork_folder.specs.Unpacked.{unpacked_file}
use Rattle.fork_view.proofs.Stopping.{begin_stops, files_stop, manifest_by}
use Rattle.fork_view.proofs.unpack.write_files.Goals as goal

pub returns-in_err-outer : goal.returns-in_err-outer
returns-in_err-outer c =
    let p = err_from_is_err_and c.from_residual.result c.from_residual.ensures.1 in
    rw p.1 (begin_stops c.args.folder.now (map unpacked_file c.args.files.now) c.args.text.now c.args.log.now.events _ c.in_err-outer.ensures)

pub returns-in_err-write_all : goal.returns-in_err-write_all
returns-in_err-write_all c =
    let p = err_from_is_err_and c.from_residual-in_err-write_all.result c.from_residual-in_err-write_all.ensures.1 in
    rw p.1 (files_stop c.args.folder.now (map unpacked_file c.args.files.now) c.args.text.now c.args.log.now.events _ _ c.in_ok-outer.ensures
    c.in_err-write_all.ensures)

pub returns : goal.returns
returns c =
    manifest_by _ c.args.folder.now (map unpacked_file c.args.files.now) c.args.text.now c.args.log.now.events _ _ _ c.in_ok-outer.ensures
    c.in_ok-write_all.ensures c.write_manifest.ensures
