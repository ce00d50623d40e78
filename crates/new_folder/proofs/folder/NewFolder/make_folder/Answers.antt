use Rattle.std.proofs.lemmas.Result.{err_from_is_err_and}
use Rattle.new_folder.proofs.NewFolders.{first_failed, second_failed}
use Rattle.new_folder.proofs.folder.NewFolder.make_folder.Goals as goal

pub returns-in_err-create_folder-clause-made : goal.returns-in_err-create_folder-clause-made
returns-in_err-create_folder-clause-made c =
    let p = err_from_is_err_and c.from_residual.result c.from_residual.ensures.1 in
    rw (p.1, c.in_err-create_folder.ensures.noted) (first_failed _ _ _ _ _)

pub returns-in_err-opened-clause-made : goal.returns-in_err-opened-clause-made
returns-in_err-opened-clause-made c =
    let p = err_from_is_err_and c.from_residual-in_err-opened.result c.from_residual-in_err-opened.ensures.1 in
    rw (p.1, c.in_err-opened.ensures.noted, c.in_ok-create_folder.ensures.noted) (second_failed _ _ _ _ _)
