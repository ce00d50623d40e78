use Rattle.std.proofs.lemmas.Result.{err_from_is_err_and}
use Rattle.new_folder.proofs.NewFolders.{first_failed, second_by}
use Rattle.new_folder.proofs.opened.Opened.write_file.Goals as goal

pub returns-in_err-file-clause-made : goal.returns-in_err-file-clause-made
returns-in_err-file-clause-made c =
    let p = err_from_is_err_and c.from_residual.result c.from_residual.ensures.1 in
    rw (p.1, c.in_err-file.ensures.noted) (first_failed _ _ _ _ _)

pub returns-clause-made : goal.returns-clause-made
returns-clause-made c = rw (c.write_made.ensures, c.in_ok-file.ensures.noted) (second_by _ _ _ _ _ _)
