use Rattle.std.proofs.Common.{sym, ap, ◌∙◌, option_map, get_or}
use Rattle.res_table.proofs.Forgetting.{past_end}
use Rattle.res_table.specs.OpenFiles.{OpenFiles, table_in}
use Rattle.res_table.proofs.Files.{file_found, none_open}
use Rattle.res_table.proofs.chain.Chain.table.Goals as goal

pub returns-in_err-at-clause-none : goal.returns-in_err-at-clause-none
returns-in_err-at-clause-none g c =
    rw c.from_residual.ensures (ap (option_map table_in) ((none_open c.args.number c.args.self.now.files (past_end _ _ (sym c.position_of.ensures ∙ c.in_err-at.was))).1))

pub returns-clause-some : goal.returns-clause-some
returns-clause-some g c =
    let read = c.index.ensures ∙ ap (λ (chain : OpenFiles _). get_or chain.files c.in_ok-at.at c.index.result.now) c.self.view_is in
    ap (option_map table_in) (file_found c.args.number c.args.self.now.files c.in_ok-at.at c.index.result.now (sym c.position_of.ensures ∙ c.in_ok-at.was) read).file
