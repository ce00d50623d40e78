use Rattle.std.proofs.Common.{sym, ap, ◌∙◌, get_or}
use Rattle.res_table.specs.Rows.{removed_at}
use Rattle.res_table.specs.OpenFiles.{OpenFiles}
use Rattle.res_table.proofs.Files.{file_there, row_found, row_inside, rows_written}
use Rattle.res_table.proofs.chain.Chain.remove.Goals as goal

pub unwrap-at-requires : goal.unwrap-at-requires
unwrap-at-requires g c = file_there c.args.place c.args.self.now c.position_of.result c.position_of.ensures c.requires

pub remove-requires : goal.remove-requires
remove-requires g c = row_inside c.args.place.file c.self.inside.files.items c.self.inside.current c.args.self.now c.position_of.result c.unwrap-at.result c.index_mut.result.now c.self.view_is c.position_of.ensures c.unwrap-at.ensures c.index_mut.ensures.value c.args.place.index c.requires

pub returns-clause-rows : goal.returns-clause-rows
returns-clause-rows g c = rows_written c.args.place.file c.self.inside.files.items c.self.inside.current c.args.self.now c.position_of.result c.unwrap-at.result c.index_mut.result.now c.self.view_is c.position_of.ensures c.unwrap-at.ensures c.index_mut.ensures.value (removed_at c.args.place.index) _ c.remove.ensures.rows

pub returns-clause-row : goal.returns-clause-row
returns-clause-row g c =
    let read = c.index_mut.ensures.value ∙ ap (λ (chain : OpenFiles _). get_or chain.files c.unwrap-at.result c.index_mut.result.now) c.self.view_is in
    sym (row_found c.args.place c.args.self.now c.unwrap-at.result c.index_mut.result.now (sym c.position_of.ensures ∙ c.unwrap-at.ensures) read ∙ c.remove.ensures.row)
