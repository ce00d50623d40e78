use Rattle.res_table.specs.Rows.{changed_at, with_handle}
use Rattle.res_table.proofs.Files.{file_there, row_inside, rows_written}
use Rattle.res_table.proofs.chain.Chain.set_handle.Goals as goal

pub unwrap-at-requires : goal.unwrap-at-requires
unwrap-at-requires g c = file_there c.args.place c.args.self.now c.position_of.result c.position_of.ensures c.requires

pub set_handle-requires : goal.set_handle-requires
set_handle-requires g c = row_inside c.args.place.file c.self.inside.files.items c.self.inside.current c.args.self.now c.position_of.result c.unwrap-at.result c.index_mut.result.now c.self.view_is c.position_of.ensures c.unwrap-at.ensures c.index_mut.ensures.value c.args.place.index c.requires

pub returns : goal.returns
returns g c = rows_written c.args.place.file c.self.inside.files.items c.self.inside.current c.args.self.now c.position_of.result c.unwrap-at.result c.index_mut.result.now c.self.view_is c.position_of.ensures c.unwrap-at.ensures c.index_mut.ensures.value (changed_at c.args.place.index (with_handle c.args.handle)) _ c.set_handle.ensures
