use Rattle.std.proofs.Common.{sym, ap, ◌∙◌}
use Rattle.res_table.proofs.Files.{earliest_in, earliest_after}
use Rattle.res_table.specs.OpenFiles.{place_of_handle, earliest_place}
use Rattle.res_table.specs.Rows.{has_handle}
use Rattle.res_table.proofs.chain.Chain.row_of_handle.Goals as goal

pub returns-in-Some : goal.returns-in-Some
returns-in-Some g c =
    sym (earliest_in _ c.deref-file-items.result.now c.loop-file.file-index c.file-item.result c.in-Some.index c.loop-file-test.true c.file-item.is (sym c.row_of_handle.ensures ∙ c.in-Some.is))
    ∙ c.loop-file.invariant ∙ ap (earliest_place (has_handle c.args.handle)) c.deref-file-items.ensures.value ∙ ap (place_of_handle c.args.handle) c.self.view_is

pub loop-file-preserved : goal.loop-file-preserved
loop-file-preserved g c =
    earliest_after _ c.deref-file-items.result.now c.loop-file.file-index c.file-item.result c.loop-file-test.true c.file-item.is (sym c.row_of_handle.ensures ∙ c.in_default.is)
    ∙ c.loop-file.invariant
