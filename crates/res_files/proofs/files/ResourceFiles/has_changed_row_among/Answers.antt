use Rattle.std.proofs.Common.{map, refl, true, ap, ◌∙◌, sym, List, Some, None}
use Rattle.std.specs.List.{list_any}
use Rattle.res_update.specs.Changes.{FileRow}
use Rattle.res_files.proofs.AmongHandles.{counts_among}
use Rattle.res_files.proofs.Mapped.{any-mapped, mapped_row}
use Rattle.res_files.proofs.NextHandle.{rows_seen}
use Rattle.res_files.proofs.On.{bytes_in}
use Rattle.res_files.proofs.files.ResourceFiles.has_changed_row_among.Goals as goal

pub returns-in-Some : goal.returns-in-Some
returns-in-Some g c =
    let test = counts_among true c.args.handles.now in
    c.has_changed_row_among.ensures
    ∙ sym (any-mapped (mapped_row (bytes_in (map g.S.ForkStore.fork c.self.inside.stores.items) c.args.number)) test (counts_among true c.args.handles.now) (λ r. refl) c.in-Some.table.now.rows)
    ∙ ap (λ (rows : List FileRow). list_any test rows) (rows_seen g.S.ForkStore.fork c.self.inside.chain c.self.inside.loads c.self.inside.stores.items c.args.self.now c.self.view_is c.args.number (Some c.in-Some.table.now) c.in-Some.ensures.some)

pub returns-in-None : goal.returns-in-None
returns-in-None g c =
    ap (λ (rows : List FileRow). list_any (counts_among true c.args.handles.now) rows) (rows_seen g.S.ForkStore.fork c.self.inside.chain c.self.inside.loads c.self.inside.stores.items c.args.self.now c.self.view_is c.args.number None c.in-None.ensures.none)
