use Rattle.std.proofs.Common.{◌≡◌, None}
use Rattle.std.proofs.lemmas.Option.{IfSome_then}
use Rattle.res_table.specs.OpenFiles.{row_at}
use Rattle.res_files.proofs.On.{row_seen, no_row_seen, none_then}
use Rattle.res_files.proofs.files.ResourceFiles.row.Goals as goal

pub returns-clause-some : goal.returns-clause-some
returns-clause-some g c =
    IfSome_then c.row.result c.row.ensures.some (λ row is. row_seen g.S.ForkStore.fork c.self.inside.chain c.self.inside.loads c.self.inside.stores.items c.args.self.now c.self.view_is c.args.place row.now is)

pub returns-clause-none : goal.returns-clause-none
returns-clause-none g c =
    none_then c.row.result (row_at c.args.place c.self.inside.chain ≡ None) (row_at c.args.place c.args.self.now.files ≡ None) c.row.ensures.none (λ is. no_row_seen g.S.ForkStore.fork c.self.inside.chain c.self.inside.loads c.self.inside.stores.items c.args.self.now c.self.view_is c.args.place is)
