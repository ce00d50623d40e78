use Rattle.std.proofs.Common.{sym, ◌∙◌, map, subst, Option, IfSome, IsSome}
use Rattle.res_table.specs.declared.chain.RowPlace.{RowPlace}
use Rattle.res_table.specs.OpenFiles.{name_here, row_at}
use Rattle.res_files.proofs.Mapped.{name_here-mapped}
use Rattle.res_files.proofs.Found.{name_here_there}
use Rattle.res_files.proofs.On.{bytes_in, asked}
use Rattle.res_files.proofs.files.ResourceFiles.find_named_here.Goals as goal

pub returns-clause-value : goal.returns-clause-value
returns-clause-value g c =
    asked g.S.ForkStore.fork c.self.inside.chain c.self.inside.loads c.self.inside.stores.items c.args.self.now c.self.view_is (name_here c.args.kind c.args.name.now) c.find_named_here.result
    (c.find_named_here.ensures ∙ sym (name_here-mapped (bytes_in (map g.S.ForkStore.fork c.self.inside.stores.items)) c.args.kind c.args.name.now c.self.inside.chain))

pub returns-clause-there : goal.returns-clause-there
returns-clause-there g c =
    subst (λ (found : Option RowPlace). IfSome found (λ place. IsSome (row_at place c.args.self.now.files))) (sym (returns-clause-value g c)) (name_here_there c.args.kind c.args.name.now c.args.self.now.files)
