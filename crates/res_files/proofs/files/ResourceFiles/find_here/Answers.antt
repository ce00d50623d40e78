use Rattle.std.proofs.Common.{sym, ap, ◌∙◌, map, subst, w16, Option, IfSome, IsSome}
use Rattle.std.proofs.lemmas.Int.{to_z-of_z}
use Rattle.res_table.specs.declared.chain.RowPlace.{RowPlace}
use Rattle.res_table.specs.OpenFiles.{place_here, row_at}
use Rattle.res_files.proofs.Mapped.{here-mapped}
use Rattle.res_files.proofs.Found.{here_there}
use Rattle.res_files.proofs.On.{bytes_in, asked}
use Rattle.res_files.proofs.files.ResourceFiles.find_here.Goals as goal

pub returns-clause-value : goal.returns-clause-value
returns-clause-value g c =
    let id = to_z-of_z w16 c.args.id c.ranges.id in
    asked g.S.ForkStore.fork c.self.inside.chain c.self.inside.loads c.self.inside.stores.items c.args.self.now c.self.view_is (place_here c.args.kind c.args.id) c.find_here.result
    (c.find_here.ensures ∙ ap (λ z. place_here c.args.kind z c.self.inside.chain) id ∙ sym (here-mapped (bytes_in (map g.S.ForkStore.fork c.self.inside.stores.items)) c.args.kind c.args.id c.self.inside.chain))

pub returns-clause-there : goal.returns-clause-there
returns-clause-there g c =
    subst (λ (found : Option RowPlace). IfSome found (λ place. IsSome (row_at place c.args.self.now.files))) (sym (returns-clause-value g c)) (here_there c.args.kind c.args.id c.args.self.now.files)
