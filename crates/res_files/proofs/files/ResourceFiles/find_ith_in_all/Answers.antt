use Rattle.std.proofs.Common.{map, sym, ap, ◌∙◌}
use Rattle.res_table.specs.AllFiles.{ith_place}
use Rattle.res_files.proofs.AllMapped.{ith_place-mapped}
use Rattle.res_files.proofs.Found.{ith_place_there}
use Rattle.res_files.proofs.On.{bytes_in, asked}
use Rattle.res_files.proofs.files.ResourceFiles.find_ith_in_all.Goals as goal

pub returns-clause-value : goal.returns-clause-value
returns-clause-value g c =
    asked g.S.ForkStore.fork c.self.inside.chain c.self.inside.loads c.self.inside.stores.items c.args.self.now c.self.view_is (λ files. ith_place c.args.kind c.args.index files.files) c.place_of_ith.result
    (c.place_of_ith.ensures ∙ ap (ith_place c.args.kind c.args.index) c.files.ensures ∙ sym (ith_place-mapped (bytes_in (map g.S.ForkStore.fork c.self.inside.stores.items)) c.args.kind c.args.index c.self.inside.chain.files))

pub returns-clause-there : goal.returns-clause-there
returns-clause-there g c =
    ith_place_there g.S.ForkStore.fork g.S.ForkStore.is_ready g.S.ForkStore.is_honest c.self.inside.chain c.self.inside.loads c.self.inside.stores.items c.args.self.now c.self.view_is c.self.invariant
    c.args.kind c.args.index c.place_of_ith.result (c.place_of_ith.ensures ∙ ap (ith_place c.args.kind c.args.index) c.files.ensures)
