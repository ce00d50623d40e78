use Rattle.std.proofs.Common.{◌≡◌, rules}
use Rattle.held_files.proofs.AsSaved.{cant-seen}
use Rattle.held_files.proofs.files.ForkFiles.save.Goals as goal

pub returns-clause-refused : goal.returns-clause-refused
returns-clause-refused c = λ bad.
    let over : c.linked.result.now ≡ c.args.session.now.zone = search rules in
    cant-seen c.self.inside.zones c.self.inside.files c.args.self.now c.self.view_is c.chain.result.now c.stores.result.now c.loads.result c.stores.ensures c.loads.ensures c.chain.ensures.files c.chain.ensures.stands
    c.linked.result.now c.args.session.now.zone over (c.save.ensures.refused bad)
