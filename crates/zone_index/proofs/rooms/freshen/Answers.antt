use Rattle.zone_index.proofs.Freshened.{freshened, mixtures}
use Rattle.zone_index.proofs.Known.{limit-known, within-known}
use Rattle.zone_index.proofs.rooms.freshen.Goals as goal

pub freshen-requires-clause-fits : goal.freshen-requires-clause-fits
freshen-requires-clause-fits c =
    mixtures c.args.zone.now (within-known c.args.zone.now c.spec-spec.result c.spec-spec.ensures.sizes c.limit-limit.ensures.possible) c.args.rooms.now c.requires
    (limit-known c.args.zone.now c.spec-spec.result c.spec-spec.ensures.sizes c.limit-limit.ensures.possible)

pub returns : goal.returns
returns c =
    freshened c.args.zone.now (within-known c.args.zone.now c.spec-spec.result c.spec-spec.ensures.sizes c.limit-limit.ensures.possible) c.args.rooms.now c.freshen.new.self c.requires c.freshen.ensures.count c.freshen.ensures.right
