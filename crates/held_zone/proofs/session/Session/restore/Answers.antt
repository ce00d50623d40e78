use Rattle.std.proofs.Common.{◌∙◌, ◌-◌, ◌++◌, ap, length, replicate}
use Rattle.held_zone.specs.Fields.{managed}
use Rattle.held_zone.proofs.Guests.{none-restored}
use Rattle.held_zone.proofs.session.Session.restore.Goals as goal

pub returns-clause-none : goal.returns-clause-none
returns-clause-none c =
    none-restored c.adopt.result c.args.spec c.args.image.now c.in_ok-region.region.bytes c.requires c.limit.ensures.possible.within
    (c.in_ok-region.ensures.bytes ∙ ap (λ n. managed c.args.image.now ++ replicate (n - length c.args.image.now) 0) c.limit.ensures.value) c.adopt.ensures.none
