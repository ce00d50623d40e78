use Rattle.std.proofs.Common.{◌-◌, ◌/◌, ◌≤◌, ap, sym, ◌∙◌, subst}
use Rattle.mac_base.specs.ZoneSizes.{ArePossible, ZoneSizes}
use Rattle.linked_zone.specs.Sizes.{sizes_of}
use Rattle.zone_index.proofs.Placed.{place-within}
use Rattle.zone_index.proofs.zone.IndexedZone.place.Goals as goal

pub returns-clause-inside : goal.returns-clause-inside
returns-clause-inside c =
    let z = c.args.self.now in
    let read = c.spec-spec.ensures.sizes ∙ ap sizes_of c.self.view_is in
    subst (λ base. (c.args.at - base) / 4 ≤ z.shape.limit / 4) (sym (c.base.ensures.value ∙ ap (λ (s : ZoneSizes). s.base) read)) (place-within z c.args.at (subst ArePossible read c.base.ensures.possible) c.requires)
