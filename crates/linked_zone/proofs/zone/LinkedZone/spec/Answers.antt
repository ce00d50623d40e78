use Rattle.std.proofs.Common.{◌∙◌}
use Rattle.linked_zone.proofs.Standing.{stands-now}
use Rattle.linked_zone.proofs.Found.{sizes-read}
use Rattle.linked_zone.proofs.zone.LinkedZone.spec.Goals as goal

pub returns : goal.returns
returns c =
    let stands = stands-now c.self.invariant c.self.view_is in
    record { sizes = c.spec.ensures ∙ sizes-read _ _ stands; loans = stands.fits.loans; fits = stands.fits; possible = stands.sizes }
