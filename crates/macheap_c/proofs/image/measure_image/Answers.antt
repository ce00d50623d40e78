use Rattle.std.proofs.Common.{◌≡◌, ◌∙◌, ap, length, refl, subst, sym}
use Rattle.linked_zone.specs.Image.{IsImage}
use Rattle.held_zone.specs.State.{State}
use Rattle.macheap_c.proofs.Images.{size-told}
use Rattle.macheap_c.proofs.image.measure_image.Goals as goal

pub returns : goal.returns
returns c =
    let s = c.args.session.now in let image = c.in_ok-image.image.now in
    let is = subst (λ (s : State). IsImage s.zone image) c.session.view_is c.in_ok-image.ensures.image in
    let none = sym (ap (λ (s : State). length s.zone.heap.table.lent) c.session.view_is) ∙ c.in_ok-image.ensures.nothing_lent in
    size-told s image is none (length image) c.args.size.now refl
