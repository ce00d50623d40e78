use Rattle.std.proofs.Common.{◌≡◌, ◌∙◌, ◌≤◌, ap, arith, length, refl, subst, sym}
use Rattle.linked_zone.specs.Image.{IsImage}
use Rattle.held_zone.specs.State.{State}
use Rattle.held_zone.specs.Fields.{with_fields}
use Rattle.held_zone.proofs.Headers.{image-long}
use Rattle.macheap_c.proofs.Images.{copied-told, other-told}
use Rattle.macheap_c.proofs.image.copy_image.Goals as goal

pub write-requires : goal.write-requires
write-requires c =
    let long = image-long c.session.inside.memory c.in_ok-image.image.now c.in_ok-image.ensures.image in
    let same = c.if-image-bytes.false in let copied = c.copy_from_slice.ensures.len in
    omega arith

pub returns-then-image-bytes : goal.returns-then-image-bytes
returns-then-image-bytes c =
    let s = c.args.session.now in let image = c.in_ok-image.image.now in
    let is = subst (λ (s : State). IsImage s.zone image) c.session.view_is c.in_ok-image.ensures.image in
    let none = sym (ap (λ (s : State). length s.zone.heap.table.lent) c.session.view_is) ∙ c.in_ok-image.ensures.nothing_lent in
    other-told s image is none (length c.args.bytes.now) c.args.bytes.now c.args.bytes.now c.if-image-bytes.true refl

pub returns : goal.returns
returns c =
    let s = c.args.session.now in let image = c.in_ok-image.image.now in
    let is = subst (λ (s : State). IsImage s.zone image) c.session.view_is c.in_ok-image.ensures.image in
    let none = sym (ap (λ (s : State). length s.zone.heap.table.lent) c.session.view_is) ∙ c.in_ok-image.ensures.nothing_lent in
    let guest = ap (λ (s : State). s.guest) c.session.view_is in
    copied-told s image is none (length c.args.bytes.now) c.args.bytes.now c.write.new.bytes c.if-image-bytes.false (c.write.ensures ∙ (λ i. with_fields (guest i) (c.copy_from_slice.ensures.after i)))
