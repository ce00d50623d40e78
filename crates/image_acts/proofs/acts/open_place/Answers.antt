use Rattle.std.proofs.Common.{Option, Result, Ok, Err, refl, subst, sym}
use Rattle.image_open.specs.declared.opened.NotOpened.{NotOpened}
use Rattle.image_open.specs.declared.opened.Opened.{Opened}
use Rattle.image_acts.specs.Here.{here}
use Rattle.image_acts.specs.Shown.{AsOpened}
use Rattle.image_acts.proofs.Placed.{opens_word}
use Rattle.image_acts.proofs.acts.open_place.Goals as goal

pub returns-in-Ok-clause-opens : goal.returns-in-Ok-clause-opens
returns-in-Ok-clause-opens g c =
    let disk = c.open_disk-disk.result.0 in
    let found = c.open_disk-disk.result.1 in
    opens_word g.W.World c.args.word.now (here c.args.place) found (Ok c.in-Ok.opened) c.args.acts.now.events c.note_image.new.acts.events disk.file disk.first c.note_image.ensures.noted c.open_disk-disk.ensures
    (subst (λ (r : Result (Option Opened) NotOpened). AsOpened r (Ok c.in-Ok.opened)) (sym c.in-Ok.is) refl)

pub returns-in-Err-clause-opens : goal.returns-in-Err-clause-opens
returns-in-Err-clause-opens g c =
    let disk = c.open_disk-disk.result.0 in
    let found = c.open_disk-disk.result.1 in
    opens_word g.W.World c.args.word.now (here c.args.place) found (Err c.of_opening.result) c.args.acts.now.events c.note_image.new.acts.events disk.file disk.first c.note_image.ensures.noted c.open_disk-disk.ensures
    (subst (λ (r : Result (Option Opened) NotOpened). AsOpened r (Err c.of_opening.result)) (sym c.in-Err.is) (c.of_opening.result, refl, c.of_opening.ensures))
