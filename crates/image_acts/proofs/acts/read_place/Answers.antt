use Rattle.std.proofs.Common.{ℕ, Result, Ok, Err, refl, subst, sym}
use Rattle.std.specs.Global.{Vec}
use Rattle.image_open.specs.declared.opened.NotRead.{NotRead}
use Rattle.image_acts.specs.Shown.{AsRead}
use Rattle.image_acts.proofs.Placed.{reads_place}
use Rattle.image_acts.proofs.acts.read_place.Goals as goal

pub returns-in-Ok-clause-reads : goal.returns-in-Ok-clause-reads
returns-in-Ok-clause-reads g c =
    let disk = c.read_path-disk.result.0 in
    let read = c.read_path-disk.result.1 in
    reads_place g.W.World c.args.place.image.now c.args.place.path.now c.args.host.now.limit read (Ok c.in-Ok.bytes) c.args.acts.now.events c.note_image.new.acts.events disk.file disk.first c.note_image.ensures.noted
    (λ honest. (c.read_path-disk.ensures honest).known)
    (subst (λ (r : Result (Vec ℕ) NotRead). AsRead r (Ok c.in-Ok.bytes)) (sym c.in-Ok.is) refl)

pub returns-in-Err-clause-reads : goal.returns-in-Err-clause-reads
returns-in-Err-clause-reads g c =
    let disk = c.read_path-disk.result.0 in
    let read = c.read_path-disk.result.1 in
    reads_place g.W.World c.args.place.image.now c.args.place.path.now c.args.host.now.limit read (Err c.of_reading.result) c.args.acts.now.events c.note_image.new.acts.events disk.file disk.first c.note_image.ensures.noted
    (λ honest. (c.read_path-disk.ensures honest).known)
    (subst (λ (r : Result (Vec ℕ) NotRead). AsRead r (Err c.of_reading.result)) (sym c.in-Err.is) (c.of_reading.result, refl, c.of_reading.ensures))
