use Rattle.std.proofs.Common.{ℕ, ◌/◌, ◌%◌}
use Rattle.fork_pictures.specs.Drawings.{pixel_of}
use Rattle.fork_pictures.proofs.Steps.{one_more}
use Rattle.fork_pictures.proofs.drawing.Drawing.pixels.Goals as goal

pub loop-place-preserved : goal.loop-place-preserved
loop-place-preserved c =
    let own = c.args.self.now in
    one_more (λ (place : ℕ). pixel_of own c.args.bytes.now c.args.other.now (place % own.width) (place / own.width)) c.loop-place.place c.loop-place.pixels.items
    c.push.new.self.items c.pixel.result c.loop-place.invariant c.in_ok-push.ensures.items c.pixel.ensures
