use Rattle.std.proofs.Common.{ℕ, ◌+◌, ◌*◌, ◌/◌, ◌%◌}
use Rattle.std.proofs.lemmas.Result.{on_ok_weaker}
use Rattle.fork_pictures.specs.declared.pixel.Pixel.{Pixel}
use Rattle.pict_bytes.specs.Maps.{height, width}
use Rattle.fork_drawings.specs.Brushes.{brushed_by}
use Rattle.fork_drawings.specs.Painting.{IsPainted, painted}
use Rattle.fork_drawings.proofs.Brushed.{brushed_is}
use Rattle.fork_drawings.proofs.Painted.{painted_as}
use Rattle.fork_drawings.proofs.drawing.draw_bits.Goals as goal

pub returns : goal.returns
returns c =
    let bytes = c.args.bytes.now in
    let frame = c.args.frame in
    let wide = width frame in
    let count = wide * height frame in
    let brush = c.in_ok-brush.brush in
    let old = c.args.pixels.now in
    let new = c.paint.new.pixels in
    let own : ℕ → Pixel → Pixel = λ at pixel. brushed_by brush bytes (frame.left + at % wide) (frame.top + at / wide) pixel in
    let right : ℕ → Pixel → Pixel = λ at pixel. painted bytes c.args.clip c.args.bits (frame.left + at % wide) (frame.top + at / wide) pixel in
    on_ok_weaker c.paint.result
    (λ (is : IsPainted old new 0 count own).
    painted_as old new 0 count own right is
    (λ at low high pixel. brushed_is brush bytes c.args.clip c.args.bits (frame.left + at % wide) (frame.top + at / wide) pixel c.in_ok-brush.ensures))
    c.paint.ensures
