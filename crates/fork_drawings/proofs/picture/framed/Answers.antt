use Rattle.std.proofs.Common.{◌≡◌, ◌*◌, ◌∙◌, refl, sym, arith}
use Rattle.pict_bytes.specs.Maps.{height, width}
use Rattle.fork_drawings.proofs.Steps.{long_by_places}
use Rattle.fork_drawings.proofs.picture.framed.Goals as goal

pub new-requires : goal.new-requires
new-requires c =
    let frame = c.args.frame in
    let long = long_by_places _ (width frame * height frame) c.in_ok-dots.dots.items c.in_ok-dots.ensures in
    let size : c.width-width.result * c.height-height.result ≡ width frame * height frame = rw (c.width-width.ensures, c.height-height.ensures) refl in
    record {
      wide = omega arith;
      high = omega arith;
      small = omega arith;
      whole = long ∙ sym size;
    }
