use Rattle.std.proofs.Common.{◌*◌, arith}
use Rattle.fork_pictures.proofs.Steps.{long_by_places}
use Rattle.fork_pictures.proofs.drawing.Drawing.picture.Goals as goal

pub new-requires : goal.new-requires
new-requires c =
    let own = c.args.self.now in
    record {
      wide = omega arith;
      high = omega arith;
      small = omega arith;
      whole = long_by_places _ (own.width * own.height) c.in_ok-pixels.pixels.items c.in_ok-pixels.ensures;
    }
