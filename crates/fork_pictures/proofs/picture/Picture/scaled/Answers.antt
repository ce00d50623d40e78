use Rattle.std.proofs.Common.{◌≡◌, ◌≤◌, ◌*◌, ℕ, ap, ◌∙◌, sym, arith, length}
use Rattle.std.proofs.Math.Nat.{mul-le-mul_left}
use Rattle.fork_pictures.specs.Image.{Image}
use Rattle.fork_pictures.proofs.Enlarged.{sides_small}
use Rattle.fork_pictures.proofs.Steps.{long_by_places}
use Rattle.fork_pictures.proofs.picture.Picture.scaled.Goals as goal

pub new-requires : goal.new-requires
new-requires c =
    let times = c.args.times in
    let width = c.self.inside.width in
    let height = c.self.inside.height in
    let size : length c.pixels-pixels.result.now ≡ width * height =
    c.pixels-pixels.ensures.whole ∙ ap (λ (image : Image). image.width * image.height) (sym c.self.view_is) in
    let all = ap (λ (n : ℕ). times * times * n) size in
    let small : times * times * (width * height) ≤ 16777216 = omega (arith, all) in
    let wide : times * 1 ≤ times * width = mul-le-mul_left times c.self.invariant.wide in
    let high : times * 1 ≤ times * height = mul-le-mul_left times c.self.invariant.high in
    record {
      wide = omega arith;
      high = omega arith;
      small = sides_small times width height small;
      whole = long_by_places _ (times * width * (times * height)) c.in_ok-pixels.pixels.items c.in_ok-pixels.ensures;
    }
