use Rattle.std.proofs.Common.{ℕ, ◌*◌, ◌/◌, ◌%◌, ◌≤◌, arith, refl}
use Rattle.fork_pictures.specs.Image.{Image, pixel_at}
use Rattle.fork_pictures.proofs.Enlarged.{few, origin_within}
use Rattle.fork_pictures.proofs.Steps.{one_more}
use Rattle.fork_pictures.proofs.picture.repeated.Goals as goal

pub overflow_mul-width : goal.overflow_mul-width
overflow_mul-width c =
    let size : c.args.width * c.args.height ≤ 16777216 = few c.args.times (c.args.width * c.args.height) c.requires.some c.requires.small in
    let inside = origin_within c.args.times c.args.width c.args.height c.loop-place.place c.requires.some c.requires.is.wide c.loop-place-test.true in
    omega arith

pub overflow_add-width : goal.overflow_add-width
overflow_add-width c =
    let size : c.args.width * c.args.height ≤ 16777216 = few c.args.times (c.args.width * c.args.height) c.requires.some c.requires.small in
    let inside = origin_within c.args.times c.args.width c.args.height c.loop-place.place c.requires.some c.requires.is.wide c.loop-place-test.true in
    omega arith

pub bounds-pixels-width : goal.bounds-pixels-width
bounds-pixels-width c =
    let inside = origin_within c.args.times c.args.width c.args.height c.loop-place.place c.requires.some c.requires.is.wide c.loop-place-test.true in
    omega (arith, c.requires.is.whole)

pub loop-place-preserved : goal.loop-place-preserved
loop-place-preserved c =
    let image : Image = record { width = c.args.width; height = c.args.height; pixels = c.args.pixels.now } in
    let wide = c.args.times * c.args.width in
    one_more (λ (place : ℕ). pixel_at image (place % wide / c.args.times) (place / wide / c.args.times)) c.loop-place.place c.loop-place.all.items
    c.push.new.self.items _ c.loop-place.invariant c.in_ok-push.ensures.items refl
