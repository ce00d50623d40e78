use Rattle.std.proofs.Common.{◌≡◌, ℕ, ◌+◌, ◌-◌, ◌*◌, ◌/◌, ◌%◌, ◌<◌, ◌≤◌, ◌∙◌, ap, sym, subst, arith}
use Rattle.std.proofs.Math.Nat.{mul-le-mul_left}
use Rattle.fork_pictures.specs.declared.pixel.Pixel.{Pixel}
use Rattle.pict_bytes.specs.Maps.{height, width}
use Rattle.fork_drawings.specs.Brushes.{brushed_by}
use Rattle.fork_drawings.specs.Painting.{IsPainted}
use Rattle.fork_drawings.specs.Spans.{first_row, last_row}
use Rattle.fork_drawings.proofs.Framed.{after_last, before_first}
use Rattle.fork_drawings.proofs.Painted.{painted_all, painted_as, painted_both, painted_none}
use Rattle.fork_drawings.proofs.Placed.{column_of, row_of}
use Rattle.fork_drawings.proofs.brush.Brush.paint.Goals as goal

pub loop-y-init : goal.loop-y-init
loop-y-init c =
    let own = c.args.self.now in
    let frame = c.args.frame in
    let wide = width frame in
    let first = first_row frame own.bits.target in
    let paint : ℕ → Pixel → Pixel = λ at pixel. brushed_by own c.args.bytes.now (frame.left + at % wide) (frame.top + at / wide) pixel in
    subst (λ (row : ℕ). IsPainted c.args.pixels.now c.args.pixels.now (wide * first) (wide * row) paint) (sym c.first_row-y.ensures)
    (painted_none c.args.pixels.now (wide * first) paint)

pub loop-y-preserved : goal.loop-y-preserved
loop-y-preserved c =
    let own = c.args.self.now in
    let bytes = c.args.bytes.now in
    let frame = c.args.frame in
    let wide = width frame in
    let first = first_row frame own.bits.target in
    let y = c.loop-y.y in
    let old = c.args.pixels.now in
    let dots = c.loop-y.pixels in
    let new = c.paint_line.new.pixels in
    let paint : ℕ → Pixel → Pixel = λ at pixel. brushed_by own bytes (frame.left + at % wide) (frame.top + at / wide) pixel in
    let line : ℕ → Pixel → Pixel = λ at pixel. brushed_by own bytes (frame.left + (at - wide * y)) (frame.top + y) pixel in
    let same : (at : ℕ) → wide * y ≤ at → at < wide * y + wide → (pixel : Pixel) → line at pixel ≡ paint at pixel =
    λ at low high pixel.
    ap (λ (x : ℕ). brushed_by own bytes (frame.left + x) (frame.top + y) pixel) (sym (column_of wide y at low high))
    ∙ ap (λ (row : ℕ). brushed_by own bytes (frame.left + at % wide) (frame.top + row) pixel) (sym (row_of wide y at low high)) in
    let row = painted_as dots new (wide * y) (wide * y + wide) line paint c.in_ok-paint_line.ensures same in
    let some : first ≤ y = omega (arith, c.loop-y.auto.y, c.first_row-y.ensures) in
    let from : wide * first ≤ wide * y = mul-le-mul_left wide some in
    let more : wide * y + wide ≡ wide * (y + 1) = omega arith in
    subst (λ (to : ℕ). IsPainted old new (wide * first) to paint) more
    (painted_both old dots new (wide * first) (wide * y) (wide * y + wide) paint c.loop-y.invariant row from (omega arith))

pub returns : goal.returns
returns c =
    let own = c.args.self.now in
    let bytes = c.args.bytes.now in
    let frame = c.args.frame in
    let wide = width frame in
    let first = first_row frame own.bits.target in
    let last = last_row frame own.bits.target in
    let old = c.args.pixels.now in
    let dots = c.loop-y.pixels in
    let paint : ℕ → Pixel → Pixel = λ at pixel. brushed_by own bytes (frame.left + at % wide) (frame.top + at / wide) pixel in
    let order : first ≤ last = omega arith in
    let within : last ≤ height frame = omega arith in
    let end : c.loop-y.y ≡ last =
    omega (arith, order, c.first_row-y.ensures, c.last_row-y-end.ensures, c.loop-y.auto.y, c.loop-y.auto.y-end, c.loop-y-test.false) in
    let rows : wide * first ≤ wide * last = mul-le-mul_left wide order in
    let all : wide * last ≤ wide * height frame = mul-le-mul_left wide within in
    painted_all old dots (wide * first) (wide * last) (wide * height frame) paint
    (subst (λ (row : ℕ). IsPainted old dots (wide * first) (wide * row) paint) end c.loop-y.invariant)
    rows all
    (λ at low pixel. before_first own bytes frame at (frame.left + at % wide) pixel low)
    (λ at high inside pixel. after_last own bytes frame at (frame.left + at % wide) pixel high inside)
