use Rattle.std.proofs.Common.{◌≡◌, ℕ, ◌+◌, ◌-◌, ◌*◌, ◌<◌, ◌∙◌, ap, subst, Some, get_or, arith}
use Rattle.std.specs.Fn.{iterate}
use Rattle.fork_pictures.specs.declared.pixel.Pixel.{Pixel}
use Rattle.pict_bytes.specs.Maps.{height, width}
use Rattle.fork_drawings.specs.declared.span.Course.{Course}
use Rattle.fork_drawings.specs.Brushes.{brushed, brushed_by}
use Rattle.fork_drawings.specs.Lines.{line, next_place}
use Rattle.fork_drawings.specs.Painting.{IsPainted}
use Rattle.fork_drawings.specs.Spans.{origin, rows}
use Rattle.fork_drawings.proofs.Framed.{line_is, row_is}
use Rattle.fork_drawings.proofs.Painted.{painted_as}
use Rattle.fork_drawings.proofs.Steps.{by_place, long_by_places}
use Rattle.fork_drawings.proofs.brush.Brush.paint_line.Goals as goal

pub bounds-places-row : goal.bounds-places-row
bounds-places-row c =
    let bits = c.args.self.now.bits in
    let next = next_place bits c.args.bytes.now in
    let long = long_by_places (λ (row : ℕ). iterate next row bits.start) (height bits.map.bounds) c.args.places.now c.requires.places in
    let high = ap (λ (course : Course). course.bounds.high - course.bounds.low) c.rows.ensures in
    omega (arith, long, high, c.in-Some.ensures.within)

pub returns : goal.returns
returns c =
    let own = c.args.self.now in
    let bytes = c.args.bytes.now in
    let frame = c.args.frame in
    let number = c.in-Some.row in
    let row = c.deref.result.now in
    let down = frame.top + c.args.y in
    let next = next_place own.bits bytes in
    let high = ap (λ (course : Course). course.bounds.high - course.bounds.low) c.rows.ensures in
    let inside : number < height own.bits.map.bounds = omega (arith, high, c.in-Some.ensures.within) in
    let there : Some number ≡ origin (rows own.bits) down = c.in-Some.ensures.is ∙ ap (λ (course : Course). origin course down) c.rows.ensures in
    let place = by_place (λ (n : ℕ). iterate next n own.bits.start) (height own.bits.map.bounds) number c.args.places.now c.requires.places inside in
    let is : row ≡ line own.bits bytes number =
    line_is own.bits bytes row number (get_or c.args.places.now number 0) place (c.deref.ensures.value ∙ c.in_ok-line.ensures) in
    let drawn =
    subst
    (λ (wide : ℕ). IsPainted c.args.pixels.now c.paint_row.new.pixels (wide * c.args.y) (wide * c.args.y + wide)
    (λ (at : ℕ) (pixel : Pixel). brushed own row (frame.left + (at - wide * c.args.y)) down pixel))
    c.width-width.ensures c.paint_row.ensures in
    painted_as c.args.pixels.now c.paint_row.new.pixels (width frame * c.args.y) (width frame * c.args.y + width frame)
    (λ (at : ℕ) (pixel : Pixel). brushed own row (frame.left + (at - width frame * c.args.y)) down pixel)
    (λ (at : ℕ) (pixel : Pixel). brushed_by own bytes (frame.left + (at - width frame * c.args.y)) down pixel)
    drawn
    (λ at low high pixel. row_is own bytes row number (frame.left + (at - width frame * c.args.y)) down pixel there is)
