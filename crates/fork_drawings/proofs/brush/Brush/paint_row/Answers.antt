use Rattle.std.proofs.Common.{◌≡◌, ℕ, ◌+◌, ◌-◌, ap, ◌∙◌, subst, set, get_or, arith}
use Rattle.fork_pictures.specs.declared.pixel.Pixel.{Pixel}
use Rattle.fork_drawings.specs.Brushes.{brushed}
use Rattle.fork_drawings.specs.Painting.{IsPainted, unseen}
use Rattle.fork_drawings.proofs.Painted.{painted_next, painted_none}
use Rattle.fork_drawings.proofs.brush.Brush.paint_row.Goals as goal

pub loop-x-init : goal.loop-x-init
loop-x-init c =
    let old = c.args.pixels.now in
    let start = c.args.start in
    let paint : ℕ → Pixel → Pixel = λ place pixel. brushed c.args.self.now c.args.row.now (c.args.left + (place - start)) c.args.y pixel in
    let none : start ≡ start + 0 = omega arith in
    subst (λ (to : ℕ). IsPainted old old start to paint) none (painted_none old start paint)

pub loop-x-preserved : goal.loop-x-preserved
loop-x-preserved c =
    let old = c.args.pixels.now in
    let start = c.args.start in
    let paint : ℕ → Pixel → Pixel = λ place pixel. brushed c.args.self.now c.args.row.now (c.args.left + (place - start)) c.args.y pixel in
    let x = c.loop-x.x in
    let dots = c.loop-x.pixels in
    let own : x ≡ start + x - start = omega arith in
    let drawn : c.brushed.result ≡ paint (start + x) (get_or dots (start + x) unseen) =
    c.brushed.ensures ∙ ap (λ (n : ℕ). brushed c.args.self.now c.args.row.now (c.args.left + n) c.args.y (get_or dots (start + x) unseen)) own in
    let more : start + x + 1 ≡ start + (x + 1) = omega arith in
    subst (λ (to : ℕ). IsPainted old (set dots (start + x) c.brushed.result) start to paint) more
    (painted_next old dots start (start + x) paint c.brushed.result c.loop-x.invariant (omega arith) (omega arith) drawn)
