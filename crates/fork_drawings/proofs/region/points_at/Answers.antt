use Rattle.std.proofs.Common.{◌≡◌, ◌∙◌, sym, ap, ℕ, true, List, ◌++◌, arith}
use Rattle.std.proofs.lemmas.List.{append-nil}
use Rattle.fork_drawings.specs.declared.region.Point.{Point}
use Rattle.fork_drawings.specs.Regions.{count_at, is_end, word_of}
use Rattle.fork_drawings.proofs.Pointed.{no_words, points_end, points_next}
use Rattle.fork_drawings.proofs.region.points_at.Goals as goal

pub loop-place-preserved : goal.loop-place-preserved
loop-place-preserved c =
    points_next c.loop-place.row c.row_after-row.result (word_of c.args.bytes.now c.args.at) (count_at c.args.bytes.now c.args.at) c.loop-place.place
    c.coordinate-word.result c.loop-place.points.items c.add.new.points.items
    (omega (arith, c.loop-place-test.true, c.count_at-place-end.ensures)) c.coordinate-word.ensures (sym c.is_end.ensures ∙ c.if-is_end.false)
    c.in_ok-add.ensures c.row_after-row.ensures
    ∙ c.loop-place.invariant

pub returns-then-is_end : goal.returns-then-is_end
returns-then-is_end c =
    let word = word_of c.args.bytes.now c.args.at in
    let count = count_at c.args.bytes.now c.args.at in
    let old = c.loop-place.points.items in
    let last : is_end c.loop-place.row (word c.loop-place.place) ≡ true =
    ap (λ (n : ℕ). is_end c.loop-place.row n) (sym c.coordinate-word.ensures) ∙ sym c.is_end.ensures ∙ c.if-is_end.true in
    sym (append-nil old)
    ∙ ap (λ (xs : List Point). old ++ xs)
    (sym (points_end c.loop-place.row word count c.loop-place.place (omega (arith, c.loop-place-test.true, c.count_at-place-end.ensures)) last))
    ∙ c.loop-place.invariant

pub returns : goal.returns
returns c =
    let word = word_of c.args.bytes.now c.args.at in
    let count = count_at c.args.bytes.now c.args.at in
    let old = c.loop-place.points.items in
    sym (append-nil old)
    ∙ ap (λ (xs : List Point). old ++ xs)
    (sym (no_words c.loop-place.row word count c.loop-place.place (omega (arith, c.loop-place-test.false, c.count_at-place-end.ensures))))
    ∙ c.loop-place.invariant
