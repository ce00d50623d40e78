use Rattle.std.proofs.Common.{◌≡◌, ℕ, ◌+◌, ◌-◌, ◌<◌, length, map, take, true, arith}
use Rattle.std.specs.Prelude.{is_some}
use borrow.Author.Count.{below_more}
use Rattle.volume_names.specs.Paths.{items_of}
use Rattle.image_files.specs.Finding.{thing_named}
use Rattle.image_files.proofs.Missing.{missing_at, missing_last, one_more}
use Rattle.image_files.proofs.found.leading.Goals as goal

pub returns-then-is_none : goal.returns-then-is_none
returns-then-is_none c =
    let count = c.loop-count.count in
    missing_at c.args.files.now c.args.names.now count (count - 1) c.find_thing_in.result (omega (arith, c.loop-count.auto.count)) c.requires.missing (omega (arith, c.loop-count-test.true))
    c.find_thing_in.ensures c.if-is_none.ensures c.loop-count.invariant

pub loop-count-init : goal.loop-count-init
loop-count-init c = λ k pos below. absurd (omega arith)

pub loop-count-preserved : goal.loop-count-preserved
loop-count-preserved c = λ k pos below.
    let files = c.args.files.now in
    let names = c.args.names.now in
    let count = c.loop-count.count in
    below_more (λ (j : ℕ). 0 < j → is_some (thing_named files (take j (map items_of names))) ≡ true) count (λ j under low. c.loop-count.invariant j low under)
    (λ low. one_more files names count c.find_thing_in.result c.find_thing_in.ensures c.if-is_none.ensures) k below pos

pub returns : goal.returns
returns c =
    let names = c.args.names.now in
    let one : length names ≡ c.saturating_sub.result + 1 = rw c.saturating_sub.ensures (omega (arith, c.requires.some)) in
    missing_last c.args.files.now names c.saturating_sub.result one c.requires.missing (λ k pos below. c.loop-count.invariant k pos (omega (arith, c.loop-count-test.false)))
