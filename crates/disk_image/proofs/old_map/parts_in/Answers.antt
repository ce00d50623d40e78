use Rattle.std.proofs.Common.{◌≡◌, ℕ, ◌+◌, ◌-◌, ◌*◌, suc, ap, sym, ◌∙◌, arith}
use Rattle.std.specs.List.{slice_range}
use Rattle.disk_image.proofs.PartsRead.{old_more, old_ends, no_old}
use Rattle.disk_image.proofs.old_map.parts_in.Goals as goal

pub returns-then-is_blank : goal.returns-then-is_blank
returns-then-is_blank c =
    let block = c.args.block.now in
    let index = c.loop-index.index in
    let end : 2 + 12 * index + 12 ≡ 14 + 12 * index = omega arith in
    let left : 42 - index ≡ suc (42 - (index + 1)) = omega (arith, c.loop-index-test.true) in
    sym (old_ends c.loop-index.parts.items block _ index (42 - index) (42 - (index + 1)) left (ap (λ (k : ℕ). slice_range block (2 + 12 * index) k) end)
    (sym c.is_blank.ensures ∙ c.if-is_blank.true))
    ∙ c.loop-index.invariant

pub loop-index-preserved : goal.loop-index-preserved
loop-index-preserved c =
    let block = c.args.block.now in
    let index = c.loop-index.index in
    let end : 2 + 12 * index + 12 ≡ 14 + 12 * index = omega arith in
    let left : 42 - index ≡ suc (42 - (index + 1)) = omega (arith, c.loop-index-test.true) in
    rw c.in_ok-push.ensures.items
    (sym (old_more c.loop-index.parts.items block _ index (42 - index) (42 - (index + 1)) c.old_part.result left (ap (λ (k : ℕ). slice_range block (2 + 12 * index) k) end)
    (sym c.is_blank.ensures ∙ c.if-is_blank.false) c.old_part.ensures)
    ∙ c.loop-index.invariant)

pub returns : goal.returns
returns c = sym (no_old c.loop-index.parts.items c.args.block.now c.loop-index.index (42 - c.loop-index.index) (omega (arith, c.loop-index-test.false))) ∙ c.loop-index.invariant
