use Rattle.std.proofs.Common.{sym, ◌∙◌, refl}
use Rattle.mac_files.proofs.BinHexLines.{line_at_end, line_here, line_past, marked}
use Rattle.mac_files.proofs.bin_hex.find.find_line.Goals as goal
use Rattle.mac_files.proofs.bin_hex.find.find_line.Goals.{else-begins-via-then-begins+else-starts_with, else-begins-via-else-begins}

pub returns-then-starts_with-clause-place : goal.returns-then-starts_with-clause-place
returns-then-starts_with-clause-place c =
    let here = rw c.if-begins.true at c.loop-at.invariant in
    sym (line_here c.args.mark.now c.args.text.now c.loop-at.at c.loop-at-test.true (marked c.args.mark.now c.args.text.now c.loop-at.at _ (sym c.starts_with.ensures.value ∙ c.if-starts_with.true))) ∙ here

pub loop-at-preserved : goal.loop-at-preserved
loop-at-preserved c =
    rw c.begins_after-begins.ensures (sym (line_past c.args.mark.now c.args.text.now c.loop-at.begins c.loop-at.at c.loop-at-test.true
    (elim c.else-begins.branch [
      | else-begins-via-then-begins+else-starts_with w ↦ rw (w.if-begins.true) (marked c.args.mark.now c.args.text.now c.loop-at.at _ (sym w.starts_with.ensures.value ∙ w.if-starts_with.false))
      | else-begins-via-else-begins w ↦ rw w.if-begins.false refl
    ])) ∙ c.loop-at.invariant)

pub returns-clause-place : goal.returns-clause-place
returns-clause-place c =
    sym (line_at_end c.args.mark.now c.args.text.now c.loop-at.begins c.loop-at.at c.loop-at-test.false) ∙ c.loop-at.invariant
