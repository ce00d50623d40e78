use Rattle.std.proofs.Common.{sym, ◌∙◌, arith}
use Rattle.std.proofs.lemmas.Slice.Eq.{bytes_eq-Decides}
use Rattle.script_lang.proofs.CallNames.{own_name, unnamed, unnamed_further}
use Rattle.script_lang.proofs.table.CallName.named.Goals as goal

pub loop-row-init : goal.loop-row-init
loop-row-init c k lt = absurd (omega arith)

pub returns-then-eq-clause-found : goal.returns-then-eq-clause-found
returns-then-eq-clause-found c =
    let rows = c.rows-row-items.result.now in
    own_name rows c.loop-row.row-index c.rows-row-items.ensures.calls c.rows-row-items.ensures.names c.loop-row-test.true ∙ (bytes_eq-Decides _ c.args.word.now).0 (sym c.eq.ensures ∙ c.if-eq.true)

pub loop-row-preserved : goal.loop-row-preserved
loop-row-preserved c = unnamed_further c.args.word.now c.rows-row-items.result.now c.loop-row.row-index (sym c.eq.ensures ∙ c.if-eq.false) c.loop-row.invariant

pub returns-clause-none : goal.returns-clause-none
returns-clause-none c = let past = c.loop-row-test.false in unnamed c.args.word.now c.rows-row-items.result.now c.rows-row-items.ensures.calls c.rows-row-items.ensures.names (λ k lt. c.loop-row.invariant k (omega arith))
