use Rattle.std.proofs.Common.{◌∙◌, ◌-◌, ◌+◌, List, ℕ, length, sym, ap, arith}
use Rattle.std.proofs.lemmas.Result.{err_from_is_err_and}
use Rattle.fork_texts.specs.Reading.{run_at}
use Rattle.fork_texts.proofs.Loops.{goes_on, no_byte, stopped}
use Rattle.fork_texts.proofs.reading.bytes_at.Goals as goal

pub returns-then-begins : goal.returns-then-begins
returns-then-begins c =
    stopped c.args.stop (length c.args.text.now) c.loop-turn._turn c.loop-turn.bytes.items c.loop-turn.rest.now _ c.loop-turn.invariant (omega arith)
    (sym c.begins.ensures ∙ c.if-begins.true)

pub returns-in_err-byte : goal.returns-in_err-byte
returns-in_err-byte c =
    let p = err_from_is_err_and c.from_residual.result c.from_residual.ensures.1 in
    rw (p.1, p.2) (no_byte c.args.stop (length c.args.text.now) c.loop-turn._turn c.loop-turn.bytes.items c.loop-turn.rest.now _ c.loop-turn.invariant
    c.in_err-byte.field-0.0 (omega arith) (sym c.begins.ensures ∙ c.if-begins.false) c.in_err-byte.ensures)

pub loop-turn-preserved : goal.loop-turn-preserved
loop-turn-preserved c =
    let n = length c.args.text.now in
    let i = c.loop-turn._turn in
    let after = c.in_ok-byte.after.now in
    ap (λ (bytes : List ℕ). run_at c.args.stop (n - (i + 1)) bytes after) c.in_ok-push.ensures.items
    ∙ goes_on c.args.stop n i c.loop-turn.bytes.items c.loop-turn.rest.now _ c.loop-turn.invariant c.in_ok-byte.byte after (omega arith)
    (sym c.begins.ensures ∙ c.if-begins.false) c.in_ok-byte.ensures
