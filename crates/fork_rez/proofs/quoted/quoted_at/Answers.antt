use Rattle.std.proofs.Common.{◌-◌, ◌+◌, ◌∙◌, List, ℕ, Option, Ok, suc, length, ap, arith}
use Rattle.std.specs.List.{push}
use Rattle.std.proofs.lemmas.Result.{err_from_is_err_and}
use Rattle.fork_rez.specs.Reading.{many, quoted_at, unit_at}
use Rattle.fork_rez.proofs.Loops.{goes_on, refused_here}
use Rattle.fork_rez.proofs.quoted.quoted_at.Goals as goal

pub returns-in_err-unit : goal.returns-in_err-unit
unfolding quoted_at
returns-in_err-unit c =
    let p = err_from_is_err_and c.from_residual.result c.from_residual.ensures.1 in
    rw (p.1, p.2) (refused_here push (unit_at c.args.quotes) (suc (length c.args.text.now)) c.loop-turn._turn c.loop-turn.bytes.items c.loop-turn.rest.now _ c.loop-turn.invariant
    c.in_err-unit.field-0.0 (omega arith) c.in_err-unit.ensures)

pub loop-turn-preserved : goal.loop-turn-preserved
loop-turn-preserved c =
    let q = c.args.quotes in
    let n = suc (length c.args.text.now) in
    let i = c.loop-turn._turn in
    let after = c.in_ok-unit.after.now in
    ap (λ (bytes : List ℕ). many push (unit_at q) (n - (i + 1)) bytes after) c.in_ok-push-in-Some.ensures.items
    ∙ goes_on push (unit_at q) n i c.loop-turn.bytes.items c.loop-turn.rest.now _ c.loop-turn.invariant c.in-Some.byte after (omega arith)
    (c.in_ok-unit.ensures ∙ ap (λ (u : Option ℕ). Ok (u, after)) c.in-Some.is)
