use Rattle.std.proofs.Common.{◌∙◌, ◌-◌, ◌+◌, List, Ok, suc, length, ap, arith}
use Rattle.std.specs.Prelude.{option_map}
use Rattle.std.specs.List.{push}
use Rattle.std.proofs.lemmas.List.{map_push}
use Rattle.fork_bytes.specs.Rows.{Row}
use Rattle.fork_bytes.specs.Written.{plain_row, plain_rows}
use Rattle.fork_rez.specs.Reading.{many, row_at}
use Rattle.fork_rez.proofs.Loops.{goes_on, refused_here}
use Rattle.fork_rez.proofs.table.rows_at.Goals as goal

pub returns-in-Err : goal.returns-in-Err
returns-in-Err c =
    refused_here push row_at (suc (length c.args.text.now)) c.loop-turn._turn (plain_rows (λ v. v.items) c.loop-turn.rows.items) c.loop-turn.rest.now _ c.loop-turn.invariant
    c.in-Err.error (omega arith) c.in-Err.ensures

pub loop-turn-preserved : goal.loop-turn-preserved
loop-turn-preserved c =
    let n = suc (length c.args.text.now) in
    let i = c.loop-turn._turn in
    let after = c.in-Ok.read.1.now in
    let row = c.in-Some.row in
    let done = c.loop-turn.rows.items in
    ap (λ (rows : List Row). many push row_at (n - (i + 1)) rows after) (ap (plain_rows (λ v. v.items)) c.in_ok-push-in-Some.ensures.items ∙ map_push (plain_row (λ v. v.items)) done row)
    ∙ goes_on push row_at n i (plain_rows (λ v. v.items) done) c.loop-turn.rest.now _ c.loop-turn.invariant (plain_row (λ v. v.items) row) after (omega arith)
    (c.in-Ok.ensures ∙ ap (λ u. Ok (option_map (plain_row (λ v. v.items)) u, after)) c.in-Some.is)
