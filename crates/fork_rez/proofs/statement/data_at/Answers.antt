use Rattle.std.proofs.Common.{◌∙◌, ◌++◌, ◌-◌, ◌+◌, List, ℕ, Ok, suc, length, ap, arith}
use Rattle.std.specs.Prelude.{option_map}
use Rattle.std.proofs.lemmas.Result.{err_from_is_err_and}
use Rattle.fork_rez.specs.Reading.{data_at, many, string_at}
use Rattle.fork_rez.proofs.Loops.{goes_on, refused_here}
use Rattle.fork_rez.proofs.statement.data_at.Goals as goal

abbrev add : List ℕ → List ℕ → List ℕ
add so_far one = so_far ++ one

pub returns-in_err-found : goal.returns-in_err-found
unfolding data_at
returns-in_err-found c =
    let p = err_from_is_err_and c.from_residual.result c.from_residual.ensures.1 in
    rw (p.1, p.2) (refused_here add string_at (suc (length c.args.text.now)) c.loop-turn._turn c.loop-turn.bytes.items c.loop-turn.rest.now _ c.loop-turn.invariant
    c.in_err-found.field-0.0 (omega arith) c.in_err-found.ensures)

pub loop-turn-preserved : goal.loop-turn-preserved
loop-turn-preserved c =
    let n = suc (length c.args.text.now) in
    let i = c.loop-turn._turn in
    let after = c.in_ok-found.after.now in
    let more = c.in-Some.more in
    ap (λ (bytes : List ℕ). many add string_at (n - (i + 1)) bytes after) (c.in_ok-extend_from_slice-in-Some.ensures.items ∙ ap (λ (t : List ℕ). c.loop-turn.bytes.items ++ t) c.as_slice.ensures.value)
    ∙ goes_on add string_at n i c.loop-turn.bytes.items c.loop-turn.rest.now _ c.loop-turn.invariant more.items after (omega arith)
    (c.in_ok-found.ensures ∙ ap (λ u. Ok (option_map (λ v. v.items) u, after)) c.in-Some.is)
