use Rattle.std.proofs.Common.{◌≡◌, ◌+◌, ℤ, length, true, subst, sym, ◌∙◌, arith}
use Rattle.std.specs.Int.{w16}
use Rattle.std.proofs.lemmas.Int.{to_z_pos}
use Rattle.fork_change.specs.Rows.{is_there}
use Rattle.fork_change.proofs.Free.{least_step}
use Rattle.fork_change.proofs.copying.free_id.Goals as goal

pub loop-n-preserved : goal.loop-n-preserved
loop-n-preserved c =
    let rows = c.args.rows.now in let kind = c.args.kind in let n = c.loop-n.n in
    let P : ℤ → Type 0 = λ id. is_there (record { kind = kind; id = id }) rows ≡ true in
    c.loop-n.invariant
    ∙ least_step kind rows (length rows + 1) n (omega (arith, c.loop-n-test.true)) (omega (arith, c.if-n-gt-MOST_OWN_IDS.false))
    (subst P (to_z_pos w16 (128 + n) (omega (arith, c.if-n-gt-MOST_OWN_IDS.false))) (sym (c.requires _) ∙ sym c.has_id.ensures ∙ c.if-not-has_id.false))
