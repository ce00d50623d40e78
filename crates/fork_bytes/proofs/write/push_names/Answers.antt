use Rattle.std.proofs.Common.{◌++◌, drop, ℕ, ◌+◌, List, sym, ap, ◌∙◌, arith}
use Rattle.std.proofs.lemmas.List.{drop_all}
use Rattle.mac_base.specs.declared.resource.Resource.{Resource}
use Rattle.fork_bytes.specs.Written.{name_text, names_text}
use Rattle.fork_bytes.proofs.Steps.{flat_step, appended, all_added}
use Rattle.fork_bytes.proofs.write.push_names.Goals as goal

pub loop-row-preserved : goal.loop-row-preserved
loop-row-preserved g c =
    let rows = c.args.rows.now in let i = c.loop-row.row-index in let row = c.row-item.result in let old = c.loop-row.fork.items in
    appended _ old (name_text row.name) (names_text (drop (i + 1) rows)) _ c.in_ok-push_name.ensures
    (ap (λ (xs : List ℕ). old ++ xs) (sym (flat_step (λ (r : Resource _). name_text r.name) rows i row c.loop-row-test.true c.row-item.is)) ∙ c.loop-row.invariant)

pub returns : goal.returns
returns g c =
    all_added _ (names_text (drop c.loop-row.row-index c.args.rows.now)) _
    (ap names_text (drop_all c.loop-row.row-index c.args.rows.now (omega (arith, c.loop-row-test.false)))) c.loop-row.invariant
