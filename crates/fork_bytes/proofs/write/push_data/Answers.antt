use Rattle.std.proofs.Common.{◌≡◌, ◌++◌, drop, ℕ, ◌+◌, List, refl, sym, ap, ◌∙◌, arith}
use Rattle.std.proofs.lemmas.List.{drop_all, append_assoc}
use Rattle.byteorder.specs.Endian.{big_bytes}
use Rattle.mac_base.specs.declared.resource.Resource.{Resource}
use Rattle.fork_bytes.specs.Written.{datum, data_text, plain_row, plain_rows}
use Rattle.fork_bytes.proofs.Steps.{appended, all_added}
use Rattle.fork_bytes.proofs.Plain.{plain_step, plain_long}
use Rattle.fork_bytes.proofs.write.push_data.Goals as goal

pub loop-row-init : goal.loop-row-init
loop-row-init g c = (refl, omega arith)

pub overflow_cast-count : goal.overflow_cast-count
overflow_cast-count g c =
    let step = plain_long g.D.Datum.text c.args.rows.now c.loop-row.row-index c.row-item.result c.loop-row-test.true c.row-item.is in
    let long = c.count.ensures in let few = c.requires in let rest = c.loop-row.invariant.1 in omega arith

pub loop-row-preserved : goal.loop-row-preserved
loop-row-preserved g c =
    let text = g.D.Datum.text in
    let rows = c.args.rows.now in let i = c.loop-row.row-index in let row = c.row-item.result in let old = c.loop-row.fork.items in
    let step = plain_long text rows i row c.loop-row-test.true c.row-item.is in
    let rest = c.loop-row.invariant.1 in
    let is : c.append.new.fork.items ≡ old ++ datum (plain_row text row) =
    c.in_ok-append.ensures
    ∙ ap (λ (xs : List ℕ). xs ++ text row.datum) c.in_ok-push_four.ensures
    ∙ append_assoc old (big_bytes 4 c.count.result) (text row.datum)
    ∙ ap (λ (n : ℕ). old ++ (big_bytes 4 n ++ text row.datum)) c.count.ensures in (
      appended _ old (datum (plain_row text row)) (data_text (plain_rows text (drop (i + 1) rows))) _ is
          (ap (λ (xs : List ℕ). old ++ xs) (sym (plain_step text rows i row c.loop-row-test.true c.row-item.is)) ∙ c.loop-row.invariant.0),
      omega arith,
    )

pub returns : goal.returns
returns g c =
    let text = g.D.Datum.text in
    all_added _ (data_text (plain_rows text (drop c.loop-row.row-index c.args.rows.now))) _
    (ap (λ (rest : List (Resource _)). data_text (plain_rows text rest)) (drop_all c.loop-row.row-index c.args.rows.now (omega (arith, c.loop-row-test.false)))) c.loop-row.invariant.0
