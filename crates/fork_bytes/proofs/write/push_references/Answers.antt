use Rattle.std.proofs.Common.{◌++◌, ◌∷◌, drop, ℕ, ◌+◌, List, subst, refl, sym, ap, ◌∙◌, arith}
use Rattle.std.proofs.lemmas.List.{drop_all}
use Rattle.std.specs.Int.{w16, cast_unsigned}
use Rattle.byteorder.specs.Endian.{big_bytes}
use Rattle.mac_base.specs.declared.resource.Resource.{Resource}
use Rattle.fork_bytes.specs.Written.{reference_text, references_text, plain_row, plain_rows, NamesFit}
use Rattle.fork_bytes.proofs.Steps.{appended, all_added}
use Rattle.fork_bytes.proofs.Entries.{names_from}
use Rattle.fork_bytes.proofs.Plain.{plain_long, reference_step}
use Rattle.fork_bytes.proofs.write.push_references.Goals as goal

pub loop-row-init : goal.loop-row-init
loop-row-init g c = let small = c.requires.small in (refl, c.requires.names, omega arith)

pub name_offset-requires : goal.name_offset-requires
name_offset-requires g c = (names_from c.args.rows.now c.loop-row.row-index c.loop-row.name c.row-item.result c.loop-row-test.true c.row-item.is c.loop-row.invariant.1).0

pub overflow_cast-datum : goal.overflow_cast-datum
overflow_cast-datum g c =
    let step = plain_long g.D.Datum.text c.args.rows.now c.loop-row.row-index c.row-item.result c.loop-row-test.true c.row-item.is in
    let long = c.count.ensures in let few = c.loop-row.invariant.2 in omega arith

pub overflow_add-datum : goal.overflow_add-datum
overflow_add-datum g c =
    let step = plain_long g.D.Datum.text c.args.rows.now c.loop-row.row-index c.row-item.result c.loop-row-test.true c.row-item.is in
    let long = c.count.ensures in let few = c.loop-row.invariant.2 in omega arith

pub overflow_add-datum-in-loop-row : goal.overflow_add-datum-in-loop-row
overflow_add-datum-in-loop-row g c =
    let step = plain_long g.D.Datum.text c.args.rows.now c.loop-row.row-index c.row-item.result c.loop-row-test.true c.row-item.is in
    let long = c.count.ensures in let few = c.loop-row.invariant.2 in omega arith

pub loop-row-preserved : goal.loop-row-preserved
loop-row-preserved g c =
    let rows = c.args.rows.now in let i = c.loop-row.row-index in let row = c.row-item.result in let old = c.loop-row.fork.items in
    let within = c.loop-row-test.true in let is = c.row-item.is in
    let step = plain_long g.D.Datum.text rows i row within is in
    let long = c.count.ensures in let few = c.loop-row.invariant.2 in
    let after = c.name_length-name.ensures.length in
    let name = c.loop-row.name + c.name_length-name.result in
    let place = c.loop-row.datum + (4 + c.count.result) in
    let next = reference_step g.D.Datum.text rows i c.loop-row.name c.loop-row.datum name place row within is (ap (λ (n : ℕ). c.loop-row.name + n) after) (ap (λ (n : ℕ). c.loop-row.datum + (4 + n)) long) in
    let P : ℕ → Type 0 = λ n. NamesFit n (drop (i + 1) rows) in (
      appended _ old (reference_text c.loop-row.name c.loop-row.datum (plain_row g.D.Datum.text row)) (references_text name place (plain_rows g.D.Datum.text (drop (i + 1) rows))) _
          (c.in_ok-push_reference.ensures ∙ ap (λ (n : ℕ). old ++ (big_bytes 2 (cast_unsigned w16 row.id) ++ (big_bytes 2 n ++ (row.attributes.0 ∷ (big_bytes 3 c.loop-row.datum ++ big_bytes 4 0))))) c.name_offset.ensures)
          (ap (λ (xs : List ℕ). old ++ xs) (sym next) ∙ c.loop-row.invariant.0),
      subst P (sym (ap (λ (n : ℕ). c.loop-row.name + n) after)) (names_from rows i c.loop-row.name row within is c.loop-row.invariant.1).1,
      omega arith,
    )

pub returns : goal.returns
returns g c =
    all_added _ (references_text c.loop-row.name c.loop-row.datum (plain_rows g.D.Datum.text (drop c.loop-row.row-index c.args.rows.now))) _
    (ap (λ (rest : List (Resource _)). references_text c.loop-row.name c.loop-row.datum (plain_rows g.D.Datum.text rest)) (drop_all c.loop-row.row-index c.args.rows.now (omega (arith, c.loop-row-test.false)))) c.loop-row.invariant.0
