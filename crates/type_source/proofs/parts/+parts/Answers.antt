use Rattle.std.proofs.Common.{inr, rules, ◌≡◌, ◌+◌}
use Rattle.type_source.specs.Spelling.{Bracketed, StartsNamed}
use Rattle.type_source.proofs.Boxed.{bounded_array, counted_array, keyed_next}
use Rattle.type_source.proofs.parts.+parts.Goals as goal

pub array_at-returns-in-Some : goal.array_at-returns-in-Some
array_at-returns-in-Some t c =
    let bracket : Bracketed c.in-Some.count c.args.start.now c.in-Some.mid.now = search rules in
    inr (bounded_array c.in-Some.count c.in_ok-body.body c.in_ok-body-2.body.value c.args.tokens.now c.args.start.now c.in-Some.mid.now c.in_ok-body.rest.now c.in_ok-body-2.ensures.ok c.requires bracket c.in_ok-body.ensures)

pub counted-returns : goal.counted-returns
counted-returns t c =
    let named : StartsNamed c.args.name.now c.in_ok-between.mid.now c.in-Some.inner.now = search rules in
    counted_array c.args.count c.args.name.now c.in_ok-between.between c.in_ok-between-2.between.value c.in_ok-body.body c.in_ok-body-2.body.value c.args.tokens.now c.args.start.now c.in_ok-between.mid.now c.in-Some.inner.now c.in_ok-body.rest.now
    c.in_ok-between-2.ensures.ok c.in_ok-body-2.ensures.ok c.requires c.in_ok-between.ensures named c.in_ok-body.ensures

pub fields-returns-in_ok-all-in-Field : goal.fields-returns-in_ok-all-in-Field
fields-returns-in_ok-all-in-Field t c =
    c.in_ok-all-in-Field.ensures c.args.tokens.now c.in_ok-piece.rest.now c.in_ok-others-in-Field.end.now (rw c.in-Field.is at c.in_ok-piece.ensures) c.in_ok-others-in-Field.ensures

pub keyed-returns-clause-fields : goal.keyed-returns-clause-fields
keyed-returns-clause-fields t c =
    let sum : c.in-Some-checked_add.next ≡ c.args.at + c.in_ok-field.bits = search rules in (
      c.in_ok-field.rest.now,
      inr (
        c.in_ok-field.bits,
        rw c.in_ok-first-2.ensures.ok c.in_ok-field.ensures.bits,
        rw c.in_ok-first-2.ensures.ok c.in_ok-field.ensures.field,
        keyed_next c.in_ok-key-2.key c.in-Some-checked_add.next (c.args.at + c.in_ok-field.bits) c.in_ok-key-2.others c.in_ok-second-2.second.value c.in_ok-field.rest.now c.in_ok-key-2.rest.now c.in_ok-second-2.ensures.ok sum c.in_ok-key-2.ensures.fields,
      ),
    )

pub number_piece-returns : goal.number_piece-returns
number_piece-returns t c = (
  c.in_ok-width.start.now,
  rw (c.in_ok-field.ensures.sort.0, c.in_ok-field.ensures.sort.1) c.in_ok-width.ensures.sort,
  rw c.in_ok-field.ensures.sort.0 c.in_ok-field.ensures.value,
)
