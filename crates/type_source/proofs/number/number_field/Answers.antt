use Rattle.type_source.proofs.number.number_field.Goals as goal

pub returns : goal.returns
returns c = (
  c.in_ok-width.rest.now,
  rw (c.in_ok-field.ensures.sort.0, c.in_ok-field.ensures.sort.1) c.in_ok-width.ensures.sort,
  rw c.in_ok-field.ensures.sort.0 c.in_ok-field.ensures.value,
)
