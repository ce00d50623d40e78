use Rattle.std.proofs.Common.{refl}
use Rattle.type_source.proofs.parts.mark_of.Goals as goal

pub returns-in-Some : goal.returns-in-Some
returns-in-Some c = (c.in_ok-field.field, refl, c.in-Some.is, c.in_ok-field.ensures)
