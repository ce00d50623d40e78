use Rattle.std.proofs.Common.{◌∷◌, append_assoc, refl}
use Rattle.type_source.proofs.types.+push_types.Goals as goal

pub returns : goal.returns
returns t c = (
  c.in_ok-declared.declared ∷ c.in_ok-push_types.ensures.0,
  rw (c.in_ok-push_types.ensures.1, c.in_ok-push.ensures.items, append_assoc) refl,
  (c.in_ok-declared.rest.now, c.in_ok-declared.ensures, c.in_ok-push_types.ensures.2),
)
