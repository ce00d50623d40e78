use Rattle.std.proofs.Common.{◌∷◌, append_assoc, refl}
use Rattle.type_source.proofs.Listed.{name_before}
use Rattle.type_source.proofs.number.+push_names.Goals as goal

pub returns : goal.returns
returns t c =
    let named = rw c.in-Some.ensures at c.in_ok-named.ensures in (
      c.in_ok-named.named ∷ c.in_ok-rest.ensures.0,
      rw (c.in_ok-rest.ensures.1, c.in_ok-push.ensures.items, append_assoc) refl,
      name_before c.args.width c.args.next c.in_ok-named.named c.in_ok-rest.ensures.0 c.args.tokens.now c.in-Some.more.now c.in_ok-rest.rest.now named c.in_ok-rest.ensures.2,
    )
