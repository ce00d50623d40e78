use Rattle.type_source.proofs.parts.joined.Goals as goal

pub returns : goal.returns
returns c = λ before mid after field others. (others.0, (mid, rw c.in_ok-first.ensures.ok field, rw c.in_ok-second.ensures.ok others.1), others.2)
