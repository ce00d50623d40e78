use Rattle.std.proofs.Common.{inr, rules}
use Rattle.type_source.specs.Spelling.{StartsName}
use Rattle.type_source.proofs.parts.after_any.Goals as goal

pub returns : goal.returns
returns c =
    let named : StartsName c.in-Some.field-0-0.now c.args.start.now c.in-Some.rest.now = search rules in
    inr (c.args.start.now, c.in-Some.field-0-0.now, c.requires, named)
