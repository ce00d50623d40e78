use Rattle.std.proofs.Common.{rules}
use Rattle.type_source.specs.Spelling.{SpellsCountOf}
use Rattle.type_source.proofs.parts.count_at.Goals as goal

pub returns-in-Some-size_of : goal.returns-in-Some-size_of
returns-in-Some-size_of c =
    let counts : SpellsCountOf c.in-Some.name.now c.in-Some.less_one c.args.start.now c.in-Some.rest.now = search rules in
    (c.args.form, c.args.start.now, rw c.in-Some-size_of.ensures c.requires, counts)
