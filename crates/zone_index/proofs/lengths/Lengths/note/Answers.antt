use Rattle.std.proofs.Common.{Some, refl, arith}
use Rattle.std.proofs.lemmas.Option.{slice_get_within}
use Rattle.zone_index.proofs.Noted.{noted-in, noted-out, some_only}
use Rattle.zone_index.proofs.lengths.Lengths.note.Goals as goal

pub returns-in_default : goal.returns-in_default
returns-in_default c = noted-out c.args.self.now c.args.block c.args.length (λ n t. c.in_default.ensures.none t.place t.here)

pub returns-then-place-len : goal.returns-then-place-len
returns-then-place-len c = noted-in c.args.self.now _ c.args.block c.args.length c.in-Some.place c.new.result c.in-Some.ensures.some refl refl (some_only _ c.new.result c.args.length c.new.ensures)

pub returns-else-place-len : goal.returns-else-place-len
returns-else-place-len c = noted-out c.args.self.now c.args.block c.args.length (λ n t.
    let within = slice_get_within c.args.self.now.places.items t.place (Some n) t.told in
    let here = t.here in let there = c.in-Some.ensures.some in omega arith)
