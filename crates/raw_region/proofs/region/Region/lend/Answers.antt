use Rattle.std.proofs.Common.{◌∷◌, ap, ◌∙◌, arith}
use Rattle.raw_region.specs.Bytes.{part}
use Rattle.raw_region.specs.State.{State}
use Rattle.raw_region.proofs.Maps.{lent_map, loan_map}
use Rattle.raw_region.proofs.region.Region.lend.Goals as goal

pub returns-clause-left : goal.returns-clause-left
returns-clause-left c =
    let old = c.args.self.now in let cells = c.take_out.new.self in
    lent_map old (record { name = cells.home; bytes = cells.bytes; lent = cells.lent }) c.args.at c.args.n
    (c.take_out.ensures.kept.0 ∙ ap (λ (s : State). s.bytes) c.self.view_is) (c.take_out.ensures.lent ∙ ap (λ (s : State). (c.args.at, c.args.n) ∷ s.lent) c.self.view_is)

pub returns-clause-moved : goal.returns-clause-moved
returns-clause-moved c =
    let old = c.args.self.now in let cells = c.take_out.result in
    loan_map old (record { name = cells.home; at = cells.from; bytes = cells.bytes }) c.args.at c.args.n c.requires.inside c.requires.free
    (c.take_out.ensures.part.3 ∙ omega (arith, c.self.invariant.0)) (c.take_out.ensures.part.0 ∙ ap (λ (s : State). part s.bytes c.args.at c.args.n) c.self.view_is)
