use Rattle.std.proofs.Common.{◌∙◌, List, ap, sym, subst}
use Rattle.sum_tree.specs.declared.span.Span.{Span}
use Rattle.sum_tree.specs.Span.{SpanFits, joined, most_in, no_span}
use Rattle.sum_tree.specs.Monoids.{total}
use Rattle.zone_index.proofs.Freshened.{fresh-fits}
use Rattle.zone_index.proofs.Known.{limit-known, within-known}
use Rattle.zone_index.proofs.Reached.{all_most}
use Rattle.zone_index.proofs.rooms.most_room.Goals as goal

pub total-requires : goal.total-requires
total-requires c =
    subst (λ (xs : List Span). SpanFits (total no_span joined xs)) (sym c.sums.ensures)
    (fresh-fits c.args.zone.now c.args.rooms.now c.requires (limit-known c.args.zone.now c.spec-spec.result c.spec-spec.ensures.sizes c.limit-limit.ensures.possible))

pub returns : goal.returns
returns c =
    c.most.ensures ∙ ap most_in c.total.ensures ∙ ap (λ (xs : List Span). most_in (total no_span joined xs)) c.sums.ensures
    ∙ all_most c.args.zone.now c.args.rooms.now c.requires (within-known c.args.zone.now c.spec-spec.result c.spec-spec.ensures.sizes c.limit-limit.ensures.possible)
