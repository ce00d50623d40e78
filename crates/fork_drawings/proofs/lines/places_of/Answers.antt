use Rattle.std.proofs.Common.{◌∙◌, ap, sym, subst, ℕ, ◌<◌, List, arith}
use Rattle.std.specs.List.{All}
use Rattle.std.proofs.lemmas.List.Elements.{All-push}
use Rattle.std.specs.Fn.{iterate}
use Rattle.fork_drawings.specs.Lines.{next_place}
use Rattle.fork_drawings.proofs.Steps.{iterate_more, one_more}
use Rattle.fork_drawings.proofs.lines.places_of.Goals as goal

pub loop-row-preserved : goal.loop-row-preserved
loop-row-preserved c =
    let next : ℕ → ℕ = next_place c.args.bits.now c.args.bytes.now in
    let start = c.args.bits.now.start in
    let row = c.loop-row._row in
    record {
      places =
          one_more (λ (row : ℕ). iterate next row start) row c.loop-row.places.items c.push.new.self.items c.loop-row.at c.loop-row.invariant.places
          c.in_ok-push.ensures.items c.loop-row.invariant.next;
      next = c.next_place-at.ensures.is ∙ ap next c.loop-row.invariant.next ∙ sym (iterate_more next row start);
      below =
          subst (λ (xs : List ℕ). All (λ place. place < 1099511627776) xs) (sym c.in_ok-push.ensures.items)
          (All-push (λ place. place < 1099511627776) c.loop-row.places.items c.loop-row.at c.loop-row.invariant.below (omega arith));
      low = omega (arith, c.next_place-at.ensures.low);
    }
