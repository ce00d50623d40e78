use Rattle.std.proofs.Common.{◌∙◌, ap, sym, List}
use Rattle.held_calls.specs.Holding.{held_at, held_written}
use Rattle.held_calls.specs.declared.loans.Held.{Held}
use Rattle.held_calls.specs.declared.loans.Loans.TheInside.{Inside}
use Rattle.held_calls.proofs.Places.{bytes_at, held_written-none, written_at, stands_some}
use Rattle.held_calls.proofs.loans.Loans.write.Goals as goal
use Rattle.held_calls.proofs.loans.Loans.write.Goals.{in-Some-places, in_default-places}

pub returns-in_default : goal.returns-in_default
returns-in_default c = sym (held_written-none c.args.block c.args.at c.args.bytes.now c.args.self.now (rw (← c.self.view_is) c.in_default.ensures.none))

pub write_over-requires : goal.write_over-requires
write_over-requires c =
    let same = bytes_at c.args.block c.self.inside.places c.in-Some.place _ c.in-Some-places.held c.in-Some.ensures.stands c.index-self-place.is (c.index-self-place.is ∙ c.in-Some-places.is) in
    record { within = rw (same, c.self.view_is) c.requires.within }

pub returns : goal.returns
returns c =
    elim c.match-self-place.branch [
      | in-Some-places w ↦
          ap (λ (i : Inside). held_at i.places) w.self-inside-is
          ∙ written_at c.args.block c.self.inside.places c.in-Some.place _ w.in-Some-places.held w.write_over.new.loan c.args.at c.args.bytes.now c.in-Some.ensures.stands c.index-self-place.is (c.index-self-place.is ∙ w.in-Some-places.is) w.write_over.ensures
          ∙ ap (λ (hs : List Held). held_written c.args.block c.args.at c.args.bytes.now hs) c.self.view_is
      | in_default-places w ↦ absurd (stands_some c.args.block c.self.inside.places c.in-Some.place _ c.in-Some.ensures.stands c.index-self-place.is (c.index-self-place.is ∙ w.in_default-places.is))
    ]
