use Rattle.std.proofs.Common.{◌≡◌, ◌+◌, ℕ, ◌∙◌, ap, length, refl, set, take, arith}
use Rattle.std.proofs.lemmas.List.{take_more_set}
use Rattle.raw_region.proofs.Noted.{adds-grown, adds-run}
use Rattle.raw_region.proofs.runs.Runs.add.Goals as goal

pub returns-then-at-self : goal.returns-then-at-self
returns-then-at-self c = let old = c.args.self.now in let long : length old.runs ≡ 16 = omega arith in let few = c.place_for-at.ensures.few in let there = c.if-at-self.true in
    adds-grown old _ c.place_for-at.result c.args.run c.joined.result (record { start = 0; end = 0 }) (omega arith) (omega arith) refl refl c.joined.ensures.start c.joined.ensures.end c.joined.ensures.least

pub returns-else-at-self : goal.returns-else-at-self
returns-else-at-self c = let old = c.args.self.now in let long : length old.runs ≡ 16 = omega arith in let few = c.place_for-at.ensures.few in let there = c.place_for-at.ensures.there in let last = c.if-at-self.false in
    let is : c.place_for-at.result ≡ old.len = omega arith in
    adds-run old _ c.args.run (ap (λ (k : ℕ). take (old.len + 1) (set old.runs k c.args.run)) is ∙ take_more_set old.runs old.len c.args.run (omega arith))
