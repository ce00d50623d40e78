use Rattle.std.proofs.Common.{false, length, ap, arith}
use Rattle.std.proofs.lemmas.List.{length-set}
use Rattle.sum_tree.proofs.Same.{same-more, same-all}
use Rattle.sum_tree.proofs.Measured.{inside-last, last-of, unlisted, right-measured, mixed-measured, mixture-of}
use Rattle.sum_tree.proofs.runs.measure_group.Goals as goal

pub loop-place-init : goal.loop-place-init
loop-place-init g c =
    let m = g.M.Monoid in
    let value = g.S.Source.value c.args.source.now in
    let last = c.in_ok-last.last in
    let row = c.args.row.now in
    let listed = c.args.listed.now in
    let is = last-of c.args.pending.now.items c.pop.new.self.items last c.in_ok-last.ensures.items in
    rw (c.measure_at.ensures.row, c.measure_at.ensures.listed) (record {
      count = let a = length-set listed last false in let b = length-set row last (value last) in let e = c.requires.count in omega arith;
      others = same-more m.laws row row _ _ last (value last) (omega arith) (omega arith) (same-all m.laws row _ _);
      mixed = mixed-measured m.empty value row row last (mixture-of m.empty value row);
      listed = unlisted listed c.args.pending.now.items c.pop.new.self.items last is c.requires.listed;
      right = right-measured m.empty value row listed last c.requires.right;
      shorter = let e = is.count in omega arith;
    })

pub measure_at-requires-in-Some-clause-inside : goal.measure_at-requires-in-Some-clause-inside
measure_at-requires-in-Some-clause-inside g c =
    let inside = inside-last c.loop-place.listed c.loop-place.pending.items c.pop_of.new.pending.items c.in-Some.place (c.in-Some.ensures.some.0) c.loop-place.invariant.listed in
    let count = c.loop-place.invariant.count in
    omega arith

pub loop-place-preserved : goal.loop-place-preserved
loop-place-preserved g c =
    let m = g.M.Monoid in
    let value = g.S.Source.value c.args.source.now in
    let place = c.in-Some.place in
    let row = c.loop-place.row in
    let listed = c.loop-place.listed in
    let before = c.loop-place.invariant in
    let popped = c.in-Some.ensures.some in
    let group = popped.1 in
    rw (c.measure_at-in-Some.ensures.row, c.measure_at-in-Some.ensures.listed) (record {
      count = let a = length-set listed place false in let b = length-set row place (value place) in let e = before.count in omega arith;
      others = same-more m.laws c.args.row.now row _ _ place (value place) (omega arith) (omega arith) before.others;
      mixed = mixed-measured m.empty value c.args.row.now row place before.mixed;
      listed = unlisted listed c.loop-place.pending.items c.pop_of.new.pending.items place popped.0 before.listed;
      right = right-measured m.empty value row listed place before.right;
      shorter = let e = popped.0.count in let f = before.shorter in omega arith;
    })

pub returns-clause-some : goal.returns-clause-some
returns-clause-some g c =
    let is = last-of c.args.pending.now.items c.pop.new.self.items c.in_ok-last.last c.in_ok-last.ensures.items in
    let inside = inside-last c.args.listed.now c.args.pending.now.items c.pop.new.self.items c.in_ok-last.last is c.requires.listed in
    let count = c.requires.count in
    let shorter = c.loop-place.invariant.shorter in
    let same = ap length c.in_default.ensures.none in
    (omega arith, omega arith)
