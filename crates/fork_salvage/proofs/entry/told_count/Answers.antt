use Rattle.std.proofs.Common.{◌≡◌, ℕ, ◌+◌, ◌-◌, List, refl, ap, ◌∙◌, arith}
use Rattle.std.specs.Prelude.{sum_by}
use Rattle.std.proofs.lemmas.List.Sums.{sum_by-cons}
use Rattle.fork_bytes.specs.Fork.{places}
use Rattle.fork_bytes.proofs.Lists as lists
use Rattle.fork_salvage.specs.Salvage.{told_list}
use Rattle.fork_salvage.specs.declared.entry.ReferenceList.{ReferenceList}
use Rattle.fork_salvage.proofs.entry.told_count.Goals as goal

pub loop-i-init : goal.loop-i-init
loop-i-init c =
    let n = c.args.types.count in let whole : n - 0 ≡ n = omega arith in
    let all = ap (λ (k : ℕ). sum_by (λ i. (told_list c.args.map.now c.args.types i).count) (places k 0 1)) whole in (omega arith, omega arith)

pub loop-i-preserved : goal.loop-i-preserved
loop-i-preserved c =
    let n = c.args.types.count in let i = c.loop-i.i in
    let f : ℕ → ℕ = λ k. (told_list c.args.map.now c.args.types k).count in
    let rest = places (n - (i + 1)) (i + 1) 1 in
    let step = ap (λ (ks : List ℕ). sum_by f ks) (lists.places_step n i i (i + 1) 1 c.loop-i-test.true refl) ∙ sum_by-cons f i rest in
    let here = ap (λ (l : ReferenceList). l.count) c.told_list-count.ensures.list in
    let few = c.told_list-count.ensures.small.0 in let low = c.loop-i.invariant.0 in let all = c.loop-i.invariant.1 in (omega arith, omega arith)

pub returns : goal.returns
returns c =
    let n = c.args.types.count in let i = c.loop-i.i in
    let none = ap (λ (ks : List ℕ). sum_by (λ k. (told_list c.args.map.now c.args.types k).count) ks) (lists.places_end n i i 1 (omega (arith, c.loop-i-test.false))) in
    let low = c.loop-i.invariant.0 in let all = c.loop-i.invariant.1 in let few = c.requires.types.count in
    record { count = omega arith; small = omega arith }
