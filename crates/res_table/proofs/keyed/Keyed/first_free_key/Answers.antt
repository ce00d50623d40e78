use Rattle.std.proofs.Common.{rules, arith, refl, ℕ, ◌+◌, ◌<◌, get_or, drop, sym, subst}
use Rattle.res_table.specs.Keyed.{rank, AreInOrder}
use Rattle.res_table.proofs.Pairs.{order_dropped}
use Rattle.res_table.proofs.FreeKeys.{AreTaken, part_few, taken_first, taken_same, taken_more, free_before, free_last}
use Rattle.res_table.specs.declared.keyed.Pair.{Pair}
use Rattle.res_table.proofs.keyed.Keyed.first_free_key.Goals.{then-pair-free-2, else-pair-free-2}
use Rattle.res_table.proofs.keyed.Keyed.first_free_key.Goals as goal

pub loop-pair-init : goal.loop-pair-init
loop-pair-init c =
    let ps = c.args.self.now.pairs in let start = rank (record { key = c.args.key; place = 0 }) ps in let is = c.from_key-pair-items.ensures in
    let taken = taken_first c.args.key start ps _ refl is in
    (subst AreInOrder (sym is) (order_dropped ps start c.requires.order), part_few start ps _ is, omega arith, omega arith, taken)

pub returns-then-pair-free-clause-free : goal.returns-then-pair-free-clause-free
returns-then-pair-free-clause-free c =
    let kept = c.loop-pair.invariant in
    free_before c.args.key c.loop-pair.free c.loop-pair.pair-index _ c.args.self.now.pairs _ c.loop-pair-test.true kept.0 c.if-pair-free.true kept.4

pub overflow_add-free : goal.overflow_add-free
overflow_add-free c =
    let kept = c.loop-pair.invariant in let inside = c.loop-pair-test.true in let room = c.requires.room in
    let most = kept.1 in let few = kept.3 in
    let fits : c.loop-pair.free + 1 < 18446744073709551616 = omega arith in search (rules, fits)

pub loop-pair-preserved : goal.loop-pair-preserved
loop-pair-preserved c =
    let kept = c.loop-pair.invariant in let inside = c.loop-pair-test.true in let ps = c.args.self.now.pairs in
    let rest = c.from_key-pair-items.result.now in let d : Pair = record { key = 0; place = 0 } in
    let key = c.args.key in let i = c.loop-pair.pair-index in let free = c.loop-pair.free in let least = kept.2 in let few = kept.3 in
    elim c.if-pair-free-2.branch [
      | then-pair-free-2 w ↦
          let now = w.free-is in
          (kept.0, kept.1, omega arith, omega arith, subst (λ (n : ℕ). AreTaken key n ps (drop (i + 1) rest)) (sym now) (taken_more key free i d ps rest inside w.if-pair-free-2.true kept.4))
      | else-pair-free-2 w ↦
          let other = w.if-pair-free-2.false in let up = c.if-pair-free.false in let now = w.free-is in
          let less : (get_or rest i d).key < free = omega arith in
          (kept.0, kept.1, omega arith, omega arith, subst (λ (n : ℕ). AreTaken key n ps (drop (i + 1) rest)) (sym now) (taken_same key free i d ps rest inside less kept.4))
    ]

pub returns-clause-free : goal.returns-clause-free
returns-clause-free c = free_last c.args.key c.loop-pair.free c.loop-pair.pair-index c.args.self.now.pairs _ c.loop-pair-test.false c.loop-pair.invariant.4
