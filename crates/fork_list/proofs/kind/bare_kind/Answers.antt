use Rattle.std.proofs.Common.{◌≡◌, ℕ, List, subst, sym, arith}
use Rattle.fork_list.proofs.Reading.{Reading, empty_if, some_if, none_empty, none_stuck, none_long, none_exact, some_exact, reading_more, reading_stays}
use Rattle.fork_list.proofs.kind.bare_kind.Goals as goal
use Rattle.fork_list.proofs.kind.bare_kind.Goals.{then-not-is_empty+in-Some, else-not-is_empty}

pub returns-then-is_empty : goal.returns-then-is_empty
returns-then-is_empty c = none_exact _ (none_empty _ (empty_if _ _ c.is_empty.ensures c.if-is_empty.true))

pub loop-i-preserved : goal.loop-i-preserved
loop-i-preserved c =
    elim c.if-not-is_empty.branch [
      | then-not-is_empty+in-Some w ↦ rw (w.rest-is, w.kind-is) (reading_more c.args.text.now c.loop-i.rest.now _ c.loop-i.kind _ c.loop-i.i (some_if _ _ c.is_empty-in-loop-i.ensures w.if-not-is_empty.true) c.loop-i-test.true w.in-Some.ensures.shown c.loop-i.invariant)
      | else-not-is_empty w ↦ rw (w.rest-is, w.kind-is) (reading_stays c.args.text.now c.loop-i.rest.now c.loop-i.kind c.loop-i.i (empty_if _ _ c.is_empty-in-loop-i.ensures w.if-not-is_empty.false) c.loop-i.invariant)
    ]

pub returns-in_default : goal.returns-in_default
returns-in_default c =
    none_exact _ (none_stuck _ c.loop-i.rest.now c.loop-i.kind c.loop-i.i (some_if _ _ c.is_empty-in-loop-i.ensures c.if-not-is_empty.true) c.in_default.ensures.none c.loop-i.invariant)

pub returns-then-not-is_empty-2 : goal.returns-then-not-is_empty-2
returns-then-not-is_empty-2 c =
    let four : c.loop-i.i ≡ 4 = omega arith in
    none_exact _ (none_long _ c.loop-i.rest.now c.loop-i.kind (some_if _ _ c.is_empty-2.ensures c.if-not-is_empty-2.true) (subst (λ (n : ℕ). Reading c.args.text.now c.loop-i.rest.now c.loop-i.kind n) four c.loop-i.invariant))

pub returns : goal.returns
returns c =
    let four : c.loop-i.i ≡ 4 = omega arith in
    let all = subst (λ (n : ℕ). Reading c.args.text.now c.loop-i.rest.now c.loop-i.kind n) four c.loop-i.invariant in
    some_exact c.args.text.now c.loop-i.rest.now c.new.result (some_if _ _ c.is_empty.ensures c.if-is_empty.false) (empty_if _ _ c.is_empty-2.ensures c.if-not-is_empty-2.false)
    (subst (λ (k : List ℕ). Reading c.args.text.now c.loop-i.rest.now k 4) (sym c.new.ensures) all)
