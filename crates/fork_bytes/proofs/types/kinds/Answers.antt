use Rattle.std.proofs.Common.{◌+◌, ◌*◌, ◌-◌, ◌++◌, ◌∷◌, [], ℕ, List, map, ap, ◌∙◌, arith}
use Rattle.fork_bytes.specs.Fork.{TypeEntry, entry_at}
use Rattle.fork_bytes.proofs.Lists.{entries_rest, entries_start, entries_step, entries_end, made_step, made_end}
use Rattle.fork_bytes.proofs.types.kinds.Goals as goal

pub loop-i-init : goal.loop-i-init
loop-i-init c =
    let m = c.args.map.now in let f = λ (e : TypeEntry). e.kind in
    let none = ap (λ (xs : List (List ℕ)). xs ++ map f (entries_rest m (c.args.list.count - 0) (c.args.list.offset + 2 + 0))) c.new-kinds.ensures.items in
    none ∙ ap (map f) (entries_start m c.args.list c.requires)

pub loop-i-preserved : goal.loop-i-preserved
loop-i-preserved c =
    let m = c.args.map.now in let n = c.args.list.count in let at = c.args.list.offset + 2 in let i = c.loop-i.i in
    let entry = entry_at m (at + 8 * i) in let f = λ (e : TypeEntry). e.kind in
    let added = c.in_ok-push.ensures.items ∙ ap (λ (k : List ℕ). c.loop-i.kinds.items ++ k ∷ []) c.four_at.ensures in
    made_step f c.loop-i.kinds.items _ _ _ (entry ∷ []) (entries_rest m (n - (i + 1)) (at + 8 * (i + 1))) c.loop-i.invariant (entries_step m n i at c.loop-i-test.true) added

pub returns : goal.returns
returns c =
    let m = c.args.map.now in let n = c.args.list.count in let i = c.loop-i.i in let f = λ (e : TypeEntry). e.kind in
    made_end f _ _ _ c.loop-i.invariant (entries_end m n i (c.args.list.offset + 2 + 8 * i) (omega (arith, c.loop-i-test.false)))
