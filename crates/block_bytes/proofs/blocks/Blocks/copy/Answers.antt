use Rattle.std.proofs.Common.{◌≡◌, ◌+◌, ◌-◌, ◌∷◌, ◌++◌, take, drop, ap, sym, subst, ◌∙◌, arith}
use Rattle.mac_base.specs.HeadKind.{head_size}
use Rattle.raw_region.specs.Bytes.{part}
use Rattle.raw_region.specs.State.{State, with_bytes}
use Rattle.block_bytes.specs.Layout.{BlockAt, Layout, with_blocks}
use Rattle.std.specs.Prelude.{◌&&◌, Bool, is_some}
use Rattle.block_bytes.specs.Copying.{CanCopy, copied_over}
use Rattle.block_bytes.specs.Structure.{is_master}
use Rattle.block_bytes.proofs.Recorded.{IsReadWhole, some-named}
use Rattle.block_bytes.proofs.Copied.{can-slide, copied-read}
use Rattle.block_bytes.proofs.blocks.Blocks.copy.Goals as goal

pub overflow_add-source-2 : goal.overflow_add-source-2
overflow_add-source-2 c = let lies = can-slide c.self.inside c.self.invariant.layout c.args.self.now c.self.view_is c.args.from c.args.start c.args.to c.args.offset c.args.count c.requires in
    let e = ap head_size c.heads.ensures in let base_is = c.base-base.ensures.value in let small = c.base-base.ensures.possible.small_enough in let low = lies.source.low in let fits = lies.source.fits in omega arith

pub overflow_add-target-2 : goal.overflow_add-target-2
overflow_add-target-2 c = let lies = can-slide c.self.inside c.self.invariant.layout c.args.self.now c.self.view_is c.args.from c.args.start c.args.to c.args.offset c.args.count c.requires in
    let e = ap head_size c.heads.ensures in let base_is = c.base-base.ensures.value in let small = c.base-base.ensures.possible.small_enough in let low = lies.target.low in let fits = lies.target.fits in omega arith

pub slide-requires-clause-from_inside : goal.slide-requires-clause-from_inside
slide-requires-clause-from_inside c = let lies = can-slide c.self.inside c.self.invariant.layout c.args.self.now c.self.view_is c.args.from c.args.start c.args.to c.args.offset c.args.count c.requires in
    let e = ap head_size c.heads.ensures in let base_is = c.base-base.ensures.value in lies.source.inside _ (omega arith)

pub slide-requires-clause-to_inside : goal.slide-requires-clause-to_inside
slide-requires-clause-to_inside c = let lies = can-slide c.self.inside c.self.invariant.layout c.args.self.now c.self.view_is c.args.from c.args.start c.args.to c.args.offset c.args.count c.requires in
    let e = ap head_size c.heads.ensures in let base_is = c.base-base.ensures.value in lies.target.inside _ (omega arith)

pub slide-requires-clause-from_free : goal.slide-requires-clause-from_free
slide-requires-clause-from_free c = let lies = can-slide c.self.inside c.self.invariant.layout c.args.self.now c.self.view_is c.args.from c.args.start c.args.to c.args.offset c.args.count c.requires in
    let e = ap head_size c.heads.ensures in let base_is = c.base-base.ensures.value in lies.source.free _ (omega arith)

pub slide-requires-clause-to_free : goal.slide-requires-clause-to_free
slide-requires-clause-to_free c = let lies = can-slide c.self.inside c.self.invariant.layout c.args.self.now c.self.view_is c.args.from c.args.start c.args.to c.args.offset c.args.count c.requires in
    let e = ap head_size c.heads.ensures in let base_is = c.base-base.ensures.value in lies.target.free _ (omega arith)

-- what the fields stand for then
copied : (c : goal.After-slide) (can : CanCopy c.args.self.now c.args.from c.args.start c.args.to c.args.offset c.args.count)
    → IsReadWhole (record c.self.inside { memory = c.slide.new.self; kept = c.note_if.new.kept })
    (with_blocks (can.target.before ++ copied_over can.target.here c.args.offset (take c.args.count (drop c.args.start can.source.here.contents)) ∷ can.target.after) c.args.self.now)
copied c can = let z = c.self.inside in let from = c.args.from in let start = c.args.start in let to = c.args.to in let offset = c.args.offset in let n = c.args.count in
    let k = c.head_size-head_size.result in let base = c.base-base.result in let e = ap head_size c.heads.ensures in let base_is = c.base-base.ensures.value in
    subst (λ (m : State). IsReadWhole (record z { memory = m; kept = c.note_if.new.kept }) (with_blocks (can.target.before ++ copied_over can.target.here offset (take n (drop start can.source.here.contents)) ∷ can.target.after) c.args.self.now)) (sym c.slide.ensures)
    (subst (λ (l : Layout). (can : CanCopy l from start to offset n)
    → ((b : BlockAt l to) → c.has_own_contents-own.result ≡ (is_some l.memory.kept && is_master b.here.role))
    → IsReadWhole (record z { memory = with_bytes z.memory (to - base + k + offset) (part z.memory.bytes (from - base + k + start) n); kept = c.note_if.new.kept })
    (with_blocks (can.target.before ++ copied_over can.target.here offset (take n (drop start can.source.here.contents)) ∷ can.target.after) l)) c.self.view_is
    (λ can own. copied-read z c.self.invariant c.base-base.ensures.possible from start to offset n (from - base + k + start) (to - base + k + offset) can (omega arith) (omega arith) c.has_own_contents-own.result c.note_if.new.kept (own can.target ∙ ap (λ (t : Bool). t && is_master can.target.here.role) (some-named z.kept)) c.note_if.ensures) can c.has_own_contents-own.ensures)

pub invariant_of-self : goal.invariant_of-self
invariant_of-self c = (copied c c.requires).whole

pub returns : goal.returns
returns c = λ can. (copied c can).view
