use Rattle.std.proofs.Common.{Bool, ◌∙◌, ◌≡◌, ◌+◌, ◌-◌, ◌≤◌, ◌∷◌, ◌++◌, false, length, replicate, ap, sym, subst, arith}
use Rattle.mac_base.specs.HeadKind.{head_size}
use Rattle.raw_region.specs.State.{State, with_bytes}
use Rattle.block_bytes.specs.declared.header.Header.{Header}
use Rattle.block_bytes.specs.Layout.{Layout, BlockAt, CanClear, header_of, cleared_from, with_blocks}
use Rattle.std.specs.Prelude.{if◌then◌else◌}
use Rattle.block_bytes.specs.Record.{all_noted}
use Rattle.block_bytes.proofs.Recorded.{IsReadWhole}
use Rattle.block_bytes.proofs.Here.{IsHere-from, unlent-here}
use Rattle.block_bytes.proofs.WrittenBack.{cleared-part}
use Rattle.block_bytes.proofs.blocks.Blocks.clear_from.Goals as goal

pub overflow_add-start-2 : goal.overflow_add-start-2
overflow_add-start-2 c =
    let h = IsHere-from c.self.inside c.self.invariant.layout c.args.self.now c.self.view_is c.args.at c.entry_at-header.result c.requires.block (c.entry_at-header.ensures c.requires.block) in
    let e = ap head_size c.heads.ensures in
    let size = ap (λ (h : Header). h.size) (c.entry_at-header.ensures c.requires.block) in
    let within = c.requires.within in
    omega arith

pub clear-requires-clause-inside : goal.clear-requires-clause-inside
clear-requires-clause-inside c =
    let h = IsHere-from c.self.inside c.self.invariant.layout c.args.self.now c.self.view_is c.args.at c.entry_at-header.result c.requires.block (c.entry_at-header.ensures c.requires.block) in
    let e = ap head_size c.heads.ensures in
    let size = ap (λ (h : Header). h.size) (c.entry_at-header.ensures c.requires.block) in
    let slack = ap (λ (h : Header). h.correction) (c.entry_at-header.ensures c.requires.block) in
    let heads = ap (λ (l : Layout). head_size l.heads) c.self.view_is in
    let within = c.requires.within in
    omega arith

pub clear-requires-clause-free : goal.clear-requires-clause-free
clear-requires-clause-free c =
    let h = IsHere-from c.self.inside c.self.invariant.layout c.args.self.now c.self.view_is c.args.at c.entry_at-header.result c.requires.block (c.entry_at-header.ensures c.requires.block) in
    let e = ap head_size c.heads.ensures in
    let size = ap (λ (h : Header). h.size) (c.entry_at-header.ensures c.requires.block) in let slack = ap (λ (h : Header). h.correction) (c.entry_at-header.ensures c.requires.block) in
    let heads = ap (λ (l : Layout). head_size l.heads) c.self.view_is in let within = c.requires.within in
    unlent-here c.self.inside c.self.invariant.layout c.args.self.now c.self.view_is c.args.at c.entry_at-header.result c.requires.block (c.entry_at-header.ensures c.requires.block) c.requires.unlent
    (c.args.at - c.base.result + c.head_size-head_size.result + c.args.from) (c.entry_at-header.result.size - c.head_size-head_size.result - c.entry_at-header.result.correction - c.args.from) (omega arith) (omega arith)

-- what the fields stand for then
made_zero : (c : goal.After-clear) (can : CanClear c.args.self.now c.args.at c.args.from)
    → IsReadWhole (record c.self.inside { memory = c.clear.new.self; kept = c.note_if.new.kept }) (with_blocks (can.block.before ++ cleared_from can.block.here c.args.from ∷ can.block.after) c.args.self.now)
made_zero c can = let z = c.self.inside in let at = c.args.at in let h = c.entry_at-header.result in let k = c.head_size-head_size.result in let from = c.args.from in
    let e = ap head_size c.heads.ensures in
    subst (λ (m : State). IsReadWhole (record z { memory = m; kept = c.note_if.new.kept }) (with_blocks (can.block.before ++ cleared_from can.block.here from ∷ can.block.after) c.args.self.now)) (sym c.clear.ensures)
    (subst (λ (l : Layout). (b : BlockAt l at) → from ≤ length b.here.contents → h ≡ header_of l.heads b.here → b.here.lent ≡ false
    → IsReadWhole (record z { memory = with_bytes z.memory (at - c.base.result + k + from) (replicate (h.size - k - h.correction - from) 0); kept = c.note_if.new.kept }) (with_blocks (b.before ++ cleared_from b.here from ∷ b.after) l)) c.self.view_is
    (λ b within is unlent. let size = ap (λ (h : Header). h.size) is in let slack = ap (λ (h : Header). h.correction) is in
    cleared-part z c.self.invariant c.base.ensures.possible at h (at - c.base.result + k) (h.size - k - h.correction) b is unlent (omega arith) (omega arith) c.note_if.new.kept (c.note_if.ensures ∙ ap (λ (t : Bool). if t then all_noted z.kept else z.kept) c.is_master.ensures) from (omega arith)) can.block can.within (c.entry_at-header.ensures can.block) can.unlent)

pub invariant_of-self : goal.invariant_of-self
invariant_of-self c = (made_zero c c.requires).whole

pub returns : goal.returns
returns c = λ can. (made_zero c can).view
