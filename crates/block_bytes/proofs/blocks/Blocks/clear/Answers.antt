use Rattle.std.proofs.Common.{Bool, ◌≡◌, ◌+◌, ◌-◌, ◌∷◌, ◌++◌, false, replicate, ap, sym, ◌∙◌, subst, arith}
use Rattle.mac_base.specs.HeadKind.{head_size}
use Rattle.raw_region.specs.State.{State, with_bytes}
use Rattle.block_bytes.specs.Layout.{Layout, BlockAt, header_of, cleared, with_blocks}
use Rattle.std.specs.Prelude.{if◌then◌else◌}
use Rattle.block_bytes.specs.Record.{all_noted}
use Rattle.block_bytes.proofs.Recorded.{IsReadWhole}
use Rattle.block_bytes.proofs.Here.{IsHere-from, unlent-here}
use Rattle.block_bytes.proofs.Same.{same-lent}
use Rattle.block_bytes.proofs.WrittenBack.{cleared-read}
use Rattle.block_bytes.proofs.blocks.Blocks.clear.Goals as goal

pub overflow_sub-length : goal.overflow_sub-length
overflow_sub-length c =
    let h = IsHere-from c.self.inside c.self.invariant.layout c.args.self.now c.self.view_is c.args.at c.entry_at-header.result c.requires.block (c.entry_at-header.ensures c.requires.block) in
    let e = c.head_size-head_size.ensures ∙ ap head_size c.heads.ensures in omega arith

pub overflow_sub-length-2 : goal.overflow_sub-length-2
overflow_sub-length-2 c =
    let h = IsHere-from c.self.inside c.self.invariant.layout c.args.self.now c.self.view_is c.args.at c.entry_at-header.result c.requires.block (c.entry_at-header.ensures c.requires.block) in
    let e = c.head_size-head_size.ensures ∙ ap head_size c.heads.ensures in omega arith

pub clear-requires-clause-inside : goal.clear-requires-clause-inside
clear-requires-clause-inside c =
    let h = IsHere-from c.self.inside c.self.invariant.layout c.args.self.now c.self.view_is c.args.at c.entry_at-header.result c.requires.block (c.entry_at-header.ensures c.requires.block) in
    let e = ap head_size c.heads.ensures in omega arith

pub clear-requires-clause-free : goal.clear-requires-clause-free
clear-requires-clause-free c =
    let h = IsHere-from c.self.inside c.self.invariant.layout c.args.self.now c.self.view_is c.args.at c.entry_at-header.result c.requires.block (c.entry_at-header.ensures c.requires.block) in
    let e = ap head_size c.heads.ensures in
    unlent-here c.self.inside c.self.invariant.layout c.args.self.now c.self.view_is c.args.at c.entry_at-header.result c.requires.block (c.entry_at-header.ensures c.requires.block) c.requires.unlent
    (c.args.at - c.base.result + c.head_size-head_size.result) (c.entry_at-header.result.size - c.head_size-head_size.result - c.entry_at-header.result.correction) (omega arith) (omega arith)

-- what the fields stand for then
made_zero : (c : goal.After-clear) (b : BlockAt c.args.self.now c.args.at)
    → IsReadWhole (record c.self.inside { memory = c.clear.new.self; kept = c.note_if.new.kept }) (with_blocks (b.before ++ cleared b.here ∷ b.after) c.args.self.now)
made_zero c b = let z = c.self.inside in let at = c.args.at in let h = c.entry_at-header.result in let k = c.head_size-head_size.result in
    let e = ap head_size c.heads.ensures in
    subst (λ (m : State). IsReadWhole (record z { memory = m; kept = c.note_if.new.kept }) (with_blocks (b.before ++ cleared b.here ∷ b.after) c.args.self.now)) (sym c.clear.ensures)
    (subst (λ (l : Layout). (b : BlockAt l at) → h ≡ header_of l.heads b.here → b.here.lent ≡ false
    → IsReadWhole (record z { memory = with_bytes z.memory (at - c.base.result + k) (replicate (h.size - k - h.correction) 0); kept = c.note_if.new.kept }) (with_blocks (b.before ++ cleared b.here ∷ b.after) l)) c.self.view_is
    (λ b is unlent. cleared-read z c.self.invariant c.base.ensures.possible at h (at - c.base.result + k) (h.size - k - h.correction) b is unlent (omega arith) (omega arith) c.note_if.new.kept (c.note_if.ensures ∙ ap (λ (t : Bool). if t then all_noted z.kept else z.kept) c.is_master.ensures)) b (c.entry_at-header.ensures b) (same-lent c.args.self.now at c.requires.block b c.requires.unlent))

pub invariant_of-self : goal.invariant_of-self
invariant_of-self c = (made_zero c c.requires.block).whole

pub returns : goal.returns
returns c = λ b. (made_zero c b).view
