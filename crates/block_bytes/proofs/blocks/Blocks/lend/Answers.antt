use Rattle.std.proofs.Common.{◌≡◌, ◌+◌, ◌-◌, ◌/◌, ◌∷◌, ◌++◌, length, slice_index, refl, ap, ◌∙◌, subst, arith}
use Rattle.mac_base.specs.HeadKind.{head_size, zone_header}
use Rattle.raw_region.specs.Bytes.{part}
use Rattle.block_bytes.specs.declared.header.Header.{Header}
use Rattle.block_bytes.specs.Layout.{Layout, BlockAt, CanLend, header_of, size_of, total_of, loan_of, lent_block, with_blocks}
use Rattle.block_bytes.proofs.ReadBlocks.{head_size-positive}
use Rattle.block_bytes.proofs.ReadParts.{contents-read}
use Rattle.raw_region.specs.State.{State}
use Rattle.block_bytes.proofs.Parts.{IsIn-from}
use Rattle.block_bytes.proofs.Recorded.{IsReadWhole, contents-whole, grows-same}
use Rattle.block_bytes.proofs.Here.{IsHere-from, unlent-here}
use Rattle.block_bytes.proofs.Loans.{lend-read}
use Rattle.block_bytes.proofs.blocks.Blocks.lend.Goals as goal

pub overflow_sub-length : goal.overflow_sub-length
overflow_sub-length c =
    let h = IsHere-from c.self.inside c.self.invariant.layout c.args.self.now c.self.view_is c.args.at c.entry_at-header.result c.requires.block (c.entry_at-header.ensures c.requires.block) in
    let e = c.head_size-head_size.ensures ∙ ap head_size c.heads.ensures in omega arith

pub overflow_sub-length-2 : goal.overflow_sub-length-2
overflow_sub-length-2 c =
    let h = IsHere-from c.self.inside c.self.invariant.layout c.args.self.now c.self.view_is c.args.at c.entry_at-header.result c.requires.block (c.entry_at-header.ensures c.requires.block) in
    let e = c.head_size-head_size.ensures ∙ ap head_size c.heads.ensures in omega arith

pub set-requires-clause-inside : goal.set-requires-clause-inside
set-requires-clause-inside c = let h = IsHere-from c.self.inside c.self.invariant.layout c.args.self.now c.self.view_is c.args.at c.entry_at-header.result c.requires.block (c.entry_at-header.ensures c.requires.block) in let e = c.head_size-head_size.ensures ∙ ap head_size c.heads.ensures in let some = head_size-positive c.self.inside.spec.heads in omega arith

pub lend-requires-clause-inside : goal.lend-requires-clause-inside
lend-requires-clause-inside c = let h = IsHere-from c.self.inside c.self.invariant.layout c.args.self.now c.self.view_is c.args.at c.entry_at-header.result c.requires.block (c.entry_at-header.ensures c.requires.block) in let e = c.head_size-head_size.ensures ∙ ap head_size c.heads.ensures in omega arith

pub lend-requires-clause-free : goal.lend-requires-clause-free
lend-requires-clause-free c = let h = IsHere-from c.self.inside c.self.invariant.layout c.args.self.now c.self.view_is c.args.at c.entry_at-header.result c.requires.block (c.entry_at-header.ensures c.requires.block) in let e = c.head_size-head_size.ensures ∙ ap head_size c.heads.ensures in
    unlent-here c.self.inside c.self.invariant.layout c.args.self.now c.self.view_is c.args.at c.entry_at-header.result c.requires.block (c.entry_at-header.ensures c.requires.block) c.requires.unlent
    (c.args.at - c.base.result + c.head_size-head_size.result) (c.entry_at-header.result.size - c.head_size-head_size.result - c.entry_at-header.result.correction) (omega arith) (omega arith)

-- what the fields stand for then
lent_then : (c : goal.After-lend) (can : CanLend c.args.self.now c.args.at)
    → IsReadWhole (record c.self.inside { memory = c.lend.new.self; index = c.set.new.self; loans = c.self.inside.loans + 1 }) (with_blocks (can.block.before ++ lent_block can.block.here ∷ can.block.after) c.args.self.now)
lent_then c can = let z = c.self.inside in let at = c.args.at in let h = c.entry_at-header.result in let k = c.head_size-head_size.result in
    subst (λ (l : Layout). (can : CanLend l at) → ((b : BlockAt l at) → h ≡ header_of l.heads b.here)
    → IsReadWhole (record z { memory = c.lend.new.self; index = c.set.new.self; loans = z.loans + 1 }) (with_blocks (can.block.before ++ lent_block can.block.here ∷ can.block.after) l)) c.self.view_is
    (λ can entry. let b = can.block in let place = b.place in let e = c.head_size-head_size.ensures ∙ ap head_size c.heads.ensures in
    let size : h.size ≡ size_of z.spec.heads b.here = ap (λ (h : Header). h.size) (entry b) in let slack : h.correction ≡ length b.here.slack = ap (λ (h : Header). h.correction) (entry b) in
    let there : at - c.base.result + k ≡ zone_header + total_of z.spec.heads b.before + head_size z.spec.heads = omega arith in
    let long : h.size - k - h.correction ≡ length b.here.contents = omega arith in
    let read = lend-read z c.self.invariant.layout c.base.ensures.possible b.before b.here b.after b.blocks can.unlent can.owned can.few c.lend.new.self c.set.new.self (z.loans + 1) ((at - c.base.result) / 4)
    (c.lend.ensures.memory ∙ (λ i. record z.memory { lent = (there i, long i) ∷ z.memory.lent })) (omega arith) c.set.ensures refl in
    let i = IsIn-from z c.self.invariant.layout b.before b.here b.after b.blocks in
    contents-whole z c.self.invariant b.before b.here (lent_block b.here) b.after b.blocks read refl refl refl z.kept (grows-same (length z.memory.bytes) z.kept) (at - c.base.result + k) 0 (omega arith) (omega arith)
    (λ master i low high. absurd (omega arith)) (λ i off. ap (λ (m : State). slice_index m.bytes i) c.lend.ensures.memory)) can c.entry_at-header.ensures

pub invariant_of-self : goal.invariant_of-self
invariant_of-self c = (lent_then c c.requires).whole

pub returns-clause-blocks : goal.returns-clause-blocks
returns-clause-blocks c = λ can. (lent_then c can).view

pub returns-clause-loan : goal.returns-clause-loan
returns-clause-loan c = λ can. let z = c.self.inside in let at = c.args.at in let h = c.entry_at-header.result in let k = c.head_size-head_size.result in
    subst (λ (l : Layout). (b : BlockAt l at) → h ≡ header_of l.heads b.here → c.lend.result ≡ loan_of l b) c.self.view_is
    (λ b is. let place = b.place in let e = c.head_size-head_size.ensures ∙ ap head_size c.heads.ensures in
    let size : h.size ≡ size_of z.spec.heads b.here = ap (λ (h : Header). h.size) is in let slack : h.correction ≡ length b.here.slack = ap (λ (h : Header). h.correction) is in
    let there : at - c.base.result + k ≡ zone_header + total_of z.spec.heads b.before + head_size z.spec.heads = omega arith in
    let read : part z.memory.bytes (at - c.base.result + k) (h.size - k - h.correction) ≡ b.here.contents =
    contents-read z c.self.invariant.layout b.before b.here b.after b.blocks (at - c.base.result + k) (h.size - k - h.correction) there (omega arith) in
    c.lend.ensures.loan ∙ (λ i. record { name = z.memory.name; at = there i; bytes = read i })) can.block (c.entry_at-header.ensures can.block)
