use Rattle.std.proofs.Common.{◌≡◌, ◌-◌, ◌/◌, ◌≤◌, [], ◌∷◌, ◌++◌, length, length-set, length-drop, refl, ap, ◌∙◌, subst, arith, ℕ}
use Rattle.std.proofs.Math.ListN.{set}
use Rattle.mac_base.specs.HeadKind.{address_end, head_size}
use Rattle.raw_region.specs.State.{State}
use Rattle.block_bytes.specs.declared.header.Header.{Header}
use Rattle.block_bytes.specs.declared.header.Role.{Role}
use Rattle.block_bytes.specs.Head.{most_over, head_bytes}
use Rattle.block_bytes.specs.Layout.{Layout, BlockAt, CanBe, body, raw_block, header_of, size_of, with_blocks}
use Rattle.block_bytes.specs.Record.{own_most}
use Rattle.block_bytes.specs.Starts.{first_marked, mark_in, free_in}
use Rattle.block_bytes.specs.Reading.{layout_of}
use Rattle.block_bytes.proofs.ReadBlocks.{IsPossible-from, head_size-positive}
use Rattle.block_bytes.proofs.Parts.{rear, IsIn-from}
use Rattle.block_bytes.proofs.Recorded.{IsReadWhole, counted-stay, head-whole}
use Rattle.block_bytes.proofs.Changes.{body-raw_block, size-body, header-raw_block, head-written, head-changed}
use Rattle.block_bytes.proofs.Here.{IsHere-from}
use Rattle.block_bytes.proofs.Counting.{kept-first, kept-written, free_in-small, can-count, none-lower, set-after}
use Rattle.block_bytes.proofs.blocks.Blocks.assign.Goals as goal

-- how many bytes are over then
over : (l : Layout) (at : ℕ) (can-role : Role) (n : ℕ) (can : CanBe l at can-role n) (h : Header) → h ≡ header_of l.heads can.block.here
    → (head_size l.heads ≤ h.size - n) × (h.size - head_size l.heads - n ≤ most_over l.heads)
over l at role n can h is =
    let size : h.size ≡ size_of l.heads can.block.here = ap (λ (h : Header). h.size) is in let sum = size-body l.heads can.block.here in
    let p = IsPossible-from l.heads (raw_block role n (body can.block.here)) can.possible in let few = p.few in let rest = length-drop n (body can.block.here) in let within = can.within in (omega arith, omega arith)

pub overflow_sub-header : goal.overflow_sub-header
overflow_sub-header c = let h = IsHere-from c.self.inside c.self.invariant.layout c.args.self.now c.self.view_is c.args.at c.entry_at-old.result c.requires.block (c.entry_at-old.ensures c.requires.block) in
    let e = c.head_size.ensures ∙ ap head_size c.heads-heads.ensures in omega arith

pub overflow_sub-header-2 : goal.overflow_sub-header-2
overflow_sub-header-2 c = let o = over c.args.self.now c.args.at c.args.role c.args.length c.requires c.entry_at-old.result (c.entry_at-old.ensures c.requires.block) in let rest = o.0 in
    let heads = c.heads-heads.ensures ∙ ap (λ (l : Layout). l.heads) c.self.view_is in let e = c.head_size.ensures ∙ ap head_size heads in let some = head_size-positive c.args.self.now.heads in omega arith

pub set_header-requires-clause-inside : goal.set_header-requires-clause-inside
set_header-requires-clause-inside c = let h = IsHere-from c.self.inside c.self.invariant.layout c.args.self.now c.self.view_is c.args.at c.entry_at-old.result c.requires.block (c.entry_at-old.ensures c.requires.block) in
    let e = ap head_size c.heads-heads.ensures in omega arith

pub set_header-requires-clause-free : goal.set_header-requires-clause-free
set_header-requires-clause-free c = let h = IsHere-from c.self.inside c.self.invariant.layout c.args.self.now c.self.view_is c.args.at c.entry_at-old.result c.requires.block (c.entry_at-old.ensures c.requires.block) in
    h.unlent (c.args.at - c.base-base.result) (head_size c.heads-heads.result) (omega arith) (ap head_size c.heads-heads.ensures)

pub set_header-requires-clause-size : goal.set_header-requires-clause-size
set_header-requires-clause-size c = let h = IsHere-from c.self.inside c.self.invariant.layout c.args.self.now c.self.view_is c.args.at c.entry_at-old.result c.requires.block (c.entry_at-old.ensures c.requires.block) in let end = ap address_end c.heads-heads.ensures in omega arith

pub set_header-requires-clause-correction : goal.set_header-requires-clause-correction
set_header-requires-clause-correction c = let o = over c.args.self.now c.args.at c.args.role c.args.length c.requires c.entry_at-old.result (c.entry_at-old.ensures c.requires.block) in let few = o.1 in
    let heads = c.heads-heads.ensures ∙ ap (λ (l : Layout). l.heads) c.self.view_is in let e = c.head_size.ensures ∙ ap head_size heads in let e' = ap most_over heads in omega arith

pub set-requires-clause-inside : goal.set-requires-clause-inside
set-requires-clause-inside c = let h = IsHere-from c.self.inside c.self.invariant.layout c.args.self.now c.self.view_is c.args.at c.entry_at-old.result c.requires.block (c.entry_at-old.ensures c.requires.block) in
    let some = head_size-positive c.self.inside.spec.heads in omega arith

pub count_free-requires-clause-count : goal.count_free-requires-clause-count
count_free-requires-clause-count c = let z = c.self.inside in let small = c.base-base.ensures.possible in let r = c.entry_at-old.result in
    let h = IsHere-from z c.self.invariant.layout c.args.self.now c.self.view_is c.args.at r c.requires.block (c.entry_at-old.ensures c.requires.block) in
    let header : Header = record { size = r.size; role = c.args.role; correction = r.size - c.head_size.result - c.args.length } in
    let gained = c.free_bytes.ensures in let lost = c.free_bytes-2.ensures in let few = free_in-small header in let among = h.counted in
    can-count z c.self.invariant.layout small c.set_header.new.self c.set.new.self c.base-base.result c.free_bytes.result c.free_bytes-2.result
    (kept-written z z.memory c.set_header.new.self (c.args.at - c.base-base.result) (head_bytes c.heads-heads.result c.base-base.result header) (kept-first z c.self.invariant.layout small) c.set_header.ensures (omega arith))
    (ap length c.set.ensures ∙ length-set z.index _ _) c.base-base.ensures.value (omega arith) (omega arith)

pub count_free-requires-clause-low : goal.count_free-requires-clause-low
count_free-requires-clause-low c = let z = c.self.inside in let small = c.base-base.ensures.possible in let r = c.entry_at-old.result in
    let h = IsHere-from z c.self.invariant.layout c.args.self.now c.self.view_is c.args.at r c.requires.block (c.entry_at-old.ensures c.requires.block) in
    let header : Header = record { size = r.size; role = c.args.role; correction = r.size - c.head_size.result - c.args.length } in
    let gained = c.free_bytes.ensures in let lost = c.free_bytes-2.ensures in let few = free_in-small header in let among = h.counted in
    none-lower z c.set_header.new.self c.set.new.self c.base-base.result ((c.args.at - c.base-base.result) / 4)
    (kept-written z z.memory c.set_header.new.self (c.args.at - c.base-base.result) (head_bytes c.heads-heads.result c.base-base.result header) (kept-first z c.self.invariant.layout small) c.set_header.ensures (omega arith))
    c.base-base.ensures.value (set-after z.index c.set.new.self _ _ ((c.args.at - c.base-base.result) / 4) c.set.ensures (omega arith))

-- what the fields stand for then
assigned : (c : goal.After-count_free) (can : CanBe c.args.self.now c.args.at c.args.role c.args.length)
    → IsReadWhole (record c.self.inside { memory = c.count_free.new.memory; index = c.set.new.self; kept = c.note.new.kept })
    (with_blocks (can.block.before ++ raw_block c.args.role c.args.length (body can.block.here) ∷ can.block.after) c.args.self.now)
assigned c can = let z = c.self.inside in let at = c.args.at in let n = c.args.length in let role = c.args.role in let r = c.entry_at-old.result in
    subst (λ (l : Layout). (can : CanBe l at role n) → ((b : BlockAt l at) → r ≡ header_of l.heads b.here)
    → IsReadWhole (record z { memory = c.count_free.new.memory; index = c.set.new.self; kept = c.note.new.kept })
    (with_blocks (can.block.before ++ raw_block role n (body can.block.here) ∷ can.block.after) l)) c.self.view_is
    (λ can entry.
    let b = can.block in let new = raw_block role n (body b.here) in let i = IsIn-from z c.self.invariant.layout b.before b.here b.after b.blocks in let place = b.place in
    let size = ap (λ (h : Header). h.size) (entry b) ∙ size-body z.spec.heads b.here in
    let heads_size = c.head_size.ensures ∙ ap head_size c.heads-heads.ensures in
    let said : Header = record { size = r.size; role = role; correction = r.size - c.head_size.result - n } in
    let header : said ≡ header_of z.spec.heads new =
    ap (λ (k : ℕ). record { size = r.size; role = role; correction = r.size - k - n }) heads_size ∙ header-raw_block z.spec.heads role n r.size (body b.here) size in
    let read = head-changed z c.self.invariant.layout c.base-base.ensures.possible b.before b.here b.after b.blocks can.unlent new c.set_header.new.self c.count_free.new.memory c.set.new.self c.base-base.result c.free_bytes.result c.free_bytes-2.result
    (body-raw_block role n (body b.here)) can.possible refl (ap (λ (m : State). m.name) c.set_header.ensures) (ap (λ (m : State). m.lent) c.set_header.ensures)
    (ap (λ (m : State). m.bytes) c.set_header.ensures
    ∙ head-written z b.before (header_of z.spec.heads b.here) (body b.here ++ rear (layout_of z) b.after) i.bytes (at - c.base-base.result) c.heads-heads.result c.base-base.result
    said (header_of z.spec.heads new) (omega arith) c.heads-heads.ensures c.base-base.ensures.value header)
    ((at - c.base-base.result) / 4) (omega arith) (c.set.ensures ∙ ap (λ (m : ℕ). set z.index ((at - c.base-base.result) / 4) m) (c.mark.ensures.value ∙ ap mark_in header))
    c.base-base.ensures.value (c.free_bytes.ensures ∙ ap free_in header) (c.free_bytes-2.ensures ∙ ap free_in (entry b)) c.count_free.ensures in
    let own = c.own_size.ensures ∙ (λ i. own_most (c.heads-heads.ensures i) (header i)) in
    head-whole z c.self.invariant b.before (b.here ∷ []) new b.after b.blocks read c.note.new.kept (at - c.base-base.result) c.own_size.result (omega arith) own c.note.ensures
    c.set_header.new.self c.heads-heads.result c.base-base.result said (ap head_size c.heads-heads.ensures) c.set_header.ensures
    (counted-stay c.set_header.new.self c.count_free.new.memory c.base-base.result c.free_bytes.result c.free_bytes-2.result (first_marked c.base-base.result c.set.new.self) c.count_free.ensures)) can c.entry_at-old.ensures

pub invariant_of-self : goal.invariant_of-self
invariant_of-self c = (assigned c c.requires).whole

pub returns : goal.returns
returns c = λ can. (assigned c can).view
