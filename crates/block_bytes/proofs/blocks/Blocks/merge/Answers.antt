use Rattle.std.proofs.Common.{◌≡◌, ◌+◌, ◌-◌, ◌/◌, [], ◌∷◌, ◌++◌, List, ℕ, length, length-set, refl, ap, ◌∙◌, subst, arith}
use Rattle.std.proofs.Math.ListN.{set}
use Rattle.mac_base.specs.HeadKind.{address_end, head_size}
use Rattle.raw_region.specs.State.{State}
use Rattle.block_bytes.specs.declared.header.Header.{Header}
use Rattle.block_bytes.specs.Head.{most_over, head_bytes}
use Rattle.block_bytes.specs.Layout.{Layout, BlockAt, CanMerge, body, raw_block, joint_body, size_of, header_of, with_blocks}
use Rattle.block_bytes.specs.Record.{own_most}
use Rattle.block_bytes.specs.Starts.{first_marked, mark_in, free_in}
use Rattle.block_bytes.specs.Reading.{layout_of}
use Rattle.block_bytes.proofs.ReadBlocks.{smallest-block, head_size-positive}
use Rattle.block_bytes.proofs.Parts.{rear, IsIn-from}
use Rattle.block_bytes.proofs.Changes.{body-raw_block, header-raw_block, head-written, merge-changed}
use Rattle.block_bytes.proofs.Here.{IsHere-from, ArePair-from, next-block, first-block, size-joint, IsMerge-from}
use Rattle.block_bytes.proofs.Counting.{set-apart, kept-first, kept-written, free_in-small, can-count, none-lower, set-after}
use Rattle.block_bytes.proofs.Recorded.{IsReadWhole, counted-stay, head-whole}
use Rattle.block_bytes.proofs.blocks.Blocks.merge.Goals as goal

pub overflow_add-next : goal.overflow_add-next
overflow_add-next c =
    let first = first-block c.args.self.now c.args.at c.requires.pair in let one = c.entry_at-first.ensures first in
    let h = IsHere-from c.self.inside c.self.invariant.layout c.args.self.now c.self.view_is c.args.at c.entry_at-first.result first one in omega arith

pub entry_at-second-requires : goal.entry_at-second-requires
entry_at-second-requires c =
    let first = first-block c.args.self.now c.args.at c.requires.pair in
    next-block c.args.self.now c.args.at (c.args.at + c.entry_at-first.result.size) c.requires.pair (ap (λ (h : Header). c.args.at + h.size) (c.entry_at-first.ensures first))

pub overflow_add-size : goal.overflow_add-size
overflow_add-size c =
    let first = first-block c.args.self.now c.args.at c.requires.pair in let one = c.entry_at-first.ensures first in
    let h = IsHere-from c.self.inside c.self.invariant.layout c.args.self.now c.self.view_is c.args.at c.entry_at-first.result first one in
    let next = next-block c.args.self.now c.args.at (c.args.at + c.entry_at-first.result.size) c.requires.pair (ap (λ (h : Header). c.args.at + h.size) one) in let two = c.entry_at-second.ensures next in
    let h' = IsHere-from c.self.inside c.self.invariant.layout c.args.self.now c.self.view_is (c.args.at + c.entry_at-first.result.size) c.entry_at-second.result next two in omega arith

pub overflow_sub-header : goal.overflow_sub-header
overflow_sub-header c =
    let first = first-block c.args.self.now c.args.at c.requires.pair in let one = c.entry_at-first.ensures first in
    let h = IsHere-from c.self.inside c.self.invariant.layout c.args.self.now c.self.view_is c.args.at c.entry_at-first.result first one in
    let next = next-block c.args.self.now c.args.at (c.args.at + c.entry_at-first.result.size) c.requires.pair (ap (λ (h : Header). c.args.at + h.size) one) in let two = c.entry_at-second.ensures next in
    let h' = IsHere-from c.self.inside c.self.invariant.layout c.args.self.now c.self.view_is (c.args.at + c.entry_at-first.result.size) c.entry_at-second.result next two in
    let m = IsMerge-from c.args.self.now c.args.at c.args.length c.requires c.entry_at-first.result c.entry_at-second.result one two in
    let e = c.head_size.ensures ∙ ap head_size c.heads-heads.ensures in let e' = ap (λ (l : Layout). head_size l.heads) c.self.view_is in let most = ap most_over c.heads-heads.ensures in let most' = ap (λ (l : Layout). most_over l.heads) c.self.view_is in omega arith

pub overflow_sub-header-2 : goal.overflow_sub-header-2
overflow_sub-header-2 c =
    let first = first-block c.args.self.now c.args.at c.requires.pair in let one = c.entry_at-first.ensures first in
    let h = IsHere-from c.self.inside c.self.invariant.layout c.args.self.now c.self.view_is c.args.at c.entry_at-first.result first one in
    let next = next-block c.args.self.now c.args.at (c.args.at + c.entry_at-first.result.size) c.requires.pair (ap (λ (h : Header). c.args.at + h.size) one) in let two = c.entry_at-second.ensures next in
    let h' = IsHere-from c.self.inside c.self.invariant.layout c.args.self.now c.self.view_is (c.args.at + c.entry_at-first.result.size) c.entry_at-second.result next two in
    let m = IsMerge-from c.args.self.now c.args.at c.args.length c.requires c.entry_at-first.result c.entry_at-second.result one two in
    let e = c.head_size.ensures ∙ ap head_size c.heads-heads.ensures in let e' = ap (λ (l : Layout). head_size l.heads) c.self.view_is in let most = ap most_over c.heads-heads.ensures in let most' = ap (λ (l : Layout). most_over l.heads) c.self.view_is in omega arith

pub set_header-requires-clause-inside : goal.set_header-requires-clause-inside
set_header-requires-clause-inside c =
    let first = first-block c.args.self.now c.args.at c.requires.pair in let one = c.entry_at-first.ensures first in
    let h = IsHere-from c.self.inside c.self.invariant.layout c.args.self.now c.self.view_is c.args.at c.entry_at-first.result first one in
    let e = ap head_size c.heads-heads.ensures in omega arith

pub set_header-requires-clause-size : goal.set_header-requires-clause-size
set_header-requires-clause-size c =
    let first = first-block c.args.self.now c.args.at c.requires.pair in let one = c.entry_at-first.ensures first in
    let h = IsHere-from c.self.inside c.self.invariant.layout c.args.self.now c.self.view_is c.args.at c.entry_at-first.result first one in
    let next = next-block c.args.self.now c.args.at (c.args.at + c.entry_at-first.result.size) c.requires.pair (ap (λ (h : Header). c.args.at + h.size) one) in let two = c.entry_at-second.ensures next in
    let h' = IsHere-from c.self.inside c.self.invariant.layout c.args.self.now c.self.view_is (c.args.at + c.entry_at-first.result.size) c.entry_at-second.result next two in let end = ap address_end c.heads-heads.ensures in omega arith

pub set_header-requires-clause-correction : goal.set_header-requires-clause-correction
set_header-requires-clause-correction c =
    let first = first-block c.args.self.now c.args.at c.requires.pair in let one = c.entry_at-first.ensures first in
    let h = IsHere-from c.self.inside c.self.invariant.layout c.args.self.now c.self.view_is c.args.at c.entry_at-first.result first one in
    let next = next-block c.args.self.now c.args.at (c.args.at + c.entry_at-first.result.size) c.requires.pair (ap (λ (h : Header). c.args.at + h.size) one) in let two = c.entry_at-second.ensures next in
    let h' = IsHere-from c.self.inside c.self.invariant.layout c.args.self.now c.self.view_is (c.args.at + c.entry_at-first.result.size) c.entry_at-second.result next two in
    let m = IsMerge-from c.args.self.now c.args.at c.args.length c.requires c.entry_at-first.result c.entry_at-second.result one two in
    let e = c.head_size.ensures ∙ ap head_size c.heads-heads.ensures in let e' = ap (λ (l : Layout). head_size l.heads) c.self.view_is in let most = ap most_over c.heads-heads.ensures in let most' = ap (λ (l : Layout). most_over l.heads) c.self.view_is in omega arith

pub set-requires-clause-inside : goal.set-requires-clause-inside
set-requires-clause-inside c =
    let first = first-block c.args.self.now c.args.at c.requires.pair in let one = c.entry_at-first.ensures first in
    let h = IsHere-from c.self.inside c.self.invariant.layout c.args.self.now c.self.view_is c.args.at c.entry_at-first.result first one in
    let next = next-block c.args.self.now c.args.at (c.args.at + c.entry_at-first.result.size) c.requires.pair (ap (λ (h : Header). c.args.at + h.size) one) in let two = c.entry_at-second.ensures next in
    let h' = IsHere-from c.self.inside c.self.invariant.layout c.args.self.now c.self.view_is (c.args.at + c.entry_at-first.result.size) c.entry_at-second.result next two in
    let some = head_size-positive c.self.inside.spec.heads in omega arith

pub set-requires-2-clause-inside : goal.set-requires-2-clause-inside
set-requires-2-clause-inside c =
    let long : length c.set.new.self ≡ length c.self.inside.index = ap length c.set.ensures ∙ length-set c.self.inside.index _ _ in
    let first = first-block c.args.self.now c.args.at c.requires.pair in let one = c.entry_at-first.ensures first in
    let h = IsHere-from c.self.inside c.self.invariant.layout c.args.self.now c.self.view_is c.args.at c.entry_at-first.result first one in
    let some = head_size-positive c.self.inside.spec.heads in omega arith

pub count_free-requires-clause-count : goal.count_free-requires-clause-count
count_free-requires-clause-count c = let z = c.self.inside in let small = c.base-base.ensures.possible in let r = c.entry_at-first.result in let s = c.entry_at-second.result in
    let first = first-block c.args.self.now c.args.at c.requires.pair in let one = c.entry_at-first.ensures first in
    let h = IsHere-from z c.self.invariant.layout c.args.self.now c.self.view_is c.args.at c.entry_at-first.result first one in
    let next = next-block c.args.self.now c.args.at (c.args.at + c.entry_at-first.result.size) c.requires.pair (ap (λ (h : Header). c.args.at + h.size) one) in let two = c.entry_at-second.ensures next in
    let h' = IsHere-from z c.self.invariant.layout c.args.self.now c.self.view_is (c.args.at + c.entry_at-first.result.size) c.entry_at-second.result next two in
    let header : Header = record { size = r.size + s.size; role = r.role; correction = r.size + s.size - c.head_size.result - c.args.length } in
    let gained = c.free_bytes.ensures in let lost = c.free_bytes-2.ensures in let lost' = c.free_bytes-3.ensures in let few = free_in-small header in
    let among = (ArePair-from z c.self.invariant.layout c.args.self.now c.self.view_is c.args.at r s c.requires.pair one two).counted in
    can-count z c.self.invariant.layout small c.set_header.new.self c.set-2.new.self c.base-base.result c.free_bytes.result (c.free_bytes-2.result + c.free_bytes-3.result)
    (kept-written z z.memory c.set_header.new.self (c.args.at - c.base-base.result) (head_bytes c.heads-heads.result c.base-base.result header) (kept-first z c.self.invariant.layout small) c.set_header.ensures (omega arith))
    (ap length c.set-2.ensures ∙ length-set c.set.new.self _ _ ∙ ap length c.set.ensures ∙ length-set z.index _ _) c.base-base.ensures.value (omega arith) (omega arith)

pub count_free-requires-clause-low : goal.count_free-requires-clause-low
count_free-requires-clause-low c = let z = c.self.inside in let small = c.base-base.ensures.possible in let r = c.entry_at-first.result in let s = c.entry_at-second.result in
    let first = first-block c.args.self.now c.args.at c.requires.pair in let one = c.entry_at-first.ensures first in
    let h = IsHere-from z c.self.invariant.layout c.args.self.now c.self.view_is c.args.at c.entry_at-first.result first one in
    let next = next-block c.args.self.now c.args.at (c.args.at + c.entry_at-first.result.size) c.requires.pair (ap (λ (h : Header). c.args.at + h.size) one) in let two = c.entry_at-second.ensures next in
    let h' = IsHere-from z c.self.invariant.layout c.args.self.now c.self.view_is (c.args.at + c.entry_at-first.result.size) c.entry_at-second.result next two in
    let header : Header = record { size = r.size + s.size; role = r.role; correction = r.size + s.size - c.head_size.result - c.args.length } in
    let gained = c.free_bytes.ensures in let lost = c.free_bytes-2.ensures in let lost' = c.free_bytes-3.ensures in let few = free_in-small header in
    let among = (ArePair-from z c.self.invariant.layout c.args.self.now c.self.view_is c.args.at r s c.requires.pair one two).counted in
    none-lower z c.set_header.new.self c.set-2.new.self c.base-base.result ((c.args.at - c.base-base.result) / 4)
    (kept-written z z.memory c.set_header.new.self (c.args.at - c.base-base.result) (head_bytes c.heads-heads.result c.base-base.result header) (kept-first z c.self.invariant.layout small) c.set_header.ensures (omega arith))
    c.base-base.ensures.value (λ j before. set-after c.set.new.self c.set-2.new.self _ _ ((c.args.at - c.base-base.result) / 4) c.set-2.ensures (omega arith) j before
    ∙ set-after z.index c.set.new.self _ _ ((c.args.at - c.base-base.result) / 4) c.set.ensures (omega arith) j before)

pub set_header-requires-clause-free : goal.set_header-requires-clause-free
set_header-requires-clause-free c = let z = c.self.inside in let first = first-block c.args.self.now c.args.at c.requires.pair in let one = c.entry_at-first.ensures first in
    let h = IsHere-from z c.self.invariant.layout c.args.self.now c.self.view_is c.args.at c.entry_at-first.result first one in
    let next = next-block c.args.self.now c.args.at (c.args.at + c.entry_at-first.result.size) c.requires.pair (ap (λ (h : Header). c.args.at + h.size) one) in let two = c.entry_at-second.ensures next in
    let h' = IsHere-from z c.self.invariant.layout c.args.self.now c.self.view_is (c.args.at + c.entry_at-first.result.size) c.entry_at-second.result next two in
    h.unlent (c.args.at - c.base-base.result) (head_size c.heads-heads.result) (omega arith) (ap head_size c.heads-heads.ensures)

-- what the fields stand for then
merged : (c : goal.After-count_free) (can : CanMerge c.args.self.now c.args.at c.args.length)
    → IsReadWhole (record c.self.inside { memory = c.count_free.new.memory; index = c.set-2.new.self; kept = c.note.new.kept })
    (with_blocks (can.pair.before ++ raw_block can.pair.here.role c.args.length (joint_body c.args.self.now can.pair.here can.pair.next) ∷ can.pair.after) c.args.self.now)
merged c can = let z = c.self.inside in let at = c.args.at in let n = c.args.length in let r = c.entry_at-first.result in let s = c.entry_at-second.result in
    subst (λ (l : Layout). (can : CanMerge l at n) → ((b : BlockAt l at) → r ≡ header_of l.heads b.here) → ((b : BlockAt l (at + r.size)) → s ≡ header_of l.heads b.here)
    → IsReadWhole (record z { memory = c.count_free.new.memory; index = c.set-2.new.self; kept = c.note.new.kept }) (with_blocks (can.pair.before ++ raw_block can.pair.here.role n (joint_body l can.pair.here can.pair.next) ∷ can.pair.after) l)) c.self.view_is
    (λ can entry entry'.
    let l = layout_of z in let heads = z.spec.heads in let joint = joint_body l can.pair.here can.pair.next in let new = raw_block can.pair.here.role n joint in
    let one = entry (first-block l at can.pair) in let two = entry' (next-block l at (at + r.size) can.pair (ap (λ (h : Header). at + h.size) one)) in
    let i = IsIn-from z c.self.invariant.layout can.pair.before can.pair.here (can.pair.next ∷ can.pair.after) can.pair.blocks in let place = can.pair.place in
    let r_size : r.size ≡ size_of heads can.pair.here = ap (λ (h : Header). h.size) one in let s_size : s.size ≡ size_of heads can.pair.next = ap (λ (h : Header). h.size) two in
    let long = size-joint l can.pair.here can.pair.next in
    let heads_size : c.head_size.result ≡ head_size heads = c.head_size.ensures ∙ ap head_size c.heads-heads.ensures in
    let header : record { size = r.size + s.size; role = r.role; correction = r.size + s.size - c.head_size.result - n } ≡ header_of heads new =
    (λ i. record { size = r.size + s.size; role = (one i).role; correction = r.size + s.size - heads_size i - n }) ∙ header-raw_block heads can.pair.here.role n (r.size + s.size) joint (omega arith) in
    let read = merge-changed z c.self.invariant.layout c.base-base.ensures.possible can.pair.before can.pair.here can.pair.next can.pair.after can.pair.blocks can.pair.unlent_here can.pair.unlent_next new c.set_header.new.self c.count_free.new.memory c.set-2.new.self
    c.base-base.result c.free_bytes.result (c.free_bytes-2.result + c.free_bytes-3.result) (body-raw_block can.pair.here.role n joint) can.possible refl
    (ap (λ (m : State). m.name) c.set_header.ensures) (ap (λ (m : State). m.lent) c.set_header.ensures)
    (ap (λ (m : State). m.bytes) c.set_header.ensures
    ∙ head-written z can.pair.before (header_of heads can.pair.here) (body can.pair.here ++ rear l (can.pair.next ∷ can.pair.after)) i.bytes (at - c.base-base.result) c.heads-heads.result c.base-base.result
    (record { size = r.size + s.size; role = r.role; correction = r.size + s.size - c.head_size.result - n }) (header_of heads new) (omega arith) c.heads-heads.ensures c.base-base.ensures.value header)
    ((at - c.base-base.result) / 4) ((at + r.size - c.base-base.result) / 4) (omega arith) (omega arith)
    (c.set-2.ensures ∙ ap (λ (ms : List ℕ). set ms ((at - c.base-base.result) / 4) c.mark.result) c.set.ensures
    ∙ set-apart z.index ((at + r.size - c.base-base.result) / 4) ((at - c.base-base.result) / 4) 0 c.mark.result (let p = i.here_possible in let large = p.large in let some = smallest-block heads in omega arith)
    ∙ ap (λ (m : ℕ). set (set z.index ((at - c.base-base.result) / 4) m) ((at + r.size - c.base-base.result) / 4) 0) (c.mark.ensures.value ∙ ap mark_in header))
    c.base-base.ensures.value (c.free_bytes.ensures ∙ ap free_in header) (let a = c.free_bytes-2.ensures ∙ ap free_in one in let b = c.free_bytes-3.ensures ∙ ap free_in two in omega arith) c.count_free.ensures in
    let own = c.own_size.ensures ∙ (λ i. own_most (c.heads-heads.ensures i) (header i)) in
    head-whole z c.self.invariant can.pair.before (can.pair.here ∷ can.pair.next ∷ []) new can.pair.after can.pair.blocks read c.note.new.kept (at - c.base-base.result) c.own_size.result (omega arith) own c.note.ensures
    c.set_header.new.self c.heads-heads.result c.base-base.result (record { size = r.size + s.size; role = r.role; correction = r.size + s.size - c.head_size.result - n }) (ap head_size c.heads-heads.ensures) c.set_header.ensures
    (counted-stay c.set_header.new.self c.count_free.new.memory c.base-base.result c.free_bytes.result (c.free_bytes-2.result + c.free_bytes-3.result) (first_marked c.base-base.result c.set-2.new.self) c.count_free.ensures))
    can c.entry_at-first.ensures c.entry_at-second.ensures

pub invariant_of-self : goal.invariant_of-self
invariant_of-self c = (merged c c.requires).whole

pub returns : goal.returns
returns c = λ can. (merged c can).view
