use Rattle.std.proofs.Common.{ℕ, ◌≡◌, ◌+◌, ◌-◌, ◌<◌, ◌≤◌, List, [], ◌∷◌, inl, inr, length, drop, slice_index, refl, ap, subst, ◌∙◌, arith}
use Rattle.byteorder.specs.Endian.{big_bytes}
use Rattle.mac_base.specs.declared.block.HeadKind.{HeadKind}
use Rattle.mac_base.specs.HeadKind.{head_size, zone_header}
use Rattle.mac_base.specs.ZoneSizes.{ZoneSizes}
use Rattle.raw_region.proofs.Indexes.{index-written-apart}
use Rattle.raw_region.proofs.Numbers.{length-big_bytes}
use Rattle.block_bytes.specs.declared.header.Header.{Header}
use Rattle.block_bytes.specs.declared.header.Role.TheVariants.{Free}
use Rattle.block_bytes.specs.Record.{IsOwn}
use Rattle.block_bytes.specs.Reading.{layout_of}
use Rattle.block_bytes.proofs.Owned.{own-high, own-low, own-one, own-split}
use Rattle.block_bytes.proofs.Recorded.{IsReadWhole, changed-whole, counted-stay, grows-noted, head-stay, range-noted}
use Rattle.raw_region.specs.State.{State, with_bytes}
use Rattle.block_bytes.specs.Layout.{Layout, extended, free_block_of, free_raw_block}
use Rattle.block_bytes.specs.Starts.{first_marked}
use Rattle.block_bytes.specs.ZoneHead.{end_field}
use Rattle.block_bytes.proofs.Parts.{total-ends}
use Rattle.block_bytes.specs.ZoneHead.{CanCount}
use Rattle.block_bytes.proofs.Settled.{counted}
use Rattle.block_bytes.proofs.Extending.{AreRead, below, headed-read, marked-read, can-extend, low-extend, extended-same, spare-free, end-free, room-marked, extends, sizes-few}
use Rattle.block_bytes.proofs.blocks.Blocks.extend.Goals as goal

pub returns-then-size-limit : goal.returns-then-size-limit
returns-then-size-limit c =
    let size = c.size-size.ensures.value in
    let limit = c.limit-limit.ensures.value in
    let same = c.if-size-limit.true in
    subst (λ (l : Layout). l ≡ extended l) c.self.view_is (extended-same c.self.inside c.self.invariant.layout (omega arith))

pub set_header-requires-clause-free : goal.set_header-requires-clause-free
set_header-requires-clause-free c = spare-free c.self.inside c.self.invariant.layout c.size-size.result (head_size c.heads-heads.result) c.size-size.ensures.value

-- the numbers that are read before a header is written
read_first : (c : goal.After-set-arg-1) → AreRead c.self.inside c.heads-heads.result c.base-base.result c.size-size.result c.limit-limit.result
read_first c = record { heads_is = c.heads-heads.ensures; base_is = c.base-base.ensures.value; size_is = c.size-size.ensures.value; limit_is = c.limit-limit.ensures.value; possible = c.base-base.ensures.possible; other = c.if-size-limit.false }

pub set-requires-clause-inside : goal.set-requires-clause-inside
set-requires-clause-inside c = let size = c.size-size.ensures.value in
    let room = room-marked c.self.inside c.self.invariant.layout c.size-size.ensures.possible (below c.self.inside c.heads-heads.result c.base-base.result c.size-size.result c.limit-limit.result (read_first c)) in omega arith

-- what counting its bytes asks for
can : (c : goal.After-count_free-arg-2-1) → CanCount c.set_header.new.self c.set.new.self c.base-base.result (c.limit-limit.result - c.size-size.result) 0
can c = can-extend c.self.inside c.heads-heads.result c.base-base.result c.size-size.result c.limit-limit.result
    (record { heads_is = c.heads-heads.ensures; base_is = c.base-base.ensures.value; size_is = c.size-size.ensures.value; limit_is = c.limit-limit.ensures.value; possible = c.base-base.ensures.possible; other = c.if-size-limit.false })
    c.self.invariant.layout c.set_header.new.self c.set.new.self c.set_header.ensures c.set.ensures

pub count_free-requires-clause-count : goal.count_free-requires-clause-count
count_free-requires-clause-count c = can c

pub count_free-requires-clause-low : goal.count_free-requires-clause-low
count_free-requires-clause-low c = low-extend c.self.inside c.heads-heads.result c.base-base.result c.size-size.result c.limit-limit.result
    (record { heads_is = c.heads-heads.ensures; base_is = c.base-base.ensures.value; size_is = c.size-size.ensures.value; limit_is = c.limit-limit.ensures.value; possible = c.base-base.ensures.possible; other = c.if-size-limit.false })
    c.self.invariant.layout c.set_header.new.self c.set.new.self c.set_header.ensures c.set.ensures

pub set_end-requires-clause-free : goal.set_end-requires-clause-free
set_end-requires-clause-free c = end-free c.self.inside c.self.invariant.layout c.count_free.new.memory.lent (ap (λ (m : State). m.lent) c.count_free.ensures ∙ ap (λ (m : State). m.lent) c.set_header.ensures)

-- the own bytes of the new block
own_added : (heads : HeadKind) (bytes : List ℕ) (at i : ℕ) → IsOwn heads at (free_block_of heads bytes) i → (at ≤ i) × (i < at + head_size heads)
own_added heads [] at i own = absurd own
own_added heads (x ∷ xs) at i own = let here = own-one heads at (free_raw_block (drop (head_size heads) (x ∷ xs))) i own in let high : i < at + (head_size heads + 0) = here.1 in (here.0, omega arith)

-- what the fields stand for then
grown : (c : goal.After-self-1) → IsReadWhole (record { spec = c.at_limit-self-inside.result; memory = c.set_end.new.self; index = c.set.new.self; loans = c.self.inside.loans; kept = c.note.new.kept }) (extended c.args.self.now)
grown c = let z = c.self.inside in let bytes = z.memory.bytes in let spec = c.at_limit-self-inside.result in let kept = c.note.new.kept in
    let are : AreRead z c.heads-heads.result c.base-base.result c.size-size.result c.limit-limit.result =
    record { heads_is = c.heads-heads.ensures; base_is = c.base-base.ensures.value; size_is = c.size-size.ensures.value; limit_is = c.limit-limit.ensures.value; possible = c.base-base.ensures.possible; other = c.if-size-limit.false } in
    let under = below z c.heads-heads.result c.base-base.result c.size-size.result c.limit-limit.result are in
    let read = extends z c.self.invariant.layout c.base-base.ensures.possible under c.set_header.new.self c.set_end.new.self spec c.set.new.self
    (headed-read z c.heads-heads.result c.base-base.result c.size-size.result c.limit-limit.result are c.set_header.new.self c.set_header.ensures)
    (marked-read z c.heads-heads.result c.base-base.result c.size-size.result c.limit-limit.result are c.set.new.self c.set.ensures)
    (c.set_end.ensures ∙ ap (λ (m : State). with_bytes m end_field (big_bytes 4 (c.base-base.result + c.limit-limit.result))) c.count_free.ensures
    ∙ (λ i. with_bytes (counted c.set_header.new.self (c.base-base.ensures.value i) (c.limit-limit.ensures.value i - c.size-size.ensures.value i) 0 (first_marked (c.base-base.ensures.value i) c.set.new.self)) end_field
    (big_bytes 4 (c.base-base.ensures.value i + c.limit-limit.ensures.value i))))
    c.at_limit-self-inside.ensures in
    let l = layout_of z in let heads = z.spec.heads in let size = c.size-size.result in let size_is = c.size-size.ensures.value in let head_is = ap head_size c.heads-heads.ensures in let all = c.self.invariant.layout.all_bytes in
    let room = c.base-base.ensures.possible.growth under in let few = sizes-few heads in let few' = few.0 in let ends = total-ends z c.self.invariant.layout in
    let count = c.head_size.ensures in let head : Header = record { size = c.limit-limit.result - size; role = Free; correction = 0 } in
    subst (λ (l : Layout). IsReadWhole (record { spec = spec; memory = c.set_end.new.self; index = c.set.new.self; loans = z.loans; kept = kept }) (extended l)) c.self.view_is
    (changed-whole z (record { spec = spec; memory = c.set_end.new.self; index = c.set.new.self; loans = z.loans; kept = z.kept }) (extended l) kept c.self.invariant refl
    (ap (λ (s : ZoneSizes). s.heads) c.at_limit-self-inside.ensures) (ap (λ (s : ZoneSizes). s.limit) c.at_limit-self-inside.ensures) read
    (grows-noted (length bytes) z.kept kept size c.head_size.result c.note.ensures (omega arith))
    (λ i own. elim (own-split heads zone_header size l.blocks (free_block_of heads l.spare) i (omega arith) own) [
      | inl old ↦ inr (
        old,
        let above = own-low heads zone_header l.blocks i old in let high = own-high heads zone_header l.blocks i old in
            ap (λ (m : State). slice_index m.bytes i) c.set_end.ensures
            ∙ index-written-apart c.count_free.new.memory.bytes end_field (big_bytes 4 (c.base-base.result + c.limit-limit.result)) i (inr (let long = length-big_bytes 4 (c.base-base.result + c.limit-limit.result) in omega arith))
            ∙ counted-stay c.set_header.new.self c.count_free.new.memory c.base-base.result head.size 0 (first_marked c.base-base.result c.set.new.self) c.count_free.ensures i above
            ∙ head-stay z.memory c.set_header.new.self size c.heads-heads.result c.base-base.result head c.set_header.ensures i (inl (omega arith)),
      )
      | inr new ↦ inl (let here = own_added heads l.spare size i new in let low = here.0 in let high = here.1 in range-noted z.kept kept size c.head_size.result c.note.ensures i low (omega arith))
    ]))

pub invariant_of-self : goal.invariant_of-self
invariant_of-self c = (grown c).whole

pub returns : goal.returns
returns c = (grown c).view
