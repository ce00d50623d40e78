use Rattle.std.proofs.Common.{◌≡◌, ◌+◌, ◌-◌, ◌/◌, ◌∷◌, ◌++◌, List, ℕ, refl, length, take, drop, sym, ap, ◌∙◌, subst, arith, length-take-le, length-drop, length-set, append-nil, drop-drop, take-append-drop}
use Rattle.std.proofs.Math.ListN.{set}
use Rattle.mac_base.specs.HeadKind.{address_end, head_size}
use Rattle.raw_region.specs.Bytes.{written, length-written}
use Rattle.raw_region.specs.Span.{Span, IsFree}
use Rattle.raw_region.specs.State.{State}
use Rattle.block_bytes.specs.declared.header.Header.{Header}
use Rattle.block_bytes.specs.declared.header.Role.TheVariants.{Free}
use Rattle.block_bytes.specs.Head.{most_over, head_bytes}
use Rattle.block_bytes.specs.Layout.{Layout, BlockAt, CanSplit, front_of, rest_of, body, raw_block, free_raw_block, size_of, header_of, with_blocks}
use Rattle.block_bytes.specs.Record.{own_most}
use Rattle.block_bytes.specs.Starts.{first_marked, free_mark, mark_in, free_in}
use Rattle.block_bytes.specs.Reading.{layout_of}
use Rattle.block_bytes.proofs.ReadBlocks.{head_size-positive, IsPossible-from}
use Rattle.block_bytes.proofs.Parts.{front, rear, head, IsIn-from}
use Rattle.block_bytes.proofs.Changes.{body-raw_block, size-body, header-raw_block, head-written, split-written, split-changed}
use Rattle.block_bytes.proofs.Here.{IsHere-from, unlent-here}
use Rattle.block_bytes.proofs.Counting.{kept-first, kept-written, free_in-small, can-count, none-lower, set-after}
use Rattle.block_bytes.proofs.Recorded.{IsReadWhole, counted-stay, heads-whole}
use Rattle.block_bytes.proofs.blocks.Blocks.split.Goals as goal

pub set_header-requires-clause-inside : goal.set_header-requires-clause-inside
set_header-requires-clause-inside c = let h = IsHere-from c.self.inside c.self.invariant.layout c.args.self.now c.self.view_is c.args.at c.entry_at-whole.result c.requires.block (c.entry_at-whole.ensures c.requires.block) in let heads = c.heads-heads.ensures ∙ ap (λ (l : Layout). l.heads) c.self.view_is in let e = ap head_size heads in let e' = ap head_size c.heads-heads.ensures in let e'' = ap head_size (ap (λ (l : Layout). l.heads) c.self.view_is) in let some = head_size-positive c.args.self.now.heads in omega arith

pub set_header-requires-clause-free : goal.set_header-requires-clause-free
set_header-requires-clause-free c = let h = IsHere-from c.self.inside c.self.invariant.layout c.args.self.now c.self.view_is c.args.at c.entry_at-whole.result c.requires.block (c.entry_at-whole.ensures c.requires.block) in h.unlent (c.args.at - c.base-base.result) (head_size c.heads-heads.result) (omega arith) (ap head_size c.heads-heads.ensures)

pub set_header-requires-clause-size : goal.set_header-requires-clause-size
set_header-requires-clause-size c = let h = IsHere-from c.self.inside c.self.invariant.layout c.args.self.now c.self.view_is c.args.at c.entry_at-whole.result c.requires.block (c.entry_at-whole.ensures c.requires.block) in let size : c.entry_at-whole.result.size ≡ size_of c.args.self.now.heads c.requires.block.here = ap (λ (h : Header). h.size) (c.entry_at-whole.ensures c.requires.block) in let smaller = c.requires.smaller in let large = c.requires.large in let end = ap address_end c.heads-heads.ensures in omega arith

pub set_header-requires-clause-correction : goal.set_header-requires-clause-correction
set_header-requires-clause-correction c = let h = IsHere-from c.self.inside c.self.invariant.layout c.args.self.now c.self.view_is c.args.at c.entry_at-whole.result c.requires.block (c.entry_at-whole.ensures c.requires.block) in let size : c.entry_at-whole.result.size ≡ size_of c.args.self.now.heads c.requires.block.here = ap (λ (h : Header). h.size) (c.entry_at-whole.ensures c.requires.block) in let smaller = c.requires.smaller in let large = c.requires.large in let heads = c.heads-heads.ensures ∙ ap (λ (l : Layout). l.heads) c.self.view_is in let e = ap head_size heads in let e' = ap head_size c.heads-heads.ensures in let e'' = ap head_size (ap (λ (l : Layout). l.heads) c.self.view_is) in let some = head_size-positive c.args.self.now.heads in let p = IsPossible-from c.args.self.now.heads (raw_block c.requires.block.here.role c.args.length (take (c.args.size - head_size c.args.self.now.heads) (body c.requires.block.here))) c.requires.front in
    let few = p.few in let rest = length-drop c.args.length (take (c.args.size - head_size c.args.self.now.heads) (body c.requires.block.here)) in
    let sum = size-body c.args.self.now.heads c.requires.block.here in
    let cut = length-take-le (c.args.size - head_size c.args.self.now.heads) (body c.requires.block.here) (omega arith) in let most = ap most_over heads in let k = c.head_size.ensures in omega arith

pub set_header-requires-2-clause-inside : goal.set_header-requires-2-clause-inside
set_header-requires-2-clause-inside c = let h = IsHere-from c.self.inside c.self.invariant.layout c.args.self.now c.self.view_is c.args.at c.entry_at-whole.result c.requires.block (c.entry_at-whole.ensures c.requires.block) in let size : c.entry_at-whole.result.size ≡ size_of c.args.self.now.heads c.requires.block.here = ap (λ (h : Header). h.size) (c.entry_at-whole.ensures c.requires.block) in let smaller = c.requires.smaller in let large = c.requires.large in let heads = c.heads-heads.ensures ∙ ap (λ (l : Layout). l.heads) c.self.view_is in let e = ap head_size heads in let e' = ap head_size c.heads-heads.ensures in let e'' = ap head_size (ap (λ (l : Layout). l.heads) c.self.view_is) in let some = head_size-positive c.args.self.now.heads in let long : length c.set_header.new.self.bytes ≡ length c.self.inside.memory.bytes = ap (λ (m : State). length m.bytes) c.set_header.ensures ∙ length-written c.self.inside.memory.bytes _ _ in omega arith

pub set_header-requires-2-clause-free : goal.set_header-requires-2-clause-free
set_header-requires-2-clause-free c = let h = IsHere-from c.self.inside c.self.invariant.layout c.args.self.now c.self.view_is c.args.at c.entry_at-whole.result c.requires.block (c.entry_at-whole.ensures c.requires.block) in let size : c.entry_at-whole.result.size ≡ size_of c.args.self.now.heads c.requires.block.here = ap (λ (h : Header). h.size) (c.entry_at-whole.ensures c.requires.block) in let smaller = c.requires.smaller in let large = c.requires.large in let heads = c.heads-heads.ensures ∙ ap (λ (l : Layout). l.heads) c.self.view_is in let e = ap head_size heads in let e' = ap head_size c.heads-heads.ensures in let e'' = ap head_size (ap (λ (l : Layout). l.heads) c.self.view_is) in let some = head_size-positive c.args.self.now.heads in subst (λ (ss : List Span). IsFree ss (c.args.at - c.base-base.result + c.args.size) (head_size c.heads-heads.result)) (sym (ap (λ (m : State). m.lent) c.set_header.ensures))
    (unlent-here c.self.inside c.self.invariant.layout c.args.self.now c.self.view_is c.args.at c.entry_at-whole.result c.requires.block (c.entry_at-whole.ensures c.requires.block) c.requires.unlent
    (c.args.at - c.base-base.result + c.args.size) (head_size c.heads-heads.result) (omega arith) (omega arith))

pub set_header-requires-2-clause-size : goal.set_header-requires-2-clause-size
set_header-requires-2-clause-size c = let h = IsHere-from c.self.inside c.self.invariant.layout c.args.self.now c.self.view_is c.args.at c.entry_at-whole.result c.requires.block (c.entry_at-whole.ensures c.requires.block) in let end = ap address_end c.heads-heads.ensures in omega arith

pub set-requires-clause-inside : goal.set-requires-clause-inside
set-requires-clause-inside c = let h = IsHere-from c.self.inside c.self.invariant.layout c.args.self.now c.self.view_is c.args.at c.entry_at-whole.result c.requires.block (c.entry_at-whole.ensures c.requires.block) in let some = head_size-positive c.self.inside.spec.heads in omega arith

pub set-requires-2-clause-inside : goal.set-requires-2-clause-inside
set-requires-2-clause-inside c = let long : length c.set.new.self ≡ length c.self.inside.index = ap length c.set.ensures ∙ length-set c.self.inside.index _ _ in let h = IsHere-from c.self.inside c.self.invariant.layout c.args.self.now c.self.view_is c.args.at c.entry_at-whole.result c.requires.block (c.entry_at-whole.ensures c.requires.block) in let size : c.entry_at-whole.result.size ≡ size_of c.args.self.now.heads c.requires.block.here = ap (λ (h : Header). h.size) (c.entry_at-whole.ensures c.requires.block) in let smaller = c.requires.smaller in let large = c.requires.large in let heads = c.heads-heads.ensures ∙ ap (λ (l : Layout). l.heads) c.self.view_is in let e = ap head_size heads in let e' = ap head_size c.heads-heads.ensures in let e'' = ap head_size (ap (λ (l : Layout). l.heads) c.self.view_is) in let some = head_size-positive c.args.self.now.heads in omega arith

pub count_free-requires-clause-count : goal.count_free-requires-clause-count
count_free-requires-clause-count c = let z = c.self.inside in let small = c.base-base.ensures.possible in let r = c.entry_at-whole.result in
    let h = IsHere-from c.self.inside c.self.invariant.layout c.args.self.now c.self.view_is c.args.at c.entry_at-whole.result c.requires.block (c.entry_at-whole.ensures c.requires.block) in let size : c.entry_at-whole.result.size ≡ size_of c.args.self.now.heads c.requires.block.here = ap (λ (h : Header). h.size) (c.entry_at-whole.ensures c.requires.block) in let smaller = c.requires.smaller in let large = c.requires.large in let heads = c.heads-heads.ensures ∙ ap (λ (l : Layout). l.heads) c.self.view_is in let e = ap head_size heads in let e' = ap head_size c.heads-heads.ensures in let e'' = ap head_size (ap (λ (l : Layout). l.heads) c.self.view_is) in let some = head_size-positive c.args.self.now.heads in
    let front : Header = record { size = c.args.size; role = r.role; correction = c.args.size - c.head_size.result - c.args.length } in
    let rest : Header = record { size = r.size - c.args.size; role = Free; correction = 0 } in
    let gained = c.free_bytes.ensures in let lost = c.free_bytes-2.ensures in let few = free_in-small front in let among = h.counted in
    can-count z c.self.invariant.layout small c.set_header-2.new.self c.set-2.new.self c.base-base.result (c.free_bytes.result + (r.size - c.args.size)) c.free_bytes-2.result
    (kept-written z c.set_header.new.self c.set_header-2.new.self (c.args.at - c.base-base.result + c.args.size) (head_bytes c.heads-heads.result c.base-base.result rest)
    (kept-written z z.memory c.set_header.new.self (c.args.at - c.base-base.result) (head_bytes c.heads-heads.result c.base-base.result front) (kept-first z c.self.invariant.layout small) c.set_header.ensures (omega arith))
    c.set_header-2.ensures (omega arith))
    (ap length c.set-2.ensures ∙ length-set c.set.new.self _ _ ∙ ap length c.set.ensures ∙ length-set z.index _ _) c.base-base.ensures.value (omega arith) (omega arith)

pub count_free-requires-clause-low : goal.count_free-requires-clause-low
count_free-requires-clause-low c = let z = c.self.inside in let small = c.base-base.ensures.possible in let r = c.entry_at-whole.result in
    let h = IsHere-from c.self.inside c.self.invariant.layout c.args.self.now c.self.view_is c.args.at c.entry_at-whole.result c.requires.block (c.entry_at-whole.ensures c.requires.block) in let size : c.entry_at-whole.result.size ≡ size_of c.args.self.now.heads c.requires.block.here = ap (λ (h : Header). h.size) (c.entry_at-whole.ensures c.requires.block) in let smaller = c.requires.smaller in let large = c.requires.large in let heads = c.heads-heads.ensures ∙ ap (λ (l : Layout). l.heads) c.self.view_is in let e = ap head_size heads in let e' = ap head_size c.heads-heads.ensures in let e'' = ap head_size (ap (λ (l : Layout). l.heads) c.self.view_is) in let some = head_size-positive c.args.self.now.heads in
    let front : Header = record { size = c.args.size; role = r.role; correction = c.args.size - c.head_size.result - c.args.length } in
    let rest : Header = record { size = r.size - c.args.size; role = Free; correction = 0 } in
    let gained = c.free_bytes.ensures in let lost = c.free_bytes-2.ensures in let few = free_in-small front in let among = h.counted in
    none-lower z c.set_header-2.new.self c.set-2.new.self c.base-base.result ((c.args.at - c.base-base.result) / 4)
    (kept-written z c.set_header.new.self c.set_header-2.new.self (c.args.at - c.base-base.result + c.args.size) (head_bytes c.heads-heads.result c.base-base.result rest)
    (kept-written z z.memory c.set_header.new.self (c.args.at - c.base-base.result) (head_bytes c.heads-heads.result c.base-base.result front) (kept-first z c.self.invariant.layout small) c.set_header.ensures (omega arith))
    c.set_header-2.ensures (omega arith))
    c.base-base.ensures.value (λ j before. set-after c.set.new.self c.set-2.new.self _ _ ((c.args.at - c.base-base.result) / 4) c.set-2.ensures (omega arith) j before
    ∙ set-after z.index c.set.new.self _ _ ((c.args.at - c.base-base.result) / 4) c.set.ensures (omega arith) j before)

pub overflow_cast-second-2 : goal.overflow_cast-second-2
overflow_cast-second-2 c = let h = IsHere-from c.self.inside c.self.invariant.layout c.args.self.now c.self.view_is c.args.at c.entry_at-whole.result c.requires.block (c.entry_at-whole.ensures c.requires.block) in
    let size : c.entry_at-whole.result.size ≡ size_of c.args.self.now.heads c.requires.block.here = ap (λ (h : Header). h.size) (c.entry_at-whole.ensures c.requires.block) in let smaller = c.requires.smaller in
    let small = c.base-base.ensures.possible.small_enough in omega arith

-- what the fields stand for then
cut_apart : (c : goal.After-count_free) (can : CanSplit c.args.self.now c.args.at c.args.size c.args.length)
    → IsReadWhole (record c.self.inside { memory = c.count_free.new.memory; index = c.set-2.new.self; kept = c.note-2.new.kept })
    (with_blocks (can.block.before ++ front_of c.args.self.now can ∷ rest_of c.args.self.now can ∷ can.block.after) c.args.self.now)
cut_apart c can = let z = c.self.inside in let at = c.args.at in let n = c.args.length in let size = c.args.size in let r = c.entry_at-whole.result in
    subst (λ (l : Layout). (can : CanSplit l at size n) → ((b : BlockAt l at) → r ≡ header_of l.heads b.here)
    → IsReadWhole (record z { memory = c.count_free.new.memory; index = c.set-2.new.self; kept = c.note-2.new.kept }) (with_blocks (can.block.before ++ front_of l can ∷ rest_of l can ∷ can.block.after) l)) c.self.view_is
    (λ can entry.
    let b = can.block in let heads = z.spec.heads in let k = head_size heads in let xs = body b.here in let i = IsIn-from z c.self.invariant.layout b.before b.here b.after b.blocks in let place = b.place in
    let first = raw_block b.here.role n (take (size - k) xs) in let second = free_raw_block (drop size xs) in let cut = take k (drop (size - k) xs) in
    let smaller = can.smaller in let large = can.large in
    let whole_size : r.size ≡ size_of heads b.here = ap (λ (h : Header). h.size) (entry b) in let whole_body = size-body heads b.here in
    let front_long : length (take (size - k) xs) ≡ size - k = length-take-le (size - k) xs (omega arith) in
    let back_long : length (drop (size - k) xs) ≡ length xs - (size - k) = length-drop (size - k) xs in let rest_long : length (drop size xs) ≡ length xs - size = length-drop size xs in
    let cut_long : length cut ≡ k = length-take-le k (drop (size - k) xs) (omega arith) in
    let after_cut : drop k (drop (size - k) xs) ≡ drop size xs = drop-drop k (size - k) xs ∙ ap (λ (j : ℕ). drop j xs) (let e : size - k + k ≡ size = omega arith in e) in
    let apart : xs ≡ body first ++ (cut ++ body second) =
    sym (take-append-drop (size - k) xs)
    ∙ ap (λ (ys : List ℕ). take (size - k) xs ++ ys) (sym (take-append-drop k (drop (size - k) xs)) ∙ ap (λ (ys : List ℕ). cut ++ ys) (after_cut ∙ sym (append-nil (drop size xs))))
    ∙ ap (λ (ys : List ℕ). ys ++ (cut ++ body second)) (sym (body-raw_block b.here.role n (take (size - k) xs))) in
    let heads_size : c.head_size.result ≡ k = c.head_size.ensures ∙ ap head_size c.heads-heads.ensures in
    let first_size : size_of heads first ≡ size = size-body heads first ∙ ap (λ (ys : List ℕ). k + length ys) (body-raw_block b.here.role n (take (size - k) xs)) ∙ omega arith in
    let first_header : record { size = size; role = r.role; correction = size - c.head_size.result - n } ≡ header_of heads first =
    (λ i. record { size = size; role = (entry b i).role; correction = size - heads_size i - n }) ∙ header-raw_block heads b.here.role n size (take (size - k) xs) (omega arith) in
    let second_header : record { size = r.size - size; role = Free; correction = 0 } ≡ header_of heads second =
    ap (λ (j : ℕ). record { size = j; role = Free; correction = 0 }) (let e : r.size - size ≡ size_of heads second = omega arith in e) in
    let read = split-changed z c.self.invariant.layout c.base-base.ensures.possible b.before b.here b.after b.blocks can.unlent first second cut apart cut_long c.set_header-2.new.self c.count_free.new.memory c.set-2.new.self
    c.base-base.result (c.free_bytes.result + (r.size - size)) c.free_bytes-2.result can.front can.rest refl refl
    (ap (λ (m : State). m.name) c.set_header-2.ensures ∙ ap (λ (m : State). m.name) c.set_header.ensures) (ap (λ (m : State). m.lent) c.set_header-2.ensures ∙ ap (λ (m : State). m.lent) c.set_header.ensures)
    (ap (λ (m : State). m.bytes) c.set_header-2.ensures
    ∙ ap (λ (m : List ℕ). written m (at - c.base-base.result + size) (head_bytes c.heads-heads.result c.base-base.result (record { size = r.size - size; role = Free; correction = 0 })))
    (ap (λ (m : State). m.bytes) c.set_header.ensures ∙ head-written z b.before (header_of heads b.here) (xs ++ rear (layout_of z) b.after) i.bytes (at - c.base-base.result) c.heads-heads.result c.base-base.result
    (record { size = size; role = r.role; correction = size - c.head_size.result - n }) (header_of heads first) (omega arith) c.heads-heads.ensures c.base-base.ensures.value first_header)
    ∙ (λ i. written (front (layout_of z) b.before ++ (head (layout_of z) first ++ (xs ++ rear (layout_of z) b.after))) (at - c.base-base.result + size)
    (head_bytes (c.heads-heads.ensures i) (c.base-base.ensures.value i) (second_header i)))
    ∙ split-written z c.self.invariant.layout c.base-base.ensures.possible b.before b.here b.after b.blocks can.unlent first second cut apart cut_long (at - c.base-base.result + size) (omega arith))
    ((at - c.base-base.result) / 4) ((at - c.base-base.result + size) / 4) (omega arith) (omega arith)
    (c.set-2.ensures ∙ ap (λ (ms : List ℕ). set ms ((at - c.base-base.result + size) / 4) free_mark) c.set.ensures
    ∙ ap (λ (m : ℕ). set (set z.index ((at - c.base-base.result) / 4) m) ((at - c.base-base.result + size) / 4) free_mark) (c.mark.ensures.value ∙ ap mark_in first_header))
    c.base-base.ensures.value (let gained = c.free_bytes.ensures ∙ ap free_in first_header in omega arith) (c.free_bytes-2.ensures ∙ ap free_in (entry b)) c.count_free.ensures in
    let own = c.own_size.ensures ∙ (λ i. own_most (c.heads-heads.ensures i) (first_header i)) in
    heads-whole z c.self.invariant b.before b.here first second b.after b.blocks read c.note.new.kept c.note-2.new.kept (at - c.base-base.result) (at - c.base-base.result + size) c.own_size.result c.head_size-2.result
    (omega arith) (omega arith) own (c.head_size-2.ensures ∙ ap head_size c.heads-heads.ensures) c.note.ensures c.note-2.ensures
    c.set_header.new.self c.set_header-2.new.self c.heads-heads.result c.base-base.result (record { size = size; role = r.role; correction = size - c.head_size.result - n }) (record { size = r.size - size; role = Free; correction = 0 })
    (ap head_size c.heads-heads.ensures) c.set_header.ensures c.set_header-2.ensures
    (counted-stay c.set_header-2.new.self c.count_free.new.memory c.base-base.result (c.free_bytes.result + (r.size - size)) c.free_bytes-2.result (first_marked c.base-base.result c.set-2.new.self) c.count_free.ensures))
    can c.entry_at-whole.ensures

pub invariant_of-self : goal.invariant_of-self
invariant_of-self c = (cut_apart c c.requires).whole

pub returns : goal.returns
returns c = λ can. (cut_apart c can).view
