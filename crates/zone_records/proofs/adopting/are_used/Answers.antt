use Rattle.std.proofs.Common.{◌≡◌, ◌+◌, ◌∙◌, ℕ, true, refl, ap, arith}
use Rattle.block_bytes.specs.declared.header.Header.{Header}
use Rattle.block_bytes.specs.Layout.{BlockAt, size_of}
use Rattle.block_bytes.proofs.Walking.{size_of-pos}
use Rattle.zone_records.proofs.Adopted.{NextHere, used-none, next-here, block-here, unlent-here, used-more, one-used, used-all}
use Rattle.zone_records.proofs.adopting.are_used.Goals as goal
use Rattle.zone_records.proofs.adopting.are_used.Goals.{In-loop-at, After-entry_at-header}

-- the block that is next
next : (c : In-loop-at) → NextHere c.args.blocks.now c.loop-at.at c.loop-at.invariant.split
next c = let below = c.loop-at-test.true in let end = c.end-end.ensures in next-here c.args.blocks.now c.loop-at.at c.loop-at.invariant.split (omega arith)

block : (c : In-loop-at) → BlockAt c.args.blocks.now c.loop-at.at
block c = block-here c.args.blocks.now c.loop-at.at c.loop-at.invariant.split (next c)

pub loop-at-init : goal.loop-at-init
loop-at-init c = let base = c.base-at.ensures.value ∙ c.spec.ensures.base in used-none c.args.blocks.now (c.base-at.result + 52) (omega arith)

pub is_used-requires : goal.is_used-requires
is_used-requires c = let n = next (goal.at.is_used-requires c).In-loop-at in record {
  unlent = unlent-here c.args.blocks.now c.loop-at.at c.loop-at.invariant.split n c.requires;
  role = λ b. ap (λ (h : Header). h.role) (c.entry_at-header.ensures b);
}

pub returns-then-not-is_used : goal.returns-then-not-is_used
returns-then-not-is_used c =
    let l = c.args.blocks.now in let i = (goal.at.returns-then-not-is_used c).In-loop-at in let n = next i in (
      λ yes. absurd (cc yes),
      λ all.
          let yes : c.is_used.result ≡ true = (c.is_used.ensures (block-here l c.loop-at.at c.loop-at.invariant.split n)).1 (one-used l c.loop-at.at c.loop-at.invariant.split n all) in
          let no = c.if-not-is_used.true in absurd (cc (yes, no)),
    )

pub entry_at-header-requires : goal.entry_at-header-requires
entry_at-header-requires c = block (goal.at.entry_at-header-requires c).In-loop-at

pub overflow_add-at-in-loop-at : goal.overflow_add-at-in-loop-at
overflow_add-at-in-loop-at c =
    let l = c.args.blocks.now in let n = next (goal.at.overflow_add-at-in-loop-at c).In-loop-at in let within = n.within in let end = c.end-end.ensures in let small = c.end-end.type_inv in
    let size : c.entry_at-header.result.size ≡ size_of l.heads n.here = ap (λ (h : Header). h.size) (c.entry_at-header.ensures (block-here l c.loop-at.at c.loop-at.invariant.split n)) in omega arith

pub loop-at-smaller : goal.loop-at-smaller
loop-at-smaller c =
    let l = c.args.blocks.now in let n = next (goal.at.loop-at-smaller c).In-loop-at in let some = size_of-pos l.heads n.here in let below = c.loop-at-test.true in
    let size : c.entry_at-header.result.size ≡ size_of l.heads n.here = ap (λ (h : Header). h.size) (c.entry_at-header.ensures (block-here l c.loop-at.at c.loop-at.invariant.split n)) in omega arith

pub loop-at-preserved : goal.loop-at-preserved
loop-at-preserved c =
    let l = c.args.blocks.now in let s = c.loop-at.invariant.split in let n = next (goal.at.loop-at-preserved c).In-loop-at in let b = block-here l c.loop-at.at s n in
    let size : c.entry_at-header.result.size ≡ size_of l.heads n.here = ap (λ (h : Header). h.size) (c.entry_at-header.ensures b) in
    used-more l c.loop-at.at s n c.loop-at.invariant.used ((c.is_used.ensures b).0 c.if-not-is_used.false) (c.loop-at.at + c.entry_at-header.result.size) (ap (λ (n : ℕ). c.loop-at.at + n) size)

pub returns : goal.returns
returns c = let end = c.end-end.ensures in let above = c.loop-at-test.false in (λ yes. used-all c.args.blocks.now c.loop-at.at c.loop-at.invariant (omega arith), λ all. refl)
