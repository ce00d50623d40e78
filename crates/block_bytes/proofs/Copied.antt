-- Bytes of one block over those of another.
use Rattle.std.proofs.Common.{◌≡◌, Bool, Option, false, ℕ, ◌+◌, ◌-◌, ◌≤◌, List, [], ◌∷◌, ◌++◌, length, take, drop, sym, ap, ◌∙◌, subst, arith, append_assoc}
use Rattle.std.proofs.lemmas.List.{drop-drop}
use Rattle.mac_base.specs.HeadKind.{head_size}
use Rattle.mac_base.specs.ZoneSizes.{ArePossible}
use Rattle.mac_base.specs.ZoneState as over
use Rattle.raw_region.specs.Bytes.{part, written}
use Rattle.raw_region.specs.Span.{IsFree}
use Rattle.raw_region.specs.State.{with_bytes}
use Rattle.raw_region.proofs.Lists.{written_is, part_long}
use Rattle.block_bytes.specs.declared.blocks.Blocks.TheInside.{Inside}
use Rattle.block_bytes.specs.Layout.{Layout, BlockAt, with_blocks}
use Rattle.block_bytes.specs.Copying.{CanCopy, copied_over}
use Rattle.block_bytes.specs.declared.record.Record.{Record}
use Rattle.block_bytes.specs.Reading.{layout_of, IsLayout, IsWhole}
use Rattle.block_bytes.specs.Record.{all_noted}
use Rattle.block_bytes.specs.Structure.{is_master}
use Rattle.std.specs.Prelude.{◌&&◌, is_some, if◌then◌else◌}
use Rattle.block_bytes.proofs.Parts.{IsIn-from}
use Rattle.block_bytes.proofs.Settled.{unlent-free}
use Rattle.block_bytes.proofs.ReadParts.{part-read}
use Rattle.block_bytes.proofs.Recorded.{IsReadWhole, grows-if, noted-awake, written-kept}

-- Where n bytes of contents of a block lie, from a place among them on, whose header is at an address.
pub record LiesAt (z : Inside) (at start n : ℕ) : Type 0 where
  pub inside : (p : ℕ) → p ≡ at - z.spec.base + head_size z.spec.heads + start → p + n ≤ length z.memory.bytes
  pub free : (p : ℕ) → p ≡ at - z.spec.base + head_size z.spec.heads + start → IsFree z.memory.lent p n
  pub low : z.spec.base ≤ at
  pub fits : at - z.spec.base + head_size z.spec.heads + start + n ≤ z.spec.limit

-- those of a block of the list that isn't lent do
lies_at : (z : Inside) → IsLayout z → (at start n : ℕ) (b : BlockAt (layout_of z) at) → b.here.lent ≡ false → start + n ≤ length b.here.contents → LiesAt z at start n
lies_at z whole at start n b unlent within =
    let i = IsIn-from z whole b.before b.here b.after b.blocks in let place = b.place in
    record {
      inside = λ p is. omega arith;
      free = λ p is. unlent-free z whole b.before (b.here ∷ []) b.after b.blocks (unlent, tt) p n (omega arith) (omega arith);
      low = omega arith;
      fits = omega arith;
    }

-- so do those of the block that is copied, and those of the one that is written
pub record CanSlide (z : Inside) (from start to offset n : ℕ) : Type 0 where
  pub source : LiesAt z from start n
  pub target : LiesAt z to offset n

pub can-slide : (z : Inside) → IsLayout z → (l : Layout) → layout_of z ≡ l → (from start to offset n : ℕ) → CanCopy l from start to offset n → CanSlide z from start to offset n
can-slide z whole l is from start to offset n = subst (λ (m : Layout). CanCopy m from start to offset n → CanSlide z from start to offset n) is
    (λ can. record { source = lies_at z whole from start n can.source can.unlent_source can.within_source; target = lies_at z whole to offset n can.target can.unlent_target can.within_target })

-- bytes over others, as both write it
written-over : (old ws : List ℕ) (at : ℕ) → at + length ws ≤ length old → written old at ws ≡ over.written at ws old
written-over old ws at fits = written_is old at ws fits ∙ ap (λ (l : List ℕ). take at old ++ (ws ++ l)) (drop-drop (length ws) at old) ∙ sym (append_assoc (take at old) ws (drop (at + length ws) old))

-- what the blocks are then
pub copied-read : (z : Inside) → IsWhole z → ArePossible z.spec → (from start to offset n source target : ℕ) (can : CanCopy (layout_of z) from start to offset n)
    → source ≡ from - z.spec.base + head_size z.spec.heads + start → target ≡ to - z.spec.base + head_size z.spec.heads + offset
    → (own : Bool) (kept : Option Record) → own ≡ (is_some z.kept && is_master can.target.here.role) → kept ≡ (if own then all_noted z.kept else z.kept)
    → IsReadWhole (record z { memory = with_bytes z.memory target (part z.memory.bytes source n); kept = kept })
    (with_blocks (can.target.before ++ copied_over can.target.here offset (take n (drop start can.source.here.contents)) ∷ can.target.after) (layout_of z))
copied-read z whole small from start to offset n source target can from_is to_is own kept own_is noted =
    let s = can.source in let t = can.target in let l = layout_of z in
    let s_place = s.place in let t_place = t.place in let within = can.within_source in let within' = can.within_target in
    let bytes : part z.memory.bytes source n ≡ part s.here.contents start n = part-read z whole.layout s.before s.here s.after s.blocks source start n (omega arith) within in
    let long : length (part s.here.contents start n) ≡ n = part_long s.here.contents start n within in
    let long' : length (part z.memory.bytes source n) ≡ n = ap length bytes ∙ long in
    let read = written-kept z whole small t.before t.here t.after t.blocks offset target (part z.memory.bytes source n) can.unlent_target (omega arith) (omega arith)
    kept (grows-if (length z.memory.bytes) own z.kept kept noted) (λ master i low high. noted-awake own (is_master t.here.role) z.kept kept own_is noted master i) in
    let same : written t.here.contents offset (part z.memory.bytes source n) ≡ over.written offset (part s.here.contents start n) t.here.contents =
    ap (written t.here.contents offset) bytes ∙ written-over t.here.contents (part s.here.contents start n) offset (omega arith) in
    record { view = read.view ∙ ap (λ (cs : List ℕ). with_blocks (t.before ++ (record t.here { contents = cs }) ∷ t.after) l) same; whole = read.whole }
