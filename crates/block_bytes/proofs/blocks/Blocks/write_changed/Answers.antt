use Rattle.std.proofs.Common.{◌≡◌, inl, inr, ℕ, true, false, List, length, take, slice_index, sym, ap, subst, ◌∙◌, arith}
use Rattle.mac_base.specs.HeadKind.{zone_header}
use Rattle.raw_region.specs.Bytes.{length-written, written}
use Rattle.raw_region.proofs.Indexes.{index-written-apart}
use Rattle.raw_region.proofs.Laws.{length-part, part-written}
use Rattle.block_bytes.specs.declared.record.Changed.{Changed}
use Rattle.block_bytes.specs.declared.blocks.Blocks.TheInside.{Inside}
use Rattle.block_bytes.specs.Layout.{Layout, NothingLent, image_of}
use Rattle.block_bytes.specs.Reading.{IsLayout, layout_of}
use Rattle.block_bytes.specs.Record.{AreKnown, IsIn, IsOwn, noted_ranges}
use Rattle.block_bytes.specs.Structure.{AreWritten, EachMaster, HasStructure}
use Rattle.block_bytes.proofs.Asleep.{own-masters, own-structure}
use Rattle.block_bytes.proofs.Owned.{own-low}
use Rattle.block_bytes.proofs.Settled.{header-free, nothing-lent}
use Rattle.block_bytes.proofs.blocks.Blocks.write_changed.Goals as goal

pub copy-requires-clause-unlent : goal.copy-requires-clause-unlent
copy-requires-clause-unlent c = nothing-lent c.self.inside c.self.invariant.layout (subst NothingLent (sym c.self.view_is) c.requires.nothing_lent)

pub write_zone_head-requires-clause-free : goal.write_zone_head-requires-clause-free
write_zone_head-requires-clause-free c = header-free c.self.inside c.self.invariant.layout

-- what is written over other bytes: the ranges that are noted, and then the zone's header
module _ (z : Inside) (whole : IsLayout z) (changed : Changed) (old copied new : List ℕ) (known : AreKnown z.spec.heads (layout_of z).blocks (image_of (layout_of z)) changed old) (listed : changed.all ≡ false)
    (ranges : (i : ℕ) → IsIn (noted_ranges changed) i → slice_index copied i ≡ slice_index z.memory.bytes i) (same : (i : ℕ) → slice_index old i ≡ slice_index z.memory.bytes i → slice_index copied i ≡ slice_index z.memory.bytes i)
    (as_long : length copied ≡ length old) (is : new ≡ written copied 0 (take zone_header z.memory.bytes)) where
  front_long : length (take zone_header z.memory.bytes) ≡ zone_header
  front_long = let low = whole.low in let high = whole.high in let all = whole.all_bytes in length-part z.memory.bytes 0 zone_header (omega arith)

  long : length new ≡ length z.memory.bytes
  long = ap length is ∙ length-written copied 0 (take zone_header z.memory.bytes) ∙ as_long ∙ known.long ∙ sym (ap length whole.form)

  front : take zone_header new ≡ take zone_header z.memory.bytes
  front = let f = front_long in let n = long in let low = whole.low in let high = whole.high in let all = whole.all_bytes in let e = ap length is ∙ length-written copied 0 (take zone_header z.memory.bytes) in
      ap (take zone_header) is ∙ ap (λ (n : ℕ). take n (written copied 0 (take zone_header z.memory.bytes))) (sym front_long) ∙ part-written copied 0 (take zone_header z.memory.bytes) (omega arith)

  own : (i : ℕ) → IsOwn z.spec.heads zone_header (layout_of z).blocks i → slice_index new i ≡ slice_index z.memory.bytes i
  own i is_own = let f = front_long in
      ap (λ (xs : List ℕ). slice_index xs i) is
      ∙ index-written-apart copied 0 (take zone_header z.memory.bytes) i (inr (let low = own-low z.spec.heads zone_header (layout_of z).blocks i is_own in omega arith))
      ∙ elim (known.own i is_own) [
        | inl noted ↦ elim noted [ inl any ↦ (let e : true ≡ false = sym any ∙ listed in cc) | inr among ↦ ranges i among ]
        | inr agrees ↦ same i (agrees ∙ sym (ap (λ (xs : List ℕ). slice_index xs i) whole.form))
      ]

  structure : HasStructure (layout_of z) new
  structure = own-structure z whole new long front own

  masters : EachMaster (AreWritten new) z.spec.heads zone_header (layout_of z).blocks
  masters = own-masters z whole new long own

pub returns-else-changed-clause-same : goal.returns-else-changed-clause-same
returns-else-changed-clause-same c = let z = c.self.inside in
    subst (λ (l : Layout). AreKnown l.heads l.blocks (image_of l) c.args.changed.now c.args.bytes.now → HasStructure l c.write_zone_head.new.bytes) c.self.view_is
    (λ known. structure z c.self.invariant.layout c.args.changed.now c.args.bytes.now c.copy.new.bytes c.write_zone_head.new.bytes known c.if-changed.false
    c.copy.ensures.copied c.copy.ensures.same c.copy.auto.bytes c.write_zone_head.ensures) c.requires.known

pub returns-else-changed-clause-masters : goal.returns-else-changed-clause-masters
returns-else-changed-clause-masters c = let z = c.self.inside in
    subst (λ (l : Layout). AreKnown l.heads l.blocks (image_of l) c.args.changed.now c.args.bytes.now → EachMaster (AreWritten c.write_zone_head.new.bytes) l.heads zone_header l.blocks) c.self.view_is
    (λ known. masters z c.self.invariant.layout c.args.changed.now c.args.bytes.now c.copy.new.bytes c.write_zone_head.new.bytes known c.if-changed.false
    c.copy.ensures.copied c.copy.ensures.same c.copy.auto.bytes c.write_zone_head.ensures) c.requires.known
