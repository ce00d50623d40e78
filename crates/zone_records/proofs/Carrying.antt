-- A block that is carried past those after it, or sunk below those before it.
use Rattle.std.proofs.Common.{◌≡◌, ◌+◌, ℕ, Bool, not, ◌&&◌, List, [], ◌∷◌, ◌++◌, refl, ap, sym, ◌∙◌, subst, append_assoc}
use Rattle.mac_base.specs.declared.block.HeadKind.{HeadKind}
use Rattle.block_bytes.specs.Layout as raw
use Rattle.block_bytes.specs.Layout.{RawBlock, Layout, Carried, Sunk}
use Rattle.zone_records.specs.Records as records
use Rattle.zone_records.specs.Records.{BlockRecord, ZoneRecords}
use Rattle.zone_records.specs.Places.{ParcelAt, ParcelUpTo, none_lent}
use Rattle.zone_records.specs.Changes.{carried, sunk}
use Rattle.zone_records.proofs.Apart.{read, total-read, read-append, One, InTwo, in-two}
use Rattle.zone_records.proofs.Held.{Held, address-is, one}
use Rattle.zone_records.proofs.Turning.{kept-same, kept-moved, turned}

-- blocks of bytes of which none is lent
pub lent-read : (heads : HeadKind) (base : ℕ) (bs : List RawBlock) → raw.none_lent bs ≡ none_lent (read heads base bs)
lent-read heads base [] = refl
lent-read heads base (b ∷ bs) = ap (λ (t : Bool). not b.lent && t) (lent-read heads base bs)

module _ (l : Layout) (z : ZoneRecords) (held : Held l z) (at end : ℕ) (parcel : ParcelAt z at end) where
  -- the block among the blocks of bytes, and the others after it
  abbrev pub first_one : One l parcel.before parcel.here (parcel.others ++ parcel.after)
  first_one = one l z held parcel.before parcel.here (parcel.others ++ parcel.after) parcel.blocks

  abbrev pub others_two : InTwo l.heads l.base first_one.rest parcel.others parcel.after
  others_two = in-two l.heads l.base first_one.rest parcel.others parcel.after first_one.upper

  pub run_blocks : l.blocks ≡ first_one.first ++ (first_one.block ∷ others_two.first ++ others_two.rest)
  run_blocks = first_one.blocks ∙ ap (λ (bs : List RawBlock). first_one.first ++ first_one.block ∷ bs) others_two.blocks

  -- they are read as the run
  pub run_read : read l.heads l.base (first_one.block ∷ others_two.first) ≡ parcel.here ∷ parcel.others
  run_read = λ i. first_one.same i ∷ others_two.lower i

  -- the parcel of blocks of bytes
  abbrev pub raw-parcel : raw.ParcelAt l at end
  raw-parcel = record {
    before = first_one.first;
    here = first_one.block;
    others = others_two.first;
    after = others_two.rest;
    blocks = run_blocks;
    place = parcel.place ∙ address-is l z held first_one.first parcel.before first_one.lower;
    long = parcel.long ∙ ap (λ n. at + n) (sym (ap records.total_of run_read) ∙ total-read l.heads l.base (first_one.block ∷ others_two.first));
    unlent = lent-read l.heads l.base (first_one.block ∷ others_two.first) ∙ ap none_lent run_read ∙ parcel.unlent;
  }

  pub carry-ends : (m : Layout) → Carried l raw-parcel m → Held m (carried z parcel)
  carry-ends m ends =
      let o = first_one in let t = others_two in
      subst (λ m. Held m (carried z parcel)) (sym ends.blocks)
      (turned l z held o.first (o.block ∷ []) t.first (ends.moved ∷ []) t.first t.rest parcel.before (parcel.here ∷ []) parcel.others parcel.after run_blocks o.lower
      (ap (λ r. r ∷ []) o.same) t.lower t.upper (kept-moved l.heads l.base o.block ends.moved ends.same) (kept-same l.heads l.base t.first))

module _ (l : Layout) (z : ZoneRecords) (held : Held l z) (start at : ℕ) (parcel : ParcelUpTo z start at) where
  -- the block among the blocks of bytes, and the others before it
  abbrev pub last_one : One l (parcel.before ++ parcel.others) parcel.here parcel.after
  last_one = one l z held (parcel.before ++ parcel.others) parcel.here parcel.after (parcel.blocks ∙ sym (append_assoc parcel.before parcel.others (parcel.here ∷ parcel.after)))

  abbrev pub before_two : InTwo l.heads l.base last_one.first parcel.before parcel.others
  before_two = in-two l.heads l.base last_one.first parcel.before parcel.others last_one.lower

  pub sink_blocks : l.blocks ≡ before_two.first ++ (before_two.rest ++ last_one.block ∷ last_one.rest)
  sink_blocks = last_one.blocks ∙ ap (λ (bs : List RawBlock). bs ++ last_one.block ∷ last_one.rest) before_two.blocks ∙ append_assoc before_two.first before_two.rest (last_one.block ∷ last_one.rest)

  -- they are read as the run
  pub sink_read : read l.heads l.base (before_two.rest ++ last_one.block ∷ []) ≡ parcel.others ++ parcel.here ∷ []
  sink_read = read-append l.heads l.base before_two.rest (last_one.block ∷ []) ∙ (λ i. before_two.upper i ++ last_one.same i ∷ [])

  -- the parcel of blocks of bytes
  abbrev pub raw-parcel_up : raw.ParcelUpTo l start at
  raw-parcel_up = record {
    before = before_two.first;
    others = before_two.rest;
    here = last_one.block;
    after = last_one.rest;
    blocks = sink_blocks;
    place = parcel.place ∙ address-is l z held before_two.first parcel.before before_two.lower;
    long = parcel.long ∙ ap (λ n. start + n) (sym (ap records.total_of before_two.upper) ∙ total-read l.heads l.base before_two.rest);
    unlent = lent-read l.heads l.base (before_two.rest ++ last_one.block ∷ []) ∙ ap none_lent sink_read ∙ parcel.unlent;
  }

  pub sink-ends : (m : Layout) → Sunk l raw-parcel_up m → Held m (sunk z parcel)
  sink-ends m ends =
      let o = last_one in let t = before_two in
      subst (λ m. Held m (sunk z parcel)) (sym ends.blocks)
      (turned l z held t.first t.rest (o.block ∷ []) t.rest (ends.moved ∷ []) o.rest parcel.before parcel.others (parcel.here ∷ []) parcel.after sink_blocks t.lower
      t.upper (ap (λ r. r ∷ []) o.same) o.upper (kept-same l.heads l.base t.rest) (kept-moved l.heads l.base o.block ends.moved ends.same))
