-- The first free block from an address on, and how many bytes are free.
use Rattle.std.proofs.Common.{◌≡◌, ℕ, ◌+◌, true, cond, not, ◌&&◌, List, [], ◌∷◌, ◌++◌, refl, ap, sym, ◌∙◌, append_assoc, IsTrue, arith}
use Rattle.mac_base.specs.declared.block.HeadKind.{HeadKind}
use Rattle.block_bytes.specs.declared.header.Role.TheVariants as role
use Rattle.block_bytes.specs.Layout as raw
use Rattle.block_bytes.specs.Layout.{RawBlock, Layout, size_of}
use Rattle.block_bytes.specs.Finding as finding
use Rattle.zone_records.specs.Records.{Free, BlockRecord, block_record, ZoneRecords, address_after}
use Rattle.zone_records.specs.Reading.{is_sound}
use Rattle.zone_records.specs.Places.{SplitAt, FirstFree, LastFree, none_free, free_total}
use Rattle.zone_records.proofs.Apart.{read, read-append, total-read, InTwo, in-two}
use Rattle.zone_records.proofs.Held.{Held, address-is, sound-one}
use Rattle.zone_records.proofs.Looking.{free-same, free-record}

-- none of the blocks is free where none of bytes is
none-same : (heads : HeadKind) (base : ℕ) (bs : List RawBlock) → finding.none_free bs ≡ none_free (read heads base bs)
none-same heads base [] = refl
none-same heads base (b ∷ bs) = λ i. not (free-same heads base b.role b.contents i) && none-same heads base bs i

-- they have the same free bytes
pub free_total-same : (heads : HeadKind) (base : ℕ) (bs : List RawBlock) → raw.free_total heads bs ≡ free_total (read heads base bs)
free_total-same heads base [] = refl
free_total-same heads base (b ∷ bs) = λ i. cond (free-same heads base b.role b.contents i) (size_of heads b) 0 + free_total-same heads base bs i

-- a free one among blocks, as it is read
free-among : (heads : HeadKind) (base : ℕ) (rs : List BlockRecord) (bs before : List RawBlock) (b : RawBlock) (after : List RawBlock) → read heads base bs ≡ rs → bs ≡ before ++ b ∷ after → b.role ≡ role.Free → is_sound heads base b ≡ true
    → rs ≡ read heads base before ++ block_record Free (size_of heads b) ∷ read heads base after
free-among heads base rs bs before b after is blocks free sound = sym is ∙ ap (read heads base) blocks ∙ read-append heads base before (b ∷ after)
    ∙ ap (λ (r : BlockRecord). read heads base before ++ r ∷ read heads base after) (free-record heads base b free sound)

module _ (l : Layout) (z : ZoneRecords) (held : Held l z) (from : ℕ) (split : SplitAt z from) where
  -- the blocks of bytes before the address, and those after it
  abbrev parts : InTwo l.heads l.base l.blocks split.before split.after
  parts = in-two l.heads l.base l.blocks split.before split.after (ap (λ (z : ZoneRecords). z.blocks) held.shows ∙ split.blocks)

  abbrev pub raw-split : finding.SplitAt l from
  raw-split = record { before = parts.first; after = parts.rest; blocks = parts.blocks; place = split.place ∙ address-is l z held parts.first split.before parts.lower }

  -- the first free one of those after it
  pub first-free : (at : ℕ) → finding.FirstFree l.heads parts.rest from at → FirstFree split.after from at
  first-free at found =
      let sound = sound-one l (parts.first ++ found.passed) found.here found.after held.sound
      (parts.blocks ∙ ap (λ (bs : List RawBlock). parts.first ++ bs) found.blocks ∙ sym (append_assoc parts.first found.passed (found.here ∷ found.after))) in
      record {
        passed = read l.heads l.base found.passed;
        size = size_of l.heads found.here;
        after = read l.heads l.base found.after;
        blocks = free-among l.heads l.base split.after parts.rest found.passed found.here found.after parts.upper found.blocks found.free sound;
        used = sym (none-same l.heads l.base found.passed) ∙ found.used;
        place = found.place ∙ ap (λ n. from + n) (sym (total-read l.heads l.base found.passed));
      }

  -- the last free one of those before it
  pub last-free : (at : ℕ) → finding.LastFree l.heads parts.first (raw.address_after l []) at → LastFree split.before (address_after z.shape []) at
  last-free at found =
      let sound = sound-one l found.front found.here (found.passed ++ parts.rest) held.sound
      (parts.blocks ∙ ap (λ (bs : List RawBlock). bs ++ parts.rest) found.blocks ∙ append_assoc found.front (found.here ∷ found.passed) parts.rest) in
      record {
        front = read l.heads l.base found.front;
        size = size_of l.heads found.here;
        passed = read l.heads l.base found.passed;
        blocks = free-among l.heads l.base split.before parts.first found.front found.here found.passed parts.lower found.blocks found.free sound;
        used = sym (none-same l.heads l.base found.passed) ∙ found.used;
        place = (let there = found.place in let total = total-read l.heads l.base found.front in let start = address-is l z held [] [] refl in omega arith);
      }

  -- none of them is free where none of bytes is
  pub none-before : IsTrue (finding.none_free parts.first) → IsTrue (none_free split.before)
  none-before none = ap none_free (sym parts.lower) ∙ sym (none-same l.heads l.base parts.first) ∙ none

  -- none is free where none of bytes is
  pub none-after : IsTrue (finding.none_free parts.rest) → IsTrue (none_free split.after)
  none-after none = ap none_free (sym parts.upper) ∙ sym (none-same l.heads l.base parts.rest) ∙ none
