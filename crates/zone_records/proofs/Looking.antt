-- What the calls that look for a block find.
use Rattle.std.proofs.Common.{◌≡◌, ℕ, ◌+◌, ◌-◌, ◌%◌, ◌==◌, Bool, not, ◌&&◌, ◌||◌, true, false, nat_le, List, [], ◌∷◌, length, refl, ap, sym, ◌∙◌, arith, inl, inr, Option, Some, None, IfNone}
use Rattle.std.proofs.lemmas.Bool.{and_parts}
use Rattle.mac_base.specs.HeadKind.{smallest_block}
use Rattle.mac_base.specs.declared.block.HeadKind.{HeadKind}
use Rattle.block_bytes.specs.declared.header.Role.{Role}
use Rattle.block_bytes.specs.declared.header.Role.TheVariants as role
use Rattle.block_bytes.specs.Layout as raw
use Rattle.block_bytes.specs.Head.{most_over}
use Rattle.block_bytes.specs.Layout.{RawBlock, Layout, BlockAt, size_of, is_possible, can_be_told}
use Rattle.block_bytes.specs.Finding as finding
use Rattle.block_bytes.specs.Finding.{HoldsByte, LiesOutside}
use Rattle.block_bytes.proofs.ReadBlocks.{head_size-positive}
use Rattle.zone_records.specs.Records.{Free, BlockRecord, ZoneRecords}
use Rattle.zone_records.specs.Places.{RecordAt, FirstFrom, NoneFrom, is_free}
use Rattle.zone_records.specs.Reading.{content_in, record_in, has_use, is_sound}
use Rattle.zone_records.proofs.Apart.{read, read-append}
use Rattle.zone_records.proofs.Held.{Held, address-is, one}
use Rattle.zone_records.proofs.Ranked.{rank, one-block, within, none_before}

-- what follows from what a clause says of `None`
pub IfNone_then : {P Q : Type 0} (r : Option ℕ) → IfNone r P → (P → Q) → IfNone r Q
IfNone_then None h f = f h
IfNone_then (Some n) h f = tt

-- what is in a block is free where the block is
pub free-same : (heads : HeadKind) (base : ℕ) (r : Role) (bytes : List ℕ) → raw.is_free r ≡ is_free (content_in heads base r bytes)
free-same heads base role.Free bytes = refl
free-same heads base role.Fixed bytes = refl
free-same heads base role.Master bytes = refl
free-same heads base (role.Relocatable offset flags) bytes = refl

-- a block has no bytes where nothing is read
none-read : (heads : HeadKind) (base : ℕ) (bs : List RawBlock) → bs ≡ [] → read heads base bs ≡ []
none-read heads base bs is = ap (read heads base) is

-- what a sound block is known to be
pub record Sound (heads : HeadKind) (base : ℕ) (b : RawBlock) : Type 0 where
  pub even : (size_of heads b % 4 == 0) ≡ true
  pub large : nat_le (smallest_block heads) (size_of heads b) ≡ true
  pub few : nat_le (length b.slack) (most_over heads) ≡ true
  pub told : can_be_told heads b.role (length b.slack) ≡ true
  pub owned : (not b.lent || raw.has_owner b.role) ≡ true
  pub use_is : has_use base b.role (length b.contents) ≡ true

pub sound-parts : (heads : HeadKind) (base : ℕ) (b : RawBlock) → is_sound heads base b ≡ true → Sound heads base b
sound-parts heads base b sound =
    let a = and_parts (is_possible heads b) (has_use base b.role (length b.contents)) sound in
    let c = and_parts (size_of heads b % 4 == 0) (nat_le (smallest_block heads) (size_of heads b)
    && (nat_le (length b.slack) (most_over heads) && (can_be_told heads b.role (length b.slack) && (not b.lent || raw.has_owner b.role)))) a.0 in
    let d = and_parts (nat_le (smallest_block heads) (size_of heads b)) (nat_le (length b.slack) (most_over heads) && (can_be_told heads b.role (length b.slack) && (not b.lent || raw.has_owner b.role))) c.1 in
    let e = and_parts (nat_le (length b.slack) (most_over heads)) (can_be_told heads b.role (length b.slack) && (not b.lent || raw.has_owner b.role)) d.1 in
    let f = and_parts (can_be_told heads b.role (length b.slack)) (not b.lent || raw.has_owner b.role) e.1 in
    record { even = c.0; large = d.0; few = e.0; told = f.0; owned = f.1; use_is = a.1 }

-- a block of nobody isn't lent
pub not-lent : (lent : Bool) (r : Role) → raw.has_owner r ≡ false → (not lent || raw.has_owner r) ≡ true → lent ≡ false
not-lent true r is h = absurd (cc (sym is ∙ h))
not-lent false r is h = refl

-- a free block that is sound is free in the list, and not lent
pub free-record : (heads : HeadKind) (base : ℕ) (b : RawBlock) → b.role ≡ role.Free → is_sound heads base b ≡ true → record_in heads base b ≡ record { size = size_of heads b; content = Free; lent = false }
free-record heads base b is sound =
    let unlent : b.lent ≡ false = not-lent b.lent b.role (ap raw.has_owner is) (sound-parts heads base b sound).owned in
    λ i. record { size = size_of heads b; content = ap (λ r. content_in heads base r b.contents) is i; lent = unlent i }

module _ (l : Layout) (z : ZoneRecords) (held : Held l z) where
  -- a block of bytes where a block's header is
  pub record OfRecord (at : ℕ) (r : RecordAt z at) : Type 0 where
    pub block : BlockAt l at
    pub same : record_in l.heads l.base block.here ≡ r.here
    pub lower : read l.heads l.base block.before ≡ r.before
    pub upper : read l.heads l.base block.after ≡ r.after

  pub of-record : (at : ℕ) (r : RecordAt z at) → OfRecord at r
  of-record at r =
      let o = one l z held r.before r.here r.after r.blocks in
      record {
        block = record { before = o.first; here = o.block; after = o.rest; blocks = o.blocks; place = r.place ∙ address-is l z held o.first r.before o.lower };
        same = o.same;
        lower = o.lower;
        upper = o.upper;
      }

  -- and a block's header is where one of bytes is
  abbrev pub of-block : (at : ℕ) (b : BlockAt l at) → RecordAt z at
  of-block at b = record {
    before = read l.heads l.base b.before;
    here = record_in l.heads l.base b.here;
    after = read l.heads l.base b.after;
    blocks = sym (ap (λ (z : ZoneRecords). z.blocks) held.shows) ∙ ap (read l.heads l.base) b.blocks ∙ read-append l.heads l.base b.before (b.here ∷ b.after);
    place = b.place ∙ sym (address-is l z held b.before (read l.heads l.base b.before) refl);
  }

  -- how large a block is
  pub size-of : (at : ℕ) (r : RecordAt z at) → size_of l.heads (of-record at r).block.here ≡ r.here.size
  size-of at r = ap (λ (r : BlockRecord). r.size) (of-record at r).same

  -- after a block there is nothing where no block of bytes is
  pub nothing-after : (at : ℕ) → ((b : BlockAt l at) → b.after ≡ []) → (r : RecordAt z at) → r.after ≡ []
  nothing-after at last r = let o = of-record at r in sym o.upper ∙ none-read l.heads l.base o.block.after (last o.block)

  -- the block that has the byte before another's header ends there
  pub ends-there : (at start : ℕ) → RecordAt z at → HoldsByte l (at - 1) start → (r : RecordAt z start) → at ≡ start + r.here.size
  ends-there at start next holds r =
      let mine = of-record at next in
      let own = of-record start r in
      let b = holds.block in
      let some = head_size-positive l.heads in
      let one = one-block l start start start b own.block (omega arith) (omega arith) (omega arith) (omega arith) in
      let size = ap (size_of l.heads) one.1 ∙ size-of start r in
      let low = holds.low in
      let high = holds.high in
      let inside = (within l at mine.block).0 in
      elim (rank l start at b mine.block) [
        | inl below ↦ omega arith
        | inr (inl above) ↦ omega arith
        | inr (inr one) ↦ (let same = one.0 in omega arith)
      ]

  -- the first block has none before it
  pub nothing-before : (at : ℕ) → LiesOutside l (at - 1) → (r : RecordAt z at) → r.before ≡ []
  nothing-before at outside r =
      let mine = of-record at r in
      let b = mine.block in
      let inside = within l at b in
      let low = inside.0 in
      let high = inside.1 in
      let some = head_size-positive l.heads in
      let place = b.place in
      sym mine.lower ∙ none-read l.heads l.base b.before (elim outside [
        | inl below ↦ none_before l b.before (omega arith)
        | inr above ↦ absurd (omega arith)
      ])

  -- the first block from an address on
  pub first-from : (from at : ℕ) → finding.FirstFrom l from at → FirstFrom z from at
  first-from from at f = record { block = of-block at f.block; reached = f.reached; first = λ other r. f.first other (of-record other r).block }

  -- and where none begins there, none of the list does
  pub none-from : (from : ℕ) → finding.NoneFrom l from → NoneFrom z from
  none-from from none at r = none at (of-record at r).block
