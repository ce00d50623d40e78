-- A block whose bytes are lent, and one that comes back.
use Rattle.std.proofs.Common.{◌≡◌, ℕ, suc, ◌+◌, ◌<◌, Bool, true, false, cond, not, ◌||◌, List, [], ◌∷◌, ◌++◌, length, refl, ap, sym, ◌∙◌, subst, arith}
use Rattle.std.proofs.lemmas.Bool.{leb-true, and_from}
use Rattle.mac_base.specs.Loans.{most_loans}
use Rattle.mac_base.specs.declared.block.HeadKind.{HeadKind}
use Rattle.mac_base.specs.HeadKind.{head_size, zone_header}
use Rattle.raw_region.specs.State.{Loan}
use Rattle.block_bytes.specs.declared.header.Role.{Role}
use Rattle.block_bytes.specs.declared.header.Role.TheVariants as role
use Rattle.block_bytes.specs.Head.{most_over}
use Rattle.block_bytes.specs.Layout as raw
use Rattle.block_bytes.specs.Layout.{RawBlock, Layout, BlockAt, CanLend, size_of, with_blocks, has_owner, lent_block, given_back}
use Rattle.zone_records.specs.Records.{lent_record, block_record, BlockRecord, ZoneRecords, bytes_of, with_bytes, lent_count, total_of}
use Rattle.zone_records.specs.Places.{RecordAt, HeldAt, IsLoanOf, has_bytes}
use Rattle.zone_records.specs.Changes.{lent_out, loan_of, taken_back}
use Rattle.zone_records.specs.Reading.{content_in, has_use, is_sound}
use Rattle.zone_records.proofs.Apart.{read, One, total-read}
use Rattle.zone_records.proofs.Held.{Held, heads-is, base-is, sound-one, words-one, changed}
use Rattle.zone_records.proofs.Looking.{OfRecord, of-record, sound-parts, size-of}
use Rattle.zone_records.proofs.Headers.{bytes-same, words-none, with-same}
use Rattle.zone_records.proofs.Holding.{held_one, held-block, held-size, held-content, held-has, held-bytes}
use Rattle.zone_records.proofs.Blocks.{sound-made}
use Rattle.zone_records.proofs.Neighbours.{sound-sized}

-- as many blocks of bytes are lent
pub count-read : (heads : HeadKind) (base : ℕ) (bs : List RawBlock) → lent_count (read heads base bs) ≡ raw.lent_count bs
count-read heads base [] = refl
count-read heads base (b ∷ bs) = ap (λ n. cond b.lent (suc n) n) (count-read heads base bs)

-- a block that has bytes is somebody's
owner-has : (heads : HeadKind) (base : ℕ) (r : Role) (bytes : List ℕ) → has_bytes (content_in heads base r bytes) ≡ true → has_owner r ≡ true
owner-has heads base role.Free bytes h = absurd (cc h)
owner-has heads base role.Fixed bytes h = refl
owner-has heads base role.Master bytes h = absurd (cc h)
owner-has heads base (role.Relocatable offset flags) bytes h = refl

-- a sound block is sound with as many other bytes, lent or not, where it is somebody's
sound-lent : (heads : HeadKind) (base : ℕ) (b : RawBlock) (contents : List ℕ) (lent : Bool) → length contents ≡ length b.contents → has_owner b.role ≡ true → is_sound heads base b ≡ true
    → is_sound heads base (record b { contents = contents; lent = lent }) ≡ true
sound-lent heads base b contents lent long owned sound =
    let s = sound-parts heads base b sound in
    sound-made heads base (record b { contents = contents; lent = lent }) (size_of heads b) (omega arith) (sound-sized heads base b sound) (leb-true (length b.slack) (most_over heads) s.few) s.told
    (either lent) (ap (has_use base b.role) long ∙ s.use_is)
  where
    either : (t : Bool) → (not t || has_owner b.role) ≡ true
    either true = owned
    either false = refl

-- how many blocks are lent of those of the zone
pub count-is : (l : Layout) (z : ZoneRecords) → Held l z → raw.lent_count l.blocks ≡ lent_count z.blocks
count-is l z held = sym (count-read l.heads l.base l.blocks) ∙ ap (λ (z : ZoneRecords). lent_count z.blocks) held.shows

module _ (l : Layout) (z : ZoneRecords) (held : Held l z) (at : ℕ) where
  module _ (h : HeldAt z at) where
    abbrev o : One l h.before (block_record h.content h.size) h.after
    o = held_one l z held at h

    lend-owner : has_owner o.block.role ≡ true
    lend-owner = owner-has l.heads l.base o.block.role o.block.contents (held-has l z held at h)

    -- it is lent
    pub lend-ends : (m : Layout) → m ≡ with_blocks (o.first ++ lent_block o.block ∷ o.rest) l → Held m (lent_out z h)
    lend-ends m ends =
        let size = held-size l z held at h in
        let content = held-content l z held at h in
        subst (λ m. Held m (lent_out z h)) (sym ends)
        (changed l z held o.first (o.block ∷ []) (lent_block o.block ∷ []) o.rest h.before (lent_record h.content h.size ∷ []) h.after o.blocks o.lower o.upper
        (λ i. lent_record (content i) (size i) ∷ []) (omega arith)
        (and_from _ _ (sound-lent l.heads l.base o.block o.block.contents true refl lend-owner (sound-one l o.first o.block o.rest held.sound o.blocks)) refl)
        (words-one l.heads (lent_block o.block) (words-none l.heads l.base (lent_block o.block) o.block.contents (held-has l z held at h))))

    -- and this is its loan
    pub lend-loan : raw.loan_of l (held-block l z held at h).block ≡ loan_of z h
    lend-loan =
        let total = total-read l.heads l.base o.first in
        let head = ap head_size (heads-is l z held) in
        let low : total_of (read l.heads l.base o.first) ≡ total_of h.before = ap total_of o.lower in
        let place : zone_header + raw.total_of l.heads o.first + head_size l.heads ≡ zone_header + total_of h.before + head_size z.shape.heads = omega arith in
        let name = ap (λ (z : ZoneRecords). z.memory.region) held.shows in
        let bytes = held-bytes l z held at h in
        λ i. record { name = name i; at = place i; bytes = bytes i }

    module _ (few : lent_count z.blocks < most_loans) where
      abbrev lend_can : CanLend l at
      lend_can = record {
        block = (held-block l z held at h).block;
        owned = lend-owner;
        unlent = (held-block l z held at h).unlent;
        few = (let count = count-is l z held in omega arith);
      }

      pub lend-can : CanLend l at
      lend-can = lend_can

      pub lend-done : (m : Layout) → ((can : CanLend l at) → m ≡ with_blocks (can.block.before ++ lent_block can.block.here ∷ can.block.after) l) → Held m (lent_out z h)
      lend-done m ends = lend-ends m (ends lend_can)

      pub lend-lent : (loan : Loan) → ((can : CanLend l at) → loan ≡ raw.loan_of l can.block) → loan ≡ loan_of z h
      lend-lent loan is = is lend_can ∙ lend-loan

  module _ (loan : Loan) (is : IsLoanOf z at loan) where
    abbrev back_there : RecordAt z at
    back_there = record { before = is.before; here = lent_record is.content is.size; after = is.after; blocks = is.blocks; place = is.place }

    abbrev t : OfRecord l z held at back_there
    t = of-record l z held at back_there

    abbrev b : RawBlock
    b = t.block.here

    back-content : content_in l.heads l.base b.role b.contents ≡ is.content
    back-content = ap (λ (r : BlockRecord). r.content) t.same

    back-has : has_bytes (content_in l.heads l.base b.role b.contents) ≡ true
    back-has = ap has_bytes back-content ∙ is.held

    back-long : length loan.bytes ≡ length b.contents
    back-long = is.long ∙ ap (λ c. length (bytes_of c)) (sym back-content) ∙ ap length (bytes-same l.heads l.base b.role b.contents back-has)

    back-place : loan.at ≡ zone_header + raw.total_of l.heads t.block.before + head_size l.heads
    back-place =
        let place = t.block.place in
        let base = base-is l z held in
        let head = ap head_size (heads-is l z held) in
        let contents = is.contents in
        omega arith

    abbrev back_is : raw.IsLoanOf l at loan
    back_is = record {
      block = t.block;
      lent = ap (λ (r : BlockRecord). r.lent) t.same;
      name = is.memory ∙ sym (ap (λ (z : ZoneRecords). z.memory.region) held.shows);
      place = back-place;
      long = back-long;
    }

    pub back-is : raw.IsLoanOf l at loan
    back-is = back_is

    -- it came back
    pub back-ends : (m : Layout) → ((is : raw.IsLoanOf l at loan) → m ≡ with_blocks (is.block.before ++ given_back is.block.here loan.bytes ∷ is.block.after) l) → Held m (taken_back z is)
    back-ends m ends =
        let o = t.block in
        let long = back-long in
        let now = given_back b loan.bytes in
        let size : size_of l.heads now ≡ is.size = (let e : size_of l.heads now ≡ size_of l.heads b = omega arith in e) ∙ size-of l z held at back_there in
        let content : content_in l.heads l.base b.role loan.bytes ≡ with_bytes loan.bytes is.content =
        sym (with-same l.heads l.base b.role b.contents loan.bytes back-has) ∙ ap (with_bytes loan.bytes) back-content in
        subst (λ m. Held m (taken_back z is)) (sym (ends back_is))
        (changed l z held o.before (b ∷ []) (now ∷ []) o.after is.before (block_record (with_bytes loan.bytes is.content) is.size ∷ []) is.after o.blocks t.lower t.upper
        (λ i. block_record (content i) (size i) ∷ []) (omega arith)
        (and_from _ _ (sound-lent l.heads l.base b loan.bytes false long (owner-has l.heads l.base b.role b.contents back-has) (sound-one l o.before b o.after held.sound o.blocks)) refl)
        (words-one l.heads now (words-none l.heads l.base now b.contents back-has)))
