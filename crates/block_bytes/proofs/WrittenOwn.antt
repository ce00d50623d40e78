-- A zone's own bytes written one block after the other.
use Rattle.std.proofs.Common.{◌≡◌, ℕ, zero, suc, ◌+◌, ◌<◌, ◌≤◌, ◌⊎◌, inl, inr, Bool, true, false, List, [], ◌∷◌, ◌++◌, length, take, refl, sym, ap, subst, ◌∙◌, arith, append_assoc, append-nil, length-append, take_at}
use Rattle.std.specs.Prelude.{◌||◌, not, if◌then◌else◌, slice_index}
use Rattle.std.proofs.lemmas.Bool.{cases_lt}
use Rattle.mac_base.specs.declared.block.HeadKind.{HeadKind}
use Rattle.mac_base.specs.HeadKind.{head_size, zone_header}
use Rattle.mac_base.specs.ZoneSizes.{ArePossible}
use Rattle.raw_region.specs.Bytes.{length-written, part, written}
use Rattle.raw_region.proofs.Indexes.{index-written-apart}
use Rattle.raw_region.proofs.Laws.{part-part, part-written, part-written-apart}
use Rattle.block_bytes.specs.declared.blocks.Blocks.TheInside.{Inside}
use Rattle.block_bytes.specs.declared.header.Role.{Role}
use Rattle.block_bytes.specs.declared.header.Role.TheVariants.{Free, Fixed, Master, Relocatable}
use Rattle.block_bytes.specs.Head.{head_bytes}
use Rattle.block_bytes.specs.Layout.{RawBlock, Layout, BlockAt, address_after, has_owner, header_bytes, header_of, size_of, total_of}
use Rattle.block_bytes.specs.Reading.{layout_of, IsLayout}
use Rattle.block_bytes.specs.Structure.{AreWritten, EachMaster, HasHeaders, InHeader, InMaster, is_master, own_bytes}
use Rattle.block_bytes.proofs.Heads.{length-head_bytes}
use Rattle.block_bytes.proofs.Parts.{IsIn-from, length-header}
use Rattle.block_bytes.proofs.ReadParts.{ReadAt, read-at}
use Rattle.block_bytes.proofs.Rendered.{part-middle, total_of-append}
use Rattle.block_bytes.proofs.Structures.{headers-append}
use Rattle.block_bytes.proofs.Walking.{size_of-pos}

-- what is read of the block at an offset
pub read-there : (z : Inside) → IsLayout z → ArePossible z.spec → (l : Layout) → layout_of z ≡ l → (at : ℕ) (b : BlockAt l (l.base + at)) → ReadAt z l at b.here
read-there z whole small l is at =
    subst (λ (m : Layout). (b : BlockAt m (m.base + at)) → ReadAt z m at b.here) is (λ b. read-at z whole b.before b.here b.after b.blocks small at (let place = b.place in omega arith))

unlent : (lent : Bool) (r : Role) → is_master r ≡ true → (not lent || has_owner r) ≡ true → lent ≡ false
unlent false r is lendable = refl
unlent true Free is lendable = let e : false ≡ true = is in cc
unlent true Fixed is lendable = let e : false ≡ true = is in cc
unlent true Master is lendable = let e : false ≡ true = lendable in cc
unlent true (Relocatable slot flags) is lendable = let e : false ≡ true = is in cc

-- a master block isn't lent
pub master-unlent : (z : Inside) → IsLayout z → (l : Layout) → layout_of z ≡ l → (at : ℕ) (b : BlockAt l at) → is_master b.here.role ≡ true → b.here.lent ≡ false
master-unlent z whole l is at = subst (λ (m : Layout). (b : BlockAt m at) → is_master b.here.role ≡ true → b.here.lent ≡ false) is
    (λ b master. unlent b.here.lent b.here.role master (IsIn-from z whole b.before b.here b.after b.blocks).here_possible.lendable)

-- bytes written after others are written with them
written-after : (xs : List ℕ) (at : ℕ) (us vs : List ℕ) → written (written xs at us) (at + length us) vs ≡ written xs at (us ++ vs)
written-after [] at us vs = refl
written-after (x ∷ xs) zero [] vs = ap (λ (j : ℕ). written (x ∷ xs) j vs) (let e : 0 + 0 ≡ 0 = omega arith in e)
written-after (x ∷ xs) zero (u ∷ us) vs =
    ap (λ (j : ℕ). written (u ∷ written xs 0 us) j vs) (let e : 0 + suc (length us) ≡ suc (0 + length us) = omega arith in e) ∙ ap (λ (t : List ℕ). u ∷ t) (written-after xs 0 us vs)
written-after (x ∷ xs) (suc at) us vs =
    ap (λ (j : ℕ). written (x ∷ written xs at us) j vs) (let e : suc at + length us ≡ suc (at + length us) = omega arith in e) ∙ ap (λ (t : List ℕ). x ∷ t) (written-after xs at us vs)

-- a header written, and of a master block the contents after it, are the block's own bytes
pub written-master : (heads : HeadKind) (base : ℕ) (b : RawBlock) (xs : List ℕ) (at start : ℕ) → is_master b.role ≡ true → start ≡ at + head_size heads
    → written (written xs at (head_bytes heads base (header_of heads b))) start b.contents ≡ written xs at (own_bytes heads base b)
written-master heads base b xs at start master is =
    let head = head_bytes heads base (header_of heads b) in let long = length-head_bytes heads base (header_of heads b) in
    ap (λ (k : ℕ). written (written xs at head) k b.contents) (let e : start ≡ at + length head = omega arith in e)
    ∙ written-after xs at head b.contents ∙ ap (λ (t : Bool). written xs at (head ++ (if t then b.contents else []))) (sym master)

pub written-other : (heads : HeadKind) (base : ℕ) (b : RawBlock) (xs : List ℕ) (at : ℕ) → is_master b.role ≡ false → written xs at (head_bytes heads base (header_of heads b)) ≡ written xs at (own_bytes heads base b)
written-other heads base b xs at other =
    let head = head_bytes heads base (header_of heads b) in
    ap (written xs at) (sym (append-nil head)) ∙ ap (λ (t : Bool). written xs at (head ++ (if t then b.contents else []))) (sym other)

-- what holds of the master blocks of two runs of blocks holds of all of them
pub each-join : (P : ℕ → List ℕ → Type 0) (heads : HeadKind) (at : ℕ) (xs ys : List RawBlock) → EachMaster P heads at xs → EachMaster P heads (at + total_of heads xs) ys → EachMaster P heads at (xs ++ ys)
each-join P heads at [] ys first rest = subst (λ (n : ℕ). EachMaster P heads n ys) (let e : at + 0 ≡ at = omega arith in e) rest
each-join P heads at (x ∷ xs) ys first rest = (
  first.0,
  each-join P heads (at + size_of heads x) xs ys first.1
      (subst (λ (n : ℕ). EachMaster P heads n ys) (let e : at + (size_of heads x + total_of heads xs) ≡ at + size_of heads x + total_of heads xs = omega arith in e) rest),
)

module _ (l : Layout) (bytes : List ℕ) (start : ℕ) (ws : List ℕ) where
  -- a write after blocks leaves their headers
  headers-before : (at : ℕ) (bs : List RawBlock) → at + total_of l.heads bs ≤ start → HasHeaders l bytes at bs → HasHeaders l (written bytes start ws) at bs
  headers-before at [] below headers = tt
  headers-before at (b ∷ bs) below headers =
      let below' : at + (size_of l.heads b + total_of l.heads bs) ≤ start = below in
      (part-written-apart bytes start ws at (head_size l.heads) (inl (omega arith)) ∙ headers.0, headers-before (at + size_of l.heads b) bs (omega arith) headers.1)

  -- and their master blocks
  masters-before : (at : ℕ) (bs : List RawBlock) → at + total_of l.heads bs ≤ start → EachMaster (AreWritten bytes) l.heads at bs → EachMaster (AreWritten (written bytes start ws)) l.heads at bs
  masters-before at [] below each = tt
  masters-before at (b ∷ bs) below each =
      let below' : at + (size_of l.heads b + total_of l.heads bs) ≤ start = below in (
        λ is. part-written-apart bytes start ws (at + head_size l.heads) (length b.contents) (inl (omega arith)) ∙ each.0 is,
        masters-before (at + size_of l.heads b) bs (omega arith) each.1,
      )

-- the zone's own bytes up to an offset are written over old bytes
pub record OwnUpTo (l : Layout) (old now : List ℕ) (at : ℕ) : Type 0 where
  pub passed : List RawBlock
  pub rest : List RawBlock
  pub blocks : l.blocks ≡ passed ++ rest
  pub place : at ≡ zone_header + total_of l.heads passed
  pub all : length now ≡ length old
  pub head : take zone_header now ≡ header_bytes l
  pub headers : HasHeaders l now zone_header passed
  pub masters : EachMaster (AreWritten now) l.heads zone_header passed
  pub others : (k : ℕ) → zone_header ≤ k → (InHeader l k → ⊥) → (InMaster l k → ⊥) → slice_index now k ≡ slice_index old k

-- then comes a block
pub record NextBlock (l : Layout) (old now : List ℕ) (at : ℕ) : Type 0 where
  pub upto : OwnUpTo l old now at
  pub here : RawBlock
  pub after : List RawBlock
  pub next : upto.rest ≡ here ∷ after
  pub block : BlockAt l (l.base + at)
  pub same : block.here ≡ here

-- below the end of the last block
pub next-block : (l : Layout) (old now : List ℕ) (at : ℕ) → OwnUpTo l old now at → l.base + at < address_after l l.blocks → NextBlock l old now at
next-block l old now at r below = by_rest r.rest refl
  where
    by_rest : (rest : List RawBlock) → r.rest ≡ rest → NextBlock l old now at
    by_rest [] is =
        let sum = ap (total_of l.heads) (r.blocks ∙ ap (λ (bs : List RawBlock). r.passed ++ bs) is) in let a = total_of-append l.heads r.passed [] in let place = r.place in absurd (omega arith)
    by_rest (b ∷ bs) is = record {
      upto = r;
      here = b;
      after = bs;
      next = is;
      block = record { before = r.passed; here = b; after = bs; blocks = r.blocks ∙ ap (λ (bs : List RawBlock). r.passed ++ bs) is; place = (let place = r.place in omega arith) };
      same = refl;
    }

-- the zone's header is written first
pub own-none : (l : Layout) (old : List ℕ) → zone_header ≤ length old → OwnUpTo l old (written old 0 (header_bytes l)) zone_header
own-none l old fits = let long = length-header l in record {
  passed = [];
  rest = l.blocks;
  blocks = refl;
  place = omega arith;
  all = length-written old 0 (header_bytes l);
  head = ap (λ (n : ℕ). take n (written old 0 (header_bytes l))) (sym long) ∙ part-written old 0 (header_bytes l) (omega arith);
  headers = tt;
  masters = tt;
  others = λ k above header master. index-written-apart old 0 (header_bytes l) k (inr (omega arith));
}

-- the contents that are a block's own bytes: a master block's, or none
abbrev pub own_contents : RawBlock → List ℕ
own_contents b = if is_master b.role then b.contents else []

own-few : (t : Bool) (contents : List ℕ) → length (if t then contents else []) ≤ length contents
own-few true contents = omega arith
own-few false contents = omega arith

own-kind : (r : Role) (contents : List ℕ) → (r ≡ Master) ⊎ (length (if is_master r then contents else []) ≡ 0)
own-kind Free contents = inr refl
own-kind Fixed contents = inr refl
own-kind Master contents = inl refl
own-kind (Relocatable slot flags) contents = inr refl

module _ (l : Layout) (old now : List ℕ) (at : ℕ) (n : NextBlock l old now at) (fits : at + size_of l.heads n.here ≤ length old) where
  abbrev head : List ℕ
  head = head_bytes l.heads l.base (header_of l.heads n.here)

  abbrev own : List ℕ
  own = own_bytes l.heads l.base n.here

  abbrev new : List ℕ
  new = written now at own

  long : length head ≡ head_size l.heads
  long = length-head_bytes l.heads l.base (header_of l.heads n.here)

  all-long : length own ≡ head_size l.heads + length (own_contents n.here)
  all-long = length-append head (own_contents n.here) ∙ ap (λ (k : ℕ). k + length (own_contents n.here)) long

  few : length (own_contents n.here) ≤ length n.here.contents
  few = own-few (is_master n.here.role) n.here.contents

  -- what is written is there
  there : part new at (length own) ≡ own
  there = let a = all-long in let f = few in let same = n.upto.all in part-written now at own (omega arith)

  header-there : part new at (head_size l.heads) ≡ head
  header-there = let a = all-long in
      ap (λ (k : ℕ). part new k (head_size l.heads)) (let e : at ≡ at + 0 = omega arith in e) ∙ sym (part-part new at (length own) 0 (head_size l.heads) (omega arith))
      ∙ ap (λ (xs : List ℕ). part xs 0 (head_size l.heads)) there ∙ take_at head (own_contents n.here) (head_size l.heads) long

  contents-there : n.here.role ≡ Master → AreWritten new (at + head_size l.heads) n.here.contents
  contents-there is =
      let contents = n.here.contents in
      let whole : own ≡ head ++ (contents ++ []) = ap (λ (r : Role). head ++ (if is_master r then contents else [])) is ∙ ap (λ (xs : List ℕ). head ++ xs) (sym (append-nil contents)) in
      let size = ap (λ (r : Role). length (if is_master r then contents else [])) is in let a = all-long in
      sym (part-part new at (length own) (head_size l.heads) (length contents) (omega arith))
      ∙ ap (λ (xs : List ℕ). part xs (head_size l.heads) (length contents)) (there ∙ whole) ∙ part-middle head contents [] (head_size l.heads) (length contents) (sym long) refl

  -- and no other byte changes
  others-stay : (k : ℕ) → (InHeader l k → ⊥) → (InMaster l k → ⊥) → slice_index new k ≡ slice_index now k
  others-stay k header master =
      let a = all-long in let same = ap (λ (b : RawBlock). length b.contents) n.same in
      index-written-apart now at own k (elim (cases_lt k at) [
        | inl below ↦ inl below
        | inr above ↦ elim (cases_lt k (at + head_size l.heads)) [
          | inl within ↦ absurd (header (record { start = l.base + at; block = n.block; low = omega arith; high = omega arith }))
          | inr after ↦ elim (own-kind n.here.role n.here.contents) [
            | inr none ↦ inr (omega arith)
            | inl is ↦ elim (cases_lt k (at + head_size l.heads + length n.here.contents)) [
              | inl inside ↦ absurd (master (record { start = l.base + at; block = n.block; master = ap (λ (b : RawBlock). b.role) n.same ∙ is; low = omega arith; high = omega arith }))
              | inr beyond ↦ inr (let f = few in omega arith)
            ]
          ]
        ]
      ])

  -- one more block's own bytes are written
  pub own-more : (end : ℕ) → end ≡ at + size_of l.heads n.here → OwnUpTo l old new end
  own-more end is =
      let r = n.upto in let b = n.here in let place = r.place in let sum = total_of-append l.heads r.passed (b ∷ []) in let f = few in let a = all-long in record {
        passed = r.passed ++ b ∷ [];
        rest = n.after;
        blocks = r.blocks ∙ ap (λ (bs : List RawBlock). r.passed ++ bs) n.next ∙ sym (append_assoc r.passed (b ∷ []) n.after);
        place = omega arith;
        all = length-written now at own ∙ r.all;
        head = part-written-apart now at own 0 zone_header (inl (omega arith)) ∙ r.head;
        headers = headers-append l new zone_header r.passed (b ∷ []) (headers-before l now at own zone_header r.passed (omega arith) r.headers)
            (subst (λ (k : ℕ). part new k (head_size l.heads) ≡ head) place header-there, tt);
        masters = each-join (AreWritten new) l.heads zone_header r.passed (b ∷ []) (masters-before l now at own zone_header r.passed (omega arith) r.masters)
            (λ is. subst (λ (k : ℕ). AreWritten new (k + head_size l.heads) b.contents) place (contents-there is), tt);
        others = λ k above header master. others-stay k header master ∙ r.others k above header master;
      }

-- all are written where the zone ends
pub own-all : (l : Layout) (old now : List ℕ) (at : ℕ) (r : OwnUpTo l old now at) → address_after l l.blocks ≤ l.base + at → r.passed ≡ l.blocks
own-all l old now at r ends = sym (r.blocks ∙ ap (λ (bs : List RawBlock). r.passed ++ bs) (none r.rest r.blocks) ∙ append-nil r.passed)
  where
    none : (rest : List RawBlock) → l.blocks ≡ r.passed ++ rest → rest ≡ []
    none [] blocks = refl
    none (b ∷ bs) blocks =
        let sum = ap (total_of l.heads) blocks in let a = total_of-append l.heads r.passed (b ∷ bs) in let some = size_of-pos l.heads b in let place = r.place in absurd (omega arith)
