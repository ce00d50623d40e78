-- A zone whose own bytes are in its record, or are copied there.
use Rattle.std.proofs.Common.{◌≡◌, ℕ, ◌+◌, ◌-◌, ◌≤◌, ◌<◌, inl, inr, Bool, true, false, List, [], ◌∷◌, ◌++◌, length, take, slice_index, refl, sym, ap, subst, ◌∙◌, arith, append_assoc, take_at, Option, Some, None}
use Rattle.std.specs.Prelude.{if◌then◌else◌}
use Rattle.mac_base.specs.declared.block.HeadKind.{HeadKind}
use Rattle.mac_base.specs.ZoneSizes.{ArePossible}
use Rattle.raw_region.specs.State.{State, with_bytes}
use Rattle.block_bytes.specs.declared.record.Range.{Range}
use Rattle.block_bytes.specs.declared.record.Changed.{Changed}
use Rattle.block_bytes.specs.declared.record.Record.{Record}
use Rattle.std.proofs.lemmas.Bool.{cases_lt}
use Rattle.std.proofs.lemmas.List.{ext_get_or, take_all}
use Rattle.mac_base.specs.HeadKind.{head_size, zone_header}
use Rattle.raw_region.specs.Bytes.{part, written}
use Rattle.raw_region.proofs.Indexes.{index-part}
use Rattle.raw_region.proofs.Laws.{length-part}
use Rattle.block_bytes.specs.declared.header.Role.{Role}
use Rattle.block_bytes.specs.declared.header.Role.TheVariants.{Free, Fixed, Master, Relocatable}
use Rattle.block_bytes.specs.declared.blocks.Blocks.TheInside.{Inside}
use Rattle.block_bytes.specs.Layout.{RawBlock, Layout, NothingLent, header_bytes, rendered, size_of, total_of}
use Rattle.block_bytes.specs.Reading.{IsLayout, IsWhole, layout_of}
use Rattle.block_bytes.specs.Record.{AreWithin, IsOwn, IsUnchanged, RecordKept, kept_name}
use Rattle.block_bytes.specs.Sleeping.{FallsAsleep}
use Rattle.block_bytes.specs.Structure.{AreWritten, EachMaster, HasHeaders, HasStructure, is_master, shown, shown_block, shown_blocks}
use Rattle.block_bytes.proofs.Parts.{length-header, total-ends}
use Rattle.block_bytes.proofs.ReadParts.{contents-read, head-read}
use Rattle.block_bytes.proofs.Rendered.{total_of-append, written-whole}
use Rattle.block_bytes.proofs.Exchanged.{exchanged}
use Rattle.block_bytes.proofs.Recorded.{IsReadWhole, read-named, read-whole}
use Rattle.block_bytes.proofs.Settled.{nothing-lent}
use Rattle.block_bytes.proofs.Structures.{enough, shown-long, structure-from, structure-headers}
use Rattle.mac_base.specs.ZoneState.{woken_in}

-- what is a master block's role
master-is : (r : Role) → is_master r ≡ true → r ≡ Master
master-is Free is = let e : false ≡ true = is in cc
master-is Fixed is = let e : false ≡ true = is in cc
master-is Master is = refl
master-is (Relocatable slot flags) is = let e : false ≡ true = is in cc

-- parts that have the same bytes are the same
part-same : (xs ys : List ℕ) (at n : ℕ) → at + n ≤ length xs → length ys ≡ length xs → ((i : ℕ) → at ≤ i → i < at + n → slice_index ys i ≡ slice_index xs i) → part ys at n ≡ part xs at n
part-same xs ys at n fits long same =
    let first = length-part ys at n (omega arith) in let second = length-part xs at n fits in
    ext_get_or 0 (part ys at n) (part xs at n) (omega arith) (λ k below.
    let low : at ≤ at + k = omega arith in let high : at + k < at + n = omega arith in
    let back : at + k - at ≡ k = omega arith in
    subst (λ (j : ℕ). slice_index (part ys at n) j ≡ slice_index (part xs at n) j) back
    (index-part ys at n (at + k) low high ∙ same (at + k) low high ∙ sym (index-part xs at n (at + k) low high)))

-- the same bytes of equal parts
index-same : (xs ys : List ℕ) (at n i : ℕ) → part ys at n ≡ part xs at n → at ≤ i → i < at + n → slice_index ys i ≡ slice_index xs i
index-same xs ys at n i same low high = sym (index-part ys at n i low high) ∙ ap (λ (zs : List ℕ). slice_index zs (i - at)) same ∙ index-part xs at n i low high

module _ (l : Layout) (xs ys : List ℕ) where
  -- where the headers of blocks and the contents of the master blocks are in both, the own bytes are the same
  pub own-agree : (at : ℕ) (bs : List RawBlock) → HasHeaders l xs at bs → EachMaster (AreWritten xs) l.heads at bs → HasHeaders l ys at bs → EachMaster (AreWritten ys) l.heads at bs
      → (i : ℕ) → IsOwn l.heads at bs i → slice_index ys i ≡ slice_index xs i
  own-agree at [] heads masters heads' masters' i own = absurd own
  own-agree at (b ∷ bs) heads masters heads' masters' i (inr there) = own-agree (at + size_of l.heads b) bs heads.1 masters.1 heads'.1 masters'.1 i there
  own-agree at (b ∷ bs) heads masters heads' masters' i (inl here) = elim (cases_lt i (at + head_size l.heads)) [
    | inl within ↦ index-same xs ys at (head_size l.heads) i (heads'.0 ∙ sym heads.0) here.0 within
    | inr after ↦ by_kind (is_master b.role) refl here.1 after
  ]
    where
      by_kind : (master : Bool) → is_master b.role ≡ master → i < at + (head_size l.heads + (if master then length b.contents else 0)) → at + head_size l.heads ≤ i → slice_index ys i ≡ slice_index xs i
      by_kind true is high low = let m = master-is b.role is in index-same xs ys (at + head_size l.heads) (length b.contents) i (masters'.0 m ∙ sym (masters.0 m)) low (omega arith)
      by_kind false is high low = absurd (omega arith)

  -- the headers are where the own bytes are
  pub heads-agree : (at : ℕ) (bs : List RawBlock) → at + total_of l.heads bs ≤ length xs → length ys ≡ length xs → ((i : ℕ) → IsOwn l.heads at bs i → slice_index ys i ≡ slice_index xs i)
      → HasHeaders l xs at bs → HasHeaders l ys at bs
  heads-agree at [] fits long same heads = tt
  heads-agree at (b ∷ bs) fits long same heads =
      let fits' : at + (size_of l.heads b + total_of l.heads bs) ≤ length xs = fits in (
        part-same xs ys at (head_size l.heads) (omega arith) long (λ i low high. same i (inl (low, omega arith))) ∙ heads.0,
        heads-agree (at + size_of l.heads b) bs (omega arith) long (λ i own. same i (inr own)) heads.1,
      )

  -- and so are the contents of the master blocks
  pub masters-agree : (at : ℕ) (bs : List RawBlock) → at + total_of l.heads bs ≤ length xs → length ys ≡ length xs → ((i : ℕ) → IsOwn l.heads at bs i → slice_index ys i ≡ slice_index xs i)
      → EachMaster (AreWritten xs) l.heads at bs → EachMaster (AreWritten ys) l.heads at bs
  masters-agree at [] fits long same masters = tt
  masters-agree at (b ∷ bs) fits long same masters =
      let fits' : at + (size_of l.heads b + total_of l.heads bs) ≤ length xs = fits in (
        λ is. part-same xs ys (at + head_size l.heads) (length b.contents) (omega arith) long
            (λ i low high. same i (inl (omega arith, subst (λ (r : Role). i < at + (head_size l.heads + (if is_master r then length b.contents else 0))) (sym is) (omega arith)))) ∙ masters.0 is,
        masters-agree (at + size_of l.heads b) bs (omega arith) long (λ i own. same i (inr own)) masters.1,
      )

module _ (z : Inside) (whole : IsLayout z) where
  -- the headers of the zone's blocks are in its memory
  heads_from : (before rest : List RawBlock) → (layout_of z).blocks ≡ before ++ rest → (at : ℕ) → at ≡ zone_header + total_of z.spec.heads before → HasHeaders (layout_of z) z.memory.bytes at rest
  heads_from before [] is at there = tt
  heads_from before (b ∷ rest) is at there = let sum = total_of-append z.spec.heads before (b ∷ []) in (
    head-read z whole before b rest is at there,
    heads_from (before ++ b ∷ []) rest (is ∙ sym (append_assoc before (b ∷ []) rest)) (at + size_of z.spec.heads b) (omega arith),
  )

  pub heads-own : HasHeaders (layout_of z) z.memory.bytes zone_header (layout_of z).blocks
  heads-own = heads_from [] (layout_of z).blocks refl zone_header (omega arith)

  -- and the contents of the master blocks
  masters_from : (before rest : List RawBlock) → (layout_of z).blocks ≡ before ++ rest → (at : ℕ) → at ≡ zone_header + total_of z.spec.heads before → EachMaster (AreWritten z.memory.bytes) z.spec.heads at rest
  masters_from before [] is at there = tt
  masters_from before (b ∷ rest) is at there = let sum = total_of-append z.spec.heads before (b ∷ []) in (
    λ master. contents-read z whole before b rest is (at + head_size z.spec.heads) (length b.contents) (omega arith) refl,
    masters_from (before ++ b ∷ []) rest (is ∙ sym (append_assoc before (b ∷ []) rest)) (at + size_of z.spec.heads b) (omega arith),
  )

  pub masters-own : EachMaster (AreWritten z.memory.bytes) z.spec.heads zone_header (layout_of z).blocks
  masters-own = masters_from [] (layout_of z).blocks refl zone_header (omega arith)

  -- the zone's header
  pub front-own : take zone_header z.memory.bytes ≡ header_bytes (layout_of z)
  front-own = let l = layout_of z in ap (take zone_header) whole.form ∙ take_at (header_bytes l) (rendered l.heads l.base l.blocks ++ l.spare) zone_header (length-header l)

  -- where the zone's header and the own bytes are, the structure is, and the contents of the master blocks are
  pub own-structure : (bytes : List ℕ) → length bytes ≡ length z.memory.bytes → take zone_header bytes ≡ take zone_header z.memory.bytes
      → ((i : ℕ) → IsOwn z.spec.heads zone_header (layout_of z).blocks i → slice_index bytes i ≡ slice_index z.memory.bytes i) → HasStructure (layout_of z) bytes
  own-structure bytes long front same = let ends = total-ends z whole in let high = whole.high in let all = whole.all_bytes in
      structure-from (layout_of z) bytes (record { all = long ∙ ap length whole.form; head = front ∙ front-own })
      (heads-agree (layout_of z) z.memory.bytes bytes zone_header (layout_of z).blocks (omega arith) long same heads-own)

  pub own-masters : (bytes : List ℕ) → length bytes ≡ length z.memory.bytes → ((i : ℕ) → IsOwn z.spec.heads zone_header (layout_of z).blocks i → slice_index bytes i ≡ slice_index z.memory.bytes i)
      → EachMaster (AreWritten bytes) z.spec.heads zone_header (layout_of z).blocks
  own-masters bytes long same = let ends = total-ends z whole in let high = whole.high in let all = whole.all_bytes in
      masters-agree (layout_of z) z.memory.bytes bytes zone_header (layout_of z).blocks (omega arith) long same masters-own

-- the own bytes of blocks are those of the blocks with the contents that bytes have
pub own-shown : (heads : HeadKind) (bytes : List ℕ) (at : ℕ) (bs : List RawBlock) → at + total_of heads bs ≤ length bytes → (i : ℕ) → IsOwn heads at (shown_blocks heads bytes at bs) i → IsOwn heads at bs i
own-shown heads bytes at [] fits i own = own
own-shown heads bytes at (b ∷ bs) fits i (inl here) =
    let fits' : at + (size_of heads b + total_of heads bs) ≤ length bytes = fits in let long = shown-long heads bytes at b (omega arith) in
    inl (here.0, subst (λ (n : ℕ). i < at + (head_size heads + (if is_master b.role then n else 0))) long.contents here.1)
own-shown heads bytes at (b ∷ bs) fits i (inr there) =
    let fits' : at + (size_of heads b + total_of heads bs) ≤ length bytes = fits in let long = shown-long heads bytes at b (omega arith) in let c = shown_block heads bytes at b in
    let size : size_of heads c ≡ size_of heads b = λ j. head_size heads + (long.contents j + long.slack j) in
    inr (own-shown heads bytes (at + size_of heads b) bs (omega arith) i (subst (λ (n : ℕ). IsOwn heads (at + n) (shown_blocks heads bytes (at + size_of heads b) bs) i) size there))

-- a zone that wakes: its memory becomes the record, and other bytes its memory
pub woken : (z : Inside) → IsLayout z → ArePossible z.spec → NothingLent (layout_of z) → (m : State) → m.lent ≡ [] → HasStructure (layout_of z) m.bytes
    → EachMaster (AreWritten m.bytes) z.spec.heads zone_header (layout_of z).blocks → (changed : Changed) → IsUnchanged changed
    → IsReadWhole (record z { memory = m; kept = Some (record { region = z.memory; changed = changed }) }) (record (shown (layout_of z) m.bytes) { memory = woken_in (layout_of z).memory m.name })
woken z whole small unlent m free same masters changed none =
    let l = layout_of z in let heads = z.spec.heads in let kept : Option Record = Some (record { region = z.memory; changed = changed }) in
    read-whole (record z { memory = m; kept = kept }) (record (shown l m.bytes) { memory = woken_in (layout_of z).memory m.name })
    (read-named (record z { memory = m }) kept (record (shown l m.bytes) { memory = record { region = m.name; kept = kept_name z.kept } }) (exchanged z whole small unlent m free same))
    (record {
      whole = nothing-lent z whole unlent;
      known = record {
        long = ap length whole.form ∙ sym same.all;
        within = subst (λ (rs : List Range). AreWithin rs (length m.bytes)) (sym none.ranges) tt;
        own = λ i own. inr (own-agree l m.bytes z.memory.bytes zone_header l.blocks (structure-headers l m.bytes same) masters (heads-own z whole) (masters-own z whole) i
            (own-shown heads m.bytes zone_header l.blocks (enough l m.bytes same.all) i own));
      };
    })

-- what the fields of a zone stand for that fell asleep in its record
pub record IsSlept (z : Inside) (m : State) (kept : Option Record) : Type 0 where
  pub whole : IsWhole (record z { memory = m; kept = kept })
  pub asleep : FallsAsleep (layout_of z) (layout_of (record z { memory = m; kept = kept }))
  pub lent : z.memory.lent ≡ []

-- what its record has to be, and what is written over it
module _ (z : Inside) (whole : IsWhole z) (small : ArePossible z.spec) (unlent : NothingLent (layout_of z)) (r : Record) (is : z.kept ≡ Some r) (m : State) (bytes : List ℕ) (n : ℕ)
    (writes : m ≡ with_bytes r.region 0 (take n bytes)) (all : n ≡ length r.region.bytes) (long : length bytes ≡ n) where
  bytes-are : m.bytes ≡ bytes
  bytes-are = ap (λ (s : State). s.bytes) writes ∙ ap (written r.region.bytes 0) (take_all n bytes (omega arith)) ∙ written-whole r.region.bytes bytes (omega arith)

  -- nothing of the record is lent
  record-whole : r.region.lent ≡ []
  record-whole = (subst (λ (kept : Option Record). RecordKept z.spec.heads (layout_of z).blocks z.memory.bytes kept) is whole.kept).whole

  slept_so : HasStructure (layout_of (record z { kept = None })) bytes → EachMaster (AreWritten bytes) z.spec.heads zone_header (layout_of z).blocks → IsSlept z m None
  slept_so same masters =
      let a : Inside = record z { kept = None } in
      let same' : HasStructure (layout_of a) m.bytes = subst (HasStructure (layout_of a)) (sym bytes-are) same in
      let read = exchanged a (read-named z None (layout_of z) (record { view = refl; whole = whole.layout })).whole small unlent m (ap (λ (s : State). s.lent) writes ∙ record-whole) same' in record {
        whole = record { layout = read.whole; kept = tt };
        asleep = record {
          kept = ap kept_name is ∙ ap (λ (s : State). Some s.name) (sym writes);
          bytes = m.bytes;
          structure = record { all = same'.all; image = same'.image };
          masters = subst (λ (xs : List ℕ). EachMaster (AreWritten xs) z.spec.heads zone_header (layout_of z).blocks) (sym bytes-are) masters;
          zone = read.view;
          own = refl;
        };
        lent = nothing-lent z whole.layout unlent;
      }

  pub slept : (kept : Option Record) → kept ≡ None → HasStructure (layout_of (record z { kept = kept })) bytes → EachMaster (AreWritten bytes) z.spec.heads zone_header (layout_of z).blocks → IsSlept z m kept
  slept kept none = subst (λ (k : Option Record). HasStructure (layout_of (record z { kept = k })) bytes → EachMaster (AreWritten bytes) z.spec.heads zone_header (layout_of z).blocks → IsSlept z m k) (sym none) slept_so
