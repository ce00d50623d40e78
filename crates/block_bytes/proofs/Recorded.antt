-- The record of a zone whose blocks change.
use Rattle.std.proofs.Common.{◌≡◌, ℕ, ◌+◌, ◌-◌, ◌≤◌, ◌<◌, ◌⊎◌, inl, inr, Bool, true, false, List, [], ◌∷◌, ◌++◌, length, drop, length-append, length-take, refl, sym, ap, subst, ◌∙◌, arith, Option, Some, None}
use Rattle.std.specs.Prelude.{◌&&◌, is_some, slice_index, ⊤, if◌then◌else◌}
use Rattle.std.proofs.lemmas.Bool.{cases_lt}
use Rattle.mac_base.specs.declared.block.HeadKind.{HeadKind}
use Rattle.mac_base.specs.HeadKind.{head_size, zone_header}
use Rattle.mac_base.specs.ZoneSizes.{ArePossible}
use Rattle.byteorder.specs.Endian.{big_bytes, big_number}
use Rattle.raw_region.specs.Bytes.{part, written, length-written}
use Rattle.raw_region.specs.State.{State, with_bytes}
use Rattle.raw_region.proofs.Indexes.{index-written-apart}
use Rattle.raw_region.proofs.Numbers.{length-big_bytes}
use Rattle.block_bytes.specs.declared.header.Header.{Header}
use Rattle.block_bytes.specs.declared.record.Record.{Record}
use Rattle.block_bytes.specs.declared.blocks.Blocks.TheInside.{Inside}
use Rattle.block_bytes.specs.Head.{head_bytes}
use Rattle.block_bytes.specs.ZoneHead.{free_field, lowest_field}
use Rattle.block_bytes.specs.Layout.{RawBlock, Layout, header_of, size_of, total_of, with_blocks}
use Rattle.block_bytes.specs.Structure.{is_master}
use Rattle.block_bytes.specs.Reading.{IsLayout, IsWhole, layout_of}
use Rattle.block_bytes.specs.Record.{AreWithin, IsNoted, IsOwn, Notes, RecordKept, all_noted, noted_ranges, own_most, kept_name}
use Rattle.block_bytes.proofs.Heads.{length-head_bytes}
use Rattle.block_bytes.proofs.Owned.{IsOff, own-alike, own-contents, own-high, own-low, own-many, own-most, own-one, own-replaced, own-split}
use Rattle.block_bytes.proofs.Parts.{IsRead, total-ends}
use Rattle.block_bytes.proofs.Rendered.{total_of-append}
use Rattle.block_bytes.proofs.Settled.{counted}
use Rattle.block_bytes.proofs.Changes.{contents-written}

-- a byte is noted, where there is a record
abbrev pub NotedIn : Option Record → ℕ → Type 0
NotedIn None i = ⊤
NotedIn (Some r) i = IsNoted r.changed i

-- the record of n bytes stays, and what is noted in it
abbrev pub Grows : ℕ → Option Record → Option Record → Type 0
Grows n None None = ⊤
Grows n None (Some new) = ⊥
Grows n (Some old) None = ⊥
Grows n (Some old) (Some new) = (new.region ≡ old.region) × ((i : ℕ) → IsNoted old.changed i → IsNoted new.changed i) × (AreWithin (noted_ranges old.changed) n → AreWithin (noted_ranges new.changed) n)

-- one that is as before
pub grows-same : (n : ℕ) (old : Option Record) → Grows n old old
grows-same n None = tt
grows-same n (Some r) = (refl, λ i noted. noted, λ within. within)

-- one in which a range among the bytes is noted
pub grows-noted : (n : ℕ) (old new : Option Record) (start count : ℕ) → Notes old new start count → start + count ≤ n → Grows n old new
grows-noted n None None start count notes fits = tt
grows-noted n None (Some new) start count notes fits = absurd notes
grows-noted n (Some old) None start count notes fits = absurd notes
grows-noted n (Some old) (Some new) start count notes fits = (notes.0, notes.1.stay, notes.1.within n fits)

pub range-noted : (old new : Option Record) (start count : ℕ) → Notes old new start count → (i : ℕ) → start ≤ i → i < start + count → NotedIn new i
range-noted None None start count notes i low high = tt
range-noted None (Some new) start count notes i low high = absurd notes
range-noted (Some old) None start count notes i low high = absurd notes
range-noted (Some old) (Some new) start count notes i low high = notes.1.now i low high

-- one in which all bytes are
pub grows-all : (n : ℕ) (old new : Option Record) → new ≡ all_noted old → Grows n old new
grows-all n old new is = subst (λ (k : Option Record). Grows n old k) (sym is) (by_case old)
  where
    by_case : (old : Option Record) → Grows n old (all_noted old)
    by_case None = tt
    by_case (Some r) = (refl, λ i noted. inl refl, λ within. within)

pub all-noted : (old new : Option Record) → new ≡ all_noted old → (i : ℕ) → NotedIn new i
all-noted old new is i = subst (λ (k : Option Record). NotedIn k i) (sym is) (by_case old)
  where
    by_case : (old : Option Record) → NotedIn (all_noted old) i
    by_case None = tt
    by_case (Some r) = inl refl

-- in two steps
pub grows-twice : (n : ℕ) (a b c : Option Record) → Grows n a b → Grows n b c → Grows n a c
grows-twice n None None None first second = tt
grows-twice n None None (Some z) first second = absurd second
grows-twice n None (Some y) c first second = absurd first
grows-twice n (Some x) None c first second = absurd first
grows-twice n (Some x) (Some y) None first second = absurd second
grows-twice n (Some x) (Some y) (Some z) first second = (second.0 ∙ first.0, λ i noted. second.1 i (first.1 i noted), λ within. second.2 (first.2 within))

pub noted-still : (n : ℕ) (a b : Option Record) → Grows n a b → (i : ℕ) → NotedIn a i → NotedIn b i
noted-still n None None grows i noted = tt
noted-still n None (Some y) grows i noted = absurd grows
noted-still n (Some x) None grows i noted = absurd grows
noted-still n (Some x) (Some y) grows i noted = grows.1 i noted

-- the name of the record stays
pub grows-named : (n : ℕ) (a b : Option Record) → Grows n a b → kept_name b ≡ kept_name a
grows-named n None None grows = refl
grows-named n None (Some y) grows = absurd grows
grows-named n (Some x) None grows = absurd grows
grows-named n (Some x) (Some y) grows = ap (λ (s : State). Some s.name) grows.0

-- each own byte of blocks is noted now, or it was an own byte of others and hasn't changed
abbrev pub OwnChange : HeadKind → List RawBlock → List RawBlock → List ℕ → List ℕ → Option Record → Type 0
OwnChange heads bs cs bytes others kept = (i : ℕ) → IsOwn heads zone_header cs i → NotedIn kept i ⊎ (IsOwn heads zone_header bs i × (slice_index others i ≡ slice_index bytes i))

-- then the record is that of the new ones
pub kept-changed : (heads : HeadKind) (bs cs : List RawBlock) (bytes others : List ℕ) (old new : Option Record) → Grows (length bytes) old new → length others ≡ length bytes
    → OwnChange heads bs cs bytes others new → RecordKept heads bs bytes old → RecordKept heads cs others new
kept-changed heads bs cs bytes others None None grows long change kept = tt
kept-changed heads bs cs bytes others None (Some new) grows long change kept = absurd grows
kept-changed heads bs cs bytes others (Some old) None grows long change kept = absurd grows
kept-changed heads bs cs bytes others (Some old) (Some new) grows long change kept = record {
  whole = ap (λ (s : State). s.lent) grows.0 ∙ kept.whole;
  known = record {
    long = ap (λ (s : State). length s.bytes) grows.0 ∙ kept.known.long ∙ sym long;
    within = subst (λ (n : ℕ). AreWithin (noted_ranges new.changed) n) (sym long) (grows.2 kept.known.within);
    own = λ i own. elim (change i own) [
      | inl noted ↦ inl noted
      | inr same ↦ elim (kept.known.own i same.0) [
        | inl noted ↦ inl (grows.1 i noted)
        | inr is ↦ inr (ap (λ (s : State). slice_index s.bytes i) grows.0 ∙ is ∙ sym same.1)
      ]
    ];
  };
}

-- blocks stand for others that take as many bytes; of the bytes only theirs, and those of the zone's header, change,
-- and each own byte of the new ones is noted
pub own-change : (heads : HeadKind) (before old new after : List RawBlock) (bytes others : List ℕ) (kept : Option Record) (place : ℕ) → place ≡ zone_header + total_of heads before → total_of heads new ≡ total_of heads old
    → ((i : ℕ) → IsOwn heads place new i → NotedIn kept i)
    → ((i : ℕ) → zone_header ≤ i → IsOff place (total_of heads old) i → slice_index others i ≡ slice_index bytes i)
    → OwnChange heads (before ++ (old ++ after)) (before ++ (new ++ after)) bytes others kept
own-change heads before old new after bytes others kept place is same noted stay i own = elim (own-replaced heads zone_header place before old new after i is same own) [
  | inl here ↦ inl (noted i here)
  | inr there ↦ inr (there.0, stay i (own-low heads zone_header (before ++ (old ++ after)) i there.0) there.1)
]

-- what is so of the fields is so with another record
kept-layout : (z : Inside) (kept : Option Record) → IsLayout z → IsLayout (record z { kept = kept })
kept-layout z kept w =
    record { all_bytes = w.all_bytes; low = w.low; high = w.high; form = w.form; ends = w.ends; possible = w.possible; marked = w.marked; lent = w.lent; loans = w.loans; few = w.few }

-- the fields with another record stand for the same zone, awake or not
pub read-kept : (z : Inside) (kept : Option Record) (l : Layout) → IsRead z l → kept_name kept ≡ kept_name z.kept → IsRead (record z { kept = kept }) l
read-kept z kept l read same = record {
  view = (λ i. record (layout_of z) { memory = record { region = z.memory.name; kept = same i } }) ∙ read.view;
  whole = kept-layout z kept read.whole;
}

-- what the fields stand for, with the record of it
pub record IsReadWhole (z : Inside) (l : Layout) : Type 0 where
  pub view : layout_of z ≡ l
  pub whole : IsWhole z

pub read-whole : (z : Inside) (l : Layout) → IsRead z l → RecordKept z.spec.heads l.blocks z.memory.bytes z.kept → IsReadWhole z l
read-whole z l read kept = record {
  view = read.view;
  whole = record { layout = read.whole; kept = subst (λ (bs : List RawBlock). RecordKept z.spec.heads bs z.memory.bytes z.kept) (ap (λ (m : Layout). m.blocks) (sym read.view)) kept };
}

-- the fields after a change, the record with what is noted of it
pub changed-whole : (z m : Inside) (l : Layout) (new : Option Record) → IsWhole z → m.kept ≡ z.kept → m.spec.heads ≡ z.spec.heads → m.spec.limit ≡ z.spec.limit → IsRead m l
    → Grows (length z.memory.bytes) z.kept new → OwnChange z.spec.heads (layout_of z).blocks l.blocks z.memory.bytes m.memory.bytes new → IsReadWhole (record m { kept = new }) l
changed-whole z m l new whole kept heads limit read grows change =
    read-whole (record m { kept = new }) l (read-kept m new l read (grows-named (length z.memory.bytes) z.kept new grows ∙ ap kept_name (sym kept)))
    (subst (λ (h : HeadKind). RecordKept h l.blocks m.memory.bytes new) (sym heads)
    (kept-changed z.spec.heads (layout_of z).blocks l.blocks z.memory.bytes m.memory.bytes z.kept new grows (read.whole.all_bytes ∙ limit ∙ sym whole.layout.all_bytes) change whole.kept))

-- bytes change, but no own byte
pub own-same : (heads : HeadKind) (bs : List RawBlock) (bytes others : List ℕ) (kept : Option Record) → ((i : ℕ) → zone_header ≤ i → slice_index others i ≡ slice_index bytes i)
    → OwnChange heads bs bs bytes others kept
own-same heads bs bytes others kept stay i own = inr (own, stay i (own-low heads zone_header bs i own))

-- bytes outside a header that is written stay
pub head-stay : (m n : State) (place : ℕ) (heads : HeadKind) (base : ℕ) (h : Header) → n ≡ with_bytes m place (head_bytes heads base h) → (i : ℕ) → IsOff place (head_size heads) i → slice_index n.bytes i ≡ slice_index m.bytes i
head-stay m n place heads base h is i off = ap (λ (s : State). slice_index s.bytes i) is ∙ index-written-apart m.bytes place (head_bytes heads base h) i
    (subst (λ (k : ℕ). IsOff place k i) (sym (length-head_bytes heads base h)) off)

-- and those after the zone's header, where this is written
pub counted-stay : (m n : State) (base gained lost lowest : ℕ) → n ≡ counted m base gained lost lowest → (i : ℕ) → zone_header ≤ i → slice_index n.bytes i ≡ slice_index m.bytes i
counted-stay m n base gained lost lowest is i above =
    let free = big_bytes 4 (big_number 4 (part m.bytes free_field 4) + gained - lost) in let low = big_bytes 4 lowest in
    let e = length-big_bytes 4 (big_number 4 (part m.bytes free_field 4) + gained - lost) in let e' = length-big_bytes 4 lowest in
    ap (λ (s : State). slice_index s.bytes i) is ∙ index-written-apart (written m.bytes free_field free) lowest_field low i (inr (omega arith)) ∙ index-written-apart m.bytes free_field free i (inr (omega arith))

-- a byte off a range is off a part of it
pub off-within : (at n place k i : ℕ) → at ≤ place → place + k ≤ at + n → IsOff at n i → IsOff place k i
off-within at n place k i low high (inl below) = inl (omega arith)
off-within at n place k i low high (inr above) = inr (omega arith)

-- the own bytes of a block are noted where so many from its front on are as its header says
pub front-noted : (heads : HeadKind) (old new : Option Record) (b : RawBlock) (start count : ℕ) → Notes old new start count → count ≡ own_most heads (header_of heads b) → (i : ℕ) → IsOwn heads start (b ∷ []) i → NotedIn new i
front-noted heads old new b start count notes is i own =
    let here = own-one heads start b i own in let low = here.0 in let high = here.1 in let most = own-most heads b in range-noted old new start count notes i low (omega arith)

module _ (z : Inside) (whole : IsWhole z) {memory : State} {index : List ℕ} {loans : ℕ} (before old new after : List RawBlock) (is : (layout_of z).blocks ≡ before ++ (old ++ after))
    (read : IsRead (record z { memory = memory; index = index; loans = loans }) (with_blocks (before ++ (new ++ after)) (layout_of z))) where
  -- blocks that stand for others take as many bytes
  pub total-kept : total_of z.spec.heads new ≡ total_of z.spec.heads old
  total-kept =
      let heads = z.spec.heads in let m : Inside = record z { memory = memory; index = index; loans = loans } in
      let ends = total-ends z whole.layout in let sum = ap (total_of heads) is in let blocks = ap (λ (l : Layout). total_of l.heads l.blocks) read.view in let ends' = total-ends m read.whole in
      let a = total_of-append heads before (old ++ after) in let b = total_of-append heads old after in let c = total_of-append heads before (new ++ after) in let d = total_of-append heads new after in omega arith

  -- and lie in the memory
  pub total-within : zone_header + total_of z.spec.heads before + total_of z.spec.heads new ≤ length z.memory.bytes
  total-within =
      let heads = z.spec.heads in let ends = total-ends z whole.layout in let sum = ap (total_of heads) is in let same = total-kept in let high = whole.layout.high in let all = whole.layout.all_bytes in
      let a = total_of-append heads before (old ++ after) in let b = total_of-append heads old after in omega arith

  -- where their own bytes are noted, and no bytes change but theirs and those of the zone's header, the record is that
  -- of the zone
  pub replaced-whole : (kept : Option Record) → Grows (length z.memory.bytes) z.kept kept → (place : ℕ) → place ≡ zone_header + total_of z.spec.heads before → ((i : ℕ) → IsOwn z.spec.heads place new i → NotedIn kept i)
      → ((i : ℕ) → zone_header ≤ i → IsOff place (total_of z.spec.heads new) i → slice_index memory.bytes i ≡ slice_index z.memory.bytes i)
      → IsReadWhole (record z { memory = memory; index = index; loans = loans; kept = kept }) (with_blocks (before ++ (new ++ after)) (layout_of z))
  replaced-whole kept grows place there noted stay =
      let heads = z.spec.heads in let m : Inside = record z { memory = memory; index = index; loans = loans } in
      changed-whole z m (with_blocks (before ++ (new ++ after)) (layout_of z)) kept whole refl refl refl read grows
      (subst (λ (bs : List RawBlock). OwnChange heads bs (before ++ (new ++ after)) z.memory.bytes memory.bytes kept) (sym is)
      (own-change heads before old new after z.memory.bytes memory.bytes kept place there total-kept noted
      (λ i above off. stay i above (subst (λ (n : ℕ). IsOff place n i) (sym total-kept) off))))

module _ (z : Inside) (whole : IsWhole z) {memory : State} {index : List ℕ} {loans : ℕ} (before old : List RawBlock) (new : RawBlock) (after : List RawBlock) (is : (layout_of z).blocks ≡ before ++ (old ++ after))
    (read : IsRead (record z { memory = memory; index = index; loans = loans }) (with_blocks (before ++ new ∷ after) (layout_of z))) where
  -- one block stands for others. Its header is written and noted, and then maybe the zone's header is written
  pub head-whole : (kept : Option Record) (start count : ℕ) → start ≡ zone_header + total_of z.spec.heads before → count ≡ own_most z.spec.heads (header_of z.spec.heads new) → Notes z.kept kept start count
      → (m : State) (heads : HeadKind) (base : ℕ) (h : Header) → head_size heads ≡ head_size z.spec.heads → m ≡ with_bytes z.memory start (head_bytes heads base h)
      → ((i : ℕ) → zone_header ≤ i → slice_index memory.bytes i ≡ slice_index m.bytes i)
      → IsReadWhole (record z { memory = memory; index = index; loans = loans; kept = kept }) (with_blocks (before ++ new ∷ after) (layout_of z))
  head-whole kept start count there counts notes m heads base h head_is writes stay =
      let most = own-many z.spec.heads new in let within = total-within z whole before old (new ∷ []) after is read in
      replaced-whole z whole before old (new ∷ []) after is read kept (grows-noted (length z.memory.bytes) z.kept kept start count notes (omega arith)) start there
      (front-noted z.spec.heads z.kept kept new start count notes counts)
      (λ i above off. stay i above ∙ head-stay z.memory m start heads base h writes i (off-within start (total_of z.spec.heads (new ∷ [])) start (head_size heads) i (omega arith) (omega arith) off))

-- two blocks stand for one. Their headers are written and noted, and then the zone's header is written
pub heads-whole : (z : Inside) (whole : IsWhole z) {memory : State} {index : List ℕ} {loans : ℕ} (before : List RawBlock) (here first second : RawBlock) (after : List RawBlock) (is : (layout_of z).blocks ≡ before ++ here ∷ after)
    (read : IsRead (record z { memory = memory; index = index; loans = loans }) (with_blocks (before ++ first ∷ second ∷ after) (layout_of z)))
    (mid kept : Option Record) (start next count count' : ℕ) → start ≡ zone_header + total_of z.spec.heads before → next ≡ start + size_of z.spec.heads first
    → count ≡ own_most z.spec.heads (header_of z.spec.heads first) → count' ≡ own_most z.spec.heads (header_of z.spec.heads second) → Notes z.kept mid start count → Notes mid kept next count'
    → (m n : State) (heads : HeadKind) (base : ℕ) (h g : Header) → head_size heads ≡ head_size z.spec.heads → m ≡ with_bytes z.memory start (head_bytes heads base h) → n ≡ with_bytes m next (head_bytes heads base g)
    → ((i : ℕ) → zone_header ≤ i → slice_index memory.bytes i ≡ slice_index n.bytes i)
    → IsReadWhole (record z { memory = memory; index = index; loans = loans; kept = kept }) (with_blocks (before ++ first ∷ second ∷ after) (layout_of z))
heads-whole z whole {memory} {index} {loans} before here first second after is read mid kept start next count count' there there' counts counts' notes notes' m n heads base h g head_is writes writes' stay =
    let k = z.spec.heads in let long = length z.memory.bytes in
    let most = own-many k first in let most' = own-many k second in let within = total-within z whole before (here ∷ []) (first ∷ second ∷ []) after is read in
    let grows' = grows-noted long mid kept next count' notes' (omega arith) in
    let grows = grows-twice long z.kept mid kept (grows-noted long z.kept mid start count notes (omega arith)) grows' in
    replaced-whole z whole before (here ∷ []) (first ∷ second ∷ []) after is read kept grows start there
    (λ i own. elim (own-split k start next (first ∷ []) (second ∷ []) i (omega arith) own) [
      | inl one ↦ noted-still long mid kept grows' i (front-noted k z.kept mid first start count notes counts i one)
      | inr two ↦ front-noted k mid kept second next count' notes' counts' i two
    ])
    (λ i above off. stay i above
    ∙ head-stay m n next heads base g writes' i (off-within start (total_of k (first ∷ second ∷ [])) next (head_size heads) i (omega arith) (omega arith) off)
    ∙ head-stay z.memory m start heads base h writes i (off-within start (total_of k (first ∷ second ∷ [])) start (head_size heads) i (omega arith) (omega arith) off))

-- a block has other contents of the same length; of the bytes only a part of them changes, and of a master block this
-- part is noted
pub contents-whole : (z : Inside) (whole : IsWhole z) {memory : State} {index : List ℕ} {loans : ℕ} (before : List RawBlock) (here new : RawBlock) (after : List RawBlock) (is : (layout_of z).blocks ≡ before ++ here ∷ after)
    (read : IsRead (record z { memory = memory; index = index; loans = loans }) (with_blocks (before ++ new ∷ after) (layout_of z)))
    → new.role ≡ here.role → length new.contents ≡ length here.contents → length new.slack ≡ length here.slack
    → (kept : Option Record) → Grows (length z.memory.bytes) z.kept kept → (place n : ℕ) → zone_header + total_of z.spec.heads before + head_size z.spec.heads ≤ place
    → place + n ≤ zone_header + total_of z.spec.heads before + size_of z.spec.heads here
    → (is_master here.role ≡ true → (i : ℕ) → place ≤ i → i < place + n → NotedIn kept i) → ((i : ℕ) → IsOff place n i → slice_index memory.bytes i ≡ slice_index z.memory.bytes i)
    → IsReadWhole (record z { memory = memory; index = index; loans = loans; kept = kept }) (with_blocks (before ++ new ∷ after) (layout_of z))
contents-whole z whole {memory} {index} {loans} before here new after is read role contents slack kept grows place n low high noted stay =
    let heads = z.spec.heads in let m : Inside = record z { memory = memory; index = index; loans = loans } in
    changed-whole z m (with_blocks (before ++ new ∷ after) (layout_of z)) kept whole refl refl refl read grows
    (subst (λ (bs : List RawBlock). OwnChange heads bs (before ++ new ∷ after) z.memory.bytes memory.bytes kept) (sym is)
    (λ i own. let old = own-alike heads zone_header before here new after role contents slack i own in elim (cases_lt i place) [
      | inl below ↦ inr (old, stay i (inl below))
      | inr above ↦ elim (cases_lt i (place + n)) [
        | inl within ↦ inl (noted (own-contents heads zone_header before here after i old (omega arith) (omega arith)) i above within)
        | inr beyond ↦ inr (old, stay i (inr beyond))
      ]
    ]))

-- bytes are written over contents of a block that isn't lent
pub written-kept : (z : Inside) (whole : IsWhole z) → ArePossible z.spec → (before : List RawBlock) (here : RawBlock) (after : List RawBlock) → (layout_of z).blocks ≡ before ++ here ∷ after
    → (offset place : ℕ) (ws : List ℕ) → here.lent ≡ false → place ≡ zone_header + total_of z.spec.heads before + head_size z.spec.heads + offset → offset + length ws ≤ length here.contents
    → (kept : Option Record) → Grows (length z.memory.bytes) z.kept kept → (is_master here.role ≡ true → (i : ℕ) → place ≤ i → i < place + length ws → NotedIn kept i)
    → IsReadWhole (record z { memory = with_bytes z.memory place ws; kept = kept }) (with_blocks (before ++ (record here { contents = written here.contents offset ws }) ∷ after) (layout_of z))
written-kept z whole small before here after is offset place ws unlent there fits kept grows noted =
    contents-whole z whole before here (record here { contents = written here.contents offset ws }) after is
    (contents-written z whole.layout small before here after is offset place ws unlent there fits) refl (length-written here.contents offset ws) refl kept grows place (length ws) (omega arith) (omega arith) noted
    (λ i off. index-written-apart z.memory.bytes place ws i off)

-- all bytes are noted where contents of a master block change
pub grows-if : (n : ℕ) (own : Bool) (old new : Option Record) → new ≡ (if own then all_noted old else old) → Grows n old new
grows-if n true old new is = grows-all n old new is
grows-if n false old new is = subst (λ (k : Option Record). Grows n old k) (sym is) (grows-same n old)

pub noted-if : (own : Bool) (old new : Option Record) → new ≡ (if own then all_noted old else old) → own ≡ true → (i : ℕ) → NotedIn new i
noted-if own old new is all = all-noted old new (is ∙ ap (λ (t : Bool). if t then all_noted old else old) all)

-- the fields with another record stand for the zone with this one's name
pub read-named : (z : Inside) (kept : Option Record) (l : Layout) → IsRead z l → IsRead (record z { kept = kept }) (record l { memory = record { region = l.memory.region; kept = kept_name kept } })
read-named z kept l read = record {
  view = ap (λ (m : Layout). record m { memory = record { region = m.memory.region; kept = kept_name kept } }) read.view;
  whole = kept-layout z kept read.whole;
}

-- a part has no more bytes than this
part-few : (xs : List ℕ) (at n : ℕ) → length (part xs at n) ≤ n
part-few xs at n = omega (arith, length-take n (drop at xs))

-- bytes that are written among others leave those around them
pub write-stay : (m n : State) (at : ℕ) (ws : List ℕ) (place k : ℕ) → n ≡ with_bytes m at ws → place ≤ at → at + length ws ≤ place + k → (i : ℕ) → IsOff place k i → slice_index n.bytes i ≡ slice_index m.bytes i
write-stay m n at ws place k is low high i off = ap (λ (s : State). slice_index s.bytes i) is ∙ index-written-apart m.bytes at ws i (off-within place k at (length ws) i low high off)

-- two parts that change places do, in n bytes and k
pub turn-stay : (m n : State) (place j k from to : ℕ) → n ≡ with_bytes m place (part m.bytes from j ++ part m.bytes to k) → (i : ℕ) → IsOff place (j + k) i → slice_index n.bytes i ≡ slice_index m.bytes i
turn-stay m n place j k from to is = let a = part-few m.bytes from j in let b = part-few m.bytes to k in let c = length-append (part m.bytes from j) (part m.bytes to k) in
    write-stay m n place (part m.bytes from j ++ part m.bytes to k) place (j + k) is (omega arith) (omega arith)

-- and so do a part that moves, and a header that is written
pub slide-stay : (m mid n : State) (place k from to count at : ℕ) (heads : HeadKind) (base : ℕ) (h : Header) → mid ≡ with_bytes m to (part m.bytes from count) → n ≡ with_bytes mid at (head_bytes heads base h)
    → place ≤ to → to + count ≤ place + k → place ≤ at → at + head_size heads ≤ place + k → (i : ℕ) → IsOff place k i → slice_index n.bytes i ≡ slice_index m.bytes i
slide-stay m mid n place k from to count at heads base h slides writes low high low' high' i off = let few = part-few m.bytes from count in
    head-stay mid n at heads base h writes i (off-within place k at (head_size heads) i low' high' off) ∙ write-stay m mid to (part m.bytes from count) place k slides low (omega arith) i off

module _ (z : Inside) (whole : IsWhole z) {memory : State} {index : List ℕ} {loans : ℕ} (before old new after : List RawBlock) (is : (layout_of z).blocks ≡ before ++ (old ++ after))
    (read : IsRead (record z { memory = memory; index = index; loans = loans }) (with_blocks (before ++ (new ++ after)) (layout_of z))) where
  -- blocks stand for others, and all their bytes are noted
  pub span-whole : (kept : Option Record) (start count : ℕ) → start ≡ zone_header + total_of z.spec.heads before → count ≡ total_of z.spec.heads old → Notes z.kept kept start count
      → ((i : ℕ) → zone_header ≤ i → IsOff start count i → slice_index memory.bytes i ≡ slice_index z.memory.bytes i)
      → IsReadWhole (record z { memory = memory; index = index; loans = loans; kept = kept }) (with_blocks (before ++ (new ++ after)) (layout_of z))
  span-whole kept start count there long notes stay =
      let same = total-kept z whole before old new after is read in let within = total-within z whole before old new after is read in
      replaced-whole z whole before old new after is read kept (grows-noted (length z.memory.bytes) z.kept kept start count notes (omega arith)) start there
      (λ i own. let low = own-low z.spec.heads start new i own in let high = own-high z.spec.heads start new i own in range-noted z.kept kept start count notes i low (omega arith))
      (λ i above off. stay i above (subst (λ (n : ℕ). IsOff start n i) (same ∙ sym long) off))

-- a record is there where its name is
pub some-named : (k : Option Record) → is_some (kept_name k) ≡ is_some k
some-named None = refl
some-named (Some r) = refl

-- the same, where this is looked at only if there is a record
pub noted-awake : (own master : Bool) (old new : Option Record) → own ≡ (is_some old && master) → new ≡ (if own then all_noted old else old) → master ≡ true → (i : ℕ) → NotedIn new i
noted-awake own master None new own_is is all i = subst (λ (k : Option Record). NotedIn k i) (sym (is ∙ ap (λ (t : Bool). if t then None else None) own_is)) tt
noted-awake own master (Some r) new own_is is all i = noted-if own (Some r) new is (own_is ∙ all) i
