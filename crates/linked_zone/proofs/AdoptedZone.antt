-- A zone that was found in bytes: what it stands for is sound, and in the bytes.
use Rattle.std.proofs.Common.{◌≡◌, ℕ, zero, suc, ◌+◌, ◌-◌, ◌%◌, ◌/◌, ◌<◌, ◌≤◌, ◌^◌, ◌==◌, Bool, true, false, not, ◌&&◌, ◌||◌, nat_le, nat_lt, cond, eqb, List, [], ◌∷◌, ◌++◌, length, map, take, drop, refl, ap, sym, ◌∙◌, subst, arith, append_assoc, length-append, take_at}
use Rattle.std.specs.List.{All, list_all}
use Rattle.std.proofs.lemmas.Bool.Decides.{nat_tests}
use Rattle.std.proofs.lemmas.Bool.{and_parts, and_from}
use Rattle.std.proofs.lemmas.List.Elements.{All-nil, All-cons}
use Rattle.byteorder.specs.Endian.{big_number}
use Rattle.mac_base.specs.declared.block.Flags.{Flags}
use Rattle.mac_base.specs.declared.block.HeadKind.{HeadKind}
use Rattle.mac_base.specs.declared.block.HeadKind.TheVariants.{Bits24, Bits32}
use Rattle.mac_base.specs.declared.block.Kind.{Kind}
use Rattle.mac_base.specs.declared.block.Kind.TheVariants as kind
use Rattle.mac_base.specs.FlagState.{flags_from}
use Rattle.mac_base.specs.HandleTable.{no_flags}
use Rattle.mac_base.specs.HeadKind.{Shape, address_end, head_size, smallest_block, slot_count, zone_header}
use Rattle.mac_base.specs.Sound.{Sound, is_growth}
use Rattle.mac_base.specs.Suits.{free_apart, has_length, has_owners_length, starts_free, wanted_length}
use Rattle.mac_base.specs.ZoneMap as map
use Rattle.mac_base.specs.ZoneMap.{ZoneMap, total_size}
use Rattle.mac_base.specs.ZoneSizes.{ZoneSizes, ArePossible, shape_of}
use Rattle.mac_base.specs.ZoneState.{ZoneState}
use Rattle.block_bytes.specs.declared.header.Role.{Role}
use Rattle.block_bytes.specs.declared.header.Role.TheVariants as role
use Rattle.block_bytes.specs.Layout as raw
use Rattle.block_bytes.specs.Layout.{RawBlock, Layout, lent_count, zone_bytes, header_bytes, rendered}
use Rattle.block_bytes.proofs.Parts.{length-header}
use Rattle.block_bytes.proofs.Rendered.{length-rendered}
use Rattle.zone_records.proofs.Apart.{total-read}
use Rattle.zone_records.proofs.Looking.{sound-parts}
use Rattle.zone_records.proofs.MasterBlocks.{image-long}
use Rattle.zone_records.proofs.ReadSlots.{length-slots_in}
use Rattle.zone_records.specs.Adopting as records
use Rattle.zone_records.specs.declared.slot.Slot.TheVariants as slot
use Rattle.zone_records.specs.Image.{HasBytes}
use Rattle.zone_records.specs.Places.{FreePair, is_free}
use Rattle.zone_records.specs.Reading.{content_in, record_in, records_in, is_sound}
use Rattle.zone_records.specs.Records.{Content, BlockRecord, ZoneRecords, Free, Fixed, Master, Relocatable, kind_of, length_of, total_of}
use Rattle.zone_records.specs.Word.{slot_in, slots_in}
use Rattle.linked_zone.specs.Adopting.{IsZoneIn}
use Rattle.linked_zone.specs.Owned.{header_flags, owners_of, content_of, records_from, records_of}
use Rattle.linked_zone.specs.Reading.{map_in}
use Rattle.linked_zone.proofs.AdoptedFits.{start, read_map, read_zone, read-coherent, read-free, read-fits}
use Rattle.linked_zone.proofs.AdoptedRecords.{read-records}
use Rattle.linked_zone.proofs.Readable.{IsReadable, SlotSays, ContentSays, All-at, map_in-total, rooms-in, sizes-in}
use Rattle.linked_zone.proofs.Standing.{Stands, Kept, kept}
use Rattle.linked_zone.proofs.TwoPlaces.{total_of-append}

-- ---- blocks of bytes can be read

-- what a word says has no flags but those that slots say
word-says : (heads : HeadKind) (w : ℕ) → SlotSays heads (slot_in heads w)
word-says Bits24 w = by_tests (eqb w 0) (eqb (w / 0x100_0000 % 2) 1)
  where
    by_tests : (a b : Bool) → SlotSays Bits24 (cond a slot.Empty (cond b (slot.Free (w % 0x100_0000)) (slot.Full (flags_from (w / 0x100_0000)) (w % 0x100_0000))))
    by_tests true b = tt
    by_tests false true = tt
    by_tests false false = refl
word-says Bits32 w = by_tests (eqb w 0) (eqb (w % 2) 1)
  where
    by_tests : (a b : Bool) → SlotSays Bits32 (cond a slot.Empty (cond b (slot.Free (w - 1)) (slot.Full no_flags w)))
    by_tests true b = tt
    by_tests false true = tt
    by_tests false false = refl

words-say : (heads : HeadKind) (n : ℕ) (bytes : List ℕ) → All (SlotSays heads) (slots_in heads n bytes)
unfolding slots_in
words-say heads zero bytes = All-nil (SlotSays heads)
words-say heads (suc n) bytes = All-cons (SlotSays heads) (slot_in heads (big_number 4 (take 4 bytes))) (slots_in heads n (drop 4 bytes)) (word-says heads (big_number 4 (take 4 bytes))) (words-say heads n (drop 4 bytes))

-- flags that a header can say are those that headers say
header-says : (heads : HeadKind) (f : Flags) → raw.can_say heads f ≡ true → header_flags heads f ≡ f
header-says Bits24 f can = by_case f.lock f.purge f.resource can
  where
    by_case : (a b c : Bool) → (not a && (not b && not c)) ≡ true → no_flags ≡ record { lock = a; purge = b; resource = c }
    by_case false false false h = refl
    by_case false false true h = absurd (cc h)
    by_case false true c h = absurd (cc h)
    by_case true b c h = absurd (cc h)
header-says Bits32 f can = refl

content-says : (heads : HeadKind) (base : ℕ) (r : Role) (bytes : List ℕ) (over : ℕ) → raw.can_be_told heads r over ≡ true → ContentSays heads (content_in heads base r bytes)
content-says heads base role.Free bytes over told = tt
content-says heads base role.Fixed bytes over told = tt
content-says heads base role.Master bytes over told = (length-slots_in heads slot_count bytes, words-say heads slot_count bytes)
content-says heads base (role.Relocatable offset flags) bytes over told = header-says heads flags (and_parts (nat_lt offset (2 ^ 32)) (raw.can_say heads flags) told).1

-- where one of two is lent, not none is
first-unlent : (b : RawBlock) (bs : List RawBlock) → lent_count (b ∷ bs) ≡ 0 → (b.lent ≡ false) × (lent_count bs ≡ 0)
first-unlent b bs none = by_test b.lent none
  where
    by_test : (t : Bool) → cond t (suc (lent_count bs)) (lent_count bs) ≡ 0 → (t ≡ false) × (lent_count bs ≡ 0)
    by_test true none = absurd (omega arith)
    by_test false none = (refl, none)

module _ (s : Shape) (base : ℕ) where
  -- whether a block has no room for another beside what is in it
  abbrev pub is_tight : BlockRecord → Bool
  is_tight b = is_free b.content || has_length s b.size (length_of b.content)

  pub readable-in : (bs : List RawBlock) → list_all (is_sound s.heads base) bs ≡ true → lent_count bs ≡ 0 → list_all is_tight (map (record_in s.heads base) bs) ≡ true → All (IsReadable s) (map (record_in s.heads base) bs)
  readable-in [] sound unlent tight = All-nil (IsReadable s)
  readable-in (b ∷ bs) sound unlent tight =
      let both = and_parts (is_sound s.heads base b) (list_all (is_sound s.heads base) bs) sound in
      let here = sound-parts s.heads base b both.0 in
      let none = first-unlent b bs unlent in
      let tights = and_parts (is_tight (record_in s.heads base b)) (list_all is_tight (map (record_in s.heads base) bs)) tight in
      All-cons (IsReadable s) (record_in s.heads base b) (map (record_in s.heads base) bs)
      (record { size = and_from _ _ here.even here.large; long = tights.0; says = content-says s.heads base b.role b.contents (length b.slack) here.told; unlent = none.0 })
      (readable-in bs both.1 none.1 tights.1)

-- ---- free blocks are apart

free-kind : (at : ℕ) (c : Content) → map.is_free (kind_of at c) ≡ is_free c
free-kind at Free = refl
free-kind at (Fixed bytes) = refl
free-kind at (Master slots) = refl
free-kind at (Relocatable h flags bytes) = refl

is-free : (c : Content) → is_free c ≡ true → c ≡ Free
is-free Free is = refl
is-free (Fixed bytes) is = absurd (cc is)
is-free (Master slots) is = absurd (cc is)
is-free (Relocatable h flags bytes) is = absurd (cc is)

module _ (r : ZoneRecords) (all : All (IsReadable r.shape) r.blocks) where
  not-two : (before : List BlockRecord) (b : BlockRecord) (bs : List BlockRecord) (at : ℕ) → r.blocks ≡ before ++ b ∷ bs → at ≡ start r all + total_of before → ((a : ℕ) → FreePair r a → ⊥)
      → (map.is_free (kind_of (at + head_size r.shape.heads) b.content) && starts_free (map_in r.shape (at + b.size) bs)) ≡ false
  not-two before b [] at split place none = by_test (map.is_free (kind_of (at + head_size r.shape.heads) b.content))
    where
      by_test : (t : Bool) → (t && false) ≡ false
      by_test true = refl
      by_test false = refl
  not-two before b (c ∷ cs) at split place none = by_tests _ _ refl refl
    where
      head : ℕ
      head = head_size r.shape.heads

      by_tests : (t u : Bool) → map.is_free (kind_of (at + head) b.content) ≡ t → map.is_free (kind_of (at + b.size + head) c.content) ≡ u → (t && u) ≡ false
      by_tests false u first second = refl
      by_tests true false first second = refl
      by_tests true true first second =
          let one = is-free b.content (sym (free-kind (at + head) b.content) ∙ first) in
          let two = is-free c.content (sym (free-kind (at + b.size + head) c.content) ∙ second) in
          let whole : All (IsReadable r.shape) (before ++ b ∷ c ∷ cs) = subst (All (IsReadable r.shape)) split all in
          let here = (All-at (IsReadable r.shape) before b (c ∷ cs) whole).unlent in
          let next = (All-at (IsReadable r.shape) (before ++ b ∷ []) c cs (subst (All (IsReadable r.shape)) (sym (append_assoc before (b ∷ []) (c ∷ cs))) whole)).unlent in
          absurd (none at (record {
            before = before;
            first = b.size;
            second = c.size;
            after = cs;
            blocks = split ∙ (λ i. before ++ record { size = b.size; content = one i; lent = here i } ∷ record { size = c.size; content = two i; lent = next i } ∷ cs);
            place = omega arith;
          }))

  apart-in : ((a : ℕ) → FreePair r a → ⊥) → (before bs : List BlockRecord) (at : ℕ) → r.blocks ≡ before ++ bs → at ≡ start r all + total_of before → free_apart (map_in r.shape at bs) ≡ true
  apart-in none before [] at split place = refl
  apart-in none before (b ∷ bs) at split place =
      let sum = total_of-append before (b ∷ []) in
      and_from _ _ (ap not (not-two before b bs at split place none)) (apart-in none (before ++ b ∷ []) bs (at + b.size) (split ∙ sym (append_assoc before (b ∷ []) bs)) (omega arith))

-- ---- lengths

-- the blocks that a map calls for have their owners' lengths where the entries do
pub lengths-same : (z : ZoneState) (s : Shape) (at : ℕ) (m : ZoneMap) → list_all (λ (b : BlockRecord). is_free b.content || has_length s b.size (length_of b.content)) (records_from (owners_of z) s at m) ≡ list_all (has_owners_length s z.heap.table) m
lengths-same z s at [] = refl
lengths-same z s at (e ∷ es) =
    ap (λ t. t && list_all (λ (b : BlockRecord). is_free b.content || has_length s b.size (length_of b.content)) (records_from (owners_of z) s (at + e.size) es)) (by_kind e.kind (at + head_size s.heads))
    ∙ ap (λ t. has_owners_length s z.heap.table e && t) (lengths-same z s (at + e.size) es)
  where
    by_kind : (k : Kind) (a : ℕ) → (is_free (content_of (owners_of z) a k) || has_length s e.size (length_of (content_of (owners_of z) a k))) ≡ (map.is_free k || has_length s e.size (wanted_length z.heap.table k))
    by_kind kind.Free a = refl
    by_kind kind.Master a = refl
    by_kind (kind.Ptr p) a = refl
    by_kind (kind.Rel h) a = refl

-- what a possible zone may still grow by makes a block
pub growth-possible : (spec : ZoneSizes) → ArePossible spec → (s : Shape) → s ≡ shape_of spec → (size : ℕ) → size ≡ spec.size → is_growth s (s.limit - size) ≡ true
growth-possible spec possible s is size same = subst (λ (s : Shape). is_growth s (s.limit - size) ≡ true) (sym is) (by_heads spec.heads (spec.limit - size) even large)
  where
    even : (spec.limit - size) % 4 ≡ 0
    even = let a = possible.even_size in let b = possible.even_limit in let c = possible.within in omega arith

    large : 0 < spec.limit - size → 16 ≤ spec.limit - size
    large = λ some. let more = possible.growth (omega arith) in omega arith

    by_heads : (heads : HeadKind) (n : ℕ) → n % 4 ≡ 0 → (0 < n → 16 ≤ n) → (n == 0 || ((n % 4 == 0) && nat_le (smallest_block heads) n)) ≡ true
    by_heads Bits24 n even large = grind (arith, nat_tests)
    by_heads Bits32 n even large = grind (arith, nat_tests)

-- ---- the zone

module _ (spec : ZoneSizes) (possible : ArePossible spec) (bytes : List ℕ) (r : ZoneRecords) (zone : records.IsZoneIn spec bytes r) where
  abbrev l : Layout
  l = zone.layout

  pub all-readable : All (IsReadable r.shape) r.blocks
  all-readable = subst (λ (r : ZoneRecords). All (IsReadable r.shape) r.blocks) zone.same
      (readable-in (records_in l).shape l.base l.blocks zone.sound.blocks zone.zone.unlent
      (subst (λ (r : ZoneRecords). list_all (λ (b : BlockRecord). is_free b.content || has_length r.shape b.size (length_of b.content)) r.blocks ≡ true) (sym zone.same) zone.tight.lengths))

  -- what the blocks stand for
  abbrev pub found : ZoneState
  found = read_zone r all-readable zone.links

  -- its shape and its size are those that were looked for
  shape-found : r.shape ≡ shape_of spec
  shape-found =
      let limit : zone_header + raw.total_of l.heads l.blocks + length l.spare ≡ spec.limit = sym (image-long l) ∙ ap length zone.zone.image ∙ zone.zone.all in
      ap (λ (r : ZoneRecords). r.shape) (sym zone.same) ∙ (λ i. record { heads = zone.zone.heads i; base = zone.zone.base i; limit = limit i })

  size-found : zone_header + total_size (read_map r all-readable) ≡ spec.size
  size-found =
      let total = map_in-total r.shape (start r all-readable) r.blocks ∙ ap (λ (r : ZoneRecords). total_of r.blocks) (sym zone.same) ∙ total-read l.heads l.base l.blocks in
      let ends = zone.zone.ends in
      let base = zone.zone.base in omega arith

  within-found : zone_header + total_size (read_map r all-readable) ≤ r.shape.limit
  within-found = let size = size-found in let limit = ap (λ (s : Shape). s.limit) shape-found in let within = possible.within in omega arith

  pub stands-found : Stands r found
  stands-found = record {
    blocks = read-records r all-readable zone.links;
    fits = read-fits r all-readable zone.links;
    sizes = sizes-in r.shape (start r all-readable) r.blocks all-readable;
    rooms = rooms-in r.shape (start r all-readable) r.blocks all-readable;
    within = within-found;
    even = ap (λ (s : Shape). s.base % 4) shape-found ∙ possible.even_base;
    low = subst (λ (s : Shape). 0x1000 ≤ s.base) (sym shape-found) possible.base_high_enough;
    high = subst (λ (s : Shape). s.base + s.limit ≤ address_end s.heads) (sym shape-found) possible.end_low_enough;
  }

  pub kept-found : Kept r found
  kept-found = kept r found stands-found

  sound-found : Sound r.shape found.heap
  sound-found = record {
    suits = record {
      coherent = read-coherent r all-readable zone.links;
      apart = apart-in r all-readable zone.tight.apart [] r.blocks (start r all-readable) refl (omega arith);
      sizes = sizes-in r.shape (start r all-readable) r.blocks all-readable;
      lengths = sym (ap (λ (r' : ZoneRecords). list_all (λ (b : BlockRecord). is_free b.content || has_length r.shape b.size (length_of b.content)) r'.blocks) (read-records r all-readable zone.links)
          ∙ lengths-same found r.shape (start r all-readable) (read_map r all-readable)) ∙ zone.tight.lengths;
    };
    within = within-found;
    growth = growth-possible spec possible r.shape shape-found (zone_header + total_size (read_map r all-readable)) size-found;
    slots = read-free r all-readable zone.links;
  }

  -- the first bytes are those of the blocks
  bytes-found : HasBytes (records_of found) (take (zone_header + total_size (read_map r all-readable)) bytes)
  bytes-found =
      let total = map_in-total r.shape (start r all-readable) r.blocks ∙ ap (λ (r : ZoneRecords). total_of r.blocks) (sym zone.same) ∙ total-read l.heads l.base l.blocks in
      let parts = length-append (header_bytes l) (rendered l.heads l.base l.blocks) in
      let first = length-header l in
      let others = length-rendered l.heads l.base l.blocks in
      let long : length (zone_bytes l) ≡ zone_header + total_size (read_map r all-readable) = omega arith in
      record {
        layout = l;
        form = ap (take (zone_header + total_size (read_map r all-readable))) (sym zone.zone.image ∙ sym (append_assoc (header_bytes l) (rendered l.heads l.base l.blocks) l.spare)) ∙ take_at (zone_bytes l) l.spare (zone_header + total_size (read_map r all-readable)) long;
        possible = subst (λ heads. list_all (raw.is_possible heads) l.blocks ≡ true) (sym zone.zone.heads) zone.zone.possible;
        words = zone.sound.words;
        same = zone.same ∙ read-records r all-readable zone.links;
      }

  pub is-found : IsZoneIn spec bytes found
  is-found = record {
    sizes = λ i. record { heads = (shape-found i).heads; base = (shape-found i).base; size = size-found i; limit = (shape-found i).limit };
    sound = sound-found;
    nothing_lent = refl;
    inside = record { all = zone.zone.all ∙ sym (ap (λ (s : Shape). s.limit) shape-found); image = bytes-found };
  }
