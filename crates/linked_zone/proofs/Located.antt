-- One address as that of an entry of a zone's map and as that of its block, and one number as that of a slot in both.
use Rattle.std.proofs.Common.{◌≡◌, ℕ, zero, suc, ◌+◌, ◌*◌, ◌<◌, true, not, ◌&&◌, cond, List, [], ◌∷◌, ◌++◌, length, map, refl, ap, sym, ◌∙◌, subst, arith, Contains, length-append}
use Rattle.std.proofs.lemmas.List.{length-map}
use Rattle.std.proofs.lemmas.List.Elements.{Contains-append_left, Contains-append_right}
use Rattle.mac_base.specs.declared.block.Entry.{Entry}
use Rattle.mac_base.specs.declared.block.Kind.{Kind}
use Rattle.mac_base.specs.declared.block.Kind.TheVariants as kind
use Rattle.mac_base.specs.HeadKind.{Shape, head_size, slot_count}
use Rattle.mac_base.specs.ZoneMap.{ZoneMap, block, is_master, total_size, address_after}
use Rattle.mac_base.specs.ZoneMap as map
use Rattle.mac_base.specs.HandleTable.{HandleTable}
use Rattle.mac_base.specs.Suits.{slots, slots_from}
use Rattle.mac_base.specs.ZoneState.{ZoneState}
use Rattle.zone_laws.proofs.SlotPlaces.{Contains-here, Contains-later, slots_at, slots_at-cons}
use Rattle.zone_records.specs.declared.slot.Slot.{Slot}
use Rattle.zone_records.specs.Records.{BlockRecord, ZoneRecords, block_record, Free, Master, total_of, kind_of}
use Rattle.zone_records.specs.Records as zone_records
use Rattle.zone_records.specs.Places.{RecordAt, SlotAt}
use Rattle.zone_records.specs.Places as records
use Rattle.linked_zone.specs.Owned.{Owners, owners_of, slot_of, content_of, record_of, records_from, records_of}
use Rattle.linked_zone.specs.Places.{EntryAt, FirstFrom, NoneFrom, SplitAt, FirstFree, LastFree, none_free}
use Rattle.linked_zone.specs.Fit.{Fits, HasRooms}
use Rattle.linked_zone.proofs.Owning.{records_from-append, records-total}
use Rattle.linked_zone.proofs.ReadBlocks.{IsPointerThere, ArePointersThere, kind-back}
use Rattle.linked_zone.proofs.ReadBack.{all-pointers}

-- ---- the block of an entry

-- the block at an entry's address
pub record OfEntry (r : ZoneRecords) (z : ZoneState) (at : ℕ) (e : EntryAt z at) : Type 0 where
  pub there : RecordAt r at
  pub lower : there.before ≡ records_from (owners_of z) z.shape (address_after z.shape []) e.before
  pub here : there.here ≡ record_of (owners_of z) z.shape at e.here
  pub higher : there.after ≡ records_from (owners_of z) z.shape (at + e.here.size) e.after

pub of-entry : (r : ZoneRecords) (z : ZoneState) → r ≡ records_of z → (at : ℕ) (e : EntryAt z at) → OfEntry r z at e
of-entry r z is at e = subst (λ r. OfEntry r z at e) (sym is) (
    let o = owners_of z in
    let start = address_after z.shape [] in
    let place = e.place in
    let total = records-total o z.shape start e.before in
    let same : start + total_size e.before ≡ at = omega arith in
    record {
      there = record {
        before = records_from o z.shape start e.before;
        here = record_of o z.shape (start + total_size e.before) e.here;
        after = records_from o z.shape ((start + total_size e.before) + e.here.size) e.after;
        blocks = ap (records_from o z.shape start) e.map ∙ records_from-append o z.shape start e.before (e.here ∷ e.after);
        place = omega arith;
      };
      lower = refl;
      here = ap (λ a. record_of o z.shape a e.here) same;
      higher = ap (λ a. records_from o z.shape (a + e.here.size) e.after) same;
    })

-- ---- the entry of a block

-- the entry of one of a map's blocks, the first at an address
record Apart (o : Owners) (s : Shape) (at : ℕ) (m : ZoneMap) (before : List BlockRecord) (here : BlockRecord) (after : List BlockRecord) : Type 0 where
  low : ZoneMap
  e : Entry
  high : ZoneMap
  is : m ≡ low ++ e ∷ high
  lower : before ≡ records_from o s at low
  there : here ≡ record_of o s (at + total_size low) e
  higher : after ≡ records_from o s ((at + total_size low) + e.size) high

apart : (o : Owners) (s : Shape) (at : ℕ) (m : ZoneMap) (before : List BlockRecord) (here : BlockRecord) (after : List BlockRecord) → records_from o s at m ≡ before ++ here ∷ after → Apart o s at m before here after
apart o s at [] [] here after is = absurd (cc is)
apart o s at [] (b ∷ before) here after is = absurd (cc is)
apart o s at (e ∷ es) [] here after is =
    let same : at + total_size [] ≡ at = omega arith in record {
      low = [];
      e = e;
      high = es;
      is = refl;
      lower = refl;
      there = (let first : record_of o s at e ≡ here = cc is in sym first ∙ ap (λ a. record_of o s a e) (sym same));
      higher = (let rest : records_from o s (at + e.size) es ≡ after = cc is in sym rest ∙ ap (λ a. records_from o s (a + e.size) es) (sym same));
    }
apart o s at (e ∷ es) (b ∷ before) here after is =
    after_first (cc is) (apart o s (at + e.size) es before here after (let rest : records_from o s (at + e.size) es ≡ before ++ here ∷ after = cc is in rest))
  where
    after_first : record_of o s at e ≡ b → Apart o s (at + e.size) es before here after → Apart o s at (e ∷ es) (b ∷ before) here after
    after_first first rest =
        let same : (at + e.size) + total_size rest.low ≡ at + total_size (e ∷ rest.low) = omega arith in record {
          low = e ∷ rest.low;
          e = rest.e;
          high = rest.high;
          is = ap (λ (m : ZoneMap). e ∷ m) rest.is;
          lower = ap (λ b. b ∷ before) (sym first) ∙ ap (λ bs. record_of o s at e ∷ bs) rest.lower;
          there = rest.there ∙ ap (λ a. record_of o s a rest.e) same;
          higher = rest.higher ∙ ap (λ a. records_from o s (a + rest.e.size) rest.high) same;
        }

-- the entry at a block's address
pub record OfRecord (r : ZoneRecords) (z : ZoneState) (at : ℕ) (b : RecordAt r at) : Type 0 where
  pub entry : EntryAt z at
  pub lower : b.before ≡ records_from (owners_of z) z.shape (address_after z.shape []) entry.before
  pub here : b.here ≡ record_of (owners_of z) z.shape at entry.here
  pub higher : b.after ≡ records_from (owners_of z) z.shape (at + entry.here.size) entry.after

pub of-record : (r : ZoneRecords) (z : ZoneState) → r ≡ records_of z → (at : ℕ) (b : RecordAt r at) → OfRecord r z at b
of-record r z is at b =
    let o = owners_of z in
    let start = address_after z.shape [] in
    let a = apart o z.shape start z.heap.map b.before b.here b.after (ap (λ (r : ZoneRecords). r.blocks) (sym is) ∙ b.blocks) in
    let base = ap (λ (r : ZoneRecords). r.shape.base) is in
    let total = ap total_of a.lower ∙ records-total o z.shape start a.low in
    let place = b.place in
    let same : start + total_size a.low ≡ at = omega arith in
    record {
      entry = record { before = a.low; here = a.e; after = a.high; map = a.is; place = omega arith };
      lower = a.lower;
      here = a.there ∙ ap (λ n. record_of o z.shape n a.e) same;
      higher = a.higher ∙ ap (λ n. records_from o z.shape (n + a.e.size) a.high) same;
    }

-- the first of the blocks from an address on is that of the map
pub first-from : (r : ZoneRecords) (z : ZoneState) → r ≡ records_of z → (from at : ℕ) → records.FirstFrom r from at → FirstFrom z from at
first-from r z is from at f = record { block = (of-record r z is at f.block).entry; reached = f.reached; first = λ other e. f.first other (of-entry r z is other e).there }

-- and where none of them begins there, none of the map does
pub none-from : (r : ZoneRecords) (z : ZoneState) → r ≡ records_of z → (from : ℕ) → records.NoneFrom r from → NoneFrom z from
none-from r z is from none at e = none at (of-entry r z is at e).there

-- no blocks are those of no entries
pub no-records : (o : Owners) (s : Shape) (at : ℕ) (m : ZoneMap) → records_from o s at m ≡ [] → m ≡ []
no-records o s at [] is = refl
no-records o s at (e ∷ es) is = absurd (cc is)

-- ---- its kind

-- where each pointer's block is where its number says, so is one
pointer-there : (t : HandleTable) (head at : ℕ) (low : ZoneMap) (e : Entry) (high : ZoneMap) → ArePointersThere t head at (low ++ e ∷ high) → IsPointerThere t (at + total_size low + head) e.kind
pointer-there t head at [] e high there = let same : at + head ≡ at + 0 + head = omega arith in subst (λ a. IsPointerThere t a e.kind) same there.0
pointer-there t head at (f ∷ low) e high there =
    let same : (at + f.size) + total_size low + head ≡ at + total_size (f ∷ low) + head = omega arith in
    subst (λ a. IsPointerThere t a e.kind) same (pointer-there t head (at + f.size) low e high there.1)

-- a pointer's block is that of the live pointer whose number is where its contents begin
pub entry-pointer : (z : ZoneState) → Fits z → HasRooms z → (at : ℕ) (e : EntryAt z at) → IsPointerThere z.heap.table (at + head_size z.shape.heads) e.here.kind
entry-pointer z fits rooms at e =
    let place = e.place in
    let same : address_after z.shape [] + total_size e.before + head_size z.shape.heads ≡ at + head_size z.shape.heads = omega arith in
    subst (λ a. IsPointerThere z.heap.table a e.here.kind) same
    (pointer-there z.heap.table (head_size z.shape.heads) (address_after z.shape []) e.before e.here e.after (subst (ArePointersThere z.heap.table (head_size z.shape.heads) (address_after z.shape [])) e.map (all-pointers z fits rooms)))

-- the entry is read off its block
pub entry-read : (z : ZoneState) → Fits z → HasRooms z → (at : ℕ) (e : EntryAt z at) (b : BlockRecord) → b ≡ record_of (owners_of z) z.shape at e.here → block (kind_of (at + head_size z.shape.heads) b.content) b.size ≡ e.here
entry-read z fits rooms at e b is =
    ap (λ (b : BlockRecord). block (kind_of (at + head_size z.shape.heads) b.content) b.size) is
    ∙ ap (λ k. block k e.here.size) (kind-back (owners_of z) z.heap.table (at + head_size z.shape.heads) e.here.kind (entry-pointer z fits rooms at e))

-- ---- free blocks

-- what is in a free block says that it is one
free-content : (o : Owners) (at : ℕ) (k : Kind) → records.is_free (content_of o at k) ≡ map.is_free k
free-content o at kind.Free = refl
free-content o at kind.Master = refl
free-content o at (kind.Ptr p) = refl
free-content o at (kind.Rel h) = refl

free-kind : (o : Owners) (at : ℕ) (k : Kind) → Free ≡ content_of o at k → k ≡ kind.Free
free-kind o at kind.Free is = refl
free-kind o at kind.Master is = absurd (cc is)
free-kind o at (kind.Ptr p) is = absurd (cc is)
free-kind o at (kind.Rel h) is = absurd (cc is)

-- none of the blocks is free where none of the entries is
pub none_free-same : (o : Owners) (s : Shape) (at : ℕ) (m : ZoneMap) → records.none_free (records_from o s at m) ≡ none_free m
none_free-same o s at [] = refl
none_free-same o s at (e ∷ es) =
    ap (λ t. not t && records.none_free (records_from o s (at + e.size) es)) (free-content o (at + head_size s.heads) e.kind)
    ∙ ap (λ t. not (map.is_free e.kind) && t) (none_free-same o s (at + e.size) es)

-- as many bytes of both are free
pub free_bytes-same : (o : Owners) (s : Shape) (at : ℕ) (m : ZoneMap) → records.free_total (records_from o s at m) ≡ map.free_bytes m
free_bytes-same o s at [] = refl
free_bytes-same o s at (e ∷ es) =
    ap (λ t. cond t e.size 0 + records.free_total (records_from o s (at + e.size) es)) (free-content o (at + head_size s.heads) e.kind)
    ∙ ap (λ n. map.free_size e + n) (free_bytes-same o s (at + e.size) es)

module _ (r : ZoneRecords) (z : ZoneState) (is : r ≡ records_of z) (from : ℕ) (split : SplitAt z from) where
  -- the blocks from an address on
  abbrev upper_part : List BlockRecord
  upper_part = records_from (owners_of z) z.shape (address_after z.shape [] + total_size split.before) split.after

  abbrev split_there : records.SplitAt (records_of z) from
  split_there = record {
    before = records_from (owners_of z) z.shape (address_after z.shape []) split.before;
    after = upper_part;
    blocks = ap (records_from (owners_of z) z.shape (address_after z.shape [])) split.map ∙ records_from-append (owners_of z) z.shape (address_after z.shape []) split.before split.after;
    place = (let total = records-total (owners_of z) z.shape (address_after z.shape []) split.before in let place = split.place in omega arith);
  }

  pub split-at : records.SplitAt r from
  split-at = subst (λ r. records.SplitAt r from) (sym is) split_there

  -- the first free one of them is that of the map
  pub first-free : (at : ℕ) → ((s : records.SplitAt r from) → records.FirstFree s.after from at) → FirstFree split.after from at
  first-free at finds =
      let f = (subst (λ (r : ZoneRecords). (s : records.SplitAt r from) → records.FirstFree s.after from at) is finds) split_there in
      let start = address_after z.shape [] + total_size split.before in
      let a = apart (owners_of z) z.shape start split.after f.passed (block_record Free f.size) f.after f.blocks in
      let free : a.e.kind ≡ kind.Free = free-kind (owners_of z) _ a.e.kind (ap (λ (b : BlockRecord). b.content) a.there) in
      record {
        passed = a.low;
        size = a.e.size;
        after = a.high;
        splits = a.is ∙ ap (λ k. a.low ++ block k a.e.size ∷ a.high) free;
        used = sym (ap records.none_free a.lower ∙ none_free-same (owners_of z) z.shape start a.low) ∙ f.used;
        place = f.place ∙ ap (λ n. from + n) (ap total_of a.lower ∙ records-total (owners_of z) z.shape start a.low);
      }

  -- the last free one of those before it is that of the map
  pub last-free : (at : ℕ) → ((s : records.SplitAt r from) → records.LastFree s.before (zone_records.address_after r.shape []) at) → LastFree split.before (address_after z.shape []) at
  last-free at finds =
      let f = (subst (λ (r : ZoneRecords). (s : records.SplitAt r from) → records.LastFree s.before (zone_records.address_after r.shape []) at) is finds) split_there in
      let start = address_after z.shape [] in
      let a = apart (owners_of z) z.shape start split.before f.front (block_record Free f.size) f.passed f.blocks in
      let free : a.e.kind ≡ kind.Free = free-kind (owners_of z) _ a.e.kind (ap (λ (b : BlockRecord). b.content) a.there) in
      let place = f.place in
      let total = ap total_of a.lower ∙ records-total (owners_of z) z.shape start a.low in
      record {
        front = a.low;
        size = a.e.size;
        passed = a.high;
        splits = a.is ∙ ap (λ k. a.low ++ block k a.e.size ∷ a.high) free;
        used = sym (ap records.none_free a.higher ∙ none_free-same (owners_of z) z.shape _ a.high) ∙ f.used;
        place = omega arith;
      }

  -- none of those before it is free where none of them is
  pub no-free-before : ((s : records.SplitAt r from) → records.none_free s.before ≡ true) → none_free split.before ≡ true
  no-free-before none = sym (none_free-same (owners_of z) z.shape (address_after z.shape []) split.before)
      ∙ (subst (λ (r : ZoneRecords). (s : records.SplitAt r from) → records.none_free s.before ≡ true) is none) split_there

  -- none of the map's is free where none of them is
  pub no-free : ((s : records.SplitAt r from) → records.none_free s.after ≡ true) → none_free split.after ≡ true
  no-free none = sym (none_free-same (owners_of z) z.shape (address_after z.shape [] + total_size split.before) split.after)
      ∙ (subst (λ (r : ZoneRecords). (s : records.SplitAt r from) → records.none_free s.after ≡ true) is none) split_there

-- ---- slots

-- what is in a master block says that it is one
master-kind : (o : Owners) (at : ℕ) (k : Kind) (xs : List Slot) → Master xs ≡ content_of o at k → (is_master k ≡ true) × (xs ≡ map o.slot (slots_from slot_count at))
master-kind o at kind.Free xs is = absurd (cc is)
master-kind o at kind.Master xs is = (refl, cc is)
master-kind o at (kind.Ptr p) xs is = absurd (cc is)
master-kind o at (kind.Rel h) xs is = absurd (cc is)

length-slots_from : (n at : ℕ) → length (slots_from n at) ≡ n
length-slots_from zero at = refl
length-slots_from (suc n) at = ap suc (length-slots_from n (at + 4))

slots_from-at : (n at k : ℕ) → k < n → Contains (slots_from n at) (at + 4 * k)
slots_from-at zero at k below = absurd (omega arith)
slots_from-at (suc n) at zero below = let same : at ≡ at + 4 * 0 = omega arith in subst (λ y. Contains (slots_from (suc n) at) y) same (Contains-here at (slots_from n (at + 4)))
slots_from-at (suc n) at (suc k) below =
    let same : (at + 4) + 4 * k ≡ at + 4 * suc k = omega arith in
    subst (λ y. Contains (slots_from (suc n) at) y) same (Contains-later at (slots_from n (at + 4)) ((at + 4) + 4 * k) (slots_from-at n (at + 4) k (omega arith)))

-- the slots of a master block among others are slots of the map
in-slots : (head n at : ℕ) (low : ZoneMap) (e : Entry) (high : ZoneMap) (x : ℕ) → is_master e.kind ≡ true → Contains (slots_from n (at + total_size low + head)) x → Contains (slots_at head n at (low ++ e ∷ high)) x
in-slots head n at [] e high x master c =
    let same : at + 0 + head ≡ at + head = omega arith in
    subst (λ xs. Contains xs x) (sym (slots_at-cons head n at e high ∙ ap (λ b. cond b (slots_from n (at + head)) [] ++ slots_at head n (at + e.size) high) master))
    (Contains-append_left (slots_from n (at + head)) (slots_at head n (at + e.size) high) x (subst (λ a. Contains (slots_from n a) x) same c))
in-slots head n at (f ∷ low) e high x master c =
    let same : at + total_size (f ∷ low) + head ≡ (at + f.size) + total_size low + head = omega arith in
    subst (λ xs. Contains xs x) (sym (slots_at-cons head n at f (low ++ e ∷ high)))
    (Contains-append_right (cond (is_master f.kind) (slots_from n (at + head)) []) (slots_at head n (at + f.size) (low ++ e ∷ high)) x
    (in-slots head n (at + f.size) low e high x master (subst (λ a. Contains (slots_from n a) x) same c)))

-- what is among what a function makes of slots is what it makes of one
slot-among : (f : ℕ → Slot) (n at : ℕ) (before : List Slot) (here : Slot) (after : List Slot) → before ++ here ∷ after ≡ map f (slots_from n at) → here ≡ f (at + 4 * length before)
slot-among f zero at [] here after is = absurd (cc is)
slot-among f zero at (s ∷ before) here after is = absurd (cc is)
slot-among f (suc n) at [] here after is = let same : at ≡ at + 4 * 0 = omega arith in let first : here ≡ f at = cc is in first ∙ ap f same
slot-among f (suc n) at (s ∷ before) here after is =
    let same : (at + 4) + 4 * length before ≡ at + 4 * suc (length before) = omega arith in
    slot-among f n (at + 4) before here after (cc is) ∙ ap f same

-- a slot of the blocks is one of the map's, and says what is written there
pub record MapSlot (r : ZoneRecords) (z : ZoneState) (x : ℕ) (slot : SlotAt r x) : Type 0 where
  pub among : Contains (slots z.shape z.heap.map) x
  pub says : slot.here ≡ slot_of z x

pub map-slot : (r : ZoneRecords) (z : ZoneState) → r ≡ records_of z → (x : ℕ) (slot : SlotAt r x) → MapSlot r z x slot
map-slot r z is x slot =
    let o = owners_of z in
    let start = address_after z.shape [] in
    let shape = ap (λ (r : ZoneRecords). r.shape) is in
    let a = apart o z.shape start z.heap.map slot.before (block_record (Master (slot.slots_before ++ slot.here ∷ slot.slots_after)) slot.size) slot.after (ap (λ (r : ZoneRecords). r.blocks) (sym is) ∙ slot.blocks) in
    let there = start + total_size a.low + head_size z.shape.heads in
    let master = master-kind o there a.e.kind (slot.slots_before ++ slot.here ∷ slot.slots_after) (ap (λ (b : BlockRecord). b.content) a.there) in
    let long = sym (length-append slot.slots_before (slot.here ∷ slot.slots_after)) ∙ ap length master.1 ∙ length-map (slots_from slot_count there) o.slot ∙ length-slots_from slot_count there in
    let base = ap (λ (s : Shape). s.base) shape in
    let heads = ap (λ (s : Shape). head_size s.heads) shape in
    let total = ap total_of a.lower ∙ records-total o z.shape start a.low in
    let place = slot.place in
    let same : there + 4 * length slot.slots_before ≡ x = omega arith in
    record {
      among = subst (λ m. Contains (slots z.shape m) x) (sym a.is)
          (in-slots (head_size z.shape.heads) slot_count start a.low a.e a.high x master.0
          (subst (λ y. Contains (slots_from slot_count there) y) same (slots_from-at slot_count there (length slot.slots_before) (omega arith))));
      says = slot-among o.slot slot_count there slot.slots_before slot.here slot.slots_after master.1 ∙ ap o.slot same;
    }

pub slot-of : (r : ZoneRecords) (z : ZoneState) → r ≡ records_of z → (x : ℕ) → SlotAt r x → Contains (slots z.shape z.heap.map) x
slot-of r z is x slot = (map-slot r z is x slot).among
