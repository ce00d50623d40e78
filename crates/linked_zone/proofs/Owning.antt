-- The blocks of a zone map for other owners, with another part of the map, and with one slot written.
use Rattle.std.proofs.Common.{◌≡◌, ℕ, zero, suc, ◌+◌, ◌*◌, ◌≤◌, Bool, true, false, not, ◌&&◌, cond, eqb, List, [], ◌∷◌, ◌++◌, length, map, flat_map, refl, ap, sym, ◌∙◌, subst, arith, Contains, inl, inr}
use Rattle.std.specs.List.{list_all}
use Rattle.std.proofs.lemmas.Bool.Decides.{nat_tests}
use Rattle.std.proofs.lemmas.List.Elements.{Contains-append_cases, Contains-append_left, Contains-append_right}
use Rattle.std.proofs.lemmas.Bool.{and_parts, eqb-true}
use Rattle.mac_base.specs.declared.block.Kind.{Kind}
use Rattle.mac_base.specs.declared.block.Kind.TheVariants as kind
use Rattle.mac_base.specs.HeadKind.{Shape, head_size, slot_count}
use Rattle.mac_base.specs.ZoneMap.{ZoneMap, is_master, is_named, total_size, address_after, addresses_from}
use Rattle.mac_base.specs.Suits.{slots, slots_from}
use Rattle.mac_base.specs.ZoneState.{Memory}
use Rattle.zone_laws.proofs.Owners.{none_named}
use Rattle.zone_laws.proofs.SlotPlaces.{slots_at, has_room, slots_at-above, Contains-cons_cases, Contains-none, Contains-here, Contains-later, slots_from-bounds}
use Rattle.zone_laws.proofs.Tables.{eqb_same}
use Rattle.zone_records.specs.declared.slot.Slot.{Slot}
use Rattle.zone_records.specs.Records.{BlockRecord, ZoneRecords, block_record, Master, total_of}
use Rattle.zone_records.specs.Records as records
use Rattle.zone_records.specs.Changes.{with_slot}
use Rattle.zone_records.specs.Places.{SlotAt}
use Rattle.linked_zone.specs.Owned.{Owners, content_of, lent_of, record_of, records_from}

-- the blocks of a map with what is written for their owners, in a zone whose header names this free slot first
abbrev pub image : Memory → Shape → ℕ → Owners → ZoneMap → ZoneRecords
image memory s front o m = record { memory = memory; shape = s; front = front; blocks = records_from o s (address_after s []) m }

-- ---- parts of a map

-- the blocks of two parts, the second after the first
pub records_from-append : (o : Owners) (s : Shape) (at : ℕ) (xs ys : ZoneMap) → records_from o s at (xs ++ ys) ≡ records_from o s at xs ++ records_from o s (at + total_size xs) ys
records_from-append o s at [] ys = let same : at ≡ at + 0 = omega arith in ap (λ a. records_from o s a ys) same
records_from-append o s at (e ∷ es) ys =
    let same : (at + e.size) + total_size es ≡ at + (e.size + total_size es) = omega arith in
    ap (λ bs. record_of o s at e ∷ bs)
    (records_from-append o s (at + e.size) es ys ∙ ap (λ a. records_from o s (at + e.size) es ++ records_from o s a ys) same)

-- they are as large as those of the map
pub records-total : (o : Owners) (s : Shape) (at : ℕ) (m : ZoneMap) → total_of (records_from o s at m) ≡ total_size m
records-total o s at [] = refl
records-total o s at (e ∷ es) = ap (λ n. e.size + n) (records-total o s (at + e.size) es)

-- so what is after them begins at the same address
pub records-place : (o : Owners) (s : Shape) (m : ZoneMap) → address_after s m ≡ records.address_after s (records_from o s (address_after s []) m)
records-place o s m = ap (λ n. s.base + 52 + n) (sym (records-total o s (address_after s []) m))

-- those of a map in three parts
pub records-middle : (o : Owners) (s : Shape) (at : ℕ) (before middle after : ZoneMap) → records_from o s at (before ++ (middle ++ after))
    ≡ records_from o s at before ++ (records_from o s (at + total_size before) middle ++ records_from o s ((at + total_size before) + total_size middle) after)
records-middle o s at before middle after =
    records_from-append o s at before (middle ++ after) ∙ ap (λ bs. records_from o s at before ++ bs) (records_from-append o s (at + total_size before) middle after)

-- ---- owners that agree

-- they say the same in the slots of a map
abbrev pub SameSlots : Owners → Owners → Shape → ℕ → ZoneMap → Type 0
SameSlots o p s at m = (x : ℕ) → Contains (slots_at (head_size s.heads) slot_count at m) x → p.slot x ≡ o.slot x

-- they have the same for a number
abbrev pub SameOf : Owners → Owners → ℕ → Type 0
SameOf o p x = (p.flags x ≡ o.flags x) × (p.bytes x ≡ o.bytes x) × (p.lent x ≡ o.lent x)

-- they do for each number that names a block of a map
abbrev pub SameNamed : Owners → Owners → ZoneMap → Type 0
SameNamed o p m = (x : ℕ) → none_named x m ≡ false → SameOf o p x

slots_at-cons : (head n at size : ℕ) (k : Kind) (es : ZoneMap) → slots_at head n at (record { size = size; kind = k } ∷ es) ≡ cond (is_master k) (slots_from n (at + head)) [] ++ slots_at head n (at + size) es
slots_at-cons head n at size k es = by_test (is_master k)
  where
    by_test : (b : Bool) → flat_map (slots_from n) (map (λ a. a + head) (cond b (at ∷ []) [] ++ addresses_from (at + size) is_master es)) ≡ cond b (slots_from n (at + head)) [] ++ slots_at head n (at + size) es
    by_test true = refl
    by_test false = refl

map-same : (f g : ℕ → Slot) (xs : List ℕ) → ((x : ℕ) → Contains xs x → g x ≡ f x) → map g xs ≡ map f xs
map-same f g [] same = refl
map-same f g (x ∷ xs) same = ap (λ y. y ∷ map g xs) (same x (Contains-here x xs)) ∙ ap (λ ys. f x ∷ ys) (map-same f g xs (λ y c. same y (Contains-later x xs y c)))

content-same : (o p : Owners) (at : ℕ) (k : Kind) → ((x : ℕ) → Contains (cond (is_master k) (slots_from slot_count at) []) x → p.slot x ≡ o.slot x)
    → ((x : ℕ) → is_named x k ≡ true → SameOf o p x) → content_of p at k ≡ content_of o at k
content-same o p at kind.Free slot named = refl
content-same o p at kind.Master slot named = ap Master (map-same o.slot p.slot (slots_from slot_count at) slot)
content-same o p at (kind.Ptr q) slot named = ap records.Fixed (named q (eqb_same q)).1
content-same o p at (kind.Rel h) slot named =
    let same = named h (eqb_same h) in
    ap (λ f. records.Relocatable h f (p.bytes h)) same.0 ∙ ap (records.Relocatable h (o.flags h)) same.1

lent-same : (o p : Owners) (k : Kind) → ((x : ℕ) → is_named x k ≡ true → SameOf o p x) → lent_of p k ≡ lent_of o k
lent-same o p kind.Free named = refl
lent-same o p kind.Master named = refl
lent-same o p (kind.Ptr q) named = (named q (eqb_same q)).2
lent-same o p (kind.Rel h) named = (named h (eqb_same h)).2

-- then the blocks are the same
pub records-same : (o p : Owners) (s : Shape) (at : ℕ) (m : ZoneMap) → SameSlots o p s at m → SameNamed o p m → records_from p s at m ≡ records_from o s at m
records-same o p s at [] slot named = refl
records-same o p s at (e ∷ es) slot named =
    let cons = slots_at-cons (head_size s.heads) slot_count at e.size e.kind es in
    let here : (x : ℕ) → is_named x e.kind ≡ true → SameOf o p x = λ x is. named x (ap (λ b. not b && none_named x es) is) in
    ap (λ c. record { size = e.size; content = c; lent = lent_of p e.kind } ∷ records_from p s (at + e.size) es) (content-same o p (at + head_size s.heads) e.kind
    (λ x c. slot x (subst (λ xs. Contains xs x) (sym cons) (Contains-append_left _ _ x c))) here)
    ∙ ap (λ l. record { size = e.size; content = content_of o (at + head_size s.heads) e.kind; lent = l } ∷ records_from p s (at + e.size) es) (lent-same o p e.kind here)
    ∙ ap (λ bs. record_of o s at e ∷ bs) (records-same o p s (at + e.size) es
    (λ x c. slot x (subst (λ xs. Contains xs x) (sym cons) (Contains-append_right _ _ x c)))
    (λ x is. named x (later (not (is_named x e.kind)) (none_named x es) is)))
  where
    later : (a b : Bool) → b ≡ false → (a && b) ≡ false
    later true b is = is
    later false b is = refl

-- owners that agree but for h, which names none of the blocks
pub same_but : (o p : Owners) (h : ℕ) (m : ZoneMap) → none_named h m ≡ true → ((x : ℕ) → eqb x h ≡ false → SameOf o p x) → SameNamed o p m
same_but o p h m none same x named = by_test (eqb x h) refl
  where
    by_test : (b : Bool) → eqb x h ≡ b → SameOf o p x
    by_test true is = absurd (cc (ap (λ y. none_named y m) (eqb-true x h is), named, none))
    by_test false is = same x is

-- the blocks of a map, one part of which another one of the same size has taken the place of
pub records-replaced : (o p : Owners) (s : Shape) (at : ℕ) (before left right after : ZoneMap) → total_size right ≡ total_size left
    → SameSlots o p s at before → SameSlots o p s ((at + total_size before) + total_size left) after → SameNamed o p before → SameNamed o p after
    → records_from p s at (before ++ (right ++ after))
    ≡ records_from o s at before ++ (records_from p s (at + total_size before) right ++ records_from o s ((at + total_size before) + total_size left) after)
records-replaced o p s at before left right after large slot later first second =
    records-middle p s at before right after
    ∙ ap (λ bs. bs ++ (records_from p s (at + total_size before) right ++ records_from p s ((at + total_size before) + total_size right) after)) (records-same o p s at before slot first)
    ∙ ap (λ n. records_from o s at before ++ (records_from p s (at + total_size before) right ++ records_from p s ((at + total_size before) + n) after)) large
    ∙ ap (λ bs. records_from o s at before ++ (records_from p s (at + total_size before) right ++ bs)) (records-same o p s ((at + total_size before) + total_size left) after later second)

-- ---- one slot

-- the owners with another slot h
abbrev pub slot_set : Owners → ℕ → Slot → Owners
slot_set o h w = record { slot = λ x. cond (eqb x h) w (o.slot x); flags = o.flags; bytes = o.bytes; lent = o.lent }

set-here : (f : ℕ → Slot) (h : ℕ) (w : Slot) → cond (eqb h h) w (f h) ≡ w
set-here f h w = ap (λ b. cond b w (f h)) (eqb_same h)

set-other : (f : ℕ → Slot) (h : ℕ) (w : Slot) (x : ℕ) → (x ≡ h → ⊥) → cond (eqb x h) w (f x) ≡ f x
set-other f h w x other = by_test (eqb x h) refl
  where
    by_test : (b : Bool) → eqb x h ≡ b → cond b w (f x) ≡ f x
    by_test true is = absurd (other (eqb-true x h is))
    by_test false is = refl

-- the slot h among n slots, the first at an address
record AmongSlots (f : ℕ → Slot) (n at h : ℕ) : Type 0 where
  before : List Slot
  after : List Slot
  place : h ≡ at + 4 * length before
  has : map f (slots_from n at) ≡ before ++ f h ∷ after
  sets : (w : Slot) → map (λ x. cond (eqb x h) w (f x)) (slots_from n at) ≡ before ++ w ∷ after

among-slots : (f : ℕ → Slot) (n at h : ℕ) → Contains (slots_from n at) h → AmongSlots f n at h
among-slots f zero at h c = absurd (Contains-none h c)
among-slots f (suc n) at h c = elim (Contains-cons_cases at (slots_from n (at + 4)) h c) [
  | inl is ↦ record {
    before = [];
    after = map f (slots_from n (at + 4));
    place = omega arith;
    has = ap (λ x. f x ∷ map f (slots_from n (at + 4))) is;
    sets = λ w. ap (λ y. y ∷ map (λ x. cond (eqb x h) w (f x)) (slots_from n (at + 4))) (ap (λ x. cond (eqb x h) w (f x)) is ∙ set-here f h w)
        ∙ ap (λ ys. w ∷ ys) (map-same f (λ x. cond (eqb x h) w (f x)) (slots_from n (at + 4)) (λ x d. let above = slots_from-bounds n (at + 4) x d in set-other f h w x (λ same. omega arith)));
  }
  | inr later ↦ (let rest = among-slots f n (at + 4) h later in let above = slots_from-bounds n (at + 4) h later in record {
    before = f at ∷ rest.before;
    after = rest.after;
    place = (let place = rest.place in omega arith);
    has = ap (λ ys. f at ∷ ys) rest.has;
    sets = λ w. ap (λ y. y ∷ map (λ x. cond (eqb x h) w (f x)) (slots_from n (at + 4))) (set-other f h w at (λ same. omega arith)) ∙ ap (λ ys. f at ∷ ys) (rest.sets w);
  })
]

-- the slot h among the blocks of a map, the first at an address: what it says, and what it is to write there
pub record SlotIn (o : Owners) (s : Shape) (at : ℕ) (m : ZoneMap) (h : ℕ) : Type 0 where
  pub before : List BlockRecord
  pub size : ℕ
  pub slots_before : List Slot
  pub slots_after : List Slot
  pub after : List BlockRecord
  pub place : h ≡ at + total_of before + head_size s.heads + 4 * length slots_before
  pub has : records_from o s at m ≡ before ++ block_record (Master (slots_before ++ o.slot h ∷ slots_after)) size ∷ after
  pub sets : (w : Slot) → records_from (slot_set o h w) s at m ≡ before ++ block_record (Master (slots_before ++ w ∷ slots_after)) size ∷ after

in_front : (o : Owners) (s : Shape) (at size h : ℕ) (k : Kind) (es : ZoneMap) → list_all (has_room (head_size s.heads) slot_count) (record { size = size; kind = k } ∷ es) ≡ true
    → Contains (cond (is_master k) (slots_from slot_count (at + head_size s.heads)) []) h → SlotIn o s at (record { size = size; kind = k } ∷ es) h
in_front o s at size h kind.Free es rooms c = absurd (Contains-none h c)
in_front o s at size h (kind.Ptr p) es rooms c = absurd (Contains-none h c)
in_front o s at size h (kind.Rel g) es rooms c = absurd (Contains-none h c)
in_front o s at size h kind.Master es rooms c =
    let among = among-slots o.slot slot_count (at + head_size s.heads) h c in
    let bounds = slots_from-bounds slot_count (at + head_size s.heads) h c in
    let room = and_parts (has_room (head_size s.heads) slot_count (record { size = size; kind = kind.Master })) (list_all (has_room (head_size s.heads) slot_count) es) rooms in
    let large : head_size s.heads + 4 * slot_count ≤ size = (let here = room.0 in grind (arith, nat_tests)) in
    record {
      before = [];
      size = size;
      slots_before = among.before;
      slots_after = among.after;
      after = records_from o s (at + size) es;
      place = (let place = among.place in omega arith);
      has = ap (λ ys. block_record (Master ys) size ∷ records_from o s (at + size) es) among.has;
      sets = λ w. ap (λ ys. block_record (Master ys) size ∷ records_from (slot_set o h w) s (at + size) es) (among.sets w)
          ∙ ap (λ bs. block_record (Master (among.before ++ w ∷ among.after)) size ∷ bs) (records-same o (slot_set o h w) s (at + size) es
          (λ x d. set-other o.slot h w x (λ same. let above = slots_at-above (head_size s.heads) slot_count (at + size) es x room.1 d in omega arith)) (λ x d. (refl, refl, refl)));
    }

-- each slot of a map is one of the blocks'
pub slot-in : (o : Owners) (s : Shape) (at : ℕ) (m : ZoneMap) (h : ℕ) → list_all (has_room (head_size s.heads) slot_count) m ≡ true → Contains (slots_at (head_size s.heads) slot_count at m) h → SlotIn o s at m h
slot-in o s at [] h rooms c = absurd (Contains-none h c)
slot-in o s at (e ∷ es) h rooms c = elim (Contains-append_cases _ _ h (subst (λ xs. Contains xs h) (slots_at-cons (head_size s.heads) slot_count at e.size e.kind es) c)) [
  | inl first ↦ in_front o s at e.size h e.kind es rooms first
  | inr later ↦ after_first later (slot-in o s (at + e.size) es h (and_parts (has_room (head_size s.heads) slot_count e) (list_all (has_room (head_size s.heads) slot_count) es) rooms).1 later)
]
  where
    after_first : Contains (slots_at (head_size s.heads) slot_count (at + e.size) es) h → SlotIn o s (at + e.size) es h → SlotIn o s at (e ∷ es) h
    after_first later rest =
        let room = and_parts (has_room (head_size s.heads) slot_count e) (list_all (has_room (head_size s.heads) slot_count) es) rooms in
        let above = slots_at-above (head_size s.heads) slot_count (at + e.size) es h room.1 later in
        record {
          before = record_of o s at e ∷ rest.before;
          size = rest.size;
          slots_before = rest.slots_before;
          slots_after = rest.slots_after;
          after = rest.after;
          place = (let place = rest.place in omega arith);
          has = ap (λ bs. record_of o s at e ∷ bs) rest.has;
          sets = λ w. ap (λ c. record { size = e.size; content = c; lent = lent_of o e.kind } ∷ records_from (slot_set o h w) s (at + e.size) es)
              (content-same o (slot_set o h w) (at + head_size s.heads) e.kind (λ x d. set-other o.slot h w x (λ same. not_here x same d)) (λ x is. (refl, refl, refl)))
              ∙ ap (λ bs. record_of o s at e ∷ bs) (rest.sets w);
        }
      where
        not_here : (x : ℕ) → x ≡ h → Contains (cond (is_master e.kind) (slots_from slot_count (at + head_size s.heads)) []) x → ⊥
        not_here x same d = by_test (is_master e.kind) refl d
          where
            by_test : (b : Bool) → is_master e.kind ≡ b → Contains (cond b (slots_from slot_count (at + head_size s.heads)) []) x → ⊥
            by_test false is d = Contains-none x d
            by_test true is d =
                let bounds = slots_from-bounds slot_count (at + head_size s.heads) x d in
                let room = and_parts (has_room (head_size s.heads) slot_count e) (list_all (has_room (head_size s.heads) slot_count) es) rooms in
                let above = slots_at-above (head_size s.heads) slot_count (at + e.size) es h room.1 later in
                let large : head_size s.heads + 4 * slot_count ≤ e.size = (let here = room.0 in grind (arith, nat_tests)) in
                omega arith

module _ (memory : Memory) (s : Shape) (front : ℕ) (o : Owners) (m : ZoneMap) (h : ℕ) (rooms : list_all (has_room (head_size s.heads) slot_count) m ≡ true) (c : Contains (slots s m) h) where
  abbrev there : SlotIn o s (address_after s []) m h
  there = slot-in o s (address_after s []) m h rooms c

  -- a slot of the map is one of the blocks'
  abbrev pub slot-at : SlotAt (image memory s front o m) h
  slot-at = let place = there.place in record {
    before = there.before;
    size = there.size;
    slots_before = there.slots_before;
    here = o.slot h;
    slots_after = there.slots_after;
    after = there.after;
    blocks = there.has;
    place = omega arith;
  }

  -- to write at the slot is to have another owner
  pub slot-written : (w : Slot) → with_slot w (image memory s front o m) slot-at ≡ image memory s front (slot_set o h w) m
  slot-written w = ap (λ bs. record { memory = memory; shape = s; front = front; blocks = bs }) (sym (there.sets w))

-- owners that say the same of all have the same blocks
pub image-same : (memory : Memory) (s : Shape) (front : ℕ) (o p : Owners) (m : ZoneMap) → ((x : ℕ) → Contains (slots s m) x → p.slot x ≡ o.slot x) → ((x : ℕ) → p.flags x ≡ o.flags x) → ((x : ℕ) → p.bytes x ≡ o.bytes x) → ((x : ℕ) → p.lent x ≡ o.lent x)
    → image memory s front p m ≡ image memory s front o m
image-same memory s front o p m slot flags bytes lent = ap (λ bs. record { memory = memory; shape = s; front = front; blocks = bs }) (records-same o p s (address_after s []) m slot (λ x is. (flags x, bytes x, lent x)))
