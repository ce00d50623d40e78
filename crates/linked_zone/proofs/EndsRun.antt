-- How the slots of the handles of a run of blocks follow these to their places, one after another.
use Rattle.std.proofs.Common.{◌≡◌, ℕ, ◌+◌, ◌<◌, ◌≤◌, ◌&&◌, Bool, true, false, not, cond, [], ◌∷◌, ◌++◌, refl, ap, sym, ◌∙◌, subst, arith, append_assoc, append-nil, nat_lt}
use Rattle.std.specs.List.{list_all}
use Rattle.std.proofs.lemmas.Bool.Decides.{nat_tests}
use Rattle.std.proofs.lemmas.List.Folds.{list_all-append}
use Rattle.std.proofs.lemmas.Bool.{and_parts}
use Rattle.mac_base.specs.declared.block.Entry.{Entry}
use Rattle.mac_base.specs.declared.block.HeadKind.{HeadKind}
use Rattle.mac_base.specs.declared.block.Kind.{Kind}
use Rattle.mac_base.specs.declared.block.Kind.TheVariants as kind
use Rattle.mac_base.specs.HeadKind.{Shape, head_size}
use Rattle.mac_base.specs.HandleTable.{live_at}
use Rattle.mac_base.specs.Heap.{front_slot}
use Rattle.mac_base.specs.Loans.{is_here}
use Rattle.mac_base.specs.ZoneMap.{ZoneMap, block, is_named, total_size, address_after, contents_of}
use Rattle.mac_base.specs.ZoneSizes.{ZoneSizes}
use Rattle.zone_laws.proofs.Maps.{total_size-append}
use Rattle.zone_laws.proofs.Owners.{none_named}
use Rattle.zone_laws.proofs.Tables.{full_handle}
use Rattle.zone_records.specs.declared.slot.Slot.{Slot}
use Rattle.zone_records.specs.Places.{RecordAt}
use Rattle.zone_records.specs.Records.{ZoneRecords, kind_of, sizes_of}
use Rattle.linked_zone.specs.Fit.{has_room}
use Rattle.linked_zone.specs.Following.{moved_to, CanFollow, followed, owners_saying, Misplaced}
use Rattle.linked_zone.specs.Owned.{Owners, owners_of, records_of, records_from, record_of, content_of, slot_of_live, next_free}
use Rattle.linked_zone.specs.Places.{EntryAt, is_movable, can_move}
use Rattle.linked_zone.proofs.Standing.{Stands, stands-now}
use Rattle.linked_zone.proofs.Owning.{image, image-same, records_from-append, records-place}
use Rattle.linked_zone.proofs.EndsFollow.{following, Follows, follows-from, following-can, following-image, following-slot, following-flags, following-bytes, following-lent}
use Rattle.linked_zone.proofs.EndsSaid.{part-passes, contents-said, entry-room, entry-end}
use Rattle.linked_zone.proofs.Movable.{moved-said}
use Rattle.linked_zone.proofs.ChangeExchanged.{rel-full, moved-slot}
use Rattle.linked_zone.proofs.ChangeSized.{named-contents}

-- blocks have bytes
none-left : (s : Shape) (m : ZoneMap) → list_all (has_room s) m ≡ true → total_size m ≡ 0 → m ≡ []
none-left s [] rooms none = refl
none-left s (e ∷ es) rooms none =
    let some = larger (head_size s.heads) e.size (and_parts (nat_lt (head_size s.heads) e.size) _ (and_parts (has_room s e) (list_all (has_room s) es) rooms).0).0 in absurd (omega arith)
  where
    larger : (a b : ℕ) → nat_lt a b ≡ true → a < b
    larger a b is = grind (arith, nat_tests)

-- what is in a block that may move says its kind
kind-moves : (o : Owners) (a b : ℕ) (k : Kind) → is_movable k ≡ true → kind_of a (content_of o b k) ≡ k
kind-moves o a b kind.Free moves = refl
kind-moves o a b kind.Master moves = absurd (cc moves)
kind-moves o a b (kind.Ptr p) moves = absurd (cc moves)
kind-moves o a b (kind.Rel h) moves = refl

-- the owners of a zone in which only the slots of these blocks are sure to say where contents begin
abbrev pub partly : {r : ZoneRecords} {start end : ℕ} → Misplaced r start end → ZoneMap → Owners
partly m done = owners_saying (λ y. cond (none_named y done) (m.said y) (contents_of m.zone.shape y m.zone.heap.map)) m.zone

-- The slots of these say so, and those of the others of the run may not; the next of these is at an address.
pub record Told {r : ZoneRecords} {start end : ℕ} (m : Misplaced r start end) (done rest : ZoneMap) (w : ZoneRecords) (next : ℕ) : Type 0 where
  pub parts : m.run ≡ done ++ rest
  pub image_is : w ≡ image m.zone.memory m.zone.shape (front_slot m.zone.heap) (partly m done) m.zone.heap.map
  pub place : next ≡ start + total_size done

-- it is so of some
pub record Telling {r : ZoneRecords} {start end : ℕ} (m : Misplaced r start end) (w : ZoneRecords) (next : ℕ) : Type 0 where
  pub done : ZoneMap
  pub rest : ZoneMap
  pub is : Told m done rest w next

-- and one more comes
pub record Coming {r : ZoneRecords} {start end : ℕ} (m : Misplaced r start end) (w : ZoneRecords) (next : ℕ) : Type 0 where
  pub done : ZoneMap
  pub here : Entry
  pub rest : ZoneMap
  pub is : Told m done (here ∷ rest) w next

module _ {r : ZoneRecords} {start end : ℕ} (m : Misplaced r start end) where
  -- the zone's own blocks
  stands : Stands (records_of m.zone) m.zone
  stands = stands-now m.stands m.same

  -- the run among others
  passes : (p : Entry → Bool) → list_all p m.zone.heap.map ≡ true → list_all p m.run ≡ true
  passes p all = part-passes p m.before m.run m.after m.zone.heap.map m.map all

  -- how many bytes a header has, as it is read
  pub run-head : (spec : ZoneSizes) (heads : HeadKind) (head : ℕ) → spec ≡ sizes_of r → heads ≡ spec.heads → head ≡ head_size heads → head ≡ head_size m.zone.shape.heads
  run-head spec heads head is kind same = same ∙ ap head_size (kind ∙ ap (λ (s : ZoneSizes). s.heads) is ∙ ap (λ (r : ZoneRecords). r.shape.heads) m.blocks)

  -- at first no slot is sure to
  pub telling-first : Telling m r start
  telling-first = record { done = []; rest = m.run; is = record { parts = refl; image_is = m.blocks; place = (let e : start ≡ start + 0 = omega arith in e) } }

  -- below the end one more comes
  pub coming : (w : ZoneRecords) (next : ℕ) → Telling m w next → next < end → Coming m w next
  coming w next t less = by_rest t.rest t.is
    where
      by_rest : (rest : ZoneMap) → Told m t.done rest w next → Coming m w next
      by_rest [] is =
          let all : total_size m.run ≡ total_size t.done + 0 = ap total_size is.parts ∙ total_size-append t.done [] in
          let place = is.place in let long = m.long in absurd (omega arith)
      by_rest (e ∷ es) is = record { done = t.done; here = e; rest = es; is = is }

  module _ (w : ZoneRecords) (next : ℕ) (c : Coming m w next) where
    -- it is in the zone
    abbrev entry_now : EntryAt m.zone next
    entry_now = record {
      before = m.before ++ c.done;
      here = c.here;
      after = c.rest ++ m.after;
      map = m.map ∙ ap (λ run. m.before ++ (run ++ m.after)) (c.is).parts
          ∙ ap (λ run. m.before ++ run) (append_assoc c.done (c.here ∷ c.rest) m.after) ∙ sym (append_assoc m.before c.done (c.here ∷ (c.rest ++ m.after)));
      place = (let sum = total_size-append m.before c.done in let here = (c.is).place in let place = m.place in omega arith);
    }

    -- it may move
    moves_coming : is_movable (c.here).kind ≡ true
    moves_coming =
        let p : Entry → Bool = λ e. can_move m.zone.heap.table e.kind in
        let rest = (and_parts (list_all p c.done) _ (sym (list_all-append p c.done (c.here ∷ c.rest)) ∙ sym (ap (list_all p) (c.is).parts) ∙ m.moves)).1 in
        (and_parts (is_movable (c.here).kind) (is_here m.zone.heap.table (c.here).kind) (and_parts (p c.here) (list_all p c.rest) rest).0).0

    -- its block is there
    abbrev block_now : RecordAt (image m.zone.memory m.zone.shape (front_slot m.zone.heap) (partly m c.done) m.zone.heap.map) next
    block_now = let o = partly m c.done in let s = m.zone.shape in let first = address_after s [] in record {
      before = records_from o s first (m.before ++ c.done);
      here = record_of o s (first + total_size (m.before ++ c.done)) c.here;
      after = records_from o s ((first + total_size (m.before ++ c.done)) + (c.here).size) (c.rest ++ m.after);
      blocks = ap (records_from o s first) entry_now.map ∙ records_from-append o s first (m.before ++ c.done) (c.here ∷ (c.rest ++ m.after));
      place = entry_now.place ∙ records-place o s (m.before ++ c.done);
    }

    pub coming-there : RecordAt w next
    coming-there = subst (λ w. RecordAt w next) (sym (c.is).image_is) block_now

    -- and is read
    pub coming-read : (said : Entry) → ((b : RecordAt w next) → said ≡ block (kind_of (next + head_size w.shape.heads) b.here.content) b.here.size) → said ≡ c.here
    coming-read said reads =
        (subst (λ (w : ZoneRecords). (b : RecordAt w next) → said ≡ block (kind_of (next + head_size w.shape.heads) b.here.content) b.here.size) (c.is).image_is reads) block_now
        ∙ ap (λ k. block k (c.here).size) (kind-moves (partly m c.done) (next + head_size m.zone.shape.heads) _ (c.here).kind moves_coming)

    -- it has contents, and ends within 32 bits
    pub coming-range : (next + (c.here).size ≤ 0xFFFF_FFFF) × (head_size m.zone.shape.heads < (c.here).size)
    coming-range = (entry-end (records_of m.zone) m.zone stands next entry_now, entry-room (records_of m.zone) m.zone stands next entry_now)

    abbrev low : ℕ
    low = next + head_size m.zone.shape.heads

    -- so its slot can follow
    follows_now : Follows (partly m c.done) m.zone.shape m.zone.heap.map (c.here).kind low
    follows_now = follows-from (partly m c.done) m.zone.shape m.zone.heap.map (c.here).kind low (λ h is.
        let full = rel-full m.zone h (m.before ++ c.done) c.here (c.rest ++ m.after) stands.fits entry_now.map is in (
          stands.fits.coherent.in_slots h (full_handle m.zone.heap.table h full),
          moved-said m.zone.shape.heads (live_at m.zone.heap.table h) _ low (next_free m.zone.heap.free_slots h) full (contents-said (records_of m.zone) m.zone stands next entry_now),
        ))

    pub coming-can : (k : Kind) (a : ℕ) → k ≡ (c.here).kind → a ≡ low → CanFollow w k a
    coming-can k a same begins = subst (λ k. CanFollow w k a) (sym same) (subst (λ a. CanFollow w (c.here).kind a) (sym begins)
        (following-can m.zone.memory m.zone.shape (front_slot m.zone.heap) (partly m c.done) m.zone.heap.map stands.rooms low w (c.here).kind (c.is).image_is follows_now))

    -- what a slot says where its block's contents begin there
    slot-here : (y old : ℕ) → is_named y (c.here).kind ≡ true → (owners_of m.zone).slot y ≡ moved_to low (slot_of_live m.zone.shape.heads (live_at m.zone.heap.table y) old (next_free m.zone.heap.free_slots y))
    slot-here y old named =
        ap (λ a. slot_of_live m.zone.shape.heads (live_at m.zone.heap.table y) a (next_free m.zone.heap.free_slots y))
        (named-contents m.zone y (m.before ++ c.done) c.here (c.rest ++ m.after) stands.fits entry_now.map named ∙ ap (λ a. a + head_size m.zone.shape.heads) (sym entry_now.place))
        ∙ moved-slot m.zone.shape.heads (live_at m.zone.heap.table y) old low (next_free m.zone.heap.free_slots y)

    -- one more slot is sure to
    slots_more : (y : ℕ) → (partly m (c.done ++ c.here ∷ [])).slot y ≡ (following (c.here).kind low (partly m c.done)).slot y
    slots_more y =
        ap (λ b. says (cond b (m.said y) place)) (list_all-append (λ (e : Entry). not (is_named y e.kind)) c.done (c.here ∷ []))
        ∙ by_named (is_named y (c.here).kind) (none_named y c.done) refl
        ∙ sym (following-slot (c.here).kind low (partly m c.done) y moves_coming)
      where
        place : ℕ
        place = contents_of m.zone.shape y m.zone.heap.map

        says : ℕ → Slot
        says a = slot_of_live m.zone.shape.heads (live_at m.zone.heap.table y) a (next_free m.zone.heap.free_slots y)

        by_named : (b n : Bool) → is_named y (c.here).kind ≡ b → says (cond (n && (not b && true)) (m.said y) place) ≡ cond b (moved_to low (says (cond n (m.said y) place))) (says (cond n (m.said y) place))
        by_named true true named = slot-here y (m.said y) named
        by_named true false named = slot-here y place named
        by_named false true named = refl
        by_named false false named = refl

    -- one more block is followed
    pub telling-on : (k : Kind) (a size : ℕ) → k ≡ (c.here).kind → a ≡ low → size ≡ (c.here).size → (n : ZoneRecords) → ((can : CanFollow w k a) → n ≡ followed w k a can) → Telling m n (next + size)
    telling-on k a size same begins large n then =
        let after = subst (λ a. (can : CanFollow w (c.here).kind a) → n ≡ followed w (c.here).kind a can) begins (subst (λ k. (can : CanFollow w k a) → n ≡ followed w k a can) same then) in
        let o = partly m c.done in
        let sum = total_size-append c.done (c.here ∷ []) in let place = (c.is).place in
        record {
          done = c.done ++ c.here ∷ [];
          rest = c.rest;
          is = record {
            parts = (c.is).parts ∙ sym (append_assoc c.done (c.here ∷ []) c.rest);
            image_is = following-image m.zone.memory m.zone.shape (front_slot m.zone.heap) o m.zone.heap.map stands.rooms low w n (c.here).kind (c.is).image_is follows_now after
                ∙ sym (image-same m.zone.memory m.zone.shape (front_slot m.zone.heap) (following (c.here).kind low o) (partly m (c.done ++ c.here ∷ [])) m.zone.heap.map (λ y _. slots_more y)
                (λ y. sym (following-flags (c.here).kind low o y)) (λ y. sym (following-bytes (c.here).kind low o y)) (λ y. sym (following-lent (c.here).kind low o y)));
            place = omega arith;
          };
        }

  -- where no block of the run is left all slots do
  slots_end : (y : ℕ) → (owners_of m.zone).slot y ≡ (partly m m.run).slot y
  slots_end y = ap (λ a. slot_of_live m.zone.shape.heads (live_at m.zone.heap.table y) a (next_free m.zone.heap.free_slots y)) (by_named (none_named y m.run) refl)
    where
      by_named : (b : Bool) → none_named y m.run ≡ b → contents_of m.zone.shape y m.zone.heap.map ≡ cond b (m.said y) (contents_of m.zone.shape y m.zone.heap.map)
      by_named true none = sym (m.others y none)
      by_named false some = refl

  -- at the end the blocks are the zone's
  pub run-ends : (w : ZoneRecords) (next : ℕ) → Telling m w next → end ≤ next → w ≡ records_of m.zone
  run-ends w next t more =
      let all : total_size m.run ≡ total_size t.done + total_size t.rest = ap total_size (t.is).parts ∙ total_size-append t.done t.rest in
      let place = (t.is).place in let long = m.long in
      let left = (and_parts (list_all (has_room m.zone.shape) t.done) _ (sym (list_all-append (has_room m.zone.shape) t.done t.rest) ∙ sym (ap (list_all (has_room m.zone.shape)) (t.is).parts) ∙ passes (has_room m.zone.shape) stands.rooms)).1 in
      let none : t.rest ≡ [] = none-left m.zone.shape t.rest left (omega arith) in
      let done : t.done ≡ m.run = sym ((t.is).parts ∙ ap (λ rest. t.done ++ rest) none ∙ append-nil t.done) in
      (t.is).image_is ∙ ap (λ done. image m.zone.memory m.zone.shape (front_slot m.zone.heap) (partly m done) m.zone.heap.map) done
      ∙ sym (image-same m.zone.memory m.zone.shape (front_slot m.zone.heap) (partly m m.run) (owners_of m.zone) m.zone.heap.map (λ y _. slots_end y) (λ y. refl) (λ y. refl) (λ y. refl))
