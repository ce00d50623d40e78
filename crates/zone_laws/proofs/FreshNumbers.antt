-- The numbers that requests give are not live: a pointer at the start of a gap, and a free slot.
use Rattle.std.proofs.Common.{◌≡◌, ℕ, zero, suc, ◌+◌, ◌*◌, ◌<◌, ◌≤◌, Bool, true, false, not, cond, List, [], ◌∷◌, ◌++◌, length, refl, ap, sym, ◌∙◌, subst, append_assoc, add_assoc, arith, None, get_or}
use Rattle.std.specs.Prelude.{◌&&◌, ◌||◌, ◌==◌, Contains, map, flat_map, nat_lt, nat_le}
use Rattle.std.specs.List.{list_all}
use Rattle.std.proofs.lemmas.Bool.{and_from, and_parts, lt-ltb, ltb-true, le-leb, leb-true, ne_eqb, eq-eqb, not-true, true≢false, false≢true, false_from_ne_true}
use Rattle.std.proofs.lemmas.List.Folds.{list_all-append, list_all-map}
use Rattle.std.proofs.lemmas.List.{map-append, length-map}
use Rattle.std.proofs.lemmas.Grind.{flat_map-append}
use Rattle.mac_base.specs.declared.block.Entry.{Entry}
use Rattle.mac_base.specs.declared.block.HeadKind.{HeadKind}
use Rattle.mac_base.specs.declared.block.HeadKind.TheVariants.{Bits24, Bits32}
use Rattle.mac_base.specs.declared.block.Kind.{Kind}
use Rattle.mac_base.specs.declared.block.Kind.TheVariants.{Free, Master, Ptr, Rel}
use Rattle.mac_base.specs.HeadKind.{Shape, head_size, smallest_block, slot_count, master_length, need}
use Rattle.mac_base.specs.ZoneMap.{ZoneMap, block, is_free, is_master, total_size, free_bytes, address_after, addresses_from, addresses, contents_addresses}
use Rattle.mac_base.specs.HandleTable.{HandleTable, live_at, is_handle, is_pointer}
use Rattle.mac_base.specs.Suits.{Suits, slots_from, slots, has_owners_length, is_block_size, is_pointer_block}
use Rattle.mac_base.specs.Gap.{Gap, room, is_fixed}
use Rattle.mac_base.specs.Serve.{contents_at_gap}
use Rattle.zone_laws.proofs.GapAppend.{addresses_from-none}
use Rattle.zone_laws.proofs.GapParts.{IsGap}
use Rattle.zone_laws.proofs.GapApart.{sizes_possible}
use Rattle.zone_laws.proofs.Tables.{not_live}
use Rattle.zone_laws.proofs.SlotOwners.{pointer_not_master}
use Rattle.zone_laws.proofs.Maps.{addresses_from-append}
use Rattle.zone_laws.proofs.ServedMaster.{size-positive}

-- whether no number of the list is this one
abbrev none_is : ℕ → List ℕ → Bool
none_is x ns = list_all (λ n. not (n == x)) ns

none_is-contains : (x : ℕ) (ns : List ℕ) → none_is x ns ≡ true → Contains ns x → ⊥
none_is-contains x [] h c = absurd (omega (arith, c.1))
none_is-contains x (n ∷ ns) h c = let parts = and_parts (not (n == x)) (none_is x ns) h in by_place c.0 c.1 c.2 parts.0 (λ c. none_is-contains x ns parts.1 c)
  where
    by_place : (k : ℕ) → k < length (n ∷ ns) → get_or (n ∷ ns) k x ≡ x → not (n == x) ≡ true → (Contains ns x → ⊥) → ⊥
    by_place zero lt is other rest = true≢false (sym (eq-eqb n x is) ∙ not-true (n == x) other)
    by_place (suc k) lt is other rest = rest (k, omega arith, is)

weaker : (p q : ℕ → Bool) (ns : List ℕ) → ((n : ℕ) → p n ≡ true → q n ≡ true) → list_all p ns ≡ true → list_all q ns ≡ true
weaker p q [] w h = refl
weaker p q (n ∷ ns) w h = let parts = and_parts (p n) (list_all p ns) h in and_from (q n) (list_all q ns) (w n parts.0) (weaker p q ns w parts.1)

below_is_not : (n a x : ℕ) → a ≤ x → nat_lt n a ≡ true → not (n == x) ≡ true
below_is_not n a x le h = let lt = ltb-true n a h in ap not (ne_eqb n x (λ same. absurd (omega arith)))

above_is_not : (n a x : ℕ) → x < a → nat_le a n ≡ true → not (n == x) ≡ true
above_is_not n a x lt h = let le = leb-true a n h in ap not (ne_eqb n x (λ same. absurd (omega arith)))

-- blocks with possible sizes begin below the address after them
pub addresses-below : (s : Shape) (at : ℕ) (test : Kind → Bool) (b : ZoneMap) → sizes_possible s b ≡ true → list_all (λ n. nat_lt n (at + total_size b)) (addresses_from at test b) ≡ true
addresses-below s at test [] h = refl
addresses-below s at test (e ∷ es) h =
    let parts = and_parts (is_block_size s e.size) (sizes_possible s es) h in
    let some = size-positive s e.size parts.0 in
    let rest = subst (λ n. list_all (λ k. nat_lt k n) (addresses_from (at + e.size) test es) ≡ true) (add_assoc at e.size (total_size es)) (addresses-below s (at + e.size) test es parts.1) in
    elim (test e.kind) as (λ c. list_all (λ n. nat_lt n (at + (e.size + total_size es))) (cond c (at ∷ []) [] ++ addresses_from (at + e.size) test es) ≡ true) [
      | true ↦ and_from (nat_lt at (at + (e.size + total_size es))) _ (lt-ltb at (at + (e.size + total_size es)) (omega arith)) rest
      | false ↦ rest
    ]

-- and none begins below the address of the first
pub addresses-above : (at low : ℕ) (test : Kind → Bool) (b : ZoneMap) → low ≤ at → list_all (λ n. nat_le low n) (addresses_from at test b) ≡ true
addresses-above at low test [] h = refl
addresses-above at low test (e ∷ es) h = grind (arith, addresses-above (at + e.size) low test es (omega arith), and_from, le-leb)

-- the slots of the master blocks among these, the first at this address
abbrev slots_at : Shape → ℕ → ZoneMap → List ℕ
slots_at s at b = flat_map (slots_from slot_count) (map (λ at. at + head_size s.heads) (addresses_from at is_master b))

slots_from-between : (n at low high : ℕ) → low ≤ at → at + 4 * n ≤ high → list_all (λ q. nat_le low q && nat_lt q high) (slots_from n at) ≡ true
slots_from-between zero at low high l h = refl
slots_from-between (suc n) at low high l h = and_from (nat_le low at && nat_lt at high) _ (and_from _ _ (le-leb low at l) (lt-ltb at high (omega arith))) (slots_from-between n (at + 4) low high (omega arith) (omega arith))

-- whether each master block has room for its slots
abbrev masters_whole : Shape → ZoneMap → Bool
masters_whole s b = list_all (λ (e : Entry). not (is_master e.kind) || nat_le (head_size s.heads + 256) e.size) b

between-weaker : (l h low high : ℕ) (ns : List ℕ) → low ≤ l → h ≤ high → list_all (λ q. nat_le l q && nat_lt q h) ns ≡ true → list_all (λ q. nat_le low q && nat_lt q high) ns ≡ true
between-weaker l h low high ns below above all = grind (arith, and_from, and_parts, le-leb, leb-true, lt-ltb, ltb-true, weaker)

slots-between : (s : Shape) (at : ℕ) (b : ZoneMap) → masters_whole s b ≡ true → list_all (λ q. nat_le (at + head_size s.heads) q && nat_lt q (at + total_size b)) (slots_at s at b) ≡ true
slots-between s at [] h = refl
slots-between s at (e ∷ es) h =
    let parts = and_parts (not (is_master e.kind) || nat_le (head_size s.heads + 256) e.size) (masters_whole s es) h in
    let rest = between-weaker (at + e.size + head_size s.heads) (at + e.size + total_size es) (at + head_size s.heads) (at + (e.size + total_size es)) (slots_at s (at + e.size) es) (omega arith) (omega arith) (slots-between s (at + e.size) es parts.1) in
    elim (is_master e.kind) as (λ c. (not c || nat_le (head_size s.heads + 256) e.size) ≡ true → list_all (λ q. nat_le (at + head_size s.heads) q && nat_lt q (at + (e.size + total_size es))) (flat_map (slots_from slot_count) (map (λ at. at + head_size s.heads) (cond c (at ∷ []) [] ++ addresses_from (at + e.size) is_master es))) ≡ true) [
      | true ↦ λ whole. let large = leb-true (head_size s.heads + 256) e.size whole in
          list_all-append (λ q. nat_le (at + head_size s.heads) q && nat_lt q (at + (e.size + total_size es))) (slots_from slot_count (at + head_size s.heads)) (slots_at s (at + e.size) es)
          ∙ and_from _ _ (slots_from-between slot_count (at + head_size s.heads) (at + head_size s.heads) (at + (e.size + total_size es)) (omega arith) (omega arith)) rest
      | false ↦ λ _. rest
    ] parts.0

slots_at-append : (s : Shape) (at : ℕ) (a b : ZoneMap) → slots_at s at (a ++ b) ≡ slots_at s at a ++ slots_at s (at + total_size a) b
slots_at-append s at a b = grind (arith, addresses_from-append, flat_map-append, map-append)

-- a block has room for its header and its contents
pub need-above : (heads : HeadKind) (n : ℕ) → head_size heads + n ≤ need heads n
need-above Bits24 n = omega arith
need-above Bits32 n = omega arith

masters_whole-from : (s : Shape) (t : HandleTable) (m : ZoneMap) → list_all (has_owners_length s t) m ≡ true → masters_whole s m ≡ true
masters_whole-from s t [] h = refl
masters_whole-from s t (e ∷ es) h =
    let parts = and_parts (has_owners_length s t e) (list_all (has_owners_length s t) es) h in
    and_from (not (is_master e.kind) || nat_le (head_size s.heads + 256) e.size) (masters_whole s es) (one e.size e.kind parts.0) (masters_whole-from s t es parts.1)
  where
    one : (n : ℕ) (k : Kind) → has_owners_length s t (block k n) ≡ true → (not (is_master k) || nat_le (head_size s.heads + 256) n) ≡ true
    one n Free h = refl
    one n Master h = let parts = and_parts (nat_le (need s.heads master_length) n) (nat_lt n (need s.heads master_length + smallest_block s.heads)) h in
        let large = leb-true (need s.heads master_length) n parts.0 in
        let above = need-above s.heads master_length in
        le-leb (head_size s.heads + 256) n (omega arith)
    one n (Ptr p) h = refl
    one n (Rel g) h = refl

-- A place in the map that no master block covers is no slot's.
module _ (s : Shape) (t : HandleTable) (a c b m : ZoneMap) (x : ℕ) (suits : Suits s t m) (was : m ≡ a ++ (c ++ b)) (some : 0 < total_size c) (at : address_after s a + head_size s.heads ≡ x) where
  fronts : (p : Entry → Bool) → list_all p m ≡ true → (list_all p a ≡ true) × (list_all p b ≡ true)
  fronts p h =
      let outer = and_parts (list_all p a) (list_all p (c ++ b)) (sym (list_all-append p a (c ++ b)) ∙ ap (list_all p) (sym was) ∙ h) in
      (outer.0, (and_parts (list_all p c) (list_all p b) (sym (list_all-append p c b) ∙ outer.1)).1)

  no_slot : list_all (λ (e : Entry). not (is_master e.kind)) c ≡ true → none_is x (slots s m) ≡ true
  no_slot no_master =
      let start : ℕ = address_after s [] in
      let whole = fronts (λ (e : Entry). not (is_master e.kind) || nat_le (head_size s.heads + 256) e.size) (masters_whole-from s t m suits.lengths) in
      let below : none_is x (slots_at s start a) ≡ true = weaker (λ q. nat_le (start + head_size s.heads) q && nat_lt q (start + total_size a)) (λ q. not (q == x)) (slots_at s start a)
      (λ q both. below_is_not q (start + total_size a) x (omega arith) (and_parts (nat_le (start + head_size s.heads) q) (nat_lt q (start + total_size a)) both).1) (slots-between s start a whole.0) in
      let far : ℕ = start + total_size a + total_size c in
      let above : none_is x (slots_at s far b) ≡ true = weaker (λ q. nat_le (far + head_size s.heads) q && nat_lt q (far + total_size b)) (λ q. not (q == x)) (slots_at s far b)
      (λ q both. above_is_not q (far + head_size s.heads) x (omega arith) (and_parts (nat_le (far + head_size s.heads) q) (nat_lt q (far + total_size b)) both).0) (slots-between s far b whole.1) in
      let middle : slots_at s (start + total_size a) c ≡ [] = ap (λ ns. flat_map (slots_from slot_count) (map (λ at. at + head_size s.heads) ns)) (addresses_from-none (start + total_size a) is_master c no_master) in
      ap (λ m. none_is x (slots_at s start m)) was ∙ ap (none_is x) (slots_at-append s start a (c ++ b) ∙ ap (λ ns. slots_at s start a ++ ns) (slots_at-append s (start + total_size a) c b ∙ ap (λ ns. ns ++ slots_at s far b) middle))
      ∙ list_all-append (λ q. not (q == x)) (slots_at s start a) (slots_at s far b) ∙ and_from _ _ below above

  no_pointer : list_all (λ (e : Entry). not (is_pointer_block x e.kind)) c ≡ true → is_pointer t x ≡ false
  no_pointer none = false_from_ne_true (is_pointer t x) (λ live.
      let start : ℕ = address_after s [] in
      let test : Kind → Bool = is_pointer_block x in
      let possible = fronts (λ (e : Entry). is_block_size s e.size) suits.sizes in
      let far : ℕ = start + total_size a + total_size c in
      let below : list_all (λ n. not ((n + head_size s.heads) == x)) (addresses_from start test a) ≡ true = weaker (λ n. nat_lt n (start + total_size a)) (λ n. not ((n + head_size s.heads) == x)) (addresses_from start test a)
      (λ n lt. let less = ltb-true n (start + total_size a) lt in ap not (ne_eqb (n + head_size s.heads) x (λ same. absurd (omega arith)))) (addresses-below s start test a possible.0) in
      let above : list_all (λ n. not ((n + head_size s.heads) == x)) (addresses_from far test b) ≡ true = weaker (λ n. nat_le far n) (λ n. not ((n + head_size s.heads) == x)) (addresses_from far test b)
      (λ n le. let more = leb-true far n le in ap not (ne_eqb (n + head_size s.heads) x (λ same. absurd (omega arith)))) (addresses-above far far test b (omega arith)) in
      let all : list_all (λ n. not ((n + head_size s.heads) == x)) (addresses s test m) ≡ true =
      ap (λ m. list_all (λ n. not ((n + head_size s.heads) == x)) (addresses_from start test m)) was
      ∙ ap (list_all (λ n. not ((n + head_size s.heads) == x))) (addresses_from-append start test a (c ++ b) ∙ ap (λ ns. addresses_from start test a ++ ns) (addresses_from-append (start + total_size a) test c b ∙ ap (λ ns. ns ++ addresses_from far test b) (addresses_from-none (start + total_size a) test c none)))
      ∙ list_all-append (λ n. not ((n + head_size s.heads) == x)) (addresses_from start test a) (addresses_from far test b) ∙ and_from _ _ below above in
      let one : none_is x (x ∷ []) ≡ true = ap (none_is x) (sym (suits.coherent.pointers x ∙ ap (λ c. cond c (x ∷ []) []) live)) ∙ list_all-map (λ n. not (n == x)) (λ at. at + head_size s.heads) (addresses s test m) ∙ all in
      absurd (false≢true (ap (λ c. not c && true) (sym (eq-eqb x x refl)) ∙ one)))

block_weaker : (p q : Entry → Bool) (b : ZoneMap) → ((e : Entry) → p e ≡ true → q e ≡ true) → list_all p b ≡ true → list_all q b ≡ true
block_weaker p q [] w h = refl
block_weaker p q (e ∷ es) w h = let parts = and_parts (p e) (list_all p es) h in and_from (q e) (list_all q es) (w e parts.0) (block_weaker p q es w parts.1)

moves_no_master : (t : HandleTable) (k : Kind) → not (is_fixed t k) ≡ true → not (is_master k) ≡ true
moves_no_master t v1 h = grind arith

moves_no_pointer : (t : HandleTable) (x : ℕ) (k : Kind) → not (is_fixed t k) ≡ true → not (is_pointer_block x k) ≡ true
moves_no_pointer t x v2 h = grind arith

free_bytes-le : (b : ZoneMap) → free_bytes b ≤ total_size b
free_bytes-le [] = omega arith
free_bytes-le (e ∷ es) = let rest = free_bytes-le es in elim (is_free e.kind) as (λ c. cond c e.size 0 + free_bytes es ≤ e.size + total_size es) [ true ↦ omega arith | false ↦ omega arith ]

not_a_handle : (s : Shape) (t : HandleTable) (m : ZoneMap) (x : ℕ) → Suits s t m → none_is x (slots s m) ≡ true → is_handle t x ≡ false
not_a_handle s t m x suits none = false_from_ne_true (is_handle t x) (λ live. none_is-contains x (slots s m) none (suits.coherent.in_slots x live))

-- the number of a pointer that would begin at the start of a gap with room is not live
pub gap_start-not_live : (s : Shape) (t : HandleTable) (m : ZoneMap) (g : Gap) → Suits s t m → IsGap t m g → 0 < room g → live_at t (contents_at_gap s g) ≡ None
gap_start-not_live s t m g suits i some =
    let x : ℕ = contents_at_gap s g in
    let was = i.parts ∙ append_assoc g.before g.blocks g.after in
    let bytes = free_bytes-le g.blocks in
    let large : 0 < total_size g.blocks = omega arith in
    let slot = no_slot s t g.before g.blocks g.after m x suits was large refl (block_weaker (λ (e : Entry). not (is_fixed t e.kind)) (λ (e : Entry). not (is_master e.kind)) g.blocks (λ e moves. moves_no_master t e.kind moves) i.moves) in
    let pointer = no_pointer s t g.before g.blocks g.after m x suits was large refl (block_weaker (λ (e : Entry). not (is_fixed t e.kind)) (λ (e : Entry). not (is_pointer_block x e.kind)) g.blocks (λ e moves. moves_no_pointer t x e.kind moves) i.moves) in
    not_live t x (not_a_handle s t m x suits slot) pointer

-- the first block of a kind that passes a test
record FirstPassing (test : Kind → Bool) (m : ZoneMap) : Type 0 where
  pub front : ZoneMap
  pub block : Entry
  pub back : ZoneMap
  pub was : m ≡ front ++ block ∷ back
  pub passes : test block.kind ≡ true
  pub none_front : list_all (λ (e : Entry). not (test e.kind)) front ≡ true

first_passing : (at : ℕ) (test : Kind → Bool) (m : ZoneMap) → 0 < length (addresses_from at test m) → FirstPassing test m
first_passing at test [] h = absurd (omega arith)
first_passing at test (e ∷ es) h = elim (test e.kind) as (λ c. test e.kind ≡ c → 0 < length (cond c (at ∷ []) [] ++ addresses_from (at + e.size) test es) → FirstPassing test (e ∷ es)) [
  | true ↦ λ here _. record { front = []; block = e; back = es; was = refl; passes = here; none_front = refl }
  | false ↦ λ other later. let rest = first_passing (at + e.size) test es later in
      record { front = e ∷ rest.front; block = rest.block; back = rest.back; was = ap (λ m. e ∷ m) rest.was; passes = rest.passes; none_front = and_from _ _ (ap not other) rest.none_front }
] refl h

-- a slot is no pointer
pub slot-no_pointer : (s : Shape) (t : HandleTable) (m : ZoneMap) (x : ℕ) → Suits s t m → Contains (slots s m) x → is_pointer t x ≡ false
slot-no_pointer s t m x suits there = false_from_ne_true (is_pointer t x) (λ live.
    let start : ℕ = address_after s [] in
    let test : Kind → Bool = is_pointer_block x in
    let one : contents_addresses s test m ≡ x ∷ [] = suits.coherent.pointers x ∙ ap (λ c. cond c (x ∷ []) []) live in
    let count : 0 < length (addresses s test m) = subst (λ n. 0 < n) (sym (ap length one) ∙ length-map (addresses s test m) (λ at. at + head_size s.heads)) (let some : 0 < 1 = omega arith in some) in
    let f = first_passing start test m count in
    let addresses_are = ap (addresses_from start test) f.was ∙ addresses_from-append start test f.front (f.block ∷ f.back) ∙ ap (λ ns. ns ++ addresses_from (start + total_size f.front) test (f.block ∷ f.back)) (addresses_from-none start test f.front f.none_front)
    ∙ ap (λ c. cond c ((start + total_size f.front) ∷ []) [] ++ addresses_from (start + total_size f.front + f.block.size) test f.back) f.passes in
    let contents : (start + total_size f.front + head_size s.heads) ∷ map (λ at. at + head_size s.heads) (addresses_from (start + total_size f.front + f.block.size) test f.back) ≡ x ∷ [] = sym (ap (map (λ at. at + head_size s.heads)) addresses_are) ∙ one in
    let number : start + total_size f.front + head_size s.heads ≡ x = cc contents in
    let possible : sizes_possible s (f.block ∷ f.back) ≡ true = (and_parts (sizes_possible s f.front) (sizes_possible s (f.block ∷ f.back)) (sym (list_all-append (λ (e : Entry). is_block_size s e.size) f.front (f.block ∷ f.back)) ∙ ap (sizes_possible s) (sym f.was) ∙ suits.sizes)).1 in
    let some = size-positive s f.block.size (and_parts (is_block_size s f.block.size) (sizes_possible s f.back) possible).0 in
    let bytes : 0 < total_size (f.block ∷ []) = omega arith in
    let at : address_after s f.front + head_size s.heads ≡ x = (let e : address_after s f.front + head_size s.heads ≡ start + total_size f.front + head_size s.heads = omega arith in e) ∙ number in
    none_is-contains x (slots s m) (no_slot s t f.front (f.block ∷ []) f.back m x suits f.was bytes at (and_from _ _ (ap not (pointer_not_master x f.block.kind f.passes)) refl)) there)
