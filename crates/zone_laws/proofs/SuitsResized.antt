-- A map suits its table once a block has another size in place, and its owner the bytes for it.
use Rattle.std.proofs.Common.{◌≡◌, ℕ, ◌+◌, ◌%◌, ◌==◌, Bool, true, false, not, ◌&&◌, ◌||◌, nat_le, cond, List, [], ◌∷◌, ◌++◌, length, map, length-append, refl, ap, sym, ◌∙◌, arith, IsTrue, Contains, subst, ◌⊎◌, inl, inr}
use Rattle.std.specs.List.{list_all}
use Rattle.std.specs.Ordering.{nat_cmp}
use Rattle.std.specs.FinMap.{is_sorted}
use Rattle.std.proofs.lemmas.List.Folds.{list_all-append}
use Rattle.std.proofs.lemmas.Bool.Decides.{nat_tests}
use Rattle.std.proofs.lemmas.Bool.{and_parts, not_from_false, and_from}
use Rattle.std.proofs.lemmas.List.{nil_from_length}
use Rattle.mac_base.specs.declared.block.Entry.{Entry}
use Rattle.mac_base.specs.declared.block.Kind.{Kind}
use Rattle.mac_base.specs.declared.block.Kind.TheVariants.{Free}
use Rattle.mac_base.specs.HeadKind.{Shape, need, head_size, smallest_block}
use Rattle.mac_base.specs.ZoneMap.{ZoneMap, block, is_free, is_master, is_named, total_size, address_after, addresses, addresses_from, joined}
use Rattle.mac_base.specs.HandleTable.{HandleTable, bytes_of, is_full, is_handle, is_pointer}
use Rattle.mac_base.specs.Suits.{Suits, free_apart, starts_free, is_block_size, is_handle_block, is_pointer_block, has_owners_length, wanted_length}
use Rattle.mac_base.specs.Serve.{taken}
use Rattle.zone_laws.proofs.Maps.{Exchanged, addresses_from-append, addresses_from-exchanged, addresses_from-old, addresses_from-skip, list_all-middle, total_size-append, total_size-exchanged}
use Rattle.zone_laws.proofs.Tables.{AgreeBut, full_handle, handle_no_pointer}
use Rattle.zone_laws.proofs.Joined.{free_apart-joined, starts_free-joined, sizes-joined, lengths-joined}
use Rattle.zone_laws.proofs.Owners.{none_named, lengths-agree, nothing_passes, no_handle_block, no_pointer_block}
use Rattle.zone_laws.proofs.Taken.{need-is_size, total_size-taken, addresses_from-taken, free_apart-after, free_apart-replaced, free_apart-taken, starts_free-taken, sizes-taken, lengths-taken}
use Rattle.zone_laws.proofs.SuitsTaken.{slots-same, contents-same}
use Rattle.zone_laws.proofs.Resized.{ResizedAt}
use Rattle.zone_laws.proofs.Arranging.{named-used, free_is}
use Rattle.zone_laws.proofs.JoinedBlocks.{total_size-joined, addresses_from-joined}

-- ---- how many blocks a number names

-- as many as it has as a handle and as a pointer
count_named : (at x : ℕ) (m : ZoneMap) → length (addresses_from at (is_named x) m) ≡ length (addresses_from at (is_handle_block x) m) + length (addresses_from at (is_pointer_block x) m)
count_named at x [] = refl
count_named at x (e ∷ es) = grind (arith, count_named (at + e.size) x es)

pub length_of_map : (f : ℕ → ℕ) (xs : List ℕ) → length (map f xs) ≡ length xs
length_of_map f [] = refl
length_of_map f (x ∷ xs) = let rest = length_of_map f xs in omega arith

-- a handle that isn't empty names one block, and so does a pointer
pub one_named : (s : Shape) (t : HandleTable) (m : ZoneMap) (x : ℕ) → Suits s t m → (is_full t x || is_pointer t x) ≡ true → length (addresses s (is_named x) m) ≡ 1
one_named s t m x suits block = elim (is_full t x) as (λ b. is_full t x ≡ b → (b || is_pointer t x) ≡ true → length (addresses s (is_named x) m) ≡ 1) [
  | true ↦ λ full _.
      let one : length (addresses s (is_handle_block x) m) ≡ 1 = suits.coherent.handles x ∙ ap (λ b. cond b 1 0) full in
      let none : length (addresses s (is_pointer_block x) m) ≡ 0 = ap length (no_pointer_block s t m suits x (handle_no_pointer t x (full_handle t x full))) in
      omega (arith, count_named (address_after s []) x m)
  | false ↦ λ full pointer.
      let one : length (addresses s (is_pointer_block x) m) ≡ 1 = sym (length_of_map (λ a. a + head_size s.heads) (addresses s (is_pointer_block x) m)) ∙ ap length (suits.coherent.pointers x ∙ ap (λ b. cond b (x ∷ []) []) pointer) in
      let none : length (addresses s (is_handle_block x) m) ≡ 0 = ap length (no_handle_block s t m suits x full) in
      omega (arith, count_named (address_after s []) x m)
] refl block

none_named-empty : (at x : ℕ) (m : ZoneMap) → addresses_from at (is_named x) m ≡ [] → none_named x m ≡ true
none_named-empty at x [] h = refl
none_named-empty at x (e ∷ es) h =
    let hs = nothing_passes (is_named x e.kind) at (addresses_from (at + e.size) (is_named x) es) h in
    and_from (not (is_named x e.kind)) _ (not_from_false _ hs.0) (none_named-empty (at + e.size) x es hs.1)

-- ---- what is named is neither free nor a master block

-- its owner is x
named_length : (x : ℕ) (t : HandleTable) (kind : Kind) → is_named x kind ≡ true → wanted_length t kind ≡ length (bytes_of t x)
named_length x t v2 h = grind arith

pub free_only : (at : ℕ) (test : Kind → Bool) (m : ZoneMap) → test Free ≡ false → list_all (λ (e : Entry). is_free e.kind) m ≡ true → addresses_from at test m ≡ []
free_only at test [] free h = refl
free_only at test (e ∷ es) free h =
    let hs = and_parts (is_free e.kind) (list_all (λ (e : Entry). is_free e.kind) es) h in
    addresses_from-skip at test e es (ap test (free_is e.kind hs.0) ∙ free) ∙ free_only (at + e.size) test es free hs.1

pub no_rest : (xs : List ℕ) → xs ++ [] ≡ xs
no_rest [] = refl
no_rest (x ∷ xs) = ap (λ ys. x ∷ ys) (no_rest xs)

-- ---- the parts of a resized map

module _ (s : Shape) (k x : ℕ) (old new : ZoneMap) (r : ResizedAt s k x old new) where
  -- what is taken in place of the block
  abbrev piece : ZoneMap
  piece = taken s k (r.changed).kind ((r.changed).size + total_size r.room)

  abbrev unjoined : ZoneMap
  unjoined = r.before ++ (piece ++ r.after)

  abbrev exchange : Exchanged old unjoined
  exchange = record { before = r.before; left = r.changed ∷ r.room; right = piece; after = r.after; was = r.was; is = refl; as_large = total_size-taken s k (r.changed).kind ((r.changed).size + total_size r.room) r.fits }

  -- what holds of the map before any joining, and of what is joined after some blocks, holds of the new one
  by_join : (P : ZoneMap → Type 0) → P unjoined → (P unjoined → P (r.before ++ joined (piece ++ r.after))) → P new
  by_join P here join = subst P (sym r.is) (by_tail r.joins)
    where
      by_tail : ((r.tail ≡ joined (piece ++ r.after)) ⊎ ((r.tail ≡ piece ++ r.after) × (starts_free r.after ≡ false))) → P (r.before ++ r.tail)
      by_tail (inl same) = subst (λ tail. P (r.before ++ tail)) (sym same) (join here)
      by_tail (inr same) = subst (λ tail. P (r.before ++ tail)) (sym same.0) here

  -- resizing in place keeps the sum of the sizes
  pub total_size-resized : total_size new ≡ total_size old
  total_size-resized = by_join (λ m. total_size m ≡ total_size old) (total_size-exchanged old unjoined exchange) (λ same.
      total_size-append r.before (joined (piece ++ r.after)) ∙ ap (λ n. total_size r.before + n) (total_size-joined (piece ++ r.after)) ∙ sym (total_size-append r.before (piece ++ r.after)) ∙ same)

  -- each block that isn't free keeps its address
  pub addresses_from-resized : (at : ℕ) (test : Kind → Bool) → test Free ≡ false → addresses_from at test new ≡ addresses_from at test old
  addresses_from-resized at test free = by_join (λ m. addresses_from at test m ≡ addresses_from at test old)
      (addresses_from-exchanged old unjoined exchange at test (addresses_from-taken s k (r.changed).kind ((r.changed).size + total_size r.room) (at + total_size r.before) test free
      ∙ sym (ap (λ found. cond (test (r.changed).kind) ((at + total_size r.before) ∷ []) [] ++ found) (free_only ((at + total_size r.before) + (r.changed).size) test r.room free r.all_free) ∙ no_rest _)))
      (λ same. addresses_from-append at test r.before (joined (piece ++ r.after)) ∙ ap (λ found. addresses_from at test r.before ++ found) (addresses_from-joined (at + total_size r.before) test (piece ++ r.after) free)
      ∙ sym (addresses_from-append at test r.before (piece ++ r.after)) ∙ same)

  -- what each block passes, also once two that pass are joined
  list_all-resized : (p : Entry → Bool) → ((m : ZoneMap) → list_all p m ≡ true → list_all p (joined m) ≡ true) → list_all p r.before ≡ true → list_all p piece ≡ true → list_all p r.after ≡ true → list_all p new ≡ true
  list_all-resized p join before here after = by_join (λ m. list_all p m ≡ true)
      (list_all-middle p r.before piece r.after ∙ and_from (list_all p r.before) _ before (and_from (list_all p piece) _ here after))
      (λ _. list_all-append p r.before (joined (piece ++ r.after)) ∙ and_from (list_all p r.before) _ before (join (piece ++ r.after) (list_all-append p piece r.after ∙ and_from (list_all p piece) _ here after)))

  -- what each block of the old map passes: those before, the changed one with its room, those after
  parts_pass : (p : Entry → Bool) → list_all p old ≡ true → (list_all p r.before ≡ true) × (list_all p (r.changed ∷ r.room) ≡ true) × (list_all p r.after ≡ true)
  parts_pass p h =
      let all = and_parts (list_all p r.before) (list_all p (r.changed ∷ r.room) && list_all p r.after) (sym (ap (list_all p) r.was ∙ list_all-middle p r.before (r.changed ∷ r.room) r.after) ∙ h) in
      let rest = and_parts (list_all p (r.changed ∷ r.room)) (list_all p r.after) all.1 in
      (all.0, rest.0, rest.1)

  used : is_free (r.changed).kind ≡ false
  used = named-used x (r.changed).kind r.named

  -- and no two neighbours are free
  free_apart-resized : IsTrue (free_apart old) → IsTrue (free_apart new)
  free_apart-resized h =
      let apart : IsTrue (free_apart (r.before ++ ((r.changed ∷ r.room) ++ r.after))) = sym (ap free_apart r.was) ∙ h in
      ap free_apart r.is ∙ by_tail apart r.joins
    where
      never : (m : ZoneMap) → starts_free m ≡ is_free (r.changed).kind → starts_free m ≡ true → starts_free ((r.changed ∷ r.room) ++ r.after) ≡ true
      never m starts free = sym starts ∙ free

      tail_apart : (room : ZoneMap) → IsTrue (free_apart (r.changed ∷ (room ++ r.after))) → IsTrue (free_apart r.after)
      tail_apart room h = free_apart-after (r.changed ∷ room) r.after h

      by_tail : IsTrue (free_apart (r.before ++ ((r.changed ∷ r.room) ++ r.after)))
          → ((r.tail ≡ joined (piece ++ r.after)) ⊎ ((r.tail ≡ piece ++ r.after) × (starts_free r.after ≡ false))) → IsTrue (free_apart (r.before ++ r.tail))
      by_tail apart (inl same) = free_apart-replaced r.before ((r.changed ∷ r.room) ++ r.after) r.tail
          (never r.tail (ap starts_free same ∙ starts_free-joined (piece ++ r.after) ∙ starts_free-taken s k (r.changed).kind ((r.changed).size + total_size r.room) r.after))
          (ap free_apart same ∙ free_apart-joined (piece ++ r.after)) apart
      by_tail apart (inr same) = free_apart-replaced r.before ((r.changed ∷ r.room) ++ r.after) r.tail
          (never r.tail (ap starts_free same.0 ∙ starts_free-taken s k (r.changed).kind ((r.changed).size + total_size r.room) r.after))
          (ap free_apart same.0 ∙ free_apart-taken s k (r.changed).kind ((r.changed).size + total_size r.room) r.after used (λ _. same.1) (tail_apart r.room (free_apart-after r.before _ apart))) apart

  -- where x names one block, it names none before and after it
  others_unnamed : (at : ℕ) → length (addresses_from at (is_named x) old) ≡ 1 → (none_named x r.before ≡ true) × (none_named x r.after ≡ true)
  others_unnamed at one =
      let place = at + total_size r.before in
      let front = addresses_from at (is_named x) r.before in
      let room = addresses_from (place + (r.changed).size) (is_named x) r.room in
      let back = addresses_from (place + ((r.changed).size + total_size r.room)) (is_named x) r.after in
      let all : length (front ++ ((place ∷ room) ++ back)) ≡ 1 = sym (ap length (addresses_from-old old unjoined exchange at (is_named x) ∙ ap (λ b. front ++ ((cond b (place ∷ []) [] ++ room) ++ back)) r.named)) ∙ one in (
        none_named-empty at x r.before (nil_from_length front (omega (arith, all, length-append front ((place ∷ room) ++ back)))),
        none_named-empty (place + ((r.changed).size + total_size r.room)) x r.after (nil_from_length back (omega (arith, all, length-append front ((place ∷ room) ++ back), length-append (place ∷ room) back))),
      )

  sizes-room : (room : ZoneMap) (n : ℕ) → is_block_size s n ≡ true → list_all (λ (e : Entry). is_block_size s e.size) room ≡ true → is_block_size s (n + total_size room) ≡ true
  sizes-room [] n h all = let same : n ≡ n + 0 = omega arith in sym (ap (is_block_size s) same) ∙ h
  sizes-room (e ∷ es) n h all =
      let hs = and_parts (is_block_size s e.size) (list_all (λ (e : Entry). is_block_size s e.size) es) all in
      let same : (n + e.size) + total_size es ≡ n + (e.size + total_size es) = omega arith in
      sym (ap (is_block_size s) same) ∙ sizes-room es (n + e.size) (sum_size (smallest_block s.heads) n e.size h hs.0) hs.1
    where
      sum_size : (small m n : ℕ) → ((m % 4 == 0) && nat_le small m) ≡ true → ((n % 4 == 0) && nat_le small n) ≡ true → (((m + n) % 4 == 0) && nat_le small (m + n)) ≡ true
      sum_size small m n a b = grind (arith, nat_tests)

  sizes-resized : is_block_size s k ≡ true → IsTrue (list_all (λ (e : Entry). is_block_size s e.size) old) → IsTrue (list_all (λ (e : Entry). is_block_size s e.size) new)
  sizes-resized size h =
      let parts = parts_pass (λ (e : Entry). is_block_size s e.size) h in
      let here = and_parts (is_block_size s (r.changed).size) (list_all (λ (e : Entry). is_block_size s e.size) r.room) parts.1 in
      list_all-resized (λ (e : Entry). is_block_size s e.size) (sizes-joined s) parts.0
      (sizes-taken s k (r.changed).kind ((r.changed).size + total_size r.room) size (sizes-room r.room (r.changed).size here.0 here.1) r.fits) parts.2

-- The block of x, a handle or a pointer, has the size for n bytes, and x has n bytes.
pub Suits-resized : (s : Shape) (n x : ℕ) (old new : ZoneMap) (t u : HandleTable) → ResizedAt s (need s.heads n) x old new → Suits s t old → AgreeBut x t u → (is_full t x || is_pointer t x) ≡ true
    → ((y : ℕ) → is_full u y ≡ is_full t y) → ((y : ℕ) → is_pointer u y ≡ is_pointer t y) → ((y : ℕ) → is_handle u y ≡ is_handle t y) → length (bytes_of u x) ≡ n
    → IsTrue (is_sorted nat_cmp u.live) → Suits s u new
Suits-resized s n x old new t u r suits agree block fulls pointers handles long rise =
    let unnamed = others_unnamed s (need s.heads n) x old new r (address_after s []) (one_named s t old x suits block) in
    let parts = parts_pass s (need s.heads n) x old new r (has_owners_length s t) suits.lengths in
    record {
      apart = free_apart-resized s (need s.heads n) x old new r suits.apart;
      sizes = sizes-resized s (need s.heads n) x old new r (need-is_size s n) suits.sizes;
      lengths = list_all-resized s (need s.heads n) x old new r (has_owners_length s u) (lengths-joined s u)
          (lengths-agree s x t u agree r.before unnamed.0 parts.0)
          (lengths-taken s u n (r.changed).kind ((r.changed).size + total_size r.room) (named_length x u (r.changed).kind r.named ∙ long) r.fits)
          (lengths-agree s x t u agree r.after unnamed.1 parts.2);
      coherent = record {
        handles = λ h. ap length (addresses_from-resized s (need s.heads n) x old new r (address_after s []) (is_handle_block h) refl) ∙ suits.coherent.handles h ∙ sym (ap (λ b. cond b 1 0) (fulls h));
        pointers = λ p. contents-same s (is_pointer_block p) old new (addresses_from-resized s (need s.heads n) x old new r (address_after s []) (is_pointer_block p) refl)
            ∙ suits.coherent.pointers p ∙ sym (ap (λ b. cond b (p ∷ []) []) (pointers p));
        in_slots = λ h live. subst (λ xs. Contains xs h) (sym (slots-same s old new (addresses_from-resized s (need s.heads n) x old new r (address_after s []) is_master refl))) (suits.coherent.in_slots h (sym (handles h) ∙ live));
        in_order = rise;
      };
    }
