-- A block made longer where it is, by the bytes of the free block right after it.
use Rattle.std.proofs.Common.{◌≡◌, ℕ, ◌+◌, ◌-◌, ◌<◌, ◌≤◌, Bool, true, false, cond, [], ◌∷◌, ◌++◌, Some, None, refl, ap, sym, ◌∙◌, arith, subst, append_assoc, IsTrue}
use Rattle.std.specs.Prelude.{◌&&◌, ◌==◌, ◌%◌, nat_le, nat_lt}
use Rattle.std.specs.List.{list_all}
use Rattle.std.proofs.lemmas.Bool.Decides.{nat_tests}
use Rattle.std.proofs.lemmas.Bool.{le-leb, lt-leb}
use Rattle.mac_base.specs.declared.block.Entry.{Entry}
use Rattle.mac_base.specs.declared.block.Kind.TheVariants.{Free}
use Rattle.mac_base.specs.HeadKind.{smallest_block}
use Rattle.mac_base.specs.Heap.{granted}
use Rattle.mac_base.specs.declared.request.Request.TheVariants.{Resize}
use Rattle.mac_base.specs.ZoneMap.{ZoneMap, block, free_block, free_size, is_free, total_size}
use Rattle.mac_base.specs.Serve.{taken, cut, free_in_front, past_free}
use Rattle.mac_base.specs.Suits.{is_block_size}
use Rattle.mac_base.specs.ZoneState.{ZoneState}
use Rattle.zone_laws.proofs.Maps.{total_size-append}
use Rattle.zone_laws.proofs.ResizedBlocks.{free_in_front-is}
use Rattle.linked_zone.specs.Changes.{enlarged}
use Rattle.linked_zone.specs.Places.{EntryAt, CanGrow}
use Rattle.zone_heap.specs.Placed.{resized_there}
use Rattle.zone_heap.proofs.Places.{large-size}
use Rattle.zone_heap.proofs.Sizing.{Standing, resized_zone, resized-there, can-front, free-rest, here-size}
use Rattle.zone_heap.proofs.Taking.{front_size, taken-parts, all-there}
use Rattle.zone_index.proofs.SomeBytes.{total_size-push}

-- what is after a block by its address are the free bytes in front of those after it
pub free-after : (z : ZoneState) (at next : ℕ) (e : EntryAt z at) (entry : Entry) → IsTrue (list_all (λ (e : Entry). is_block_size z.shape e.size) z.heap.map) → next ≡ at + e.here.size → EntryAt z next
    → ((o : EntryAt z next) → entry ≡ o.here) → free_in_front e.after ≡ free_size entry
free-after z at next e entry sizes there other read = by_after e.after refl
  where
    some : (m : ℕ) → nat_lt 0 m ≡ true → 0 < m
    some m h = grind (arith, nat_tests)

    by_after : (m : ZoneMap) → e.after ≡ m → free_in_front m ≡ free_size entry
    by_after [] is =
        let possible : Entry → Bool = λ e. is_block_size z.shape e.size in
        let all : total_size e.before + (e.here.size + 0) ≡ total_size other.before + (other.here.size + total_size other.after) =
        sym (total_size-append e.before (e.here ∷ [])) ∙ ap (λ m. total_size (e.before ++ e.here ∷ m)) (sym is) ∙ ap total_size (sym e.map ∙ other.map) ∙ total_size-append other.before (other.here ∷ other.after) in
        let large = some other.here.size (large-size z.shape other.here.size (all-there possible other.before other.here other.after (subst (λ m. IsTrue (list_all possible m)) other.map sizes))) in
        absurd (omega (arith, e.place, other.place))
    by_after (f ∷ fs) is = ap free_size (sym (read (record {
      before = e.before ++ e.here ∷ [];
      here = f;
      after = fs;
      map = e.map ∙ ap (λ m. e.before ++ e.here ∷ m) is ∙ sym (append_assoc e.before (e.here ∷ []) (f ∷ fs));
      place = (let all = total_size-push e.before e.here in let start = e.place in omega arith);
    })))

-- the free bytes in front are among all
pub free-within : (m : ZoneMap) → free_in_front m ≤ total_size m
free-within [] = omega arith
free-within (e ∷ es) = elim (is_free e.kind) as (λ c. cond c e.size 0 ≤ e.size + total_size es) [
  | true ↦ omega arith
  | false ↦ omega arith
]

-- two possible sizes make one
pub sum_size : (small m n : ℕ) → ((m % 4 == 0) && nat_le small m) ≡ true → ((n % 4 == 0) && nat_le small n) ≡ true → (((m + n) % 4 == 0) && nat_le small (m + n)) ≡ true
sum_size small m n a b = grind (arith, nat_tests)

module _ (z : ZoneState) (x n k at : ℕ) (b : Standing z x n k at) (more : b.named.here.size < k) where
  -- the bytes of the block and the free ones right after it
  abbrev pub whole : ℕ
  whole = b.named.here.size + free_in_front b.named.after

  module _ (enough : k ≤ whole) where
    -- the blocks where they are taken
    abbrev pub grown_blocks : ZoneMap
    grown_blocks = taken z.shape k b.named.here.kind whole ++ past_free b.named.after

    -- a free block is after it
    pub free_there : z.heap.map ≡ b.named.before ++ b.named.here ∷ block Free (free_in_front b.named.after) ∷ past_free b.named.after
    free_there = b.named.map ∙ ap (λ m. b.named.before ++ b.named.here ∷ m) (free_in_front-is b.named.after (omega arith))

    -- both sizes are possible, and so is their sum
    pub whole-size : IsTrue (is_block_size z.shape whole)
    whole-size =
        let possible : Entry → Bool = λ e. is_block_size z.shape e.size in
        let free = free_in_front b.named.after in
        let parted = free_there ∙ sym (append_assoc b.named.before (b.named.here ∷ []) (block Free free ∷ past_free b.named.after)) in
        sum_size (smallest_block z.shape.heads) b.named.here.size free (here-size z x n k at b)
        (all-there possible (b.named.before ++ b.named.here ∷ []) (block Free free) (past_free b.named.after) (subst (λ m. IsTrue (list_all possible m)) parted b.sound.suits.sizes))

    -- so the block can grow
    abbrev pub can-grow : CanGrow z x (front_size z.shape k whole) n
    can-grow = record {
      before = b.named.before;
      here = b.named.here;
      free = free_in_front b.named.after;
      after = past_free b.named.after;
      map = free_there;
      named = b.named.named;
      larger = larger (nat_lt (whole - k) (smallest_block z.shape.heads));
      fits = can-front z.shape n k whole b.size enough whole-size;
    }
      where
        larger : (c : Bool) → b.named.here.size ≤ cond c whole k
        larger true = omega arith
        larger false = omega arith

    -- which makes the blocks those
    grown : enlarged z can-grow ≡ resized_zone z x n k at b grown_blocks
    grown =
        let state = λ (m : ZoneMap). let new : ZoneState = record { memory = z.memory; shape = z.shape; heap = granted (Resize x n) x m z.heap } in new in
        let first = block b.named.here.kind (front_size z.shape k whole) in
        let rest = free_block (whole - front_size z.shape k whole) in
        ap state (append_assoc b.named.before (first ∷ rest) (past_free b.named.after))
        ∙ ap (λ rest. state (b.named.before ++ first ∷ (rest ++ past_free b.named.after))) (free-rest z.shape k whole)
        ∙ ap (λ m. state (b.named.before ++ m)) (sym (taken-parts z.shape k b.named.here.kind whole (past_free b.named.after)))

    -- once it has grown the blocks are those
    pub grown-done : (size : ℕ) (new : ZoneState) → size ≡ front_size z.shape k whole → ((can : CanGrow z x size n) → new ≡ enlarged z can) → new ≡ resized_zone z x n k at b grown_blocks
    grown-done size new is grow = subst (λ size. (can : CanGrow z x size n) → new ≡ enlarged z can) is grow can-grow ∙ grown

    -- so the block is as long as it is to be
    pub grown-there : (new : ZoneState) → new ≡ resized_zone z x n k at b grown_blocks → resized_there z.shape x n z.heap ≡ Some new.heap
    grown-there new is =
        let es = b.named.after in
        resized-there z x n k at b grown_blocks new
        (ap (λ c. cond c (Some (cut z.shape k b.named.here es)) (cond (nat_le k whole) (Some grown_blocks) None)) (lt-leb k b.named.here.size more) ∙ ap (λ c. cond c (Some grown_blocks) None) (le-leb k whole enough))
        is
