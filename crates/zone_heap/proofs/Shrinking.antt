-- A block cut to its front where it is: the front is held, and what is over is joined to the free block after it.
use Rattle.std.proofs.Common.{◌≡◌, ℕ, ◌+◌, ◌-◌, ◌<◌, ◌≤◌, Bool, true, false, not, cond, [], ◌∷◌, ◌++◌, Some, None, refl, ap, sym, ◌∙◌, arith, subst, append_assoc, IsTrue}
use Rattle.std.specs.Prelude.{◌&&◌, nat_le, nat_lt}
use Rattle.std.specs.List.{list_all}
use Rattle.std.proofs.lemmas.Bool.Decides.{nat_tests}
use Rattle.std.proofs.lemmas.Bool.{and_parts, and_from}
use Rattle.mac_base.specs.declared.block.Entry.{Entry}
use Rattle.mac_base.specs.declared.block.Kind.TheVariants.{Free}
use Rattle.mac_base.specs.HeadKind.{smallest_block}
use Rattle.mac_base.specs.Heap.{granted}
use Rattle.mac_base.specs.declared.request.Request.TheVariants.{Resize}
use Rattle.mac_base.specs.ZoneMap.{ZoneMap, block, free_block, is_free, joined}
use Rattle.mac_base.specs.Serve.{taken, cut, free_in_front, past_free}
use Rattle.mac_base.specs.Suits.{free_apart, starts_free, is_block_size}
use Rattle.mac_base.specs.ZoneState.{ZoneState}
use Rattle.zone_laws.proofs.Joined.{joined-apart, free_apart-joined, starts_free-joined}
use Rattle.zone_laws.proofs.JoinedBlocks.{joined-front}
use Rattle.zone_laws.proofs.Maps.{list_all-middle}
use Rattle.zone_laws.proofs.Taken.{need-is_size, free_apart-after, free_apart-replaced, starts_free-taken, sizes-taken, head-below_smallest}
use Rattle.linked_zone.specs.Changes.{held_there}
use Rattle.linked_zone.specs.Places.{CanHold}
use Rattle.zone_heap.specs.Joins.{NewlyFree, all_joined}
use Rattle.zone_heap.specs.Placed.{resized_there}
use Rattle.zone_heap.proofs.Sizing.{Standing, resized_zone, resized-there, can-front, free-rest, here-size}
use Rattle.zone_heap.proofs.Taking.{front_size, taken-parts}
use Rattle.zone_index.proofs.SomeBytes.{total_size-push}

module _ (z : ZoneState) (x n k at : ℕ) (b : Standing z x n k at) (fits : k ≤ b.named.here.size) where
  -- how many bytes of the block stay with its owner
  abbrev pub kept : ℕ
  kept = front_size z.shape k b.named.here.size

  -- the block in its new size, and those after it, not joined so far
  abbrev pub cut_blocks : ZoneMap
  cut_blocks = taken z.shape k b.named.here.kind b.named.here.size ++ b.named.after

  -- its front can be held
  abbrev pub can-hold : CanHold z x kept n
  can-hold = record {
    before = b.named.before;
    here = b.named.here;
    after = b.named.after;
    map = b.named.map;
    named = b.named.named;
    fits = can-front z.shape n k b.named.here.size b.size fits (here-size z x n k at b);
  }

  -- which makes the blocks these
  held : held_there z can-hold ≡ resized_zone z x n k at b cut_blocks
  held =
      let state = λ (m : ZoneMap). let new : ZoneState = record { memory = z.memory; shape = z.shape; heap = granted (Resize x n) x m z.heap } in new in
      let rest = free_block (b.named.here.size - kept) in
      ap state (append_assoc b.named.before (block b.named.here.kind kept ∷ rest) b.named.after)
      ∙ ap (λ rest. state (b.named.before ++ block b.named.here.kind kept ∷ (rest ++ b.named.after))) (free-rest z.shape k b.named.here.size)
      ∙ ap (λ m. state (b.named.before ++ m)) (sym (taken-parts z.shape k b.named.here.kind b.named.here.size b.named.after))

  -- no free blocks were neighbours
  apart : IsTrue (free_apart (b.named.before ++ b.named.here ∷ b.named.after))
  apart = subst (λ m. IsTrue (free_apart m)) b.named.map b.sound.suits.apart

  -- only from the block on there may be any now
  joined-cut : joined (b.named.before ++ cut_blocks) ≡ b.named.before ++ cut z.shape k b.named.here b.named.after
  joined-cut =
      let tail = joined cut_blocks in
      joined-front b.named.before cut_blocks tail (sym (joined-apart tail (free_apart-joined cut_blocks)))
      ∙ joined-apart (b.named.before ++ tail)
      (free_apart-replaced b.named.before (b.named.here ∷ b.named.after) tail
      (λ h. sym (starts_free-joined cut_blocks ∙ starts_free-taken z.shape k b.named.here.kind b.named.here.size b.named.after) ∙ h)
      (free_apart-joined cut_blocks) apart)

  -- all joined they are what they are to be
  pub all-joined : all_joined (resized_zone z x n k at b cut_blocks) ≡ resized_zone z x n k at b (cut z.shape k b.named.here b.named.after)
  all-joined = ap (λ m. let new : ZoneState = record { memory = z.memory; shape = z.shape; heap = granted (Resize x n) x m z.heap } in new) joined-cut

  -- and so they are without, where nothing is over
  pub all-kept : b.named.here.size ≤ kept → resized_zone z x n k at b cut_blocks ≡ resized_zone z x n k at b (cut z.shape k b.named.here b.named.after)
  all-kept most =
      let still = same (nat_lt (b.named.here.size - k) (smallest_block z.shape.heads)) refl most in
      ap (resized_zone z x n k at b) (sym (joined-apart cut_blocks (subst (λ m. IsTrue (free_apart m)) (sym still) (free_apart-after b.named.before (b.named.here ∷ b.named.after) apart))))
    where
      below : (m small : ℕ) → 0 < small → m ≡ 0 → nat_lt m small ≡ true
      below m small some none = grind (arith, nat_tests)

      same : (c : Bool) → nat_lt (b.named.here.size - k) (smallest_block z.shape.heads) ≡ c → b.named.here.size ≤ cond c b.named.here.size k
          → cond c (block b.named.here.kind b.named.here.size ∷ []) (block b.named.here.kind k ∷ block Free (b.named.here.size - k) ∷ []) ++ b.named.after ≡ b.named.here ∷ b.named.after
      same true is most = refl
      same false is most =
          let some : 0 < smallest_block z.shape.heads = let small = head-below_smallest z.shape.heads in omega arith in
          absurd (cc (is, below (b.named.here.size - k) (smallest_block z.shape.heads) some (omega arith)))

  -- all sizes are possible
  sizes-cut : IsTrue (list_all (λ (e : Entry). is_block_size z.shape e.size) (b.named.before ++ cut_blocks))
  sizes-cut =
      let possible : Entry → Bool = λ e. is_block_size z.shape e.size in
      let all = sym (list_all-middle possible b.named.before (b.named.here ∷ []) b.named.after) ∙ subst (λ m. IsTrue (list_all possible m)) b.named.map b.sound.suits.sizes in
      let first = and_parts (list_all possible b.named.before) (list_all possible (b.named.here ∷ []) && list_all possible b.named.after) all in
      let needed = subst (λ j. IsTrue (is_block_size z.shape j)) (sym b.size) (need-is_size z.shape n) in
      list_all-middle possible b.named.before (taken z.shape k b.named.here.kind b.named.here.size) b.named.after
      ∙ and_from (list_all possible b.named.before) _ first.0
      (and_from (list_all possible (taken z.shape k b.named.here.kind b.named.here.size)) (list_all possible b.named.after)
      (sizes-taken z.shape k b.named.here.kind b.named.here.size needed (here-size z x n k at b) fits)
      (and_parts (list_all possible (b.named.here ∷ [])) (list_all possible b.named.after) first.1).1)

  -- what is over is free, and may have a free neighbour after it
  pub rest-free : kept < b.named.here.size → NewlyFree (resized_zone z x n k at b cut_blocks) (at + kept)
  rest-free less =
      let whole = b.named.here.size in
      let kind = b.named.here.kind in
      elim (nat_lt (whole - k) (smallest_block z.shape.heads)) as (λ c. cond c whole k < whole
      → IsTrue (list_all (λ (e : Entry). is_block_size z.shape e.size) (b.named.before ++ (cond c (block kind whole ∷ []) (block kind k ∷ block Free (whole - k) ∷ []) ++ b.named.after)))
      → NewlyFree (resized_zone z x n k at b (cond c (block kind whole ∷ []) (block kind k ∷ block Free (whole - k) ∷ []) ++ b.named.after)) (at + cond c whole k)) [
        | true ↦ λ less _. absurd (omega arith)
        | false ↦ λ _ sizes. record {
          free = record {
            before = b.named.before ++ block kind k ∷ [];
            size = whole - k;
            after = b.named.after;
            map = sym (append_assoc b.named.before (block kind k ∷ []) (block Free (whole - k) ∷ b.named.after));
            place = (let all = total_size-push b.named.before (block kind k) in let start = b.named.place in omega arith);
          };
          before = free_apart-replaced b.named.before (b.named.here ∷ b.named.after) (block kind k ∷ []) (λ h. h) (alone (is_free kind)) apart;
          after = (and_parts (not (is_free kind && starts_free b.named.after)) (free_apart b.named.after) (free_apart-after b.named.before (b.named.here ∷ b.named.after) apart)).1;
          sizes = sizes;
        }
      ] less sizes-cut
    where
      alone : (c : Bool) → (not (c && false) && true) ≡ true
      alone true = refl
      alone false = refl

  -- once the front is held the blocks are these
  pub held-done : (size : ℕ) (new : ZoneState) → size ≡ kept → ((can : CanHold z x size n) → new ≡ held_there z can) → new ≡ resized_zone z x n k at b cut_blocks
  held-done size new is hold = subst (λ size. (can : CanHold z x size n) → new ≡ held_there z can) is hold can-hold ∙ held

  -- so the block is as long as it is to be
  pub cut-there : (new : ZoneState) → new ≡ resized_zone z x n k at b (cut z.shape k b.named.here b.named.after) → resized_there z.shape x n z.heap ≡ Some new.heap
  cut-there new is =
      let es = b.named.after in
      let whole = b.named.here.size + free_in_front es in
      let longer = cond (nat_le k whole) (Some (taken z.shape k b.named.here.kind whole ++ past_free es)) None in
      resized-there z x n k at b (cut z.shape k b.named.here es) new (ap (λ c. cond c (Some (cut z.shape k b.named.here es)) longer) (within k b.named.here.size fits)) is
    where
      within : (j m : ℕ) → j ≤ m → nat_le j m ≡ true
      within j m h = grind (arith, nat_tests)
