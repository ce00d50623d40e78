-- A sound heap stays sound where a new pointer takes the lowest free block, and its number is where the contents begin.
use Rattle.std.proofs.Common.{◌≡◌, ℕ, ◌+◌, ◌-◌, ◌≤◌, ◌↔◌, true, false, cond, [], ◌∷◌, ◌++◌, Some, None, Option, MatchOption, option_map, refl, ap, sym, ◌∙◌, IsTrue, IsFalse, Contains, subst}
use Rattle.std.specs.Prelude.{⊤}
use Rattle.std.proofs.lemmas.List.{length-replicate}
use Rattle.mac_base.specs.declared.block.Entry.{Entry}
use Rattle.mac_base.specs.declared.block.Kind.{Kind}
use Rattle.mac_base.specs.declared.block.Kind.TheVariants.{Free, Ptr}
use Rattle.mac_base.specs.HeadKind.{Shape, need, head_size, zone_header}
use Rattle.mac_base.specs.ZoneMap.{ZoneMap, block, has_free, is_master, address_after}
use Rattle.mac_base.specs.HandleTable.{Pointer, live_at, live_full, live_handle, is_handle, is_pointer, with_live, zeros}
use Rattle.mac_base.specs.Suits.{Suits}
use Rattle.mac_base.specs.declared.request.Request.TheVariants.{NewPointer}
use Rattle.mac_base.specs.Serve.{taken, take_lowest, lowest_before, lowest_contents}
use Rattle.mac_base.specs.Heap.{Heap, granted}
use Rattle.mac_base.specs.Sound.{Sound, is_growth}
use Rattle.zone_laws.proofs.Placing.{TakenAt, has_free-is}
use Rattle.zone_laws.proofs.Maps.{total_size-exchanged}
use Rattle.zone_laws.proofs.Tables.{live_at-with_live_same, with_live_agrees, in_order-with_live, not_live, by_number}
use Rattle.zone_laws.proofs.Taken.{taken_exchange}
use Rattle.zone_laws.proofs.SuitsTaken.{Suits-new_pointer, addresses-untaken, slots-same}
use Rattle.zone_laws.proofs.SlotOwners.{free_contents_no_handle, free_contents_no_pointer}

-- the map in three parts, the first of them what is before the block that is taken
pub record TakenLowest (s : Shape) (k : ℕ) (kind : Kind) (old new : ZoneMap) : Type 0 where
  pub at : TakenAt s k kind old new
  pub before : at.before ≡ lowest_before k old

taken_further : (s : Shape) (k : ℕ) (kind : Kind) (e : Entry) (es : ZoneMap) (o : Option ZoneMap) → has_free k e ≡ false → MatchOption o ⊤ (λ new. TakenLowest s k kind es new)
    → MatchOption (option_map (λ m. e ∷ m) o) ⊤ (λ new. TakenLowest s k kind (e ∷ es) new)
taken_further s k kind e es None missed h = tt
taken_further s k kind e es (Some new) missed h = record {
  at = record { before = e ∷ h.at.before; size = h.at.size; after = h.at.after; was = ap (λ m. e ∷ m) h.at.was; is = ap (λ m. e ∷ m) h.at.is; fits = h.at.fits };
  before = ap (λ m. e ∷ m) h.before ∙ sym (ap (λ b. cond b [] (e ∷ lowest_before k es)) missed);
}

lowest_parts : (s : Shape) (k : ℕ) (kind : Kind) (m : ZoneMap) → MatchOption (take_lowest s k kind m) ⊤ (λ new. TakenLowest s k kind m new)
lowest_parts s k kind [] = tt
lowest_parts s k kind (e ∷ es) =
    elim (has_free k e) as (λ b. has_free k e ≡ b → MatchOption (cond b (Some (taken s k kind e.size ++ es)) (option_map (λ m. e ∷ m) (take_lowest s k kind es))) ⊤ (λ new. TakenLowest s k kind (e ∷ es) new)) [
      | true ↦ λ found. let h = has_free-is k e found in record {
        at = record { before = []; size = e.size; after = es; was = ap (λ kind. record { size = e.size; kind = kind } ∷ es) h.0; is = refl; fits = h.1 };
        before = sym (ap (λ b. cond b [] (e ∷ lowest_before k es)) found);
      }
      | false ↦ λ missed. taken_further s k kind e es (take_lowest s k kind es) missed (lowest_parts s k kind es)
    ] refl

-- what taking the lowest free block gives has these parts
pub take_lowest-lowest : (s : Shape) (k : ℕ) (kind : Kind) (m new : ZoneMap) → take_lowest s k kind m ≡ Some new → TakenLowest s k kind m new
take_lowest-lowest s k kind m new is = subst (λ o. MatchOption o ⊤ (λ x. TakenLowest s k kind m x)) is (lowest_parts s k kind m)

module _ (s : Shape) (heap : Heap) (n p : ℕ) (m : ZoneMap) (sound : Sound s heap) (is : take_lowest s (need s.heads n) (Ptr p) heap.map ≡ Some m) (here : p ≡ lowest_contents s (need s.heads n) heap.map) where
  lowest : TakenLowest s (need s.heads n) (Ptr p) heap.map m
  lowest = take_lowest-lowest s (need s.heads n) (Ptr p) heap.map m is

  at_block : p ≡ address_after s (lowest.at).before + head_size s.heads
  at_block = here ∙ ap (λ before. address_after s before + head_size s.heads) (sym (lowest.before))

  suits_there : Suits s heap.table ((lowest.at).before ++ block Free (lowest.at).size ∷ (lowest.at).after)
  suits_there = subst (Suits s heap.table) (lowest.at).was sound.suits

  -- the number is neither a handle nor a pointer
  pub new_pointer-no_handle : is_handle heap.table p ≡ false
  new_pointer-no_handle = free_contents_no_handle s heap.table (lowest.at).before (lowest.at).after (lowest.at).size p suits_there at_block

  -- nor a pointer yet
  pub new_pointer-no_pointer : is_pointer heap.table p ≡ false
  new_pointer-no_pointer = free_contents_no_pointer s heap.table (lowest.at).before (lowest.at).after (lowest.at).size p suits_there at_block

  -- it is not live
  pub new_pointer-not_live : live_at heap.table p ≡ None
  new_pointer-not_live = not_live heap.table p new_pointer-no_handle new_pointer-no_pointer

  -- a new pointer to n bytes takes the lowest free block that has room for them
  pub sound-placed_pointer : Sound s (granted (NewPointer n) p m heap)
  sound-placed_pointer =
      let u = with_live p (Pointer (zeros n)) heap.table in
      let agree = with_live_agrees p (Pointer (zeros n)) heap.table in
      let has = live_at-with_live_same p (Pointer (zeros n)) heap.table in
      let same_size = total_size-exchanged heap.map m (taken_exchange s (need s.heads n) (Ptr p) heap.map m lowest.at) in
      let same_slots = slots-same s heap.map m (addresses-untaken s (need s.heads n) (Ptr p) heap.map m lowest.at is_master refl refl) in
      let handles : (y : ℕ) → is_handle u y ≡ is_handle heap.table y = by_number (λ y. is_handle u y ≡ is_handle heap.table y) p (ap live_handle has ∙ sym new_pointer-no_handle) (λ y apart. ap live_handle (agree.others y apart)) in
      record {
        suits = Suits-new_pointer s n p heap.map m heap.table u lowest.at sound.suits agree (ap live_full new_pointer-not_live) new_pointer-no_pointer (zeros n) has (length-replicate n 0) at_block
            (in_order-with_live p (Pointer (zeros n)) heap.table sound.suits.coherent.in_order);
        within = subst (λ n. zone_header + n ≤ s.limit) (sym same_size) sound.within;
        growth = subst (λ n. IsTrue (is_growth s (s.limit - (zone_header + n)))) (sym same_size) sound.growth;
        slots = record {
          free = subst (λ all. (y : ℕ) → Contains heap.free_slots y ↔ (Contains all y × IsFalse (is_handle u y))) (sym same_slots)
              (λ y. ((λ c. let fact = (sound.slots.free y).0 c in (fact.0, handles y ∙ fact.1)), (λ c. (sound.slots.free y).1 (c.0, sym (handles y) ∙ c.1))));
          once = sound.slots.once;
        };
      }
