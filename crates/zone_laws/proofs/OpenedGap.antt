-- The block of a number made longer where it is, and in its gap once that was opened for it.
use Rattle.std.proofs.Common.{◌≡◌, ℕ, ◌+◌, ◌≤◌, true, false, cond, [], ◌∷◌, ◌++◌, refl, ap, sym, ◌∙◌, append_assoc, arith, Some, None, Option}
use Rattle.std.specs.Prelude.{nat_le, is_some, option_map}
use Rattle.mac_base.specs.declared.block.Entry.{Entry}
use Rattle.mac_base.specs.declared.block.Kind.{Kind}
use Rattle.mac_base.specs.HeadKind.{Shape}
use Rattle.mac_base.specs.ZoneMap.{ZoneMap, block, free_block, is_named, free_bytes, sizes}
use Rattle.mac_base.specs.HandleTable.{HandleTable}
use Rattle.mac_base.specs.Suits.{starts_free}
use Rattle.mac_base.specs.Gap.{Gap, filled, room}
use Rattle.mac_base.specs.Arrangement.{used_blocks, up, open_at}
use Rattle.mac_base.specs.Serve.{sized, free_in_front, resized_in_place}
use Rattle.zone_laws.proofs.GapAppend.{sizes-append}
use Rattle.zone_laws.proofs.GapParts.{IsGap, starts_fixed}
use Rattle.zone_laws.proofs.Arranging.{all_used, used_blocks-all_used, starts_free-all_used, sizes-used, sizes-free_block}
use Rattle.zone_laws.proofs.GapApart.{starts_free-fixed}
use Rattle.zone_laws.proofs.NamedPlace.{nil-append, At, InGap, BeforeGap, open_at-parts}
use Rattle.zone_laws.proofs.Fitting.{is_some-map}

-- one function after another
option_map-twice : {A B C : Type 0} (g : B → C) (f : A → B) (o : Option A) → option_map g (option_map f o) ≡ option_map (λ a. g (f a)) o
option_map-twice g f None = refl
option_map-twice g f (Some a) = refl

option_map-same : (o : Option ZoneMap) → o ≡ option_map (λ m. [] ++ m) o
option_map-same None = refl
option_map-same (Some m) = refl

-- a block of x, with none before it, is resized where it is
pub resized_in_place-around : (s : Shape) (k x : ℕ) (a : ZoneMap) (e : Entry) (b : ZoneMap) → sizes (is_named x) a ≡ [] → is_named x e.kind ≡ true → resized_in_place s k x (a ++ e ∷ b) ≡ option_map (λ m. a ++ m) (sized s k e b)
resized_in_place-around s k x [] e b none named = ap (λ c. cond c (sized s k e b) (option_map (λ m. e ∷ m) (resized_in_place s k x b))) named ∙ option_map-same (sized s k e b)
resized_in_place-around s k x (d ∷ a) e b none named =
    elim (is_named x d.kind) as (λ c. cond c (d.size ∷ []) [] ++ sizes (is_named x) a ≡ [] → cond c (sized s k d (a ++ e ∷ b)) (option_map (λ m. d ∷ m) (resized_in_place s k x (a ++ e ∷ b))) ≡ option_map (λ m. d ∷ (a ++ m)) (sized s k e b)) [
      | true ↦ λ none. absurd (cc none)
      | false ↦ λ none. ap (option_map (λ m. d ∷ m)) (resized_in_place-around s k x a e b none named) ∙ option_map-twice (λ m. d ∷ m) (λ m. a ++ m) (sized s k e b)
    ] none

-- so is the one block of x in a map
pub resized_in_place-At : (s : Shape) (k x : ℕ) (m : ZoneMap) (n : ℕ) (front : ZoneMap) (kind : Kind) (back : ZoneMap) → At x m n front kind back
    → resized_in_place s k x m ≡ option_map (λ m. front ++ m) (sized s k (block kind n) back)
resized_in_place-At s k x m n front kind back at = ap (resized_in_place s k x) at.was ∙ resized_in_place-around s k x front (block kind n) back at.none_front at.named

-- a block can be made k bytes long where it and the free bytes right after it have them
pub is_some-sized : (s : Shape) (k : ℕ) (e : Entry) (b : ZoneMap) → is_some (sized s k e b) ≡ nat_le k (e.size + free_in_front b)
is_some-sized s k e b = grind arith

-- the one block of x can be made k bytes long in its place where it and the free bytes right after it have them
pub is_some-resized_in_place : (s : Shape) (k x : ℕ) (m : ZoneMap) (n : ℕ) (front : ZoneMap) (kind : Kind) (back : ZoneMap) → At x m n front kind back → is_some (resized_in_place s k x m) ≡ nat_le k (n + free_in_front back)
is_some-resized_in_place s k x m n front kind back at =
    ap is_some (resized_in_place-At s k x m n front kind back at) ∙ is_some-map (λ m. front ++ m) (sized s k (block kind n) back) ∙ is_some-sized s k (block kind n) back

-- no free bytes in front where no free block is there
free_in_front-used : (b : ZoneMap) → starts_free b ≡ false → free_in_front b ≡ 0
free_in_front-used [] h = refl
free_in_front-used (e ∷ es) h = ap (λ c. cond c e.size 0) h

-- one free block in front
free_in_front-free_block : (n : ℕ) (c : ZoneMap) → starts_free c ≡ false → free_in_front (free_block n ++ c) ≡ n
free_in_front-free_block n c h = grind arith

starts_free-append : (t : HandleTable) (a b : ZoneMap) → all_used a ≡ true → starts_fixed t b ≡ true → starts_free (a ++ b) ≡ false
starts_free-append t [] b used fixed = starts_free-fixed t b fixed
starts_free-append t (e ∷ es) b used fixed = starts_free-all_used (e ∷ es) used

-- the free bytes in front of a gap are among its free bytes
pub free_in_front-le : (t : HandleTable) (a b : ZoneMap) → starts_fixed t b ≡ true → free_in_front (a ++ b) ≤ free_bytes a
free_in_front-le t [] b fixed = let e = free_in_front-used b (starts_free-fixed t b fixed) in omega arith
free_in_front-le t (e ∷ es) b fixed = omega arith

-- the one block of x in its gap, opened at it
pub opened_own-At : (x : ℕ) (g : Gap) (n : ℕ) (p : InGap x g n) → At x (filled g (open_at x g.blocks)) n (g.before ++ used_blocks p.front) p.kind (free_block (room g) ++ used_blocks p.back ++ g.after)
opened_own-At x g n p =
    let at = p.at in
    let front : ZoneMap = used_blocks p.front in
    let back : ZoneMap = used_blocks p.back in
    record {
      was = ap (λ b. g.before ++ b ++ g.after) (open_at-parts x g.blocks n p.front p.kind p.back at) ∙ ap (λ b. b ++ g.after) (sym (append_assoc g.before front (block p.kind n ∷ (free_block (room g) ++ back))))
          ∙ append_assoc (g.before ++ front) (block p.kind n ∷ (free_block (room g) ++ back)) g.after;
      named = at.named;
      none_front = sizes-append (is_named x) g.before front ∙ ap (λ ns. ns ++ sizes (is_named x) front) p.none_before ∙ sizes-used (is_named x) p.front refl ∙ at.none_front;
      none_back = sizes-append (is_named x) (free_block (room g) ++ back) g.after ∙ ap (λ ns. ns ++ sizes (is_named x) g.after) (sizes-append (is_named x) (free_block (room g)) back ∙ ap (λ ns. ns ++ sizes (is_named x) back) (sizes-free_block (is_named x) (room g) refl)
          ∙ sizes-used (is_named x) p.back refl ∙ at.none_back) ∙ p.none_after;
    }

-- the one block of x right before a gap that is arranged up
pub opened_after-At : (x : ℕ) (m : ZoneMap) (g : Gap) (n : ℕ) (p : BeforeGap x m g n) → At x (filled g (up g.blocks)) n p.front p.kind (free_block (room g) ++ used_blocks g.blocks ++ g.after)
opened_after-At x m g n p =
    let at = p.at in
    let used : ZoneMap = used_blocks g.blocks in
    let none = nil-append (sizes (is_named x) g.blocks) (sizes (is_named x) g.after) (sym (sizes-append (is_named x) g.blocks g.after) ∙ at.none_back) in
    record {
      was = append_assoc g.before (free_block (room g) ++ used) g.after ∙ ap (λ b. b ++ (free_block (room g) ++ used ++ g.after)) p.before ∙ append_assoc p.front (block p.kind n ∷ []) (free_block (room g) ++ used ++ g.after);
      named = at.named;
      none_front = at.none_front;
      none_back = sizes-append (is_named x) (free_block (room g) ++ used) g.after ∙ ap (λ ns. ns ++ sizes (is_named x) g.after) (sizes-append (is_named x) (free_block (room g)) used ∙ ap (λ ns. ns ++ sizes (is_named x) used) (sizes-free_block (is_named x) (room g) refl)
          ∙ sizes-used (is_named x) g.blocks refl ∙ none.0) ∙ none.1;
    }

-- the one block of x in the map, by its gap
pub own-At : (t : HandleTable) (m : ZoneMap) (x : ℕ) (g : Gap) (n : ℕ) → IsGap t m g → (p : InGap x g n) → At x m n (g.before ++ p.front) p.kind (p.back ++ g.after)
own-At t m x g n i p =
    let at = p.at in
    record {
      was = i.parts ∙ ap (λ b. g.before ++ b ++ g.after) at.was ∙ ap (λ b. b ++ g.after) (sym (append_assoc g.before p.front (block p.kind n ∷ p.back))) ∙ append_assoc (g.before ++ p.front) (block p.kind n ∷ p.back) g.after;
      named = at.named;
      none_front = sizes-append (is_named x) g.before p.front ∙ ap (λ ns. ns ++ sizes (is_named x) p.front) p.none_before ∙ at.none_front;
      none_back = sizes-append (is_named x) p.back g.after ∙ ap (λ ns. ns ++ sizes (is_named x) g.after) at.none_back ∙ p.none_after;
    }

-- an opened gap begins with all its free bytes
pub opened_front : (t : HandleTable) (g : Gap) (c : ZoneMap) → starts_fixed t g.after ≡ true → free_in_front (free_block (room g) ++ used_blocks c ++ g.after) ≡ room g
opened_front t g c above = ap free_in_front (append_assoc (free_block (room g)) (used_blocks c) g.after) ∙ free_in_front-free_block (room g) (used_blocks c ++ g.after) (starts_free-append t (used_blocks c) g.after (used_blocks-all_used c) above)
