-- The map in which a block has another size in place: its parts, and what stays in it.
use Rattle.std.proofs.Common.{◌≡◌, ℕ, ◌+◌, ◌≤◌, true, false, not, ◌&&◌, nat_le, cond, [], ◌∷◌, ◌++◌, Some, None, Option, MatchOption, option_map, refl, ap, sym, ◌∙◌, arith, IsTrue, subst, ◌⊎◌, inl, inr}
use Rattle.std.specs.Prelude.{⊤}
use Rattle.std.specs.List.{list_all}
use Rattle.std.proofs.lemmas.Bool.Decides.{nat_tests}
use Rattle.std.proofs.lemmas.Bool.{leb-true, not-true, and_parts, and_from}
use Rattle.mac_base.specs.declared.block.Entry.{Entry}
use Rattle.mac_base.specs.HeadKind.{Shape}
use Rattle.mac_base.specs.ZoneMap.{ZoneMap, is_free, is_named, total_size, joined}
use Rattle.mac_base.specs.Suits.{free_apart, starts_free}
use Rattle.mac_base.specs.Serve.{taken, cut, sized, resized_in_place, free_in_front, past_free}

-- A map in which the block of x is k bytes long in place. Before any joining, it and the free blocks right after it,
-- which may be none, are exchanged for what is taken of them.
pub record ResizedAt (s : Shape) (k x : ℕ) (old new : ZoneMap) : Type 0 where
  pub before : ZoneMap
  pub changed : Entry
  pub room : ZoneMap
  pub after : ZoneMap
  pub was : old ≡ before ++ ((changed ∷ room) ++ after)
  pub fits : k ≤ changed.size + total_size room
  pub named : is_named x changed.kind ≡ true
  pub all_free : list_all (λ (e : Entry). is_free e.kind) room ≡ true
  -- the new map, or the same joined after the blocks before
  pub tail : ZoneMap
  pub is : new ≡ before ++ tail
  pub joins : (tail ≡ joined (taken s k changed.kind (changed.size + total_size room) ++ after)) ⊎ ((tail ≡ taken s k changed.kind (changed.size + total_size room) ++ after) × (starts_free after ≡ false))

resized_further : (s : Shape) (k x : ℕ) (e : Entry) (es : ZoneMap) (o : Option ZoneMap) → MatchOption o ⊤ (λ new. ResizedAt s k x es new) → MatchOption (option_map (λ m. e ∷ m) o) ⊤ (λ new. ResizedAt s k x (e ∷ es) new)
resized_further s k x e es None h = tt
resized_further s k x e es (Some new) h = record {
  before = e ∷ h.before;
  changed = h.changed;
  room = h.room;
  after = h.after;
  was = ap (λ m. e ∷ m) h.was;
  fits = h.fits;
  named = h.named;
  all_free = h.all_free;
  tail = h.tail;
  is = ap (λ m. e ∷ m) h.is;
  joins = h.joins;
}

-- the first block, cut
resized_cut : (s : Shape) (k x : ℕ) (e : Entry) (es : ZoneMap) → is_named x e.kind ≡ true → nat_le k e.size ≡ true → ResizedAt s k x (e ∷ es) (cut s k e es)
resized_cut s k x e es named le = record {
  before = [];
  changed = e;
  room = [];
  after = es;
  was = refl;
  fits = (let fits = leb-true k e.size le in omega arith);
  named = named;
  all_free = refl;
  tail = cut s k e es;
  is = refl;
  joins = inl (ap (λ n. joined (taken s k e.kind n ++ es)) same);
}
  where
    same : e.size ≡ e.size + 0
    same = omega arith

-- the first block with the free one after it
resized_grown : (s : Shape) (k x : ℕ) (e f : Entry) (es : ZoneMap) → is_named x e.kind ≡ true → is_free f.kind ≡ true → nat_le k (e.size + f.size) ≡ true → starts_free es ≡ false
    → ResizedAt s k x (e ∷ f ∷ es) (taken s k e.kind (e.size + f.size) ++ es)
resized_grown s k x e f es named free le apart = record {
  before = [];
  changed = e;
  room = f ∷ [];
  after = es;
  was = refl;
  fits = (let fits = leb-true k (e.size + f.size) le in omega arith);
  named = named;
  all_free = and_from (is_free f.kind) true free refl;
  tail = taken s k e.kind (e.size + f.size) ++ es;
  is = refl;
  joins = inr (ap (λ n. taken s k e.kind n ++ es) same, apart);
}
  where
    same : e.size + f.size ≡ e.size + (f.size + 0)
    same = omega arith

sized_parts : (s : Shape) (k x : ℕ) (e : Entry) (es : ZoneMap) → IsTrue (free_apart es) → is_named x e.kind ≡ true → MatchOption (sized s k e es) ⊤ (λ new. ResizedAt s k x (e ∷ es) new)
sized_parts s k x e es apart named =
    elim (nat_le k e.size) as (λ b. nat_le k e.size ≡ b → MatchOption (cond b (Some (cut s k e es)) (cond (nat_le k (e.size + free_in_front es)) (Some (taken s k e.kind (e.size + free_in_front es) ++ past_free es)) None)) ⊤ (λ new. ResizedAt s k x (e ∷ es) new)) [
      | true ↦ λ le. resized_cut s k x e es named le
      | false ↦ λ more. by_room es apart more
    ] refl
  where
    too_large : nat_le k e.size ≡ false → (n : ℕ) → n ≡ 0 → nat_le k (e.size + n) ≡ false
    too_large h n is = grind (arith, nat_tests)

    by_room : (es : ZoneMap) → IsTrue (free_apart es) → nat_le k e.size ≡ false
        → MatchOption (cond (nat_le k (e.size + free_in_front es)) (Some (taken s k e.kind (e.size + free_in_front es) ++ past_free es)) None) ⊤ (λ new. ResizedAt s k x (e ∷ es) new)
    by_room [] apart more = subst (λ b. MatchOption (cond b (Some (taken s k e.kind (e.size + 0) ++ [])) None) ⊤ (λ new. ResizedAt s k x (e ∷ []) new)) (sym (too_large more 0 refl)) tt
    by_room (f ∷ fs) apart more =
        elim (is_free f.kind) as (λ b. is_free f.kind ≡ b → MatchOption (cond (nat_le k (e.size + cond b f.size 0)) (Some (taken s k e.kind (e.size + cond b f.size 0) ++ cond b fs (f ∷ fs))) None) ⊤ (λ new. ResizedAt s k x (e ∷ f ∷ fs) new)) [
          | true ↦ λ free. elim (nat_le k (e.size + f.size)) as (λ b. nat_le k (e.size + f.size) ≡ b → MatchOption (cond b (Some (taken s k e.kind (e.size + f.size) ++ fs)) None) ⊤ (λ new. ResizedAt s k x (e ∷ f ∷ fs) new)) [
            | true ↦ λ le. resized_grown s k x e f fs named free le (ends free (and_parts (not (is_free f.kind && starts_free fs)) (free_apart fs) apart).0)
            | false ↦ λ _. tt
          ] refl
          | false ↦ λ used. subst (λ b. MatchOption (cond b (Some (taken s k e.kind (e.size + 0) ++ (f ∷ fs))) None) ⊤ (λ new. ResizedAt s k x (e ∷ f ∷ fs) new)) (sym (too_large more 0 refl)) tt
        ] refl
      where
        ends : is_free f.kind ≡ true → not (is_free f.kind && starts_free fs) ≡ true → starts_free fs ≡ false
        ends free h = not-true (starts_free fs) (sym (ap (λ b. not (b && starts_free fs)) free) ∙ h)

resized_parts : (s : Shape) (k x : ℕ) (m : ZoneMap) → IsTrue (free_apart m) → MatchOption (resized_in_place s k x m) ⊤ (λ new. ResizedAt s k x m new)
resized_parts s k x [] apart = tt
resized_parts s k x (e ∷ es) apart =
    let rest = (and_parts (not (is_free e.kind && starts_free es)) (free_apart es) apart).1 in
    elim (is_named x e.kind) as (λ b. is_named x e.kind ≡ b → MatchOption (cond b (sized s k e es) (option_map (λ m. e ∷ m) (resized_in_place s k x es))) ⊤ (λ new. ResizedAt s k x (e ∷ es) new)) [
      | true ↦ λ named. sized_parts s k x e es rest named
      | false ↦ λ _. resized_further s k x e es (resized_in_place s k x es) (resized_parts s k x es rest)
    ] refl

-- what resizing in place gives has these parts
pub resized_in_place-at : (s : Shape) (k x : ℕ) (m new : ZoneMap) → IsTrue (free_apart m) → resized_in_place s k x m ≡ Some new → ResizedAt s k x m new
resized_in_place-at s k x m new apart is = subst (λ o. MatchOption o ⊤ (λ n. ResizedAt s k x m n)) is (resized_parts s k x m apart)
