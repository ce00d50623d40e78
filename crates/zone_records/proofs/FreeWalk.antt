-- A walk over free slots, each of which names the next: which of them it comes to, and that it comes to none twice.
use Rattle.std.proofs.Common.{◌≡◌, ℕ, ◌+◌, ◌<◌, ◌≤◌, true, false, eqb, List, [], ◌∷◌, ◌++◌, length, refl, ap, sym, ◌∙◌, subst, arith, Contains, inl, inr, append_assoc, append-nil, length-append}
use Rattle.std.specs.Prelude.{nat_eq}
use Rattle.std.specs.List.{IsDistinct, list_any}
use Rattle.std.specs.Cmp.{IsEquivalence}
use Rattle.std.proofs.lemmas.Map.Made.{length-le_from_is_member}
use Rattle.std.proofs.lemmas.Map.Views.{list_any-from_Contains, Contains-from_any}
use Rattle.std.proofs.lemmas.Bool.{eqb-true}
use Rattle.zone_laws.proofs.SlotPlaces.{Contains-cons_cases, Contains-none}
use Rattle.zone_laws.proofs.SoundReleased.{IsDistinct-more}
use Rattle.zone_laws.proofs.Tables.{eqb_same, eqb_swap}
use Rattle.block_bytes.specs.Layout.{Layout}
use Rattle.zone_records.specs.declared.slot.Slot.{Slot}
use Rattle.zone_records.specs.declared.slot.Slot.TheVariants as slot
use Rattle.zone_records.specs.Adopting.{Follow, AreChained}
use Rattle.zone_records.specs.Linking.{free_of}
use Rattle.zone_records.specs.Reading.{AreSound, records_in}
use Rattle.zone_records.specs.Slots.{slots_of_zone}
use Rattle.zone_records.proofs.ZoneSlots.{slot-once, slot-address, free-named, free-names, free-once}

-- equality of numbers is one
equal_numbers : IsEquivalence eqb
equal_numbers = record { refl = eqb_same; symm = eqb_swap; congr = λ x y z same. ap (λ n. eqb n z) (eqb-true x y same) }

-- numbers that differ, each of them among others, are at most as many
pub length-among : (xs ys : List ℕ) → IsDistinct nat_eq xs → ((x : ℕ) → Contains xs x → Contains ys x) → length xs ≤ length ys
length-among xs ys once among = length-le_from_is_member equal_numbers xs ys once (λ q c. list_any-from_Contains equal_numbers q ys (among q (Contains-from_any eqb-true q xs c)))

-- so where they are as many, they are all
pub all-among : (xs ys : List ℕ) → IsDistinct nat_eq xs → ((x : ℕ) → Contains xs x → Contains ys x) → length ys ≤ length xs → (y : ℕ) → Contains ys y → Contains xs y
all-among xs ys once among many y c = elim (list_any (eqb y) xs) as (λ b. list_any (eqb y) xs ≡ b → Contains xs y) [
  | true ↦ λ is. Contains-from_any eqb-true y xs is
  | false ↦ λ none.
      let new : Contains xs y → ⊥ = (λ d. let yes = list_any-from_Contains equal_numbers y xs d in cc (yes, none)) in
      let more = length-among (y ∷ xs) ys (IsDistinct-more y xs new once) (λ x d. elim (Contains-cons_cases y xs x d) [
        | inl is ↦ subst (Contains ys) is c
        | inr later ↦ among x later
      ]) in absurd (omega arith)
] refl

module _ (l : Layout) (sound : AreSound l) where
  abbrev ps : List (ℕ × Slot)
  ps = slots_of_zone (records_in l)

  -- a free slot names one other
  next-once : (h m n : ℕ) → Contains ps (h, slot.Free m) → Contains ps (h, slot.Free n) → m ≡ n
  next-once h m n c d = let same = slot-once l sound h (slot.Free m) (slot.Free n) c d in cc same

  -- so one list follows from a slot
  one_list : (x : ℕ) (xs ys : List ℕ) → Follow ps x xs → Follow ps x ys → xs ≡ ys
  unfolding Follow
  one_list x [] [] f g = refl
  one_list x [] (y ∷ ys) f g = let some = (slot-address l sound y (slot.Free g.1.0) g.1.1.0).0 in let here = g.0 in absurd (omega arith)
  one_list x (h ∷ hs) [] f g = let some = (slot-address l sound h (slot.Free f.1.0) f.1.1.0).0 in let here = f.0 in absurd (omega arith)
  one_list x (h ∷ hs) (y ∷ ys) f g =
      let same : h ≡ y = sym f.0 ∙ g.0 in
      let next : f.1.0 ≡ g.1.0 = next-once y f.1.0 g.1.0 (subst (λ n. Contains ps (n, slot.Free f.1.0)) same f.1.1.0) g.1.1.0 in
      let rest = one_list g.1.0 hs ys (subst (λ n. Follow ps n hs) next f.1.1.1) g.1.1.1 in
      λ i. same i ∷ rest i

  -- what follows one of them
  record Rest (h : ℕ) (xs : List ℕ) : Type 0 where
    after : List ℕ
    follow : Follow ps h (h ∷ after)
    fewer : length after < length xs

  rest-of : (x h : ℕ) (xs : List ℕ) → Follow ps x xs → Contains xs h → Rest h xs
  unfolding Follow
  rest-of x h [] f c = absurd (Contains-none h c)
  rest-of x h (y ∷ ys) f c = elim (Contains-cons_cases y ys h c) [
    | inl is ↦ record { after = ys; follow = (refl, (f.1.0, (subst (λ n. Contains ps (n, slot.Free f.1.0)) is f.1.1.0, f.1.1.1))); fewer = omega arith }
    | inr later ↦ (let r = rest-of f.1.0 h ys f.1.1.1 later in let few = r.fewer in record { after = r.after; follow = r.follow; fewer = omega arith })
  ]

  -- none follows twice
  pub follow-once : (x : ℕ) (xs : List ℕ) → Follow ps x xs → IsDistinct nat_eq xs
  unfolding Follow IsDistinct
  follow-once x [] f = tt
  follow-once x (h ∷ hs) f = IsDistinct-more h hs
      (λ c. let r = rest-of f.1.0 h hs f.1.1.1 c in let few = r.fewer in
      let same : h ∷ r.after ≡ h ∷ hs = one_list h (h ∷ r.after) (h ∷ hs) r.follow (refl, f.1) in
      let long = ap (λ (xs : List ℕ). length xs) same in omega arith)
      (follow-once f.1.0 hs f.1.1.1)

  -- each is free
  follow-free : (x : ℕ) (xs : List ℕ) → Follow ps x xs → (h : ℕ) → Contains xs h → Contains (free_of ps) h
  unfolding Follow
  follow-free x [] f h c = absurd (Contains-none h c)
  follow-free x (y ∷ ys) f h c = elim (Contains-cons_cases y ys h c) [
    | inl is ↦ subst (Contains (free_of ps)) is (free-named ps y f.1.0 f.1.1.0)
    | inr later ↦ follow-free f.1.0 ys f.1.1.1 h later
  ]

  -- free slots that follow one another are as many as there are
  pub chained-long : (a : AreChained (records_in l)) → length a.free ≡ length (free_of ps)
  chained-long a =
      let few = length-among a.free (free_of ps) a.once (follow-free l.front a.free a.follow) in
      let many = length-among (free_of ps) a.free (free-once l sound) (λ h c. let n = free-names ps h c in a.all h n.0 n.1) in
      omega arith

  -- and where they are as many, they are all
  pub chained-made : (xs : List ℕ) → Follow ps l.front xs → length xs ≡ length (free_of ps) → AreChained (records_in l)
  chained-made xs f long = let once = follow-once l.front xs f in record {
    free = xs;
    follow = f;
    all = λ h next c. all-among xs (free_of ps) once (follow-free l.front xs f) (omega arith) h (free-named ps h next c);
    once = once;
  }

  -- the walk has come to an address, in so many steps
  pub record Walked (at n : ℕ) : Type 0 where
    pub passed : List ℕ
    pub long : length passed ≡ n
    pub onward : (ys : List ℕ) → Follow ps at ys → Follow ps l.front (passed ++ ys)
    pub back : (xs : List ℕ) → Follow ps l.front xs → (ys : List ℕ) × ((xs ≡ passed ++ ys) × Follow ps at ys)

  pub walked-none : Walked l.front 0
  walked-none = record { passed = []; long = refl; onward = λ ys f. f; back = λ xs f. (xs, (refl, f)) }

  -- what follows from a free slot
  follow-next : (at next : ℕ) → Contains ps (at, slot.Free next) → (ys : List ℕ) → Follow ps at ys → (zs : List ℕ) × ((ys ≡ at ∷ zs) × Follow ps next zs)
  unfolding Follow
  follow-next at next c [] f = let some = (slot-address l sound at (slot.Free next) c).0 in absurd (omega arith)
  follow-next at next c (y ∷ ys) f =
      let same : y ≡ at = sym f.0 in
      let is : f.1.0 ≡ next = next-once at f.1.0 next (subst (λ n. Contains ps (n, slot.Free f.1.0)) same f.1.1.0) c in
      (ys, (ap (λ (n : ℕ). n ∷ ys) same, subst (λ n. Follow ps n ys) is f.1.1.1))

  follow-more : (at next : ℕ) → Contains ps (at, slot.Free next) → (ys : List ℕ) → Follow ps next ys → Follow ps at (at ∷ ys)
  unfolding Follow
  follow-more at next c ys f = (refl, (next, (c, f)))

  pub walked-more : (at n next : ℕ) → Walked at n → Contains ps (at, slot.Free next) → Walked next (n + 1)
  walked-more at n next w c = let long = w.long in let sum = length-append w.passed (at ∷ []) in record {
    passed = w.passed ++ at ∷ [];
    long = omega arith;
    onward = λ ys f. subst (Follow ps l.front) (sym (append_assoc w.passed (at ∷ []) ys)) (w.onward (at ∷ ys) (follow-more at next c ys f));
    back = λ xs f. let b = w.back xs f in let r = follow-next at next c b.0 b.1.1 in
        (r.0, (b.1.0 ∙ ap (λ (ys : List ℕ). w.passed ++ ys) r.1.0 ∙ sym (append_assoc w.passed (at ∷ []) r.0), r.1.1));
  }

  -- a list that isn't empty begins with a free slot, and an empty one with 0
  follow-some : (at : ℕ) (ys : List ℕ) → Follow ps at ys → 0 < length ys → (next : ℕ) × Contains ps (at, slot.Free next)
  unfolding Follow
  follow-some at [] f some = absurd (omega arith)
  follow-some at (y ∷ ys) f some = (f.1.0, subst (λ n. Contains ps (n, slot.Free f.1.0)) (sym f.0) f.1.1.0)

  follow-none : (at : ℕ) (ys : List ℕ) → Follow ps at ys → length ys ≡ 0 → at ≡ 0
  unfolding Follow
  follow-none at [] f none = f
  follow-none at (y ∷ ys) f none = absurd (omega arith)

  follow-end : (at : ℕ) → at ≡ 0 → Follow ps at []
  unfolding Follow
  follow-end at is = is

  -- where free slots follow one another, the walk comes to one as long as it has made fewer steps than there are
  pub walked-some : (at n : ℕ) → Walked at n → n < length (free_of ps) → AreChained (records_in l) → (next : ℕ) × Contains ps (at, slot.Free next)
  walked-some at n w few a =
      let b = w.back a.free a.follow in let long = chained-long a in let passed = w.long in
      let sum = ap (λ (xs : List ℕ). length xs) b.1.0 ∙ length-append w.passed b.0 in follow-some at b.0 b.1.1 (omega arith)

  -- and then to 0
  pub walked-end : (at n : ℕ) → Walked at n → n ≡ length (free_of ps) → AreChained (records_in l) → at ≡ 0
  walked-end at n w all a =
      let b = w.back a.free a.follow in let long = chained-long a in let passed = w.long in
      let sum = ap (λ (xs : List ℕ). length xs) b.1.0 ∙ length-append w.passed b.0 in follow-none at b.0 b.1.1 (omega arith)

  -- so they do where it has come to 0
  pub walked-all : (at n : ℕ) → Walked at n → n ≡ length (free_of ps) → at ≡ 0 → AreChained (records_in l)
  walked-all at n w all is = let long = w.long in let none = append-nil w.passed in
      chained-made (w.passed ++ []) (w.onward [] (follow-end at is)) (ap (λ (xs : List ℕ). length xs) none ∙ long ∙ all)
