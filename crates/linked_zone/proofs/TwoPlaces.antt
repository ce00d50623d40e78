-- Two blocks anywhere in a zone, and the list with others in their places.
use Rattle.std.proofs.Common.{◌≡◌, ℕ, ◌+◌, true, false, eqb, List, [], ◌∷◌, ◌++◌, refl, ap, sym, ◌∙◌, arith, append_assoc, inl, inr, ◌⊎◌}
use Rattle.mac_base.specs.declared.block.Entry.{Entry}
use Rattle.mac_base.specs.declared.block.Kind.{Kind}
use Rattle.mac_base.specs.HeadKind.{Shape}
use Rattle.mac_base.specs.ZoneMap.{ZoneMap, block, total_size, address_after}
use Rattle.zone_laws.proofs.Owners.{none_named}
use Rattle.zone_records.specs.Records.{BlockRecord, total_of}
use Rattle.zone_records.specs.Records as records
use Rattle.linked_zone.specs.Owned.{Owners, record_of, records_from}
use Rattle.linked_zone.proofs.Owning.{SameOf, records_from-append, records-place, records-same, records-total, same_but}

-- ---- in a map

-- one block is before another: the blocks between them, those after the one, and those before the other
pub record Between (before after : ZoneMap) (one : Entry) (before_other after_other : ZoneMap) (other : Entry) : Type 0 where
  pub mid : ZoneMap
  pub upper : before_other ≡ before ++ one ∷ mid
  pub lower : after ≡ mid ++ other ∷ after_other

-- of two blocks of a map one is before the other
pub either-first : (xs ys zs ws : ZoneMap) (e f : Entry) → xs ++ e ∷ ys ≡ zs ++ f ∷ ws → (e ≡ f → ⊥) → Between xs ys e zs ws f ⊎ Between zs ws f xs ys e
either-first [] ys [] ws e f is other = absurd (other (cc is))
either-first [] ys (z ∷ zs) ws e f is other = let same : z ≡ e = cc is in inl (record { mid = zs; upper = ap (λ y. y ∷ zs) same; lower = cc is })
either-first (x ∷ xs) ys [] ws e f is other = let same : x ≡ f = cc is in inr (record { mid = xs; upper = ap (λ y. y ∷ xs) same; lower = cc is })
either-first (x ∷ xs) ys (z ∷ zs) ws e f is other = let same : x ≡ z = cc is in let rest : xs ++ e ∷ ys ≡ zs ++ f ∷ ws = cc is in
    elim (either-first xs ys zs ws e f rest other) [
      | inl w ↦ inl (record { mid = w.mid; upper = λ i. sym same i ∷ w.upper i; lower = w.lower })
      | inr w ↦ inr (record { mid = w.mid; upper = λ i. same i ∷ w.upper i; lower = w.lower })
    ]

-- ---- in a list of blocks

-- The places of two blocks, of so many bytes each, the headers of which are at two addresses.
pub record TwoPlaces (s : Shape) (from to m n : ℕ) : Type 0 where
  -- the list with these there
  pub listed : BlockRecord → BlockRecord → List BlockRecord
  pub before_from : BlockRecord → List BlockRecord
  pub after_from : BlockRecord → List BlockRecord
  pub before_to : BlockRecord → List BlockRecord
  pub after_to : BlockRecord → List BlockRecord
  pub from_is : (a b : BlockRecord) → listed a b ≡ before_from b ++ a ∷ after_from b
  pub to_is : (a b : BlockRecord) → listed a b ≡ before_to a ++ b ∷ after_to a
  pub from_place : (b : BlockRecord) → b.size ≡ n → from ≡ records.address_after s (before_from b)
  pub to_place : (a : BlockRecord) → a.size ≡ m → to ≡ records.address_after s (before_to a)

-- the same two the other way round
abbrev pub turned_round : {s : Shape} {from to m n : ℕ} → TwoPlaces s from to m n → TwoPlaces s to from n m
turned_round p = record {
  listed = λ a b. p.listed b a;
  before_from = p.before_to;
  after_from = p.after_to;
  before_to = p.before_from;
  after_to = p.after_from;
  from_is = λ a b. p.to_is b a;
  to_is = λ a b. p.from_is b a;
  from_place = p.to_place;
  to_place = p.from_place;
}

-- sizes add up
pub total_of-append : (xs ys : List BlockRecord) → total_of (xs ++ ys) ≡ total_of xs + total_of ys
total_of-append [] ys = omega arith
total_of-append (x ∷ xs) ys = let rest = total_of-append xs ys in omega arith

-- ---- in the blocks of a map

module _ (o : Owners) (s : Shape) (before : ZoneMap) (m : ℕ) (mid : ZoneMap) (n : ℕ) (after : ZoneMap) where
  -- where the first of two blocks begins, and the second
  abbrev pub first_place : ℕ
  first_place = address_after s [] + total_size before

  abbrev pub second_place : ℕ
  second_place = (first_place + m) + total_size mid

  -- the blocks of a map with these two in it
  abbrev pub spread : BlockRecord → BlockRecord → List BlockRecord
  spread a b = records_from o s (address_after s []) before ++ a ∷ (records_from o s (first_place + m) mid ++ b ∷ records_from o s (second_place + n) after)

  -- they are those of the map
  pub spread-from : (k l : Kind) → records_from o s (address_after s []) (before ++ block k m ∷ (mid ++ block l n ∷ after)) ≡ spread (record_of o s first_place (block k m)) (record_of o s second_place (block l n))
  spread-from k l =
      records_from-append o s (address_after s []) before (block k m ∷ (mid ++ block l n ∷ after))
      ∙ ap (λ bs. records_from o s (address_after s []) before ++ record_of o s first_place (block k m) ∷ bs) (records_from-append o s (first_place + m) mid (block l n ∷ after))

  -- the places of the two
  abbrev pub spread_places : (from to : ℕ) → from ≡ address_after s before → to ≡ address_after s before + (m + total_size mid) → TwoPlaces s from to m n
  spread_places from to first second = record {
    listed = spread;
    before_from = λ b. records_from o s (address_after s []) before;
    after_from = λ b. records_from o s (first_place + m) mid ++ b ∷ records_from o s (second_place + n) after;
    before_to = λ a. records_from o s (address_after s []) before ++ a ∷ records_from o s (first_place + m) mid;
    after_to = λ a. records_from o s (second_place + n) after;
    from_is = λ a b. refl;
    to_is = λ a b. sym (append_assoc (records_from o s (address_after s []) before) (a ∷ records_from o s (first_place + m) mid) (b ∷ records_from o s (second_place + n) after));
    from_place = λ b size. first ∙ records-place o s before;
    to_place = λ a size.
        let sum = total_of-append (records_from o s (address_after s []) before) (a ∷ records_from o s (first_place + m) mid) in
        let low = records-total o s (address_after s []) before in
        let high = records-total o s (first_place + m) mid in
        omega arith;
  }

  -- other owners have the same, where they agree but for h, which names none of the other blocks
  pub spread-same : (q : Owners) (h : ℕ) → none_named h before ≡ true → none_named h mid ≡ true → none_named h after ≡ true → ((y : ℕ) → q.slot y ≡ o.slot y) → ((y : ℕ) → eqb y h ≡ false → SameOf o q y)
      → (a b : BlockRecord) → records_from q s (address_after s []) before ++ a ∷ (records_from q s (first_place + m) mid ++ b ∷ records_from q s (second_place + n) after) ≡ spread a b
  spread-same q h none none_mid none_after slot same a b = λ i.
      records-same o q s (address_after s []) before (λ y _. slot y) (same_but o q h before none same) i
      ++ a ∷ (records-same o q s (first_place + m) mid (λ y _. slot y) (same_but o q h mid none_mid same) i
      ++ b ∷ records-same o q s (second_place + n) after (λ y _. slot y) (same_but o q h after none_after same) i)
