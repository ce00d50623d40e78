-- The sums of leaves stay right where a zone is another only in leaves that are stale.
use Rattle.std.proofs.Common.{◌≡◌, ℕ, ◌+◌, ◌*◌, ◌<◌, ◌≤◌, Bool, true, false, List, [], ◌∷◌, ◌++◌, length, get_or, refl, ap, sym, ◌∙◌, subst, inl, inr, arith}
use Rattle.std.specs.Prelude.{◌⊎◌, IsTrue, ⊤}
use Rattle.std.proofs.lemmas.Bool.{cases_lt, false_from_ne_true, false≢true}
use Rattle.mac_base.specs.Heap.{Heap}
use Rattle.mac_base.specs.HandleTable.{HandleTable}
use Rattle.mac_base.specs.HeadKind.{zone_header}
use Rattle.mac_base.specs.ZoneMap.{ZoneMap, total_size}
use Rattle.mac_base.specs.ZoneState.{ZoneState, with_heap}
use Rattle.sum_tree.specs.Stale.{Stored}
use Rattle.zone_index.specs.declared.weight.Weight.{Weight}
use Rattle.zone_index.specs.Weights.{weigh, weights}
use Rattle.zone_index.specs.Pages.{begun}
use Rattle.zone_index.specs.Leaves.{AreSums, Summing, Touched, TouchedAt, leaf, sum_over}
use Rattle.zone_index.proofs.Begun.{begun-test, within, within-low, within-out}
use Rattle.zone_index.proofs.Changed.{Renews}
use Rattle.zone_index.proofs.PagesRenewed.{offset, parts}
use Rattle.zone_index.proofs.Summing.{IsSumming, sum-append}

-- each of these blocks, the first of which begins at an address, has no part in any sum, or begins where one may
abbrev pub Begins : {M : Type 0} → Summing M → HandleTable → (ℕ → Type 0) → ℕ → ZoneMap → Type 0
Begins s t P at [] = ⊤
Begins s t P at (e ∷ es) = ((s.one (weigh t e) ≡ s.empty) ⊎ P at) × Begins s t P (at + e.size) es

module _ {M : Type 0} {fits : M → Type 0} (s : Summing M) (is : IsSumming s fits) where
  -- of the leaves in which none may begin they have no part
  pub begun-idle : (t : HandleTable) (P : ℕ → Type 0) (base low high at : ℕ) (m : ZoneMap) → Begins s t P (base + at) m → ((n : ℕ) → P n → (n < base + low) ⊎ (base + high ≤ n)) → sum_over s (begun low high at (weights t m)) ≡ s.empty
  begun-idle t P base low high at [] all out = refl
  begun-idle t P base low high at (e ∷ es) all out =
      by_test (within low high at) refl (begun-idle t P base low high (at + e.size) es (subst (λ n. Begins s t P n es) (let e : base + at + e.size ≡ base + (at + e.size) = omega arith in e) all.1) out)
    where
      by_test : (c : Bool) → within low high at ≡ c → sum_over s (begun low high (at + e.size) (weights t es)) ≡ s.empty → sum_over s (begun low high at (weights t (e ∷ es))) ≡ s.empty
      by_test true there rest =
          ap (sum_over s) (begun-test low high at (weigh t e) (weights t es) true there) ∙ ap (s.op (s.one (weigh t e))) rest
          ∙ elim all.0 [
            | inl none ↦ ap (λ x. s.op x s.empty) none ∙ (is.laws).left_identity s.empty
            | inr here ↦ elim (out (base + at) here) [
              | inl below ↦ absurd (false≢true (sym (within-low low high at (omega arith)) ∙ there))
              | inr above ↦ absurd (false≢true (sym (within-out low high at (omega arith)) ∙ there))
            ]
          ]
      by_test false there rest = ap (sum_over s) (begun-test low high at (weigh t e) (weights t es) false there) ∙ rest

  module _ (z : ZoneState) (heap : Heap) (from to : ℕ) (r : Renews z heap from to) (P : ℕ → Type 0) (begins_was : Begins s z.heap.table P from r.was) (begins_is : Begins s heap.table P from r.is) where
    module _ (low high : ℕ) (out : (n : ℕ) → P n → (n < z.shape.base + low) ⊎ (z.shape.base + high ≤ n)) where
      abbrev first : HandleTable → List Weight
      first u = begun low high zone_header (weights u r.front)

      abbrev last : HandleTable → ℕ → List Weight
      last u n = begun low high (offset z heap from to r + n) (weights u r.back)

      same_last : (back : (r.back ≡ []) ⊎ (total_size r.is ≡ total_size r.was)) → last z.heap.table (total_size r.is) ≡ last z.heap.table (total_size r.was)
      same_last (inl none) = ap (λ m. begun low high (offset z heap from to r + total_size r.is) (weights z.heap.table m)) none ∙ sym (ap (λ m. begun low high (offset z heap from to r + total_size r.was) (weights z.heap.table m)) none)
      same_last (inr sizes) = ap (last z.heap.table) sizes

      without : (u : HandleTable) (m new : ZoneMap) → m ≡ r.front ++ (new ++ r.back) → Begins s u P from new → sum_over s (begun low high zone_header (weights u m)) ≡ s.op (sum_over s (first u)) (sum_over s (last u (total_size new)))
      without u m new map all =
          let there : from ≡ z.shape.base + offset z heap from to r = (let place = r.place in omega arith) in
          let middle : List Weight = begun low high (offset z heap from to r) (weights u new) in
          let none = begun-idle u P z.shape.base low high (offset z heap from to r) new (subst (λ n. Begins s u P n new) there all) out in
          ap (λ m. sum_over s (begun low high zone_header (weights u m))) map ∙ ap (sum_over s) (parts z heap from to r low high u new) ∙ sum-append s is (first u) (middle ++ last u (total_size new))
          ∙ ap (s.op (sum_over s (first u))) (sum-append s is middle (last u (total_size new)) ∙ ap (λ x. s.op x (sum_over s (last u (total_size new)))) none ∙ (is.laws).left_identity (sum_over s (last u (total_size new))))

      same_sum : sum_over s (begun low high zone_header (weights heap.table heap.map)) ≡ sum_over s (begun low high zone_header (weights z.heap.table z.heap.map))
      same_sum =
          without heap.table heap.map r.is r.map_is begins_is
          ∙ ap (λ ws. s.op (sum_over s (begun low high zone_header ws)) (sum_over s (last heap.table (total_size r.is)))) r.same_front
          ∙ ap (λ ws. s.op (sum_over s (first z.heap.table)) (sum_over s (begun low high (offset z heap from to r + total_size r.is) ws))) r.same_back
          ∙ ap (λ ws. s.op (sum_over s (first z.heap.table)) (sum_over s ws)) (same_last r.ends)
          ∙ sym (without z.heap.table z.heap.map r.was r.map_was begins_was)

    -- what isn't stale stays right
    pub sums-renewed : (old new : Stored M) → AreSums s z old → Touched z.shape old new P → ((n : ℕ) → P n → z.shape.base ≤ n) → AreSums s (with_heap heap z) new
    sums-renewed old new a t above = record {
      places = ap (λ (xs : List M). length xs) t.sums ∙ a.places;
      right = λ j inside fresh.
          ap (λ (xs : List M). get_or xs j s.empty) t.sums
          ∙ a.right j (subst (λ (xs : List M). j < length xs) t.sums inside) (false_from_ne_true (get_or old.stale j false) (λ h. false≢true (sym fresh ∙ t.others j h)))
          ∙ sym (same_sum (256 * j) (256 * j + 256) (λ n may. elim (cases_lt n (z.shape.base + 256 * j)) [
            | inl below ↦ inl below
            | inr low ↦ elim (cases_lt n (z.shape.base + (256 * j + 256))) [
              | inl high ↦
                  let up = above n may in
                  let same : leaf z.shape n ≡ j = omega arith in
                  absurd (false≢true (sym fresh ∙ subst (λ i. get_or new.stale i false ≡ true) same (t.here n may)))
              | inr past ↦ inr past
            ]
          ]));
    }

-- also where all are stale
pub sums-all_stale : {M : Type 0} (s : Summing M) (z : ZoneState) (heap : Heap) (old new : Stored M) → AreSums s z old → new.sums ≡ old.sums → ((j : ℕ) → j < length new.sums → IsTrue (get_or new.stale j false)) → AreSums s (with_heap heap z) new
sums-all_stale {M} s z heap old new a same stale = record {
  places = ap (λ (xs : List M). length xs) same ∙ a.places;
  right = λ j inside fresh. absurd (false≢true (sym fresh ∙ stale j inside));
}

-- and where the same blocks weigh the same
pub sums-still : {M : Type 0} (s : Summing M) (z : ZoneState) (heap : Heap) (kept : Stored M) → AreSums s z kept → heap.map ≡ z.heap.map → weights heap.table z.heap.map ≡ weights z.heap.table z.heap.map → AreSums s (with_heap heap z) kept
sums-still s z heap kept a same weigh = record {
  places = a.places;
  right = λ j inside fresh. a.right j inside fresh ∙ sym (ap (λ ws. sum_over s (begun (256 * j) (256 * j + 256) zone_header ws)) (ap (weights heap.table) same ∙ weigh));
}

-- the sum of one more leaf is stale
pub sum_touched-first : {M : Type 0} (z l : ZoneState) {i : ℕ} (old new : Stored M) (at : ℕ) → z ≡ l → i ≡ leaf l.shape at → TouchedAt old new i → Touched z.shape old new (λ n. n ≡ at)
sum_touched-first z l old new at same is t = record {
  sums = t.sums;
  here = λ n there. subst (λ i. get_or new.stale i false ≡ true) (is ∙ ap (λ (z : ZoneState). leaf z.shape at) (sym same) ∙ ap (leaf z.shape) (sym there)) t.here;
  others = t.others;
}

pub sum_touched-next : {M : Type 0} (z l : ZoneState) {i : ℕ} {P : ℕ → Type 0} (old middle new : Stored M) (at : ℕ) → Touched z.shape old middle P → z ≡ l → i ≡ leaf l.shape at → TouchedAt middle new i → Touched z.shape old new (λ n. P n ⊎ (n ≡ at))
sum_touched-next z l old middle new at first same is t = record {
  sums = t.sums ∙ first.sums;
  here = λ n there. elim there [
    | inl before ↦ t.others (leaf z.shape n) (first.here n before)
    | inr last ↦ subst (λ i. get_or new.stale i false ≡ true) (is ∙ ap (λ (z : ZoneState). leaf z.shape at) (sym same) ∙ ap (leaf z.shape) (sym last)) t.here
  ];
  others = λ j was. t.others j (first.others j was);
}
