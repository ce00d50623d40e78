-- One more sum is measured, and is listed no more.
use Rattle.std.proofs.Common.{◌≡◌, ◌≢◌, ℕ, inl, inr, ◌<◌, ◌++◌, ◌∷◌, [], Bool, false, List, length, set, sym, refl, ◌∙◌, arith, get_or-set_same, get_or-set_other}
use Rattle.std.proofs.lemmas.Bool.{cases_lt, cases_eq}
use Rattle.std.proofs.lemmas.List.{length-set, length-append, get_or_append_left, get_or_push}
use Rattle.sum_tree.specs.Stale.{AreRight, IsMixture, IsAmong, IsListed, IsLastOf}

pub last-of : (xs others : List ℕ) (last : ℕ) → xs ≡ others ++ last ∷ [] → IsLastOf xs others last
last-of xs others last is = rw is (record {
  count = let e = length-append others (last ∷ []) in omega arith;
  last_is = get_or_push others last 0 (length others) refl;
  same = λ k inside. sym (get_or_append_left others (last ∷ []) 0 k inside);
})

-- and that place is in it
pub inside-last : (listed : List Bool) (xs others : List ℕ) (last : ℕ) → IsLastOf xs others last → IsListed false listed xs → last < length listed
inside-last listed xs others last is on = let c = is.count in let w = on.within (length others) (omega arith) in let s = is.last_is in omega arith

among-others : (xs others : List ℕ) (last j : ℕ) → IsLastOf xs others last → j ≢ last → IsAmong xs j → IsAmong others j
among-others xs others last j is other a = elim (cases_lt a.place (length others)) [
  | inl low ↦ record { place = a.place; inside = low; is = is.same a.place low ∙ a.is }
  | inr high ↦
      let c = is.count in
      let i = a.inside in
      let e : a.place ≡ length others = omega arith in
      absurd (other (sym a.is ∙ rw e is.last_is))
]

-- the last place of a list is stale no more
pub unlisted : (listed : List Bool) (xs others : List ℕ) (last : ℕ) → IsLastOf xs others last → IsListed false listed xs → IsListed false (set listed last false) others
unlisted listed xs others last is on = record {
  among = λ no j here. elim (cases_eq j last) [
    | inl same ↦ let gone = get_or-set_same listed last false false (inside-last listed xs others last is on) in let there = rw same at here in absurd (cc)
    | inr other ↦ among-others xs others last j is other (on.among no j (sym (get_or-set_other listed last j false false other) ∙ here))
  ];
  within = λ k inside. let c = is.count in let w = on.within k (omega arith) in let s = is.same k inside in let e = length-set listed last false in omega arith;
}

module _ {M : Type 0} (empty : M) (value : ℕ → M) where
  pub right-measured : (row : List M) (listed : List Bool) (place : ℕ) → AreRight empty row listed value → AreRight empty (set row place (value place)) (set listed place false) value
  right-measured row listed place right j inside fresh =
      let e = length-set row place (value place) in
      elim (cases_eq j place) [
        | inl same ↦ rw same (get_or-set_same row place (value place) empty (omega arith))
        | inr other ↦ get_or-set_other row place j (value place) empty other ∙ right j (omega arith) (sym (get_or-set_other listed place j false false other) ∙ fresh)
      ]

  pub mixed-measured : (xs ys : List M) (place : ℕ) → IsMixture empty xs ys value → IsMixture empty xs (set ys place (value place)) value
  mixed-measured xs ys place mixed = record {
    places = length-set ys place (value place) ∙ mixed.places;
    each = λ j inside. let p = mixed.places in elim (cases_eq j place) [
      | inl same ↦ inr (rw same (get_or-set_same ys place (value place) empty (omega arith)))
      | inr other ↦ elim (mixed.each j inside) [
        | inl old ↦ inl (get_or-set_other ys place j (value place) empty other ∙ old)
        | inr new ↦ inr (get_or-set_other ys place j (value place) empty other ∙ new)
      ]
    ];
  }

  pub mixture-of : (xs : List M) → IsMixture empty xs xs value
  mixture-of xs = record { places = refl; each = λ j inside. inl refl }
