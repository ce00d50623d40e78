-- One more handle is noted.
use Rattle.std.proofs.Common.{◌≡◌, ◌∙◌, ℕ, zero, suc, ◌+◌, ◌<◌, ◌≤◌, min, List, [], ◌∷◌, ◌++◌, length, take, refl, ap, arith, length-append}
use Rattle.held_zone.specs.Purges.{Purges, most_counted, most_noted, purged_these}

abbrev no_handles : List ℕ
no_handles = []

take-none : (n : ℕ) → take n no_handles ≡ no_handles
take-none zero = refl
take-none (suc n) = refl

-- where fewer than n are noted there is room for one more,
pub take-room : (n h : ℕ) (hs : List ℕ) → length (take n hs) < n → take n (hs ++ h ∷ []) ≡ take n hs ++ h ∷ []
take-room zero h hs room = absurd (omega (arith, room))
take-room (suc n) h [] room = ap (λ hs. h ∷ hs) (take-none n)
take-room (suc n) h (g ∷ hs) room = ap (λ hs. g ∷ hs) (take-room n h hs (omega (arith, room)))

-- or else for none
pub take-full : (n h : ℕ) (hs : List ℕ) → n ≤ length (take n hs) → take n (hs ++ h ∷ []) ≡ take n hs
take-full zero h hs full = refl
take-full (suc n) h [] full = absurd (omega (arith, full))
take-full (suc n) h (g ∷ hs) full = ap (λ hs. g ∷ hs) (take-full n h hs (omega (arith, full)))

counted : (hs : List ℕ) (h : ℕ) → min (min (length hs) most_counted + 1) most_counted ≡ min (length (hs ++ h ∷ [])) most_counted
counted hs h = omega (arith, length-append hs (h ∷ []))

-- these are noted once the list and the count are so
pub noted-more : (hs : List ℕ) (h : ℕ) (from old : Purges) (first : List ℕ) → old ≡ purged_these hs from → first ≡ take most_noted (hs ++ h ∷ [])
    → record old { first = first; count = min (old.count + 1) most_counted } ≡ purged_these (hs ++ h ∷ []) from
noted-more hs h from old first was is = λ i. record {
  held = (was i).held;
  turn = (was i).turn;
  first = is i;
  count = (ap (λ (p : Purges). min (p.count + 1) most_counted) was ∙ counted hs h) i;
}
