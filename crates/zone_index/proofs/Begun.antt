-- The blocks that begin in a page.
use Rattle.std.proofs.Common.{◌≡◌, ℕ, ◌+◌, ◌-◌, ◌<◌, ◌≤◌, Bool, true, false, cond, List, [], ◌∷◌, ◌++◌, refl, ap, sym, ◌∙◌, subst, arith}
use Rattle.std.specs.Prelude.{◌&&◌, nat_le, nat_lt}
use Rattle.std.proofs.lemmas.Bool.Decides.{nat_tests}
use Rattle.mac_base.specs.HandleTable.{HandleTable}
use Rattle.mac_base.specs.ZoneMap.{ZoneMap, total_size}
use Rattle.zone_index.specs.declared.weight.Weight.{Weight}
use Rattle.zone_index.specs.Weights.{weigh, weights, bytes_of}
use Rattle.zone_index.specs.Pages.{begun}
use Rattle.zone_index.specs.Walk.{AllBelow}

-- what blocks weigh is what those of two parts weigh
pub weights-append : (t : HandleTable) (a b : ZoneMap) → weights t (a ++ b) ≡ weights t a ++ weights t b
weights-append t [] b = refl
weights-append t (e ∷ es) b = ap (λ ws. weigh t e ∷ ws) (weights-append t es b)

-- all their bytes
pub bytes-weights : (t : HandleTable) (m : ZoneMap) → bytes_of (weights t m) ≡ total_size m
bytes-weights t [] = refl
bytes-weights t (e ∷ es) = ap (λ n. e.size + n) (bytes-weights t es)

-- a test decides whether a block begins there
abbrev pub within : ℕ → ℕ → ℕ → Bool
within low high at = nat_le low at && nat_lt at high

pub within-out : (low high at : ℕ) → high ≤ at → within low high at ≡ false
within-out low high at above = grind (arith, nat_tests)

pub within-low : (low high at : ℕ) → at < low → within low high at ≡ false
within-low low high at below = grind (arith, nat_tests)

pub within-in : (low high at : ℕ) → low ≤ at → at < high → within low high at ≡ true
within-in low high at above below = grind (arith, nat_tests)

pub begun-test : (low high at : ℕ) (w : Weight) (ws : List Weight) (b : Bool) → within low high at ≡ b
    → begun low high at (w ∷ ws) ≡ cond b (w ∷ begun low high (at + w.bytes) ws) (begun low high (at + w.bytes) ws)
begun-test low high at w ws b is = ap (λ c. cond c (w ∷ begun low high (at + w.bytes) ws) (begun low high (at + w.bytes) ws)) is

-- those of two parts
pub begun-append : (low high at : ℕ) (a b : List Weight) → begun low high at (a ++ b) ≡ begun low high at a ++ begun low high (at + bytes_of a) b
begun-append low high at [] b = ap (λ n. begun low high n b) (let e : at ≡ at + 0 = omega arith in e)
begun-append low high at (w ∷ ws) b =
    let rest = begun-append low high (at + w.bytes) ws b ∙ ap (λ n. begun low high (at + w.bytes) ws ++ begun low high n b) (let e : at + w.bytes + bytes_of ws ≡ at + (w.bytes + bytes_of ws) = omega arith in e) in
    by_test (within low high at) refl rest
  where
    by_test : (c : Bool) → within low high at ≡ c
        → begun low high (at + w.bytes) (ws ++ b) ≡ begun low high (at + w.bytes) ws ++ begun low high (at + (w.bytes + bytes_of ws)) b
        → begun low high at (w ∷ (ws ++ b)) ≡ begun low high at (w ∷ ws) ++ begun low high (at + (w.bytes + bytes_of ws)) b
    by_test true is rest =
        begun-test low high at w (ws ++ b) true is ∙ ap (λ m. w ∷ m) rest
        ∙ ap (λ m. m ++ begun low high (at + (w.bytes + bytes_of ws)) b) (sym (begun-test low high at w ws true is))
    by_test false is rest =
        begun-test low high at w (ws ++ b) false is ∙ rest
        ∙ ap (λ m. m ++ begun low high (at + (w.bytes + bytes_of ws)) b) (sym (begun-test low high at w ws false is))

-- none of those above
pub begun-above : (low high at : ℕ) (ws : List Weight) → high ≤ at → begun low high at ws ≡ []
begun-above low high at [] above = refl
begun-above low high at (w ∷ ws) above = begun-test low high at w ws false (within-out low high at above) ∙ begun-above low high (at + w.bytes) ws (omega arith)

-- none of those below
pub begun-below : (t : HandleTable) (low high at end : ℕ) (m : ZoneMap) → AllBelow end at m → end ≤ low → begun low high at (weights t m) ≡ []
begun-below t low high at end [] all under = refl
begun-below t low high at end (e ∷ es) all under =
    let first = all.0 in
    begun-test low high at (weigh t e) (weights t es) false (within-low low high at (omega arith)) ∙ begun-below t low high (at + e.size) end es all.1 under

-- all of those between
pub begun-between : (t : HandleTable) (low high at : ℕ) (m : ZoneMap) → low ≤ at → AllBelow high at m → begun low high at (weights t m) ≡ weights t m
begun-between t low high at [] above all = refl
begun-between t low high at (e ∷ es) above all =
    begun-test low high at (weigh t e) (weights t es) true (within-in low high at above all.0) ∙ ap (λ ws. weigh t e ∷ ws) (begun-between t low high (at + e.size) es (omega arith) all.1)

-- blocks begin below where they end
pub below-end : (high at : ℕ) (m : ZoneMap) → at + total_size m < high → AllBelow high at m
below-end high at [] long = tt
below-end high at (e ∷ es) long = (omega arith, below-end high (at + e.size) es (omega arith))

-- those of two parts do
pub below-append : (high at : ℕ) (a b : ZoneMap) → AllBelow high at a → AllBelow high (at + total_size a) b → AllBelow high at (a ++ b)
below-append high at [] b first rest = grind (arith)
below-append high at (e ∷ es) b first rest = (first.0, below-append high (at + e.size) es b first.1 (grind (arith)))

-- and also below what is higher
pub below-higher : (high more at : ℕ) (m : ZoneMap) → high ≤ more → AllBelow high at m → AllBelow more at m
below-higher high more at [] le all = tt
below-higher high more at (e ∷ es) le all = let first = all.0 in (omega arith, below-higher high more (at + e.size) es le all.1)

-- from another place they begin as far from each other
pub below-shift : (b high at : ℕ) (m : ZoneMap) → AllBelow high (b + at) m → AllBelow (high - b) at m
below-shift b high at [] all = tt
below-shift b high at (e ∷ es) all =
    let first = all.0 in
    (omega arith, below-shift b high (at + e.size) es (subst (λ n. AllBelow high n es) (let e : b + at + e.size ≡ b + (at + e.size) = omega arith in e) all.1))
