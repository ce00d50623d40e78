-- A run that moves piece by piece.
use Rattle.std.proofs.Common.{◌≡◌, ℕ, zero, suc, ◌+◌, ◌-◌, ◌≤◌, List, [], ◌∷◌, ◌++◌, length, refl, sym, ap, ◌∙◌, inl, inr, arith}
use Rattle.raw_region.specs.Bytes.{part, written}
use Rattle.raw_region.proofs.Laws.{length-part, part-add, part-written-apart, written-append}

-- a write of no byte
pub written-nothing : (xs : List ℕ) (at : ℕ) → written xs at [] ≡ xs
written-nothing [] at = refl
written-nothing (x ∷ xs) zero = refl
written-nothing (x ∷ xs) (suc at) = ap (λ (t : List ℕ). x ∷ t) (written-nothing xs at)

-- one write before another
pub written-before : (xs : List ℕ) (at : ℕ) (us vs : List ℕ) → written (written xs (at + length us) vs) at us ≡ written xs at (us ++ vs)
written-before [] at us vs = refl
written-before (x ∷ xs) zero [] vs =
    ap (λ (j : ℕ). written (written (x ∷ xs) j vs) 0 []) (let e : 0 + 0 ≡ 0 = omega arith in e) ∙ written-nothing (written (x ∷ xs) 0 vs) 0
written-before (x ∷ xs) zero (u ∷ us) vs =
    ap (λ (j : ℕ). written (written (x ∷ xs) j vs) 0 (u ∷ us)) (let e : 0 + suc (length us) ≡ suc (0 + length us) = omega arith in e) ∙ ap (λ (t : List ℕ). u ∷ t) (written-before xs 0 us vs)
written-before (x ∷ xs) (suc at) us vs =
    ap (λ (j : ℕ). written (written (x ∷ xs) j vs) (suc at) us) (let e : suc at + length us ≡ suc (at + length us) = omega arith in e) ∙ ap (λ (t : List ℕ). x ∷ t) (written-before xs at us vs)

-- the first m bytes have moved down, and the k after them follow
pub down_more : (xs : List ℕ) (from to m k : ℕ) → to ≤ from → from + (m + k) ≤ length xs
    → written (written xs to (part xs from m)) (to + m) (part (written xs to (part xs from m)) (from + m) k) ≡ written xs to (part xs from (m + k))
down_more xs from to m k down fits =
    let run = part xs from m in let long = length-part xs from m (omega arith) in
    let stays : part (written xs to run) (from + m) k ≡ part xs (from + m) k = part-written-apart xs to run (from + m) k (inr (omega arith)) in
    ap (written (written xs to run) (to + m)) stays ∙ ap (λ (j : ℕ). written (written xs to run) (to + j) (part xs (from + m) k)) (sym long)
    ∙ written-append xs to run (part xs (from + m) k) ∙ ap (written xs to) (sym (part-add xs from m k))

-- before the first piece moves up, no byte has moved
pub up_all : (xs : List ℕ) (from to n : ℕ) → xs ≡ written xs (to + n) (part xs (from + n) (n - n))
up_all xs from to n = sym (ap (λ (k : ℕ). written xs (to + n) (part xs (from + n) k)) (let e : n - n ≡ 0 = omega arith in e) ∙ written-nothing xs (to + n))

-- the last m bytes have moved up, and the k before them follow
pub up_more : (xs : List ℕ) (from to k m : ℕ) → from ≤ to → to + (k + m) ≤ length xs
    → written (written xs (to + k) (part xs (from + k) m)) to (part (written xs (to + k) (part xs (from + k) m)) from k) ≡ written xs to (part xs from (k + m))
up_more xs from to k m up fits =
    let run = part xs (from + k) m in let long = length-part xs from k (omega arith) in
    let stays : part (written xs (to + k) run) from k ≡ part xs from k = part-written-apart xs (to + k) run from k (inl (omega arith)) in
    ap (written (written xs (to + k) run) to) stays ∙ ap (λ (j : ℕ). written (written xs (to + j) run) to (part xs from k)) (sym long)
    ∙ written-before xs to (part xs from k) run ∙ ap (written xs to) (sym (part-add xs from k m))
