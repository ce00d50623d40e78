-- Single bytes of what was written.
use Rattle.std.proofs.Common.{◌≡◌, ℕ, zero, suc, ◌+◌, ◌-◌, ◌≤◌, ◌<◌, ◌⊎◌, List, [], ◌∷◌, length, drop, slice_index, refl, ap, ◌∙◌, ⊎_elim, arith, le_of_suc-le-suc, not-suc-le-zero, get_or-take, get_or-drop}
use Rattle.raw_region.specs.Bytes.{part, written}

-- a byte of a part
pub index-part : (xs : List ℕ) (at n k : ℕ) → at ≤ k → k < at + n → slice_index (part xs at n) (k - at) ≡ slice_index xs k
index-part xs at n k p q = get_or-take n (drop at xs) (k - at) 0 (omega arith) ∙ get_or-drop at xs (k - at) 0 ∙ ap (slice_index xs) (let e : at + (k - at) ≡ k = omega arith in e)

low : (xs : List ℕ) (at : ℕ) (ws : List ℕ) (k : ℕ) → k < at → slice_index (written xs at ws) k ≡ slice_index xs k
low [] at ws k l = refl
low (x ∷ xs) zero ws k l = absurd (not-suc-le-zero l)
low (x ∷ xs) (suc at) ws zero l = refl
low (x ∷ xs) (suc at) ws (suc k) l = low xs at ws k (le_of_suc-le-suc l)

high : (xs : List ℕ) (at : ℕ) (ws : List ℕ) (k : ℕ) → at + length ws ≤ k → slice_index (written xs at ws) k ≡ slice_index xs k
high [] at ws k l = refl
high (x ∷ xs) zero [] k l = refl
high (x ∷ xs) zero (w ∷ ws) zero l = let l' : 0 + suc (length ws) ≤ 0 = l in absurd (not-suc-le-zero {n = 0} (omega arith))
high (x ∷ xs) zero (w ∷ ws) (suc k) l = let l' : 0 + suc (length ws) ≤ suc k = l in high xs 0 ws k (omega arith)
high (x ∷ xs) (suc at) ws zero l = let l' : suc at + length ws ≤ 0 = l in absurd (not-suc-le-zero {n = 0} (omega arith))
high (x ∷ xs) (suc at) ws (suc k) l = let l' : suc at + length ws ≤ suc k = l in high xs at ws k (omega arith)

-- a byte outside what was written is unchanged
pub index-written-apart : (xs : List ℕ) (at : ℕ) (ws : List ℕ) (k : ℕ) → (k < at) ⊎ (at + length ws ≤ k) → slice_index (written xs at ws) k ≡ slice_index xs k
index-written-apart xs at ws k off = ⊎_elim (low xs at ws k) (high xs at ws k) off
