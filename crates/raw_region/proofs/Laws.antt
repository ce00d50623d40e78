-- Laws of `part` and `written`: what was written is read, and what lies outside is unchanged.
use Rattle.std.proofs.Common.{◌≡◌, ℕ, zero, suc, ◌+◌, ◌-◌, ◌≤◌, ◌⊎◌, List, [], ◌∷◌, ◌++◌, length, take, drop, refl, sym, ap, ◌∙◌, ⊎_elim, arith, not-suc-le-zero, length-take-le, drop-drop, take-take, take_at, drop_at}
use lib.Seq.{take-add}
use Rattle.std.proofs.lemmas.List.{drop-take, nil_from_length}
use Rattle.raw_region.specs.Bytes.{part, written}
use Rattle.raw_region.proofs.Lists.{written_is, part_long}

-- how long a part is
pub length-part : (xs : List ℕ) (at n : ℕ) → at + n ≤ length xs → length (part xs at n) ≡ n
length-part = part_long

-- how long bytes are that are a part
pub length-is_part : (ys xs : List ℕ) (at n : ℕ) → ys ≡ part xs at n → at + n ≤ length xs → length ys ≡ n
length-is_part ys xs at n e fits = ap length e ∙ length-part xs at n fits

-- a part of a part
pub part-part : (xs : List ℕ) (at n k m : ℕ) → k + m ≤ n → part (part xs at n) k m ≡ part xs (at + k) m
part-part xs at n k m fits =
    ap (λ (j : ℕ). take m (drop k (take j (drop at xs)))) (let e : n ≡ k + (n - k) = omega arith in e) ∙ ap (take m) (drop-take k (n - k) (drop at xs))
    ∙ take-take m (n - k) (drop k (drop at xs)) (omega arith) ∙ ap (take m) (drop-drop k at xs)

-- two parts side by side
pub part-add : (xs : List ℕ) (at m n : ℕ) → part xs at (m + n) ≡ part xs at m ++ part xs (at + m) n
part-add xs at m n = take-add m n (drop at xs) ∙ ap (λ (l : List ℕ). take m (drop at xs) ++ take n l) (drop-drop m at xs)

before : (xs : List ℕ) (at : ℕ) (ws : List ℕ) (a n : ℕ) → a + n ≤ at → part (written xs at ws) a n ≡ part xs a n
before [] at ws a n l = refl
before (x ∷ xs) zero ws a n l = let n0 : n ≡ 0 = omega arith in ap (λ (j : ℕ). part (written (x ∷ xs) 0 ws) a j) n0 ∙ ap (λ (j : ℕ). part (x ∷ xs) a j) (sym n0)
before (x ∷ xs) (suc at) ws (suc a) n l = let l' : suc a + n ≤ suc at = l in before xs at ws a n (omega arith)
before (x ∷ xs) (suc at) ws zero zero l = refl
before (x ∷ xs) (suc at) ws zero (suc n) l = let l' : 0 + suc n ≤ suc at = l in ap (λ (t : List ℕ). x ∷ t) (before xs at ws 0 n (omega arith))

after : (xs : List ℕ) (at : ℕ) (ws : List ℕ) (a : ℕ) → at + length ws ≤ a → drop a (written xs at ws) ≡ drop a xs
after [] at ws a l = refl
after (x ∷ xs) zero [] a l = refl
after (x ∷ xs) zero (w ∷ ws) zero l = let l' : 0 + suc (length ws) ≤ 0 = l in absurd (not-suc-le-zero {n = 0} (omega arith))
after (x ∷ xs) zero (w ∷ ws) (suc a) l = let l' : 0 + suc (length ws) ≤ suc a = l in after xs 0 ws a (omega arith)
after (x ∷ xs) (suc at) ws zero l = let l' : suc at + length ws ≤ 0 = l in absurd (not-suc-le-zero {n = 0} (omega arith))
after (x ∷ xs) (suc at) ws (suc a) l = let l' : suc at + length ws ≤ suc a = l in after xs at ws a (omega arith)

-- bytes outside the range are unchanged
pub part-written-apart : (xs : List ℕ) (at : ℕ) (ws : List ℕ) (a n : ℕ) → (a + n ≤ at) ⊎ (at + length ws ≤ a) → part (written xs at ws) a n ≡ part xs a n
part-written-apart xs at ws a n off = ⊎_elim (λ p. before xs at ws a n p) (λ p. ap (take n) (after xs at ws a p)) off

-- what was written is read
pub part-written : (xs : List ℕ) (at : ℕ) (ws : List ℕ) → at + length ws ≤ length xs → part (written xs at ws) at (length ws) ≡ ws
part-written xs at ws fits =
    let long = length-take-le at xs (omega arith) in
    ap (λ (l : List ℕ). take (length ws) (drop at l)) (written_is xs at ws fits) ∙ ap (take (length ws)) (drop_at (take at xs) (ws ++ drop (length ws) (drop at xs)) at long) ∙ take_at ws (drop (length ws) (drop at xs)) (length ws) refl

-- one write after another
pub written-append : (xs : List ℕ) (at : ℕ) (us vs : List ℕ) → written (written xs at us) (at + length us) vs ≡ written xs at (us ++ vs)
written-append [] at us vs = refl
written-append (x ∷ xs) zero [] vs = refl
written-append (x ∷ xs) zero (u ∷ us) vs =
    ap (λ (j : ℕ). written (u ∷ written xs 0 us) j vs) (let e : 0 + suc (length us) ≡ suc (0 + length us) = omega arith in e) ∙ ap (λ (t : List ℕ). u ∷ t) (written-append xs 0 us vs)
written-append (x ∷ xs) (suc at) us vs =
    ap (λ (j : ℕ). written (x ∷ written xs at us) j vs) (let e : suc at + length us ≡ suc (at + length us) = omega arith in e) ∙ ap (λ (t : List ℕ). x ∷ t) (written-append xs at us vs)

-- a write into a list that is itself written
pub written-written : (xs : List ℕ) (at : ℕ) (us : List ℕ) (k : ℕ) (vs : List ℕ) → at + length us ≤ length xs → k + length vs ≤ length us → written (written xs at us) (at + k) vs ≡ written xs at (written us k vs)
written-written [] at us k vs fits inside = refl
written-written (x ∷ xs) zero [] k vs fits inside = let v0 : length vs ≡ 0 = omega arith in let k0 : k ≡ 0 = omega arith in
    ap (λ (j : ℕ). written (x ∷ xs) j vs) (let e : 0 + k ≡ 0 = omega arith in e) ∙ ap (λ (l : List ℕ). written (x ∷ xs) 0 l) (nil_from_length vs v0)
written-written (x ∷ xs) zero (u ∷ us) zero [] fits inside = refl
written-written (x ∷ xs) zero (u ∷ us) zero (v ∷ vs) fits inside = let f : 0 + suc (length us) ≤ suc (length xs) = fits in let i : 0 + suc (length vs) ≤ suc (length us) = inside in
    ap (λ (t : List ℕ). v ∷ t) (ap (λ (j : ℕ). written (written xs 0 us) j vs) (let e : 0 ≡ 0 + 0 = omega arith in e) ∙ written-written xs 0 us 0 vs (omega arith) (omega arith))
written-written (x ∷ xs) zero (u ∷ us) (suc k) vs fits inside = let f : 0 + suc (length us) ≤ suc (length xs) = fits in let i : suc k + length vs ≤ suc (length us) = inside in
    ap (λ (j : ℕ). written (u ∷ written xs 0 us) j vs) (let e : 0 + suc k ≡ suc (0 + k) = omega arith in e) ∙ ap (λ (t : List ℕ). u ∷ t) (written-written xs 0 us k vs (omega arith) (omega arith))
written-written (x ∷ xs) (suc at) us k vs fits inside = let f : suc at + length us ≤ suc (length xs) = fits in
    ap (λ (j : ℕ). written (x ∷ written xs at us) j vs) (let e : suc at + k ≡ suc (at + k) = omega arith in e) ∙ ap (λ (t : List ℕ). x ∷ t) (written-written xs at us k vs (omega arith) inside)
