-- What moves of many bytes do to the list.
use Rattle.std.proofs.Common.{◌≡◌, ℕ, ◌+◌, ◌-◌, ◌≤◌, ◌⊎◌, List, ◌++◌, length, take, drop, sym, ap, ◌∙◌, inl, inr, ⊎_elim, arith, drop-drop, take-take, append_assoc}
use Rattle.std.proofs.lemmas.List.{drop-take}
use Rattle.raw_region.specs.Bytes.{part, written, length-written}
use Rattle.core.specs.List.{copy_within}
use Rattle.raw_region.proofs.Lists.{written_is, rewritten}
use Rattle.raw_region.proofs.Laws.{length-part, part-part, part-written-apart, written-written}

-- a range that is copied to one apart is written again where it is
pub copied_back : (xs : List ℕ) (from to n : ℕ) → from + n ≤ length xs → to + n ≤ length xs → (from + n ≤ to) ⊎ (to + n ≤ from)
    → written (written xs to (part xs from n)) from (part xs from n) ≡ written xs to (part xs from n)
copied_back xs from to n fits fits' off =
    let run = part xs from n in let ys = written xs to run in let long = length-part xs from n fits in
    let stays : part ys from n ≡ run = part-written-apart xs to run from n (⊎_elim (λ p. inl p) (λ p. inr (omega arith)) off) in
    ap (written ys from) (sym stays) ∙ rewritten ys from n (let e = length-written xs to run in omega arith)

-- two runs side by side change places
pub rotated : (xs : List ℕ) (at mid end : ℕ) → at ≤ mid → mid ≤ end → end ≤ length xs
    → drop (mid - at) (part xs at (end - at)) ++ take (mid - at) (part xs at (end - at)) ≡ part xs mid (end - mid) ++ part xs at (mid - at)
rotated xs at mid end p q r =
    let run = part xs at (end - at) in
    let back : drop (mid - at) run ≡ part xs mid (end - mid) =
    ap (λ (k : ℕ). drop (mid - at) (take k (drop at xs))) (let e : end - at ≡ (mid - at) + (end - mid) = omega arith in e) ∙ drop-take (mid - at) (end - mid) (drop at xs)
    ∙ ap (take (end - mid)) (drop-drop (mid - at) at xs) ∙ ap (λ (k : ℕ). part xs k (end - mid)) (let e : at + (mid - at) ≡ mid = omega arith in e) in
    let front : take (mid - at) run ≡ part xs at (mid - at) = take-take (mid - at) (end - at) (drop at xs) (omega arith) in
    λ i. back i ++ front i

-- a run that moves inside another
pub slid : (xs : List ℕ) (low m n d i : ℕ) → low + m ≤ length xs → d + n ≤ m → i + n ≤ m → written xs low (copy_within (part xs low m) i (i + n) d) ≡ written xs (low + d) (part xs (low + i) n)
slid xs low m n d i fits dest src =
    let run = part xs low m in let long = length-part xs low m fits in let vs = part xs (low + i) n in let short = length-part xs (low + i) n (omega arith) in
    let moved : take n (drop i run) ≡ vs = part-part xs low m i n src in
    let pasted : copy_within run i (i + n) d ≡ written run d vs =
    ap (λ (k : ℕ). take d run ++ take k (drop i run) ++ drop (d + k) run) (let e : i + n - i ≡ n = omega arith in e)
    ∙ ap (λ (l : List ℕ). take d run ++ l ++ drop (d + n) run) moved ∙ append_assoc (take d run) vs (drop (d + n) run)
    ∙ ap (λ (k : ℕ). take d run ++ (vs ++ drop (d + k) run)) (sym short) ∙ ap (λ (l : List ℕ). take d run ++ (vs ++ l)) (sym (drop-drop (length vs) d run)) ∙ sym (written_is run d vs (omega arith)) in
    ap (written xs low) pasted ∙ sym (written-written xs low run d vs (omega arith) (omega arith)) ∙ ap (λ (l : List ℕ). written l (low + d) vs) (rewritten xs low m fits)
