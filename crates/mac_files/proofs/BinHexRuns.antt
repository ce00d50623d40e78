-- What bytes stand for, one run after the other.
use Rattle.std.proofs.Common.{◌≡◌, ℕ, zero, suc, ◌+◌, ◌-◌, ◌<◌, List, [], ◌∷◌, ◌++◌, length, get_or, length-append, append_assoc, Option, None, Some, Result, Ok, Err, replicate, refl, sym, ap, ◌∙◌, arith}
use Rattle.std.proofs.lemmas.Bool.{ne_eqb}
use Rattle.std.proofs.lemmas.List.{length-replicate}
use Rattle.mac_files.specs.declared.bin_hex.digits.Placed.{Placed}
use Rattle.mac_files.specs.declared.bin_hex.fault.BinHexFault.{BinHexFault}
use Rattle.mac_files.specs.declared.bin_hex.fault.BinHexFault.TheVariants.{NoCount, NothingToRepeat}
use Rattle.mac_files.specs.BinHex.{Reading, before, ends, expanded, places_of, values_of}
use Rattle.mac_files.specs.BinHexLeft.{runs_of}

pub runs_end : (last : Option ℕ) (r : Reading) (ending : Result ℕ BinHexFault) → r ≡ ends ending → runs_of last r ≡ ends ending
unfolding expanded
runs_end last r ending e = rw e refl

expanded_plain : (last : Option ℕ) (b : Placed) (bytes : List Placed) (ending : Result ℕ BinHexFault) → (b.value ≡ 144 → ⊥)
    → expanded last (b ∷ bytes) ending ≡ before (b ∷ []) (expanded (Some b.value) bytes ending)
unfolding expanded
expanded_plain last b [] ending h = rw (ne_eqb _ _ h) refl
expanded_plain last b (n ∷ bytes) ending h = rw (ne_eqb _ _ h) refl

-- a byte that is no run-length byte
pub runs_plain : (last : Option ℕ) (r s : Reading) (b : Placed) → r ≡ before (b ∷ []) s → (b.value ≡ 144 → ⊥)
    → runs_of last r ≡ before (b ∷ []) (runs_of (Some b.value) s)
runs_plain last r s b e h = rw e (expanded_plain last b s.values s.ending h)

-- a run-length byte at the end
pub runs_no_count : (last : Option ℕ) (r s : Reading) (b : Placed) (at : ℕ) → r ≡ before (b ∷ []) s → b.value ≡ 144 → s ≡ ends (Ok at)
    → runs_of last r ≡ ends (Err (NoCount b.at))
unfolding expanded
runs_no_count last r s b at e h end = rw (e, end, h) refl

pub runs_cut : (last : Option ℕ) (r s : Reading) (b : Placed) (fault : BinHexFault) → r ≡ before (b ∷ []) s → b.value ≡ 144 → s ≡ ends (Err fault)
    → runs_of last r ≡ ends (Err fault)
unfolding expanded
runs_cut last r s b fault e h end = rw (e, end, h) refl

-- a run-length byte and a count
pub runs_literal : (last : Option ℕ) (r s t : Reading) (b n : Placed) → r ≡ before (b ∷ []) s → b.value ≡ 144 → s ≡ before (n ∷ []) t → n.value ≡ 0
    → runs_of last r ≡ before (record { value = 144; at = n.at } ∷ []) (runs_of (Some 144) t)
unfolding expanded
runs_literal last r s t b n e h f none = rw (e, f, h, none) refl

pub runs_more : (last : ℕ) (r s t : Reading) (b n : Placed) → r ≡ before (b ∷ []) s → b.value ≡ 144 → s ≡ before (n ∷ []) t → (n.value ≡ 0 → ⊥)
    → runs_of (Some last) r ≡ before (replicate (n.value - 1) (record { value = last; at = n.at })) (runs_of (Some last) t)
unfolding expanded
runs_more last r s t b n e h f count = rw (e, f, h, ne_eqb _ _ count) refl

pub runs_nothing : (r s t : Reading) (b n : Placed) → r ≡ before (b ∷ []) s → b.value ≡ 144 → s ≡ before (n ∷ []) t → (n.value ≡ 0 → ⊥)
    → runs_of None r ≡ ends (Err (NothingToRepeat b.at))
unfolding expanded
runs_nothing r s t b n e h f count = rw (e, f, h, ne_eqb _ _ count) refl

-- A run before a reading.

values_before : (n : ℕ) (x : Placed) (s : Reading) → values_of (before (replicate n x) s) ≡ replicate n x.value ++ values_of s
values_before zero x s = refl
values_before (suc n) x s = ap (λ xs. x.value ∷ xs) (values_before n x s)

length_before : (n : ℕ) (x : Placed) (s : Reading) → length (before (replicate n x) s).values ≡ n + length s.values
length_before n x s = length-append (replicate n x) s.values ∙ ap (λ k. k + length s.values) (length-replicate n x)

pub place_in_run : (n k : ℕ) (x : Placed) (s : Reading) → k < n → x.at ≡ get_or (places_of (before (replicate n x) s)) k 0
place_in_run zero k x s h = absurd (omega arith)
place_in_run (suc n) zero x s h = refl
place_in_run (suc n) (suc k) x s h = place_in_run n k x s (omega arith)

-- a run goes from the values that are left to the bytes
pub run_kept : (items whole : List ℕ) (n : ℕ) (x : Placed) (r s : Reading) → r ≡ before (replicate n x) s → items ++ values_of r ≡ whole
    → (items ++ replicate n x.value) ++ values_of s ≡ whole
run_kept items whole n x r s e h =
    append_assoc items (replicate n x.value) (values_of s) ∙ ap (λ xs. items ++ xs) (sym (ap values_of e ∙ values_before n x s)) ∙ h

pub run_counted : (n : ℕ) (x : Placed) (r s : Reading) → r ≡ before (replicate n x) s → length r.values ≡ n + length s.values
run_counted n x r s e = ap (λ (q : Reading). length q.values) e ∙ length_before n x s
