-- The first bytes of a fork have its header and its extra bytes.
use Rattle.std.proofs.Common.{◌≡◌, ℕ, ◌+◌, ◌<◌, ◌≤◌, ◌⊎◌, inl, inr, List, ◌++◌, length, take, drop, replicate, min, sym, ap, ◌∙◌, arith}
use Rattle.std.proofs.lemmas.List.{length-drop, length-take-le, take-take, drop-take, take_all, take-append-le}
use Rattle.std.proofs.lemmas.Bool.{cases_lt}
use Rattle.fork_bytes.specs.declared.layout.Header.{Header}
use Rattle.fork_bytes.specs.Fork.{header_of, extra_of}
use Rattle.fork_bytes.proofs.Placing.{number_in_part}

headers : (a b c d e f g h : ℕ) → a ≡ e → b ≡ f → c ≡ g → d ≡ h →
    (let header : Header = record { data_offset = a; map_offset = b; data_length = c; map_length = d } in header)
    ≡ record { data_offset = e; map_offset = f; data_length = g; map_length = h }
headers a b c d e f g h first second third fourth =
    ap (λ (n : ℕ). record { data_offset = n; map_offset = b; data_length = c; map_length = d }) first
    ∙ ap (λ (n : ℕ). record { data_offset = e; map_offset = n; data_length = c; map_length = d }) second
    ∙ ap (λ (n : ℕ). record { data_offset = e; map_offset = f; data_length = n; map_length = d }) third
    ∙ ap (λ (n : ℕ). record { data_offset = e; map_offset = f; data_length = g; map_length = n }) fourth

-- the header is in the first 16
pub header_of_front : (fork : List ℕ) (n : ℕ) → 16 ≤ n → header_of (take n (drop 0 fork)) ≡ header_of fork
header_of_front fork n long = headers _ _ _ _ _ _ _ _
    (number_in_part 4 n 0 0 fork (omega arith)) (number_in_part 4 n 4 0 fork (omega arith))
    (number_in_part 4 n 8 0 fork (omega arith)) (number_in_part 4 n 12 0 fork (omega arith))

-- the extra bytes are the 240 after it
pub extra_of_front : (fork : List ℕ) (n : ℕ) → n ≡ min (length fork) 256 → take 240 (drop 16 (take n fork) ++ replicate 240 0) ≡ extra_of fork
extra_of_front fork n is = by_case (cases_lt 256 (length fork))
  where
    by_case : (256 < length fork) ⊎ (length fork ≤ 256) → take 240 (drop 16 (take n fork) ++ replicate 240 0) ≡ extra_of fork
    by_case (inl long) =
        let count : n ≡ 16 + 240 = omega arith in
        let after = length-drop 16 fork in
        let whole = length-take-le 240 (drop 16 fork) (omega arith) in
        let front : drop 16 (take n fork) ≡ take 240 (drop 16 fork) = ap (λ (k : ℕ). drop 16 (take k fork)) count ∙ drop-take 16 240 fork in
        ap (λ (xs : List ℕ). take 240 (xs ++ replicate 240 0)) front
        ∙ take-append-le 240 (take 240 (drop 16 fork)) (replicate 240 0) (omega (arith, whole))
        ∙ take-take 240 240 (drop 16 fork) (omega arith)
        ∙ sym (take-append-le 240 (drop 16 fork) (replicate 240 0) (omega arith))
    by_case (inr short) = ap (λ (xs : List ℕ). take 240 (drop 16 xs ++ replicate 240 0)) (take_all n fork (omega arith))
