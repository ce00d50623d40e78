-- Parts of two lists, one after the other.
use Rattle.std.proofs.Common.{◌≡◌, ℕ, ◌+◌, ◌≤◌, List, ◌++◌, length, take, drop, ap, ◌∙◌, arith, length-drop}
use Rattle.std.proofs.lemmas.List.{take-append-le, drop-append-le}
use Rattle.std.proofs.Math.Seq.{drop-append-add}
use Rattle.raw_region.specs.Bytes.{part}

-- a part of the first
pub part-append-first : (us vs : List ℕ) (at n : ℕ) → at + n ≤ length us → part (us ++ vs) at n ≡ part us at n
part-append-first us vs at n fits = let cut = length-drop at us in
    ap (take n) (drop-append-le at us vs (omega arith)) ∙ take-append-le n (drop at us) vs (omega arith)

-- a part of the second
pub part-append-second : (us vs : List ℕ) (at n : ℕ) → part (us ++ vs) (length us + at) n ≡ part vs at n
part-append-second us vs at n = ap (take n) (drop-append-add us vs at)
