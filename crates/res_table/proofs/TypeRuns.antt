-- Runs of which none has the type of the one before it are the types of rows.
use Rattle.std.proofs.Common.{◌≡◌, sym, ap, ◌∙◌, arith, refl, ℕ, zero, suc, ◌+◌, ◌≤◌, List, [], ◌∷◌, ◌++◌, drop, replicate, Bool, true, ◌&&◌, Option, None, Some, bytes_eq, if◌then◌else◌}
use Rattle.std.specs.Prelude.{nat_lt}
use Rattle.std.proofs.lemmas.Bool.{ltb-true, not-true, and_parts}
use Rattle.fork_bytes.specs.declared.layout.TypeCount.{TypeCount}
use Rattle.fork_bytes.specs.Written.{counted_before}
use Rattle.res_table.specs.declared.row.Row.{Row}
use Rattle.res_table.specs.Indexed.{kinds_of}
use Rattle.res_table.specs.Kinds.{expanded, is_other, are_types}
use Rattle.res_table.specs.Saved.{row_types}
use Rattle.res_table.proofs.RunTypes.{same_kind}

-- each run has rows, and of another type than the run before it
abbrev AreTypes : Option (List ℕ) → List TypeCount → Type 0
AreTypes last [] = Unit {0}
AreTypes last (run ∷ runs) = (1 ≤ run.count) × (is_other last run.kind ≡ true) × AreTypes (Some run.kind) runs

from_told : (last : Option (List ℕ)) (runs : List TypeCount) → are_types last runs ≡ true → AreTypes last runs
from_told last [] told = tt
from_told last (run ∷ runs) told =
    let all = and_parts (nat_lt 0 run.count && is_other last run.kind) (are_types (Some run.kind) runs) told in
    let here = and_parts (nat_lt 0 run.count) (is_other last run.kind) all.0 in
    (ltb-true 0 run.count here.0, here.1, from_told (Some run.kind) runs all.1)

no_rows : (n : ℕ) (kind : List ℕ) (ks : List (List ℕ)) → 1 ≤ n → replicate n kind ++ ks ≡ [] → ⊥
no_rows zero kind ks few is = omega (arith, few)
no_rows (suc n) kind ks few is = absurd (cc is)

abbrev first : List (List ℕ) → List ℕ
first [] = []
first (k ∷ ks) = k

-- one row before runs of which the first is of another type
alone : (kind : List ℕ) (runs : List TypeCount) → AreTypes (Some kind) runs → counted_before kind 1 runs ≡ record { kind = kind; count = 1 } ∷ runs
alone kind [] types = refl
alone kind (run ∷ runs) types =
    ap (λ (b : Bool). if b then record { kind = kind; count = 1 + run.count } ∷ runs else record { kind = kind; count = 1 } ∷ run ∷ runs) (not-true (bytes_eq kind run.kind) types.1)

-- one row more before rows of its type
joined : (kind : List ℕ) (n : ℕ) (runs : List TypeCount) → counted_before kind 1 (record { kind = kind; count = suc n } ∷ runs) ≡ record { kind = kind; count = suc (suc n) } ∷ runs
joined kind n runs =
    let count : 1 + suc n ≡ suc (suc n) = omega arith in
    ap (λ (b : Bool). if b then record { kind = kind; count = 1 + suc n } ∷ runs else record { kind = kind; count = 1 } ∷ record { kind = kind; count = suc n } ∷ runs) (same_kind kind)
    ∙ ap (λ (m : ℕ). let run : TypeCount = record { kind = kind; count = m } in run ∷ runs) count

are_same : {D : Type 0} (rows : List (Row D)) (last : Option (List ℕ)) (runs : List TypeCount) → AreTypes last runs → expanded runs ≡ kinds_of rows → row_types rows ≡ runs
are_same [] last [] types is = refl
are_same [] last (run ∷ runs) types is = absurd (no_rows run.count run.kind (expanded runs) types.0 is)
are_same (r ∷ rows) last [] types is = absurd (cc is)
are_same {D} (r ∷ rows) last (run ∷ runs) types is = by run.count types.0 is (are_same rows)
  where
    kind : List ℕ
    kind = r.resource.kind

    by : (n : ℕ) → 1 ≤ n → replicate n run.kind ++ expanded runs ≡ kind ∷ kinds_of rows
        → ((before : Option (List ℕ)) (others : List TypeCount) → AreTypes before others → expanded others ≡ kinds_of rows → row_types rows ≡ others)
        → counted_before kind 1 (row_types rows) ≡ record { kind = run.kind; count = n } ∷ runs
    by zero few is deeper = absurd (omega (arith, few))
    by (suc zero) few is deeper =
        ap (counted_before kind 1) (deeper (Some run.kind) runs types.2 (ap (drop 1) is))
        ∙ ap (λ (k : List ℕ). counted_before k 1 runs) (sym (ap first is)) ∙ alone run.kind runs types.2
    by (suc (suc n)) few is deeper =
        let run_left : TypeCount = record { kind = run.kind; count = suc n } in
        ap (counted_before kind 1) (deeper last (run_left ∷ runs) (omega arith, types.1, types.2) (ap (drop 1) is))
        ∙ ap (λ (k : List ℕ). counted_before k 1 (run_left ∷ runs)) (sym (ap first is)) ∙ joined run.kind n runs

pub runs_are : {D : Type 0} (rows : List (Row D)) (runs : List TypeCount) → are_types None runs ≡ true → expanded runs ≡ kinds_of rows → row_types rows ≡ runs
runs_are rows runs told is = are_same rows None runs (from_told None runs told) is
