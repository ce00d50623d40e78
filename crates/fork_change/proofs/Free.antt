-- The least id that is free.
use Rattle.std.proofs.Common.{◌≡◌, ℕ, suc, ◌+◌, ◌-◌, ◌<◌, ◌≤◌, pos, true, List, None, Some, ap, ◌∙◌, arith, if◌then◌else◌}
use Rattle.std.specs.Prelude.{nat_lt}
use Rattle.std.proofs.lemmas.Bool.{cond-false, cond-true, le-ltb}
use Rattle.fork_bytes.specs.Rows.{Row}
use Rattle.fork_change.specs.Rows.{is_there}
use Rattle.fork_change.specs.Copies.{least_free}

-- one more is taken
pub least_step : (kind : List ℕ) (rows : List Row) (most n : ℕ) → n < most → n ≤ 32639 → is_there (record { kind = kind; id = pos (128 + n) }) rows ≡ true →
    least_free kind rows (most - n) (128 + n) ≡ least_free kind rows (most - (n + 1)) (128 + (n + 1))
least_step kind rows most n below low taken =
    let left = most - (n + 1) in
    let one : most - n ≡ suc (most - (n + 1)) = omega arith in
    let next : 128 + n + 1 ≡ 128 + (n + 1) = omega arith in
    ap (λ (k : ℕ). least_free kind rows k (128 + n)) one
    ∙ cond-false (nat_lt 32767 (128 + n)) None (if is_there (record { kind = kind; id = pos (128 + n) }) rows then least_free kind rows left (128 + n + 1) else Some (pos (128 + n))) (le-ltb 32767 (128 + n) (omega arith))
    ∙ cond-true (is_there (record { kind = kind; id = pos (128 + n) }) rows) (least_free kind rows left (128 + n + 1)) (Some (pos (128 + n))) taken
    ∙ ap (least_free kind rows left) next
