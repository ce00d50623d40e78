use Rattle.std.proofs.Common.{◌≡◌, ◌∙◌, ◌++◌, ◌+◌, ◌-◌, ◌/◌, List, ℕ, suc, drop, length, take, sym, ap, append_assoc, arith}
use Rattle.std.specs.List.{flat_map}
use Rattle.std.specs.Simd.{first_chunks}
use Rattle.fork_rez.specs.Text.{commented}
use Rattle.fork_rez.proofs.text.push_lines.Goals as goal

pub loop-line-preserved : goal.loop-line-preserved
loop-line-preserved c =
    let n = (length c.args.bytes.now + 15) / 16 in
    let i = c.loop-line._line in
    let out = c.loop-line.out.items in
    let rest = c.loop-line.rest.now in
    let left : n - i ≡ suc (n - (i + 1)) = omega arith in
    let others : List ℕ = flat_map commented (first_chunks 16 (n - (i + 1)) (drop 16 rest)) in
    ap (λ (t : List ℕ). t ++ flat_map commented (first_chunks 16 (n - (i + 1)) c.first_line.result.1.now)) (c.in_ok-push_commented.ensures ∙ ap (λ (t : List ℕ). out ++ commented t) c.first_line.ensures.line)
    ∙ ap (λ (t : List ℕ). (out ++ commented (take 16 rest)) ++ flat_map commented (first_chunks 16 (n - (i + 1)) t)) c.first_line.ensures.rest
    ∙ append_assoc out (commented (take 16 rest)) others
    ∙ sym (ap (λ (k : ℕ). out ++ flat_map commented (first_chunks 16 k rest)) left)
    ∙ c.loop-line.invariant
