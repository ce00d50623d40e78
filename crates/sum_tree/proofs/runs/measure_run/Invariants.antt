use Rattle.std.proofs.Common.{◌≡◌, ℕ, ◌<◌, ◌≤◌, length, get_or}
use Rattle.sum_tree.proofs.runs.measure_run.Given as goal

abbrev pub invariant-loop-place : goal.invariant-loop-place
invariant-loop-place g l =
    let m = g.M.Monoid in
    record {
      places : length l.row ≡ length l.fn.row;
      right : (j : ℕ) → j < l.place → get_or l.row j m.empty ≡ g.S.Source.value l.source j;
      others : (j : ℕ) → l.place ≤ j → get_or l.row j m.empty ≡ get_or l.fn.row j m.empty;
    }
