use Rattle.std.proofs.Common.{◌≡◌, ◌<◌, ◌+◌, ◌*◌, false, length, vec_len}
use Rattle.sum_tree.specs.Rows.{IsSameOutside}
use Rattle.sum_tree.specs.Stale.{AreRight, IsMixture, IsListed}
use Rattle.sum_tree.proofs.runs.measure_group.Given as goal

abbrev pub invariant-loop-place : goal.invariant-loop-place
invariant-loop-place g l =
    let m = g.M.Monoid in
    let value = g.S.Source.value l.source in
    record {
      count : length l.listed ≡ length l.row;
      others : IsSameOutside m.empty l.fn.row l.row (8 * l.group) (8 * l.group + 8);
      mixed : IsMixture m.empty l.fn.row l.row value;
      listed : IsListed false l.listed l.pending.items;
      right : AreRight m.empty l.row l.listed value;
      shorter : length l.pending.items < length l.fn.pending.items;
    }

abbrev pub decreases-loop-place : goal.decreases-loop-place
decreases-loop-place g l = vec_len l.pending
