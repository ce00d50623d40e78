use Rattle.std.proofs.Common.{rules, arith, List, ◌*◌, ◌<◌, ◌≤◌, length, drop, ap, ◌∙◌}
use Rattle.res_table.specs.Keyed.{KeyedPairs}
use Rattle.res_table.proofs.Pairs.{rank_within}
use Rattle.res_table.proofs.FreeKeys.{part_is}
use Rattle.res_table.specs.declared.keyed.Pair.{Pair}
use Rattle.res_table.proofs.keyed.Keyed.from_key.Goals as goal

within : (c : goal.After-deref) → c.rank-first.result ≤ length c.deref.result.now
within c =
    let most = rank_within (record { key = c.args.key; place = 0 }) c.args.self.now.pairs in
    let is = c.rank-first.ensures in let same = ap (λ (ps : List Pair). length ps) (c.deref.ensures.value ∙ ap (λ (k : KeyedPairs). k.pairs) c.self.view_is) in omega arith

pub offset_bounds-deref-first : goal.offset_bounds-deref-first
offset_bounds-deref-first c =
    let most = within c in let small = c.deref.type_inv in
    let low : c.rank-first.result * 16 < 18446744073709551616 = omega arith in search (rules, low)

pub slice_bounds-result-count : goal.slice_bounds-result-count
slice_bounds-result-count c = within c

pub slice_bounds-result-start : goal.slice_bounds-result-start
slice_bounds-result-start c = within c

pub returns : goal.returns
returns c =
    let ps = c.args.self.now.pairs in
    part_is c.rank-first.result ps c.deref.result.now (c.deref.ensures.value ∙ ap (λ (k : KeyedPairs). k.pairs) c.self.view_is) ∙ ap (λ n. drop n ps) c.rank-first.ensures
