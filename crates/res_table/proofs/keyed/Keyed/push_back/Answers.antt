use Rattle.std.proofs.Common.{◌+◌, ◌<◌, List, subst, sym, ap, ◌∙◌, arith}
use Rattle.std.specs.Prelude.{All}
use Rattle.res_table.specs.Keyed.{KeyedPairs}
use Rattle.res_table.specs.declared.keyed.Pair.{Pair}
use Rattle.res_table.proofs.Pairs.{unmoved}
use Rattle.res_table.proofs.keyed.Keyed.push_back.Goals as goal

pub push_back-requires : goal.push_back-requires
push_back-requires c =
    subst (λ (ps : List Pair). All (λ p. p.place + 1 < 18446744073709551616) ps) (sym (c.deref_mut.ensures.value ∙ ap (λ (k : KeyedPairs). k.pairs) c.self.view_is))
    (λ k d inside. (let low = c.requires k d inside in let most = c.ranges.count in omega arith))

pub returns-else-at-count-clause-pairs : goal.returns-else-at-count-clause-pairs
returns-else-at-count-clause-pairs c =
    let past = c.if-at-count.false in
    sym (unmoved c.args.at c.args.self.now.pairs (λ k d inside. (let low = c.requires k d inside in omega arith)))
