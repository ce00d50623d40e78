use Rattle.std.proofs.Common.{◌≡◌, ◌∙◌, length, sym, arith}
use Rattle.std.proofs.lemmas.Bool.Decides.{nat_tests}
use Rattle.std.proofs.lemmas.List.{get_or_read, take_more_same}
use Rattle.fork_texts.proofs.Same.{entry_is}
use Rattle.fork_texts.proofs.entry.same_entries.Goals as goal

pub loop-at-preserved : goal.loop-at-preserved
loop-at-preserved c =
    let x = c.index-some-at.result in
    let y = c.index-others-at.result in
    let i = c.loop-at.at in
    let some = c.args.some.now in
    let others = c.args.others.now in
    let long : length some ≡ length others = grind (arith, nat_tests) in
    let same = entry_is x y (sym c.is_same.ensures ∙ c.if-not-is_same.false) in
    take_more_same some others i x (omega arith) (omega arith) c.loop-at.invariant
    (sym (get_or_read some i x (omega arith) c.index-some-at.is x) ∙ same ∙ get_or_read others i y (omega arith) c.index-others-at.is x)
