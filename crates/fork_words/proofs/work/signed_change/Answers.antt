use Rattle.std.proofs.Common.{◌≡◌, true, lit<, subst, sym, List, ℕ}
use Rattle.std.specs.Str.Iter.{split_has_more, split_pattern, split_text}
use Rattle.std.proofs.lemmas.Iterator.Splits.{YieldsList-from_str_split}
use Rattle.std.proofs.lemmas.Iterator.Consumers.{YieldsList-end}
use Rattle.fork_words.specs.Named.{ChangeBits, no_change}
use Rattle.fork_words.proofs.Naming.{change_more, one_more}
use Rattle.fork_words.proofs.work.signed_change.Goals as goal

pub returns : goal.returns
returns c =
    let same = c.into_iter-word-iterator.ensures.into_iter_gives in
    let split = c.split-word-items.ensures in
    let text : split_text c.into_iter-word-iterator.result ≡ c.args.words.now = rw same split.text in
    let more : split_has_more c.into_iter-word-iterator.result ≡ true = rw same split.has_more in
    let comma : split_pattern c.into_iter-word-iterator.result ≡ 44 = rw same split.pattern in
    let all = YieldsList-end (YieldsList-from_str_split 44 c.args.words.now (lit< tt) text more comma)
    c.loop-word.yielded _ c.loop-word.yielded_by _ _ c.in-None.is c.next.ensures.steps in
    subst (λ (t : List (List ℕ)). ChangeBits no_change t c.loop-word.change) all.0 c.loop-word.invariant

pub loop-word-preserved : goal.loop-word-preserved
loop-word-preserved c =
    subst (λ (t : List (List ℕ)). ChangeBits no_change t c.in_ok-change.change) (sym (one_more c.loop-word.yielded c.in-Some.word))
    (change_more no_change _ c.loop-word.change c.in-Some.word.now c.in_ok-change.change c.loop-word.invariant c.in_ok-change.ensures)
