use Rattle.std.proofs.Common.{ℕ, List, ◌++◌, ◌∙◌, ap, sym}
use Rattle.std.proofs.lemmas.List.{append-nil}
use Rattle.mac_salvage.proofs.Mending.{mended_at_end}
use Rattle.mac_salvage.proofs.text.mended.Goals as goal

pub returns : goal.returns
returns c =
    sym (append-nil c.loop-at.characters.items)
    ∙ ap (λ (t : List ℕ). c.loop-at.characters.items ++ t) (sym (mended_at_end c.args.text.now c.loop-at.at c.loop-at-test.false))
    ∙ c.loop-at.invariant.characters
