use Rattle.std.proofs.Common.{◌∙◌, ℕ, ap, sym, ◌%◌}
use Rattle.std.specs.Int.{bit_at}
use Rattle.place_numbers.proofs.Marked.{read-bit, value}
use Rattle.place_numbers.proofs.words.WordsMarks.get.Goals as goal

pub returns : goal.returns
returns c =
    read-bit c.word_at.result (c.args.place % 64) ∙ ap (λ (n : ℕ). bit_at n (c.args.place % 64)) c.word_at.ensures
    ∙ sym (value c.self.inside.items.items c.self.inside.count c.self.invariant.past c.args.self.now c.self.view_is c.args.place)
