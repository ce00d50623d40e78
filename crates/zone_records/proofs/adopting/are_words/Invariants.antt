use Rattle.std.proofs.Common.{◌≡◌, ◌*◌, ◌<◌, ℕ}
use Rattle.zone_records.specs.Masters.{slot_of, word_at}
use Rattle.zone_records.specs.Word.{slot_word}
use Rattle.zone_records.proofs.adopting.are_words.Given as goal

abbrev pub invariant-loop-index : goal.invariant-loop-index
invariant-loop-index l = (k : ℕ) → k < l.index → slot_word l.heads (slot_of l.heads l.words k) ≡ word_at l.words (4 * k)
