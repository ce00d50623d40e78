use Rattle.std.proofs.Common.{◌≡◌, drop, length}
use Rattle.std.specs.Cmp.Lexicographic.{pointwise}
use Rattle.volume_names.specs.Letters.{is_same_byte, is_same_text}
use Rattle.volume_names.proofs.letters.is_same_text.Given as goal

-- they are the same where what is left of them is
abbrev pub invariant-loop-index : goal.invariant-loop-index
invariant-loop-index l = (pointwise (is_same_byte l.rule) (drop l.index l.first) (drop l.index l.second) ≡ is_same_text l.rule l.first l.second) × (length l.first ≡ length l.second)
