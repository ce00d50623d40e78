use Rattle.std.proofs.Common.{◌≡◌, drop, length}
use Rattle.std.specs.Cmp.Lexicographic.{pointwise}
use Rattle.disk_image.specs.Maps.{is_letter, is_kind}
use Rattle.disk_image.proofs.part.is_kind.Given as goal

-- they are the same where what is left of them is
abbrev pub invariant-loop-index : goal.invariant-loop-index
invariant-loop-index l = (pointwise is_letter (drop l.index l.kind_text) (drop l.index l.text) ≡ is_kind l.kind l.text) × (length l.kind_text ≡ length l.text)
