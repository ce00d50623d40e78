use Rattle.std.proofs.Common.{◌≡◌, drop, length}
use Rattle.std.specs.Cmp.Lexicographic.{pointwise}
use Rattle.res_table.specs.Names.{is_same_letter, is_same_name}
use Rattle.res_table.proofs.names.is_same_name.Given as goal

-- the names are the same where what is left of them is
abbrev pub invariant-loop-index : goal.invariant-loop-index
invariant-loop-index l = (pointwise is_same_letter (drop l.index l.first) (drop l.index l.second) ≡ is_same_name l.first l.second) × (length l.first ≡ length l.second)
