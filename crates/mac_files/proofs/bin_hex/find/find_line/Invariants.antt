use Rattle.std.proofs.Common.{◌≡◌, drop, true}
use Rattle.mac_files.specs.BinHex.{line_from}
use Rattle.mac_files.proofs.bin_hex.find.find_line.Given as goal

-- what is found from here on is what is found from the start on
abbrev pub invariant-loop-at : goal.invariant-loop-at
invariant-loop-at l = line_from l.mark l.begins l.at (drop l.at l.text) ≡ line_from l.mark true l.from (drop l.from l.text)
