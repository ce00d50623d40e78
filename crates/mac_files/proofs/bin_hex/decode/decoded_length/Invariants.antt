use Rattle.std.proofs.Common.{◌≡◌, ◌+◌, ◌-◌, length}
use Rattle.mac_files.specs.BinHex.{decoded_from}
use Rattle.mac_files.specs.BinHexLeft.{runs_left}
use Rattle.mac_files.proofs.bin_hex.decode.decoded_length.Given as goal

abbrev pub invariant-loop-run : goal.invariant-loop-run
invariant-loop-run l = record {
  counted : l.count + length (runs_left l.runs).values ≡ length (decoded_from l.from l.text).values;
  text : l.runs.packed.digits.text.now ≡ l.text;
}

-- the characters that are left
abbrev pub decreases-loop-run : goal.decreases-loop-run
decreases-loop-run l = length l.text - l.runs.packed.digits.at
