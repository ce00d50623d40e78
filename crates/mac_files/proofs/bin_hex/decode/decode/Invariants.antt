use Rattle.std.proofs.Common.{◌≡◌, ◌++◌, ◌+◌, ◌-◌, length, vec_len, vec_capacity}
use Rattle.mac_files.specs.BinHex.{decoded_from, values_of}
use Rattle.mac_files.specs.BinHexLeft.{runs_left}
use Rattle.mac_files.proofs.bin_hex.decode.decode.Given as goal

-- the bytes so far and those that are left are all, and there is room for just these
abbrev pub invariant-loop-run : goal.invariant-loop-run
invariant-loop-run l = record {
  bytes : l.bytes.items ++ values_of (runs_left l.runs) ≡ values_of (decoded_from l.from l.text);
  ending : (runs_left l.runs).ending ≡ (decoded_from l.from l.text).ending;
  room : vec_capacity l.bytes ≡ vec_len l.bytes + length (runs_left l.runs).values;
  text : l.runs.packed.digits.text.now ≡ l.text;
}

-- the characters that are left
abbrev pub decreases-loop-run : goal.decreases-loop-run
decreases-loop-run l = length l.text - l.runs.packed.digits.at
