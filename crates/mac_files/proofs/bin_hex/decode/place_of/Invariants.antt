use Rattle.std.proofs.Common.{◌≡◌, ◌<◌, ◌-◌, length, slice_index}
use Rattle.mac_files.specs.BinHex.{decoded_from, places_of}
use Rattle.mac_files.specs.BinHexLeft.{runs_left}
use Rattle.mac_files.proofs.bin_hex.decode.place_of.Given as goal

-- the byte is so far from the first that is left
abbrev pub invariant-loop-run : goal.invariant-loop-run
invariant-loop-run l = record {
  place : slice_index (places_of (runs_left l.runs)) l.before ≡ slice_index (places_of (decoded_from l.from l.text)) l.index;
  there : l.before < length (runs_left l.runs).values;
  text : l.runs.packed.digits.text.now ≡ l.text;
}

-- the characters that are left
abbrev pub decreases-loop-run : goal.decreases-loop-run
decreases-loop-run l = length l.text - l.runs.packed.digits.at
