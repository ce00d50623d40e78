use Rattle.std.proofs.Common.{◌≡◌, ◌≤◌, ◌+◌, take, length}
use Rattle.std.specs.List.{suffix_len}
use Rattle.type_source.specs.Place.{is_in_line}
use Rattle.type_source.proofs.place.last_line.Given as goal

-- the bytes from the start on are in the last line
abbrev pub invariant-loop-start : goal.invariant-loop-start
invariant-loop-start l = record {
  last : l.start + suffix_len is_in_line l.text ≡ length l.text + suffix_len is_in_line (take l.start l.text);
  within : l.start ≤ length l.text;
}

abbrev pub decreases-loop-start : goal.decreases-loop-start
decreases-loop-start l = l.start
