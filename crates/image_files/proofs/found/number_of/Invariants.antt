use Rattle.std.proofs.Common.{◌≡◌, ◌+◌, ◌^◌, ◌≤◌, true, take, fold}
use Rattle.std.specs.List.{list_all}
use Rattle.image_files.specs.Finding.{is_digit, with_digit}
use Rattle.image_files.proofs.found.number_of.Given as goal

-- the number of the digits so far
abbrev pub invariant-loop-byte : goal.invariant-loop-byte
invariant-loop-byte l = record {
  number : l.number ≡ fold with_digit 0 (take l.byte-index l.text);
  small : l.number + 1 ≤ 10 ^ l.byte-index;
  digits : list_all is_digit (take l.byte-index l.text) ≡ true;
}
