use Rattle.std.proofs.Common.{◌≡◌, ◌+◌, ◌≤◌, drop}
use Rattle.std.specs.List.{prefix_len}
use Rattle.type_source.specs.Tokens.{goes_on}
use Rattle.type_source.proofs.run.Run.count.Given as goal

-- the bytes so far are of the run
abbrev pub invariant-loop-byte : goal.invariant-loop-byte
invariant-loop-byte l = record {
  all : l.count + prefix_len (goes_on l.self) (drop l.byte-index l.text) ≡ prefix_len (goes_on l.self) l.text;
  most : l.count ≤ l.byte-index;
}
