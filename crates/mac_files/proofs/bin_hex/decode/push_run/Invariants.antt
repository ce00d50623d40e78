use Rattle.std.proofs.Common.{◌≡◌, ◌++◌, ◌+◌, replicate, vec_len, vec_capacity}
use Rattle.mac_files.proofs.bin_hex.decode.push_run.Given as goal

abbrev pub invariant-loop : goal.invariant-loop
invariant-loop l = record {
  items : l.bytes.items ≡ l.initial.bytes.items ++ replicate l.counter l.run.value;
  len : vec_len l.bytes ≡ vec_len l.initial.bytes + l.counter;
  room : vec_capacity l.bytes ≡ vec_capacity l.initial.bytes;
}
