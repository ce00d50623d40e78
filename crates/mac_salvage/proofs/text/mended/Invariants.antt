use Rattle.std.proofs.Common.{◌≡◌, ◌≤◌, ◌++◌, length, drop, vec_len, vec_capacity}
use Rattle.mac_salvage.specs.Texts.{mended}
use Rattle.mac_salvage.proofs.text.mended.Given as goal

-- the characters so far and those that are left are all, and there is room for each
abbrev pub invariant-loop-at : goal.invariant-loop-at
invariant-loop-at l = record {
  characters : l.characters.items ++ mended (drop l.at l.text) ≡ mended l.text;
  count : vec_len l.characters ≡ l.at;
  room : length l.text ≤ vec_capacity l.characters;
}
