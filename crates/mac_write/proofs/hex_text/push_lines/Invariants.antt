use Rattle.std.proofs.Common.{◌≡◌, ◌≤◌, ◌++◌, drop}
use Rattle.mac_write.specs.HexText.{in_lines}
use Rattle.mac_write.proofs.hex_text.push_lines.Given as goal

-- with the lines of what is left, all lines
abbrev pub invariant-loop-character : goal.invariant-loop-character
invariant-loop-character l = record {
  lines : l.new.items ++ in_lines l.room (drop l.character-index l.characters) ≡ l.fn.new.items ++ in_lines 64 l.characters;
  room : l.room ≤ 64;
}
