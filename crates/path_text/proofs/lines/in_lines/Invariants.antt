use Rattle.std.proofs.Common.{◌≡◌, map, take, chars, string_bytes}
use Rattle.std.specs.List.{flat_map}
use Rattle.path_text.specs.FileNames.{in_line}
use Rattle.path_text.proofs.lines.in_lines.Given as goal

-- the texts so far
abbrev pub invariant-loop-text : goal.invariant-loop-text
invariant-loop-text g l = map string_bytes l.shown.items ≡ map (λ text. flat_map in_line (chars (g.S.AsStr.text text))) (take l.text-index l.texts)
