use Rattle.std.proofs.Common.{◌≡◌, ◌&&◌, not, nat_le, take}
use Rattle.std.specs.List.{list_all}
use Rattle.script_lang.specs.Text as texts
use Rattle.script_lang.proofs.literal.are_plain.Given as goal

-- whether the bytes so far stand for themselves
abbrev pub invariant-loop-byte : goal.invariant-loop-byte
invariant-loop-byte l = (nat_le l.most 94 && not l.has_quote) ≡ list_all (texts.is_plain l.quote) (take l.byte-index l.bytes)
