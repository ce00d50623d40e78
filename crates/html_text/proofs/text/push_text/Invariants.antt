use Rattle.std.proofs.Common.{◌≡◌, ◌++◌, take}
use Rattle.html_text.specs.Texts.{html_text}
use Rattle.html_text.proofs.text.push_text.Given as goal

-- what is written of the bytes so far
abbrev pub invariant-loop-byte : goal.invariant-loop-byte
invariant-loop-byte l = l.page.items ≡ l.fn.page.items ++ html_text (take l.byte-index l.text)
