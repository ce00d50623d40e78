use Rattle.std.proofs.Common.{◌≡◌, List, ℕ, [], ◌++◌, drop}
use Rattle.std.specs.Fmt.{HasWritten, IsPlainFormatter}
use denote.Shadow.{shadow}
use denote.Text.{Utf8}
use Rattle.fork_list.specs.Attributes.{words_of}
use Rattle.fork_list.proofs.attribute.AttributesDisplay.fmt.Given as goal

abbrev pub invariant-loop-attribute : goal.invariant-loop-attribute
invariant-loop-attribute g l =
    shadow (Utf8 l.separator)
    × (IsPlainFormatter l.initial.f → (done : List ℕ) × HasWritten g.W.Write.write_str_gives l.initial.f done l.f
    × (done ++ words_of l.separator l.bits (drop l.attribute-index l.attribute-items) ≡ words_of [] l.bits l.attribute-items))
