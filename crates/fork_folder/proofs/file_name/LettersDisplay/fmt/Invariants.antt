use Rattle.std.proofs.Common.{take}
use Rattle.std.specs.List.{flat_map}
use Rattle.std.specs.Fmt.{HasWritten, IsPlainFormatter}
use Rattle.fork_folder.specs.Names.{letter}
use Rattle.fork_folder.proofs.file_name.LettersDisplay.fmt.Given as goal

-- the letters so far are written
abbrev pub invariant-loop-byte : goal.invariant-loop-byte
invariant-loop-byte g l =
    IsPlainFormatter l.initial.f → HasWritten g.W.Write.write_str_gives l.initial.f (flat_map letter (take l.byte-index l.byte-items)) l.f
