use Rattle.std.proofs.Common.{◌≡◌, ◌++◌, take, string_bytes}
use Rattle.std.specs.List.{flat_map}
use Rattle.image_paths.specs.HostNames.{first_letter, letter}
use Rattle.image_paths.proofs.host_name.letters_text.Given as goal

abbrev pub invariant-loop-byte : goal.invariant-loop-byte
invariant-loop-byte l = string_bytes l.text ≡ first_letter l.fn.first ++ flat_map letter (take l.byte-index l.rest)
