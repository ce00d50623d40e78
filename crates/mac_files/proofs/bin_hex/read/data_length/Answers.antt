use Rattle.std.proofs.Common.{◌∙◌, refl}
use Rattle.mac_files.specs.BinHex.{data_length}
use Rattle.mac_files.proofs.bin_hex.read.data_length.Goals as goal

pub returns-clause-length : goal.returns-clause-length
unfolding data_length
returns-clause-length c = c.read_four.ensures ∙ rw (c.deref.ensures.value, c.requires.decoded.bytes, c.requires.name) refl
