use Rattle.std.proofs.Common.{◌∙◌, arith}
use Rattle.mac_files.proofs.BinHexCrc.{bin_hex_crc_is}
use Rattle.mac_files.proofs.bin_hex.crc.crc.Goals as goal

pub returns : goal.returns
returns c = c.crc_of.ensures ∙ bin_hex_crc_is c.args.bytes.now (λ k. omega (arith, c.type_inv.bytes k))
