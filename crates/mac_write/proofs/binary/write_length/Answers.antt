use Rattle.std.proofs.Common.{refl, ap, ◌∙◌, length, arith}
use Rattle.byteorder.specs.Endian.{big_bytes}
use Rattle.mac_write.proofs.Lists.{length-put, written_at}
use Rattle.mac_write.proofs.binary.write_length.Goals as goal

pub returns-clause-header : goal.returns-clause-header
returns-clause-header c =
    written_at 87 4 c.args.header.now (big_bytes 4 c.args.count) c.write_u32.new.buf (omega arith) refl c.write_u32.ensures

pub returns-clause-same_length : goal.returns-clause-same_length
returns-clause-same_length c =
    ap length (written_at 87 4 c.args.header.now (big_bytes 4 c.args.count) c.write_u32.new.buf (omega arith) refl c.write_u32.ensures)
    ∙ length-put 87 (big_bytes 4 c.args.count) c.args.header.now (omega arith)
