use Rattle.std.proofs.Common.{◌++◌, ◌-◌, ℕ, length, sym, refl, ap, ◌∙◌, take, drop, arith}
use Rattle.std.proofs.lemmas.List.{length-take-le}
use Rattle.byteorder.specs.Endian.{big_bytes}
use Rattle.mac_files.specs.Crc.{crc_of}
use Rattle.mac_write.proofs.Lists.{summed, written_at}
use Rattle.mac_write.proofs.binary.write_sum.Goals as goal

pub slice_bounds-crc_of-end-in-II : goal.slice_bounds-crc_of-end-in-II
slice_bounds-crc_of-end-in-II c = sym (length-take-le 124 c.args.header.now (omega arith))

pub returns-in-II : goal.returns-in-II
returns-in-II c =
    let header = c.args.header.now in
    let rest = drop 2 (take (length header - 124) (drop 124 header)) in
    let buffer = c.write_u16.ensures ∙ ap (λ (n : ℕ). big_bytes 2 n ++ rest) c.crc_of-sum.ensures in
    written_at 124 2 header (big_bytes 2 (crc_of (take 124 header))) c.write_u16.new.buf (omega arith) refl buffer
    ∙ summed c.args.version header c.in-II.is
