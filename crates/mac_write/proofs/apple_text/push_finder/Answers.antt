use Rattle.std.proofs.Common.{replicate}
use Rattle.byteorder.specs.Endian.{big_bytes}
use Rattle.mac_write.proofs.Added.{four_added}
use Rattle.mac_write.proofs.apple_text.push_finder.Goals as goal

pub returns : goal.returns
returns c =
    let finder = c.args.file.now.finder in
    four_added c.args.new.now.items c.extend_from_slice.new.self.items c.extend_from_slice-2.new.self.items c.push_two.new.bytes.items c.push_zeros.new.bytes.items
    finder.kind finder.creator (big_bytes 2 finder.flags) (replicate 22 0)
    c.in_ok-extend_from_slice.ensures.items c.in_ok-extend_from_slice-2.ensures.items c.in_ok-push_two.ensures c.in_ok-push_zeros.ensures
