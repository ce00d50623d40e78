use Rattle.std.proofs.Common.{sym, arith}
use Rattle.std.proofs.lemmas.List.{length-take-le}
use Rattle.mac_files.proofs.mac_binary.check_sum.Goals as goal

pub slice_bounds-summed-end : goal.slice_bounds-summed-end
slice_bounds-summed-end c = sym (length-take-le 124 c.args.file.now (omega arith))
