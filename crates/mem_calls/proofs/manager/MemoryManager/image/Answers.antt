use Rattle.std.proofs.Common.{arith}
use Rattle.std.proofs.lemmas.List.{nil_from_length}
use Rattle.mem_calls.proofs.manager.MemoryManager.image.Goals as goal

pub image-requires : goal.image-requires
image-requires c = rw c.linked.ensures.zone (record { nothing_lent = nil_from_length _ (omega arith) })
