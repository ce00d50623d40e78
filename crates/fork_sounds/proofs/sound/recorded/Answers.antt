use Rattle.std.proofs.Common.{ℕ, List, sym, subst, arith}
use Rattle.fork_sounds.specs.declared.coding.Depth.{Depth}
use Rattle.fork_sounds.specs.Codings.{depth_of}
use Rattle.fork_sounds.specs.Sounds.{IsRecording}
use Rattle.fork_sounds.proofs.Recorded.{recorded_right}
use Rattle.fork_sounds.proofs.sound.recorded.Goals as goal

pub new-requires : goal.new-requires
new-requires c =
    let source = c.args.source in
    let P : Depth → List ℕ → Type 0 = λ depth samples. IsRecording (record { rate = source.rate; channels = source.channels; depth = depth; samples = samples }) in
    let Q : List ℕ → Type 0 = λ samples. P (depth_of source.coding) samples in
    let R : Depth → Type 0 = λ depth. P depth c.in_ok-samples.samples.items in
    let right = recorded_right c.args.bytes.now source c.requires.is c.requires.small (λ k. let fit = c.type_inv.bytes k in omega (arith, fit)) in
    subst R (sym c.depth.ensures) (subst Q (sym c.in_ok-samples.ensures) right)
