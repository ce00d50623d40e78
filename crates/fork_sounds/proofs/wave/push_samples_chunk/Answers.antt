use Rattle.std.proofs.Common.{◌≡◌, ℕ, List, ◌++◌, ◌∙◌, ap}
use Rattle.std.specs.Prelude.{codes}
use Rattle.std.proofs.lemmas.Result.{on_ok_weaker}
use Rattle.byteorder.specs.Endian.{little_bytes}
use Rattle.fork_sounds.specs.declared.coding.Depth.{Depth}
use Rattle.fork_sounds.specs.Waves.{padding, samples_bytes}
use Rattle.fork_sounds.proofs.Chunks.{chunk_parts}
use Rattle.fork_sounds.proofs.wave.push_samples_chunk.Goals as goal

pub returns : goal.returns
returns c =
    let old = c.args.file.now.items in
    let sound = c.args.sound.now in
    let long = c.args.long in
    let body = samples_bytes sound.depth sound.samples in
    let same : samples_bytes c.depth.result c.samples.result.now ≡ body =
    ap (λ (depth : Depth). samples_bytes depth c.samples.result.now) c.depth.ensures ∙ ap (λ (samples : List ℕ). samples_bytes sound.depth samples) c.samples.ensures.is in
    let before : c.push_samples.new.file.items ≡ old ++ (codes "data" ++ little_bytes 4 long) ++ body =
    c.in_ok-push_samples.ensures ∙ ap (λ (xs : List ℕ). c.push_head.new.file.items ++ xs) same ∙ ap (λ (xs : List ℕ). xs ++ body) c.in_ok-push_head.ensures in
    on_ok_weaker c.push_padding.result
    (λ (is : c.push_padding.new.file.items ≡ c.push_samples.new.file.items ++ padding long).
    is ∙ ap (λ (xs : List ℕ). xs ++ padding long) before ∙ chunk_parts old (codes "data") body long c.requires)
    c.push_padding.ensures
