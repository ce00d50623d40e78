use Rattle.std.proofs.Common.{◌≡◌, ℕ, ◌+◌, ◌%◌, List, ◌++◌, ◌∙◌, ap}
use Rattle.std.specs.Prelude.{codes}
use Rattle.byteorder.specs.Endian.{little_bytes}
use Rattle.fork_sounds.specs.Waves.{chunk, format, samples_bytes}
use Rattle.fork_sounds.proofs.Chunks.{file_parts}
use Rattle.fork_sounds.proofs.wave.wav_file.Goals as goal

pub returns : goal.returns
returns c =
    let sound = c.args.sound.now in
    let long = c.samples_long-long.result in
    let head = codes "RIFF" ++ little_bytes 4 (36 + long + long % 2) in
    let first = chunk (codes "fmt ") (format sound) in
    let second = chunk (codes "data") (samples_bytes sound.depth sound.samples) in
    let named : c.push_head.new.file.items ≡ head = c.in_ok-push_head.ensures ∙ ap (λ (xs : List ℕ). xs ++ head) c.in_ok-file.ensures.items in
    let kind : c.extend_from_slice.new.self.items ≡ head ++ codes "WAVE" =
    c.in_ok-extend_from_slice.ensures.items ∙ ap (λ (xs : List ℕ). xs ++ codes "WAVE") named in
    c.in_ok-push_samples_chunk.ensures
    ∙ ap (λ (xs : List ℕ). xs ++ second) (c.in_ok-push_format_chunk.ensures ∙ ap (λ (xs : List ℕ). xs ++ first) kind)
    ∙ file_parts sound long c.samples_long-long.ensures.is
