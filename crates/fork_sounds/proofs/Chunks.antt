-- The chunks of a sound's file.
use Rattle.std.proofs.Common.{◌≡◌, ℕ, ◌+◌, ◌*◌, ◌%◌, ◌<◌, ◌≤◌, List, [], ◌∷◌, ◌++◌, length, refl, ap, ◌∙◌, sym, arith}
use Rattle.std.specs.Prelude.{codes}
use Rattle.std.specs.List.{flat_map}
use Rattle.std.proofs.lemmas.List.{append_assoc, append-nil, length-append}
use Rattle.std.proofs.lemmas.Nat.{mul-le}
use Rattle.byteorder.specs.Endian.{little_bytes}
use Rattle.fork_sounds.specs.declared.coding.Depth.{Depth}
use Rattle.fork_sounds.specs.declared.coding.Depth.TheVariants.{Eight, Sixteen}
use Rattle.fork_sounds.specs.Codings.{width}
use Rattle.fork_sounds.specs.Sounds.{Recording}
use Rattle.fork_sounds.specs.Waves.{chunk, form, format, padding, sample_bytes, samples_bytes, seconds, shape, sizes, wav_of}

pub length-format : (sound : Recording) → length (format sound) ≡ 16
unfolding format shape seconds sizes
length-format sound = refl

-- how many bytes samples have
pub samples_long : (depth : Depth) (samples : List ℕ) → length (samples_bytes depth samples) ≡ width depth * length samples
unfolding samples_bytes
samples_long Eight [] = refl
samples_long Eight (sample ∷ samples) = let rest = samples_long Eight samples in omega arith
samples_long Sixteen [] = refl
samples_long Sixteen (sample ∷ samples) = let rest = samples_long Sixteen samples in omega arith

-- a chunk from its parts, which are added one after the other
pub chunk_parts : (old name body : List ℕ) (count : ℕ) → count ≡ length body
    → old ++ (name ++ little_bytes 4 count) ++ body ++ padding count ≡ old ++ chunk name body
unfolding chunk
chunk_parts old name body count is =
    ap (λ (xs : List ℕ). xs ++ padding count) (append_assoc old (name ++ little_bytes 4 count) body)
    ∙ append_assoc old (name ++ little_bytes 4 count ++ body) (padding count)
    ∙ ap (λ (xs : List ℕ). old ++ xs) (append_assoc (name ++ little_bytes 4 count) body (padding count) ∙ append_assoc name (little_bytes 4 count) (body ++ padding count))
    ∙ ap (λ (n : ℕ). old ++ (name ++ (little_bytes 4 n ++ (body ++ padding n)))) is

-- the chunk that says what the samples are has no padding
pub format_chunk : (old : List ℕ) (sound : Recording) → old ++ (codes "fmt " ++ little_bytes 4 16) ++ format sound ≡ old ++ chunk (codes "fmt ") (format sound)
format_chunk old sound =
    sym (append-nil (old ++ (codes "fmt " ++ little_bytes 4 16) ++ format sound)) ∙ chunk_parts old (codes "fmt ") (format sound) 16 (sym (length-format sound))

-- how long a padding is
pub padding_long : (count : ℕ) → length (padding count) ≡ count % 2
padding_long count = grind arith

length-chunk : (a b c d : ℕ) (body : List ℕ) → length (chunk (a ∷ b ∷ c ∷ d ∷ []) body) ≡ 8 + length body + length body % 2
unfolding chunk
length-chunk a b c d body =
    let pad : length (padding (length body)) ≡ length body % 2 = padding_long (length body) in
    omega (arith, length-append body (padding (length body)))

-- how many bytes a form has
pub length-form : (sound : Recording) → let count = length (samples_bytes sound.depth sound.samples) in length (form sound) ≡ 36 + count + count % 2
unfolding form
length-form sound =
    let first = length-chunk 102 109 116 32 (format sound) in
    let second = length-chunk 100 97 116 97 (samples_bytes sound.depth sound.samples) in
    omega (arith, length-format sound, length-append (chunk (codes "fmt ") (format sound)) (chunk (codes "data") (samples_bytes sound.depth sound.samples)))

-- an even number of bytes has no padding
padding_none : (count : ℕ) → padding (36 + count + count % 2) ≡ []
padding_none count = let even : (36 + count + count % 2) % 2 ≡ 0 = omega arith in rw even refl

-- the file from its parts, which are added one after the other
pub file_parts : (sound : Recording) (count : ℕ) → count ≡ length (samples_bytes sound.depth sound.samples)
    → (codes "RIFF" ++ little_bytes 4 (36 + count + count % 2)) ++ codes "WAVE" ++ chunk (codes "fmt ") (format sound) ++ chunk (codes "data") (samples_bytes sound.depth sound.samples)
    ≡ wav_of sound
unfolding form
file_parts sound count is =
    let all = 36 + count + count % 2 in
    let head = codes "RIFF" ++ little_bytes 4 all in
    let first = chunk (codes "fmt ") (format sound) in
    let second = chunk (codes "data") (samples_bytes sound.depth sound.samples) in
    let long : all ≡ length (form sound) = ap (λ (n : ℕ). 36 + n + n % 2) is ∙ sym (length-form sound) in
    ap (λ (xs : List ℕ). xs ++ second) (append_assoc head (codes "WAVE") first)
    ∙ append_assoc head (codes "WAVE" ++ first) second
    ∙ ap (λ (xs : List ℕ). head ++ xs) (append_assoc (codes "WAVE") first second)
    ∙ sym (append-nil (head ++ form sound))
    ∙ ap (λ (xs : List ℕ). head ++ form sound ++ xs) (sym (padding_none count))
    ∙ chunk_parts [] (codes "RIFF") (form sound) all long

-- how large the numbers of a format are
pub second_low : (hertz frame : ℕ) → hertz ≤ 65536 → frame ≤ 65534 → hertz * frame < 4294967296
second_low hertz frame few small = omega (arith, mul-le hertz frame 65536 65534 few small)

pub frame_low : (channels width : ℕ) → channels ≤ 32767 → width ≤ 2 → channels * width ≤ 65534
frame_low channels width few small = omega (arith, mul-le channels width 32767 2 few small)
