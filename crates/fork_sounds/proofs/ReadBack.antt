-- A sound is read back out of its WAV file.
use Rattle.std.proofs.Common.{◌≡◌, ℕ, zero, suc, ◌+◌, ◌-◌, ◌*◌, ◌/◌, ◌%◌, ◌<◌, ◌≤◌, ◌^◌, ◌==◌, Bool, List, [], ◌∷◌, ◌++◌, length, take, drop, slice_index, eq-eqb, refl, sym, ap, ◌∙◌, arith, true, false, Some}
use Rattle.std.specs.Prelude.{bytes_eq, codes}
use Rattle.std.specs.List.{flat_map}
use Rattle.std.proofs.lemmas.List.{append_assoc, append-nil, drop_at, take_at, drop-drop, length-append, length-drop}
use Rattle.std.proofs.lemmas.Nat.{mul-le}
use Rattle.byteorder.specs.Endian.{little_bytes, little_from}
use Rattle.byteorder.specs.Numbers.{little_number-reads_back}
use Rattle.fork_sounds.specs.declared.coding.Depth.{Depth}
use Rattle.fork_sounds.specs.declared.coding.Depth.TheVariants.{Eight, Sixteen}
use Rattle.fork_sounds.specs.Codings.{levels, width, word_level}
use Rattle.fork_sounds.specs.Laws.{IsReadBack}
use Rattle.fork_sounds.specs.Reader.{Chunk, Wave, all_of, chunks_in, depth_from, heard, read_form, read_wav, samples_in, words_in}
use Rattle.fork_sounds.specs.Sounds.{IsRecording, Recording}
use Rattle.fork_sounds.specs.Waves.{chunk, form, format, frame_long, hertz, padding, sample_bytes, samples_bytes, seconds, shape, sizes, wav_of}
use Rattle.fork_sounds.proofs.Chunks.{frame_low, length-form, length-format, padding_long, samples_long, second_low}

-- a chunk, and those after it
chunk_back : (most a b c d : ℕ) (body rest : List ℕ) → length body < 4294967296
    → chunks_in (suc most) (chunk (a ∷ b ∷ c ∷ d ∷ []) body ++ rest) ≡ record { name = a ∷ b ∷ c ∷ d ∷ []; body = body } ∷ chunks_in most rest
unfolding chunk
chunk_back most a b c d body rest short =
    let n = length body in
    let count : little_from 0 4 (little_bytes 4 n ++ (body ++ padding n ++ rest)) ≡ n = little_number-reads_back 4 n (body ++ padding n ++ rest) (omega arith) in
    let tail : drop (n + n % 2) (body ++ padding n ++ rest) ≡ rest = drop_at (body ++ padding n) rest (n + n % 2) (omega (arith, padding_long n, length-append body (padding n))) in
    rw (count, append_assoc body (padding n) rest, take_at body (padding n ++ rest) n refl, ← append_assoc body (padding n) rest, tail) refl

-- samples
words_back : (samples : List ℕ) → ((place : ℕ) → slice_index samples place < 65536) → words_in (samples_bytes Sixteen samples) ≡ samples
unfolding samples_bytes
words_back [] low = refl
words_back (sample ∷ samples) low =
    let word = word_level sample in
    let is : word_level (word % 256 + 256 * (word / 256 % 256)) ≡ sample = let here = low 0 in omega arith in
    ap (λ (x : ℕ). x ∷ words_in (samples_bytes Sixteen samples)) is ∙ ap (λ (xs : List ℕ). sample ∷ xs) (words_back samples (λ place. low (suc place)))

bytes_back : (samples : List ℕ) → samples_bytes Eight samples ≡ samples
unfolding samples_bytes
bytes_back [] = refl
bytes_back (sample ∷ samples) = ap (λ (xs : List ℕ). sample ∷ xs) (bytes_back samples)

samples_back : (depth : Depth) (samples : List ℕ) → ((place : ℕ) → slice_index samples place < levels depth) → samples_in depth (samples_bytes depth samples) ≡ samples
samples_back Eight samples low = bytes_back samples
samples_back Sixteen samples low = words_back samples low

-- the numbers of a format
width_low : (depth : Depth) → width depth ≤ 2
width_low Eight = omega arith
width_low Sixteen = omega arith

depth_back : (depth : Depth) → depth_from (8 * width depth) ≡ Some depth
depth_back Eight = refl
depth_back Sixteen = refl

-- how large they are
hertz_low : (rate : ℕ) → rate < 2 ^ 32 → hertz rate ≤ 65536
hertz_low rate low = omega arith

frame_few : (sound : Recording) → IsRecording sound → frame_long sound ≤ 65534
frame_few sound is = frame_low sound.channels (width sound.depth) is.few (width_low sound.depth)

channels_back : (sound : Recording) → IsRecording sound → little_from 0 2 (drop 2 (format sound)) ≡ sound.channels
unfolding format shape seconds sizes
channels_back sound is =
    little_number-reads_back 2 sound.channels (seconds (hertz sound.rate) (frame_long sound) ++ sizes (frame_long sound) sound.depth)
    (let few = is.few in omega arith)

hertz_back : (sound : Recording) → sound.rate < 2 ^ 32 → little_from 0 4 (drop 4 (format sound)) ≡ hertz sound.rate
unfolding format shape seconds sizes
hertz_back sound fast =
    little_number-reads_back 4 (hertz sound.rate)
    (little_bytes 4 (hertz sound.rate * frame_long sound) ++ sizes (frame_long sound) sound.depth)
    (let few = hertz_low sound.rate fast in omega arith)

second_back : (sound : Recording) → IsRecording sound → sound.rate < 2 ^ 32 → little_from 0 4 (drop 8 (format sound)) ≡ hertz sound.rate * frame_long sound
unfolding format shape seconds sizes
second_back sound is fast =
    little_number-reads_back 4 (hertz sound.rate * frame_long sound) (sizes (frame_long sound) sound.depth)
    (let few = second_low (hertz sound.rate) (frame_long sound) (hertz_low sound.rate fast) (frame_few sound is) in omega arith)

frame_back : (sound : Recording) → IsRecording sound → little_from 0 2 (drop 12 (format sound)) ≡ frame_long sound
unfolding format shape seconds sizes
frame_back sound is =
    little_number-reads_back 2 (frame_long sound) (little_bytes 2 (8 * width sound.depth)) (let few = frame_few sound is in omega arith)

bits_back : (sound : Recording) → little_from 0 2 (drop 14 (format sound)) ≡ 8 * width sound.depth
unfolding format shape seconds sizes
bits_back sound =
    ap (λ (xs : List ℕ). little_from 0 2 xs) (sym (append-nil (little_bytes 2 (8 * width sound.depth))))
    ∙ little_number-reads_back 2 (8 * width sound.depth) [] (let few = width_low sound.depth in omega arith)

plain_back : (sound : Recording) → little_from 0 2 (format sound) ≡ 1
unfolding format shape seconds sizes
plain_back sound = refl

-- the sound as it is read
abbrev wave : Recording → Wave
wave sound = record { hertz = hertz sound.rate; channels = sound.channels; depth = sound.depth; samples = sound.samples }

same_number : (n : ℕ) → (n == n) ≡ true
same_number n = eq-eqb n n refl

heard_back : (sound : Recording) → IsRecording sound → sound.rate < 2 ^ 32 → heard (format sound) (samples_bytes sound.depth sound.samples) ≡ Some (wave sound)
heard_back sound is fast =
    rw (
      bits_back sound,
      depth_back sound.depth,
      plain_back sound,
      second_back sound is fast,
      frame_back sound is,
      channels_back sound is,
      hertz_back sound fast,
      same_number (hertz sound.rate * frame_long sound),
      same_number (frame_long sound),
      samples_back sound.depth sound.samples is.within,
    )
    refl

-- the chunks of a form
all_low : (sound : Recording) → IsRecording sound → length (samples_bytes sound.depth sound.samples) ≤ 67108864
all_low sound is =
    omega (arith, samples_long sound.depth sound.samples, mul-le (width sound.depth) (length sound.samples) 2 33554432 (width_low sound.depth) is.small)

chunks_back : (most : ℕ) (sound : Recording) → IsRecording sound
    → chunks_in (suc (suc (suc most))) (chunk (codes "fmt ") (format sound) ++ chunk (codes "data") (samples_bytes sound.depth sound.samples))
    ≡ record { name = codes "fmt "; body = format sound } ∷ record { name = codes "data"; body = samples_bytes sound.depth sound.samples } ∷ []
chunks_back most sound is =
    let last = chunk (codes "data") (samples_bytes sound.depth sound.samples) in
    let first : Chunk = record { name = codes "fmt "; body = format sound } in
    chunk_back (suc (suc most)) 102 109 116 32 (format sound) last (omega (arith, length-format sound))
    ∙ ap (λ (xs : List Chunk). first ∷ xs)
    (ap (chunks_in (suc (suc most))) (sym (append-nil last))
    ∙ chunk_back (suc most) 100 97 116 97 (samples_bytes sound.depth sound.samples) [] (omega (arith, all_low sound is)))

form_back : (sound : Recording) → IsRecording sound → sound.rate < 2 ^ 32 → read_form (form sound) ≡ Some (wave sound)
unfolding form
form_back sound is fast =
    let rest = length (chunk (codes "fmt ") (format sound) ++ chunk (codes "data") (samples_bytes sound.depth sound.samples)) in
    rw (chunks_back (suc rest) sound is, append-nil (format sound), append-nil (samples_bytes sound.depth sound.samples)) (heard_back sound is fast)

pub read_back : IsReadBack
read_back sound is fast =
    ap (λ (file : List ℕ). read_form (all_of (codes "RIFF") (chunks_in 1 file))) (sym (append-nil (wav_of sound)))
    ∙ ap (λ (chunks : List Chunk). read_form (all_of (codes "RIFF") chunks))
    (chunk_back zero 82 73 70 70 (form sound) [] (omega (arith, length-form sound, all_low sound is)))
    ∙ ap read_form (append-nil (form sound))
    ∙ form_back sound is fast
