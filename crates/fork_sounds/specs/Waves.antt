-- WAV files (IBM and Microsoft, "Multimedia Programming Interface and Data Specifications", RIFF and WAVE).
use Rattle.std.specs.Prelude.{ℕ, ◌+◌, ◌*◌, ◌/◌, ◌%◌, ◌==◌, if◌then◌else◌, List, [], ◌∷◌, ◌++◌, length, codes}
use Rattle.std.specs.List.{flat_map}
use Rattle.byteorder.specs.Endian.{little_bytes}
use Rattle.fork_sounds.specs.declared.coding.Depth.{Depth}
use Rattle.fork_sounds.specs.declared.coding.Depth.TheVariants.{Eight, Sixteen}
use Rattle.fork_sounds.specs.Codings.{width, word_level}
use Rattle.fork_sounds.specs.Sounds.{Recording}

-- the byte after an odd number of bytes
abbrev pub padding : ℕ → List ℕ
padding count = if count % 2 == 0 then [] else 0 ∷ []

-- a chunk: its name, the length of its body, and its body
unfoldable pub chunk : List ℕ → List ℕ → List ℕ
chunk name body = name ++ (little_bytes 4 (length body) ++ (body ++ padding (length body)))

-- how many frames a second has, to the nearest whole number
abbrev pub hertz : ℕ → ℕ
hertz rate = (rate + 32768) / 65536

-- how many bytes a frame has
abbrev pub frame_long : Recording → ℕ
frame_long sound = sound.channels * width sound.depth

-- that samples aren't compressed, and how many a frame has
unfoldable pub shape : ℕ → List ℕ
shape channels = little_bytes 2 1 ++ little_bytes 2 channels

-- the frames and the bytes of a second
unfoldable pub seconds : ℕ → ℕ → List ℕ
seconds hertz frame = little_bytes 4 hertz ++ little_bytes 4 (hertz * frame)

-- the bytes of a frame, and the bits of a sample
unfoldable pub sizes : ℕ → Depth → List ℕ
sizes frame depth = little_bytes 2 frame ++ little_bytes 2 (8 * width depth)

-- what the first chunk says
unfoldable pub format : Recording → List ℕ
format sound = shape sound.channels ++ (seconds (hertz sound.rate) (frame_long sound) ++ sizes (frame_long sound) sound.depth)

-- a sample: a byte of which 128 is silence, or two bytes in two's complement, the lowest first
abbrev pub sample_bytes : Depth → ℕ → List ℕ
sample_bytes Eight sample = sample ∷ []
sample_bytes Sixteen sample = little_bytes 2 (word_level sample)

-- all samples
unfoldable pub samples_bytes : Depth → List ℕ → List ℕ
samples_bytes depth samples = flat_map (sample_bytes depth) samples

-- what a WAV file is about: a form of the kind WAVE, with what samples are, and the samples
unfoldable pub form : Recording → List ℕ
form sound = codes "WAVE" ++ (chunk (codes "fmt ") (format sound) ++ chunk (codes "data") (samples_bytes sound.depth sound.samples))

-- the WAV file of a sound
abbrev pub wav_of : Recording → List ℕ
wav_of sound = chunk (codes "RIFF") (form sound)
