-- What a WAV file sounds like, read from its bytes: of the files whose samples aren't compressed, in 8 or 16 bits.
use Rattle.std.specs.Prelude.{ℕ, zero, suc, ◌+◌, ◌*◌, ◌%◌, ◌==◌, ◌&&◌, if◌then◌else◌, List, [], ◌∷◌, ◌++◌, length, take, drop, codes, bytes_eq, Option, Some, None}
use Rattle.std.specs.List.{flat_map}
use Rattle.byteorder.specs.Endian.{little_from}
use Rattle.fork_sounds.specs.declared.coding.Depth.{Depth}
use Rattle.fork_sounds.specs.declared.coding.Depth.TheVariants.{Eight, Sixteen}
use Rattle.fork_sounds.specs.Codings.{width, word_level}

-- the frames of a second, the samples of a frame, how many bits a sample has, and all samples: each is how far it is above
-- the lowest level
pub record Wave : Type 0 where
  pub hertz : ℕ
  pub channels : ℕ
  pub depth : Depth
  pub samples : List ℕ

-- a chunk as it was read
pub record Chunk : Type 0 where
  pub name : List ℕ
  pub body : List ℕ

-- the chunks that bytes begin with, at most so many; each begins at an even place
abbrev pub chunks_in : ℕ → List ℕ → List Chunk
chunks_in zero bytes = []
chunks_in (suc most) [] = []
chunks_in (suc most) (byte ∷ bytes) =
    let count = little_from 0 4 (drop 3 bytes) in
    let after = drop 7 bytes in
    record { name = byte ∷ take 3 bytes; body = take count after } ∷ chunks_in most (drop (count + count % 2) after)

-- the body of all chunks of a name
abbrev pub all_of : List ℕ → List Chunk → List ℕ
all_of name chunks = flat_map (λ chunk. if bytes_eq chunk.name name then chunk.body else []) chunks

-- the number of bits of a sample
abbrev pub depth_from : ℕ → Option Depth
depth_from bits = if bits == 8 then Some Eight else if bits == 16 then Some Sixteen else None

-- the samples in bytes
abbrev pub words_in : List ℕ → List ℕ
words_in (low ∷ high ∷ bytes) = word_level (low + 256 * high) ∷ words_in bytes
words_in bytes = []

abbrev pub samples_in : Depth → List ℕ → List ℕ
samples_in Eight bytes = bytes
samples_in Sixteen bytes = words_in bytes

-- the sound that the format and the samples say, if the format's numbers agree
abbrev pub with_depth : Option Depth → List ℕ → List ℕ → Option Wave
with_depth None format body = None
with_depth (Some depth) format body =
    let channels = little_from 0 2 (drop 2 format) in
    let hertz = little_from 0 4 (drop 4 format) in
    let frame = channels * width depth in
    if little_from 0 2 format == 1 && (little_from 0 4 (drop 8 format) == hertz * frame && little_from 0 2 (drop 12 format) == frame)
    then Some (record { hertz = hertz; channels = channels; depth = depth; samples = samples_in depth body })
    else None

abbrev pub heard : List ℕ → List ℕ → Option Wave
heard format body = with_depth (depth_from (little_from 0 2 (drop 14 format))) format body

-- the sound of a form of the kind WAVE
abbrev pub read_form : List ℕ → Option Wave
read_form form =
    let chunks = chunks_in (length form) (drop 4 form) in
    if bytes_eq (take 4 form) (codes "WAVE") then heard (all_of (codes "fmt ") chunks) (all_of (codes "data") chunks) else None

-- the sound of a WAV file
abbrev pub read_wav : List ℕ → Option Wave
read_wav file = read_form (all_of (codes "RIFF") (chunks_in 1 file))
