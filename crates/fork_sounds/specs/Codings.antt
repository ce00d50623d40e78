-- How samples are in bytes (Inside Macintosh: Sound, "Sound Storage Formats"). A sample is how far it is above the lowest
-- level.
use Rattle.std.specs.Prelude.{ℕ, ◌+◌, ◌*◌, ◌/◌, ◌%◌, List, map, slice_index}
use Rattle.std.specs.List.{range_with_len}
use Rattle.fork_sounds.specs.declared.coding.Coding.{Coding}
use Rattle.fork_sounds.specs.declared.coding.Coding.TheVariants.{Samples, Packets}
use Rattle.fork_sounds.specs.declared.coding.Depth.{Depth}
use Rattle.fork_sounds.specs.declared.coding.Depth.TheVariants.{Eight, Sixteen}
use Rattle.fork_sounds.specs.declared.coding.Layout.{Layout}
use Rattle.fork_sounds.specs.declared.coding.Layout.TheVariants.{Offset, SignedByte, BigWord, LittleWord}
use Rattle.fork_sounds.specs.Bytes.{word_at}
use Rattle.fork_sounds.specs.Packets.{packet_sample}

-- how many bytes a sample has in a file of its own
abbrev pub width : Depth → ℕ
width Eight = 1
width Sixteen = 2

-- how many levels a sample can have
abbrev pub levels : Depth → ℕ
levels Eight = 256
levels Sixteen = 65536

-- how many bits a sample has
abbrev pub depth_in : Layout → Depth
depth_in Offset = Eight
depth_in SignedByte = Eight
depth_in BigWord = Sixteen
depth_in LittleWord = Sixteen

abbrev pub depth_of : Coding → Depth
depth_of (Samples layout) = depth_in layout
depth_of Packets = Sixteen

-- how many bytes a unit has: a sample, or a packet
abbrev pub unit_long : Coding → ℕ
unit_long (Samples layout) = width (depth_in layout)
unit_long Packets = 34

-- how many samples a unit has
abbrev pub unit_samples : Coding → ℕ
unit_samples (Samples layout) = 1
unit_samples Packets = 64

-- the sample of a byte in two's complement
abbrev pub byte_level : ℕ → ℕ
byte_level byte = (byte + 128) % 256

-- the sample of a word in two's complement
abbrev pub word_level : ℕ → ℕ
word_level word = (word + 32768) % 65536

-- a sample by its place
abbrev pub laid_at : Layout → List ℕ → ℕ → ℕ → ℕ
laid_at Offset bytes start place = slice_index bytes (start + place)
laid_at SignedByte bytes start place = byte_level (slice_index bytes (start + place))
laid_at BigWord bytes start place = word_level (word_at bytes (start + 2 * place))
laid_at LittleWord bytes start place = word_level (slice_index bytes (start + 2 * place) + 256 * slice_index bytes (start + 2 * place + 1))

-- a sample of packets, which come frame after frame, one for each channel, by the place of the packet and in it
abbrev pub packed_at : List ℕ → ℕ → ℕ → ℕ → ℕ
packed_at bytes start packet place = packet_sample bytes (start + 34 * packet) place

-- a sample by its place among all, where those of a frame, one of each channel, come one after the other
abbrev pub sample_at : Coding → List ℕ → ℕ → ℕ → ℕ → ℕ
sample_at (Samples layout) bytes start channels place = laid_at layout bytes start place
sample_at Packets bytes start channels place =
    let frame = place / channels in
    packed_at bytes start (channels * (frame / 64) + place % channels) (frame % 64)

-- all samples of a coding, whose channels have so many units together
abbrev pub samples_in : Coding → List ℕ → ℕ → ℕ → ℕ → List ℕ
samples_in coding bytes start channels all = map (sample_at coding bytes start channels) (range_with_len 0 (unit_samples coding * all))
