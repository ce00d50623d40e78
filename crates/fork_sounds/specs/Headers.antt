-- Sound headers (Inside Macintosh: Sound, "Sound Header Records").
use Rattle.std.specs.Prelude.{◌≤◌, ℕ, ◌+◌, ◌*◌, ◌==◌, ◌||◌, nat_lt, if◌then◌else◌, List, length, codes, bytes_eq, slice_index, Option, Some, None, Result, Ok, Err}
use Rattle.fork_sounds.specs.declared.coding.Coding.{Coding}
use Rattle.fork_sounds.specs.declared.coding.Coding.TheVariants.{Samples, Packets}
use Rattle.fork_sounds.specs.declared.coding.Layout.{Layout}
use Rattle.fork_sounds.specs.declared.coding.Layout.TheVariants.{Offset, SignedByte, BigWord, LittleWord}
use Rattle.fork_sounds.specs.declared.fault.Fault.{Fault}
use Rattle.fork_sounds.specs.declared.fault.Fault.TheVariants as fault
use Rattle.fork_sounds.specs.declared.header.Source.{Source}
use Rattle.fork_sounds.specs.Bytes.{and_then, four_at, long_at, word_at}
use Rattle.fork_sounds.specs.Codings.{unit_long}

-- samples of so many bits, of which one layout has 8, another 16
abbrev pub of_bits : ℕ → Option Layout → Option Layout → Option Layout
of_bits bits eight sixteen = if bits == 8 then eight else if bits == 16 then sixteen else None

-- samples as the Sound Manager has them: bytes of which 128 is silence, or words in two's complement
abbrev pub native : ℕ → Option Layout
native bits = of_bits bits (Some Offset) (Some BigWord)

-- samples in a layout, or that the word at a place isn't its number of bits
abbrev pub given : ℕ → Option Layout → Result Coding Fault
given at None = Err (fault.Bits at)
given at (Some layout) = Ok (Samples layout)

-- the coding that a format's name and a number of bits say
abbrev pub named : List ℕ → ℕ → ℕ → Result Coding Fault
named name bits at =
    if bytes_eq name (codes "NONE") then given (at + 62) (native bits)
    else if bytes_eq name (codes "raw ") then given (at + 62) (of_bits bits (Some Offset) None)
    else if bytes_eq name (codes "twos") then given (at + 62) (of_bits bits (Some SignedByte) (Some BigWord))
    else if bytes_eq name (codes "sowt") then given (at + 62) (of_bits bits (Some SignedByte) (Some LittleWord))
    else if bytes_eq name (codes "ima4") then Ok Packets
    else Err (fault.Unknown (at + 40) (record { 0 = name }))

-- the coding of a compressed header at a place: compression 0 is none, -1 that which the format's name says
abbrev pub compressed : List ℕ → ℕ → Result Coding Fault
compressed bytes at =
    let bits = word_at bytes (at + 62) in
    let number = word_at bytes (at + 56) in
    if number == 0 then given (at + 62) (native bits)
    else if number == 65535 then named (four_at bytes (at + 40)) bits at
    else Err (fault.Compressed (at + 56) (record { 0 = number }))

-- how many bytes the samples have
abbrev pub long_of : Source → ℕ
long_of source = unit_long source.coding * (source.channels * source.units)

-- a source has at least half a frame a second, from 1 to 32767 channels, and a unit, and the resource has all its bytes
pub record IsSource (bytes : List ℕ) (source : Source) : Type 0 where
  pub rate : 32768 ≤ source.rate
  pub some : 1 ≤ source.channels
  pub few : source.channels ≤ 32767
  pub full : 1 ≤ source.units
  pub inside : source.start + long_of source ≤ length bytes

-- where the samples are, if there are some, and the resource has them all; the long word at a place has their number
abbrev pub whole : List ℕ → ℕ → Source → Result Source Fault
whole bytes place source =
    if source.units == 0 then Err (fault.Empty place)
    else if nat_lt (length bytes) (source.start + long_of source) then Err (fault.Short (source.start + long_of source))
    else Ok source

-- how many channels a header of 64 bytes has, extended or compressed
abbrev pub channels_at : List ℕ → ℕ → Result ℕ Fault
channels_at bytes at =
    let channels = long_at bytes (at + 4) in
    if nat_lt (length bytes) (at + 64) then Err (fault.Short (at + 64))
    else if channels == 0 || nat_lt 32767 channels then Err (fault.Channels (at + 4))
    else Ok channels

-- where the samples of a header of 64 bytes are, which have a coding
abbrev pub long_source : List ℕ → ℕ → ℕ → Coding → Result Source Fault
long_source bytes at channels coding =
    whole bytes (at + 22)
    (record { channels = channels; rate = long_at bytes (at + 8); coding = coding; start = at + 64; units = long_at bytes (at + 22) })

-- an extended header: the bits are its own word
abbrev pub extended_header : List ℕ → ℕ → Result Source Fault
extended_header bytes at =
    and_then (channels_at bytes at) (λ channels.
    and_then (given (at + 48) (native (word_at bytes (at + 48)))) (λ coding. long_source bytes at channels coding))

-- a compressed header
abbrev pub compressed_header : List ℕ → ℕ → Result Source Fault
compressed_header bytes at =
    and_then (channels_at bytes at) (λ channels. and_then (compressed bytes at) (λ coding. long_source bytes at channels coding))

-- a header of 22 bytes: one channel, and bytes of which 128 is silence
abbrev pub short_header : List ℕ → ℕ → Result Source Fault
short_header bytes at =
    whole bytes (at + 4)
    (record { channels = 1; rate = long_at bytes (at + 8); coding = Samples Offset; start = at + 22; units = long_at bytes (at + 4) })

-- a header by the number of its kind
abbrev pub header_of : List ℕ → ℕ → ℕ → Result Source Fault
header_of bytes at kind =
    if kind == 0 then short_header bytes at
    else if kind == 255 then extended_header bytes at
    else if kind == 254 then compressed_header bytes at
    else Err (fault.Encoding (at + 20))

-- where the samples are of the header at a place: after it, as an address of 0 says
abbrev pub source_at : List ℕ → ℕ → Result Source Fault
source_at bytes at =
    if nat_lt (length bytes) (at + 22) then Err (fault.Short (at + 22))
    else if nat_lt 0 (long_at bytes at) then Err (fault.Elsewhere at)
    else if nat_lt (long_at bytes (at + 8)) 32768 then Err (fault.Rate (at + 8))
    else header_of bytes at (slice_index bytes (at + 20))
