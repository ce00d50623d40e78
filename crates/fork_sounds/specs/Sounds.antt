-- The sound that a resource is.
use Rattle.std.specs.Prelude.{◌≡◌, ◌≤◌, ◌<◌, ℕ, ◌*◌, ◌%◌, List, length, slice_index, Option, Some, None, Result, Ok, Err}
use Rattle.std.specs.List.{find}
use Rattle.fork_sounds.specs.declared.coding.Coding.{Coding}
use Rattle.fork_sounds.specs.declared.coding.Coding.TheVariants.{Samples, Packets}
use Rattle.fork_sounds.specs.declared.coding.Depth.{Depth}
use Rattle.fork_sounds.specs.declared.command.Command.{Command}
use Rattle.fork_sounds.specs.declared.fault.Fault.{Fault}
use Rattle.fork_sounds.specs.declared.fault.Fault.TheVariants as fault
use Rattle.fork_sounds.specs.declared.header.Source.{Source}
use Rattle.fork_sounds.specs.Bytes.{and_then}
use Rattle.fork_sounds.specs.Codings.{depth_of, levels, samples_in}
use Rattle.fork_sounds.specs.Commands.{commands_of, plays}
use Rattle.fork_sounds.specs.Headers.{source_at}
use Rattle.fork_sounds.specs.Packets.{wrong_head}

-- the frames of a second times 65,536, the samples of a frame, how many bits a sample has, and all samples, frame after
-- frame
pub record Recording : Type 0 where
  pub rate : ℕ
  pub channels : ℕ
  pub depth : Depth
  pub samples : List ℕ

-- a recording has at least half a frame a second, whole frames, not too many samples, and each is one of the levels
pub record IsRecording (sound : Recording) : Type 0 where
  pub rate : 32768 ≤ sound.rate
  pub some : 1 ≤ sound.channels
  pub few : sound.channels ≤ 32767
  pub frames : length sound.samples % sound.channels ≡ 0
  pub full : 1 ≤ length sound.samples
  pub small : length sound.samples ≤ 33554432
  pub within : (place : ℕ) → slice_index sound.samples place < levels sound.depth

-- the samples of a source
abbrev pub samples_of : Source → List ℕ → List ℕ
samples_of source bytes = samples_in source.coding bytes source.start source.channels (source.channels * source.units)

-- the recording of a source
abbrev pub recorded : Source → List ℕ → Recording
recorded source bytes =
    record { rate = source.rate; channels = source.channels; depth = depth_of source.coding; samples = samples_of source bytes }

-- the head of the first packet of a source that has an index of more than 88
abbrev pub wrong_in : Coding → Source → List ℕ → Option ℕ
wrong_in (Samples layout) source bytes = None
wrong_in Packets source bytes = wrong_head bytes source.start (source.channels * source.units)

-- a source, if no packet has a wrong head
abbrev pub without : Option ℕ → Source → Result Source Fault
without None source = Ok source
without (Some at) source = Err (fault.Packet at)

abbrev pub decodable : List ℕ → Source → Result Source Fault
decodable bytes source = without (wrong_in source.coding source bytes) source

-- the place of the header that a command has
abbrev pub header_place : Option Command → Result ℕ Fault
header_place None = Err fault.Silent
header_place (Some command) = Ok command.second

-- the sound of the first command that plays samples
abbrev pub sound_of : List ℕ → Result Recording Fault
sound_of bytes =
    and_then (commands_of bytes) (λ commands.
    and_then (header_place (find plays commands)) (λ at.
    and_then (source_at bytes at) (λ source.
    and_then (decodable bytes source) (λ source. Ok (recorded source bytes)))))
