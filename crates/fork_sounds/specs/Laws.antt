-- What definitions of sounds mean.
use Rattle.std.specs.Prelude.{◌≡◌, ◌<◌, ◌^◌, Some}
use Rattle.fork_sounds.specs.Reader.{read_wav}
use Rattle.fork_sounds.specs.Sounds.{IsRecording, Recording}
use Rattle.fork_sounds.specs.Waves.{hertz, wav_of}

-- a sound is read back out of its WAV file, sample for sample; its rate is a number of 32 bits
abbrev pub IsReadBack : Type 0
IsReadBack =
    (sound : Recording) → IsRecording sound → sound.rate < 2 ^ 32
    → read_wav (wav_of sound) ≡ Some (record { hertz = hertz sound.rate; channels = sound.channels; depth = sound.depth; samples = sound.samples })
