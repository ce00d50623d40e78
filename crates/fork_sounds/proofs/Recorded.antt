-- What the recording of a source is.
use Rattle.std.proofs.Common.{◌≡◌, ℕ, zero, suc, ◌+◌, ◌-◌, ◌*◌, ◌/◌, ◌%◌, ◌^◌, ◌<◌, ◌≤◌, List, [], ◌∷◌, length, map, slice_index, ap, ◌∙◌, arith}
use Rattle.std.specs.List.{range_with_len}
use Rattle.std.proofs.Math.Nat.{mul-le-mul_left, mul-mod_right}
use Rattle.std.proofs.lemmas.List.FromFn.{length-map-range_with_len}
use Rattle.fork_sounds.specs.declared.coding.Coding.{Coding}
use Rattle.fork_sounds.specs.declared.coding.Coding.TheVariants.{Samples, Packets}
use Rattle.fork_sounds.specs.declared.coding.Layout.{Layout}
use Rattle.fork_sounds.specs.declared.coding.Layout.TheVariants.{Offset, SignedByte, BigWord, LittleWord}
use Rattle.fork_sounds.specs.declared.header.Source.{Source}
use Rattle.fork_sounds.specs.declared.ima.State.{State}
use Rattle.fork_sounds.specs.Codings.{depth_of, laid_at, levels, sample_at, unit_long, unit_samples}
use Rattle.fork_sounds.specs.Headers.{IsSource}
use Rattle.fork_sounds.specs.Packets.{code_at, distance, head, moved, next, packet_sample, state_after, step_of}
use Rattle.fork_sounds.specs.Sounds.{IsRecording, recorded, samples_of}

-- a level stays one
moved_low : (level step code : ℕ) → level < 65536 → moved level step code < 65536
moved_low level step code low = grind arith

next_low : (state : State) (code : ℕ) → state.level < 65536 → (next state code).level < 65536
unfolding next
next_low state code low = moved_low state.level (step_of state.index) code low

state_low : (bytes : List ℕ) (at count : ℕ) → (state_after bytes at count).level < 65536
unfolding state_after
state_low bytes at zero = omega arith
state_low bytes at (suc count) = next_low (state_after bytes at count) (code_at bytes at count) (state_low bytes at count)

laid_low : (layout : Layout) (bytes : List ℕ) (start place : ℕ) → ((k : ℕ) → slice_index bytes k < 256) → laid_at layout bytes start place < levels (depth_of (Samples layout))
laid_low Offset bytes start place fit = fit (start + place)
laid_low SignedByte bytes start place fit = omega arith
laid_low BigWord bytes start place fit = omega arith
laid_low LittleWord bytes start place fit = omega arith

sample_low : (coding : Coding) (bytes : List ℕ) (start channels place : ℕ) → ((k : ℕ) → slice_index bytes k < 256) → sample_at coding bytes start channels place < levels (depth_of coding)
sample_low (Samples layout) bytes start channels place fit = laid_low layout bytes start place fit
sample_low Packets bytes start channels place fit =
    let frame = place / channels in
    state_low bytes (start + 34 * (channels * (frame / 64) + place % channels)) (frame % 64 + 1)

-- what a function makes of a list is below a bound that the function has
below_all : (f : ℕ → ℕ) (xs : List ℕ) (bound place : ℕ) → 0 < bound → ((k : ℕ) → f k < bound) → slice_index (map f xs) place < bound
below_all f [] bound zero some low = some
below_all f [] bound (suc place) some low = some
below_all f (x ∷ xs) bound zero some low = low x
below_all f (x ∷ xs) bound (suc place) some low = below_all f xs bound place some low

-- the samples of a source have few bytes
unit_some : (coding : Coding) → 1 ≤ unit_long coding
unit_some (Samples Offset) = omega arith
unit_some (Samples SignedByte) = omega arith
unit_some (Samples BigWord) = omega arith
unit_some (Samples LittleWord) = omega arith
unit_some Packets = omega arith

levels_some : (coding : Coding) → 0 < levels (depth_of coding)
levels_some (Samples Offset) = omega arith
levels_some (Samples SignedByte) = omega arith
levels_some (Samples BigWord) = omega arith
levels_some (Samples LittleWord) = omega arith
levels_some Packets = omega arith

count_few : (coding : Coding) (all : ℕ) → unit_long coding * all ≤ 16777216 → unit_samples coding * all ≤ 33554432
count_few (Samples layout) all few = let each : all * 1 ≤ all * unit_long (Samples layout) = mul-le-mul_left all (unit_some (Samples layout)) in omega arith
count_few Packets all few = omega arith

count_some : (coding : Coding) (all : ℕ) → 1 ≤ all → 1 ≤ unit_samples coding * all
count_some (Samples layout) all some = omega arith
count_some Packets all some = omega arith

whole_frames : (coding : Coding) (channels units : ℕ) → (unit_samples coding * (channels * units)) % channels ≡ 0
whole_frames coding channels units =
    let turned : unit_samples coding * (channels * units) ≡ channels * (unit_samples coding * units) = omega arith in
    ap (λ (n : ℕ). n % channels) turned ∙ mul-mod_right channels (unit_samples coding * units)

-- what is recorded of a source is a recording
pub recorded_right : (bytes : List ℕ) (source : Source) → IsSource bytes source → length bytes ≤ 16777216 → ((k : ℕ) → slice_index bytes k < 256)
    → IsRecording (recorded source bytes)
recorded_right bytes source is small fit =
    let count = unit_samples source.coding * (source.channels * source.units) in
    let f = sample_at source.coding bytes source.start source.channels in
    let long : length (samples_of source bytes) ≡ count = length-map-range_with_len f 0 count in
    let some : source.channels * 1 ≤ source.channels * source.units = mul-le-mul_left source.channels is.full in
    record {
      rate = is.rate;
      some = is.some;
      few = is.few;
      frames = ap (λ (n : ℕ). n % source.channels) long ∙ whole_frames source.coding source.channels source.units;
      full = let many = count_some source.coding (source.channels * source.units) (omega (arith, is.some)) in omega arith;
      small = let many = count_few source.coding (source.channels * source.units) (omega (arith, is.inside)) in omega arith;
      within = λ place. below_all f (range_with_len 0 count) (levels (depth_of source.coding)) place (levels_some source.coding) (λ k. sample_low source.coding bytes source.start source.channels k fit);
    }
