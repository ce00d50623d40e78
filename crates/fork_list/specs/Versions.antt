-- The versions of programs, in resources 'vers' (Inside Macintosh: Macintosh Toolbox Essentials, chapter 7).
use Rattle.std.specs.Prelude.{ℕ, ◌+◌, ◌*◌, ◌/◌, ◌%◌, ◌==◌, if◌then◌else◌, List, [], ◌∷◌, Option, Some, None, option_and_then}
use Rattle.fork_list.specs.declared.version.Stage.{Stage}
use Rattle.fork_list.specs.declared.version.Stage.TheVariants.{Development, Alpha, Beta, Final, Other}
use Rattle.fork_list.specs.declared.version.Version.{Version}
use Rattle.fork_list.specs.Strings.{first_string}

-- a version, with its texts
pub record Told : Type 0 where
  pub major : ℕ
  pub minor : ℕ
  pub correction : ℕ
  pub stage : Stage
  pub prerelease : ℕ
  pub region : ℕ
  pub short : List ℕ
  pub long : List ℕ

-- the same, of what code has
abbrev pub version_text : Version → Told
version_text version =
    record {
      major = version.major;
      minor = version.minor;
      correction = version.correction;
      stage = version.stage;
      prerelease = version.prerelease;
      region = version.region;
      short = version.short.now;
      long = version.long.now;
    }

-- how far a program is, by a byte
abbrev pub stage_of : ℕ → Stage
stage_of byte =
    if byte == 32 then Development else if byte == 64 then Alpha else if byte == 96 then Beta else if byte == 128 then Final else Other byte

-- the number of two decimal digits, of four bits each
abbrev pub decimal_of : ℕ → ℕ
decimal_of byte = byte / 16 * 10 + byte % 16

-- the version that a resource gives: the major version as two decimal digits, the minor one and the correction as one
-- each, the stage, which one it is of this stage, the region in two bytes, and two strings
abbrev pub version_of : List ℕ → Option Told
version_of (major ∷ minor ∷ stage ∷ prerelease ∷ high ∷ low ∷ texts) =
    option_and_then
    (λ short. option_and_then
    (λ long. Some (record {
      major = decimal_of major;
      minor = minor / 16;
      correction = minor % 16;
      stage = stage_of stage;
      prerelease = prerelease;
      region = high * 256 + low;
      short = short.text;
      long = long.text;
    })) (first_string short.rest)) (first_string texts)
version_of bytes = None
