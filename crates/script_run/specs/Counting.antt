-- What a reader gave or a writer took, and how often it failed.
use Rattle.std.specs.Prelude.{◌≡◌, ℕ, ◌+◌, ◌-◌, ◌^◌, ◌==◌, ◌&&◌, not, min, Bool, true, false, if◌then◌else◌, List, [], ◌∷◌, ◌++◌, take, Option, Result, Ok, Err}
use Rattle.std.specs.Io.KnownBytes.{Appends, Consumes}

-- a reader or a writer, how often it has failed, and the bytes that it gave or took so far
pub record Counting (T : Type 0) : Type 0 where
  pub inner : T
  pub failures : ℕ
  pub passed : List ℕ

-- the count after a call: one more where it failed, up to the last value, and else the same
abbrev pub counted : Bool → ℕ → ℕ
counted failed before = if failed then min (before + 1) (2 ^ 64 - 1) else before

-- whether a list has no bytes
abbrev pub is_empty : List ℕ → Bool
is_empty [] = true
is_empty (byte ∷ bytes) = false

-- whether a write failed: it took nothing of some bytes, or answered an error
abbrev pub takes_nothing : {E : Type 0} → Result ℕ E → List ℕ → Bool
takes_nothing (Ok n) bytes = n == 0 && not (is_empty bytes)
takes_nothing (Err e) bytes = true

-- the bytes of a buffer that a read gave or a write took
abbrev pub passed_by : {E : Type 0} → Result ℕ E → List ℕ → List ℕ
passed_by (Ok n) buffer = take n buffer
passed_by (Err e) buffer = []

-- the count rose by one, so one call failed, and no other was made after it that might have failed as well; at its last
-- value it stays
abbrev pub RoseByOne : ℕ → ℕ → Type 0
RoseByOne before now = now ≡ counted true before

-- a reader gave these bytes, so it has them no more where it says what it has
pub record Gave {R : Type 0} (remaining : R → Option (List ℕ)) (old : Counting R) (given : List ℕ) (new : Counting R) : Type 0 where
  pub passed : new.passed ≡ old.passed ++ given
  pub bytes : Consumes (remaining old.inner) (remaining new.inner) given

-- a writer took these bytes, so it holds them where it says what it holds
pub record Took {W : Type 0} (contents : W → Option (List ℕ)) (old : Counting W) (written : List ℕ) (new : Counting W) : Type 0 where
  pub passed : new.passed ≡ old.passed ++ written
  pub bytes : Appends (contents old.inner) (contents new.inner) written
