-- Which place in an image a word names.
use Rattle.std.specs.Prelude.{◌≡◌, ◌⊎◌, ◌<◌, ℕ, zero, suc, ◌+◌, ◌==◌, Bool, true, false, codes, List, [], ◌∷◌, length, take, drop, slice_index, Option, None, Some}
use Rattle.std.specs.List.{list_any}
use Rattle.file_acts.specs.Acts.{Log}
use Rattle.file_acts.specs.declared.acts.Act.TheVariants as act
use Rattle.host_paths.specs.Asked.{is_regular}
use Rattle.host_paths.specs.declared.host.Answer.{Answer}
use Rattle.host_paths.specs.declared.host.Answer.TheVariants.{Is, Nothing, Failed}
use Rattle.host_paths.specs.declared.host.Found.{Found}

-- an image, and a path in it
pub record Place : Type 0 where
  pub image : List ℕ
  pub path : List ℕ

-- whether an answer says that there is a regular file, and that there is something
abbrev pub is_file : Answer → Bool
is_file (Is found) = is_regular found.kind
is_file Nothing = false
is_file (Failed kind) = false

abbrev pub is_there : Answer → Bool
is_there (Is found) = true
is_there Nothing = false
is_there (Failed kind) = false

-- of a path before a colon it was asked what it leads to, and it is no regular file
abbrev pub NoneAt : Bool → List ℕ → (Log → Type 0) → Log → Type 0
NoneAt true path before new = (answer : Answer) × (mid : Log) × before mid × (new ≡ act.Asked path answer ∷ mid) × (is_file answer ≡ false)
NoneAt false path before new = before new

-- the same of each colon among so many of the first letters of a word
abbrev pub NoneBefore : List ℕ → ℕ → Log → Log → Type 0
NoneBefore word zero old new = new ≡ old
NoneBefore word (suc more) old new = NoneAt (slice_index word more == 58) (take more word) (NoneBefore word more old) new

-- a word is cut at a colon
pub record IsCutAt (word : List ℕ) (at : ℕ) (place : Place) : Type 0 where
  pub within : at < length word
  pub colon : slice_index word at ≡ 58
  pub image : place.image ≡ take at word
  pub path : place.path ≡ drop (at + 1) word

-- at the first one before which there is the path of a regular file
pub record IsFirst (word : List ℕ) (old new : Log) (place : Place) : Type 0 where
  pub at : ℕ
  pub cut : IsCutAt word at place
  pub mid : Log
  pub before : NoneBefore word at old mid
  pub answer : Answer
  pub asked : new ≡ act.Asked place.image answer ∷ mid
  pub is : is_file answer ≡ true

abbrev pub FirstPlace : List ℕ → Option Place → Log → Log → Type 0
FirstPlace word None old new = NoneBefore word (length word) old new
FirstPlace word (Some place) old new = IsFirst word old new place

abbrev pub has_colon : List ℕ → Bool
has_colon word = list_any (λ c. c == 58) word

-- the place that a word names, which names no file itself: that comes first
abbrev pub NamesPlace : List ℕ → Option Place → Log → Log → Type 0
NamesPlace word place old new = ((place ≡ None) × (new ≡ old) × ((word ≡ codes "-") ⊎ (has_colon word ≡ false)))
    ⊎ (((found : Found) × (place ≡ None) × (new ≡ act.Asked word (Is found) ∷ old))
    ⊎ ((answer : Answer) × (is_there answer ≡ false) × FirstPlace word place (act.Asked word answer ∷ old) new))

-- the image that a word names: a regular file of the host, or the image of a place
abbrev pub NamesImage : List ℕ → Option Place → Log → Log → Type 0
NamesImage word place old new = ((answer : Answer) × (place ≡ Some (record { image = word; path = [] })) × (new ≡ act.Asked word answer ∷ old) × (is_file answer ≡ true))
    ⊎ (((word ≡ codes "-") × NamesPlace word place old new)
    ⊎ ((answer : Answer) × (is_file answer ≡ false) × NamesPlace word place (act.Asked word answer ∷ old) new))
