-- The standard input, which "-" stands for.
use Rattle.std.specs.Prelude.{◌≡◌, ◌≢◌, ◌⊎◌, ℕ, true, List, codes, Some, is_some, option_map, ⊤}
use Rattle.fork_words.specs.declared.work.Place.{Place}
use Rattle.fork_words.specs.declared.work.Place.TheVariants.{Into, New}
use Rattle.fork_words.specs.declared.work.Target.{Target}
use Rattle.fork_words.specs.declared.work.Work.{Work}
use Rattle.fork_words.specs.declared.work.Work.TheVariants as work

-- the name is that of the standard input
abbrev pub IsInput : List ℕ → Type 0
IsInput name = name ≡ codes "-"

-- a file that is read from the standard input is written elsewhere, or not at all
abbrev pub GoesElsewhere : Target → Type 0
GoesElsewhere target = IsInput target.file.now → (is_some target.output ≡ true) ⊎ (target.is_dry ≡ true)

-- resources aren't put into the standard input
abbrev pub IsNoInput : Place → Type 0
IsNoInput (New target is_forced) = ⊤
IsNoInput (Into target on_collision) = ¬ IsInput target.file.now

-- no file is written in the place of the standard input, and nothing reads it twice
abbrev pub ReadsOnce : Work → Type 0
ReadsOnce (work.Put asked) = GoesElsewhere asked.target
    × (IsInput asked.target.file.now → (is_some asked.input ≡ true) × (option_map (λ name. name.now) asked.input ≢ Some (codes "-")))
ReadsOnce (work.Remove asked) = GoesElsewhere asked.target
ReadsOnce (work.Set asked) = GoesElsewhere asked.target
ReadsOnce (work.Copy asked) = GoesElsewhere asked.target × (IsInput asked.target.file.now → ¬ IsInput asked.from.now)
ReadsOnce (work.Compare asked) = IsInput asked.a.now → ¬ IsInput asked.b.now
ReadsOnce (work.Convert asked) = IsInput asked.target.file.now → option_map (λ name. name.now) asked.«data» ≢ Some (codes "-")
ReadsOnce (work.Derez asked) = ⊤
ReadsOnce (work.Rez asked) = IsNoInput asked.place
ReadsOnce (work.Pack asked) = IsNoInput asked.place
ReadsOnce (work.Texts file) = ⊤
ReadsOnce (work.PutTexts asked) = ¬ IsInput asked.target.file.now
