-- Where a file goes, and the resources of a text or of a folder, by the words of the command line.
use Rattle.std.specs.Prelude.{◌≡◌, ◌≢◌, ◌⊎◌, ℕ, true, false, if◌then◌else◌, List, codes, None, Some, is_some}
use Rattle.clap.specs.Matches.{first_value}
use Rattle.clap.specs.declared.parser.matches.Found.{Found}
use Rattle.fork_change.specs.declared.copying.Collision.{Collision}
use Rattle.fork_change.specs.declared.copying.Collision.TheVariants.{Refuse, Replace, Skip, Renumber}
use Rattle.fork_words.specs.Given.{is_given, text_of, word_of}
use Rattle.fork_words.specs.declared.fault.Fault.{Fault}
use Rattle.fork_words.specs.declared.fault.Fault.TheVariants as fault
use Rattle.fork_words.specs.declared.work.Packing.{Packing}
use Rattle.fork_words.specs.declared.work.Place.{Place}
use Rattle.fork_words.specs.declared.work.Place.TheVariants.{Into, New}
use Rattle.fork_words.specs.declared.work.Rezzing.{Rezzing}
use Rattle.fork_words.specs.declared.work.Target.{Target}

-- what is done where a resource is there, by the flags
abbrev pub collision_of : Found → Collision
collision_of found =
    if is_given found (codes "replace") then Replace
    else if is_given found (codes "skip") then Skip
    else if is_given found (codes "renumber") then Renumber
    else Refuse

-- the file that is changed, the one that is written in its place, and the flags
pub record IsTarget (found : Found) (path : List ℕ) (target : Target) : Type 0 where
  pub file : target.file.now ≡ path
  pub output : text_of target.output ≡ first_value found (codes "output")
  pub keeps_old : target.keeps_old ≡ is_given found (codes "backup")
  pub is_dry : target.is_dry ≡ is_given found (codes "dry")
  pub is_quiet : target.is_quiet ≡ is_given found (codes "quiet")

-- a new file is named, which is made of this source, and none that is there; or one that is there, and no new one
abbrev pub IsPlace : Found → List ℕ → Place → Type 0
IsPlace found source (New target is_forced) = (first_value found (codes "into") ≡ None) × (is_some target.output ≡ true) × (target.keeps_old ≡ false)
    × IsTarget found source target × (collision_of found ≡ Refuse) × (is_forced ≡ is_given found (codes "force"))
IsPlace found source (Into target how) = (first_value found (codes "into") ≡ Some target.file.now) × (target.output ≡ None)
    × (target.file.now ≢ codes "-") × IsTarget found target.file.now target × (how ≡ collision_of found)

-- what `rez` asks for
pub record IsRez (found : Found) (asked : Rezzing) : Type 0 where
  pub text : asked.text.now ≡ word_of found (codes "file")
  pub place : IsPlace found (word_of found (codes "file")) asked.place

-- what `pack` asks for
pub record IsPack (found : Found) (asked : Packing) : Type 0 where
  pub folder : asked.folder.now ≡ word_of found (codes "folder")
  pub like : text_of asked.like ≡ first_value found (codes "like")
  pub adds : asked.adds ≡ is_given found (codes "add")
  pub place : IsPlace found (word_of found (codes "folder")) asked.place

-- why the words name no place: both files or none; the standard input; or what goes with a file that is there, where
-- none is named
abbrev pub IsNoPlace : Found → Fault → Type 0
IsNoPlace found fault.OnePlace = (first_value found (codes "into") ≡ None → first_value found (codes "output") ≡ None)
    × (first_value found (codes "output") ≡ None → first_value found (codes "into") ≡ None)
IsNoPlace found fault.IntoInput = first_value found (codes "into") ≡ Some (codes "-")
IsNoPlace found fault.NotInto = (first_value found (codes "into") ≡ None)
    × ((is_given found (codes "backup") ≡ true) ⊎ (collision_of found ≢ Refuse))
IsNoPlace found other = ⊥
