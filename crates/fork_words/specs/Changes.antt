-- What the commands ask for that change files, and those that compare them: which word gives what.
use Rattle.std.specs.Prelude.{◌≡◌, ℕ, if◌then◌else◌, List, [], ◌∷◌, ◌++◌, Option, None, Some, codes, option_map}
use Rattle.clap.specs.Matches.{first_value}
use Rattle.clap.specs.declared.parser.matches.Found.{Found}
use Rattle.fork_report.specs.declared.request.Form.{Form}
use Rattle.fork_report.specs.declared.request.Form.TheVariants.{Json, Text}
use Rattle.fork_words.specs.Given.{is_given, text_of, word_of, word_or, words_of}
use Rattle.fork_words.specs.Kinds.{NameKinds, NamesKind}
use Rattle.fork_words.specs.Named.{Each, IsAttributeChange, IsNameChange, IsNamed, NameChoices, NamesIdOf, NamesName, NamesResource}
use Rattle.fork_words.specs.Places.{IsPack, IsRez, IsTarget, collision_of}
use Rattle.fork_words.specs.Texts.{IsListing, IsPutTexts}
use Rattle.fork_words.specs.declared.work.Comparison.{Comparison}
use Rattle.fork_words.specs.declared.work.Conversion.{Conversion}
use Rattle.fork_words.specs.declared.work.Copying.{Copying}
use Rattle.fork_words.specs.declared.work.Derezzing.{Derezzing}
use Rattle.fork_words.specs.declared.work.Putting.{Putting}
use Rattle.fork_words.specs.declared.work.Removing.{Removing}
use Rattle.fork_words.specs.declared.work.Setting.{Setting}
use Rattle.fork_words.specs.declared.work.Work.{Work}
use Rattle.fork_words.specs.declared.work.Work.TheVariants as work
use Rattle.mac_write.specs.declared.target.Target.{Target as Container}
use Rattle.mac_write.specs.declared.target.Target.TheVariants as container

-- what is reported has this form
abbrev pub form_of : Found → Form
form_of found = if is_given found (codes "json") then Json else Text

-- what `put` asks for
pub record IsPut (found : Found) (asked : Putting) : Type 0 where
  pub resource : NamesResource (word_of found (codes "type")) (word_of found (codes "id")) asked.change.to
  pub name : IsNameChange found asked.change.name
  pub attributes : IsAttributeChange (first_value found (codes "attrs")) asked.change.attributes
  pub input : text_of asked.input ≡ first_value found (codes "input")
  pub is_new : asked.is_new ≡ is_given found (codes "new")
  pub creates : asked.creates ≡ is_given found (codes "create")
  pub target : IsTarget found (word_of found (codes "file")) asked.target

-- what `rm` asks for
pub record IsRemove (found : Found) (asked : Removing) : Type 0 where
  pub resources : (kind : List ℕ) × NamesKind (word_of found (codes "type")) kind × Each (NamesIdOf kind) (words_of found (codes "id")) asked.whats.items
  pub target : IsTarget found (word_of found (codes "file")) asked.target

-- what `set` asks for: type and id stay where no others are given
pub record IsSet (found : Found) (asked : Setting) : Type 0 where
  pub resource : NamesResource (word_of found (codes "old-type")) (word_of found (codes "old-id")) asked.what
  pub becomes : NamesResource (word_or found (codes "type") (word_of found (codes "old-type"))) (word_or found (codes "id") (word_of found (codes "old-id")))
      asked.change.to
  pub name : IsNameChange found asked.change.name
  pub attributes : IsAttributeChange (first_value found (codes "attrs")) asked.change.attributes
  pub target : IsTarget found (word_of found (codes "file")) asked.target

-- what `cp` asks for: its last word is the file that is changed
pub record IsCopy (found : Found) (asked : Copying) : Type 0 where
  pub from : asked.from.now ≡ word_of found (codes "from")
  pub chosen : (words : List (List ℕ)) × (words_of found (codes "words") ≡ words ++ asked.target.file.now ∷ []) × NameChoices words asked.chosen.items
  pub on_collision : asked.on_collision ≡ collision_of found
  pub target : IsTarget found asked.target.file.now asked.target

-- what `diff` asks for
pub record IsCompare (found : Found) (asked : Comparison) : Type 0 where
  pub a : asked.a.now ≡ word_of found (codes "a")
  pub b : asked.b.now ≡ word_of found (codes "b")
  pub form : asked.form ≡ form_of found

-- what `derez` asks for
pub record IsDerez (found : Found) (asked : Derezzing) : Type 0 where
  pub file : asked.file.now ≡ word_of found (codes "file")
  pub kinds : NameKinds (words_of found (codes "type")) asked.kinds.items

-- the word for a container
abbrev pub container_word : Container → List ℕ
container_word container.Raw = codes "raw"
container_word container.AppleDouble = codes "appledouble"
container_word container.AppleSingle = codes "applesingle"
container_word container.MacBinary = codes "macbinary"
container_word container.BinHex = codes "binhex"

-- what `convert` asks for
pub record IsConvert (found : Found) (asked : Conversion) : Type 0 where
  pub kind : container_word asked.kind ≡ word_of found (codes "to")
  pub datum : text_of asked.«data» ≡ first_value found (codes "data")
  pub name : IsNamed (first_value found (codes "name")) (option_map (λ bytes. bytes.items) asked.name)
  pub is_lossy : asked.is_lossy ≡ is_given found (codes "lossy")
  pub target : IsTarget found (word_of found (codes "file")) asked.target

-- what a command with these words asks for
abbrev pub AsksFor : List ℕ → Found → Work → Type 0
AsksFor command found (work.Put asked) = (command ≡ codes "put") × IsPut found asked
AsksFor command found (work.Remove asked) = (command ≡ codes "rm") × IsRemove found asked
AsksFor command found (work.Set asked) = (command ≡ codes "set") × IsSet found asked
AsksFor command found (work.Copy asked) = (command ≡ codes "cp") × IsCopy found asked
AsksFor command found (work.Compare asked) = (command ≡ codes "diff") × IsCompare found asked
AsksFor command found (work.Derez asked) = (command ≡ codes "derez") × IsDerez found asked
AsksFor command found (work.Rez asked) = (command ≡ codes "rez") × IsRez found asked
AsksFor command found (work.Pack asked) = (command ≡ codes "pack") × IsPack found asked
AsksFor command found (work.Convert asked) = (command ≡ codes "convert") × IsConvert found asked
AsksFor command found (work.Texts file) = (command ≡ codes "texts") × IsListing found file.now
AsksFor command found (work.PutTexts asked) = (command ≡ codes "texts") × IsPutTexts found asked
