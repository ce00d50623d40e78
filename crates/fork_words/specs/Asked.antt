-- What each command asks for: which word gives what.
use Rattle.std.specs.Prelude.{◌≡◌, ◌⊎◌, ℕ, true, false, if◌then◌else◌, List, Option, None, Some, codes, option_map, ⊤}
use Rattle.clap.specs.Matches.{first_value, subcommand_name_of}
use Rattle.clap.specs.Simple.{subcommand_rows_of}
use Rattle.clap.specs.Walk.{rows_of}
use Rattle.clap.specs.declared.parser.matches.ArgMatches.{ArgMatches}
use Rattle.clap.specs.declared.parser.matches.Found.{Found}
use Rattle.fork_answer.specs.declared.request.Choice.{Choice}
use Rattle.fork_answer.specs.declared.request.Request.{Request}
use Rattle.fork_answer.specs.declared.request.Request.TheVariants as request
use Rattle.fork_list.specs.declared.letters.Letters.{Letters}
use Rattle.fork_list.specs.declared.letters.Letters.TheVariants as letters
use Rattle.fork_report.specs.declared.json_row.Bytes.{Bytes}
use Rattle.fork_report.specs.declared.json_row.Bytes.TheVariants as bytes
use Rattle.fork_report.specs.declared.json_row.Digests.{Digests}
use Rattle.fork_report.specs.declared.json_row.Digests.TheVariants as digests
use Rattle.fork_report.specs.declared.request.Report.{Report}
use Rattle.fork_report.specs.declared.request.Report.TheVariants as report
use Rattle.fork_view.specs.declared.unpack.Unpacking.{Unpacking}
use Rattle.fork_view.specs.declared.view.Chosen.{Chosen}
use Rattle.fork_view.specs.declared.view.Chosen.TheVariants as chosen
use Rattle.fork_words.specs.Changes.{AsksFor, form_of}
use Rattle.fork_words.specs.Endings.{IsViewForm}
use Rattle.fork_words.specs.Finding.{IsFinding}
use Rattle.fork_words.specs.Given.{is_given, text_of, texts_of, word_of, word_or, words_of}
use Rattle.fork_words.specs.Kinds.{NameKinds, NamesKind}
use Rattle.fork_words.specs.Named.{NamesKey, NamesNth}
use Rattle.fork_words.specs.Sizes.{IsLimit}
use Rattle.fork_words.specs.declared.asked.Asked.{Asked}
use Rattle.fork_words.specs.declared.asked.Asked.TheVariants as asked
use Rattle.fork_words.specs.declared.asked.Command.{Command}
use Rattle.fork_words.specs.declared.asked.Paging.{Paging}
use Rattle.fork_words.specs.declared.asked.Reporting.{Reporting}
use Rattle.fork_words.specs.declared.asked.Salvage.{Salvage}
use Rattle.fork_words.specs.declared.asked.Salvage.TheVariants as salvage
use Rattle.fork_words.specs.declared.asked.Salvaging.{Salvaging}
use Rattle.fork_words.specs.declared.asked.Showing.{Showing}
use Rattle.fork_words.specs.declared.asked.Titles.{Titles}
use Rattle.fork_words.specs.declared.asked.Titles.TheVariants as titles
use Rattle.fork_words.specs.declared.asked.Viewing.{Viewing}
use Rattle.fork_words.specs.declared.size.TheConstants.{LIMIT}

-- how letters that aren't ASCII are shown
abbrev pub letters_of : Found → Letters
letters_of found = if is_given found (codes "raw") then letters.Raw else letters.Roman

-- whether digests are shown
abbrev pub digests_of : Found → Digests
digests_of found = if is_given found (codes "sha256") then digests.Sha256 else digests.Hidden

-- where the names of files are
abbrev pub titles_of : Found → Titles
titles_of found = if is_given found (codes "paths") then titles.BeforeLines else titles.BeforeFiles

-- how `ls` shows the bytes of resources
abbrev pub IsShownBytes : Option (List ℕ) → Bytes → Type 0
IsShownBytes None shown = shown ≡ bytes.Hidden
IsShownBytes (Some form) shown = (form ≡ codes "base64") × (shown ≡ bytes.Base64)

-- what is reported of files
abbrev pub IsReport : List ℕ → Found → Report → Type 0
IsReport command found (report.Info form digests) = (command ≡ codes "info") × (form ≡ form_of found) × (digests ≡ digests_of found)
IsReport command found (report.Check form) = (command ≡ codes "check") × (form ≡ form_of found)
IsReport command found (report.List kinds shown digests) = (command ≡ codes "ls") × (is_given found (codes "json") ≡ true)
    × (is_given found (codes "types") ≡ false) × NameKinds (words_of found (codes "type")) kinds.items
    × IsShownBytes (first_value found (codes "data")) shown × (digests ≡ digests_of found)
IsReport command found (report.DigestList listed) = (command ≡ codes "ls") × (is_given found (codes "json") ≡ false)
    × (is_given found (codes "sha256") ≡ true) × (first_value found (codes "data") ≡ None)
    × (listed.letters ≡ letters_of found) × NameKinds (words_of found (codes "type")) listed.kinds.items

-- the files of a report, and where their names are
pub record IsReporting (command : List ℕ) (found : Found) (asked : Reporting) : Type 0 where
  pub report : IsReport command found asked.report
  pub files : texts_of asked.files.items ≡ words_of found (codes "file")
  pub titles : asked.titles ≡ titles_of found

-- a list of resources of the types that `-t` names, as a text
pub record IsList (found : Found) (listed : Choice) : Type 0 where
  pub no_json : is_given found (codes "json") ≡ false
  pub no_digests : is_given found (codes "sha256") ≡ false
  pub no_bytes : first_value found (codes "data") ≡ None
  pub letters : listed.letters ≡ letters_of found
  pub kinds : NameKinds (words_of found (codes "type")) listed.kinds.items

-- what is shown of files
abbrev pub IsRequest : List ℕ → Found → Request → Type 0
IsRequest command found (request.List listed) = (command ≡ codes "ls") × (is_given found (codes "types") ≡ false) × IsList found listed
IsRequest command found (request.Types listed) = (command ≡ codes "ls") × (is_given found (codes "types") ≡ true) × IsList found listed
IsRequest command found (request.Get wanted) = (command ≡ codes "get") × NamesKind (word_of found (codes "type")) wanted.kind
    × NamesKey (word_of found (codes "key")) wanted.key × NamesNth (word_or found (codes "nth") (codes "1")) wanted.nth

-- the files of which it is shown, where their names are, and the file that is written
pub record IsShowing (command : List ℕ) (found : Found) (asked : Showing) : Type 0 where
  pub request : IsRequest command found asked.request
  pub files : texts_of asked.files.items ≡ words_of found (codes "file")
  pub titles : asked.titles ≡ titles_of found
  pub recursive : asked.is_recursive ≡ is_given found (codes "recursive")
  pub output : text_of asked.output ≡ first_value found (codes "output")

-- what is salvaged: a fork by `-o`, or else the data fork by `--data`; nothing is written without them
abbrev pub IsSalvage : Found → Salvage → Type 0
IsSalvage found (salvage.Fork output) = first_value found (codes "output") ≡ Some output.now
IsSalvage found (salvage.Data output) = (first_value found (codes "output") ≡ None) × (first_value found (codes "data") ≡ Some output.now)
IsSalvage found (salvage.List shown) = (first_value found (codes "output") ≡ None) × (first_value found (codes "data") ≡ None)
    × (shown ≡ letters_of found)

-- what `salvage` asks for
pub record IsSalvaging (found : Found) (asked : Salvaging) : Type 0 where
  pub file : asked.file.now ≡ word_of found (codes "file")
  pub what : IsSalvage found asked.what

-- which resources are shown: all, those of a type, or the first of a type with an id or a name
abbrev pub IsChosen : Option (List ℕ) → Option (List ℕ) → Chosen → Type 0
IsChosen kind key chosen.All = kind ≡ None
IsChosen kind key (chosen.Kind shown) = (key ≡ None) × ((word : List ℕ) × (kind ≡ Some word) × NamesKind word shown)
IsChosen kind key (chosen.One wanted) = ((word : List ℕ) × (kind ≡ Some word) × NamesKind word wanted.kind)
    × ((word : List ℕ) × (key ≡ Some word) × NamesKey word wanted.key) × (wanted.nth ≡ 0)

-- what `show` asks for
pub record IsViewing (found : Found) (asked : Viewing) : Type 0 where
  pub chosen : IsChosen (first_value found (codes "type")) (first_value found (codes "key")) asked.view.chosen
  pub form : IsViewForm (first_value found (codes "as")) (first_value found (codes "output")) asked.view.form
  pub file : asked.file.now ≡ word_of found (codes "file")
  pub output : text_of asked.output ≡ first_value found (codes "output")

-- what `unpack` asks for
pub record IsUnpacking (found : Found) (unpacking : Unpacking) (file : List ℕ) : Type 0 where
  pub kinds : NameKinds (words_of found (codes "type")) unpacking.kinds.items
  pub folder : unpacking.folder.now ≡ word_of found (codes "folder")
  pub source : file ≡ word_of found (codes "file")

-- what `page` asks for
pub record IsPaging (found : Found) (asked : Paging) : Type 0 where
  pub files : texts_of asked.files.items ≡ words_of found (codes "file")
  pub output : text_of asked.output ≡ first_value found (codes "output")

-- what a command with these words asks for
abbrev pub Asks : List ℕ → Found → Asked → Type 0
Asks command found (asked.Show showing) = IsShowing command found showing
Asks command found (asked.Report reporting) = IsReporting command found reporting
Asks command found (asked.Salvage salvaging) = (command ≡ codes "salvage") × IsSalvaging found salvaging
Asks command found (asked.View viewing) = (command ≡ codes "show") × IsViewing found viewing
Asks command found (asked.Unpack unpacking file) = (command ≡ codes "unpack") × IsUnpacking found unpacking file.now
Asks command found (asked.Page paging) = (command ≡ codes "page") × IsPaging found paging
Asks command found (asked.Find finding) = (command ≡ codes "find") × IsFinding found finding
Asks command found (asked.Change work) = AsksFor command found work
Asks command found (asked.Tell told) = ⊥

-- what the command that was met asks for, and how much of a file is read
abbrev pub IsAskedBy : ArgMatches → Command → Type 0
IsAskedBy matches command = (name : List ℕ) × (found : Found) × (subcommand_name_of matches ≡ Some name)
    × (option_map (λ met. met.1) (subcommand_rows_of matches) ≡ Some (rows_of found))
    × IsLimit (first_value found (codes "limit")) command.limit × Asks name found command.asked

-- the help or the version is asked for
abbrev pub IsTold : Asked → Type 0
IsTold (asked.Tell told) = ⊤
IsTold other = ⊥

-- what is asked for: the help or the version, with the usual limit; or what a command that was met asks for
abbrev pub IsAsked : Command → Type 0
IsAsked command = (IsTold command.asked × (command.limit ≡ LIMIT)) ⊎ ((matches : ArgMatches) × IsAskedBy matches command)
