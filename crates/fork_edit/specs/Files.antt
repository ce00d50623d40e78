-- A file whose resource fork is another one.
use Rattle.std.specs.Prelude.{◌≡◌, ◌≢◌, ℕ, if◌then◌else◌, ◌⊎◌, List, [], length, Option, None, Some, option_map, Result, Ok, Err, ⊤}
use Rattle.mac_files.specs.declared.bin_hex.fault.BinHexFault.{BinHexFault}
use Rattle.mac_files.specs.declared.container.Container.TheVariants.{Raw, MacBinary}
use Rattle.mac_files.specs.declared.container.Version.TheVariants.{I}
use Rattle.mac_files.specs.declared.container.Container.{Container}
use Rattle.mac_files.specs.declared.kind.FileKind.{FileKind}
use Rattle.mac_files.specs.declared.kind.FileKind.TheVariants.{Archive, BinHex, Container as In, Unknown}
use Rattle.mac_files.specs.BinHex.{File, bin_hex_of}
use Rattle.mac_files.specs.Kinds.{is_alone, kind_of}
use Rattle.mac_write.specs.Forks.{refusal, with_fork}
use Rattle.mac_write.specs.Parts.{bin_hex_parts}
use Rattle.mac_write.specs.Targets.{hex_unwritten}
use Rattle.fork_bytes.specs.declared.table.Table.{Table}
use Rattle.fork_bytes.specs.Fork.{format_limits}
use Rattle.fork_bytes.specs.Laws.{IsGrouped}
use Rattle.fork_bytes.specs.Written.{IsTooBigWithin, written}
use Rattle.fork_answer.specs.Answer.{IsTableOf}
use Rattle.fork_answer.specs.Source.{IsForkIn, IsNoForkIn}
use Rattle.fork_answer.specs.declared.source.NoFork.{NoFork}
use Rattle.fork_answer.specs.declared.source.NoFork.TheVariants.{Absent}
use Rattle.fork_edit.specs.declared.file.NotWritten.{NotWritten}
use Rattle.fork_edit.specs.declared.file.NotWritten.TheVariants as unwritten

-- a container has no resource fork; what only seems to be MacBinary I, which has no signature, isn't taken for one
pub record IsWithoutFork (file : List ℕ) : Type 0 where
  pub none : IsNoForkIn file Absent
  pub sure : kind_of file ≢ In (MacBinary I)

-- the resource fork of a file; a container without one has one of no bytes
abbrev pub IsSourceOf : List ℕ → List ℕ → Type 0
IsSourceOf file fork = IsForkIn file fork ⊎ (IsWithoutFork file × (fork ≡ []))

-- why there is none
pub record IsNoSourceIn (file : List ℕ) (fault : NoFork) : Type 0 where
  pub none : IsNoForkIn file fault
  pub unsure : fault ≡ Absent → kind_of file ≡ In (MacBinary I)

-- a file of this kind is kept as it was, with these bytes as its resource fork: in its container, as a BinHex text, or
-- as nothing but the fork
abbrev pub IsKeptAs : FileKind → List ℕ → List ℕ → List ℕ → Type 0
IsKeptAs (In Raw) file fork new = new ≡ fork
IsKeptAs (In container) file fork new = new ≡ with_fork container file fork
IsKeptAs BinHex file fork new = (read : File) × (bin_hex_of file ≡ Ok read) × (bin_hex_of new ≡ Ok (record read { resource_fork = fork }))
IsKeptAs (Archive archive) file fork new = new ≡ fork
IsKeptAs Unknown file fork new = new ≡ fork

-- the fork is in a file of this container; a file of nothing but a fork is known by that alone
abbrev pub IsForkBy : Container → List ℕ → List ℕ → Type 0
IsForkBy Raw new fork = ⊤
IsForkBy container new fork = IsForkIn new fork

-- A file has this table in the place of its own, and all else as it was: its resource fork is the written form of the
-- table.
pub record HasTable (file : List ℕ) (table : Table) (new : List ℕ) : Type 0 where
  pub found : IsForkIn new (written table)
  pub stands : IsTableOf (written table) table
  pub kept : IsKeptAs (kind_of file) file (written table) new

-- Why a file isn't given a table.

-- a file of nothing but these bytes would be taken for something else
abbrev pub alone_why : List ℕ → Option NotWritten
alone_why fork = if is_alone (kind_of fork) then None else Some unwritten.Mistaken

-- the text is damaged, or a text can't hold the new file
abbrev pub text_why : Result File BinHexFault → List ℕ → Option NotWritten
text_why (Err fault) fork = Some (unwritten.Text fault)
text_why (Ok read) fork = option_map unwritten.Container (hex_unwritten (record (bin_hex_parts read) { resource_fork = fork }))

-- why a file of this kind isn't given these bytes as its resource fork
abbrev pub kept_why : FileKind → List ℕ → List ℕ → Option NotWritten
kept_why (In Raw) file fork = alone_why fork
kept_why (In container) file fork = option_map unwritten.Container (refusal container file (length fork))
kept_why BinHex file fork = text_why (bin_hex_of file) fork
kept_why (Archive archive) file fork = alone_why fork
kept_why Unknown file fork = alone_why fork

-- Why a file isn't given a table: the table is too big; or rows of one type are apart, which no fork can say; or it is
-- why the file isn't given the fork of the table.
abbrev pub IsWhy : List ℕ → Table → NotWritten → Type 0
IsWhy file table fault = ((fault ≡ unwritten.TooBig) × IsTooBigWithin format_limits table)
    ⊎ ((¬ IsTooBigWithin format_limits table) × (((fault ≡ unwritten.Mistaken) × (¬ IsGrouped table.rows))
    ⊎ (IsGrouped table.rows × (kept_why (kind_of file) file (written table) ≡ Some fault))))

-- a file is refused a table exactly so, unless the host has no memory
abbrev pub Refuses : List ℕ → Table → Option NotWritten → Type 0
Refuses file table None = (fault : NotWritten) → ¬ IsWhy file table fault
Refuses file table (Some unwritten.HostFull) = ⊤
Refuses file table (Some fault) = IsWhy file table fault

-- the same of a fork
abbrev pub RefusesFork : Option NotWritten → Option NotWritten → Type 0
RefusesFork why None = why ≡ None
RefusesFork why (Some unwritten.HostFull) = ⊤
RefusesFork why (Some fault) = why ≡ Some fault
