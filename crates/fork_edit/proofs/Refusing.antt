-- Why a file isn't given a table.
use Rattle.std.proofs.Common.{◌≡◌, ◌∙◌, ◌≤◌, ◌↔◌, ℕ, Bool, true, false, List, [], ◌∷◌, length, Option, None, Some, option_map, inl, inr, refl, sym, ap, subst, arith}
use Rattle.std.specs.Global.{Vec}
use Rattle.std.specs.Prelude.{Result, Ok, Err, IfOk, if◌then◌else◌, ◌⊎◌}
use Rattle.std.specs.Result.{result_err}
use Rattle.mac_files.specs.Archives.{archive_of}
use Rattle.mac_files.specs.BinHex.{File, bin_hex_of, is_bin_hex}
use Rattle.mac_files.specs.Containers.{container_of, contents_of, is_fork_header}
use Rattle.mac_files.specs.Kinds.{first_kind, is_alone, kind_of}
use Rattle.mac_files.specs.OldFiles.{fork_said, read_as, said_in, unless_fault}
use Rattle.mac_files.specs.declared.fault.ContainerFault.{ContainerFault}
use Rattle.mac_files.specs.declared.kind.FileKind.{FileKind}
use Rattle.mac_files.specs.declared.kind.FileKind.TheVariants.{Archive, BinHex, Container as In, Unknown}
use Rattle.mac_files.proofs.Alone.{container_known, read}
use Rattle.mac_files.specs.declared.bin_hex.fault.BinHexFault.{BinHexFault}
use Rattle.mac_files.specs.declared.container.Container.{Container}
use Rattle.mac_files.specs.declared.container.Container.TheVariants.{Raw, AppleSingle, AppleDouble, MacBinary}
use Rattle.mac_write.specs.declared.refusal.Refusal.{Refusal}
use Rattle.mac_write.specs.Forks.{ChangesFork, fork_of, refusal}
use Rattle.mac_write.specs.Parts.{bin_hex_parts}
use Rattle.mac_write.specs.Targets.{hex_unwritten}
use Rattle.fork_bytes.specs.declared.fault.WriteFault.{WriteFault}
use Rattle.fork_bytes.specs.declared.fault.WriteFault.TheVariants as write
use Rattle.fork_bytes.specs.declared.table.Table.{Table}
use Rattle.fork_bytes.specs.Fork.{StandsForWithin, format_limits}
use Rattle.fork_bytes.specs.Laws.{IsGrouped}
use Rattle.fork_bytes.specs.Written.{IsTooBigWithin, written}
use Rattle.fork_answer.specs.Answer.{IsTableOf}
use Rattle.fork_answer.specs.Source.{IsForkIn}
use Rattle.fork_answer.proofs.Mending.{table_grouped}
use Rattle.fork_edit.specs.Files.{HasTable, IsForkBy, IsKeptAs, IsWhy, Refuses, RefusesFork, kept_why, text_why}
use Rattle.fork_edit.specs.declared.file.NotWritten.{NotWritten}
use Rattle.fork_edit.specs.declared.file.NotWritten.TheVariants as unwritten

not_by_container : (why : Option Refusal) → option_map unwritten.Container why ≡ Some unwritten.TooBig → ⊥
not_by_container None is = cc is
not_by_container (Some refused) is = cc is

not_alone : (b : Bool) → (if b then None else Some unwritten.Mistaken) ≡ Some unwritten.TooBig → ⊥
not_alone true is = cc is
not_alone false is = cc is

not_by_text : (read : Result File BinHexFault) (fork : List ℕ) → text_why read fork ≡ Some unwritten.TooBig → ⊥
not_by_text (Ok read) fork is = not_by_container (hex_unwritten (record (bin_hex_parts read) { resource_fork = fork })) is
not_by_text (Err fault) fork is = cc is

-- what is too big is that for the table alone
pub never_too_big : (known : FileKind) (file fork : List ℕ) → kept_why known file fork ≡ Some unwritten.TooBig → ⊥
never_too_big (In Raw) file fork is = not_alone (is_alone (kind_of fork)) is
never_too_big (In AppleSingle) file fork is = not_by_container (refusal AppleSingle file (length fork)) is
never_too_big (In AppleDouble) file fork is = not_by_container (refusal AppleDouble file (length fork)) is
never_too_big (In (MacBinary version)) file fork is = not_by_container (refusal (MacBinary version) file (length fork)) is
never_too_big BinHex file fork is = not_by_text (bin_hex_of file) fork is
never_too_big (Archive archive) file fork is = not_alone (is_alone (kind_of fork)) is
never_too_big Unknown file fork is = not_alone (is_alone (kind_of fork)) is

-- The fork in the new file.

fork_some : (fork : List ℕ) → 1 ≤ length fork → fork_of fork ≡ Some fork
fork_some [] some = absurd (omega arith)
fork_some (byte ∷ bytes) some = refl

found_as : (container : Container) (file fork new : List ℕ) → (container ≡ Raw → is_fork_header fork ≡ true) → 1 ≤ length fork → kind_of file ≡ In container →
    ChangesFork container file fork new → IsForkIn new fork
found_as container file fork new raw some known is =
    let P : Option Container → Type 0 = λ k. fork_said (read_as (first_kind k (is_bin_hex new) (archive_of new)) new) ≡ Ok (Some fork) in
    let Q : Option ContainerFault → Type 0 = λ why. fork_said (unless_fault why (said_in new (contents_of container new))) ≡ Ok (Some fork) in
    let was : container_of file ≡ Some container = container_known (container_of file) (is_bin_hex file) (archive_of file) container known in
    subst P (sym (is.known was raw)) (subst Q (sym is.whole) (ap read (is.resource_fork ∙ fork_some fork some)))

pub found_by : (container : Container) (file fork new : List ℕ) → 1 ≤ length fork → kind_of file ≡ In container → ChangesFork container file fork new →
    IsForkBy container new fork
found_by Raw file fork new some known is = tt
found_by AppleSingle file fork new some known is = found_as AppleSingle file fork new (λ same. absurd (cc same)) some known is
found_by AppleDouble file fork new some known is = found_as AppleDouble file fork new (λ same. absurd (cc same)) some known is
found_by (MacBinary version) file fork new some known is = found_as (MacBinary version) file fork new (λ same. absurd (cc same)) some known is

-- The refusals of a table.

made_reason : (file : List ℕ) (table : Table) (fault : NotWritten) → (¬ IsTooBigWithin format_limits table) → IsGrouped table.rows →
    RefusesFork (kept_why (kind_of file) file (written table)) (Some fault) → Refuses file table (Some fault)
made_reason file table unwritten.HostFull small grouped is = tt
made_reason file table fault small grouped is = inr (small, inr (grouped, is))

made_none : (file : List ℕ) (table : Table) → (¬ IsTooBigWithin format_limits table) → IsGrouped table.rows →
    kept_why (kind_of file) file (written table) ≡ None → (fault : NotWritten) → IsWhy file table fault → ⊥
made_none file table small grouped none fault (inl big) = small big.1
made_none file table small grouped none fault (inr (also, inl apart)) = apart.1 grouped
made_none file table small grouped none fault (inr (also, inr kept)) = let same : Some fault ≡ None = sym kept.1 ∙ none in cc same

pub made_refused : (file fork : List ℕ) (table : Table) (result : Result (Vec ℕ) NotWritten) → fork ≡ written table → (¬ IsTooBigWithin format_limits table) → IsTableOf fork table →
    RefusesFork (kept_why (kind_of file) file fork) (result_err result) → Refuses file table (result_err result)
made_refused file fork table (Ok new) is small stands none =
    made_none file table small (table_grouped fork table stands) (subst (λ (f : List ℕ). kept_why (kind_of file) file f ≡ None) is none)
made_refused file fork table (Err fault) is small stands why =
    made_reason file table fault small (table_grouped fork table stands) (subst (λ (f : List ℕ). RefusesFork (kept_why (kind_of file) file f) (Some fault)) is why)

pub made_big : (file fork : List ℕ) (table : Table) (result : Result (Vec ℕ) NotWritten) → (¬ IsTooBigWithin format_limits table) →
    RefusesFork (kept_why (kind_of file) file fork) (result_err result) → (result ≡ Err unwritten.TooBig) ↔ IsTooBigWithin format_limits table
made_big file fork table result small why = ((λ is. absurd (never_too_big (kind_of file) file fork (as_big result is why))), (λ big. absurd (small big)))
  where
    as_big : (result : Result (Vec ℕ) NotWritten) → result ≡ Err unwritten.TooBig → RefusesFork (kept_why (kind_of file) file fork) (result_err result) →
        kept_why (kind_of file) file fork ≡ Some unwritten.TooBig
    as_big result is why =
        let P : Result (Vec ℕ) NotWritten → Type 0 = λ r. RefusesFork (kept_why (kind_of file) file fork) (result_err r) in subst P is why

-- a fork that isn't read as the table is that of no table
pub misread : (file shown fork : List ℕ) (table : Table) (fault : NotWritten) → shown ≡ fork → (¬ IsTooBigWithin format_limits table) →
    (IsGrouped table.rows → StandsForWithin format_limits fork table) → (fault ≡ unwritten.HostFull) ⊎ ((fault ≡ unwritten.Mistaken) × (¬ IsTableOf shown table)) →
    Refuses file table (Some fault)
misread file shown fork table fault same small stands (inl full) =
    let P : NotWritten → Type 0 = λ f. Refuses file table (Some f) in subst P (sym full) tt
misread file shown fork table fault same small stands (inr other) =
    let P : NotWritten → Type 0 = λ f. Refuses file table (Some f) in
    let Q : List ℕ → Type 0 = λ f. StandsForWithin format_limits f table in
    subst P (sym other.0) (inr (small, inl (refl, λ grouped. other.1 (inr (subst Q (sym same) (stands grouped))))))

-- The new file.

pub has_table : (file fork : List ℕ) (table : Table) (result : Result (Vec ℕ) NotWritten) → fork ≡ written table → IsTableOf fork table →
    IfOk result (λ new. IsForkIn new.items fork) → IfOk result (λ new. IsKeptAs (kind_of file) file fork new.items) → IfOk result (λ new. HasTable file table new.items)
has_table file fork table (Ok new) is stands found kept = record {
  found = (let P : List ℕ → Type 0 = λ f. IsForkIn new.items f in subst P is found);
  stands = (let P : List ℕ → Type 0 = λ f. IsTableOf f table in subst P is stands);
  kept = (let P : List ℕ → Type 0 = λ f. IsKeptAs (kind_of file) file f new.items in subst P is kept);
}
has_table file fork table (Err fault) is stands found kept = tt

-- What the writer of forks says.

abbrev wrote : Vec ℕ → Result (Vec ℕ) WriteFault
wrote fork = Ok fork

abbrev wrote_none : WriteFault → Result (Vec ℕ) WriteFault
wrote_none fault = Err fault

pub small_of : (fork : Vec ℕ) (table : Table) → (wrote fork ≡ wrote_none write.TooBig) ↔ IsTooBigWithin format_limits table → IsTooBigWithin format_limits table → ⊥
small_of fork table both big = let no : wrote fork ≡ wrote_none write.TooBig = both.1 big in cc no

pub big_of : (fault : WriteFault) (table : Table) → fault ≡ write.TooBig → (wrote_none fault ≡ wrote_none write.TooBig) ↔ IsTooBigWithin format_limits table →
    IsTooBigWithin format_limits table
big_of fault table is both = both.0 (ap wrote_none is)
