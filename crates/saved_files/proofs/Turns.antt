-- The next of the files that bytes say.
use Rattle.std.proofs.Common.{◌≡◌, ℕ, zero, suc, ◌+◌, ◌<◌, ◌≤◌, List, [], ◌∷◌, ◌++◌, length, map, get_or, drop, refl, sym, subst, ap, ◌∙◌, append_assoc, arith}
use Rattle.std.specs.List.{AllByRecursion, flat_map}
use Rattle.std.proofs.lemmas.List.{drop_more, length-map}
use Rattle.fork_bytes.specs.declared.place.Place.{Place}
use Rattle.res_table.specs.declared.chain.OpenFile.{OpenFile}
use Rattle.res_table.specs.declared.chain.ResourceTable.{ResourceTable}
use Rattle.res_table.specs.OpenFiles.{OpenFiles, no_files, file_opened}
use Rattle.res_files.specs.Standing.{most_files}
use Rattle.res_update.specs.Device.{Disk}
use Rattle.row_image.specs.Images.{HasImage, HasImages}
use Rattle.saved_files.specs.Parts.{CanOpen}
use Rattle.saved_files.specs.Saved.{file_text, number_of}
use Rattle.saved_files.specs.Sound.{StandOnForks}
use Rattle.saved_files.proofs.Files.{all_mid, can_open}

-- the file at an index: it is before the others that are left, and has the number there
record Next (numbers : List ℕ) (files : List (OpenFile Place)) (i : ℕ) : Type 0 where
  file : OpenFile Place
  rest : drop i files ≡ file ∷ drop (i + 1) files
  number : get_or numbers i 0 ≡ file.number

next : (files : List (OpenFile Place)) (i : ℕ) → i < length files → Next (map number_of files) files i
next [] i within = absurd (omega arith)
next (f ∷ files) zero within = record { file = f; rest = drop_more (f ∷ files) zero f within; number = refl }
next (f ∷ files) (suc i) within =
    let deeper = next files i (omega arith) in
    let shift : suc (i + 1) ≡ suc i + 1 = omega arith in
    record {
      file = deeper.file;
      rest = deeper.rest ∙ ap (λ (n : ℕ). deeper.file ∷ drop n (f ∷ files)) shift;
      number = deeper.number;
    }

-- what is known of the next file, where the files so far are the first of those that are said
pub record Turn (disks : List Disk) (numbers : List ℕ) (want chain : OpenFiles Place) (i : ℕ) (rest : List ℕ) : Type 0 where
  pub file : OpenFile Place
  pub mid : want.files ≡ chain.files ++ file ∷ drop (i + 1) want.files
  pub number : get_or numbers i 0 ≡ file.number
  pub text : rest ≡ file_text file ++ flat_map file_text (drop (i + 1) want.files)
  pub has : HasImage file.table
  pub can : CanOpen disks chain file.number file.table

pub turn : (disks : List Disk) (numbers : List ℕ) (want chain : OpenFiles Place) (i : ℕ) (rest : List ℕ) → i < length numbers → StandOnForks disks want → AllByRecursion HasImages want.files
    → numbers ≡ map number_of want.files → chain.files ++ drop i want.files ≡ want.files → rest ≡ flat_map file_text (drop i want.files) → Turn disks numbers want chain i rest
turn disks numbers want chain i rest within stands has are so_far left =
    let count = ap (λ (xs : List ℕ). length xs) are in let long = length-map want.files number_of in
    let n : Next numbers want.files i = subst (λ (xs : List ℕ). Next xs want.files i) (sym are) (next want.files i (omega (arith, within, count, long))) in
    let mid : want.files ≡ chain.files ++ n.file ∷ drop (i + 1) want.files = sym so_far ∙ ap (λ (xs : List (OpenFile Place)). chain.files ++ xs) n.rest in
    record {
      file = n.file;
      mid = mid;
      number = n.number;
      text = left ∙ ap (flat_map file_text) n.rest;
      has = all_mid HasImages chain.files (drop (i + 1) want.files) n.file (subst (AllByRecursion HasImages) mid has);
      can = can_open disks want chain.files (drop (i + 1) want.files) n.file chain stands mid refl;
    }

-- it can be opened by its number and table
pub can_now : (disks : List Disk) (chain : OpenFiles Place) (n k : ℕ) (table t : ResourceTable Place) → n ≡ k → table ≡ t → CanOpen disks chain k t → CanOpen disks chain n table
can_now disks chain n k table t same same_table can =
    subst (λ (m : ℕ). CanOpen disks chain m table) (sym same) (subst (λ (x : ResourceTable Place). CanOpen disks chain k x) (sym same_table) can)

-- the files so far, once it is opened
pub opened_more : (want chain : OpenFiles Place) (i n : ℕ) (table : ResourceTable Place) (f : OpenFile Place) → want.files ≡ chain.files ++ f ∷ drop (i + 1) want.files → n ≡ f.number → table ≡ f.table
    → (file_opened n table chain).files ++ drop (i + 1) want.files ≡ want.files
opened_more want chain i n table f mid number same =
    let rest = drop (i + 1) want.files in
    ap (λ (k : ℕ). let file : OpenFile Place = record { number = k; table = table } in (chain.files ++ file ∷ []) ++ rest) number
    ∙ ap (λ (t : ResourceTable Place). let file : OpenFile Place = record { number = f.number; table = t } in (chain.files ++ file ∷ []) ++ rest) same
    ∙ append_assoc chain.files (f ∷ []) rest
    ∙ sym mid

-- no file is on any forks
pub stand_none : (disks : List Disk) → length disks ≤ most_files → StandOnForks disks no_files
stand_none disks few = record { few = few; each = tt; apart = tt; current = tt }
