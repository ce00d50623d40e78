-- What all open files have together is the same where their data are given in another way; and there are few of them.
use Rattle.std.proofs.Common.{◌≡◌, refl, sym, ap, subst, ◌∙◌, arith, ℕ, zero, suc, ◌+◌, ◌-◌, ◌*◌, ◌≤◌, pos, List, [], ◌∷◌, ◌++◌, length, map, filter, length-append, Bool, true, false, not, cond, ◌||◌, Option, Some, None, if◌then◌else◌}
use Rattle.std.specs.Prelude.{nat_le}
use Rattle.std.specs.List.{list_any, AllByRecursion}
use Rattle.std.specs.Option.{option_map}
use Rattle.std.proofs.lemmas.Bool.{eqb-true, eqb-false}
use Rattle.std.proofs.lemmas.List.{length-map}
use Rattle.std.proofs.lemmas.List.Folds.{list_any-append}
use Rattle.fork_bytes.specs.Written.{types_of}
use Rattle.fork_bytes.specs.declared.place.Place.{Place}
use Rattle.res_table.specs.declared.row.Row.{Row}
use Rattle.res_table.specs.declared.chain.OpenFile.{OpenFile}
use Rattle.res_table.specs.declared.chain.RowPlace.{RowPlace}
use Rattle.res_table.specs.OpenFiles.{OpenFiles, is_numbered}
use Rattle.res_table.specs.Rows.{is_of_type, is_resource, count_of_type, index_of_ith, free_id_from, largest_id}
use Rattle.res_table.specs.Saved.{kind_of}
use Rattle.res_table.specs.AllFiles.{all_rows, ith_place, has_type, types_in, new_types, all_types, free_in_all}
use Rattle.res_table.proofs.AllFiles.{counts_add}
use Rattle.res_files.specs.Standing.{StandsOn, AreApart, StandOn}
use Rattle.res_files.proofs.Mapped.{mapped_row, mapped_files, any-mapped, bare-mapped, count_of_type-mapped, index_of_ith-mapped}

-- how many there are of a type
pub all_counts-mapped : {D E : Type 0} (f : ℕ → D → E) (kind : List ℕ) (files : List (OpenFile D)) → count_of_type kind (all_rows (mapped_files f files)) ≡ count_of_type kind (all_rows files)
all_counts-mapped f kind [] = refl
all_counts-mapped f kind (file ∷ files) =
    counts_add kind (all_rows (mapped_files f files)) (map (mapped_row (f file.number)) file.table.rows)
    ∙ ap (λ (n : ℕ). n + count_of_type kind (map (mapped_row (f file.number)) file.table.rows)) (all_counts-mapped f kind files)
    ∙ ap (λ (n : ℕ). count_of_type kind (all_rows files) + n) (count_of_type-mapped (f file.number) kind file.table.rows)
    ∙ sym (counts_add kind (all_rows files) file.table.rows)

-- where the i-th is
pub ith_place-mapped : {D E : Type 0} (f : ℕ → D → E) (kind : List ℕ) (i : ℕ) (files : List (OpenFile D)) → ith_place kind i (mapped_files f files) ≡ ith_place kind i files
ith_place-mapped f kind i [] = refl
ith_place-mapped {D} {E} f kind i (file ∷ files) =
    ap (λ (n : ℕ). if nat_le i n then ith_place kind i (mapped_files f files) else place (index_of_ith kind (i - n) (map (mapped_row (f file.number)) file.table.rows))) (all_counts-mapped f kind files)
    ∙ ap (λ (p : Option RowPlace). if nat_le i (count_of_type kind (all_rows files)) then p else place (index_of_ith kind (i - count_of_type kind (all_rows files)) (map (mapped_row (f file.number)) file.table.rows)))
    (ith_place-mapped f kind i files)
    ∙ ap (λ (found : Option ℕ). if nat_le i (count_of_type kind (all_rows files)) then ith_place kind i files else place found)
    (index_of_ith-mapped (f file.number) kind (i - count_of_type kind (all_rows files)) file.table.rows)
  where
    place : Option ℕ → Option RowPlace
    place found = option_map (λ at. record { file = file.number; index = at }) found

-- whether a row passes a test that looks at no datum
all_any-mapped : {D E : Type 0} (f : ℕ → D → E) (test : Row E → Bool) (own : Row D → Bool) → ((g : D → E) (r : Row D) → test (mapped_row g r) ≡ own r)
    → (files : List (OpenFile D)) → list_any test (all_rows (mapped_files f files)) ≡ list_any own (all_rows files)
all_any-mapped f test own same [] = refl
all_any-mapped f test own same (file ∷ files) =
    list_any-append test (all_rows (mapped_files f files)) (map (mapped_row (f file.number)) file.table.rows)
    ∙ ap (λ (b : Bool). b || list_any test (map (mapped_row (f file.number)) file.table.rows)) (all_any-mapped f test own same files)
    ∙ ap (λ (b : Bool). list_any own (all_rows files) || b) (any-mapped (mapped_row (f file.number)) test own (same (f file.number)) file.table.rows)
    ∙ sym (list_any-append own (all_rows files) file.table.rows)

-- the types
filter_same : {X : Type 0} (test own : X → Bool) → ((x : X) → test x ≡ own x) → (xs : List X) → filter test xs ≡ filter own xs
filter_same test own same [] = refl
filter_same test own same (x ∷ xs) = ap (λ (b : Bool). cond b (x ∷ filter test xs) (filter test xs)) (same x) ∙ ap (λ (ys : List _). cond (own x) (x ∷ ys) ys) (filter_same test own same xs)

pub all_types-mapped : {D E : Type 0} (f : ℕ → D → E) (files : List (OpenFile D)) → all_types (mapped_files f files) ≡ all_types files
all_types-mapped f [] = refl
all_types-mapped f (file ∷ files) =
    ap (λ (ts : List (List ℕ)). ts ++ new_types (map (mapped_row (f file.number)) file.table.rows) (mapped_files f files)) (all_types-mapped f files)
    ∙ ap (λ (ts : List (List ℕ)). all_types files ++ ts)
    (filter_same (λ kind. not (has_type kind (mapped_files f files))) (λ kind. not (has_type kind files)) (λ kind. ap not (all_any-mapped f (is_of_type kind) (is_of_type kind) (λ g r. refl) files)) (types_in (map (mapped_row (f file.number)) file.table.rows))
    ∙ ap (λ (saved : List _). filter (λ kind. not (has_type kind files)) (map kind_of (types_of saved))) (bare-mapped (f file.number) file.table.rows))

-- the least free id
all_length-mapped : {D E : Type 0} (f : ℕ → D → E) (files : List (OpenFile D)) → length (all_rows (mapped_files f files)) ≡ length (all_rows files)
all_length-mapped f [] = refl
all_length-mapped f (file ∷ files) =
    let there = length-append (all_rows (mapped_files f files)) (map (mapped_row (f file.number)) file.table.rows) in let here = length-append (all_rows files) file.table.rows in
    let deeper = all_length-mapped f files in let long = length-map file.table.rows (mapped_row (f file.number)) in omega (arith, there, here, deeper, long)

all_free-mapped : {D E : Type 0} (f : ℕ → D → E) (n id : ℕ) (kind : List ℕ) (files : List (OpenFile D)) → free_id_from n id kind (all_rows (mapped_files f files)) ≡ free_id_from n id kind (all_rows files)
all_free-mapped f zero id kind files = refl
all_free-mapped f (suc n) id kind files =
    ap (λ (b : Bool). if b then free_id_from n (id + 1) kind (all_rows (mapped_files f files)) else id) (all_any-mapped f (is_resource kind (pos id)) (is_resource kind (pos id)) (λ g r. refl) files)
    ∙ ap (λ (next : ℕ). if list_any (is_resource kind (pos id)) (all_rows files) then next else id) (all_free-mapped f n (id + 1) kind files)

pub free_in_all-mapped : {D E : Type 0} (f : ℕ → D → E) (kind : List ℕ) (files : List (OpenFile D)) → free_in_all kind (mapped_files f files) ≡ free_in_all kind files
free_in_all-mapped f kind files =
    ap (λ (id : ℕ). if nat_le id largest_id then Some id else None)
    (ap (λ (n : ℕ). free_id_from n 128 kind (all_rows (mapped_files f files))) (all_length-mapped f files) ∙ all_free-mapped f (length (all_rows files)) 128 kind files)

-- how many numbers up to n are that of a file
abbrev marks : ℕ → OpenFile Place → ℕ
marks zero f = 0
marks (suc n) f = (if is_numbered (suc n) f then 1 else 0) + marks n f

abbrev all_marks : ℕ → List (OpenFile Place) → ℕ
all_marks n [] = 0
all_marks n (f ∷ fs) = marks n f + all_marks n fs

one_mark : (n : ℕ) (f : OpenFile Place) → 1 ≤ f.number → f.number ≤ n → 1 ≤ marks n f
one_mark zero f from to = omega arith
one_mark (suc n) f from to = by (is_numbered (suc n) f) refl (one_mark n f from)
  where
    by : (b : Bool) → is_numbered (suc n) f ≡ b → (f.number ≤ n → 1 ≤ marks n f) → 1 ≤ (if b then 1 else 0) + marks n f
    by true is deeper = omega arith
    by false is deeper = let other = eqb-false f.number (suc n) is in let later = deeper (omega (arith, other, to)) in omega (arith, later)

none_marked : (n : ℕ) (files : List (OpenFile Place)) → list_any (is_numbered (suc n)) files ≡ false → all_marks (suc n) files ≡ all_marks n files
none_marked n [] none = refl
none_marked n (f ∷ files) none = by (is_numbered (suc n) f) none (none_marked n files)
  where
    by : (b : Bool) → (b || list_any (is_numbered (suc n)) files) ≡ false → (list_any (is_numbered (suc n)) files ≡ false → all_marks (suc n) files ≡ all_marks n files)
        → ((if b then 1 else 0) + marks n f) + all_marks (suc n) files ≡ marks n f + all_marks n files
    by true is deeper = absurd (cc is)
    by false is deeper = let same = deeper is in omega arith

one_marked : (n : ℕ) (files : List (OpenFile Place)) → AreApart files → all_marks (suc n) files ≤ suc (all_marks n files)
one_marked n [] apart = omega arith
one_marked n (f ∷ files) apart = by (is_numbered (suc n) f) refl (one_marked n files apart.1)
  where
    by : (b : Bool) → is_numbered (suc n) f ≡ b → all_marks (suc n) files ≤ suc (all_marks n files) → ((if b then 1 else 0) + marks n f) + all_marks (suc n) files ≤ suc (marks n f + all_marks n files)
    by true is deeper =
        let same = none_marked n files (ap (λ (k : ℕ). list_any (is_numbered k) files) (sym (eqb-true f.number (suc n) is)) ∙ apart.0) in omega arith
    by false is deeper = omega arith

all_marked : (n : ℕ) (files : List (OpenFile Place)) → AreApart files → all_marks n files ≤ n
all_marked zero files apart = none files
  where
    none : (files : List (OpenFile Place)) → all_marks 0 files ≤ 0
    none [] = omega arith
    none (f ∷ files) = let deeper = none files in omega arith
all_marked (suc n) files apart = let one = one_marked n files apart in let deeper = all_marked n files apart in omega arith

module _ {S : Type 0} (fork : S → List ℕ) (is_ready is_honest : S → Type 0) (stores : List S) where
  each_marked : (files : List (OpenFile Place)) → AllByRecursion (StandsOn fork is_ready is_honest stores) files → length files ≤ all_marks (length stores) files
  each_marked [] each = omega arith
  each_marked (f ∷ files) each = let one = one_mark (length stores) f each.0.from_one each.0.to_count in let deeper = each_marked files each.1 in omega arith

  rows_few : (files : List (OpenFile Place)) → AllByRecursion (StandsOn fork is_ready is_honest stores) files → length (all_rows files) ≤ 8192 * length files
  rows_few [] each = omega arith
  rows_few (f ∷ files) each =
      let few = each.0.small.few in let deeper = rows_few files each.1 in let all = length-append (all_rows files) f.table.rows in omega (arith, few, deeper, all)

  -- at most as many files are open as there are stores, and they have few rows
  pub few_open : (chain : OpenFiles Place) → StandOn fork is_ready is_honest stores chain → (length chain.files ≤ 255) × (length (all_rows chain.files) ≤ 2088960)
  few_open chain stand =
      let few = stand.few in let most = all_marked (length stores) chain.files stand.apart in let each = each_marked chain.files stand.each in
      let rows = rows_few chain.files stand.each in (omega (arith, few, most, each), omega (arith, few, most, each, rows))

  -- so are those that are read
  pub few_read : (chain : OpenFiles Place) → StandOn fork is_ready is_honest stores chain → (files : List (OpenFile Place)) → files ≡ chain.files → length (all_rows files) ≤ 2088960
  few_read chain stand files is = subst (λ (files : List (OpenFile Place)). length (all_rows files) ≤ 2088960) (sym is) (few_open chain stand).1
