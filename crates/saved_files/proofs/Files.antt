-- Files on their forks are opened one after the other.
use Rattle.std.proofs.Common.{◌≡◌, ℕ, zero, suc, ◌+◌, ◌-◌, ◌<◌, ◌≤◌, Bool, true, false, ◌||◌, List, [], ◌∷◌, ◌++◌, length, map, get_or, slice_get, drop, unwrap_or, Option, None, Some, IfSome, refl, sym, subst, ap, ◌∙◌, append_assoc, arith}
use Rattle.std.specs.Prelude.{⊤}
use Rattle.std.specs.List.{AllByRecursion, flat_map, list_any}
use Rattle.std.proofs.lemmas.Bool.{eqb-false, ne_eqb}
use Rattle.std.proofs.lemmas.List.{append-nil, drop_all, drop_more}
use Rattle.std.proofs.lemmas.List.Concat.{flat_map-cons}
use Rattle.std.proofs.lemmas.Option.{slice_get-get_or}
use Rattle.fork_disk.specs.declared.mem_disk.MemDisk.{MemDisk}
use Rattle.fork_disk.specs.declared.store.PlainStore.{PlainStore}
use Rattle.fork_bytes.specs.declared.place.Place.{Place}
use Rattle.fork_bytes.proofs.Steps.{drop_item}
use Rattle.fork_bytes.specs.Fork.{max_rows}
use Rattle.fork_bytes.specs.Laws.{IsGrouped}
use Rattle.res_table.specs.declared.chain.OpenFile.{OpenFile}
use Rattle.res_table.specs.declared.chain.ResourceTable.{ResourceTable}
use Rattle.res_table.specs.OpenFiles.{OpenFiles, is_numbered, file_opened}
use Rattle.res_table.specs.Saved.{bare}
use Rattle.res_update.specs.Device.{Disk}
use Rattle.res_update.specs.Placed.{Holds}
use Rattle.res_files.specs.Standing.{AreApart, StandsOn, fork_at}
use Rattle.res_files.proofs.Stands.{stand_opened}
use Rattle.saved_files.specs.Parts.{CanOpen}
use Rattle.saved_files.specs.Saved.{block_text}
use Rattle.saved_files.specs.Sound.{StandOnForks, disk_of}

-- texts one after the other: that of an element, and those after it
pub next_text : {X : Type 0} (f : X → List ℕ) (xs : List X) (i : ℕ) (d : X) (rest l : List ℕ) → i < length xs → l ≡ flat_map f (drop i xs) ++ rest
    → l ≡ f (get_or xs i d) ++ (flat_map f (drop (i + 1) xs) ++ rest)
next_text {X} f xs i d rest l within is =
    is
    ∙ ap (λ (ys : List X). flat_map f ys ++ rest) (drop_more xs i d within)
    ∙ ap (λ (bytes : List ℕ). bytes ++ rest) (flat_map-cons f (get_or xs i d) (drop (i + 1) xs))
    ∙ append_assoc (f (get_or xs i d)) (flat_map f (drop (i + 1) xs)) rest

-- what holds of all elements holds of one of them
pub all_mid : {X : Type 0} (P : X → Type 0) (xs ys : List X) (x : X) → AllByRecursion P (xs ++ x ∷ ys) → P x
all_mid P [] ys x all = all.0
all_mid P (y ∷ xs) ys x all = all_mid P xs ys x all.1

or_false : (a b : Bool) → (a || b) ≡ false → (a ≡ false) × (b ≡ false)
or_false true b is = absurd (cc is)
or_false false b is = (refl, is)

not_before : (n : ℕ) (xs ys : List (OpenFile Place)) (f : OpenFile Place) → list_any (is_numbered n) (xs ++ f ∷ ys) ≡ false → is_numbered n f ≡ false
not_before n [] ys f none = (or_false (is_numbered n f) (list_any (is_numbered n) ys) none).0
not_before n (x ∷ xs) ys f none = not_before n xs ys f (or_false (is_numbered n x) (list_any (is_numbered n) (xs ++ f ∷ ys)) none).1

-- no file before one of files that are apart has its number
apart_mid : (xs ys : List (OpenFile Place)) (f : OpenFile Place) → AreApart (xs ++ f ∷ ys) → list_any (is_numbered f.number) xs ≡ false
apart_mid [] ys f apart = refl
apart_mid (x ∷ xs) ys f apart =
    let other = not_before x.number xs ys f apart.0 in
    let here : is_numbered f.number x ≡ false = ne_eqb x.number f.number (λ same. eqb-false f.number x.number other (sym same)) in
    ap (λ (b : Bool). b || list_any (is_numbered f.number) xs) here ∙ apart_mid xs ys f apart.1

-- the fork of a number that there is
fork_there : (disks : List Disk) (n : ℕ) (P : Disk → Type 0) → 1 ≤ n → n ≤ length disks → IfSome (slice_get disks (n - 1)) P → P (fork_at disks n)
fork_there disks n P low high held =
    let there = slice_get-get_or disks (n - 1) [] (omega (arith, low, high)) in
    by (slice_get disks (n - 1)) there held
  where
    by : (found : Option Disk) → found ≡ Some (get_or disks (n - 1) []) → IfSome found P → P (unwrap_or found [])
    by None is held = absurd (cc is)
    by (Some x) is held = held

there_fork : (disks : List Disk) (n : ℕ) (P : Disk → Type 0) → P (fork_at disks n) → IfSome (slice_get disks (n - 1)) P
there_fork disks n P holds = by (slice_get disks (n - 1)) holds
  where
    by : (found : Option Disk) → P (unwrap_or found []) → IfSome found P
    by None holds = tt
    by (Some x) holds = holds

-- a file among others on their forks can be opened after those before it
pub can_open : (disks : List Disk) (want : OpenFiles Place) (before after : List (OpenFile Place)) (f : OpenFile Place) (chain : OpenFiles Place)
    → StandOnForks disks want → want.files ≡ before ++ f ∷ after → chain.files ≡ before → CanOpen disks chain f.number f.table
can_open disks want before after f chain stands all now =
    let P = StandsOn (λ (fork : Disk). fork) (λ _. ⊤) (λ _. ⊤) disks in
    let one : P f = all_mid P before after f (subst (AllByRecursion P) all stands.each) in
    let apart : AreApart (before ++ f ∷ after) = subst AreApart all stands.apart in
    let held = fork_there disks f.number (Holds (λ (fork : Disk). fork) (λ _. ⊤) (λ _. ⊤) f.table.rows) one.from_one one.to_count one.held in
    record {
      from_one = one.from_one;
      to_count = one.to_count;
      closed = ap (list_any (is_numbered f.number)) now ∙ apart_mid before after f apart;
      inside = (held tt).1;
      near = one.small.near;
    }

-- files are on their forks with one more that can be opened
pub stand_more : (disks : List Disk) (number : ℕ) (table : ResourceTable Place) (chain : OpenFiles Place) → CanOpen disks chain number table → length table.rows ≤ max_rows → IsGrouped (bare table.rows)
    → StandOnForks disks chain → StandOnForks disks (file_opened number table chain)
stand_more disks number table chain can few grouped stands =
    stand_opened (λ (fork : Disk). fork) (λ _. ⊤) (λ _. ⊤) disks number table chain can.closed can.from_one can.to_count
    (record { few = few; grouped = grouped; near = can.near })
    (there_fork disks number (Holds (λ (fork : Disk). fork) (λ _. ⊤) (λ _. ⊤) table.rows) (λ _. (tt, can.inside)))
    stands

-- an element of which something doesn't hold
pub all_at : {X : Type 0} (P : X → Type 0) (xs : List X) (i : ℕ) (d : X) → i < length xs → AllByRecursion P xs → P (get_or xs i d)
all_at P [] i d within all = absurd (omega arith)
all_at P (x ∷ xs) zero d within all = all.0
all_at P (x ∷ xs) (suc i) d within all = all_at P xs i d (omega arith) all.1

-- the texts so far, and those of the others, are all: with one more
pub step_text : {X : Type 0} (f : X → List ℕ) (xs : List X) (i : ℕ) (x : X) (bytes new all : List ℕ) → i < length xs → x ≡ get_or xs i x → new ≡ bytes ++ f x
    → bytes ++ flat_map f (drop i xs) ≡ all → new ++ flat_map f (drop (i + 1) xs) ≡ all
step_text {X} f xs i x bytes new all within item is so_far =
    ap (λ (b : List ℕ). b ++ flat_map f (drop (i + 1) xs)) is
    ∙ append_assoc bytes (f x) (flat_map f (drop (i + 1) xs))
    ∙ ap (λ (ys : List X). bytes ++ flat_map f ys) (sym (drop_item xs i x within item))
    ∙ so_far

pub all_text : {X : Type 0} (f : X → List ℕ) (xs : List X) (i : ℕ) (bytes all : List ℕ) → length xs ≤ i → bytes ++ flat_map f (drop i xs) ≡ all → bytes ≡ all
all_text {X} f xs i bytes all past so_far = sym (append-nil bytes) ∙ ap (λ (ys : List X). bytes ++ flat_map f ys) (sym (drop_all i xs past)) ∙ so_far

-- the text of a store's fork
abbrev pub disk_text : PlainStore MemDisk → List ℕ
disk_text store = block_text (disk_of store)

pub disks_text : (stores : List (PlainStore MemDisk)) → flat_map block_text (map disk_of stores) ≡ flat_map disk_text stores
disks_text [] = refl
disks_text (s ∷ stores) = ap (λ (rest : List ℕ). block_text (disk_of s) ++ rest) (disks_text stores)

-- the first of some forks, with one more
pub fork_more : (made disks : List Disk) (i : ℕ) (fork : Disk) → i < length disks → fork ≡ get_or disks i [] → made ++ drop i disks ≡ disks → (made ++ fork ∷ []) ++ drop (i + 1) disks ≡ disks
fork_more made disks i fork within is so_far =
    append_assoc made (fork ∷ []) (drop (i + 1) disks)
    ∙ ap (λ (x : Disk). made ++ x ∷ drop (i + 1) disks) is
    ∙ ap (λ (rest : List Disk). made ++ rest) (sym (drop_more disks i [] within))
    ∙ so_far
