-- AppleSingle or AppleDouble with another resource fork is read again.
use Rattle.std.proofs.Common.{◌≡◌, ℕ, ◌+◌, ◌≤◌, List, [], ◌∷◌, length, map, take, drop, refl, sym, ap, subst, ◌∙◌, arith, Bool, true, false, None, Some, Option, if◌then◌else◌}
use Rattle.std.specs.Prelude.{find, option_map, option_and_then, is_some, nat_le, ◌&&◌, ◌==◌}
use Rattle.std.specs.List.{AllByRecursion}
use Rattle.std.specs.Option.{option_or}
use Rattle.std.proofs.lemmas.Bool.{eq-eqb, eqb-true, leb-true, ne_eqb}
use Rattle.std.proofs.lemmas.List.{take-take}
use Rattle.std.proofs.lemmas.List.Folds.{find-append}
use Rattle.byteorder.specs.Endian.{big_from}
use Rattle.mac_files.specs.declared.part.Part.{Part}
use Rattle.mac_files.specs.declared.fault.Entry.{Entry}
use Rattle.mac_files.specs.declared.contents.Dates.{Dates}
use Rattle.mac_files.specs.declared.contents.FinderInfo.{FinderInfo}
use Rattle.mac_files.specs.Apple.{dates_in, entries_of, entry_of, finder_in, part_of}
use Rattle.mac_files.specs.Parts.{bytes_of, has_bytes}
use Rattle.mac_write.specs.Apple.{all_entries, apple_with_fork, changed, fork_entry, is_fork, listed_fork}
use Rattle.mac_write.specs.Forks.{fork_of}
use Rattle.mac_write.proofs.Entries.{all_added, all_listed}
use Rattle.mac_write.proofs.EntriesRead.{added_entry}
use Rattle.mac_write.proofs.AppleRead.{IsWell, part_by}
use Rattle.mac_write.proofs.Segments.{number_shifted, shifted}

-- what is found among changed entries
cond_map : {X Y : Type 0} (f : X → Y) (b : Bool) (x : X) (o : Option X) → (if b then Some (f x) else option_map f o) ≡ option_map f (if b then Some x else o)
cond_map f true x o = refl
cond_map f false x o = refl

find_changed : (file : List ℕ) (count id : ℕ) (entries : List Entry)
    → find (λ (e : Entry). e.id == id) (map (changed file count) entries) ≡ option_map (changed file count) (find (λ (e : Entry). e.id == id) entries)
find_changed file count id [] = refl
find_changed file count id (e ∷ entries) =
    ap (λ (o : Option Entry). if e.id == id then Some (changed file count e) else o) (find_changed file count id entries)
    ∙ cond_map (changed file count) (e.id == id) e (find (λ (e : Entry). e.id == id) entries)

-- what is found is of the list
pub record IsFound (P : Entry → Type 0) (id : ℕ) (e : Entry) : Type 0 where
  pub all : P e
  pub same : e.id ≡ id

found_by : (P : Entry → Type 0) (id : ℕ) (x y : Entry) (xs : List Entry) (b : Bool) → (x.id == id) ≡ b → P x
    → (if b then Some x else find (λ (e : Entry). e.id == id) xs) ≡ Some y → (find (λ (e : Entry). e.id == id) xs ≡ Some y → IsFound P id y) → IsFound P id y
found_by P id x y xs true is one found others =
    let same : x ≡ y = cc in subst (IsFound P id) same (record { all = one; same = eqb-true x.id id is })
found_by P id x y xs false is one found others = others found

pub found_all : (P : Entry → Type 0) (id : ℕ) (xs : List Entry) (y : Entry) → AllByRecursion P xs → find (λ (e : Entry). e.id == id) xs ≡ Some y → IsFound P id y
found_all P id [] y all is = absurd (cc is)
found_all P id (x ∷ xs) y all is = found_by P id x y xs (x.id == id) refl all.0 is (λ there. found_all P id xs y all.1 there)

-- the fork's entry is the first of its id, and of other ids there are no more
pub find_fork : (file : List ℕ) (o : Option Entry) → listed_fork file ≡ o → find (λ (e : Entry). e.id == 2) (all_entries file) ≡ Some (fork_entry file)
find_fork file (Some e) is =
    ap (find (λ (e : Entry). e.id == 2)) (all_listed file (ap is_some is)) ∙ is ∙ sym (rw is refl)
find_fork file None is =
    ap (find (λ (e : Entry). e.id == 2)) (all_added file (ap is_some is))
    ∙ find-append (λ (e : Entry). e.id == 2) (entries_of file) (fork_entry file ∷ [])
    ∙ ap (λ (o : Option Entry). option_or o (find (λ (e : Entry). e.id == 2) (fork_entry file ∷ []))) is
    ∙ ap (λ (b : Bool). if b then Some (fork_entry file) else None) (ap (λ (e : Entry). e.id == 2) (added_entry file (ap is_some is)))

or_nothing : (o : Option Entry) → option_or o None ≡ o
or_nothing None = refl
or_nothing (Some e) = refl

find_other : (file : List ℕ) (id : ℕ) (b : Bool) → is_some (listed_fork file) ≡ b → (2 ≡ id → ⊥)
    → find (λ (e : Entry). e.id == id) (all_entries file) ≡ find (λ (e : Entry). e.id == id) (entries_of file)
find_other file id true is other = ap (find (λ (e : Entry). e.id == id)) (all_listed file is)
find_other file id false is other =
    ap (find (λ (e : Entry). e.id == id)) (all_added file is)
    ∙ find-append (λ (e : Entry). e.id == id) (entries_of file) (fork_entry file ∷ [])
    ∙ ap (λ (b : Bool). option_or (find (λ (e : Entry). e.id == id) (entries_of file)) (if b then Some (fork_entry file) else None))
    (ap (λ (e : Entry). e.id == id) (added_entry file is) ∙ ne_eqb 2 id other)
    ∙ or_nothing (find (λ (e : Entry). e.id == id) (entries_of file))

all_any : (xs : List Entry) → AllByRecursion (λ _. Unit {0}) xs
all_any [] = tt
all_any (x ∷ xs) = (tt, all_any xs)

fork_own : (file : List ℕ) (o : Option Entry) → listed_fork file ≡ o → is_fork file (fork_entry file) ≡ true
fork_own file o is =
    ap (λ (b : Bool). (((fork_entry file).id == 2) && b)) (eq-eqb (fork_entry file).at (fork_entry file).at refl) ∙ and_true ((fork_entry file).id == 2)
    ∙ id_two o is
  where
    and_true : (b : Bool) → (b && true) ≡ b
    and_true true = refl
    and_true false = refl

    id_two : (o : Option Entry) → listed_fork file ≡ o → ((fork_entry file).id == 2) ≡ true
    id_two None is = ap (λ (e : Entry). e.id == 2) (added_entry file (ap is_some is))
    id_two (Some e) is =
        let own : fork_entry file ≡ e = rw is refl in
        let two = found_all (λ _. Unit {0}) 2 (entries_of file) e (all_any (entries_of file)) is in
        ap (λ (e : Entry). e.id == 2) own ∙ eq-eqb e.id 2 two.same

-- The parts.

told_fork : (fork new : List ℕ) (part : Part) → part.length ≡ length fork → bytes_of part new ≡ fork
    → option_map (λ (q : Part). bytes_of q new) (has_bytes part) ≡ fork_of fork
told_fork [] new part size is = ap (λ (b : Bool). option_map (λ (q : Part). bytes_of q new) (if b then None else Some part)) (eq-eqb part.length 0 size)
told_fork (byte ∷ bytes) new part size is =
    ap (λ (b : Bool). option_map (λ (q : Part). bytes_of q new) (if b then None else Some part)) (ne_eqb part.length 0 (λ none. omega arith))
    ∙ ap (λ (xs : List ℕ). Some xs) is

-- the resource fork
pub fork_told : (file fork : List ℕ) → entries_of (apple_with_fork file fork) ≡ map (changed file (length fork)) (all_entries file)
    → AllByRecursion (IsWell file fork) (all_entries file)
    → option_map (λ (part : Part). bytes_of part (apple_with_fork file fork)) (part_of 2 (apple_with_fork file fork)) ≡ fork_of fork
fork_told file fork are wells =
    let n = length fork in let new = apple_with_fork file fork in let e = fork_entry file in
    let there = find_fork file (listed_fork file) refl in
    let own = fork_own file (listed_fork file) refl in
    let of = (found_all (IsWell file fork) 2 (all_entries file) e wells there).all in
    let entry : entry_of 2 new ≡ Some (changed file n e) =
    ap (find (λ (e : Entry). e.id == 2)) are ∙ find_changed file n 2 (all_entries file) ∙ ap (option_map (changed file n)) there in
    let size : (changed file n e).part.length ≡ n = ap (λ (b : Bool). (part_by file n e b (e.part.length == 0)).length) own in
    ap (λ (o : Option Entry). option_map (λ (part : Part). bytes_of part new) (option_and_then (λ (e : Entry). has_bytes e.part) o)) entry
    ∙ told_fork fork new (changed file n e).part size (of.own own)

-- what is read of an entry of another id
part_read : {X : Type 0} (G : List ℕ → Part → Option X) (new file : List ℕ) (p q : Part) (b : Bool) → p.length ≡ q.length → (q.length == 0) ≡ b
    → G new p ≡ G file q → option_and_then (G new) (has_bytes p) ≡ option_and_then (G file) (has_bytes q)
part_read G new file p q true size is same =
    ap (λ (n : ℕ). option_and_then (G new) (if n == 0 then None else Some p)) size ∙ ap (λ (b : Bool). option_and_then (G new) (if b then None else Some p)) is
    ∙ sym (ap (λ (b : Bool). option_and_then (G file) (if b then None else Some q)) is)
part_read G new file p q false size is same =
    ap (λ (n : ℕ). option_and_then (G new) (if n == 0 then None else Some p)) size ∙ ap (λ (b : Bool). option_and_then (G new) (if b then None else Some p)) is
    ∙ same ∙ sym (ap (λ (b : Bool). option_and_then (G file) (if b then None else Some q)) is)

other_by : {X : Type 0} (G : List ℕ → Part → Option X) (id : ℕ) (file fork : List ℕ) (o : Option Entry) → (2 ≡ id → ⊥)
    → entry_of id file ≡ o → AllByRecursion (IsWell file fork) (all_entries file)
    → ((p q : Part) → p.length ≡ q.length → bytes_of p (apple_with_fork file fork) ≡ bytes_of q file → G (apple_with_fork file fork) p ≡ G file q)
    → option_and_then (G (apple_with_fork file fork)) (option_and_then (λ (e : Entry). has_bytes e.part) (option_map (changed file (length fork)) o))
    ≡ option_and_then (G file) (option_and_then (λ (e : Entry). has_bytes e.part) o)
other_by G id file fork None other is wells reads = refl
other_by G id file fork (Some e) other is wells reads =
    let found = found_all (IsWell file fork) id (all_entries file) e wells (find_other file id (is_some (listed_fork file)) refl other ∙ is) in
    let not_own : is_fork file e ≡ false = ap (λ (b : Bool). b && (e.at == (fork_entry file).at)) (ne_eqb e.id 2 (λ two. other (sym two ∙ found.same))) in
    let kept = found.all.other not_own in
    part_read G (apple_with_fork file fork) file (changed file (length fork) e).part e.part (e.part.length == 0) kept.0 refl
    (reads (changed file (length fork) e).part e.part kept.0 kept.1)

pub other_told : {X : Type 0} (G : List ℕ → Part → Option X) (id : ℕ) (file fork : List ℕ) → (2 ≡ id → ⊥)
    → entries_of (apple_with_fork file fork) ≡ map (changed file (length fork)) (all_entries file) → AllByRecursion (IsWell file fork) (all_entries file)
    → ((p q : Part) → p.length ≡ q.length → bytes_of p (apple_with_fork file fork) ≡ bytes_of q file → G (apple_with_fork file fork) p ≡ G file q)
    → option_and_then (G (apple_with_fork file fork)) (part_of id (apple_with_fork file fork)) ≡ option_and_then (G file) (part_of id file)
other_told G id file fork other are wells reads =
    let n = length fork in let new = apple_with_fork file fork in
    let entry : entry_of id new ≡ option_map (changed file n) (entry_of id file) =
    ap (find (λ (e : Entry). e.id == id)) are ∙ find_changed file n id (all_entries file)
    ∙ ap (option_map (changed file n)) (find_other file id (is_some (listed_fork file)) refl other) in
    ap (λ (o : Option Entry). option_and_then (G new) (option_and_then (λ (e : Entry). has_bytes e.part) o)) entry
    ∙ other_by G id file fork (entry_of id file) other refl wells reads

map_as : {X : Type 0} (f : Part → X) (o : Option Part) → option_map f o ≡ option_and_then (λ (p : Part). Some (f p)) o
map_as f None = refl
map_as f (Some p) = refl

-- the bytes of a part
pub bytes_told : (id : ℕ) (file fork : List ℕ) → (2 ≡ id → ⊥)
    → entries_of (apple_with_fork file fork) ≡ map (changed file (length fork)) (all_entries file) → AllByRecursion (IsWell file fork) (all_entries file)
    → option_map (λ (part : Part). bytes_of part (apple_with_fork file fork)) (part_of id (apple_with_fork file fork))
    ≡ option_map (λ (part : Part). bytes_of part file) (part_of id file)
bytes_told id file fork other are wells =
    map_as (λ (part : Part). bytes_of part (apple_with_fork file fork)) (part_of id (apple_with_fork file fork))
    ∙ other_told (λ (xs : List ℕ) (part : Part). Some (bytes_of part xs)) id file fork other are wells (λ p q size same. ap (λ (xs : List ℕ). Some xs) same)
    ∙ sym (map_as (λ (part : Part). bytes_of part file) (part_of id file))

-- what the Finder knows, and the dates
leading : (n k : ℕ) (xs ys : List ℕ) → take n xs ≡ take n ys → k ≤ n → take k xs ≡ take k ys
leading n k xs ys same h = sym (take-take k n xs h) ∙ ap (take k) same ∙ take-take k n ys h

abbrev pub finder_if : Bool → List ℕ → Part → Option FinderInfo
finder_if b file part = if b then Some (record {
  kind = take 4 (drop part.offset file);
  creator = take 4 (drop (part.offset + 4) file);
  flags = big_from (part.offset + 8) 2 file;
}) else None

finder_by : (new file : List ℕ) (p q : Part) (b : Bool) → nat_le 10 q.length ≡ b → take q.length (drop p.offset new) ≡ take q.length (drop q.offset file)
    → finder_if b new p ≡ finder_if b file q
finder_by new file p q true is same =
    let long = leb-true 10 q.length is in let n = q.length in
    let kind = leading n 4 (drop p.offset new) (drop q.offset file) same (omega arith) in
    let creator = shifted p.offset q.offset n 4 4 new file same (omega arith) in
    let flags = number_shifted (p.offset + 8) (q.offset + 8) 2 new file (shifted p.offset q.offset n 8 2 new file same (omega arith)) in
    let f : List ℕ → List ℕ → ℕ → Option FinderInfo = λ a b c. Some (record { kind = a; creator = b; flags = c }) in
    ap (λ (a : List ℕ). f a (take 4 (drop (p.offset + 4) new)) (big_from (p.offset + 8) 2 new)) kind
    ∙ ap (λ (b : List ℕ). f (take 4 (drop q.offset file)) b (big_from (p.offset + 8) 2 new)) creator
    ∙ ap (f (take 4 (drop q.offset file)) (take 4 (drop (q.offset + 4) file))) flags
finder_by new file p q false is same = refl

same_part : (new file : List ℕ) (p q : Part) → p.length ≡ q.length → bytes_of p new ≡ bytes_of q file
    → take q.length (drop p.offset new) ≡ take q.length (drop q.offset file)
same_part new file p q size same = ap (λ (k : ℕ). take k (drop p.offset new)) (sym size) ∙ same

pub finder_read : (new file : List ℕ) (p q : Part) → p.length ≡ q.length → bytes_of p new ≡ bytes_of q file → finder_in new p ≡ finder_in file q
finder_read new file p q size same =
    ap (λ (n : ℕ). finder_if (nat_le 10 n) new p) size ∙ finder_by new file p q (nat_le 10 q.length) refl (same_part new file p q size same)

abbrev pub dates_if : Bool → List ℕ → Part → Option Dates
dates_if b file part = if b then Some (record { created = big_from part.offset 4 file; modified = big_from (part.offset + 4) 4 file }) else None

dates_by : (new file : List ℕ) (p q : Part) (b : Bool) → nat_le 8 q.length ≡ b → take q.length (drop p.offset new) ≡ take q.length (drop q.offset file)
    → dates_if b new p ≡ dates_if b file q
dates_by new file p q true is same =
    let long = leb-true 8 q.length is in let n = q.length in
    let created = number_shifted p.offset q.offset 4 new file (leading n 4 (drop p.offset new) (drop q.offset file) same (omega arith)) in
    let modified = number_shifted (p.offset + 4) (q.offset + 4) 4 new file (shifted p.offset q.offset n 4 4 new file same (omega arith)) in
    let f : ℕ → ℕ → Option Dates = λ a b. Some (record { created = a; modified = b }) in
    ap (λ (a : ℕ). f a (big_from (p.offset + 4) 4 new)) created ∙ ap (f (big_from q.offset 4 file)) modified
dates_by new file p q false is same = refl

pub dates_read : (new file : List ℕ) (p q : Part) → p.length ≡ q.length → bytes_of p new ≡ bytes_of q file → dates_in new p ≡ dates_in file q
dates_read new file p q size same =
    ap (λ (n : ℕ). dates_if (nat_le 8 n) new p) size ∙ dates_by new file p q (nat_le 8 q.length) refl (same_part new file p q size same)
