-- A list of entries is read as it was written.
use Rattle.std.proofs.Common.{◌≡◌, ℕ, zero, suc, ◌+◌, ◌*◌, ◌<◌, ◌≤◌, List, [], ◌∷◌, ◌++◌, length, map, take, drop, refl, sym, ap, subst, ◌∙◌, arith, Bool, true, false, None, Some, Option, if◌then◌else◌}
use Rattle.std.specs.Prelude.{is_some}
use Rattle.std.specs.List.{AllByRecursion}
use Rattle.std.proofs.lemmas.List.{append_assoc, drop-drop, drop_at, length-append, length-map, length-take-le}
use Rattle.byteorder.specs.Endian.{big_bytes, big_from}
use Rattle.byteorder.specs.Numbers.{big_number-reads_back}
use Rattle.mac_files.specs.declared.fault.Entry.{Entry}
use Rattle.mac_files.specs.Apple.{entry_at, entries_from, entries_of, entry_count, list_end}
use Rattle.mac_write.specs.Apple.{all_entries, apple_with_fork, body, changed, entry_text, fork_entry, front, growth, list_text, listed_fork}
use Rattle.mac_write.proofs.Entries.{all_added, all_listed, count_added, count_listed, length-entries_of}
use Rattle.mac_write.proofs.Segments.{Same, left_same, number_at, short}

-- four bytes hold the numbers of an entry
pub record IsSmall (e : Entry) : Type 0 where
  pub id : e.id < 4294967296
  pub offset : e.part.offset < 4294967296
  pub size : e.part.length < 4294967296

-- the entries are in the list from a place on
abbrev pub Stand : ℕ → List Entry → Type 0
Stand at [] = Unit {0}
Stand at (e ∷ entries) = (e.at ≡ at) × Stand (at + 12) entries

same_entry : (at i o l : ℕ) (e : Entry) → e.at ≡ at → i ≡ e.id → o ≡ e.part.offset → l ≡ e.part.length
    → record { at = at; id = i; part = record { offset = o; length = l } } ≡ e
same_entry at i o l e place id offset size = rw (← place, id, offset, size) refl

entry_read : (file rest : List ℕ) (at : ℕ) (e : Entry) → drop at file ≡ entry_text e ++ rest → e.at ≡ at → IsSmall e → entry_at file at ≡ e
entry_read file rest at e is place small =
    let last = big_bytes 4 e.part.length in
    let offset : drop (at + 4) file ≡ big_bytes 4 e.part.offset ++ (last ++ rest) = sym (drop-drop 4 at file) ∙ ap (drop 4) is in
    let size : drop (at + 8) file ≡ last ++ rest = sym (drop-drop 8 at file) ∙ ap (drop 8) is in
    same_entry at (big_from at 4 file) (big_from (at + 4) 4 file) (big_from (at + 8) 4 file) e place
    (number_at at 4 file ∙ ap (big_from 0 4) is ∙ big_number-reads_back 4 e.id (big_bytes 4 e.part.offset ++ (last ++ rest)) small.id)
    (number_at (at + 4) 4 file ∙ ap (big_from 0 4) offset ∙ big_number-reads_back 4 e.part.offset (last ++ rest) small.offset)
    (number_at (at + 8) 4 file ∙ ap (big_from 0 4) size ∙ big_number-reads_back 4 e.part.length rest small.size)

pub entries_read : (file rest : List ℕ) (at : ℕ) (entries : List Entry) → drop at file ≡ list_text entries ++ rest → Stand at entries
    → AllByRecursion IsSmall entries → entries_from file at (length entries) ≡ entries
entries_read file rest at [] is places small = refl
entries_read file rest at (e ∷ entries) is places small =
    let first : drop at file ≡ entry_text e ++ (list_text entries ++ rest) = is ∙ append_assoc (entry_text e) (list_text entries) rest in
    let others : drop (at + 12) file ≡ list_text entries ++ rest = sym (drop-drop 12 at file) ∙ ap (drop 12) first in
    ap (λ (x : Entry). x ∷ entries_from file (at + 12) (length entries)) (entry_read file (list_text entries ++ rest) at e first places.0 small.0)
    ∙ ap (λ (xs : List Entry). e ∷ xs) (entries_read file rest (at + 12) entries others places.1 small.1)

-- each entry has 12 bytes
pub length-list : (entries : List Entry) → length (list_text entries) ≡ 12 * length entries
length-list [] = refl
length-list (e ∷ entries) =
    let rest = length-list entries in let one = length-append (entry_text e) (list_text entries) in omega arith

-- where the entries of the new list are
stand_from : (file : List ℕ) (at count : ℕ) → Stand at (entries_from file at count)
stand_from file at zero = tt
stand_from file at (suc count) = (refl, stand_from file (at + 12) count)

stand_more : (at : ℕ) (entries : List Entry) (e : Entry) → Stand at entries → e.at ≡ at + 12 * length entries → Stand at (entries ++ e ∷ [])
stand_more at [] e places is = (is ∙ omega arith, tt)
stand_more at (first ∷ entries) e places is = (places.0, stand_more (at + 12) entries e places.1 (is ∙ omega arith))

stand_changed : (file : List ℕ) (count at : ℕ) (entries : List Entry) → Stand at entries → Stand at (map (changed file count) entries)
stand_changed file count at [] places = tt
stand_changed file count at (e ∷ entries) places = (places.0, stand_changed file count (at + 12) entries places.1)

none_of_some : (o : Option Entry) → is_some o ≡ false → o ≡ None
none_of_some None is = refl
none_of_some (Some e) is = absurd (cc is)

pub added_entry : (file : List ℕ) → is_some (listed_fork file) ≡ false
    → fork_entry file ≡ record { at = list_end file; id = 2; part = record { offset = 0; length = 0 } }
added_entry file is = rw (none_of_some (listed_fork file) is) refl

stand_all : (file : List ℕ) (b : Bool) → is_some (listed_fork file) ≡ b → Stand 26 (all_entries file)
stand_all file true is = subst (Stand 26) (sym (all_listed file is)) (stand_from file 26 (entry_count file))
stand_all file false is =
    subst (Stand 26) (sym (all_added file is))
    (stand_more 26 (entries_of file) (fork_entry file) (stand_from file 26 (entry_count file))
    (ap (λ (e : Entry). e.at) (added_entry file is) ∙ ap (λ (n : ℕ). 26 + 12 * n) (sym (length-entries_of file))))

pub list_grows : (file : List ℕ) (b : Bool) → is_some (listed_fork file) ≡ b → 26 + 12 * length (all_entries file) ≡ list_end file + growth file
list_grows file true is =
    ap (λ (n : ℕ). 26 + 12 * n) (count_listed file is) ∙ sym (ap (λ (b : Bool). list_end file + (if b then 0 else 12)) is ∙ omega arith)
list_grows file false is =
    ap (λ (n : ℕ). 26 + 12 * n) (count_added file is) ∙ sym (ap (λ (b : Bool). list_end file + (if b then 0 else 12)) is ∙ omega arith)

-- The header and the list of the new file.

pub length-front : (file : List ℕ) (count : ℕ) → 26 ≤ length file → length (front file count) ≡ list_end file + growth file
length-front file count long =
    let all = map (changed file count) (all_entries file) in let number = big_bytes 2 (length (all_entries file)) in
    let a = length-append (take 24 file) (number ++ list_text all) in let b = length-append number (list_text all) in
    let c = length-take-le 24 file (omega arith) in let d = length-list all in let e = length-map (all_entries file) (changed file count) in
    let f = list_grows file (is_some (listed_fork file)) refl in omega arith

pub head_same : (file fork : List ℕ) (i k : ℕ) → 26 ≤ length file → i + k ≤ 24 → Same i k (apple_with_fork file fork) file
head_same file fork i k long h =
    let all = map (changed file (length fork)) (all_entries file) in let number = big_bytes 2 (length (all_entries file)) in
    left_same i k (front file (length fork)) (body file fork) (omega (arith, length-front file (length fork) long))
    ∙ left_same i k (take 24 file) (number ++ list_text all) (omega (arith, length-take-le 24 file (omega arith))) ∙ short 24 i k file h

after_head : (file fork : List ℕ) → 26 ≤ length file → drop 24 (apple_with_fork file fork)
    ≡ big_bytes 2 (length (all_entries file)) ++ (list_text (map (changed file (length fork)) (all_entries file)) ++ body file fork)
after_head file fork long =
    let list = list_text (map (changed file (length fork)) (all_entries file)) in let number = big_bytes 2 (length (all_entries file)) in
    ap (drop 24) (append_assoc (take 24 file) (number ++ list) (body file fork))
    ∙ drop_at (take 24 file) ((number ++ list) ++ body file fork) 24 (length-take-le 24 file (omega arith))
    ∙ append_assoc number list (body file fork)

pub count_is : (file fork : List ℕ) → 26 ≤ length file → length (all_entries file) < 65536
    → entry_count (apple_with_fork file fork) ≡ length (all_entries file)
count_is file fork long few =
    number_at 24 2 (apple_with_fork file fork) ∙ ap (big_from 0 2) (after_head file fork long)
    ∙ big_number-reads_back 2 (length (all_entries file)) (list_text (map (changed file (length fork)) (all_entries file)) ++ body file fork) few

pub entries_are : (file fork : List ℕ) → 26 ≤ length file → length (all_entries file) < 65536
    → AllByRecursion IsSmall (map (changed file (length fork)) (all_entries file))
    → entries_of (apple_with_fork file fork) ≡ map (changed file (length fork)) (all_entries file)
entries_are file fork long few small =
    let new = apple_with_fork file fork in let all = map (changed file (length fork)) (all_entries file) in
    let rest : drop 26 new ≡ list_text all ++ body file fork = sym (drop-drop 2 24 new) ∙ ap (drop 2) (after_head file fork long) in
    ap (entries_from new 26) (count_is file fork long few ∙ sym (length-map (all_entries file) (changed file (length fork))))
    ∙ entries_read new (body file fork) 26 all rest (stand_changed file (length fork) 26 (all_entries file) (stand_all file (is_some (listed_fork file)) refl)) small
