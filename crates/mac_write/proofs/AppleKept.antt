-- AppleSingle or AppleDouble with another resource fork: the bytes of its entries.
use Rattle.std.proofs.Common.{◌≡◌, ◌⊎◌, inl, inr, ℕ, zero, suc, ◌+◌, ◌-◌, ◌<◌, ◌≤◌, List, [], ◌∷◌, ◌++◌, length, take, drop, get_or, refl, sym, ap, subst, ◌∙◌, arith, Bool, true, false, None, if◌then◌else◌}
use Rattle.std.specs.Prelude.{find, is_some, nat_le, not, slice_range, ◌&&◌, ◌||◌, ◌==◌}
use Rattle.std.specs.List.{AllByRecursion}
use Rattle.std.proofs.lemmas.Bool.{leb-true, le-ltb, lt-ltb, not-false, eqb-false}
use Rattle.std.proofs.lemmas.List.{drop-drop, length-append, length-drop, length-take-le, take_at}
use Rattle.byteorder.specs.Numbers.{big_from-lt}
use Rattle.mac_files.specs.declared.fault.Entry.{Entry}
use Rattle.mac_files.specs.Apple.{entry_at, entries_from, entries_of, entry_count, entry_outside, list_end}
use Rattle.mac_files.specs.Parts.{lies_within}
use Rattle.mac_write.specs.Apple.{all_entries, apple_with_fork, body, fork_entry, front, growth, is_fork, is_in_the_way, listed_fork, moved_place, new_length, room, room_end}
use Rattle.mac_write.proofs.Entries.{all_added, all_listed, none_of}
use Rattle.mac_write.proofs.EntriesRead.{IsSmall, added_entry, length-front}
use Rattle.mac_write.proofs.Segments.{left_same, right_from, short}

-- what is known of an entry of the new list: its bytes lie within the old file, and it can be kept
pub record IsKept (file : List ℕ) (e : Entry) : Type 0 where
  pub lies : lies_within (length file) e.part ≡ true
  pub clear : is_in_the_way file e ≡ false
  pub small : IsSmall e

kept_from : (file : List ℕ) (at count : ℕ) → ((k : ℕ) → get_or file k 0 < 256)
    → find (λ (e : Entry). not (lies_within (length file) e.part)) (entries_from file at count) ≡ None
    → find (is_in_the_way file) (entries_from file at count) ≡ None → AllByRecursion (IsKept file) (entries_from file at count)
kept_from file at zero bytes inside clear = tt
kept_from file at (suc count) bytes inside clear =
    let e = entry_at file at in let rest = entries_from file (at + 12) count in
    let a = none_of (λ (e : Entry). not (lies_within (length file) e.part)) (e ∷ rest) rest e refl inside in
    let b = none_of (is_in_the_way file) (e ∷ rest) rest e refl clear in (
      record {
        lies = not-false (lies_within (length file) e.part) a.0;
        clear = b.0;
        small = record {
          id = big_from-lt at 4 file bytes;
          offset = big_from-lt (at + 4) 4 file bytes;
          size = big_from-lt (at + 8) 4 file bytes;
        };
      },
      kept_from file (at + 12) count bytes a.1 b.1,
    )

all_more : {X : Type 0} (P : X → Type 0) (xs : List X) (x : X) → AllByRecursion P xs → P x → AllByRecursion P (xs ++ x ∷ [])
all_more P [] x all one = (one, tt)
all_more P (y ∷ xs) x all one = (all.0, all_more P xs x all.1 one)

kept_added : (file : List ℕ) (e : Entry) → e ≡ record { at = list_end file; id = 2; part = record { offset = 0; length = 0 } } → IsKept file e
kept_added file e is = subst (IsKept file) (sym is) (record {
  lies = refl;
  clear = refl;
  small = record { id = omega arith; offset = omega arith; size = omega arith };
})

kept_by : (file : List ℕ) (b : Bool) → is_some (listed_fork file) ≡ b → ((k : ℕ) → get_or file k 0 < 256) → entry_outside file ≡ None
    → find (is_in_the_way file) (entries_of file) ≡ None → AllByRecursion (IsKept file) (all_entries file)
kept_by file true is bytes inside clear =
    subst (AllByRecursion (IsKept file)) (sym (all_listed file is)) (kept_from file 26 (entry_count file) bytes inside clear)
kept_by file false is bytes inside clear =
    subst (AllByRecursion (IsKept file)) (sym (all_added file is))
    (all_more (IsKept file) (entries_of file) (fork_entry file) (kept_from file 26 (entry_count file) bytes inside clear)
    (kept_added file (fork_entry file) (added_entry file is)))

pub all_kept : (file : List ℕ) → ((k : ℕ) → get_or file k 0 < 256) → entry_outside file ≡ None
    → find (is_in_the_way file) (entries_of file) ≡ None → AllByRecursion (IsKept file) (all_entries file)
all_kept file = kept_by file (is_some (listed_fork file)) refl

-- what is known of the file
pub record IsOpen (file : List ℕ) (count : ℕ) : Type 0 where
  pub long : 26 ≤ length file
  pub list : list_end file ≤ length file
  pub order : list_end file ≤ (room file).offset
  pub room : room_end file ≤ length file
  pub short : new_length file count < 4294967296

-- The parts of the new file.

abbrev pub before_fork : List ℕ → List ℕ
before_fork file = slice_range file (list_end file) (room file).offset

pub length-before_fork : (file : List ℕ) (count : ℕ) → IsOpen file count → length (before_fork file) ≡ (room file).offset - list_end file
length-before_fork file count of =
    let a = of.order in let b = of.room in let c = length-drop (list_end file) file in
    length-take-le ((room file).offset - list_end file) (drop (list_end file) file) (omega arith)

pub length-new : (file fork : List ℕ) → IsOpen file (length fork) → length (apple_with_fork file fork) ≡ new_length file (length fork)
length-new file fork of =
    let a = length-append (front file (length fork)) (body file fork) in
    let b = length-front file (length fork) of.long in
    let c = length-append (before_fork file) (fork ++ drop (room_end file) file) in
    let d = length-before_fork file (length fork) of in
    let e = length-append fork (drop (room_end file) file) in
    let f = length-drop (room_end file) file in
    let g = of.order in let h = of.room in let i = of.list in omega arith

from_body : (file fork : List ℕ) (i : ℕ) → IsOpen file (length fork) → list_end file + growth file ≤ i
    → drop i (apple_with_fork file fork) ≡ drop (i - (list_end file + growth file)) (body file fork)
from_body file fork i of h =
    right_from i (list_end file + growth file) (front file (length fork)) (body file fork) (length-front file (length fork) of.long) h

-- the fork
pub fork_is : (file fork : List ℕ) → IsOpen file (length fork)
    → take (length fork) (drop ((room file).offset + growth file) (apple_with_fork file fork)) ≡ fork
fork_is file fork of =
    let at = (room file).offset + growth file in let first = list_end file + growth file in let rest = drop (room_end file) file in
    let whole = (room file).offset - list_end file in
    let a = of.order in let size = length-before_fork file (length fork) of in
    let none : at - first - whole ≡ 0 = omega arith in
    ap (take (length fork)) (from_body file fork at of (omega arith)
    ∙ right_from (at - first) whole (before_fork file) (fork ++ rest) size (omega arith)
    ∙ ap (λ (j : ℕ). drop j (fork ++ rest)) none)
    ∙ take_at fork rest (length fork) refl

-- bytes that came before the fork, and after it
before_same : (file fork : List ℕ) (i k : ℕ) → IsOpen file (length fork) → list_end file ≤ i → i + k ≤ (room file).offset
    → take k (drop (i + growth file) (apple_with_fork file fork)) ≡ take k (drop i file)
before_same file fork i k of low high =
    let j = i - list_end file in let size = length-before_fork file (length fork) of in let whole = (room file).offset - list_end file in
    ap (take k) (from_body file fork (i + growth file) of (omega arith) ∙ ap (λ (n : ℕ). drop n (body file fork)) (omega arith))
    ∙ left_same j k (before_fork file) (fork ++ drop (room_end file) file) (omega arith)
    ∙ short whole j k (drop (list_end file) file) (omega arith)
    ∙ ap (take k) (drop-drop j (list_end file) file ∙ ap (λ (n : ℕ). drop n file) (omega arith))

after_same : (file fork : List ℕ) (i k : ℕ) → IsOpen file (length fork) → room_end file ≤ i
    → take k (drop (i + growth file + length fork - (room file).length) (apple_with_fork file fork)) ≡ take k (drop i file)
after_same file fork i k of low =
    let at = i + growth file + length fork - (room file).length in let first = list_end file + growth file in
    let size = length-before_fork file (length fork) of in let whole = (room file).offset - list_end file in let rest = drop (room_end file) file in
    let a = of.order in
    ap (take k) (from_body file fork at of (omega arith)
    ∙ right_from (at - first) whole (before_fork file) (fork ++ rest) size (omega arith)
    ∙ right_from (at - first - whole) (length fork) fork rest refl (omega arith)
    ∙ drop-drop (at - first - whole - length fork) (room_end file) file
    ∙ ap (λ (n : ℕ). drop n file) (omega arith))

-- An entry that isn't the fork's.

pub apart : (empty low own first last : Bool) → empty ≡ false → own ≡ false → (not empty && not (low && (own || first || last))) ≡ false
    → (low ≡ true) × ((first ≡ true) ⊎ (last ≡ true))
apart true low own first last has other is = absurd (cc has)
apart false false own first last has other is = absurd (cc is)
apart false true true first last has other is = absurd (cc other)
apart false true false true last has other is = (refl, inl refl)
apart false true false false true has other is = (refl, inr refl)
apart false true false false false has other is = absurd (cc is)

-- where its bytes come to be
pub moved_same : (file fork : List ℕ) (e : Entry) → IsOpen file (length fork) → IsKept file e → is_fork file e ≡ false → (e.part.length == 0) ≡ false
    → take e.part.length (drop (moved_place file (length fork) e.part.offset) (apple_with_fork file fork)) ≡ take e.part.length (drop e.part.offset file)
moved_same file fork e of kept other has =
    let i = e.part.offset in let k = e.part.length in let n = length fork in let place = (room file).offset in
    let clear = apart (k == 0) (nat_le (list_end file) i) (is_fork file e) (nat_le (i + k) place) (nat_le (room_end file) i) has other kept.clear in
    let low = leb-true (list_end file) i clear.0 in
    elim clear.1 [
      | inl first ↦
          let high = leb-true (i + k) place first in
          let below : i < place = omega (arith, eqb-false k 0 has) in
          ap (λ (b : Bool). take k (drop (if b then i + growth file else i + growth file + n - (room file).length) (apple_with_fork file fork))) (lt-ltb i place below)
          ∙ before_same file fork i k of low high
      | inr last ↦
          let high = leb-true (room_end file) i last in
          ap (λ (b : Bool). take k (drop (if b then i + growth file else i + growth file + n - (room file).length) (apple_with_fork file fork))) (le-ltb i place (omega arith))
          ∙ after_same file fork i k of high
    ]
