-- AppleSingle or AppleDouble with another resource fork: all that is promised of it.
use Rattle.std.proofs.Common.{◌≡◌, ℕ, ◌+◌, ◌*◌, ◌<◌, ◌≤◌, List, [], ◌∷◌, length, map, get_or, refl, sym, ap, subst, ◌∙◌, arith, Bool, true, false, None, Some, Option, if◌then◌else◌}
use Rattle.std.specs.Prelude.{find, is_some, option_map, nat_lt, nat_eq, not, ◌==◌}
use Rattle.std.specs.List.{AllByRecursion, starts_with}
use Rattle.std.specs.Option.{option_or}
use Rattle.std.proofs.lemmas.Bool.{le-ltb, ltb-false}
use Rattle.mac_files.specs.declared.part.Part.{Part}
use Rattle.mac_files.specs.declared.fault.Entry.{Entry}
use Rattle.mac_files.specs.declared.fault.ContainerFault.{ContainerFault}
use Rattle.mac_files.specs.declared.fault.ContainerFault.TheVariants.{EndsInHeader, EntriesOutside, EntryOutside, UnknownVersion}
use Rattle.mac_files.specs.declared.container.Container.TheVariants.{Raw, AppleSingle, AppleDouble, MacBinary}
use Rattle.mac_files.specs.declared.container.Version.{Version}
use Rattle.mac_files.specs.Apple.{dates_in, entries_of, entry_count, entry_outside, finder_in, is_known, list_end, version}
use Rattle.mac_files.specs.Containers.{container_of, is_fork_header}
use Rattle.mac_files.specs.Faults.{apple_fault, entry_fault, header_fault, list_fault, version_fault}
use Rattle.mac_files.specs.MacBinary.{version_of}
use Rattle.mac_files.specs.Parts.{lies_within}
use Rattle.mac_write.specs.declared.refusal.Refusal.TheVariants.{Damaged, ListFull, Overlap, TooLong}
use Rattle.mac_write.specs.Apple.{all_entries, apple_refusal, apple_with_fork, changed, fork_entry, growth, is_in_the_way, length_refusal, listed_fork, new_length, room_end, room_refusal}
use Rattle.mac_write.specs.Forks.{ChangesFork, KeepsEntries, apple_why, told}
use Rattle.mac_write.proofs.BinaryChanged.{fork_header_same, starts_same}
use Rattle.mac_write.proofs.Entries.{order}
use Rattle.mac_write.proofs.EntriesRead.{count_is, entries_are, head_same, list_grows}
use Rattle.mac_write.proofs.AppleKept.{IsKept, IsOpen, all_kept, length-new}
use Rattle.mac_write.proofs.AppleRead.{IsWell, all_small, all_told, all_well, none_outside, within_file}
use Rattle.mac_write.proofs.AppleTold.{bytes_told, find_fork, found_all, dates_read, finder_read, fork_told, other_told}
use Rattle.mac_write.proofs.Refused.{else_none, map_none, or_none, then_none}
use Rattle.mac_write.proofs.Segments.{number_same}

-- what is known where nothing is refused
pub record IsSound (file : List ℕ) (count : ℕ) : Type 0 where
  pub long : 26 ≤ length file
  pub known : is_known (version file) ≡ true
  pub list : list_end file ≤ length file
  pub inside : entry_outside file ≡ None
  pub clear : find (is_in_the_way file) (entries_of file) ≡ None
  pub few : length (all_entries file) ≤ 65535
  pub short : new_length file count ≤ 4294967295

pub sound : (file : List ℕ) (count : ℕ) → apple_why file count ≡ None → IsSound file count
sound file count none =
    let first = or_none (option_map Damaged (apple_fault file)) (apple_refusal file count) none in
    let fault = map_none Damaged (apple_fault file) first.0 in
    let header = or_none (header_fault 26 file) (option_or (version_fault file) (option_or (list_fault file) (entry_fault file))) fault in
    let numbered = or_none (version_fault file) (option_or (list_fault file) (entry_fault file)) header.1 in
    let listed = or_none (list_fault file) (entry_fault file) numbered.1 in
    let size = or_none (length_refusal count) (option_or (option_map Overlap (find (is_in_the_way file) (entries_of file))) (room_refusal file count)) first.1 in
    let kept = or_none (option_map Overlap (find (is_in_the_way file) (entries_of file))) (room_refusal file count) size.1 in
    let full = room_none (nat_lt 65535 (length (all_entries file))) (nat_lt 4294967295 (new_length file count)) kept.1 in
    record {
      long = ltb-false (length file) 26 (else_none (nat_lt (length file) 26) (EndsInHeader 26 (length file)) header.0);
      known = then_none (is_known (version file)) (UnknownVersion (version file)) numbered.0;
      list = ltb-false (length file) (list_end file) (else_none (nat_lt (length file) (list_end file)) (EntriesOutside (entry_count file) (length file)) listed.0);
      inside = map_none (λ (e : Entry). EntryOutside e (length file)) (entry_outside file) listed.1;
      clear = map_none Overlap (find (is_in_the_way file) (entries_of file)) kept.0;
      few = ltb-false 65535 (length (all_entries file)) full.0;
      short = ltb-false 4294967295 (new_length file count) full.1;
    }
  where
    room_none : (a b : Bool) → (if a then Some ListFull else if b then Some (TooLong (new_length file count) 4294967295) else None) ≡ None
        → (a ≡ false) × (b ≡ false)
    room_none true b is = absurd (cc is)
    room_none false true is = absurd (cc is)
    room_none false false is = (refl, refl)

-- where the fork ends
room_by : (file : List ℕ) (b : Bool) → ((fork_entry file).part.length == 0) ≡ b → lies_within (length file) (fork_entry file).part ≡ true → room_end file ≤ length file
room_by file true is lies =
    subst (λ (p : Part). p.offset + p.length ≤ length file) (sym (ap (λ (b : Bool). if b then record { offset = length file; length = 0 } else (fork_entry file).part) is)) (omega arith)
room_by file false is lies =
    subst (λ (p : Part). p.offset + p.length ≤ length file) (sym (ap (λ (b : Bool). if b then record { offset = length file; length = 0 } else (fork_entry file).part) is))
    (within_file (length file) (fork_entry file).part lies is)

pub open_of : (file : List ℕ) (count : ℕ) → IsSound file count → AllByRecursion (IsKept file) (all_entries file) → IsOpen file count
open_of file count of kept =
    let own = (found_all (IsKept file) 2 (all_entries file) (fork_entry file) kept (find_fork file (listed_fork file) refl)).all in
    let a = of.short in
    record {
      long = of.long;
      list = of.list;
      order = order file of.clear of.list;
      room = room_by file ((fork_entry file).part.length == 0) refl own.lies;
      short = omega arith;
    }

-- It is known as the same container.

single_by : (fork single double fork' single' double' : Bool) (o o' : Option Version) → fork' ≡ fork → single' ≡ single
    → (if fork then Some Raw else if single then Some AppleSingle else if double then Some AppleDouble else option_map MacBinary o) ≡ Some AppleSingle
    → (if fork' then Some Raw else if single' then Some AppleSingle else if double' then Some AppleDouble else option_map MacBinary o') ≡ Some AppleSingle
single_by fork single double fork' single' double' o o' f s is = rw (f, s) (pick fork single double o is)
  where
    pick : (fork single double : Bool) (o : Option Version)
        → (if fork then Some Raw else if single then Some AppleSingle else if double then Some AppleDouble else option_map MacBinary o) ≡ Some AppleSingle
        → (if fork then Some Raw else if single then Some AppleSingle else if double' then Some AppleDouble else option_map MacBinary o') ≡ Some AppleSingle
    pick true single double o is = absurd (cc is)
    pick false true double o is = refl
    pick false false true o is = absurd (cc is)
    pick false false false None is = absurd (cc is)
    pick false false false (Some w) is = absurd (cc is)

double_by : (fork single double fork' single' double' : Bool) (o o' : Option Version) → fork' ≡ fork → single' ≡ single → double' ≡ double
    → (if fork then Some Raw else if single then Some AppleSingle else if double then Some AppleDouble else option_map MacBinary o) ≡ Some AppleDouble
    → (if fork' then Some Raw else if single' then Some AppleSingle else if double' then Some AppleDouble else option_map MacBinary o') ≡ Some AppleDouble
double_by fork single double fork' single' double' o o' f s d is = rw (f, s, d) (pick fork single double o is)
  where
    pick : (fork single double : Bool) (o : Option Version)
        → (if fork then Some Raw else if single then Some AppleSingle else if double then Some AppleDouble else option_map MacBinary o) ≡ Some AppleDouble
        → (if fork then Some Raw else if single then Some AppleSingle else if double then Some AppleDouble else option_map MacBinary o') ≡ Some AppleDouble
    pick true single double o is = absurd (cc is)
    pick false true double o is = absurd (cc is)
    pick false false true o is = refl
    pick false false false None is = absurd (cc is)
    pick false false false (Some w) is = absurd (cc is)

-- the bytes by which it is known
pub record IsAlike (new file : List ℕ) : Type 0 where
  pub fork : is_fork_header new ≡ is_fork_header file
  pub single : starts_with nat_eq new (0 ∷ 5 ∷ 22 ∷ 0 ∷ []) ≡ starts_with nat_eq file (0 ∷ 5 ∷ 22 ∷ 0 ∷ [])
  pub double : starts_with nat_eq new (0 ∷ 5 ∷ 22 ∷ 7 ∷ []) ≡ starts_with nat_eq file (0 ∷ 5 ∷ 22 ∷ 7 ∷ [])

alike : (file fork : List ℕ) → 26 ≤ length file → 26 ≤ length (apple_with_fork file fork) → IsAlike (apple_with_fork file fork) file
alike file fork long whole = record {
  fork = fork_header_same (apple_with_fork file fork) file (λ i h. head_same file fork i 1 long (omega arith)) (omega arith) (omega arith);
  single = starts_same (0 ∷ 5 ∷ 22 ∷ 0 ∷ []) (apple_with_fork file fork) file (head_same file fork 0 4 long (omega arith));
  double = starts_same (0 ∷ 5 ∷ 22 ∷ 7 ∷ []) (apple_with_fork file fork) file (head_same file fork 0 4 long (omega arith));
}

known_single : (new file : List ℕ) → IsAlike new file → container_of file ≡ Some AppleSingle → container_of new ≡ Some AppleSingle
known_single new file of =
    single_by (is_fork_header file) (starts_with nat_eq file (0 ∷ 5 ∷ 22 ∷ 0 ∷ [])) (starts_with nat_eq file (0 ∷ 5 ∷ 22 ∷ 7 ∷ []))
    (is_fork_header new) (starts_with nat_eq new (0 ∷ 5 ∷ 22 ∷ 0 ∷ [])) (starts_with nat_eq new (0 ∷ 5 ∷ 22 ∷ 7 ∷ []))
    (version_of file) (version_of new) of.fork of.single

known_double : (new file : List ℕ) → IsAlike new file → container_of file ≡ Some AppleDouble → container_of new ≡ Some AppleDouble
known_double new file of =
    double_by (is_fork_header file) (starts_with nat_eq file (0 ∷ 5 ∷ 22 ∷ 0 ∷ [])) (starts_with nat_eq file (0 ∷ 5 ∷ 22 ∷ 7 ∷ []))
    (is_fork_header new) (starts_with nat_eq new (0 ∷ 5 ∷ 22 ∷ 0 ∷ [])) (starts_with nat_eq new (0 ∷ 5 ∷ 22 ∷ 7 ∷ []))
    (version_of file) (version_of new) of.fork of.single of.double

-- It has no fault.

whole : (file fork : List ℕ) → IsSound file (length fork) → IsOpen file (length fork)
    → entries_of (apple_with_fork file fork) ≡ map (changed file (length fork)) (all_entries file) → AllByRecursion (IsWell file fork) (all_entries file)
    → apple_fault (apple_with_fork file fork) ≡ None
whole file fork sound of are wells =
    let new = apple_with_fork file fork in let size = length-new file fork of in let a = of.order in let b = of.room in let few = sound.few in
    let numbered : version new ≡ version file = number_same 4 4 new file (head_same file fork 4 4 sound.long (omega arith)) in
    let ends : list_end new ≡ list_end file + growth file =
    ap (λ (n : ℕ). 26 + 12 * n) (count_is file fork sound.long (omega arith)) ∙ list_grows file (is_some (listed_fork file)) refl in
    let outside : entry_outside new ≡ None =
    ap (find (λ (e : Entry). not (lies_within (length new) e.part))) are ∙ none_outside file fork (all_entries file) wells in
    let header : header_fault 26 new ≡ None = ap (λ (b : Bool). if b then Some (EndsInHeader 26 (length new)) else None) (le-ltb (length new) 26 (omega arith)) in
    let versions : version_fault new ≡ None =
    ap (λ (v : ℕ). if is_known v then None else Some (UnknownVersion v)) numbered ∙ ap (λ (b : Bool). if b then None else Some (UnknownVersion (version file))) sound.known in
    let list : list_fault new ≡ None =
    ap (λ (b : Bool). if b then Some (EntriesOutside (entry_count new) (length new)) else None) (le-ltb (length new) (list_end new) (omega arith)) in
    let entries : entry_fault new ≡ None = ap (option_map (λ (e : Entry). EntryOutside e (length new))) outside in
    ap (λ (o : Option ContainerFault). option_or o (option_or (version_fault new) (option_or (list_fault new) (entry_fault new)))) header
    ∙ ap (λ (o : Option ContainerFault). option_or o (option_or (list_fault new) (entry_fault new))) versions
    ∙ ap (λ (o : Option ContainerFault). option_or o (entry_fault new)) list
    ∙ entries

-- All of it.

pub record AllChanged (file fork : List ℕ) : Type 0 where
  pub single : ChangesFork AppleSingle file fork (apple_with_fork file fork)
  pub double : ChangesFork AppleDouble file fork (apple_with_fork file fork)
  pub entries : KeepsEntries file fork (apple_with_fork file fork)

all_changed : (file fork : List ℕ) → IsSound file (length fork) → ((k : ℕ) → get_or file k 0 < 256) → AllChanged file fork
all_changed file fork sound bytes =
    let n = length fork in let new = apple_with_fork file fork in let few = sound.few in
    let kept = all_kept file bytes sound.inside sound.clear in
    let of = open_of file n sound kept in let a = of.order in let b = of.room in let size = length-new file fork of in
    let wells = all_well file fork (all_entries file) of kept in
    let are = entries_are file fork sound.long (omega arith) (all_small file fork (all_entries file) wells) in
    let fault = whole file fork sound of are wells in
    let same = alike file fork sound.long (omega arith) in
    let fork_is = fork_told file fork are wells in
    let data_is = bytes_told 1 file fork (λ e. cc e) are wells in
    let name_is = bytes_told 3 file fork (λ e. cc e) are wells in
    let finder_is = other_told finder_in 9 file fork (λ e. cc e) are wells (finder_read new file) in
    let dates_are = other_told dates_in 8 file fork (λ e. cc e) are wells (dates_read new file) in
    record {
      single = record {
        known = λ was _. known_single new file same was;
        whole = fault;
        resource_fork = fork_is;
        data_fork = data_is;
        name = name_is;
        finder = finder_is;
        dates = dates_are;
      };
      double = record {
        known = λ was _. known_double new file same was;
        whole = fault;
        resource_fork = fork_is;
        data_fork = data_is;
        name = name_is;
        finder = finder_is;
        dates = dates_are;
      };
      entries = ap (map (told new)) are ∙ all_told file fork (all_entries file) wells;
    }

pub changes : (file fork new : List ℕ) → new ≡ apple_with_fork file fork → apple_why file (length fork) ≡ None → ((k : ℕ) → get_or file k 0 < 256)
    → ChangesFork AppleSingle file fork new × ChangesFork AppleDouble file fork new × KeepsEntries file fork new
changes file fork new is none bytes =
    let all = all_changed file fork (sound file (length fork) none) bytes in
    subst (λ (xs : List ℕ). ChangesFork AppleSingle file fork xs × ChangesFork AppleDouble file fork xs × KeepsEntries file fork xs) (sym is)
    (all.single, all.double, all.entries)
