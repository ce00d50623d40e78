-- What MacBinary with another resource fork says.
use Rattle.std.proofs.Common.{◌≡◌, ℕ, ◌+◌, ◌<◌, ◌≤◌, Bool, true, false, List, [], ◌∷◌, ◌++◌, length, take, drop, get_or, refl, sym, ap, subst, ◌∙◌, arith, Option, None, Some, if◌then◌else◌}
use Rattle.std.specs.Prelude.{slice_index, nat_le, nat_lt, ◌||◌, ◌==◌, option_map}
use Rattle.std.specs.Option.{option_or}
use Rattle.std.proofs.lemmas.Bool.{eq-eqb, le-leb, le-ltb, leb-true, ltb-false, ne_eqb}
use Rattle.std.proofs.lemmas.List.{append-nil, drop-drop, drop_at}
use Rattle.byteorder.specs.Endian.{big_bytes, big_from}
use Rattle.byteorder.specs.Numbers.{big_from-take, big_number-reads_back}
use Rattle.mac_files.specs.declared.part.Part.{Part}
use Rattle.mac_files.specs.declared.contents.FinderInfo.{FinderInfo}
use Rattle.mac_files.specs.declared.fault.Fork.{Fork}
use Rattle.mac_files.specs.declared.fault.Fork.TheVariants.{Data, Resource}
use Rattle.mac_files.specs.declared.fault.ContainerFault.{ContainerFault}
use Rattle.mac_files.specs.declared.fault.ContainerFault.TheVariants.{EndsInHeader, ForkOutside}
use Rattle.mac_files.specs.declared.container.Container.TheVariants.{MacBinary}
use Rattle.mac_files.specs.declared.container.Version.{Version}
use Rattle.mac_files.specs.declared.container.Version.TheVariants.{I, II, III}
use Rattle.mac_files.specs.Containers.{contents_of, data_in, fork_in}
use Rattle.mac_files.specs.Crc.{crc_of}
use Rattle.mac_files.specs.Faults.{checksum_fault, fork_fault, header_fault, mac_binary_fault, sum_fault}
use Rattle.mac_files.specs.MacBinary.{comment_place, data_fork, header_finder, padded, resource_fork}
use Rattle.mac_files.specs.Parts.{bytes_of, has_bytes, lies_within}
use Rattle.mac_write.specs.Bytes.{filled, put}
use Rattle.mac_write.specs.declared.refusal.Refusal.TheVariants.{Damaged, TooLong}
use Rattle.mac_write.specs.Forks.{ChangesFork, KeepsComment, binary_why, fork_of, name_in}
use Rattle.mac_write.specs.MacBinary.{binary_front, binary_refusal, binary_with_fork, longest_fork}
use Rattle.mac_write.proofs.BinaryKept.{at, beyond, counted, first, fork_from, fork_is, length-counted, length-front, length-new, length_is, middle, summed_same}
use Rattle.mac_write.proofs.Lists.{length-filled}
use Rattle.mac_write.proofs.BinaryChanged.{known}
use Rattle.mac_write.proofs.Refused.{counted_lt, else_none, map_none, or_none, then_none}
use Rattle.mac_write.proofs.Segments.{Same, index_same, left_same, number_at, number_same, put_at, put_before}

-- where the forks are
data_same : (version : Version) (file fork : List ℕ) → 128 ≤ length file → data_fork (binary_with_fork version file fork) ≡ data_fork file
data_same version file fork long =
    let new = binary_with_fork version file fork in
    let second = number_same 120 2 new file (middle version file fork 120 2 long (omega arith) (omega arith)) in
    let size = number_same 83 4 new file (first version file fork 83 4 long (omega arith)) in
    ap (λ (n : ℕ). record { offset = 128 + padded n; length = big_from 83 4 new }) second
    ∙ ap (λ (n : ℕ). record { offset = 128 + padded (big_from 120 2 file); length = n }) size

resource_is : (version : Version) (file fork : List ℕ) → 128 ≤ length file → length fork < 4294967296
    → resource_fork (binary_with_fork version file fork) ≡ record { offset = at file; length = length fork }
resource_is version file fork long few =
    let new = binary_with_fork version file fork in
    ap (λ (p : Part). record { offset = p.offset + padded p.length; length = big_from 87 4 new }) (data_same version file fork long)
    ∙ ap (λ (n : ℕ). record { offset = at file; length = n }) (length_is version file fork few)

-- The faults.

pub lies : (total : ℕ) (part : Part) → part.offset + part.length ≤ total → lies_within total part ≡ true
lies total part h = ap (λ (b : Bool). (part.length == 0) || b) (le-leb (part.offset + part.length) total h) ∙ or_true (part.length == 0)
  where
    or_true : (b : Bool) → (b || true) ≡ true
    or_true true = refl
    or_true false = refl

pub no_fork_fault : (fork : Fork) (part : Part) (file : List ℕ) → lies_within (length file) part ≡ true → fork_fault fork part file ≡ None
no_fork_fault fork part file is = ap (λ (b : Bool). if b then None else Some (ForkOutside fork part (length file))) is

-- the checksum is that of the header
sum_is : (file fork : List ℕ) (version : Version) → binary_front version file (length fork) ≡ put 124 (big_bytes 2 (crc_of (take 124 (counted file (length fork))))) (counted file (length fork))
    → crc_of (take 124 (binary_with_fork version file fork)) < 65536
    → big_from 124 2 (binary_with_fork version file fork) ≡ crc_of (take 124 (binary_with_fork version file fork))
sum_is file fork version has small =
    let count = length fork in let new = binary_with_fork version file fork in let header = counted file count in let sum = crc_of (take 124 header) in
    let rest = filled (padded count) fork ++ drop (comment_place file) file in
    let long = length-counted file count in
    let whole = length-front version file count in
    let bytes : take 2 (drop 124 new) ≡ big_bytes 2 sum =
    left_same 124 2 (binary_front version file count) rest (omega arith)
    ∙ ap (λ (xs : List ℕ). take 2 (drop 124 xs)) has ∙ put_at 124 2 (big_bytes 2 sum) header refl (omega arith) in
    let same : take 124 new ≡ take 124 header =
    left_same 0 124 (binary_front version file count) rest (omega arith)
    ∙ ap (take 124) has ∙ put_before 124 (big_bytes 2 sum) header 0 124 (omega arith) (omega arith) in
    let few : sum < 65536 = subst (λ (xs : List ℕ). crc_of xs < 65536) same small in
    number_at 124 2 new ∙ sym (big_from-take 0 2 2 (drop 124 new) (omega arith)) ∙ ap (big_from 0 2) bytes
    ∙ ap (big_from 0 2) (sym (append-nil (big_bytes 2 sum))) ∙ big_number-reads_back 2 sum [] few ∙ sym (ap crc_of same)

no_sum_fault : (file : List ℕ) → big_from 124 2 file ≡ crc_of (take 124 file) → sum_fault file ≡ None
no_sum_fault file is = rw (eq-eqb (big_from 124 2 file) (crc_of (take 124 file)) is) refl

right_sum : (version : Version) (file fork : List ℕ) → crc_of (take 124 (binary_with_fork version file fork)) < 65536
    → checksum_fault version (binary_with_fork version file fork) ≡ None
right_sum I file fork small = refl
right_sum II file fork small = no_sum_fault (binary_with_fork II file fork) (sum_is file fork II refl small)
right_sum III file fork small = no_sum_fault (binary_with_fork III file fork) (sum_is file fork III refl small)

pub whole : (version : Version) (file fork : List ℕ) → 128 ≤ length file → length fork < 4294967296
    → crc_of (take 124 (binary_with_fork version file fork)) < 65536 → mac_binary_fault version (binary_with_fork version file fork) ≡ None
whole version file fork long few small =
    let new = binary_with_fork version file fork in let size = length-new version file fork in
    let header : header_fault 128 new ≡ None =
    ap (λ (b : Bool). if b then Some (EndsInHeader 128 (length new)) else None) (le-ltb (length new) 128 (omega arith)) in
    let data_lies : lies_within (length new) (data_fork new) ≡ true =
    ap (lies_within (length new)) (data_same version file fork long) ∙ lies (length new) (data_fork file) (omega arith) in
    let resource_lies : lies_within (length new) (resource_fork new) ≡ true =
    ap (lies_within (length new)) (resource_is version file fork long few) ∙ lies (length new) (record { offset = at file; length = length fork }) (omega arith) in
    ap (λ (o : Option ContainerFault). option_or o (option_or (checksum_fault version new) (option_or (fork_fault Data (data_fork new) new) (fork_fault Resource (resource_fork new) new)))) header
    ∙ ap (λ (o : Option ContainerFault). option_or o (option_or (fork_fault Data (data_fork new) new) (fork_fault Resource (resource_fork new) new))) (right_sum version file fork small)
    ∙ ap (λ (o : Option ContainerFault). option_or o (fork_fault Resource (resource_fork new) new)) (no_fork_fault Data (data_fork new) new data_lies)
    ∙ no_fork_fault Resource (resource_fork new) new resource_lies

-- What is said.

-- a part, by whether it has bytes
part_same : (part : Part) (new file : List ℕ) (b : Bool) → (part.length == 0) ≡ b → (b ≡ false → Same part.offset part.length new file)
    → option_map (λ (p : Part). bytes_of p new) (if b then None else Some part) ≡ option_map (λ (p : Part). bytes_of p file) (if b then None else Some part)
part_same part new file true is same = refl
part_same part new file false is same = ap (λ (xs : List ℕ). Some xs) (same refl)

second_is : (a b : Bool) → a ≡ false → (a || b) ≡ true → b ≡ true
second_is true b empty both = absurd (cc empty)
second_is false b empty both = both

within_file : (total : ℕ) (part : Part) → lies_within total part ≡ true → (part.length == 0) ≡ false → part.offset + part.length ≤ total
within_file total part inside has =
    leb-true (part.offset + part.length) total (second_is (part.length == 0) (nat_le (part.offset + part.length) total) has inside)

pub data_kept : (version : Version) (file fork : List ℕ) → 128 ≤ length file → lies_within (length file) (data_fork file) ≡ true
    → data_in (MacBinary version) (binary_with_fork version file fork) ≡ data_in (MacBinary version) file
data_kept version file fork long inside =
    let new = binary_with_fork version file fork in let part = data_fork file in
    ap (λ (p : Part). option_map (λ (q : Part). bytes_of q new) (has_bytes p)) (data_same version file fork long)
    ∙ part_same part new file (part.length == 0) refl (λ has.
    let ends = within_file (length file) part inside has in beyond version file fork part.offset part.length (omega arith) (omega arith) ends)

pub fork_kept : (version : Version) (file fork : List ℕ) → 128 ≤ length file → length fork < 4294967296
    → fork_in (MacBinary version) (binary_with_fork version file fork) ≡ fork_of fork
fork_kept version file fork long few =
    let new = binary_with_fork version file fork in
    ap (λ (p : Part). option_map (λ (q : Part). bytes_of q new) (has_bytes p)) (resource_is version file fork long few) ∙ told fork new (fork_is version file fork)
  where
    told : (fork new : List ℕ) → take (length fork) (drop (at file) new) ≡ fork
        → option_map (λ (q : Part). bytes_of q new) (has_bytes (record { offset = at file; length = length fork })) ≡ fork_of fork
    told [] new is = refl
    told (byte ∷ bytes) new is =
        ap (λ (b : Bool). option_map (λ (q : Part). bytes_of q new) (if b then None else Some (record { offset = at file; length = length (byte ∷ bytes) })))
        (ne_eqb (length (byte ∷ bytes)) 0 (λ none. omega arith))
        ∙ ap (λ (xs : List ℕ). Some xs) is

pub name_kept : (version : Version) (file fork : List ℕ) → 128 ≤ length file
    → name_in (MacBinary version) (binary_with_fork version file fork) ≡ name_in (MacBinary version) file
name_kept version file fork long =
    let new = binary_with_fork version file fork in
    ap (λ (n : ℕ). option_map (λ (q : Part). bytes_of q new) (if nat_le n 63 then has_bytes (record { offset = 2; length = n }) else None))
    (index_same 1 new file (first version file fork 1 1 long (omega arith)))
    ∙ told (nat_le (slice_index file 1) 63) refl
  where
    told : (b : Bool) → nat_le (slice_index file 1) 63 ≡ b
        → option_map (λ (q : Part). bytes_of q (binary_with_fork version file fork)) (if b then has_bytes (record { offset = 2; length = slice_index file 1 }) else None)
        ≡ option_map (λ (q : Part). bytes_of q file) (if b then has_bytes (record { offset = 2; length = slice_index file 1 }) else None)
    told false is = refl
    told true is =
        let few = leb-true (slice_index file 1) 63 is in
        part_same (record { offset = 2; length = slice_index file 1 }) (binary_with_fork version file fork) file (slice_index file 1 == 0) refl
        (λ has. first version file fork 2 (slice_index file 1) long (omega arith))

pub finder_kept : (version : Version) (file fork : List ℕ) → 128 ≤ length file → header_finder (binary_with_fork version file fork) ≡ header_finder file
finder_kept version file fork long =
    let new = binary_with_fork version file fork in
    rw (
      first version file fork 65 4 long (omega arith),
      first version file fork 69 4 long (omega arith),
      index_same 73 new file (first version file fork 73 1 long (omega arith)),
      index_same 101 new file (middle version file fork 101 1 long (omega arith) (omega arith)),
    ) refl

pub dates_kept : (version : Version) (file fork : List ℕ) → 128 ≤ length file
    → (contents_of (MacBinary version) (binary_with_fork version file fork)).dates ≡ (contents_of (MacBinary version) file).dates
dates_kept version file fork long =
    let new = binary_with_fork version file fork in
    rw (
      number_same 91 4 new file (middle version file fork 91 4 long (omega arith) (omega arith)),
      number_same 95 4 new file (middle version file fork 95 4 long (omega arith) (omega arith)),
    ) refl

-- what follows the fork
pub comment_kept : (version : Version) (file fork : List ℕ) → 128 ≤ length file → length fork < 4294967296
    → drop (comment_place (binary_with_fork version file fork)) (binary_with_fork version file fork) ≡ drop (comment_place file) file
comment_kept version file fork long few =
    let new = binary_with_fork version file fork in let count = length fork in
    ap (λ (p : Part). drop (p.offset + padded p.length) new) (resource_is version file fork long few)
    ∙ sym (drop-drop (padded count) (at file) new) ∙ ap (drop (padded count)) (fork_from version file fork)
    ∙ drop_at (filled (padded count) fork) (drop (comment_place file) file) (padded count) (length-filled (padded count) fork (omega arith))

-- All of it.

pub record IsSound (version : Version) (file : List ℕ) (count : ℕ) : Type 0 where
  pub long : 128 ≤ length file
  pub data_fork : lies_within (length file) (data_fork file) ≡ true
  pub few : count ≤ longest_fork version

pub sound : (version : Version) (file : List ℕ) (count : ℕ) → binary_why version file count ≡ None → IsSound version file count
sound version file count none =
    let first = or_none (option_map Damaged (mac_binary_fault version file)) (binary_refusal version count) none in
    let fault = map_none Damaged (mac_binary_fault version file) first.0 in
    let forks = option_or (fork_fault Data (data_fork file) file) (fork_fault Resource (resource_fork file) file) in
    let header = or_none (header_fault 128 file) (option_or (checksum_fault version file) forks) fault in
    let rest = or_none (checksum_fault version file) forks header.1 in
    let own = or_none (fork_fault Data (data_fork file) file) (fork_fault Resource (resource_fork file) file) rest.1 in
    record {
      long = ltb-false (length file) 128 (else_none (nat_lt (length file) 128) (EndsInHeader 128 (length file)) header.0);
      data_fork = then_none (lies_within (length file) (data_fork file)) (ForkOutside Data (data_fork file) (length file)) own.0;
      few = ltb-false (longest_fork version) count (else_none (nat_lt (longest_fork version) count) (TooLong count (longest_fork version)) first.1);
    }

few_bytes : (version : Version) (count : ℕ) → count ≤ longest_fork version → count < 4294967296
few_bytes I count few = omega arith
few_bytes II count few = omega arith
few_bytes III count few = omega arith

pub changes : (version : Version) (file fork new : List ℕ) → new ≡ binary_with_fork version file fork → binary_why version file (length fork) ≡ None
    → ((k : ℕ) → get_or file k 0 < 256) → ChangesFork (MacBinary version) file fork new
changes version file fork new is none bytes =
    let of = sound version file (length fork) none in
    let few = few_bytes version (length fork) of.few in
    let small : crc_of (take 124 (binary_with_fork version file fork)) < 65536 =
    subst (λ (xs : List ℕ). crc_of xs < 65536) (sym (summed_same version file fork)) (counted_lt file (length fork) bytes) in
    subst (λ (xs : List ℕ). ChangesFork (MacBinary version) file fork xs) (sym is) (record {
      known = λ was _. known version file fork of.long of.few was;
      whole = whole version file fork of.long few small;
      resource_fork = fork_kept version file fork of.long few;
      data_fork = data_kept version file fork of.long of.data_fork;
      name = name_kept version file fork of.long;
      finder = ap (λ (f : FinderInfo). Some f) (finder_kept version file fork of.long);
      dates = dates_kept version file fork of.long;
    })

pub comment_changes : (version : Version) (file fork new : List ℕ) → new ≡ binary_with_fork version file fork
    → binary_why version file (length fork) ≡ None → KeepsComment file new
comment_changes version file fork new is none =
    let of = sound version file (length fork) none in
    subst (KeepsComment file) (sym is) (comment_kept version file fork of.long (few_bytes version (length fork) of.few))
