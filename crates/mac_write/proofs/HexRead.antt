-- A BinHex text that is written is read as the file.
use Rattle.std.proofs.Common.{◌≡◌, ℕ, zero, suc, ◌+◌, ◌-◌, ◌^◌, ◌<◌, ◌≤◌, Bool, true, false, if◌then◌else◌, List, [], ◌∷◌, ◌++◌, length, take, drop, Option, None, Some, Ok, Err, refl, sym, ap, subst, ◌∙◌, append_assoc, arith}
use Rattle.std.specs.Prelude.{◌==◌, nat_lt, slice_range}
use Rattle.std.proofs.lemmas.Bool.{eq-eqb, le-ltb}
use Rattle.std.proofs.lemmas.List.{append-nil, drop_at, length-append, length-map, take_all, take_at}
use Rattle.byteorder.specs.Endian.{big_bytes, big_from}
use Rattle.byteorder.specs.Numbers.{big_number-reads_back}
use Rattle.mac_files.specs.Crc.{crc_of}
use Rattle.mac_files.specs.declared.bin_hex.fault.Section.{Section}
use Rattle.mac_files.specs.declared.bin_hex.fault.Section.TheVariants.{Header, Data, Resource}
use Rattle.mac_files.specs.declared.bin_hex.digits.Placed.{Placed}
use Rattle.mac_files.specs.declared.bin_hex.fault.BinHexFault.{BinHexFault}
use Rattle.mac_files.specs.declared.bin_hex.fault.BinHexFault.TheVariants.{TooLong}
use Rattle.mac_files.specs.BinHex.{File, Reading, bin_hex_crc, bin_hex_of, colon_of, data_end, data_length, decoded_from, digits_from, expanded, file_from, file_of, file_unless, first_fault, header_end, line_from, most_of, name_length, packed, resource_end, resource_length, section_fault, values_of}
use Rattle.mac_files.proofs.BinHexCrc.{bin_hex_crc_is}
use Rattle.mac_files.proofs.BinHexFaults.{HasLengths, no_fault}
use Rattle.mac_write.specs.HexText.{comment_line, digits, escaped, hex_bytes, hex_header, hex_text, in_lines, with_crc}
use Rattle.mac_write.proofs.HexLengths.{text_longer}
use Rattle.mac_write.proofs.HexDigits.{Reads, text_read}
use Rattle.mac_write.specs.Bytes.{AreBytes}
use Rattle.mac_write.proofs.Refused.{append_lt, cons_lt, crc_lt, number_lt}
use Rattle.mac_write.proofs.Segments.{number_at}

-- Parts of joined lists.

-- a number between two lists
pub number_in : (front rest : List ℕ) (at n x : ℕ) → length front ≡ at → x < 256 ^ n → big_from at n (front ++ (big_bytes n x ++ rest)) ≡ x
number_in front rest at n x long small =
    number_at at n (front ++ (big_bytes n x ++ rest)) ∙ ap (big_from 0 n) (drop_at front (big_bytes n x ++ rest) at long)
    ∙ big_number-reads_back n x rest small

-- a list between two
pub part_in : (front part rest : List ℕ) (at n : ℕ) → length front ≡ at → length part ≡ n → take n (drop at (front ++ (part ++ rest))) ≡ part
part_in front part rest at n long size = ap (take n) (drop_at front (part ++ rest) at long) ∙ take_at part rest n size

pub slice_in : (all front part rest : List ℕ) (start end : ℕ) → all ≡ front ++ (part ++ rest) → length front ≡ start → start + length part ≡ end
    → slice_range all start end ≡ part
slice_in all front part rest start end is long ends =
    let count : end - start ≡ length part = omega arith in
    ap (λ (n : ℕ). take n (drop start all)) count ∙ ap (λ (xs : List ℕ). take (length part) (drop start xs)) is
    ∙ part_in front part rest start (length part) long refl

-- What a file has to be that is written: bytes, and lengths that the header can hold.
pub record IsHexFile (file : File) : Type 0 where
  pub name : AreBytes file.name
  pub name_fits : length file.name < 256
  pub kind : AreBytes file.kind
  pub kind_length : length file.kind ≡ 4
  pub creator : AreBytes file.creator
  pub creator_length : length file.creator ≡ 4
  pub flags : file.flags < 65536
  pub data_fork : AreBytes file.data_fork
  pub data_fits : length file.data_fork < 4294967296
  pub resource_fork : AreBytes file.resource_fork
  pub resource_fits : length file.resource_fork < 4294967296

-- The CRCs.

pub crc_small : (bytes : List ℕ) → AreBytes bytes → bin_hex_crc bytes < 65536
crc_small bytes are =
    subst (λ (n : ℕ). n < 65536) (ap crc_of (take_all (length bytes) bytes (omega arith)) ∙ bin_hex_crc_is bytes are) (crc_lt (length bytes) bytes are)

pub two_lt : (x : ℕ) → AreBytes (big_bytes 2 x)
two_lt x zero = omega arith
two_lt x (suc zero) = omega arith
two_lt x (suc (suc k)) = omega arith

with_crc_lt : (bytes : List ℕ) → AreBytes bytes → AreBytes (with_crc bytes)
with_crc_lt bytes are = append_lt bytes (big_bytes 2 (bin_hex_crc bytes)) are (two_lt (bin_hex_crc bytes))

-- a section with its CRC has no fault
section_right : (section : Section) (r : Reading) (front bytes rest : List ℕ) (start end : ℕ) → values_of r ≡ front ++ (with_crc bytes ++ rest)
    → length front ≡ start → start + length bytes ≡ end → AreBytes bytes → section_fault section start end r ≡ None
section_right section r front bytes rest start end is long ends are =
    let crc = bin_hex_crc bytes in
    let V = values_of r in
    let joined : V ≡ front ++ (bytes ++ (big_bytes 2 crc ++ rest)) = is ∙ ap (λ (xs : List ℕ). front ++ xs) (append_assoc bytes (big_bytes 2 crc) rest) in
    let second : V ≡ (front ++ bytes) ++ (big_bytes 2 crc ++ rest) = joined ∙ sym (append_assoc front bytes (big_bytes 2 crc ++ rest)) in
    let a = length-append front bytes in
    let b = length-append (front ++ bytes) (big_bytes 2 crc ++ rest) in
    let d = length-append (big_bytes 2 crc) rest in
    let two : length (big_bytes 2 crc) ≡ 2 = refl in
    let size = ap length second in
    let stored : big_from end 2 V ≡ crc = ap (big_from end 2) second ∙ number_in (front ++ bytes) rest end 2 crc (omega arith) (crc_small bytes are) in
    let summed : slice_range V start end ≡ bytes = slice_in V front bytes (big_bytes 2 crc ++ rest) start end joined long ends in
    let whole : nat_lt (length V) (end + 2) ≡ false = le-ltb (length V) (end + 2) (omega arith) in
    let same : (big_from end 2 V == bin_hex_crc (slice_range V start end)) ≡ true =
    eq-eqb (big_from end 2 V) (bin_hex_crc (slice_range V start end)) (stored ∙ sym (ap bin_hex_crc summed)) in
    rw (whole, same) refl

-- The header.

-- its fields, before any bytes
fields : (file : File) (rest : List ℕ) → hex_header file ++ rest ≡ length file.name ∷ (file.name ++ (0 ∷ (file.kind ++ (file.creator
    ++ (big_bytes 2 file.flags ++ (big_bytes 4 (length file.data_fork) ++ (big_bytes 4 (length file.resource_fork) ++ rest)))))))
fields file rest = simp append_assoc

-- what comes before each field
before_kind : List ℕ → List ℕ
before_kind name = length name ∷ (name ++ 0 ∷ [])

length-before_kind : (name : List ℕ) → length (before_kind name) ≡ length name + 2
unfolding before_kind
length-before_kind name = let a = length-append name (0 ∷ []) in omega arith

from_kind : (name rest : List ℕ) → length name ∷ (name ++ (0 ∷ rest)) ≡ before_kind name ++ rest
unfolding before_kind
from_kind name rest = simp append_assoc

length-two : (xs ys : List ℕ) (n k total : ℕ) → length xs ≡ n → length ys ≡ k → n + k ≡ total → length (xs ++ ys) ≡ total
length-two xs ys n k total a b sum = let both = length-append xs ys in omega arith

pub record HasFields (file : File) (bytes : List ℕ) : Type 0 where
  pub name : slice_range bytes 1 (1 + length file.name) ≡ file.name
  pub kind : take 4 (drop (length file.name + 2) bytes) ≡ file.kind
  pub creator : take 4 (drop (length file.name + 6) bytes) ≡ file.creator
  pub flags : big_from (length file.name + 10) 2 bytes ≡ file.flags
  pub data_fork : big_from (length file.name + 12) 4 bytes ≡ length file.data_fork
  pub resource_fork : big_from (length file.name + 16) 4 bytes ≡ length file.resource_fork

has_fields : (file : File) (rest : List ℕ) → IsHexFile file → HasFields file (hex_header file ++ rest)
has_fields file rest is =
    let n = length file.name in
    let t8 = big_bytes 4 (length file.resource_fork) ++ rest in
    let t7 = big_bytes 4 (length file.data_fork) ++ t8 in
    let t6 = big_bytes 2 file.flags ++ t7 in
    let t5 = file.creator ++ t6 in
    let t4 = file.kind ++ t5 in
    let t2 : List ℕ = 0 ∷ t4 in
    let f4 = before_kind file.name in let f5 = f4 ++ file.kind in let f6 = f5 ++ file.creator in let f7 = f6 ++ big_bytes 2 file.flags in
    let f8 = f7 ++ big_bytes 4 (length file.data_fork) in
    let l4 : length f4 ≡ n + 2 = length-before_kind file.name in
    let l5 : length f5 ≡ n + 6 = length-two f4 file.kind (n + 2) 4 (n + 6) l4 is.kind_length (omega arith) in
    let l6 : length f6 ≡ n + 10 = length-two f5 file.creator (n + 6) 4 (n + 10) l5 is.creator_length (omega arith) in
    let l7 : length f7 ≡ n + 12 = length-two f6 (big_bytes 2 file.flags) (n + 10) 2 (n + 12) l6 refl (omega arith) in
    let l8 : length f8 ≡ n + 16 = length-two f7 (big_bytes 4 (length file.data_fork)) (n + 12) 4 (n + 16) l7 refl (omega arith) in
    let e2 : hex_header file ++ rest ≡ n ∷ (file.name ++ t2) = fields file rest in
    let e4 : hex_header file ++ rest ≡ f4 ++ t4 = e2 ∙ from_kind file.name t4 in
    let e5 : hex_header file ++ rest ≡ f5 ++ t5 = e4 ∙ sym (append_assoc f4 file.kind t5) in
    let e6 : hex_header file ++ rest ≡ f6 ++ t6 = e5 ∙ sym (append_assoc f5 file.creator t6) in
    let e7 : hex_header file ++ rest ≡ f7 ++ t7 = e6 ∙ sym (append_assoc f6 (big_bytes 2 file.flags) t7) in
    let e8 : hex_header file ++ rest ≡ f8 ++ t8 = e7 ∙ sym (append_assoc f7 (big_bytes 4 (length file.data_fork)) t8) in
    let count : 1 + n - 1 ≡ n = omega arith in
    record {
      name = ap (λ (k : ℕ). take k (drop 1 (hex_header file ++ rest))) count ∙ ap (λ (xs : List ℕ). take n (drop 1 xs)) e2 ∙ take_at file.name t2 n refl;
      kind = ap (λ (xs : List ℕ). take 4 (drop (n + 2) xs)) e4 ∙ part_in f4 file.kind t5 (n + 2) 4 l4 is.kind_length;
      creator = ap (λ (xs : List ℕ). take 4 (drop (n + 6) xs)) e5 ∙ part_in f5 file.creator t6 (n + 6) 4 l5 is.creator_length;
      flags = ap (big_from (n + 10) 2) e6 ∙ number_in f6 t7 (n + 10) 2 file.flags l6 is.flags;
      data_fork = ap (big_from (n + 12) 4) e7 ∙ number_in f7 t8 (n + 12) 4 (length file.data_fork) l7 is.data_fits;
      resource_fork = ap (big_from (n + 16) 4) e8 ∙ number_in f8 rest (n + 16) 4 (length file.resource_fork) l8 is.resource_fits;
    }

length-header : (file : File) → IsHexFile file → length (hex_header file) ≡ length file.name + 20
length-header file is =
    let n = length file.name in
    let forks = big_bytes 4 (length file.data_fork) ++ big_bytes 4 (length file.resource_fork) in
    let flags = big_bytes 2 file.flags ++ forks in
    let creator = length-two file.creator flags 4 10 14 is.creator_length refl refl in
    let kind = length-two file.kind (file.creator ++ flags) 4 14 18 is.kind_length creator refl in
    let name = length-append file.name (0 ∷ file.kind ++ (file.creator ++ flags)) in omega arith

header_lt : (file : File) → IsHexFile file → AreBytes (hex_header file)
header_lt file is zero = is.name_fits
header_lt file is (suc k) =
    let forks : List ℕ = big_bytes 4 (length file.data_fork) ++ big_bytes 4 (length file.resource_fork) in
    let flags : List ℕ = big_bytes 2 file.flags ++ forks in
    let creator : List ℕ = file.creator ++ flags in
    let kind : List ℕ = file.kind ++ creator in
    let are_forks : AreBytes forks = append_lt (big_bytes 4 (length file.data_fork)) (big_bytes 4 (length file.resource_fork)) (number_lt (length file.data_fork)) (number_lt (length file.resource_fork)) in
    let are_flags : AreBytes flags = append_lt (big_bytes 2 file.flags) forks (two_lt file.flags) are_forks in
    let are_creator : AreBytes creator = append_lt file.creator flags is.creator are_flags in
    let are_kind : AreBytes kind = append_lt file.kind creator is.kind are_creator in
    append_lt file.name (0 ∷ kind) is.name (cons_lt 0 kind (omega arith) are_kind) k

-- The file.

pub bytes_lt : (file : File) → IsHexFile file → AreBytes (hex_bytes file)
bytes_lt file is =
    append_lt (with_crc (hex_header file)) (with_crc file.data_fork ++ with_crc file.resource_fork) (with_crc_lt (hex_header file) (header_lt file is))
    (append_lt (with_crc file.data_fork) (with_crc file.resource_fork) (with_crc_lt file.data_fork is.data_fork) (with_crc_lt file.resource_fork is.resource_fork))

-- what is read of the bytes
file_read : (file : File) (r : Reading) → IsHexFile file → Reads r (hex_bytes file) → file_unless (first_fault r) (values_of r) ≡ Ok file
unfolding data_length resource_length
file_read file r is reads =
    let n = length file.name in let d = length file.data_fork in let e = length file.resource_fork in
    let V = values_of r in let H = hex_header file in
    let forks = with_crc file.data_fork ++ with_crc file.resource_fork in
    let joined : V ≡ H ++ (big_bytes 2 (bin_hex_crc H) ++ forks) = reads.values_are ∙ append_assoc H (big_bytes 2 (bin_hex_crc H)) forks in
    let has = subst (HasFields file) (sym joined) (has_fields file (big_bytes 2 (bin_hex_crc H) ++ forks) is) in
    let named : name_length V ≡ n = ap name_length joined in
    let long = length-header file is in
    let header_size : length (with_crc H) ≡ n + 22 = length-two H (big_bytes 2 (bin_hex_crc H)) (n + 20) 2 (n + 22) long refl (omega arith) in
    let data_size : length (with_crc file.data_fork) ≡ d + 2 = length-two file.data_fork (big_bytes 2 (bin_hex_crc file.data_fork)) d 2 (d + 2) refl refl (omega arith) in
    let front_size : length (with_crc H ++ with_crc file.data_fork) ≡ n + 24 + d =
    length-two (with_crc H) (with_crc file.data_fork) (n + 22) (d + 2) (n + 24 + d) header_size data_size (omega arith) in
    let third : V ≡ (with_crc H ++ with_crc file.data_fork) ++ (with_crc file.resource_fork ++ []) =
    reads.values_are ∙ sym (append_assoc (with_crc H) (with_crc file.data_fork) (with_crc file.resource_fork))
    ∙ ap (λ (xs : List ℕ). (with_crc H ++ with_crc file.data_fork) ++ xs) (sym (append-nil (with_crc file.resource_fork))) in
    let lengths : HasLengths r n d e = record {
      name = sym named;
      data_fork = sym (ap (λ (k : ℕ). big_from (k + 12) 4 V) named ∙ has.data_fork);
      resource_fork = sym (ap (λ (k : ℕ). big_from (k + 16) 4 V) named ∙ has.resource_fork);
    } in
    let header = section_right Header r [] H forks 0 (n + 20) reads.values_are refl (omega arith) (header_lt file is) in
    let middle = section_right Data r (with_crc H) file.data_fork (with_crc file.resource_fork) (n + 20 + 2) (n + 20 + 2 + d) reads.values_are (omega arith) refl is.data_fork in
    let resource = section_right Resource r (with_crc H ++ with_crc file.data_fork) file.resource_fork [] (n + 20 + 2 + d + 2) (n + 20 + 2 + d + 2 + e) third (omega arith) refl is.resource_fork in
    let none = no_fault r n d e reads.at lengths header middle resource reads.closed in
    let data_length_is : data_length V ≡ d = sym lengths.data_fork in
    let resource_length_is : resource_length V ≡ e = sym lengths.resource_fork in
    let second : V ≡ with_crc H ++ (file.data_fork ++ (big_bytes 2 (bin_hex_crc file.data_fork) ++ with_crc file.resource_fork)) =
    reads.values_are ∙ ap (λ (xs : List ℕ). with_crc H ++ xs) (append_assoc file.data_fork (big_bytes 2 (bin_hex_crc file.data_fork)) (with_crc file.resource_fork)) in
    let fourth : V ≡ (with_crc H ++ with_crc file.data_fork) ++ (file.resource_fork ++ (big_bytes 2 (bin_hex_crc file.resource_fork) ++ [])) =
    third ∙ ap (λ (xs : List ℕ). (with_crc H ++ with_crc file.data_fork) ++ xs) (append_assoc file.resource_fork (big_bytes 2 (bin_hex_crc file.resource_fork)) []) in
    let name_is : slice_range V 1 (1 + name_length V) ≡ file.name = ap (λ (k : ℕ). slice_range V 1 (1 + k)) named ∙ has.name in
    let kind_is : take 4 (drop (name_length V + 2) V) ≡ file.kind = ap (λ (k : ℕ). take 4 (drop (k + 2) V)) named ∙ has.kind in
    let creator_is : take 4 (drop (name_length V + 6) V) ≡ file.creator = ap (λ (k : ℕ). take 4 (drop (k + 6) V)) named ∙ has.creator in
    let flags_is : big_from (name_length V + 10) 2 V ≡ file.flags = ap (λ (k : ℕ). big_from (k + 10) 2 V) named ∙ has.flags in
    let data_is : slice_range V (header_end V + 2) (data_end V) ≡ file.data_fork =
    ap (λ (k : ℕ). slice_range V (k + 20 + 2) (k + 20 + 2 + data_length V)) named ∙ ap (λ (k : ℕ). slice_range V (n + 20 + 2) (n + 20 + 2 + k)) data_length_is
    ∙ slice_in V (with_crc H) file.data_fork (big_bytes 2 (bin_hex_crc file.data_fork) ++ with_crc file.resource_fork) (n + 20 + 2) (n + 20 + 2 + d) second (omega arith) refl in
    let resource_is : slice_range V (data_end V + 2) (resource_end V) ≡ file.resource_fork =
    ap (λ (k : ℕ). slice_range V (k + 20 + 2 + data_length V + 2) (k + 20 + 2 + data_length V + 2 + resource_length V)) named
    ∙ ap (λ (k : ℕ). slice_range V (n + 20 + 2 + k + 2) (n + 20 + 2 + k + 2 + resource_length V)) data_length_is
    ∙ ap (λ (k : ℕ). slice_range V (n + 20 + 2 + d + 2) (n + 20 + 2 + d + 2 + k)) resource_length_is
    ∙ slice_in V (with_crc H ++ with_crc file.data_fork) file.resource_fork (big_bytes 2 (bin_hex_crc file.resource_fork) ++ []) (n + 20 + 2 + d + 2) (n + 20 + 2 + d + 2 + e) fourth (omega arith) refl in
    let whole : file_of V ≡ file = rw (name_is, kind_is, creator_is, flags_is, data_is, resource_is) refl in
    ap (λ (o : Option BinHexFault). file_unless o V) none ∙ ap (λ (f : File). Ok f) whole

-- The text.

colon_is : (file : File) → colon_of (hex_text file) ≡ Some 47
unfolding line_from in_lines
colon_is file = refl

rest_is : (file : File) → drop 48 (hex_text file) ≡ in_lines 63 (digits (escaped (hex_bytes file)) ++ 58 ∷ [])
unfolding in_lines
rest_is file = refl

-- it stands for no more bytes than are read of it
within : (file : File) → IsHexFile file → length (hex_bytes file) ≤ most_of (length (hex_text file))
within file is =
    let H = hex_header file in
    let long = length-header file is in
    let forks = with_crc file.data_fork ++ with_crc file.resource_fork in
    let a = length-append (with_crc H) forks in
    let b = length-append (with_crc file.data_fork) (with_crc file.resource_fork) in
    let d = length-append H (big_bytes 2 (bin_hex_crc H)) in
    let e = length-append file.data_fork (big_bytes 2 (bin_hex_crc file.data_fork)) in
    let f = length-append file.resource_fork (big_bytes 2 (bin_hex_crc file.resource_fork)) in
    let two : (x : ℕ) → length (big_bytes 2 x) ≡ 2 = λ x. refl in
    let g = two (bin_hex_crc H) in
    let h = two (bin_hex_crc file.data_fork) in
    let i = two (bin_hex_crc file.resource_fork) in
    let lines = text_longer (hex_bytes file) in
    let whole = length-append comment_line (in_lines 64 (58 ∷ digits (escaped (hex_bytes file)) ++ 58 ∷ [])) in
    let name = is.name_fits in
    let first = is.data_fits in
    let second = is.resource_fits in
    omega arith

pub text_is : (file : File) → IsHexFile file → bin_hex_of (hex_text file) ≡ Ok file
text_is file is =
    let text = hex_text file in
    let most = most_of (length text) in
    let read = text_read (hex_bytes file) 63 48 (bytes_lt file is) in
    let same : Reads (decoded_from 48 text) (hex_bytes file) =
    subst (λ (cs : List ℕ). let placed = digits_from 48 cs in Reads (expanded None (packed placed.values) placed.ending) (hex_bytes file)) (sym (rest_is file)) read in
    let r = decoded_from 48 text in
    let count : length r.values ≡ length (hex_bytes file) = sym (length-map r.values (λ (p : Placed). p.value)) ∙ ap length same.values_are in
    let few : nat_lt most (length r.values) ≡ false = le-ltb most (length r.values) (rw count (within file is)) in
    ap (λ (colon : Option ℕ). file_from most colon text) (colon_is file)
    ∙ ap (λ (b : Bool). if b then Err (TooLong (length r.values) most) else file_unless (first_fault r) (values_of r)) few
    ∙ file_read file r is same
