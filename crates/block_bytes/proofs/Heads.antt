-- A block's header as bytes: how long it is, and that it reads as itself.
use Rattle.std.proofs.Common.{◌≡◌, ℕ, ◌+◌, ◌/◌, ◌%◌, ◌<◌, ◌≤◌, ◌^◌, Bool, true, false, List, ◌++◌, length, drop, refl, ap, ◌∙◌, arith, append_assoc, length-append, IsTrue}
use Rattle.std.specs.Prelude.{◌&&◌, nat_lt}
use Rattle.std.proofs.lemmas.Bool.Decides.{nat_tests}
use Rattle.byteorder.specs.Endian.{big_bytes, big_number}
use Rattle.byteorder.specs.Numbers.{big_number-reads_back}
use Rattle.raw_region.proofs.Numbers.{length-big_bytes}
use Rattle.mac_base.specs.declared.block.Flags.{Flags}
use Rattle.mac_base.specs.declared.block.HeadKind.{HeadKind}
use Rattle.mac_base.specs.declared.block.HeadKind.TheVariants.{Bits24, Bits32}
use Rattle.mac_base.specs.HeadKind.{head_size, address_end}
use Rattle.block_bytes.specs.declared.header.Header.{Header}
use Rattle.block_bytes.specs.declared.header.Role.{Role}
use Rattle.block_bytes.specs.declared.header.Role.TheVariants.{Free, Fixed, Master, Relocatable}
use Rattle.block_bytes.specs.Head.{most_over, tag_of, word_of, flags_byte, flags_of, first_word, head_bytes, role_in, flags_in, header_in}
use Rattle.block_bytes.specs.Layout.{is_free, can_say, can_be_told}

-- how long a header is
pub length-head_bytes : (heads : HeadKind) (base : ℕ) (h : Header) → length (head_bytes heads base h) ≡ head_size heads
length-head_bytes Bits24 base h = let e = length-big_bytes 4 (first_word Bits24 h) in let e' = length-big_bytes 4 (word_of base h.role) in
    let sum = length-append (big_bytes 4 (first_word Bits24 h)) (big_bytes 4 (word_of base h.role)) in omega arith
length-head_bytes Bits32 base h = let e = length-big_bytes 4 (first_word Bits32 h) in let e' = length-big_bytes 4 (word_of base h.role) in let e'' = length-big_bytes 4 h.size in
    let sum = length-append (big_bytes 4 (first_word Bits32 h)) (big_bytes 4 h.size ++ big_bytes 4 (word_of base h.role)) in
    let sum' = length-append (big_bytes 4 h.size) (big_bytes 4 (word_of base h.role)) in omega arith

-- that of a free block names no zone
word-free : (base other : ℕ) (role : Role) → is_free role ≡ true → word_of base role ≡ word_of other role
word-free base other Free free = refl
word-free base other Fixed free = absurd (cc free)
word-free base other Master free = absurd (cc free)
word-free base other (Relocatable slot flags) free = refl

pub head-free : (heads : HeadKind) (base other : ℕ) (h : Header) → is_free h.role ≡ true → head_bytes heads base h ≡ head_bytes heads other h
head-free Bits24 base other h free = ap (λ w. big_bytes 4 (first_word Bits24 h) ++ big_bytes 4 w) (word-free base other h.role free)
head-free Bits32 base other h free = ap (λ w. big_bytes 4 (first_word Bits32 h) ++ (big_bytes 4 h.size ++ big_bytes 4 w)) (word-free base other h.role free)

-- a tag is one byte
tag-small : (role : Role) (low : ℕ) → low ≤ 15 → tag_of role low < 256
tag-small Free low few = omega arith
tag-small Fixed low few = omega arith
tag-small Master low few = omega arith
tag-small (Relocatable slot flags) low few = omega arith

-- its low four bits are the size correction
correction-tag : (role : Role) (correction : ℕ) → correction ≤ 15 → tag_of role correction % 16 ≡ correction
correction-tag Free correction few = omega arith
correction-tag Fixed correction few = omega arith
correction-tag Master correction few = omega arith
correction-tag (Relocatable slot flags) correction few = omega arith

-- flags read as themselves
flags-read : (lock purge resource : Bool) → flags_in (flags_byte (record { lock = lock; purge = purge; resource = resource })) ≡ record { lock = lock; purge = purge; resource = resource }
flags-read true true true = refl
flags-read true true false = refl
flags-read true false true = refl
flags-read true false false = refl
flags-read false true true = refl
flags-read false true false = refl
flags-read false false true = refl
flags-read false false false = refl

-- they are one byte
byte-small : (lock purge resource : Bool) → flags_byte (record { lock = lock; purge = purge; resource = resource }) < 256
byte-small true true true = omega arith
byte-small true true false = omega arith
byte-small true false true = omega arith
byte-small true false false = omega arith
byte-small false true true = omega arith
byte-small false true false = omega arith
byte-small false false true = omega arith
byte-small false false false = omega arith

pub flags-small : (flags : Flags) → flags_byte flags < 256
flags-small flags = byte-small flags.lock flags.purge flags.resource

-- a zone of 24-bit blocks has no flags to say
unmarked : (lock purge resource : Bool) → can_say Bits24 (record { lock = lock; purge = purge; resource = resource }) ≡ true
    → flags_in 0 ≡ record { lock = lock; purge = purge; resource = resource }
unmarked false false false is = refl
unmarked false false true is = let no : false ≡ true = is in cc
unmarked false true resource is = let no : false ≡ true = is in cc
unmarked true purge resource is = let no : false ≡ true = is in cc

-- both of two tests hold
both_hold : (a b : Bool) → IsTrue (a && b) → IsTrue a × IsTrue b
both_hold true b both = (refl, both)
both_hold false b both = let no : false ≡ true = both in cc

-- the tag's high bits, the flags and the last word are what the block is for
role-24 : (base : ℕ) (role : Role) (correction : ℕ) → correction ≤ 15 → IsTrue (can_be_told Bits24 role correction) → role_in (tag_of role correction) 0 (word_of base role) ≡ role
role-24 base Free correction few told = grind (arith, nat_tests)
role-24 base Fixed correction few told = grind (arith, nat_tests)
role-24 base Master correction few told = grind (arith, nat_tests)
role-24 base (Relocatable slot flags) correction few told =
    let high : role_in (128 + correction) 0 slot ≡ Relocatable slot (flags_in 0) = grind (arith, nat_tests) in
    high ∙ ap (Relocatable slot) (unmarked flags.lock flags.purge flags.resource (both_hold (nat_lt slot (2 ^ 32)) (can_say Bits24 flags) told).1)

role-32 : (base : ℕ) (role : Role) → role_in (tag_of role 0) (flags_byte (flags_of role)) (word_of base role) ≡ role
role-32 base Free = refl
role-32 base Fixed = refl
role-32 base Master = refl
role-32 base (Relocatable slot flags) = ap (Relocatable slot) (flags-read flags.lock flags.purge flags.resource)

-- the last word fits four bytes
word-small : (heads : HeadKind) (base : ℕ) (role : Role) (correction : ℕ) → IsTrue (can_be_told heads role correction) → base < 2 ^ 32 → word_of base role < 2 ^ 32
word-small heads base Free correction told low = omega arith
word-small heads base Fixed correction told low = low
word-small heads base Master correction told low = low
word-small heads base (Relocatable slot flags) correction told low = let small = (both_hold (nat_lt slot (2 ^ 32)) (can_say heads flags) told).0 in grind (arith, nat_tests)

-- two words as bytes, read
first-reads : (x y : ℕ) (rest : List ℕ) → x < 2 ^ 32 → big_number 4 ((big_bytes 4 x ++ big_bytes 4 y) ++ rest) ≡ x
first-reads x y rest small = ap (big_number 4) (append_assoc (big_bytes 4 x) (big_bytes 4 y) rest) ∙ big_number-reads_back 4 x (big_bytes 4 y ++ rest) small

second-reads : (x y : ℕ) (rest : List ℕ) → y < 2 ^ 32 → big_number 4 (drop 4 ((big_bytes 4 x ++ big_bytes 4 y) ++ rest)) ≡ y
second-reads x y rest small = big_number-reads_back 4 y rest small

-- and three
first-of_three : (x y w : ℕ) (rest : List ℕ) → x < 2 ^ 32 → big_number 4 ((big_bytes 4 x ++ (big_bytes 4 y ++ big_bytes 4 w)) ++ rest) ≡ x
first-of_three x y w rest small = big_number-reads_back 4 x ((big_bytes 4 y ++ big_bytes 4 w) ++ rest) small

second-of_three : (x y w : ℕ) (rest : List ℕ) → y < 2 ^ 32 → big_number 4 (drop 4 ((big_bytes 4 x ++ (big_bytes 4 y ++ big_bytes 4 w)) ++ rest)) ≡ y
second-of_three x y w rest small = big_number-reads_back 4 y (big_bytes 4 w ++ rest) small

third-of_three : (x y w : ℕ) (rest : List ℕ) → w < 2 ^ 32 → big_number 4 (drop 8 ((big_bytes 4 x ++ (big_bytes 4 y ++ big_bytes 4 w)) ++ rest)) ≡ w
third-of_three x y w rest small = big_number-reads_back 4 w rest small

-- a header reads as itself
pub header_in-head_bytes : (heads : HeadKind) (base : ℕ) (h : Header) (rest : List ℕ) → h.size < address_end heads → h.correction ≤ most_over heads → IsTrue (can_be_told heads h.role h.correction) → base < 2 ^ 32
    → header_in heads (head_bytes heads base h ++ rest) ≡ h
header_in-head_bytes Bits24 base h rest small few told low =
    let tag = tag_of h.role h.correction in
    let t : tag < 256 = tag-small h.role h.correction few in
    let first = first-reads (first_word Bits24 h) (word_of base h.role) rest (omega arith) in
    let second = second-reads (first_word Bits24 h) (word_of base h.role) rest (word-small Bits24 base h.role h.correction told low) in
    let size_is : first_word Bits24 h % 0x100_0000 ≡ h.size = omega arith in
    let tag_is : first_word Bits24 h / 0x100_0000 ≡ tag = omega arith in
    let said : header_in Bits24 (head_bytes Bits24 base h ++ rest) ≡ record { size = first_word Bits24 h % 0x100_0000; role = role_in (first_word Bits24 h / 0x100_0000) 0 (word_of base h.role); correction = (first_word Bits24 h / 0x100_0000) % 16 } =
    (λ i. record { size = first i % 0x100_0000; role = role_in (first i / 0x100_0000) 0 (second i); correction = (first i / 0x100_0000) % 16 }) in
    said ∙ (λ i. record { size = size_is i; role = (ap (λ t. role_in t 0 (word_of base h.role)) tag_is ∙ role-24 base h.role h.correction few told) i; correction = (ap (λ t. t % 16) tag_is ∙ correction-tag h.role h.correction few) i })
header_in-head_bytes Bits32 base h rest small few told low =
    let tag = tag_of h.role 0 in let byte = flags_byte (flags_of h.role) in let word = first_word Bits32 h in
    let t : tag < 256 = tag-small h.role 0 (omega arith) in let f : byte < 256 = flags-small (flags_of h.role) in
    let first = first-of_three word h.size (word_of base h.role) rest (omega arith) in
    let second = second-of_three word h.size (word_of base h.role) rest (omega arith) in
    let third = third-of_three word h.size (word_of base h.role) rest (word-small Bits32 base h.role h.correction told low) in
    let tag_is : word / 0x100_0000 ≡ tag = omega arith in
    let byte_is : (word / 0x1_0000) % 256 ≡ byte = omega arith in
    let over : word % 256 ≡ h.correction = omega arith in
    let said : header_in Bits32 (head_bytes Bits32 base h ++ rest) ≡ record { size = h.size; role = role_in (word / 0x100_0000) ((word / 0x1_0000) % 256) (word_of base h.role); correction = word % 256 } =
    (λ i. record { size = second i; role = role_in (first i / 0x100_0000) ((first i / 0x1_0000) % 256) (third i); correction = first i % 256 }) in
    said ∙ (λ i. record { size = h.size; role = ((λ j. role_in (tag_is j) (byte_is j) (word_of base h.role)) ∙ role-32 base h.role) i; correction = over i })
