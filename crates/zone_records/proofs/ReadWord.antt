-- A master pointer says what it was written for.
use Rattle.std.proofs.Common.{◌≡◌, ◌≢◌, ℕ, ◌+◌, ◌-◌, ◌*◌, ◌/◌, ◌%◌, ◌^◌, ◌<◌, Bool, true, false, not, ◌&&◌, nat_lt, cond, eqb, refl, ap, sym, ◌∙◌, arith}
use Rattle.std.specs.Prelude.{IsTrue}
use Rattle.std.proofs.lemmas.Bool.Decides.{nat_tests}
use Rattle.std.proofs.lemmas.Bool.{ltb-true as below, and_parts}
use Rattle.mac_base.specs.declared.block.HeadKind.{HeadKind}
use Rattle.mac_base.specs.declared.block.HeadKind.TheVariants.{Bits24, Bits32}
use Rattle.mac_base.specs.declared.block.Flags.{Flags}
use Rattle.mac_base.specs.FlagState.{state_of, flags_from}
use Rattle.mac_base.specs.HandleTable.{no_flags}
use Rattle.zone_records.specs.declared.slot.Slot.{Slot}
use Rattle.zone_records.specs.declared.slot.Slot.TheVariants.{Free, Empty, Full}
use Rattle.zone_records.specs.Places.{can_say, is_unmarked}
use Rattle.zone_records.specs.Word.{slot_word, slot_in}

-- the high byte of flags says them
pub flags_from-state : (f : Flags) → flags_from (state_of f) ≡ f
flags_from-state f = by_case f.lock f.purge f.resource
  where
    by_case : (a b c : Bool) → flags_from (state_of (record { lock = a; purge = b; resource = c })) ≡ record { lock = a; purge = b; resource = c }
    by_case false false false = refl
    by_case false false true = refl
    by_case false true false = refl
    by_case false true true = refl
    by_case true false false = refl
    by_case true false true = refl
    by_case true true false = refl
    by_case true true true = refl

-- it is even and below 256
pub state-range : (f : Flags) → (state_of f % 2 ≡ 0) × (state_of f < 256)
state-range f = by_case f.lock f.purge f.resource
  where
    by_case : (a b c : Bool) → let f : Flags = record { lock = a; purge = b; resource = c } in (state_of f % 2 ≡ 0) × (state_of f < 256)
    by_case false false false = (refl, omega arith)
    by_case false false true = (refl, omega arith)
    by_case false true false = (refl, omega arith)
    by_case false true true = (refl, omega arith)
    by_case true false false = (refl, omega arith)
    by_case true false true = (refl, omega arith)
    by_case true true false = (refl, omega arith)
    by_case true true true = (refl, omega arith)

-- flags of which none is set are those
unmarked-is : (f : Flags) → is_unmarked f ≡ true → f ≡ no_flags
unmarked-is f = by_case f.lock f.purge f.resource
  where
    by_case : (a b c : Bool) → is_unmarked (record { lock = a; purge = b; resource = c }) ≡ true → record { lock = a; purge = b; resource = c } ≡ no_flags
    by_case false false false h = refl
    by_case false false true h = absurd (cc h)
    by_case false true c h = absurd (cc h)
    by_case true b c h = absurd (cc h)

-- what a marked word of 24-bit blocks says
said_free24 : (w next : ℕ) → w ≡ 0x100_0000 + next → next < 0x100_0000 → slot_in Bits24 w ≡ Free next
said_free24 w next is small =
    let some : eqb w 0 ≡ false = grind (arith, nat_tests) in
    let high : (w / 0x100_0000) % 2 ≡ 1 = omega arith in
    let odd : eqb ((w / 0x100_0000) % 2) 1 ≡ true = grind (arith, nat_tests) in
    let low : w % 0x100_0000 ≡ next = omega arith in
    ap (λ t. cond t Empty (cond (eqb ((w / 0x100_0000) % 2) 1) (Free (w % 0x100_0000)) (Full (flags_from (w / 0x100_0000)) (w % 0x100_0000)))) some
    ∙ ap (λ t. cond t (Free (w % 0x100_0000)) (Full (flags_from (w / 0x100_0000)) (w % 0x100_0000))) odd
    ∙ ap (λ n. Free n) low

-- what an unmarked one says
said_full24 : (w high contents : ℕ) → w ≡ 0x100_0000 * high + contents → high % 2 ≡ 0 → contents < 0x100_0000 → contents ≢ 0 → slot_in Bits24 w ≡ Full (flags_from high) contents
said_full24 w high contents is even small some =
    let word : eqb w 0 ≡ false = grind (arith, nat_tests) in
    let front : w / 0x100_0000 ≡ high = omega arith in
    let even_front : (w / 0x100_0000) % 2 ≡ 0 = omega arith in
    let no_free : eqb ((w / 0x100_0000) % 2) 1 ≡ false = grind (arith, nat_tests) in
    let low : w % 0x100_0000 ≡ contents = omega arith in
    ap (λ t. cond t Empty (cond (eqb ((w / 0x100_0000) % 2) 1) (Free (w % 0x100_0000)) (Full (flags_from (w / 0x100_0000)) (w % 0x100_0000)))) word
    ∙ ap (λ t. cond t (Free (w % 0x100_0000)) (Full (flags_from (w / 0x100_0000)) (w % 0x100_0000))) no_free
    ∙ ap (λ n. Full (flags_from n) (w % 0x100_0000)) front ∙ ap (λ n. Full (flags_from high) n) low

-- the same of 32-bit blocks
said_free32 : (next : ℕ) → next % 4 ≡ 0 → slot_in Bits32 (next + 1) ≡ Free next
said_free32 next even =
    let some : eqb (next + 1) 0 ≡ false = grind (arith, nat_tests) in
    let odd_one : (next + 1) % 2 ≡ 1 = omega arith in
    let odd : eqb ((next + 1) % 2) 1 ≡ true = grind (arith, nat_tests) in
    let low : next + 1 - 1 ≡ next = omega arith in
    ap (λ t. cond t Empty (cond (eqb ((next + 1) % 2) 1) (Free (next + 1 - 1)) (Full no_flags (next + 1)))) some
    ∙ ap (λ t. cond t (Free (next + 1 - 1)) (Full no_flags (next + 1))) odd
    ∙ ap (λ n. Free n) low

said_full32 : (contents : ℕ) → contents % 4 ≡ 0 → contents ≢ 0 → slot_in Bits32 contents ≡ Full no_flags contents
said_full32 contents even some =
    let word : eqb contents 0 ≡ false = grind (arith, nat_tests) in
    let even_one : contents % 2 ≡ 0 = omega arith in
    let no_free : eqb (contents % 2) 1 ≡ false = grind (arith, nat_tests) in
    ap (λ t. cond t Empty (cond (eqb (contents % 2) 1) (Free (contents - 1)) (Full no_flags contents))) word
    ∙ ap (λ t. cond t (Free (contents - 1)) (Full no_flags contents)) no_free

-- two tests of numbers
even_four : (n : ℕ) → eqb (n % 4) 0 ≡ true → n % 4 ≡ 0
even_four n h = grind (arith, nat_tests)

not_none : (n : ℕ) → not (eqb n 0) ≡ true → n ≢ 0
not_none n h zero = grind (arith, nat_tests)

-- a slot's word says the slot
pub slot_in-word : (heads : HeadKind) (s : Slot) → IsTrue (can_say heads s) → slot_in heads (slot_word heads s) ≡ s
slot_in-word Bits24 (Free next) h = said_free24 (0x100_0000 + next) next refl (below next 0x100_0000 h)
slot_in-word Bits24 Empty h = refl
slot_in-word Bits24 (Full flags contents) h =
    let parts = and_parts (nat_lt contents 0x100_0000) (not (eqb contents 0)) h in
    said_full24 (0x100_0000 * state_of flags + contents) (state_of flags) contents refl (state-range flags).0 (below contents 0x100_0000 parts.0) (not_none contents parts.1)
    ∙ ap (λ f. Full f contents) (flags_from-state flags)
slot_in-word Bits32 (Free next) h = said_free32 next (even_four next (and_parts (nat_lt next (2 ^ 32)) (eqb (next % 4) 0) h).1)
slot_in-word Bits32 Empty h = refl
slot_in-word Bits32 (Full flags contents) h =
    let parts = and_parts (nat_lt contents (2 ^ 32) && eqb (contents % 4) 0) (not (eqb contents 0) && is_unmarked flags) h in
    let place = and_parts (nat_lt contents (2 ^ 32)) (eqb (contents % 4) 0) parts.0 in
    let said = and_parts (not (eqb contents 0)) (is_unmarked flags) parts.1 in
    said_full32 contents (even_four contents place.1) (not_none contents said.0) ∙ ap (λ f. Full f contents) (sym (unmarked-is flags said.1))

-- it has four bytes
pub slot_word-below : (heads : HeadKind) (s : Slot) → IsTrue (can_say heads s) → slot_word heads s < 256 ^ 4
slot_word-below Bits24 (Free next) h = let small = below next 0x100_0000 h in let sum : 0x100_0000 + next < 0x1_0000_0000 = omega arith in sum
slot_word-below Bits24 Empty h = let none : 0 < 0x1_0000_0000 = omega arith in none
slot_word-below Bits24 (Full flags contents) h =
    let parts = and_parts (nat_lt contents 0x100_0000) (not (eqb contents 0)) h in
    let low = below contents 0x100_0000 parts.0 in
    let high = (state-range flags).1 in
    let sum : 0x100_0000 * state_of flags + contents < 0x1_0000_0000 = omega arith in sum
slot_word-below Bits32 (Free next) h =
    let parts = and_parts (nat_lt next (2 ^ 32)) (eqb (next % 4) 0) h in
    let low : next < 0x1_0000_0000 = below next (2 ^ 32) parts.0 in
    let even = even_four next parts.1 in
    let sum : next + 1 < 0x1_0000_0000 = omega arith in sum
slot_word-below Bits32 Empty h = let none : 0 < 0x1_0000_0000 = omega arith in none
slot_word-below Bits32 (Full flags contents) h =
    let parts = and_parts (nat_lt contents (2 ^ 32) && eqb (contents % 4) 0) (not (eqb contents 0) && is_unmarked flags) h in
    below contents (2 ^ 32) (and_parts (nat_lt contents (2 ^ 32)) (eqb (contents % 4) 0) parts.0).0
