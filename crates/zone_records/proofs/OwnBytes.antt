-- The bytes that blocks are in show these blocks.
use Rattle.std.proofs.Common.{◌≡◌, ℕ, zero, suc, ◌+◌, ◌/◌, ◌%◌, ◌*◌, ◌<◌, Bool, true, false, eqb, cond, List, [], ◌∷◌, ◌++◌, length, map, take, drop, refl, ap, sym, ◌∙◌, arith, append_assoc, drop-drop, take-append-drop, drop_at, take_at}
use Rattle.std.specs.Prelude.{slice_index}
use Rattle.std.specs.List.{All}
use Rattle.std.proofs.lemmas.List.{get_or-drop}
use Rattle.std.proofs.lemmas.List.Elements.{All-head, All-tail}
use Rattle.byteorder.specs.Endian.{big_bytes, big_number}
use Rattle.mac_base.specs.declared.block.Flags.{Flags}
use Rattle.mac_base.specs.declared.block.HeadKind.{HeadKind}
use Rattle.mac_base.specs.declared.block.HeadKind.TheVariants.{Bits24, Bits32}
use Rattle.mac_base.specs.FlagState.{state_of, flags_from}
use Rattle.mac_base.specs.HeadKind.{head_size, slot_count, zone_header}
use Rattle.raw_region.specs.Bytes.{part}
use Rattle.raw_region.proofs.Numbers.{length-big_bytes}
use Rattle.block_bytes.specs.declared.header.Role.{Role}
use Rattle.block_bytes.specs.declared.header.Role.TheVariants as role
use Rattle.block_bytes.specs.Head.{head_bytes}
use Rattle.block_bytes.specs.Layout.{RawBlock, size_of, header_of, header_bytes, rendered}
use Rattle.block_bytes.proofs.Heads.{length-head_bytes}
use Rattle.block_bytes.proofs.Parts.{length-header}
use Rattle.zone_records.specs.declared.slot.Slot.{Slot}
use Rattle.zone_records.specs.declared.slot.Slot.TheVariants as slot
use Rattle.zone_records.specs.Reading.{content_in, record_in, records_in, HasWords}
use Rattle.zone_records.specs.Records.{Fixed, Master, Relocatable, ZoneRecords, total_of}
use Rattle.zone_records.specs.Structure.{IsIn, shown, shown_blocks, shown_content, shown_slot, shown_slots}
use Rattle.zone_records.specs.Word.{slot_in, slot_word, slots_in, words_of}
use Rattle.zone_records.proofs.ReadWord.{flags_from-state, state-range}

-- a part of bytes whose end from an offset on is three lists in a row
part-of : (bytes pre mid post : List ℕ) (at k n : ℕ) → drop at bytes ≡ pre ++ (mid ++ post) → length pre ≡ k → length mid ≡ n → part bytes (at + k) n ≡ mid
part-of bytes pre mid post at k n is first long = ap (take n) (sym (drop-drop k at bytes) ∙ ap (drop k) is ∙ drop_at pre (mid ++ post) k first) ∙ take_at mid post n long

-- and what is after the first of two
rest-of : (bytes pre post : List ℕ) (at k : ℕ) → drop at bytes ≡ pre ++ post → length pre ≡ k → drop (at + k) bytes ≡ post
rest-of bytes pre post at k is first = sym (drop-drop k at bytes) ∙ ap (drop k) is ∙ drop_at pre post k first

-- the high byte of a word of flags and an address says the flags
high_byte : (bytes rest : List ℕ) (at contents : ℕ) (flags : Flags) → contents < 0x100_0000 → drop at bytes ≡ big_bytes 4 (0x100_0000 * state_of flags + contents) ++ rest → flags_from (slice_index bytes at) ≡ flags
high_byte bytes rest at contents flags small is =
    let same : slice_index (drop at bytes) 0 ≡ slice_index bytes (at + 0) = get_or-drop at bytes 0 0 in
    let here : at + 0 ≡ at = omega arith in
    let byte : slice_index bytes at ≡ (0x100_0000 * state_of flags + contents) / 0x100_0000 % 256 = sym (same ∙ ap (slice_index bytes) here) ∙ ap (λ xs. slice_index xs 0) is in
    let range = (state-range flags).1 in
    let high : (0x100_0000 * state_of flags + contents) / 0x100_0000 % 256 ≡ state_of flags = omega arith in
    ap flags_from (byte ∙ high) ∙ flags_from-state flags

-- what a word says is shown where the bytes are those of what it says
slot-own : (heads : HeadKind) (bytes rest : List ℕ) (at word : ℕ) → drop at bytes ≡ big_bytes 4 (slot_word heads (slot_in heads word)) ++ rest → shown_slot heads bytes at (slot_in heads word) ≡ slot_in heads word
slot-own Bits24 bytes rest at word is = by_tests (eqb word 0) (eqb (word / 0x100_0000 % 2) 1) is
  where
    said : Bool → Bool → Slot
    said none free = cond none slot.Empty (cond free (slot.Free (word % 0x100_0000)) (slot.Full (flags_from (word / 0x100_0000)) (word % 0x100_0000)))

    by_tests : (none free : Bool) → drop at bytes ≡ big_bytes 4 (slot_word Bits24 (said none free)) ++ rest → shown_slot Bits24 bytes at (said none free) ≡ said none free
    by_tests true free is = refl
    by_tests false true is = refl
    by_tests false false is = ap (λ f. slot.Full f (word % 0x100_0000)) (high_byte bytes rest at (word % 0x100_0000) (flags_from (word / 0x100_0000)) (omega arith) is)
slot-own Bits32 bytes rest at word is = as_said (slot_in Bits32 word)
  where
    as_said : (s : Slot) → shown_slot Bits32 bytes at s ≡ s
    as_said (slot.Free next) = refl
    as_said slot.Empty = refl
    as_said (slot.Full flags contents) = refl

slots-own : (heads : HeadKind) (bytes rest : List ℕ) (n at : ℕ) (contents : List ℕ) → drop at bytes ≡ words_of heads (slots_in heads n contents) ++ rest → shown_slots heads bytes at (slots_in heads n contents) ≡ slots_in heads n contents
unfolding slots_in
slots-own heads bytes rest zero at contents is = refl
slots-own heads bytes rest (suc n) at contents is =
    let word = big_bytes 4 (slot_word heads (slot_in heads (big_number 4 (take 4 contents)))) in
    let more = words_of heads (slots_in heads n (drop 4 contents)) in
    let first : drop at bytes ≡ word ++ (more ++ rest) = is ∙ append_assoc word more rest in
    ap (λ s. s ∷ shown_slots heads bytes (at + 4) (slots_in heads n (drop 4 contents))) (slot-own heads bytes (more ++ rest) at (big_number 4 (take 4 contents)) first)
    ∙ ap (λ ss. slot_in heads (big_number 4 (take 4 contents)) ∷ ss) (slots-own heads bytes rest n (at + 4) (drop 4 contents) (rest-of bytes word (more ++ rest) at 4 first (length-big_bytes 4 (slot_word heads (slot_in heads (big_number 4 (take 4 contents)))))))

-- so is what is in a block
content-own : (heads : HeadKind) (base : ℕ) (bytes rest : List ℕ) (at : ℕ) (r : Role) (contents : List ℕ) → (r ≡ role.Master → contents ≡ words_of heads (slots_in heads slot_count contents)) → drop at bytes ≡ contents ++ rest
    → shown_content heads bytes at (content_in heads base r contents) ≡ content_in heads base r contents
content-own heads base bytes rest at role.Free contents words is = refl
content-own heads base bytes rest at role.Fixed contents words is = ap Fixed (ap (take (length contents)) is ∙ take_at contents rest (length contents) refl)
content-own heads base bytes rest at role.Master contents words is = ap Master (slots-own heads bytes rest slot_count at contents (is ∙ ap (λ xs. xs ++ rest) (words refl)))
content-own heads base bytes rest at (role.Relocatable offset flags) contents words is = ap (Relocatable (base + offset) flags) (ap (take (length contents)) is ∙ take_at contents rest (length contents) refl)

-- so are blocks
blocks-own : (heads : HeadKind) (base : ℕ) (bytes rest : List ℕ) (at : ℕ) (bs : List RawBlock) → All (HasWords heads) bs → drop at bytes ≡ rendered heads base bs ++ rest
    → shown_blocks heads bytes at (map (record_in heads base) bs) ≡ map (record_in heads base) bs
blocks-own heads base bytes rest at [] words is = refl
blocks-own heads base bytes rest at (b ∷ bs) words is =
    let head = head_bytes heads base (header_of heads b) in
    let later = rendered heads base bs in
    let all : drop at bytes ≡ head ++ (b.contents ++ (b.slack ++ (later ++ rest))) =
    is ∙ append_assoc head (b.contents ++ (b.slack ++ later)) rest ∙ ap (λ xs. head ++ xs) (append_assoc b.contents (b.slack ++ later) rest ∙ ap (λ xs. b.contents ++ xs) (append_assoc b.slack later rest)) in
    let inside = rest-of bytes head (b.contents ++ (b.slack ++ (later ++ rest))) at (head_size heads) all (length-head_bytes heads base (header_of heads b)) in
    let over = rest-of bytes b.contents (b.slack ++ (later ++ rest)) (at + head_size heads) (length b.contents) inside refl in
    let after = rest-of bytes b.slack (later ++ rest) (at + head_size heads + length b.contents) (length b.slack) over refl in
    let same : at + head_size heads + length b.contents + length b.slack ≡ at + size_of heads b = omega arith in
    ap (λ c. record { size = size_of heads b; content = c; lent = b.lent } ∷ shown_blocks heads bytes (at + size_of heads b) (map (record_in heads base) bs))
    (content-own heads base bytes (b.slack ++ (later ++ rest)) (at + head_size heads) b.role b.contents (All-head (HasWords heads) b bs words) inside)
    ∙ ap (λ rs. record_in heads base b ∷ rs) (blocks-own heads base bytes rest (at + size_of heads b) bs (All-tail (HasWords heads) b bs words) (sym (ap (λ n. drop n bytes) same) ∙ after))

-- the bytes that a zone's blocks are in show them
pub own-records : (r : ZoneRecords) (bytes : List ℕ) → IsIn r bytes → shown r bytes ≡ r
own-records r bytes is =
    let l = is.image.layout in
    let rest = drop (zone_header + total_of r.blocks) bytes in
    let all : bytes ≡ header_bytes l ++ (rendered l.heads l.base l.blocks ++ rest) =
    sym (take-append-drop (zone_header + total_of r.blocks) bytes) ∙ ap (λ xs. xs ++ rest) is.image.form ∙ append_assoc (header_bytes l) (rendered l.heads l.base l.blocks) rest in
    let after : drop zone_header bytes ≡ rendered l.heads l.base l.blocks ++ rest = ap (drop zone_header) all ∙ drop_at (header_bytes l) (rendered l.heads l.base l.blocks ++ rest) zone_header (length-header l) in
    sym (ap (λ r. shown r bytes) is.image.same)
    ∙ ap (λ bs. record (records_in l) { blocks = bs }) (blocks-own l.heads l.base bytes rest zone_header l.blocks is.image.words after)
    ∙ is.image.same
