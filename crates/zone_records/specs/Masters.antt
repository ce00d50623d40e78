-- Master blocks whose words are compared with other bytes.
use Rattle.std.specs.Prelude.{◌≡◌, ℕ, ◌+◌, ◌*◌, ◌/◌, ◌<◌, ◌≤◌, List, slice_index}
use Rattle.byteorder.specs.Endian.{big_bytes, big_number}
use Rattle.mac_base.specs.declared.block.HeadKind.{HeadKind}
use Rattle.mac_base.specs.declared.block.HeadKind.TheVariants.{Bits24, Bits32}
use Rattle.mac_base.specs.declared.block.Flags.{Flags}
use Rattle.mac_base.specs.FlagState.{flags_from}
use Rattle.mac_base.specs.HeadKind.{slot_count}
use Rattle.raw_region.specs.Bytes.{part}
use Rattle.block_bytes.specs.Layout.{RawBlock, Layout}
use Rattle.block_bytes.specs.Structure.{EachMaster, HasHeaders}
use Rattle.zone_records.specs.declared.slot.Slot.{Slot}
use Rattle.zone_records.specs.declared.slot.Slot.TheVariants as slot
use Rattle.zone_records.specs.Structure.{shown_slot}
use Rattle.zone_records.specs.Word.{slot_word, slot_in}

-- the flags of a handle by another word than its own; in a zone of 32-bit blocks its own
abbrev pub word_flags : HeadKind → ℕ → Flags → Flags
word_flags Bits24 word flags = flags_from (word / 0x100_0000)
word_flags Bits32 word flags = flags

-- what a slot says, with the flags that another word says
abbrev pub shown_by : HeadKind → ℕ → Slot → Slot
shown_by heads word (slot.Free next) = slot.Free next
shown_by heads word slot.Empty = slot.Empty
shown_by heads word (slot.Full flags contents) = slot.Full (word_flags heads word flags) contents

-- another word says the same but for flags, and is the word that says so
pub record WordAgrees (heads : HeadKind) (ours theirs : ℕ) : Type 0 where
  pub said : slot_in heads theirs ≡ shown_by heads theirs (slot_in heads ours)
  pub right : slot_word heads (slot_in heads theirs) ≡ theirs

-- it says the same flags too
abbrev pub SameWord : HeadKind → ℕ → ℕ → Type 0
SameWord heads ours theirs = shown_by heads theirs (slot_in heads ours) ≡ slot_in heads ours

-- the number in the four bytes at an offset
abbrev pub word_at : List ℕ → ℕ → ℕ
word_at bytes at = big_number 4 (part bytes at 4)

-- the four bytes at an offset say what a slot does but for flags, and are those of the word that says so
pub record SlotAgrees (heads : HeadKind) (bytes : List ℕ) (at : ℕ) (s : Slot) : Type 0 where
  pub said : slot_in heads (word_at bytes at) ≡ shown_slot heads bytes at s
  pub right : part bytes at 4 ≡ big_bytes 4 (slot_word heads (slot_in heads (word_at bytes at)))

-- the slot that a word among a master block's contents says
abbrev pub slot_of : HeadKind → List ℕ → ℕ → Slot
slot_of heads contents k = slot_in heads (word_at contents (4 * k))

-- the first n slots of a master block with these contents agree with the bytes at an offset
abbrev pub SlotsAgree : HeadKind → List ℕ → ℕ → ℕ → List ℕ → Type 0
SlotsAgree heads bytes n at contents = (k : ℕ) → k < n → SlotAgrees heads bytes (at + 4 * k) (slot_of heads contents k)

-- the bytes say the same flags of one of them
abbrev pub IsSame : HeadKind → List ℕ → ℕ → List ℕ → ℕ → Type 0
IsSame heads bytes at contents k = shown_slot heads bytes (at + 4 * k) (slot_of heads contents k) ≡ slot_of heads contents k

-- of the first n
abbrev pub SlotsSame : HeadKind → List ℕ → ℕ → ℕ → List ℕ → Type 0
SlotsSame heads bytes n at contents = (k : ℕ) → k < n → IsSame heads bytes at contents k

-- of each that is in some addresses
abbrev pub SameWhere : (ℕ → Type 0) → Layout → List ℕ → ℕ → List ℕ → Type 0
SameWhere P l bytes at contents = (k : ℕ) → k < slot_count → P (l.base + at + 4 * k) → IsSame l.heads bytes at contents k

-- of one they say other flags, and the same of those from another on before it
pub record FirstOther (heads : HeadKind) (bytes : List ℕ) (at : ℕ) (contents : List ℕ) (from k : ℕ) : Type 0 where
  pub reached : from ≤ k
  pub few : k < slot_count
  pub other : IsSame heads bytes at contents k → ⊥
  pub before : (j : ℕ) → from ≤ j → j < k → IsSame heads bytes at contents j

-- the slot at an address is the first, at another or after it, of which they say other flags, and these
pub record OtherFlags (l : Layout) (bytes : List ℕ) (at : ℕ) (contents : List ℕ) (from there : ℕ) (flags : Flags) : Type 0 where
  pub index : ℕ
  pub few : index < slot_count
  pub place : there ≡ l.base + at + 4 * index
  pub reached : from ≤ there
  pub other : IsSame l.heads bytes at contents index → ⊥
  pub said : flags ≡ flags_from (slice_index bytes (at + 4 * index))
  pub before : SameWhere (λ x. (from ≤ x) × (x < there)) l bytes at contents

-- bytes have the headers of these blocks, the first at an offset, and agree with the master blocks among them
pub record BlocksAgree (l : Layout) (bytes : List ℕ) (at : ℕ) (bs : List RawBlock) : Type 0 where
  pub headers : HasHeaders l bytes at bs
  pub masters : EachMaster (SlotsAgree l.heads bytes slot_count) l.heads at bs

-- they say the same flags
abbrev pub BlocksSame : Layout → List ℕ → ℕ → List RawBlock → Type 0
BlocksSame l bytes at bs = EachMaster (SlotsSame l.heads bytes slot_count) l.heads at bs
