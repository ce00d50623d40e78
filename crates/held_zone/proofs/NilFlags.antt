-- Flag bits in the master pointers of empty handles: how they are found and cleared.
use Rattle.std.proofs.Common.{◌≡◌, ◌∙◌, ℕ, ◌+◌, ◌-◌, ◌<◌, ◌≤◌, Bool, true, false, cond, List, length, Option, Some, None, Ok, refl, sym, ap, subst, inl, inr, arith}
use Rattle.std.specs.Prelude.{IfNone, IfSome, slice_index}
use Rattle.std.proofs.lemmas.Bool.{and_parts, cases_lt, false≢true, false_from_ne_true}
use Rattle.std.proofs.lemmas.Grind.{same_number_lists}
use Rattle.mac_base.specs.HandleTable.{is_handle}
use Rattle.mac_base.specs.HeadKind.{zone_header}
use Rattle.mac_base.specs.Sound.{Sound}
use Rattle.mac_base.specs.ZoneMap.{total_size}
use Rattle.mac_base.specs.ZoneState.{ZoneState}
use Rattle.zone_records.specs.declared.structure.Part.{Part}
use Rattle.linked_zone.specs.Faults.{IsFirstFault}
use Rattle.linked_zone.specs.Structure.{HasStructure}
use Rattle.held_zone.specs.Checking.{Finds}
use Rattle.held_zone.specs.NilFlags.{IsCleared, IsClearedTo, NoNilFlags, NoneBetween, Takes, cleared_byte, has_nil_flags, is_nil, is_nil_flags}
use Rattle.held_zone.proofs.Keeping.{slot-below}

-- what is no handle is no empty one
no-nil : (z : ZoneState) (x : ℕ) → is_handle z.heap.table x ≡ false → is_nil z x ≡ false
no-nil z x none = false_from_ne_true (is_nil z x) (λ is.
    let parts = and_parts _ _ is in let handle = and_parts _ _ parts.1 in absurd (false≢true (sym none ∙ handle.0)))

pub other-nil : (z : ZoneState) (bytes : List ℕ) (x : ℕ) → is_nil z x ≡ false → has_nil_flags z bytes x ≡ false
other-nil z bytes x none = false_from_ne_true (has_nil_flags z bytes x) (λ is.
    let parts = and_parts _ _ is in absurd (false≢true (sym none ∙ parts.0)))

pub no-handle : (z : ZoneState) (bytes : List ℕ) (x : ℕ) → is_handle z.heap.table x ≡ false → has_nil_flags z bytes x ≡ false
no-handle z bytes x none = other-nil z bytes x (no-nil z x none)

-- an empty handle is one
pub nil-handle : (z : ZoneState) (x : ℕ) → is_nil z x ≡ true → is_handle z.heap.table x ≡ true
nil-handle z x is = let parts = and_parts _ _ is in let handle = and_parts _ _ parts.1 in handle.0

-- no handle is at the end of the blocks or after it
none-above : (z : ZoneState) → Sound z.shape z.heap → (x : ℕ) → z.shape.base + zone_header + total_size z.heap.map ≤ x → is_handle z.heap.table x ≡ false
none-above z sound x above = false_from_ne_true (is_handle z.heap.table x) (λ is. let below = slot-below z sound x is in absurd (omega arith))

-- ---- the search

pub none-next : (z : ZoneState) (bytes : List ℕ) (from at next : ℕ) → NoneBetween z bytes from at → ((y : ℕ) → at ≤ y → y < next → has_nil_flags z bytes y ≡ false) → NoneBetween z bytes from next
none-next z bytes from at next before after = λ y low high. elim (cases_lt y at) [
  | inl below ↦ before y low below
  | inr above ↦ after y above high
]

pub none-past : (z : ZoneState) (bytes : List ℕ) (from at next : ℕ) → NoneBetween z bytes from at → ((y : ℕ) → at ≤ y → y < next → is_handle z.heap.table y ≡ false) → NoneBetween z bytes from next
none-past z bytes from at next before none = none-next z bytes from at next before (λ y low high. no-handle z bytes y (none y low high))

pub none-end : (z : ZoneState) (bytes : List ℕ) (from at : ℕ) → Sound z.shape z.heap → NoneBetween z bytes from at → z.shape.base + zone_header + total_size z.heap.map ≤ at → (end : ℕ) → NoneBetween z bytes from end
none-end z bytes from at sound before far = λ end. none-past z bytes from at end before (λ y low high. none-above z sound y (omega arith))

-- ---- bytes that are cleared

byte-left : (z : ZoneState) (x byte : ℕ) → is_nil_flags z x byte ≡ false → byte ≡ cleared_byte z x byte
byte-left z x byte none = sym (ap (λ b. cond b 0 byte) none)

-- one that is at an address less the zone's base
at-place : (z : ZoneState) (bytes : List ℕ) (at : ℕ) (b : Bool) → has_nil_flags z bytes (z.shape.base + at) ≡ b → is_nil_flags z (z.shape.base + at) (slice_index bytes at) ≡ b
at-place z bytes at b is =
    let place : z.shape.base + at - z.shape.base ≡ at = omega arith in
    sym (ap (λ n. is_nil_flags z (z.shape.base + at) (slice_index bytes n)) place) ∙ is

pub cleared-end : (z : ZoneState) (old new : List ℕ) (from : ℕ) → z.shape.base ≤ from → IsClearedTo z old from new → ((end : ℕ) → NoneBetween z new from end) → IsCleared z old new
cleared-end z old new from high to none = record {
  long = to.long;
  each = λ p. elim (cases_lt (z.shape.base + p) from) [
    | inl lower ↦ to.done p lower
    | inr upper ↦
        (let same = to.left p upper in let left = at-place z new p false (none (z.shape.base + p + 1) (z.shape.base + p) upper (omega arith)) in
        same ∙ byte-left z (z.shape.base + p) (slice_index old p) (sym (ap (is_nil_flags z (z.shape.base + p)) same) ∙ left))
  ];
}

-- there is one way to clear them
pub one-cleared : (z : ZoneState) (old one other : List ℕ) → IsCleared z old one → IsCleared z old other → one ≡ other
one-cleared z old one other first second = same_number_lists one other (first.long ∙ sym second.long) (λ k below. first.each k ∙ sym (second.each k))

-- where there are none, all is as it was
none-cleared : (z : ZoneState) (bytes taken : List ℕ) → NoNilFlags z bytes → IsCleared z bytes taken → taken ≡ bytes
none-cleared z bytes taken none clear = same_number_lists taken bytes clear.long (λ k below.
    clear.each k ∙ sym (byte-left z (z.shape.base + k) (slice_index bytes k) (at-place z bytes k false (none (z.shape.base + k) (omega arith)))))

-- ---- bytes as a zone takes them

same-cleared : (z : ZoneState) (bytes : List ℕ) → NoNilFlags z bytes → IsCleared z bytes bytes
same-cleared z bytes none = record { long = refl; each = λ p. byte-left z (z.shape.base + p) (slice_index bytes p) (at-place z bytes p false (none (z.shape.base + p) (omega arith))) }

-- where no bits are to be cleared, the first fault is that of the bytes as they are
pub finds-plain : (z : ZoneState) (bytes : List ℕ) (at : ℕ) (part : Part) → NoNilFlags z bytes → IsFirstFault z bytes at part → (taken : List ℕ) × Takes z bytes taken × IsFirstFault z taken at part
finds-plain z bytes at part none fault = (bytes, inr (λ has. fault.wrong bytes has refl, same-cleared z bytes none), fault)

-- else it is that of those that are cleared, if they have one
pub finds-cleared : (z : ZoneState) (bytes taken again : List ℕ) (at : ℕ) (part : Part) (found : Option (ℕ × Part)) → IsFirstFault z bytes at part → IsCleared z bytes taken → again ≡ taken
    → IfSome found (λ f. IsFirstFault z again f.0 f.1) → IfNone found (HasStructure z again) → Finds z bytes (Ok found)
finds-cleared z bytes taken again at part None fault clear same some none = (taken, inr (λ has. fault.wrong bytes has refl, clear), subst (HasStructure z) same none)
finds-cleared z bytes taken again at part (Some f) fault clear same some none = (taken, inr (λ has. fault.wrong bytes has refl, clear), subst (λ (bs : List ℕ). IsFirstFault z bs f.0 f.1) same some)

-- they are as many
pub taken-long : (z : ZoneState) (bytes taken : List ℕ) → Takes z bytes taken → length taken ≡ length bytes
taken-long z bytes taken (inl has) = ap length has.1
taken-long z bytes taken (inr clear) = clear.1.long

-- where no bits are to be cleared, they haven't the structure if the bytes haven't it
pub damaged-none : (z : ZoneState) (bytes : List ℕ) → (HasStructure z bytes → ⊥) → NoNilFlags z bytes → (taken : List ℕ) → Takes z bytes taken → HasStructure z taken → ⊥
damaged-none z bytes damaged none taken (inl has) = λ structure. damaged has.0
damaged-none z bytes damaged none taken (inr clear) = λ structure. damaged (subst (HasStructure z) (none-cleared z bytes taken none clear.1) structure)

-- nor if those that are cleared haven't it
pub damaged-cleared : (z : ZoneState) (bytes cleared : List ℕ) → (HasStructure z bytes → ⊥) → IsCleared z bytes cleared → (HasStructure z cleared → ⊥) → (taken : List ℕ) → Takes z bytes taken → HasStructure z taken → ⊥
damaged-cleared z bytes cleared damaged is wrong taken (inl has) = λ structure. damaged has.0
damaged-cleared z bytes cleared damaged is wrong taken (inr clear) = λ structure. wrong (subst (HasStructure z) (one-cleared z bytes taken cleared clear.1 is) structure)
