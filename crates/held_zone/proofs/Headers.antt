-- The guest's fields of a zone's header among its bytes.
use Rattle.std.proofs.Common.{◌≡◌, ◌∙◌, ℕ, ◌+◌, ◌≤◌, List, [], ◌++◌, length, take, take_all, drop, refl, sym, ap, arith, append_assoc, length-append, take-append-drop, drop-drop}
use Rattle.byteorder.specs.Endian.{big_bytes}
use Rattle.mac_base.specs.HeadKind.{slot_count, zone_header}
use Rattle.block_bytes.specs.ZoneHead.{zeros, zone_head}
use Rattle.block_bytes.proofs.Rendered.{part-middle, written-middle}
use Rattle.block_bytes.proofs.ZoneHeads.{length-zone_head}
use Rattle.raw_region.specs.Bytes.{part, written, length-written}
use Rattle.raw_region.proofs.Laws.{length-part}
use Rattle.raw_region.proofs.Numbers.{length-big_bytes}
use Rattle.raw_region.specs.State.{State as Region, with_bytes}
use Rattle.mac_base.specs.ZoneMap.{total_size}
use Rattle.mac_base.specs.ZoneState.{ZoneState}
use Rattle.block_bytes.specs.Layout.{Layout, address_after, first_free, free_total, rendered}
use Rattle.zone_records.specs.Image.{HasBytes}
use Rattle.linked_zone.specs.Owned.{records_of}
use Rattle.linked_zone.specs.Structure.{IsIn}
use Rattle.held_zone.specs.declared.fields.GuestFields.{GuestFields}
use Rattle.held_zone.specs.Fields.{AreFields, fielded, fields_in, managed, managed_in, new_fields, with_fields}

pub new-fields : AreFields new_fields
new-fields = record { purge_ptr = refl; others = refl }

pub fields-in : (bytes : List ℕ) → zone_header ≤ length bytes → AreFields (fields_in bytes)
fields-in bytes long = record { purge_ptr = length-part bytes 4 4 (omega arith); others = length-part bytes 16 32 (omega arith) }

-- they take no byte more or less
pub length-with : (g : GuestFields) (bytes : List ℕ) → length (with_fields g bytes) ≡ length bytes
length-with g bytes = length-written (written bytes 4 g.purge_ptr) 16 g.others ∙ length-written bytes 4 g.purge_ptr

-- bytes in parts
abbrev joined : List ℕ → List ℕ → List ℕ → List ℕ → List ℕ → List ℕ
joined end purge mid others rest = end ++ (purge ++ (mid ++ (others ++ rest)))

with-joined : (g : GuestFields) (end purge mid others rest : List ℕ) → AreFields g → length end ≡ 4 → length purge ≡ 4 → length mid ≡ 8 → length others ≡ 32
    → with_fields g (joined end purge mid others rest) ≡ joined end g.purge_ptr mid g.others rest
with-joined g end purge mid others rest are a b c d =
    let before = end ++ (g.purge_ptr ++ mid) in
    let s1 = length-append end (g.purge_ptr ++ mid) in let s2 = length-append g.purge_ptr mid in
    let one = are.purge_ptr in let two = are.others in
    let parts : joined end g.purge_ptr mid others rest ≡ before ++ (others ++ rest) = simp append_assoc in
    let parts2 : joined end g.purge_ptr mid g.others rest ≡ before ++ (g.others ++ rest) = simp append_assoc in
    ap (λ xs. written xs 16 g.others) (written-middle end purge (mid ++ (others ++ rest)) g.purge_ptr 4 (omega arith) (omega arith) ∙ parts)
    ∙ written-middle before others rest g.others 16 (omega arith) (omega arith)
    ∙ sym parts2

in-joined : (end purge mid others rest : List ℕ) → length end ≡ 4 → length purge ≡ 4 → length mid ≡ 8 → length others ≡ 32
    → fields_in (joined end purge mid others rest) ≡ record { purge_ptr = purge; others = others }
in-joined end purge mid others rest a b c d =
    let before = end ++ (purge ++ mid) in
    let s1 = length-append end (purge ++ mid) in let s2 = length-append purge mid in
    let parts : joined end purge mid others rest ≡ before ++ (others ++ rest) = simp append_assoc in
    let first : part (joined end purge mid others rest) 4 4 ≡ purge = part-middle end purge (mid ++ (others ++ rest)) 4 4 (omega arith) (omega arith) in
    let second : part (joined end purge mid others rest) 16 32 ≡ others = ap (λ xs. part xs 16 32) parts ∙ part-middle before others rest 16 32 (omega arith) (omega arith) in
    λ i. record { purge_ptr = first i; others = second i }

-- any bytes are in such parts
cut : (bytes : List ℕ) → bytes ≡ joined (take 4 bytes) (part bytes 4 4) (part bytes 8 8) (part bytes 16 32) (drop 48 bytes)
cut bytes =
    let c4 = sym (take-append-drop 4 bytes) in
    let c8 : drop 4 bytes ≡ part bytes 4 4 ++ drop 8 bytes = sym (take-append-drop 4 (drop 4 bytes)) ∙ ap (λ xs. part bytes 4 4 ++ xs) (drop-drop 4 4 bytes) in
    let c16 : drop 8 bytes ≡ part bytes 8 8 ++ drop 16 bytes = sym (take-append-drop 8 (drop 8 bytes)) ∙ ap (λ xs. part bytes 8 8 ++ xs) (drop-drop 8 8 bytes) in
    let c48 : drop 16 bytes ≡ part bytes 16 32 ++ drop 48 bytes = sym (take-append-drop 32 (drop 16 bytes)) ∙ ap (λ xs. part bytes 16 32 ++ xs) (drop-drop 32 16 bytes) in
    c4 ∙ ap (λ xs. take 4 bytes ++ xs) (c8 ∙ ap (λ xs. part bytes 4 4 ++ xs) (c16 ∙ ap (λ xs. part bytes 8 8 ++ xs) c48))

module _ (bytes : List ℕ) (long : zone_header ≤ length bytes) where
  long4 : length (take 4 bytes) ≡ 4
  long4 = length-part bytes 0 4 (omega arith)

  with-cut : (g : GuestFields) → AreFields g → with_fields g bytes ≡ joined (take 4 bytes) g.purge_ptr (part bytes 8 8) g.others (drop 48 bytes)
  with-cut g are = ap (with_fields g) (cut bytes)
      ∙ with-joined g (take 4 bytes) (part bytes 4 4) (part bytes 8 8) (part bytes 16 32) (drop 48 bytes) are long4 (length-part bytes 4 4 (omega arith)) (length-part bytes 8 8 (omega arith)) (length-part bytes 16 32 (omega arith))

  -- fields that are written over others leave nothing of these
  pub with-with : (g h : GuestFields) → AreFields g → AreFields h → with_fields h (with_fields g bytes) ≡ with_fields h bytes
  with-with g h g_are h_are = ap (with_fields h) (with-cut g g_are)
      ∙ with-joined h (take 4 bytes) g.purge_ptr (part bytes 8 8) g.others (drop 48 bytes) h_are long4 g_are.purge_ptr (length-part bytes 8 8 (omega arith)) g_are.others
      ∙ sym (with-cut h h_are)

  -- they are what is read there then
  pub in-with : (g : GuestFields) → AreFields g → fields_in (with_fields g bytes) ≡ g
  in-with g are = ap fields_in (with-cut g are) ∙ in-joined (take 4 bytes) g.purge_ptr (part bytes 8 8) g.others (drop 48 bytes) long4 are.purge_ptr (length-part bytes 8 8 (omega arith)) are.others

  -- once they are put back, all is as it was
  pub put-back : with_fields (fields_in bytes) (managed bytes) ≡ bytes
  put-back = with-with new_fields (fields_in bytes) new-fields (fields-in bytes long) ∙ with-cut (fields_in bytes) (fields-in bytes long) ∙ sym (cut bytes)

-- a header as the Memory Manager writes it has the fields of a new zone
pub managed-head : (end front free lowest : ℕ) (rest : List ℕ) → managed (zone_head end front free lowest ++ rest) ≡ zone_head end front free lowest ++ rest
managed-head end front free lowest rest =
    let mid = big_bytes 4 front ++ big_bytes 4 free in
    let others = zeros 4 ++ (big_bytes 2 slot_count ++ zeros 26) in
    let a = length-big_bytes 4 end in let b = length-append (big_bytes 4 front) (big_bytes 4 free) in let c = length-big_bytes 4 front in let d = length-big_bytes 4 free in
    let parts : zone_head end front free lowest ++ rest ≡ joined (big_bytes 4 end) (zeros 4) mid others (big_bytes 4 lowest ++ rest) = simp append_assoc in
    ap managed parts ∙ with-joined new_fields (big_bytes 4 end) (zeros 4) mid others (big_bytes 4 lowest ++ rest) new-fields (omega arith) refl (omega arith) refl ∙ sym parts

-- a region with other fields
pub managed-fielded : (g : GuestFields) (r : Region) → AreFields g → zone_header ≤ length r.bytes → managed r.bytes ≡ r.bytes → managed_in (fielded g r) ≡ r
managed-fielded g r are long same = ap (λ (xs : List ℕ). let now : Region = record r { bytes = xs } in now) (with-with r.bytes long g new_fields are new-fields ∙ same)

pub fielded-back : (r : Region) → zone_header ≤ length r.bytes → fielded (fields_in r.bytes) (managed_in r) ≡ r
fielded-back r long = ap (λ (xs : List ℕ). let now : Region = record r { bytes = xs } in now) (put-back r.bytes long)

-- fields that are written in their places in a region
pub written-fields : (g : GuestFields) (r : Region) (purge others : List ℕ) → AreFields g → purge ≡ g.purge_ptr → others ≡ g.others → with_bytes (with_bytes r 4 (take 4 purge)) 16 (take 32 others) ≡ fielded g r
written-fields g r purge others are is_purge is_others =
    let one : take 4 purge ≡ g.purge_ptr = take_all 4 purge (omega (arith, ap length is_purge, are.purge_ptr)) ∙ is_purge in
    let two : take 32 others ≡ g.others = take_all 32 others (omega (arith, ap length is_others, are.others)) ∙ is_others in
    ap (λ (xs : List ℕ). let now : Region = record r { bytes = xs } in now) (λ j. written (written r.bytes 4 (one j)) 16 (two j))

-- bytes of a zone have the fields of a new one
pub managed-image : (z : ZoneState) (image rest : List ℕ) → HasBytes (records_of z) image → managed (image ++ rest) ≡ image ++ rest
managed-image z image rest has =
    let l : Layout = has.layout in
    let blocks = rendered l.heads l.base l.blocks in
    let end = address_after l l.blocks in let free = free_total l.heads l.blocks in let lowest = first_free l.heads (address_after l []) l.blocks in
    let parts : image ++ rest ≡ zone_head end l.front free lowest ++ (blocks ++ rest) = ap (λ xs. xs ++ rest) has.form ∙ append_assoc (zone_head end l.front free lowest) blocks rest in
    ap managed parts ∙ managed-head end l.front free lowest (blocks ++ rest) ∙ sym parts

pub managed-in : (z : ZoneState) (bytes : List ℕ) → IsIn z bytes → managed bytes ≡ bytes
managed-in z bytes inside =
    let n = zone_header + total_size z.heap.map in
    let parts : bytes ≡ take n bytes ++ drop n bytes = sym (take-append-drop n bytes) in
    ap managed parts ∙ managed-image z (take n bytes) (drop n bytes) inside.image ∙ sym parts

-- they have all of its header
pub image-long : (z : ZoneState) (image : List ℕ) → HasBytes (records_of z) image → zone_header ≤ length image
image-long z image has =
    let l : Layout = has.layout in
    let blocks = rendered l.heads l.base l.blocks in
    let head = zone_head (address_after l l.blocks) l.front (free_total l.heads l.blocks) (first_free l.heads (address_after l []) l.blocks) in
    let sum = length-append head blocks in
    let long = length-zone_head (address_after l l.blocks) l.front (free_total l.heads l.blocks) (first_free l.heads (address_after l []) l.blocks) in
    let all : length image ≡ length (head ++ blocks) = ap length has.form in
    omega arith

pub in-long : (z : ZoneState) (bytes : List ℕ) → IsIn z bytes → zone_header ≤ length bytes
in-long z bytes inside =
    let n = zone_header + total_size z.heap.map in
    let front = image-long z (take n bytes) inside.image in
    let sum = length-append (take n bytes) (drop n bytes) in
    let all : length (take n bytes ++ drop n bytes) ≡ length bytes = ap length (take-append-drop n bytes) in
    omega arith
