-- Bytes that begin as others and go on as a zone's own.
use Rattle.std.proofs.Common.{◌≡◌, ℕ, zero, suc, ◌+◌, ◌<◌, ◌≤◌, true, List, [], ◌∷◌, ◌++◌, length, take, drop, inr, refl, ap, sym, ◌∙◌, subst, arith, length-append, length-drop, length-take-le, append_assoc, take_at, drop_at, get_or-take, take-append-drop}
use Rattle.std.specs.Prelude.{slice_index}
use Rattle.std.specs.List.{list_all}
use Rattle.std.proofs.lemmas.List.{get_or_append_left, take_more}
use Rattle.mac_base.specs.HeadKind.{zone_header}
use Rattle.raw_region.specs.Bytes.{part, written, length-written}
use Rattle.raw_region.proofs.Indexes.{index-written-apart}
use Rattle.raw_region.proofs.Laws.{written-append}
use Rattle.raw_region.proofs.Lists.{rewritten, written_is}
use Rattle.block_bytes.specs.Layout as raw
use Rattle.block_bytes.specs.Layout.{Layout, header_bytes, image_of, is_possible, rendered, zone_bytes}
use Rattle.block_bytes.proofs.Parts.{length-header}
use Rattle.block_bytes.proofs.Rendered.{length-rendered}
use Rattle.zone_records.specs.declared.structure.Part.{Part}
use Rattle.zone_records.specs.Faults.{IsFirstFault, IsWrong, KeepsOwn}
use Rattle.zone_records.specs.Parts.{IsInPart}
use Rattle.zone_records.specs.Reading.{AreSound, records_in}
use Rattle.zone_records.specs.Records.{ZoneRecords, total_of}
use Rattle.zone_records.specs.Structure.{HasStructure, IsIn}
use Rattle.zone_records.proofs.Apart.{total-read}
use Rattle.zone_records.proofs.MasterBlocks.{image-long}
use Rattle.zone_records.proofs.OwnBytes.{own-records}

-- as many bytes begin as others, and go on as a zone's own up to the end of its last block
abbrev pub front : List ℕ → List ℕ → ℕ → List ℕ
front own bytes k = written (own ++ drop (length own) bytes) 0 (take k bytes)

-- how many bytes a zone's blocks have with its header
pub own-long : (l : Layout) → length (zone_bytes l) ≡ zone_header + raw.total_of l.heads l.blocks
own-long l = let a = length-append (header_bytes l) (rendered l.heads l.base l.blocks) in let b = length-header l in let c = length-rendered l.heads l.base l.blocks in omega arith

-- a byte of them is one of the zone's
pub own-byte : (l : Layout) (k : ℕ) → k < length (zone_bytes l) → slice_index (image_of l) k ≡ slice_index (zone_bytes l) k
own-byte l k inside =
    ap (λ xs. slice_index xs k) (sym (append_assoc (header_bytes l) (rendered l.heads l.base l.blocks) l.spare)) ∙ get_or_append_left (zone_bytes l) l.spare 0 k inside

module _ (own bytes : List ℕ) (fits : length own ≤ length bytes) where
  whole-long : length (own ++ drop (length own) bytes) ≡ length bytes
  whole-long = let a = length-append own (drop (length own) bytes) in let b = length-drop (length own) bytes in omega arith

  front-long : (k : ℕ) → length (front own bytes k) ≡ length bytes
  front-long k = length-written (own ++ drop (length own) bytes) 0 (take k bytes) ∙ whole-long

  -- at the end they are the others
  pub front-end : (k : ℕ) → k ≡ length own → front own bytes k ≡ bytes
  front-end k end =
      let n = length-take-le k bytes (omega arith) in
      let all = whole-long in
      written_is (own ++ drop (length own) bytes) 0 (take k bytes) (omega arith)
      ∙ ap (λ xs. take k bytes ++ xs) (ap (λ m. drop m (own ++ drop (length own) bytes)) (n ∙ end) ∙ drop_at own (drop (length own) bytes) (length own) refl ∙ ap (λ m. drop m bytes) (sym end))
      ∙ take-append-drop k bytes

  module _ (k : ℕ) (inside : k < length own) where
    taken : length (take k bytes) ≡ k
    taken = length-take-le k bytes (omega arith)

    -- one more byte of the others
    pub front-more : front own bytes (k + 1) ≡ written (front own bytes k) k (slice_index bytes k ∷ [])
    front-more =
        let all = own ++ drop (length own) bytes in
        ap (written all 0) (take_more bytes k 0 (omega arith)) ∙ sym (written-append all 0 (take k bytes) (slice_index bytes k ∷ []))
        ∙ ap (λ m. written (front own bytes k) m (slice_index bytes k ∷ [])) (let n = taken in let e : 0 + length (take k bytes) ≡ k = omega arith in e)

    -- there is the zone's own byte yet
    pub front-own : slice_index (front own bytes k) k ≡ slice_index own k
    front-own =
        let all = own ++ drop (length own) bytes in
        index-written-apart all 0 (take k bytes) k (inr (let n = taken in omega arith)) ∙ get_or_append_left own (drop (length own) bytes) 0 k inside

    -- and before it the others
    pub front-same : take k (front own bytes k) ≡ take k bytes
    front-same =
        let all = own ++ drop (length own) bytes in
        let n = taken in
        let long = whole-long in
        ap (take k) (written_is all 0 (take k bytes) (omega arith)) ∙ take_at (take k bytes) (drop (length (take k bytes)) all) k n

module _ (l : Layout) (sound : AreSound l) (possible : list_all (is_possible l.heads) l.blocks ≡ true) (own bytes : List ℕ) (is : own ≡ zone_bytes l) (whole : length bytes ≡ length (image_of l)) where
  abbrev z : ZoneRecords
  z = records_in l

  pub fits : length own ≤ length bytes
  fits = let a = ap length is ∙ own-long l in let b = image-long l in omega arith

  -- the zone's own bytes have its structure
  pub front-begins : HasStructure z (front own bytes 0)
  front-begins =
      let all = own ++ drop (length own) bytes in
      let size : zone_header + total_of z.blocks ≡ length own = ap (λ n. zone_header + n) (total-read l.heads l.base l.blocks) ∙ sym (ap length is ∙ own-long l) in
      let inside : IsIn z all = record {
        all = whole-long own bytes fits ∙ whole ∙ image-long l;
        image = record { layout = l; form = take_at own (drop (length own) bytes) (zone_header + total_of z.blocks) (sym size) ∙ is; possible = possible; words = sound.words; same = refl };
      } in
      let has : HasStructure z all = subst (λ y. IsIn y all) (sym (own-records z all inside)) inside in
      subst (HasStructure z) (sym (written-none all)) has
    where
      written-none : (xs : List ℕ) → written xs 0 [] ≡ xs
      written-none [] = refl
      written-none (x ∷ xs) = refl

  pub front-goes-on : (k : ℕ) → k < length own → HasStructure z (front own bytes k) → KeepsOwn z k (slice_index own k) (slice_index bytes k) → HasStructure z (front own bytes (k + 1))
  front-goes-on k inside has keeps = subst (HasStructure z) (sym (front-more own bytes fits k inside)) (keeps (front own bytes k) has (front-own own bytes fits k inside))

  pub front-ends : (k : ℕ) → k ≡ length own → HasStructure z (front own bytes k) → HasStructure z bytes
  front-ends k end has = subst (HasStructure z) (front-end own bytes fits k end) has

  pub front-wrong : (k : ℕ) (p : Part) → k < length own → HasStructure z (front own bytes k) → IsInPart z k p → IsWrong z k (slice_index bytes k) → IsFirstFault z bytes k p
  front-wrong k p inside has there wrong = record {
    inside = there;
    right = front own bytes k;
    structure = has;
    same = front-same own bytes fits k inside;
    wrong = λ others theirs same. wrong others theirs (sym (get_or-take (k + 1) others k 0 (omega arith)) ∙ ap (λ xs. slice_index xs k) same ∙ get_or-take (k + 1) bytes k 0 (omega arith));
  }

-- a part of one byte
one_byte : (xs : List ℕ) (k : ℕ) → k < length xs → part xs k 1 ≡ slice_index xs k ∷ []
one_byte [] k inside = absurd (omega arith)
one_byte (x ∷ xs) zero inside = refl
one_byte (x ∷ xs) (suc k) inside = one_byte xs k (omega arith)

-- where the byte is the zone's own, all stays
pub keeps-equal : (z : ZoneRecords) (k own byte : ℕ) → k < z.shape.limit → own ≡ byte → KeepsOwn z k own byte
keeps-equal z k own byte inside is right has there =
    let all = has.all in
    let one : part right k 1 ≡ byte ∷ [] = one_byte right k (omega arith) ∙ ap (λ b. b ∷ []) (there ∙ is) in
    subst (HasStructure z) (sym (ap (written right k) (sym one) ∙ rewritten right k 1 (omega arith))) has
