-- The zone that is in bytes, once its blocks are read: it is there exactly where its header is.
use Rattle.std.proofs.Common.{None, ◌≡◌, ℕ, ◌+◌, ◌-◌, ◌/◌, ◌<◌, ◌^◌, List, [], ◌∷◌, ◌++◌, length, take, drop, refl, sym, ap, subst, ◌∙◌, arith, append-nil, length-drop, take-append-drop, take_at}
use Rattle.byteorder.specs.Endian.{big_number}
use Rattle.mac_base.specs.HeadKind.{zone_header}
use Rattle.mac_base.specs.ZoneSizes.{ZoneSizes, ArePossible}
use Rattle.mac_base.proofs.Reach.{end-small}
use Rattle.raw_region.specs.Bytes.{part}
use Rattle.raw_region.specs.State.{State}
use Rattle.block_bytes.specs.Adopting.{IsZoneIn, HasZoneHead, BlocksUpTo, zone_with, ZoneRead}
use Rattle.block_bytes.specs.Layout.{RawBlock, Layout, total_of, free_total, first_free, rendered, header_bytes, address_after}
use Rattle.block_bytes.specs.Reading.{times}
use Rattle.block_bytes.specs.Starts.{marks_of, first_marked, starts_of}
use Rattle.block_bytes.specs.ZoneHead.{front_field, zone_head}
use Rattle.block_bytes.proofs.AdoptedBlocks.{settled, total-is}
use Rattle.block_bytes.proofs.Parts.{IsRead, image-read, length-header}
use Rattle.block_bytes.proofs.Rendered.{total_of-append}
use Rattle.block_bytes.proofs.Spans.{spans-none}
use Rattle.block_bytes.proofs.Starts.{unmarked, first_marked-starts}
use Rattle.block_bytes.proofs.Walking.{size_of-pos}
use Rattle.block_bytes.proofs.ZoneHeads.{front-small, front-same, head-parts}

module _ (spec : ZoneSizes) (possible : ArePossible spec) (m : State) (all : length m.bytes ≡ spec.limit) (index : List ℕ) (free : ℕ) (u : BlocksUpTo spec m.bytes index spec.size free)
    (end lowest : ℕ) (end_is : end ≡ spec.base + spec.size) (lowest_is : lowest ≡ first_marked spec.base index) where
  -- the zone
  abbrev l : Layout
  l = zone_with spec m u.blocks

  -- the index is that of its blocks
  marked : index ≡ starts_of l
  marked = let cut = length-drop spec.size m.bytes in
      u.marked ∙ ap (λ (n : ℕ). unmarked (zone_header / 4) ++ (marks_of spec.heads u.blocks ++ unmarked (n / 4))) (let e : spec.limit - spec.size ≡ length (drop spec.size m.bytes) = omega arith in e)

  -- the numbers of its header
  head-is : (n : ℕ) → zone_head end n free lowest ≡ zone_head (address_after l u.blocks) n (free_total spec.heads u.blocks) (first_free spec.heads (address_after l []) u.blocks)
  head-is n =
      let place = u.place in
      let e : end ≡ address_after l u.blocks = omega arith in
      let f : lowest ≡ first_free spec.heads (address_after l []) u.blocks = lowest_is ∙ ap (first_marked spec.base) marked ∙ first_marked-starts l u.possible
      ∙ ap (λ (k : ℕ). first_free spec.heads k u.blocks) (let g : spec.base + zone_header ≡ spec.base + zone_header + 0 = omega arith in g) in
      λ i. zone_head (e i) n (u.free_are i) (f i)

  -- where its header is, it is in the bytes
  pub zone-read : HasZoneHead m.bytes end free lowest → ZoneRead spec m index
  zone-read h =
      let place = u.place in
      let header : header_bytes l ≡ take zone_header m.bytes = sym (head-is l.front) ∙ front-same m.bytes end h.front free lowest h.head in
      record {
        blocks = u.blocks;
        zone = record {
          heads = refl;
          base = refl;
          all = all;
          image = ap (λ (xs : List ℕ). xs ++ (rendered spec.heads spec.base u.blocks ++ l.spare)) header
              ∙ ap (λ (xs : List ℕ). take zone_header m.bytes ++ xs) (sym u.bytes_are) ∙ take-append-drop zone_header m.bytes;
          ends = omega arith;
          possible = u.possible;
          unlent = u.unlent;
        };
        small = subst (λ (xs : List ℕ). big_number 4 (part xs front_field 4) < 2 ^ 32) (sym (head-parts m.bytes end h.front free lowest h.head))
            (front-small end h.front free lowest (drop zone_header m.bytes));
        marked = marked;
      }

  -- the blocks of a zone in the bytes
  blocks-same : (z : Layout) → IsZoneIn spec m.bytes z → z.blocks ≡ u.blocks
  blocks-same z zone = let f = u.first z zone in from f.0 f.1
    where
      from : (rest : List RawBlock) → z.blocks ≡ u.blocks ++ rest → z.blocks ≡ u.blocks
      from [] is = is ∙ append-nil u.blocks
      from (b ∷ bs) is =
          let sum = ap (total_of spec.heads) is in let more = total_of-append spec.heads u.blocks (b ∷ bs) in let some = size_of-pos spec.heads b in
          let total = total-is spec possible m.bytes all z zone in let place = u.place in absurd (omega arith)

  -- where it isn't, no zone is
  pub zone-none : (HasZoneHead m.bytes end free lowest → ⊥) → (z : Layout) → IsZoneIn spec m.bytes z → ⊥
  zone-none none z zone =
      let s = settled spec possible m.bytes all z zone in let w : Layout = record z { heads = spec.heads; base = spec.base } in let same = blocks-same z zone in
      none (record {
        front = z.front;
        head = ap (take zone_header) (sym s.image) ∙ take_at (header_bytes w) (rendered spec.heads spec.base z.blocks ++ z.spare) zone_header (length-header w)
            ∙ (λ i. zone_head (address_after w (same i)) z.front (free_total spec.heads (same i)) (first_free spec.heads (address_after w []) (same i))) ∙ sym (head-is z.front);
      })

-- the fields made of it stand for it
pub adopted : (spec : ZoneSizes) → ArePossible spec → (m : State) → m.lent ≡ [] → (index : List ℕ) (r : ZoneRead spec m index)
    → IsRead (record { spec = spec; memory = m; index = index; loans = 0; kept = None }) (zone_with spec m r.blocks)
adopted spec possible m unlent index r =
    let zone = r.zone in let ends = zone.ends in let end = possible.end_low_enough in let bottom = possible.base_high_enough in let top = end-small spec.heads in
    image-read (record { spec = spec; memory = m; index = index; loans = 0; kept = None }) m.name (big_number 4 (part m.bytes front_field 4)) r.blocks (drop spec.size m.bytes) refl r.small (omega arith) zone.possible (omega arith) (omega arith)
    possible.within zone.all (sym zone.image) r.marked (λ s. ap (times s) (unlent ∙ sym (spans-none spec.heads zone_header r.blocks zone.unlent))) (sym zone.unlent) (omega arith)
