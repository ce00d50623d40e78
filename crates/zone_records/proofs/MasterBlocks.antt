-- Master blocks among the blocks of a zone.
use Rattle.std.proofs.Common.{◌≡◌, ℕ, ◌+◌, ◌-◌, ◌<◌, ◌≤◌, true, false, not, List, [], ◌∷◌, ◌++◌, length, refl, ap, sym, ◌∙◌, subst, arith, append_assoc, length-append}
use Rattle.std.proofs.lemmas.Bool.{and_parts}
use Rattle.mac_base.specs.declared.block.HeadKind.{HeadKind}
use Rattle.mac_base.specs.HeadKind.{head_size, zone_header, slot_count}
use Rattle.block_bytes.specs.declared.header.Role.TheVariants as role
use Rattle.block_bytes.specs.Layout.{RawBlock, Layout, BlockAt, UnlentAt, has_owner, header_bytes, image_of, rendered, size_of, total_of, address_after}
use Rattle.block_bytes.specs.declared.structure.Compared.{Compared}
use Rattle.block_bytes.specs.declared.structure.Compared.TheVariants.{Differ, NextMaster, AllAgree}
use Rattle.block_bytes.specs.Finding.{SplitAt}
use Rattle.block_bytes.specs.Structure.{EachMaster, HasHeaders, AgreeUpTo, Compares, is_master, none_master}
use Rattle.block_bytes.proofs.Parts.{length-header}
use Rattle.block_bytes.proofs.Rendered.{length-rendered}
use Rattle.block_bytes.proofs.Same.{same-block}
use Rattle.block_bytes.proofs.ReadBlocks.{head_size-positive}
use Rattle.block_bytes.proofs.Structures.{headers-rest, headers-up_to}
use Rattle.block_bytes.proofs.WrittenOwn.{each-join}
use Rattle.zone_records.specs.Reading.{AreSound, is_sound}
use Rattle.zone_records.specs.Word.{slots_in, words_of}
use Rattle.zone_records.proofs.Apart.{total-append}
use Rattle.zone_records.proofs.Held.{sound-one, range-one, words-at}
use Rattle.zone_records.proofs.Ranked.{within}
use Rattle.zone_records.proofs.Looking.{not-lent, sound-parts}
use Rattle.zone_records.proofs.Slots.{master-long}

module _ (P : ℕ → List ℕ → Type 0) (heads : HeadKind) where
  -- the same of their master blocks
  pub each-first : (at : ℕ) (xs ys : List RawBlock) → EachMaster P heads at (xs ++ ys) → EachMaster P heads at xs
  each-first at [] ys all = tt
  each-first at (x ∷ xs) ys all = (all.0, each-first (at + size_of heads x) xs ys all.1)

  pub each-rest : (at : ℕ) (xs ys : List RawBlock) → EachMaster P heads at (xs ++ ys) → EachMaster P heads (at + total_of heads xs) ys
  each-rest at [] ys all = subst (λ n. EachMaster P heads n ys) (let e : at ≡ at + 0 = omega arith in e) all
  each-rest at (x ∷ xs) ys all =
      subst (λ n. EachMaster P heads n ys) (let e : at + size_of heads x + total_of heads xs ≡ at + (size_of heads x + total_of heads xs) = omega arith in e) (each-rest (at + size_of heads x) xs ys all.1)

  -- where none is one, it holds
  pub each-none : (at : ℕ) (bs : List RawBlock) → none_master bs ≡ true → EachMaster P heads at bs
  each-none at [] none = tt
  each-none at (b ∷ bs) none =
      let parts = and_parts (not (is_master b.role)) (none_master bs) none in
      (λ is. absurd (let no : false ≡ true = ap (λ r. not (is_master r)) (sym is) ∙ parts.0 in cc no), each-none (at + size_of heads b) bs parts.1)

  -- what follows from it holds of them too
  pub each-map : (Q : ℕ → List ℕ → Type 0) → ((at : ℕ) (contents : List ℕ) → P at contents → Q at contents) → (at : ℕ) (bs : List RawBlock) → EachMaster P heads at bs → EachMaster Q heads at bs
  each-map Q f at [] all = tt
  each-map Q f at (b ∷ bs) all = (λ is. f (at + head_size heads) b.contents (all.0 is), each-map Q f (at + size_of heads b) bs all.1)

  -- it holds of one by its place
  pub each-one : (at : ℕ) (xs : List RawBlock) (b : RawBlock) (ys : List RawBlock) → EachMaster P heads at (xs ++ b ∷ ys) → b.role ≡ role.Master → P (at + total_of heads xs + head_size heads) b.contents
  each-one at xs b ys all is = (each-rest at xs (b ∷ ys) all).0 is

  -- and of each where it does of each by its place
  pub each-made : (at : ℕ) (bs : List RawBlock) → ((xs : List RawBlock) (b : RawBlock) (ys : List RawBlock) → bs ≡ xs ++ b ∷ ys → b.role ≡ role.Master → P (at + total_of heads xs + head_size heads) b.contents) → EachMaster P heads at bs
  each-made at [] all = tt
  each-made at (b ∷ bs) all = (
    λ is. subst (λ n. P n b.contents) (let e : at + 0 + head_size heads ≡ at + head_size heads = omega arith in e) (all [] b bs refl is),
    each-made (at + size_of heads b) bs (λ xs c ys same is.
        subst (λ n. P n c.contents) (let e : at + (size_of heads b + total_of heads xs) + head_size heads ≡ at + size_of heads b + total_of heads xs + head_size heads = omega arith in e)
        (all (b ∷ xs) c ys (ap (λ (bs : List RawBlock). b ∷ bs) same) is)),
  )

-- how many bytes a zone has
pub image-long : (l : Layout) → length (image_of l) ≡ zone_header + total_of l.heads l.blocks + length l.spare
image-long l =
    let rest = rendered l.heads l.base l.blocks in
    omega (arith, length-append (header_bytes l) (rest ++ l.spare), length-append rest l.spare, length-header l, length-rendered l.heads l.base l.blocks)

module _ (l : Layout) (sound : AreSound l) (at : ℕ) (b : BlockAt l at) where
  here_sound : is_sound l.heads l.base b.here ≡ true
  here_sound = sound-one l b.before b.here b.after sound b.blocks

  -- a block ends below the highest addresses, and within the zone's bytes
  pub block-end : (at + size_of l.heads b.here ≤ 0xFFFF_FFFF) × (at - l.base + size_of l.heads b.here ≤ length (image_of l))
  block-end =
      let high = range-one l b.before b.here b.after sound b.blocks in
      let place = b.place in
      let inside = (within l at b).1 in
      let long = image-long l in
      (omega arith, omega arith)

  module _ (master : b.here.role ≡ role.Master) where
    pub contents-long : length b.here.contents ≡ 256
    contents-long = master-long l.heads l.base b.here here_sound master

    pub contents-words : b.here.contents ≡ words_of l.heads (slots_in l.heads slot_count b.here.contents)
    contents-words = words-at l b.before b.here b.after sound b.blocks master

    -- it isn't lent
    pub contents-unlent : UnlentAt l at
    contents-unlent = record { block = b; unlent = not-lent b.here.lent b.here.role (ap has_owner master) (sound-parts l.heads l.base b.here here_sound).owned }

-- a master block is one by its address
pub master-there : (l : Layout) (at : ℕ) (b : BlockAt l at) → b.here.role ≡ role.Master → (c : BlockAt l at) → c.here.role ≡ role.Master
master-there l at b master c = ap (λ (b : RawBlock). b.role) (same-block l at c b) ∙ master

-- what holds of contents at one place holds of them at the same
pub at-same : (P : HeadKind → ℕ → List ℕ → Type 0) (heads others : HeadKind) (at start : ℕ) (contents same : List ℕ) → heads ≡ others → at ≡ start → contents ≡ same → P heads at contents → P others start same
at-same P heads others at start contents same heads_is place is holds =
    subst (λ heads. P heads start same) heads_is (subst (λ at. P heads at same) place (subst (λ contents. P heads at contents) is holds))

-- what is known of a master block once its header and its contents are read
pub record IsOpen (l : Layout) (at : ℕ) (b : BlockAt l at) (heads : HeadKind) (base head : ℕ) (ours : List ℕ) : Type 0 where
  pub heads_is : heads ≡ l.heads
  pub base_is : base ≡ l.base
  pub head_is : head ≡ head_size l.heads
  pub same : ours ≡ b.here.contents
  pub long : length ours ≡ 256
  pub right : ours ≡ words_of heads (slots_in heads slot_count ours)
  pub above : l.base ≤ at
  pub low : at + head + 256 ≤ 0xFFFF_FFFF
  pub inside : at - base + head + 256 ≤ length (image_of l)

pub is-open : (l : Layout) → AreSound l → (at : ℕ) (b : BlockAt l at) → b.here.role ≡ role.Master → (heads : HeadKind) (base head : ℕ) (ours : List ℕ) → heads ≡ l.heads → base ≡ l.base → head ≡ head_size l.heads → ours ≡ b.here.contents
    → IsOpen l at b heads base head ours
is-open l sound at b master heads base head ours heads_is base_is head_is same =
    let ends = block-end l sound at b in let all = contents-long l sound at b master in let place = b.place in
    record {
      heads_is = heads_is;
      base_is = base_is;
      head_is = head_is;
      same = same;
      long = ap length same ∙ all;
      right = same ∙ contents-words l sound at b master ∙ (λ i. words_of (sym heads_is i) (slots_in (sym heads_is i) 64 (sym same i)));
      above = omega arith;
      low = omega (arith, ends.0);
      inside = omega (arith, ends.1);
    }

-- what holds of the contents in the zone holds of what was read
module _ {l : Layout} {at : ℕ} {b : BlockAt l at} {heads : HeadKind} {base head : ℕ} {ours : List ℕ} (o : IsOpen l at b heads base head ours) (P : HeadKind → ℕ → List ℕ → Type 0) (first : ℕ)
    (place : first ≡ at - l.base + head_size l.heads) where
  pub open-from : P l.heads (at - l.base + head_size l.heads) b.here.contents → P heads first ours
  open-from = at-same P l.heads heads (at - l.base + head_size l.heads) first b.here.contents ours (sym o.heads_is) (sym place) (sym o.same)

  pub open-to : P heads first ours → P l.heads (at - l.base + head_size l.heads) b.here.contents
  open-to = at-same P heads l.heads first (at - l.base + head_size l.heads) ours b.here.contents o.heads_is place o.same

module _ (l : Layout) (bytes : List ℕ) where
  module _ (from : ℕ) (split : SplitAt l from) where
    abbrev at_split : ℕ
    at_split = zone_header + total_of l.heads split.before

    pub from-is : from - l.base ≡ at_split
    from-is = let place = split.place in omega arith

    module _ (at : ℕ) (next : AgreeUpTo l bytes (from - l.base) split.after at) where
      abbrev upto : List RawBlock
      upto = next.passed ++ next.here ∷ []

      pub all_blocks : l.blocks ≡ split.before ++ (upto ++ next.after)
      all_blocks = split.blocks ∙ ap (λ (bs : List RawBlock). split.before ++ bs) (next.blocks ∙ sym (append_assoc next.passed (next.here ∷ []) next.after))

      -- the next master block
      abbrev pub next_block : BlockAt l at
      next_block = record {
        before = split.before ++ next.passed;
        here = next.here;
        after = next.after;
        blocks = split.blocks ∙ ap (λ (bs : List RawBlock). split.before ++ bs) next.blocks ∙ sym (append_assoc split.before next.passed (next.here ∷ next.after));
        place = (let total = total-append l.heads split.before next.passed in let first = from-is in let place = next.place in omega arith);
      }

      -- it ends after the address, and within the zone
      pub next-end : (from < at + size_of l.heads next.here) × (at + size_of l.heads next.here ≤ address_after l l.blocks)
      next-end = let first = from-is in let place = next.place in let there = split.place in let some = head_size-positive l.heads in let inside = (within l at next_block).1 in (omega arith, omega arith)

      -- the blocks after it
      abbrev pub next_split : (end : ℕ) → end ≡ at + size_of l.heads next.here → SplitAt l end
      next_split end is = record {
        before = split.before ++ upto;
        after = next.after;
        blocks = all_blocks ∙ sym (append_assoc split.before upto next.after);
        place = (let total = total-append l.heads split.before upto in let own = total-append l.heads next.passed (next.here ∷ []) in let first = from-is in let place = next.place in omega arith);
      }

-- no master block comes where headers agree and the next isn't found
pub none-next : (l : Layout) (bytes : List ℕ) (offset : ℕ) (bs : List RawBlock) (r : Compared) → Compares l bytes offset bs r → ((at : ℕ) → r ≡ NextMaster at → ⊥) → HasHeaders l bytes offset bs → none_master bs ≡ true
none-next l bytes offset bs Differ said other headers = absurd (said (headers-up_to l bytes offset bs headers))
none-next l bytes offset bs (NextMaster at) said other headers = absurd (other at refl)
none-next l bytes offset bs AllAgree said other headers = said.0

-- the headers from an address on
pub headers-from : (l : Layout) (bytes : List ℕ) (from : ℕ) (split : SplitAt l from) → HasHeaders l bytes zone_header l.blocks → HasHeaders l bytes (from - l.base) split.after
headers-from l bytes from split headers =
    subst (λ n. HasHeaders l bytes n split.after) (sym (from-is l bytes from split)) (headers-rest l bytes zone_header split.before split.after (subst (HasHeaders l bytes zone_header) split.blocks headers))

-- something holds of all master blocks before an address
pub record Done (l : Layout) (P : ℕ → List ℕ → Type 0) (from : ℕ) : Type 0 where
  pub split : SplitAt l from
  pub each : EachMaster P l.heads zone_header split.before

module _ (l : Layout) (bytes : List ℕ) (P : ℕ → List ℕ → Type 0) (from : ℕ) (done : Done l P from) where
  -- it holds of all where no more come
  pub done-all : none_master done.split.after ≡ true → EachMaster P l.heads zone_header l.blocks
  done-all none =
      let split = done.split in
      subst (EachMaster P l.heads zone_header) (sym split.blocks) (each-join P l.heads zone_header split.before split.after done.each (each-none P l.heads (zone_header + total_of l.heads split.before) split.after none))

  -- and of one more
  pub done-more : (at end : ℕ) (next : AgreeUpTo l bytes (from - l.base) done.split.after at) → end ≡ at + size_of l.heads next.here → P (at - l.base + head_size l.heads) next.here.contents → Done l P end
  done-more at end next is holds =
      let split = done.split in
      let start = at_split l bytes from split in
      let place : at - l.base + head_size l.heads ≡ start + total_of l.heads next.passed + head_size l.heads = (let e = from-is l bytes from split in let p = next.place in omega arith) in
      record {
        split = next_split l bytes from split at next end is;
        each = each-join P l.heads zone_header split.before (upto l bytes from split at next) done.each
            (each-join P l.heads start next.passed (next.here ∷ []) (each-none P l.heads start next.passed next.others) (λ _. subst (λ n. P n next.here.contents) place holds, tt));
      }
