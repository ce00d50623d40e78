-- Headers compared from an address on, up to the next master block.
use Rattle.std.proofs.Common.{◌≡◌, ℕ, ◌+◌, ◌-◌, ◌<◌, ◌≤◌, ◌⊎◌, inl, inr, Bool, true, false, List, [], ◌∷◌, ◌++◌, length, refl, sym, ap, subst, ◌∙◌, arith, append_assoc, append-nil, IsTrue}
use Rattle.std.specs.Prelude.{◌&&◌, not, if◌then◌else◌}
use Rattle.std.proofs.lemmas.List.Folds.{list_all-append}
use Rattle.mac_base.specs.declared.block.HeadKind.{HeadKind}
use Rattle.mac_base.specs.HeadKind.{head_size, zone_header}
use Rattle.mac_base.specs.ZoneSizes.{ArePossible}
use Rattle.raw_region.specs.Bytes.{part}
use Rattle.block_bytes.specs.declared.blocks.Blocks.TheInside.{Inside}
use Rattle.block_bytes.specs.declared.header.Role.{Role}
use Rattle.block_bytes.specs.declared.header.Role.TheVariants.{Free, Fixed, Master, Relocatable}
use Rattle.block_bytes.specs.Finding.{SplitAt}
use Rattle.block_bytes.specs.Layout.{RawBlock, Layout, address_after, image_of, size_of, total_of}
use Rattle.block_bytes.specs.Reading.{layout_of, IsLayout}
use Rattle.block_bytes.specs.Structure.{AgreeUpTo, HasHeaders, begun_before, is_master, none_master, up_to_master}
use Rattle.block_bytes.proofs.Begun.{begun-first, begun-none}
use Rattle.block_bytes.proofs.Exchanged.{length-all}
use Rattle.block_bytes.proofs.Parts.{total-ends}
use Rattle.block_bytes.proofs.ReadBlocks.{and-true}
use Rattle.block_bytes.proofs.ReadParts.{ReadAt, read-at}
use Rattle.block_bytes.proofs.Rendered.{total_of-append}
use Rattle.block_bytes.proofs.Structures.{headers-append, headers-rest}
use Rattle.block_bytes.proofs.Walking.{size_of-pos}

-- a list of blocks is split at one place where the first parts are as large
pub same_rest : (heads : HeadKind) (bs cs ds es : List RawBlock) → bs ++ cs ≡ ds ++ es → total_of heads bs ≡ total_of heads ds → cs ≡ es
same_rest heads [] cs [] es e same = e
same_rest heads [] cs (d ∷ ds) es e same = let some = size_of-pos heads d in absurd (omega arith)
same_rest heads (x ∷ bs) cs [] es e same = let some = size_of-pos heads x in absurd (omega arith)
same_rest heads (x ∷ bs) cs (d ∷ ds) es e same = let first : x ≡ d = cc in let rest : bs ++ cs ≡ ds ++ es = cc in let size = ap (size_of heads) first in
    same_rest heads bs cs ds es rest (omega arith)

-- a test that is refuted fails
not_true : (t : Bool) → not t ≡ true → t ≡ false
not_true true given = let e : false ≡ true = given in cc
not_true false given = refl

-- where some blocks are no master blocks, the first master block comes after them
up_to-passed : (passed rest : List RawBlock) → IsTrue (none_master passed) → up_to_master (passed ++ rest) ≡ passed ++ up_to_master rest
up_to-passed [] rest others = refl
up_to-passed (b ∷ bs) rest others =
    let both = and-true (not (is_master b.role)) (none_master bs) others in
    ap (λ (t : Bool). b ∷ (if t then [] else up_to_master (bs ++ rest))) (not_true (is_master b.role) both.0) ∙ ap (λ (cs : List RawBlock). b ∷ cs) (up_to-passed bs rest both.1)

-- a role that is a master block's
pub master-is : (role : Role) → is_master role ≡ true → role ≡ Master
master-is Free is = let e : false ≡ true = is in cc
master-is Fixed is = let e : false ≡ true = is in cc
master-is Master is = refl
master-is (Relocatable slot flags) is = let e : false ≡ true = is in cc

-- the headers from an address up to an offset agree, and none of them is that of a master block. Their blocks begin
-- before another address
pub record ComparedUpTo (l : Layout) (bytes : List ℕ) (from end at : ℕ) : Type 0 where
  pub start : List RawBlock
  pub passed : List RawBlock
  pub rest : List RawBlock
  pub blocks : l.blocks ≡ start ++ (passed ++ rest)
  pub first : from ≡ address_after l start
  pub place : at ≡ zone_header + total_of l.heads start + total_of l.heads passed
  pub others : IsTrue (none_master passed)
  pub agree : HasHeaders l bytes (zone_header + total_of l.heads start) passed
  pub begun : begun_before l.heads from end (passed ++ rest) ≡ passed ++ begun_before l.heads (l.base + at) end rest

-- so far none was compared
pub compared-none : (l : Layout) (bytes : List ℕ) (from end at : ℕ) → SplitAt l from → at ≡ from - l.base → ComparedUpTo l bytes from end at
compared-none l bytes from end at s there = let place = s.place in
    record {
      start = s.before;
      passed = [];
      rest = s.after;
      blocks = s.blocks;
      first = s.place;
      place = omega arith;
      others = refl;
      agree = tt;
      begun = ap (λ (n : ℕ). begun_before l.heads n end s.after) (let e : from ≡ l.base + at = omega arith in e);
    }

-- then comes a block, with its header in the fields
pub record NextAt (z : Inside) (l : Layout) (bytes : List ℕ) (from end at : ℕ) : Type 0 where
  pub compared : ComparedUpTo l bytes from end at
  pub here : RawBlock
  pub after : List RawBlock
  pub next : compared.rest ≡ here ∷ after
  pub read : ReadAt z l at here

-- below the end of the last block
pub next-at : (z : Inside) → IsLayout z → ArePossible z.spec → (l : Layout) → layout_of z ≡ l → (bytes : List ℕ) (from end at : ℕ) → ComparedUpTo l bytes from end at → at < z.spec.size → NextAt z l bytes from end at
next-at z whole small l is bytes from end at = subst (λ (m : Layout). ComparedUpTo m bytes from end at → at < z.spec.size → NextAt z m bytes from end at) is (λ r below. by_rest r.start r.passed r.rest r.blocks r.first r.place r.others r.agree r.begun below)
  where
    by_rest : (start passed rest : List RawBlock) → (layout_of z).blocks ≡ start ++ (passed ++ rest) → from ≡ address_after (layout_of z) start
        → at ≡ zone_header + total_of z.spec.heads start + total_of z.spec.heads passed → IsTrue (none_master passed)
        → HasHeaders (layout_of z) bytes (zone_header + total_of z.spec.heads start) passed
        → begun_before z.spec.heads from end (passed ++ rest) ≡ passed ++ begun_before z.spec.heads ((layout_of z).base + at) end rest → at < z.spec.size → NextAt z (layout_of z) bytes from end at
    by_rest start passed [] blocks first place others agree begun below =
        let sum = ap (total_of z.spec.heads) blocks in let a = total_of-append z.spec.heads start (passed ++ []) in let b = total_of-append z.spec.heads passed [] in let ends = total-ends z whole in absurd (omega arith)
    by_rest start passed (b ∷ bs) blocks first place others agree begun below =
        let before = start ++ passed in let e : (layout_of z).blocks ≡ before ++ b ∷ bs = blocks ∙ sym (append_assoc start passed (b ∷ bs)) in
        let sum = total_of-append z.spec.heads start passed in let there : at ≡ zone_header + total_of z.spec.heads before = omega arith in
        record {
          compared = record { start = start; passed = passed; rest = b ∷ bs; blocks = blocks; first = first; place = place; others = others; agree = agree; begun = begun };
          here = b;
          after = bs;
          next = refl;
          read = read-at z whole before b bs e small at there;
        }

-- as many bytes as the zone's are as many as those of the memory
pub enough-bytes : (z : Inside) → IsLayout z → (l : Layout) → layout_of z ≡ l → (bytes : List ℕ) → length bytes ≡ length (image_of l) → length bytes ≡ z.spec.limit
enough-bytes z whole l is bytes long = long ∙ ap (λ (m : Layout). length (image_of m)) (sym is) ∙ length-all z whole

module _ (l : Layout) (bytes : List ℕ) (from end at : ℕ) (r : ComparedUpTo l bytes from end at) (s : SplitAt l from) where
  -- the blocks from the address on
  pub after-is : s.after ≡ r.passed ++ r.rest
  after-is = let p = s.place in let q = r.first in same_rest l.heads s.before s.after r.start (r.passed ++ r.rest) (sym s.blocks ∙ r.blocks) (omega arith)

  -- their offset
  pub offset-is : zone_header + total_of l.heads r.start ≡ from - l.base
  offset-is = let q = r.first in omega arith

  -- those of them that begin before the other address
  pub begun-is : begun_before l.heads from end s.after ≡ r.passed ++ begun_before l.heads (l.base + at) end r.rest
  begun-is = ap (begun_before l.heads from end) after-is ∙ r.begun

  -- all of these were compared where the zone ends, or the other address is reached
  pub compared-all : (address_after l l.blocks ≤ l.base + at) ⊎ (end ≤ l.base + at) → IsTrue (none_master (begun_before l.heads from end s.after)) × HasHeaders l bytes (from - l.base) (begun_before l.heads from end s.after)
  compared-all ends =
      subst (λ (bs : List RawBlock). IsTrue (none_master bs) × HasHeaders l bytes (from - l.base) bs)
      (sym (begun-is ∙ ap (λ (bs : List RawBlock). r.passed ++ bs) (elim ends [ inl all ↦ ap (begun_before l.heads (l.base + at) end) (none r.rest r.blocks all) | inr high ↦ begun-none l.heads end (l.base + at) r.rest high ]) ∙ append-nil r.passed))
      (r.others, subst (λ (n : ℕ). HasHeaders l bytes n r.passed) offset-is r.agree)
    where
      none : (rest : List RawBlock) → l.blocks ≡ r.start ++ (r.passed ++ rest) → address_after l l.blocks ≤ l.base + at → rest ≡ []
      none [] blocks all = refl
      none (b ∷ bs) blocks all =
          let sum = ap (total_of l.heads) blocks in let first = total_of-append l.heads r.start (r.passed ++ b ∷ bs) in let second = total_of-append l.heads r.passed (b ∷ bs) in
          let some = size_of-pos l.heads b in let place = r.place in absurd (omega arith)

module _ (z : Inside) (l : Layout) (bytes : List ℕ) (from end at : ℕ) (n : NextAt z l bytes from end at) where
  abbrev r : ComparedUpTo l bytes from end at
  r = n.compared

  -- its header, where it agrees
  agree-here : part z.memory.bytes at (head_size z.spec.heads) ≡ part bytes at (head_size z.spec.heads) → HasHeaders l bytes (zone_header + total_of l.heads r.start) (r.passed ++ n.here ∷ [])
  agree-here same = headers-append l bytes (zone_header + total_of l.heads r.start) r.passed (n.here ∷ []) r.agree
      ((λ i. part bytes (sym r.place i) (sym n.read.same i)) ∙ sym same ∙ n.read.head, tt)

  -- where it begins before the other address
  module _ (low : l.base + at < end) where
    -- those that do are the compared ones, this one, and those after it
    begun-here : begun_before l.heads from end (r.passed ++ n.here ∷ n.after) ≡ r.passed ++ n.here ∷ begun_before l.heads (l.base + at + size_of l.heads n.here) end n.after
    begun-here =
        ap (λ (bs : List RawBlock). begun_before l.heads from end (r.passed ++ bs)) (sym n.next) ∙ r.begun ∙ ap (λ (bs : List RawBlock). r.passed ++ begun_before l.heads (l.base + at) end bs) n.next
        ∙ ap (λ (bs : List RawBlock). r.passed ++ bs) (begun-first l.heads end (l.base + at) n.here n.after low)

    -- the header agrees, and isn't that of a master block
    pub compared-more : part z.memory.bytes at (head_size z.spec.heads) ≡ part bytes at (head_size z.spec.heads) → is_master n.here.role ≡ false → (next : ℕ) → next ≡ at + size_of l.heads n.here
        → ComparedUpTo l bytes from end next
    compared-more same other next there = let place = r.place in let sum = total_of-append l.heads r.passed (n.here ∷ []) in record {
      start = r.start;
      passed = r.passed ++ n.here ∷ [];
      rest = n.after;
      blocks = r.blocks ∙ ap (λ (bs : List RawBlock). r.start ++ (r.passed ++ bs)) n.next ∙ ap (λ (bs : List RawBlock). r.start ++ bs) (sym (append_assoc r.passed (n.here ∷ []) n.after));
      first = r.first;
      place = omega arith;
      others = list_all-append (λ (b : RawBlock). not (is_master b.role)) r.passed (n.here ∷ []) ∙ ap (λ (t : Bool). t && (not (is_master n.here.role) && true)) r.others ∙ ap (λ (t : Bool). not t && true) other;
      agree = agree-here same;
      begun = ap (begun_before l.heads from end) (append_assoc r.passed (n.here ∷ []) n.after) ∙ begun-here
          ∙ ap (λ (k : ℕ). r.passed ++ n.here ∷ begun_before l.heads k end n.after) (let e : l.base + at + size_of l.heads n.here ≡ l.base + next = omega arith in e)
          ∙ sym (append_assoc r.passed (n.here ∷ []) (begun_before l.heads (l.base + next) end n.after));
    }

    module _ (s : SplitAt l from) where
      -- the blocks after it that begin before the other address
      abbrev later : List RawBlock
      later = begun_before l.heads (l.base + at + size_of l.heads n.here) end n.after

      -- the blocks from the address on that do
      here-is : begun_before l.heads from end s.after ≡ r.passed ++ n.here ∷ later
      here-is = ap (begun_before l.heads from end) (after-is l bytes from end at r s ∙ ap (λ (bs : List RawBlock). r.passed ++ bs) n.next) ∙ begun-here

      -- the header agrees, and is that of a master block
      pub agree-up_to : part z.memory.bytes at (head_size z.spec.heads) ≡ part bytes at (head_size z.spec.heads) → is_master n.here.role ≡ true → (place : ℕ) → place ≡ l.base + at
          → AgreeUpTo l bytes (from - l.base) (begun_before l.heads from end s.after) place
      agree-up_to same is place there = let offset = offset-is l bytes from end at r s in let p = r.place in record {
        passed = r.passed;
        here = n.here;
        after = later;
        blocks = here-is;
        others = r.others;
        master = master-is n.here.role is;
        agree = subst (λ (k : ℕ). HasHeaders l bytes k (r.passed ++ n.here ∷ [])) offset (agree-here same);
        place = omega arith;
      }

      -- it agrees where those up to the next master block do
      pub same-here : HasHeaders l bytes (from - l.base) (up_to_master (begun_before l.heads from end s.after)) → part z.memory.bytes at (head_size z.spec.heads) ≡ part bytes at (head_size z.spec.heads)
      same-here headers =
          let bs = r.passed ++ up_to_master (n.here ∷ later) in let offset = offset-is l bytes from end at r s in
          let all : HasHeaders l bytes (zone_header + total_of l.heads r.start) bs =
          subst (λ (k : ℕ). HasHeaders l bytes k bs) (sym offset)
          (subst (HasHeaders l bytes (from - l.base)) (ap up_to_master here-is ∙ up_to-passed r.passed (n.here ∷ later) r.others) headers) in
          let here = headers-rest l bytes (zone_header + total_of l.heads r.start) r.passed (up_to_master (n.here ∷ later)) all in
          n.read.head ∙ sym here.0 ∙ (λ i. part bytes (sym r.place i) (sym n.read.same i))
