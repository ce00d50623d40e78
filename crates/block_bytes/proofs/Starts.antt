-- Laws of the index: what it is where a block is another of its size or two, and what one number of it says.
use Rattle.std.proofs.Common.{◌≡◌, ℕ, zero, suc, ◌+◌, ◌-◌, ◌*◌, ◌/◌, ◌%◌, ◌<◌, ◌≤◌, Bool, true, false, List, [], ◌∷◌, ◌++◌, length, replicate, slice_index, refl, sym, ap, ◌∙◌, ◌⊎◌, ⊎_elim, arith, append_assoc, length-append, IsTrue}
use Rattle.std.specs.Prelude.{if◌then◌else◌, not, ◌||◌, nat_lt}
use Rattle.std.specs.List.{list_all}
use Rattle.std.proofs.Math.ListN.{set}
use Rattle.std.proofs.lemmas.Bool.{cases_lt}
use Rattle.std.proofs.lemmas.Bool.Decides.{nat_tests}
use Rattle.std.proofs.lemmas.List.{get_or_append_left, get_or-append_right, length-replicate, replicate-append-replicate, set_at}
use Rattle.std.proofs.lemmas.List.Folds.{list_all-append}
use Rattle.std.proofs.Math.Seq.{get_or-append_seam}
use Rattle.mac_base.specs.declared.block.HeadKind.{HeadKind}
use Rattle.mac_base.specs.HeadKind.{zone_header}
use Rattle.block_bytes.specs.declared.header.Role.{Role}
use Rattle.block_bytes.specs.declared.header.Role.TheVariants.{Free, Fixed, Master, Relocatable}
use Rattle.block_bytes.specs.Layout.{RawBlock, Layout, BlockAt, is_free, has_owner, size_of, total_of, first_free, is_possible, with_blocks}
use Rattle.block_bytes.specs.Starts.{lent_mark, mark_of, marks_of, first_marked, starts_of}
use Rattle.block_bytes.proofs.Rendered.{total_of-append}
use Rattle.block_bytes.proofs.ReadBlocks.{and-true, IsPossible, IsPossible-from, smallest-block, head_size-positive}

-- so many marks of none
abbrev pub unmarked : ℕ → List ℕ
unmarked n = replicate n 0

-- as many as were asked for
pub length-unmarked : (n : ℕ) → length (unmarked n) ≡ n
length-unmarked n = length-replicate {A = ℕ} n 0

-- none of them is above 0
pub unmarked-at : (n k : ℕ) → slice_index (unmarked n) k ≡ 0
unmarked-at zero k = refl
unmarked-at (suc n) zero = refl
unmarked-at (suc n) (suc k) = unmarked-at n k

-- a block's mark is above 0
pub mark-positive : (heads : HeadKind) (b : RawBlock) → 0 < mark_of heads b
mark-positive heads b = either b.lent (is_free b.role)
  where
    either : (lent free : Bool) → 0 < (if lent then 2 else (if free then 3 else 1))
    either true free = omega arith
    either false true = omega arith
    either false false = omega arith

-- it is above that of a lent block where the block is free
pub mark-free : (heads : HeadKind) (b : RawBlock) → IsPossible heads b → nat_lt lent_mark (mark_of heads b) ≡ is_free b.role
mark-free heads b p = either b.lent b.role p.lendable
  where
    either : (lent : Bool) (role : Role) → IsTrue (not lent || has_owner role) → nat_lt 2 (if lent then 2 else (if is_free role then 3 else 1)) ≡ is_free role
    either true Free owned = let no : false ≡ true = owned in cc
    either true Fixed owned = refl
    either true Master owned = refl
    either true (Relocatable slot flags) owned = refl
    either false Free owned = refl
    either false Fixed owned = refl
    either false Master owned = refl
    either false (Relocatable slot flags) owned = refl

-- a block whose mark is 3 is free
pub large-free : (lent : Bool) (role : Role) → 3 ≤ (if lent then 2 else (if is_free role then 3 else 1)) → role ≡ Free
large-free true role large = absurd (omega arith)
large-free false Free large = refl
large-free false Fixed large = absurd (omega arith)
large-free false Master large = absurd (omega arith)
large-free false (Relocatable slot flags) large = absurd (omega arith)

-- the marks of two lists of blocks, one after the other
pub marks_of-append : (heads : HeadKind) (xs ys : List RawBlock) → marks_of heads (xs ++ ys) ≡ marks_of heads xs ++ marks_of heads ys
marks_of-append heads [] ys = refl
marks_of-append heads (b ∷ bs) ys = ap (λ (l : List ℕ). mark_of heads b ∷ (unmarked (size_of heads b / 4 - 1) ++ l)) (marks_of-append heads bs ys) ∙ simp append_assoc

-- blocks have a mark for each four bytes
pub length-marks_of : (heads : HeadKind) (bs : List RawBlock) → IsTrue (list_all (is_possible heads) bs) → 4 * length (marks_of heads bs) ≡ total_of heads bs
length-marks_of heads [] possible = refl
length-marks_of heads (b ∷ bs) possible =
    let both = and-true (is_possible heads b) (list_all (is_possible heads) bs) possible in let p = IsPossible-from heads b both.0 in
    let more = length-marks_of heads bs both.1 in let some = smallest-block heads in
    let sum = length-append (unmarked (size_of heads b / 4 - 1)) (marks_of heads bs) in let none = length-unmarked (size_of heads b / 4 - 1) in
    let even = p.even in let large = p.large in omega arith

-- the marks of blocks, one of which is another of the same size and with the same mark
pub marks_of-same : (heads : HeadKind) (before : List RawBlock) (b c : RawBlock) (after : List RawBlock) → size_of heads b ≡ size_of heads c → mark_of heads b ≡ mark_of heads c
    → marks_of heads (before ++ b ∷ after) ≡ marks_of heads (before ++ c ∷ after)
marks_of-same heads before b c after same mark =
    marks_of-append heads before (b ∷ after) ∙ (λ i. marks_of heads before ++ mark i ∷ (unmarked (same i / 4 - 1) ++ marks_of heads after))
    ∙ sym (marks_of-append heads before (c ∷ after))

-- how many marks are before that of a block
pub length-before : (heads : HeadKind) (before : List RawBlock) (place : ℕ) → IsTrue (list_all (is_possible heads) before) → place ≡ (zone_header + total_of heads before) / 4
    → length (unmarked (zone_header / 4) ++ marks_of heads before) ≡ place
length-before heads before place possible there =
    let a = length-append (unmarked (zone_header / 4)) (marks_of heads before) in let b = length-unmarked (zone_header / 4) in let c = length-marks_of heads before possible in omega arith

-- the index, with the mark of one block apart
pub starts-parts : (l : Layout) (before : List RawBlock) (here : RawBlock) (after : List RawBlock)
    → starts_of (with_blocks (before ++ here ∷ after) l) ≡ (unmarked (zone_header / 4) ++ marks_of l.heads before)
    ++ mark_of l.heads here ∷ (unmarked (size_of l.heads here / 4 - 1) ++ (marks_of l.heads after ++ unmarked (length l.spare / 4)))
starts-parts l before here after =
    ap (λ (ms : List ℕ). unmarked (zone_header / 4) ++ (ms ++ unmarked (length l.spare / 4))) (marks_of-append l.heads before (here ∷ after)) ∙ simp append_assoc

-- one block is another of its size, and its mark is written
pub mark-written : (l : Layout) (before : List RawBlock) (here b : RawBlock) (after : List RawBlock) → IsTrue (list_all (is_possible l.heads) before) → size_of l.heads b ≡ size_of l.heads here
    → (place : ℕ) → place ≡ (zone_header + total_of l.heads before) / 4
    → set (starts_of (with_blocks (before ++ here ∷ after) l)) place (mark_of l.heads b) ≡ starts_of (with_blocks (before ++ b ∷ after) l)
mark-written l before here b after possible same place there =
    let front = unmarked (zone_header / 4) ++ marks_of l.heads before in
    ap (λ (ms : List ℕ). set ms place (mark_of l.heads b)) (starts-parts l before here after)
    ∙ set_at front (mark_of l.heads here) (unmarked (size_of l.heads here / 4 - 1) ++ (marks_of l.heads after ++ unmarked (length l.spare / 4))) (mark_of l.heads b) place (length-before l.heads before place possible there)
    ∙ ap (λ (n : ℕ). front ++ mark_of l.heads b ∷ (unmarked (n / 4 - 1) ++ (marks_of l.heads after ++ unmarked (length l.spare / 4)))) (sym same)
    ∙ sym (starts-parts l before b after)

-- two numbers of a list are written
two-written : (front mid rest : List ℕ) (x y x' y' p q : ℕ) → length front ≡ p → q ≡ p + suc (length mid)
    → set (set (front ++ x ∷ (mid ++ y ∷ rest)) p x') q y' ≡ front ++ x' ∷ (mid ++ y' ∷ rest)
two-written front mid rest x y x' y' p q first second =
    let sum = length-append front (x' ∷ mid) in
    ap (λ (l : List ℕ). set l q y') (set_at front x (mid ++ y ∷ rest) x' p first ∙ sym (append_assoc front (x' ∷ mid) (y ∷ rest)))
    ∙ set_at (front ++ x' ∷ mid) y rest y' q (omega arith) ∙ append_assoc front (x' ∷ mid) (y' ∷ rest)

-- the marks after a block's own, where it is cut
unmarked-apart : (whole first second : ℕ) → whole ≡ first + second → first % 4 ≡ 0 → second % 4 ≡ 0 → 4 ≤ first → 4 ≤ second
    → unmarked (whole / 4 - 1) ≡ unmarked (first / 4 - 1) ++ (0 ∷ unmarked (second / 4 - 1))
unmarked-apart whole first second sum even even' some some' =
    ap (λ (n : ℕ). unmarked n) (let e : whole / 4 - 1 ≡ first / 4 - 1 + suc (second / 4 - 1) = omega arith in e)
    ∙ sym (replicate-append-replicate (first / 4 - 1) (suc (second / 4 - 1)) 0)

module _ (l : Layout) (before : List RawBlock) (here first second : RawBlock) (after : List RawBlock) (sum : size_of l.heads here ≡ size_of l.heads first + size_of l.heads second)
    (before_possible : IsTrue (list_all (is_possible l.heads) before)) (p : IsPossible l.heads first) (q : IsPossible l.heads second)
    (place next : ℕ) (there : place ≡ (zone_header + total_of l.heads before) / 4) (there' : next ≡ (zone_header + total_of l.heads before + size_of l.heads first) / 4) where
  -- the marks before the first part's
  abbrev marks_before : List ℕ
  marks_before = unmarked (zone_header / 4) ++ marks_of l.heads before

  -- those between its own and the second part's
  abbrev marks_between : List ℕ
  marks_between = unmarked (size_of l.heads first / 4 - 1)

  -- and those after that
  abbrev marks_after : List ℕ
  marks_after = unmarked (size_of l.heads second / 4 - 1) ++ (marks_of l.heads after ++ unmarked (length l.spare / 4))

  -- how many are before it
  next-is : next ≡ place + suc (length marks_between)
  next-is =
      let some = smallest-block l.heads in let even = p.even in let large = p.large in
      let d = length-unmarked (size_of l.heads first / 4 - 1) in let e = length-marks_of l.heads before before_possible in omega arith

  -- the marks of one block
  one-block : starts_of (with_blocks (before ++ here ∷ after) l) ≡ marks_before ++ mark_of l.heads here ∷ (marks_between ++ 0 ∷ marks_after)
  one-block =
      let some = smallest-block l.heads in let even = p.even in let even' = q.even in let large = p.large in let large' = q.large in
      starts-parts l before here after
      ∙ ap (λ (ms : List ℕ). marks_before ++ mark_of l.heads here ∷ (ms ++ (marks_of l.heads after ++ unmarked (length l.spare / 4))))
      (unmarked-apart (size_of l.heads here) (size_of l.heads first) (size_of l.heads second) sum (omega arith) (omega arith) (omega arith) (omega arith))
      ∙ simp append_assoc

  -- those of two
  two-blocks : starts_of (with_blocks (before ++ first ∷ second ∷ after) l) ≡ marks_before ++ mark_of l.heads first ∷ (marks_between ++ mark_of l.heads second ∷ marks_after)
  two-blocks = starts-parts l before first (second ∷ after) ∙ simp append_assoc

  -- two marks are written, and one block is two
  pub mark-set : set (set (starts_of (with_blocks (before ++ here ∷ after) l)) place (mark_of l.heads first)) next (mark_of l.heads second)
      ≡ starts_of (with_blocks (before ++ first ∷ second ∷ after) l)
  mark-set = ap (λ (ms : List ℕ). set (set ms place (mark_of l.heads first)) next (mark_of l.heads second)) one-block
      ∙ two-written marks_before marks_between marks_after (mark_of l.heads here) 0 (mark_of l.heads first) (mark_of l.heads second) place next (length-before l.heads before place before_possible there) next-is
      ∙ sym two-blocks

  -- one is written and one is cleared, and two blocks are one
  pub mark-cleared : set (set (starts_of (with_blocks (before ++ first ∷ second ∷ after) l)) place (mark_of l.heads here)) next 0
      ≡ starts_of (with_blocks (before ++ here ∷ after) l)
  mark-cleared = ap (λ (ms : List ℕ). set (set ms place (mark_of l.heads here)) next 0) two-blocks
      ∙ two-written marks_before marks_between marks_after (mark_of l.heads first) (mark_of l.heads second) (mark_of l.heads here) 0 place next (length-before l.heads before place before_possible there) next-is
      ∙ sym one-block

-- a block of the list starts so many times four bytes after the first
pub record StartsAt (heads : HeadKind) (bs : List RawBlock) (k : ℕ) : Type 0 where
  pub before : List RawBlock
  pub here : RawBlock
  pub after : List RawBlock
  pub blocks : bs ≡ before ++ here ∷ after
  pub place : 4 * k ≡ total_of heads before

-- a mark after that of the first block
starts-after : (heads : HeadKind) (b : RawBlock) (bs : List RawBlock) (k : ℕ) → IsPossible heads b → ((j : ℕ) → 0 < slice_index (marks_of heads bs) j → StartsAt heads bs j)
    → 0 < slice_index (unmarked (size_of heads b / 4 - 1) ++ marks_of heads bs) k → StartsAt heads (b ∷ bs) (suc k)
starts-after heads b bs k p others is = ⊎_elim within after (cases_lt k n)
  where
    n : ℕ
    n = size_of heads b / 4 - 1

    within : k < n → StartsAt heads (b ∷ bs) (suc k)
    within below =
        let none = length-unmarked n in
        let zero_there : slice_index (unmarked n ++ marks_of heads bs) k ≡ 0 = get_or_append_left (unmarked n) (marks_of heads bs) 0 k (omega arith) ∙ unmarked-at n k in
        absurd (omega arith)

    after : n ≤ k → StartsAt heads (b ∷ bs) (suc k)
    after above =
        let even = p.even in let large = p.large in let some = smallest-block heads in
        let there : slice_index (unmarked n ++ marks_of heads bs) k ≡ slice_index (marks_of heads bs) (k - n) = get_or-append_right (unmarked n) (marks_of heads bs) n k 0 (length-unmarked n) above in
        let s = others (k - n) (omega arith) in let place = s.place in
        record { before = b ∷ s.before; here = s.here; after = s.after; blocks = ap (λ (l : List RawBlock). b ∷ l) s.blocks; place = omega arith }

-- where there is a mark, a block starts
starts-there : (heads : HeadKind) (bs : List RawBlock) (k : ℕ) → IsTrue (list_all (is_possible heads) bs) → 0 < slice_index (marks_of heads bs) k → StartsAt heads bs k
starts-there heads [] k possible is = absurd (omega arith)
starts-there heads (b ∷ bs) zero possible is = record { before = []; here = b; after = bs; blocks = refl; place = refl }
starts-there heads (b ∷ bs) (suc k) possible is =
    let both = and-true (is_possible heads b) (list_all (is_possible heads) bs) possible in
    starts-after heads b bs k (IsPossible-from heads b both.0) (λ j there. starts-there heads bs j both.1 there) is

module _ (l : Layout) (possible : IsTrue (list_all (is_possible l.heads) l.blocks)) where
  -- where there is a mark of the zone, a block starts
  pub block-marked : (at k : ℕ) → at ≡ l.base + 4 * k → 0 < slice_index (starts_of l) k → BlockAt l at
  block-marked at k there is = ⊎_elim in_header (λ above. after above (cases_lt (k - zone_header / 4) (length marks))) (cases_lt k (zone_header / 4))
    where
      front : List ℕ
      front = unmarked (zone_header / 4)

      marks : List ℕ
      marks = marks_of l.heads l.blocks

      rest : List ℕ
      rest = unmarked (length l.spare / 4)

      in_header : k < zone_header / 4 → BlockAt l at
      in_header low =
          let zero_there : slice_index (front ++ (marks ++ rest)) k ≡ 0 = get_or_append_left front (marks ++ rest) 0 k low ∙ unmarked-at (zone_header / 4) k in
          absurd (omega arith)

      after : zone_header / 4 ≤ k → (k - zone_header / 4 < length marks) ⊎ (length marks ≤ k - zone_header / 4) → BlockAt l at
      after above which =
          let there' : slice_index (front ++ (marks ++ rest)) k ≡ slice_index (marks ++ rest) (k - zone_header / 4) =
          get_or-append_right front (marks ++ rest) (zone_header / 4) k 0 (length-unmarked (zone_header / 4)) above in
          ⊎_elim (λ within.
          let mark : slice_index (marks ++ rest) (k - zone_header / 4) ≡ slice_index marks (k - zone_header / 4) = get_or_append_left marks rest 0 (k - zone_header / 4) within in
          let s = starts-there l.heads l.blocks (k - zone_header / 4) possible (omega arith) in let place = s.place in
          record { before = s.before; here = s.here; after = s.after; blocks = s.blocks; place = omega arith })
          (λ further.
          let none : slice_index (marks ++ rest) (k - zone_header / 4) ≡ 0 =
          get_or-append_right marks rest (length marks) (k - zone_header / 4) 0 refl further ∙ unmarked-at (length l.spare / 4) (k - zone_header / 4 - length marks) in
          absurd (omega arith)) which

  -- a block starts a multiple of four bytes after the zone's start, and below the end of the blocks, and has its mark
  pub record IsMarked (at : ℕ) (b : BlockAt l at) : Type 0 where
    pub above : l.base ≤ at
    pub even : (at - l.base) % 4 ≡ 0
    pub below : at - l.base < zone_header + total_of l.heads l.blocks
    pub mark : slice_index (starts_of l) ((at - l.base) / 4) ≡ mark_of l.heads b.here
    pub some : 0 < mark_of l.heads b.here

  -- each does
  pub marked-block : (at : ℕ) (b : BlockAt l at) → IsMarked at b
  marked-block at b = let k = (at - l.base) / 4 in
      let front = unmarked (zone_header / 4) ++ marks_of l.heads b.before in
      let parts = and-true (list_all (is_possible l.heads) b.before) (list_all (is_possible l.heads) (b.here ∷ b.after))
      (sym (list_all-append (is_possible l.heads) b.before (b.here ∷ b.after)) ∙ sym (ap (list_all (is_possible l.heads)) b.blocks) ∙ possible) in
      let here = and-true (is_possible l.heads b.here) (list_all (is_possible l.heads) b.after) parts.1 in
      let long = length-marks_of l.heads b.before parts.0 in let place = b.place in
      let total : total_of l.heads l.blocks ≡ total_of l.heads b.before + total_of l.heads (b.here ∷ b.after) = ap (total_of l.heads) b.blocks ∙ total_of-append l.heads b.before (b.here ∷ b.after) in
      let positive = head_size-positive l.heads in
      let rest = unmarked (size_of l.heads b.here / 4 - 1) ++ (marks_of l.heads b.after ++ unmarked (length l.spare / 4)) in
      let marks : starts_of l ≡ front ++ mark_of l.heads b.here ∷ rest = ap (λ (bs : List RawBlock). starts_of (with_blocks bs l)) b.blocks ∙ starts-parts l b.before b.here b.after in
      let before : length front ≡ k = length-before l.heads b.before k parts.0 (omega arith) in
      record {
        above = omega arith;
        even = omega arith;
        below = omega arith;
        mark = (λ i. slice_index (marks i) (sym before i)) ∙ get_or-append_seam front (mark_of l.heads b.here) rest 0;
        some = mark-positive l.heads b.here;
      }

-- after marks of none, the first free block is looked for further on
first_marked-unmarked : (at n : ℕ) (ms : List ℕ) → first_marked at (unmarked n ++ ms) ≡ first_marked (at + 4 * n) ms
first_marked-unmarked at zero ms = ap (λ (k : ℕ). first_marked k ms) (let e : at ≡ at + 4 * 0 = omega arith in e)
first_marked-unmarked at (suc n) ms = first_marked-unmarked (at + 4) n ms ∙ ap (λ (k : ℕ). first_marked k ms) (let e : at + 4 + 4 * n ≡ at + 4 * suc n = omega arith in e)

-- there is none among them
first_marked-none : (at n : ℕ) → first_marked at (unmarked n) ≡ 0
first_marked-none at zero = refl
first_marked-none at (suc n) = first_marked-none (at + 4) n

-- the first mark of a free block is the first free block's
first_marked-marks : (heads : HeadKind) (at n : ℕ) (bs : List RawBlock) → IsTrue (list_all (is_possible heads) bs) → first_marked at (marks_of heads bs ++ unmarked n) ≡ first_free heads at bs
first_marked-marks heads at n [] possible = first_marked-none at n
first_marked-marks heads at n (b ∷ bs) possible =
    let both = and-true (is_possible heads b) (list_all (is_possible heads) bs) possible in let p = IsPossible-from heads b both.0 in
    let some = smallest-block heads in let even = p.even in let large = p.large in
    let k = size_of heads b / 4 - 1 in
    let more : first_marked (at + 4) ((unmarked k ++ marks_of heads bs) ++ unmarked n) ≡ first_free heads (at + size_of heads b) bs =
    ap (first_marked (at + 4)) (append_assoc (unmarked k) (marks_of heads bs) (unmarked n)) ∙ first_marked-unmarked (at + 4) k (marks_of heads bs ++ unmarked n)
    ∙ ap (λ (j : ℕ). first_marked j (marks_of heads bs ++ unmarked n)) (let e : at + 4 + 4 * k ≡ at + size_of heads b = omega arith in e)
    ∙ first_marked-marks heads (at + size_of heads b) n bs both.1 in
    λ i. if mark-free heads b p i then at else more i

-- the index gives the first free block
pub first_marked-starts : (l : Layout) → IsTrue (list_all (is_possible l.heads) l.blocks) → first_marked l.base (starts_of l) ≡ first_free l.heads (l.base + zone_header) l.blocks
first_marked-starts l possible =
    first_marked-unmarked l.base (zone_header / 4) (marks_of l.heads l.blocks ++ unmarked (length l.spare / 4))
    ∙ ap (λ (k : ℕ). first_marked k (marks_of l.heads l.blocks ++ unmarked (length l.spare / 4))) (let e : l.base + 4 * (zone_header / 4) ≡ l.base + zone_header = omega arith in e)
    ∙ first_marked-marks l.heads (l.base + zone_header) (length l.spare / 4) l.blocks possible

-- a number that is the first of its size is found
pub first_marked-found : (xs : List ℕ) (at p : ℕ) → p < length xs → 3 ≤ slice_index xs p → ((j : ℕ) → j < p → slice_index xs j < 3) → first_marked at xs ≡ at + 4 * p
first_marked-found [] at p inside large first = absurd (omega arith)
first_marked-found (x ∷ xs) at zero inside large first = let is : nat_lt 2 x ≡ true = above x large in
    ap (λ (t : Bool). if t then at else first_marked (at + 4) xs) is ∙ omega arith
  where
    above : (x : ℕ) → 3 ≤ x → nat_lt 2 x ≡ true
    above x large = grind (arith, nat_tests)
first_marked-found (x ∷ xs) at (suc p) inside large first = let is : nat_lt 2 x ≡ false = below x (first 0 (omega arith)) in
    ap (λ (t : Bool). if t then at else first_marked (at + 4) xs) is
    ∙ first_marked-found xs (at + 4) p (omega arith) large (λ j before. first (suc j) (omega arith)) ∙ omega arith
  where
    below : (x : ℕ) → x < 3 → nat_lt 2 x ≡ false
    below x small = grind (arith, nat_tests)

-- where none is as large, there is none
pub first_marked-missing : (xs : List ℕ) (at : ℕ) → ((j : ℕ) → j < length xs → slice_index xs j < 3) → first_marked at xs ≡ 0
first_marked-missing [] at none = refl
first_marked-missing (x ∷ xs) at none = let is : nat_lt 2 x ≡ false = below x (none 0 (omega arith)) in
    ap (λ (t : Bool). if t then at else first_marked (at + 4) xs) is ∙ first_marked-missing xs (at + 4) (λ j inside. none (suc j) (omega arith))
  where
    below : (x : ℕ) → x < 3 → nat_lt 2 x ≡ false
    below x small = grind (arith, nat_tests)

-- a free block's number is the first
first_marked-here : (x : ℕ) (xs : List ℕ) (at : ℕ) → 2 < x → first_marked at (x ∷ xs) ≡ at
first_marked-here x xs at large = ap (λ (t : Bool). if t then at else first_marked (at + 4) xs) (let is : nat_lt 2 x ≡ true = grind (arith, nat_tests) in is)

-- another is not
first_marked-further : (x : ℕ) (xs : List ℕ) (at : ℕ) → x ≤ 2 → first_marked at (x ∷ xs) ≡ first_marked (at + 4) xs
first_marked-further x xs at few = ap (λ (t : Bool). if t then at else first_marked (at + 4) xs) (let is : nat_lt 2 x ≡ false = grind (arith, nat_tests) in is)

-- the first lies among them, if there is one
pub first_marked-few : (xs : List ℕ) (at : ℕ) → first_marked at xs ≤ at + 4 * length xs
first_marked-few [] at = omega arith
first_marked-few (x ∷ xs) at = either (nat_lt 2 x) (first_marked-few xs (at + 4))
  where
    either : (t : Bool) → first_marked (at + 4) xs ≤ at + 4 + 4 * length xs → (if t then at else first_marked (at + 4) xs) ≤ at + 4 * suc (length xs)
    either true more = omega arith
    either false more = omega arith

-- before it there is none
pub first_marked-lower : (xs : List ℕ) (at j : ℕ) → (at ≤ first_marked at xs → at + 4 * j < first_marked at xs) → slice_index xs j ≤ 2
first_marked-lower [] at j low = omega arith
first_marked-lower (x ∷ xs) at zero low = ⊎_elim (λ large. let is = first_marked-here x xs at large in absurd (let b = low (omega arith) in omega arith)) (λ few. omega arith) (cases_lt 2 x)
first_marked-lower (x ∷ xs) at (suc j) low = ⊎_elim
    (λ large. let is = first_marked-here x xs at large in absurd (let b = low (omega arith) in omega arith))
    (λ few. let is = first_marked-further x xs at few in first_marked-lower xs (at + 4) j (λ above. let b = low (omega arith) in omega arith)) (cases_lt 2 x)
