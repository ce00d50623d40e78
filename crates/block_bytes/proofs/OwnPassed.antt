-- The own bytes of blocks are in their places, from one place on up to another.
use Rattle.std.proofs.Common.{◌≡◌, ℕ, ◌+◌, ◌-◌, ◌<◌, ◌≤◌, inl, inr, List, [], ◌∷◌, ◌++◌, refl, sym, ap, subst, ◌∙◌, arith, append_assoc, append-nil}
use Rattle.std.proofs.lemmas.Bool.{cases_lt}
use Rattle.mac_base.specs.declared.block.HeadKind.{HeadKind}
use Rattle.mac_base.specs.HeadKind.{zone_header}
use Rattle.block_bytes.specs.Finding.{SplitAt}
use Rattle.block_bytes.specs.Layout.{RawBlock, Layout, BlockAt, address_after, size_of, total_of}
use Rattle.block_bytes.specs.Structure.{AreWritten, EachMaster, HasHeaders, HasOwn, OwnBetween}
use Rattle.block_bytes.proofs.Comparing.{same_rest}
use Rattle.block_bytes.proofs.Rendered.{total_of-append}
use Rattle.block_bytes.proofs.Structures.{headers-append, headers-rest}
use Rattle.block_bytes.proofs.Walking.{size_of-pos}
use Rattle.block_bytes.proofs.WrittenOwn.{each-join}

-- of two beginnings of a list of blocks the one with fewer bytes begins the other
record Begins (xs zs : List RawBlock) : Type 0 where
  more : List RawBlock
  is : zs ≡ xs ++ more

begins : (heads : HeadKind) (xs ys zs ws : List RawBlock) → xs ++ ys ≡ zs ++ ws → total_of heads xs ≤ total_of heads zs → Begins xs zs
begins heads [] ys zs ws same few = record { more = zs; is = refl }
begins heads (x ∷ xs) ys [] ws same few = let some = size_of-pos heads x in absurd (omega arith)
begins heads (x ∷ xs) ys (z ∷ zs) ws same few =
    let first : x ≡ z = cc in let rest : xs ++ ys ≡ zs ++ ws = cc in let size = ap (size_of heads) first in
    let b = begins heads xs ys zs ws rest (omega arith) in
    record { more = b.more; is = λ i. sym first i ∷ b.is i }

-- a place between blocks, or after the last, is in the zone
pub split-inside : (l : Layout) (at : ℕ) → SplitAt l (l.base + at) → (zone_header ≤ at) × (at ≤ zone_header + total_of l.heads l.blocks)
split-inside l at s =
    let place = s.place in let all = ap (total_of l.heads) s.blocks in let sum = total_of-append l.heads s.before s.after in (omega arith, omega arith)

-- after blocks comes one where they don't end the zone
pub split-block : (l : Layout) (at : ℕ) → SplitAt l at → at < address_after l l.blocks → BlockAt l at
split-block l at s below = by_after s.after s.blocks
  where
    by_after : (bs : List RawBlock) → l.blocks ≡ s.before ++ bs → BlockAt l at
    by_after [] is = let sum = ap (total_of l.heads) is in let all = total_of-append l.heads s.before [] in let place = s.place in absurd (omega arith)
    by_after (b ∷ bs) is = record { before = s.before; here = b; after = bs; blocks = is; place = s.place }

module _ (l : Layout) (bytes : List ℕ) where
  headers-first : (at : ℕ) (xs ys : List RawBlock) → HasHeaders l bytes at (xs ++ ys) → HasHeaders l bytes at xs
  headers-first at [] ys all = tt
  headers-first at (x ∷ xs) ys all = (all.0, headers-first (at + size_of l.heads x) xs ys all.1)

  each-first : (at : ℕ) (xs ys : List RawBlock) → EachMaster (AreWritten bytes) l.heads at (xs ++ ys) → EachMaster (AreWritten bytes) l.heads at xs
  each-first at [] ys all = tt
  each-first at (x ∷ xs) ys all = (all.0, each-first (at + size_of l.heads x) xs ys all.1)

  each-rest : (at : ℕ) (xs ys : List RawBlock) → EachMaster (AreWritten bytes) l.heads at (xs ++ ys) → EachMaster (AreWritten bytes) l.heads (at + total_of l.heads xs) ys
  each-rest at [] ys all = subst (λ n. EachMaster (AreWritten bytes) l.heads n ys) (let e : at ≡ at + 0 = omega arith in e) all
  each-rest at (x ∷ xs) ys all =
      subst (λ n. EachMaster (AreWritten bytes) l.heads n ys) (let e : at + size_of l.heads x + total_of l.heads xs ≡ at + (size_of l.heads x + total_of l.heads xs) = omega arith in e)
      (each-rest (at + size_of l.heads x) xs ys all.1)

  own-first : (at : ℕ) (xs ys : List RawBlock) → HasOwn l bytes at (xs ++ ys) → HasOwn l bytes at xs
  own-first at xs ys all = record { headers = headers-first at xs ys all.headers; masters = each-first at xs ys all.masters }

  own-rest : (at : ℕ) (xs ys : List RawBlock) → HasOwn l bytes at (xs ++ ys) → HasOwn l bytes (at + total_of l.heads xs) ys
  own-rest at xs ys all = record { headers = headers-rest l bytes at xs ys all.headers; masters = each-rest at xs ys all.masters }

  own-append : (at : ℕ) (xs ys : List RawBlock) → HasOwn l bytes at xs → HasOwn l bytes (at + total_of l.heads xs) ys → HasOwn l bytes at (xs ++ ys)
  own-append at xs ys first rest = record {
    headers = headers-append l bytes at xs ys first.headers rest.headers;
    masters = each-join (AreWritten bytes) l.heads at xs ys first.masters rest.masters;
  }

  -- where all are, those of the block at an offset are
  pub own-there : HasOwn l bytes zone_header l.blocks → (at : ℕ) (b : BlockAt l (l.base + at)) → HasOwn l bytes at (b.here ∷ [])
  own-there all at b =
      let place = b.place in
      subst (λ n. HasOwn l bytes n (b.here ∷ [])) (let e : zone_header + total_of l.heads b.before ≡ at = omega arith in e)
      (own-first (zone_header + total_of l.heads b.before) (b.here ∷ []) b.after
      (own-rest zone_header b.before (b.here ∷ b.after) (subst (HasOwn l bytes zone_header) b.blocks all)))

  -- no block was passed yet
  pub own-start : (at : ℕ) → SplitAt l (l.base + at) → OwnBetween l bytes at at
  own-start at s = let place = s.place in record {
    before = s.before;
    passed = [];
    after = s.after;
    blocks = s.blocks;
    start = omega arith;
    end = omega arith;
    own = record { headers = tt; masters = tt };
  }

  -- one block is passed
  pub own-one : (at next : ℕ) (b : BlockAt l (l.base + at)) → HasOwn l bytes at (b.here ∷ []) → next ≡ at + size_of l.heads b.here → OwnBetween l bytes at next
  own-one at next b own is = let place = b.place in record {
    before = b.before;
    passed = b.here ∷ [];
    after = b.after;
    blocks = b.blocks;
    start = omega arith;
    end = (let sum : total_of l.heads (b.here ∷ []) ≡ size_of l.heads b.here = omega arith in omega arith);
    own = own;
  }

  -- where a walk has come to
  pub own-split : (from to : ℕ) → OwnBetween l bytes from to → SplitAt l (l.base + to)
  own-split from to o = let start = o.start in let end = o.end in let sum = total_of-append l.heads o.before o.passed in record {
    before = o.before ++ o.passed;
    after = o.after;
    blocks = o.blocks ∙ sym (append_assoc o.before o.passed o.after);
    place = omega arith;
  }

  pub own-inside : (from to : ℕ) → OwnBetween l bytes from to → (zone_header ≤ from) × (from ≤ to) × (to ≤ zone_header + total_of l.heads l.blocks)
  own-inside from to o =
      let start = o.start in let end = o.end in let all = ap (total_of l.heads) o.blocks in
      let sum = total_of-append l.heads o.before (o.passed ++ o.after) in let own = total_of-append l.heads o.passed o.after in
      (omega arith, omega arith, omega arith)

  -- a walk that begins where another has come, or before
  pub own-chain : (from reached middle to : ℕ) → OwnBetween l bytes from reached → OwnBetween l bytes middle to → from ≤ middle → middle ≤ reached → OwnBetween l bytes from to
  own-chain from reached middle to a b low high =
      let start = a.start in let end = a.end in let start' = b.start in let end' = b.end in
      let same : a.before ++ (a.passed ++ a.after) ≡ b.before ++ (b.passed ++ b.after) = sym a.blocks ∙ b.blocks in
      let u = begins l.heads a.before (a.passed ++ a.after) b.before (b.passed ++ b.after) same (omega arith) in
      let total = ap (total_of l.heads) u.is in let sum = total_of-append l.heads a.before u.more in
      let all : b.before ++ (b.passed ++ b.after) ≡ a.before ++ (u.more ++ (b.passed ++ b.after)) =
      ap (λ (bs : List RawBlock). bs ++ (b.passed ++ b.after)) u.is ∙ append_assoc a.before u.more (b.passed ++ b.after) in
      let rest : a.passed ++ a.after ≡ u.more ++ (b.passed ++ b.after) = same_rest l.heads a.before (a.passed ++ a.after) a.before (u.more ++ (b.passed ++ b.after)) (same ∙ all) refl in
      let v = begins l.heads u.more (b.passed ++ b.after) a.passed a.after (sym rest) (omega arith) in
      let both = total_of-append l.heads u.more b.passed in
      let first : HasOwn l bytes from u.more = own-first from u.more v.more (subst (HasOwn l bytes from) v.is a.own) in
      let second : HasOwn l bytes (from + total_of l.heads u.more) b.passed = subst (λ n. HasOwn l bytes n b.passed) (let e : middle ≡ from + total_of l.heads u.more = omega arith in e) b.own in
      record {
        before = a.before;
        passed = u.more ++ b.passed;
        after = b.after;
        blocks = b.blocks ∙ all ∙ ap (λ (bs : List RawBlock). a.before ++ bs) (sym (append_assoc u.more b.passed b.after));
        start = a.start;
        end = omega arith;
        own = own-append from u.more b.passed first second;
      }

  -- all blocks are passed
  pub own-all : (to : ℕ) → OwnBetween l bytes zone_header to → zone_header + total_of l.heads l.blocks ≤ to → HasOwn l bytes zone_header l.blocks
  own-all to o high = by_lists o.before o.after o.blocks o.start
    where
      by_lists : (before after : List RawBlock) → l.blocks ≡ before ++ (o.passed ++ after) → zone_header ≡ zone_header + total_of l.heads before → HasOwn l bytes zone_header l.blocks
      by_lists [] [] is start = subst (HasOwn l bytes zone_header) (sym (is ∙ append-nil o.passed)) o.own
      by_lists [] (b ∷ bs) is start =
          let all = ap (total_of l.heads) is in let sum = total_of-append l.heads o.passed (b ∷ bs) in let some = size_of-pos l.heads b in let end = o.end in absurd (omega arith)
      by_lists (b ∷ bs) after is start = let some = size_of-pos l.heads b in absurd (omega arith)

-- what is left of four walks, each of which has moved on where it wasn't at its end. One wasn't
pub left-smaller : (top a b c d e f g h i j k m : ℕ) → (a ≤ e) × (e ≤ top) → (b ≤ f) × (f ≤ top) → (c ≤ g) × (g ≤ top) → (d ≤ h) × (h ≤ top)
    → (a < i → a < e) → (b < j → b < f) → (c < k → c < g) → (d < m → d < h) → (i ≤ a → j ≤ b → k ≤ c → m ≤ d → ⊥)
    → (top - e) + (top - f) + (top - g) + (top - h) < (top - a) + (top - b) + (top - c) + (top - d)
left-smaller top a b c d e f g h i j k m first second third fourth one two three four some = elim (cases_lt a i) [
  | inl low ↦ let moved = one low in omega arith
  | inr w ↦ elim (cases_lt b j) [
    | inl low ↦ let moved = two low in omega arith
    | inr x ↦ elim (cases_lt c k) [
      | inl low ↦ let moved = three low in omega arith
      | inr y ↦ elim (cases_lt d m) [
        | inl low ↦ let moved = four low in omega arith
        | inr z ↦ absurd (some w x y z)
      ]
    ]
  ]
]
