-- Those of some blocks that begin before an address.
use Rattle.std.proofs.Common.{◌≡◌, ℕ, ◌+◌, ◌<◌, ◌≤◌, Bool, List, [], ◌∷◌, ◌++◌, refl, sym, ap, ◌∙◌, arith, append-nil, lt-ltb, le-ltb, inl, inr}
use Rattle.std.proofs.lemmas.Bool.{cases_lt}
use Rattle.std.specs.Prelude.{if◌then◌else◌}
use Rattle.mac_base.specs.declared.block.HeadKind.{HeadKind}
use Rattle.block_bytes.specs.Layout.{RawBlock, size_of, total_of}
use Rattle.block_bytes.specs.Structure.{begun_before}
use Rattle.block_bytes.proofs.Walking.{size_of-pos}

module _ (heads : HeadKind) (end : ℕ) where
  -- the first of them does, or none
  pub begun-first : (at : ℕ) (b : RawBlock) (bs : List RawBlock) → at < end → begun_before heads at end (b ∷ bs) ≡ b ∷ begun_before heads (at + size_of heads b) end bs
  begun-first at b bs low = ap (λ (t : Bool). if t then b ∷ begun_before heads (at + size_of heads b) end bs else []) (lt-ltb at end low)

  pub begun-none : (at : ℕ) (bs : List RawBlock) → end ≤ at → begun_before heads at end bs ≡ []
  begun-none at [] high = refl
  begun-none at (b ∷ bs) high = ap (λ (t : Bool). if t then b ∷ begun_before heads (at + size_of heads b) end bs else []) (le-ltb at end high)

  -- blocks that end before the address do, and those after them as if these came first
  pub begun-passed : (at : ℕ) (xs cs : List RawBlock) → at + total_of heads xs ≤ end → begun_before heads at end (xs ++ cs) ≡ xs ++ begun_before heads (at + total_of heads xs) end cs
  begun-passed at [] cs low = ap (λ (n : ℕ). begun_before heads n end cs) (let e : at ≡ at + 0 = omega arith in e)
  begun-passed at (x ∷ xs) cs low =
      let low' : at + (size_of heads x + total_of heads xs) ≤ end = low in let some = size_of-pos heads x in
      begun-first at x (xs ++ cs) (omega arith)
      ∙ ap (λ (bs : List RawBlock). x ∷ bs)
      (begun-passed (at + size_of heads x) xs cs (omega arith)
      ∙ ap (λ (n : ℕ). xs ++ begun_before heads n end cs) (let e : at + size_of heads x + total_of heads xs ≡ at + (size_of heads x + total_of heads xs) = omega arith in e))

  pub begun-all : (at : ℕ) (bs : List RawBlock) → at + total_of heads bs ≤ end → begun_before heads at end bs ≡ bs
  begun-all at bs low = ap (begun_before heads at end) (sym (append-nil bs)) ∙ begun-passed at bs [] low ∙ append-nil bs

  -- one of them begins before the address, and those after it are of those after it
  pub record OneBegun (at : ℕ) (bs xs : List RawBlock) (b : RawBlock) (ys : List RawBlock) : Type 0 where
    pub rest : List RawBlock
    pub blocks : bs ≡ xs ++ b ∷ rest
    pub low : at + total_of heads xs < end
    pub more : ys ≡ begun_before heads (at + total_of heads xs + size_of heads b) end rest

  pub one-begun : (at : ℕ) (bs xs : List RawBlock) (b : RawBlock) (ys : List RawBlock) → begun_before heads at end bs ≡ xs ++ b ∷ ys → OneBegun at bs xs b ys
  one-begun at [] [] c ys is = let no : [] ≡ c ∷ ys = is in absurd (cc no)
  one-begun at [] (x ∷ xs) c ys is = let no : [] ≡ x ∷ (xs ++ c ∷ ys) = is in absurd (cc no)
  one-begun at (b ∷ bs) [] c ys is = elim (cases_lt at end) [
    | inl low ↦
        let both : b ∷ begun_before heads (at + size_of heads b) end bs ≡ c ∷ ys = sym (begun-first at b bs low) ∙ is in
        let first : b ≡ c = cc both in let rest : begun_before heads (at + size_of heads b) end bs ≡ ys = cc both in let size = ap (size_of heads) first in record {
          rest = bs;
          blocks = ap (λ (d : RawBlock). d ∷ bs) first;
          low = omega arith;
          more = sym rest ∙ ap (λ (n : ℕ). begun_before heads n end bs) (let e : at + size_of heads b ≡ at + 0 + size_of heads c = omega arith in e);
        }
    | inr high ↦ let no : [] ≡ c ∷ ys = sym (begun-none at (b ∷ bs) high) ∙ is in absurd (cc no)
  ]
  one-begun at (b ∷ bs) (x ∷ xs) c ys is = elim (cases_lt at end) [
    | inl low ↦
        let both : b ∷ begun_before heads (at + size_of heads b) end bs ≡ x ∷ (xs ++ c ∷ ys) = sym (begun-first at b bs low) ∙ is in
        let first : b ≡ x = cc both in let rest : begun_before heads (at + size_of heads b) end bs ≡ xs ++ c ∷ ys = cc both in
        let more = one-begun (at + size_of heads b) bs xs c ys rest in let size = ap (size_of heads) first in let below = more.low in record {
          rest = more.rest;
          blocks = (λ i. first i ∷ more.blocks i);
          low = omega arith;
          more = more.more
              ∙ ap (λ (n : ℕ). begun_before heads n end more.rest) (let e : at + size_of heads b + total_of heads xs + size_of heads c ≡ at + (size_of heads x + total_of heads xs) + size_of heads c = omega arith in e);
        }
    | inr high ↦ let no : [] ≡ x ∷ (xs ++ c ∷ ys) = sym (begun-none at (b ∷ bs) high) ∙ is in absurd (cc no)
  ]

  -- so is each that begins before it
  pub begun-one : (at : ℕ) (xs : List RawBlock) (b : RawBlock) (ys : List RawBlock) → at + total_of heads xs < end
      → begun_before heads at end (xs ++ b ∷ ys) ≡ xs ++ b ∷ begun_before heads (at + total_of heads xs + size_of heads b) end ys
  begun-one at xs b ys low = begun-passed at xs (b ∷ ys) (omega arith) ∙ ap (λ (bs : List RawBlock). xs ++ bs) (begun-first (at + total_of heads xs) b ys low)
