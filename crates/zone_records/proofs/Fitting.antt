-- How a block of bytes is cut to its first bytes, step by step, with the first few of its contents kept.
use Rattle.std.specs.Prelude.{if◌then◌else◌, IsTrue}
use Rattle.std.proofs.Common.{◌≡◌, ℕ, ◌+◌, ◌-◌, ◌<◌, ◌≤◌, true, false, cond, nat_lt, List, [], ◌∷◌, ◌++◌, length, replicate, take, drop, refl, ap, sym, ◌∙◌, subst, arith, length-take, length-take-le}
use Rattle.std.proofs.lemmas.Bool.Decides.{nat_tests}
use Rattle.std.proofs.lemmas.List.{take_all, take-take}
use Rattle.mac_base.specs.HeadKind.{head_size}
use Rattle.mac_base.specs.HandleTable.{resized}
use Rattle.block_bytes.specs.Layout.{RawBlock, Layout, BlockAt, CanClear, CanResize, CanSplit, body, raw_block, free_raw_block, size_of, front_of, rest_of, cleared_from, is_possible, with_blocks}
use Rattle.block_bytes.proofs.Changes.{size-body}
use Rattle.zone_laws.proofs.SuitsResized.{no_rest}

-- the block at an address can be its first bytes, so many with n of contents; what is over can be a free block
pub record CanFit (l : Layout) (at size n : ℕ) : Type 0 where
  pub block : BlockAt l at
  pub large : head_size l.heads + n ≤ size
  pub within : size ≤ size_of l.heads block.here
  pub front : IsTrue (is_possible l.heads (raw_block block.here.role n (take (size - head_size l.heads) (body block.here))))
  pub apart : size < size_of l.heads block.here → size + head_size l.heads ≤ size_of l.heads block.here
  pub unlent : block.here.lent ≡ false
  pub rest : size < size_of l.heads block.here → IsTrue (is_possible l.heads (free_raw_block (drop size (body block.here))))

-- the block with these first bytes, of whose n bytes of contents the first few are kept and the others zero
abbrev pub fitted_front : {at size n : ℕ} → (l : Layout) → CanFit l at size n → ℕ → RawBlock
fitted_front {size = size} {n = n} l can kept = record {
  role = can.block.here.role;
  contents = resized n (take kept (body can.block.here));
  slack = drop n (take (size - head_size l.heads) (body can.block.here));
  lent = false;
}

-- the free block after it, if bytes are over
abbrev pub fitted_rest : {at size n : ℕ} → (l : Layout) → CanFit l at size n → List RawBlock
fitted_rest {size = size} l can = if nat_lt size (size_of l.heads can.block.here) then free_raw_block (drop size (body can.block.here)) ∷ [] else []

-- the zone then
abbrev pub raw_fitted : {at size n : ℕ} → (l : Layout) → CanFit l at size n → ℕ → Layout
raw_fitted l can kept = with_blocks (can.block.before ++ fitted_front l can kept ∷ (fitted_rest l can ++ can.block.after)) l

-- of so many bytes the first few are kept, and the others zero
few_kept : (n kept : ℕ) (bytes : List ℕ) → kept ≤ n → n ≤ length bytes → take kept (take n bytes) ++ replicate (n - kept) 0 ≡ resized n (take kept bytes)
few_kept n kept bytes few long =
    let exact : length (take kept bytes) ≡ kept = length-take-le kept bytes (omega arith) in
    let all : take n (take kept bytes) ≡ take kept bytes = take_all n (take kept bytes) (omega arith) in
    let left : n - kept ≡ n - length (take kept bytes) = omega arith in
    ap (λ xs. xs ++ replicate (n - kept) 0) (take-take kept n bytes few ∙ sym all) ∙ ap (λ k. take n (take kept bytes) ++ replicate k 0) left

-- or all are kept
all_kept : (n kept : ℕ) (bytes : List ℕ) → n ≤ kept → n ≤ length bytes → take n bytes ≡ resized n (take kept bytes)
all_kept n kept bytes many long =
    let some = length-take kept bytes in
    let none : 0 ≡ n - length (take kept bytes) = omega arith in
    sym (take-take n kept bytes many) ∙ sym (no_rest (take n (take kept bytes))) ∙ ap (λ k. take n (take kept bytes) ++ replicate k 0) none

module _ (l : Layout) (at size n : ℕ) (can : CanFit l at size n) where
  -- how long the body is
  pub fit_long : head_size l.heads + length (body can.block.here) ≡ size_of l.heads can.block.here
  fit_long = sym (size-body l.heads can.block.here)

  -- the block whose contents are the first of its bytes
  abbrev pub cut_front : RawBlock
  cut_front = raw_block can.block.here.role n (take (size - head_size l.heads) (body can.block.here))

  -- the zone with it
  abbrev pub cut_layout : Layout
  cut_layout = with_blocks (can.block.before ++ cut_front ∷ (fitted_rest l can ++ can.block.after)) l

  -- its contents are the first of the body
  pub cut_contents : cut_front.contents ≡ take n (body can.block.here)
  cut_contents = let large = can.large in take-take n (size - head_size l.heads) (body can.block.here) (omega arith)

  -- the body has so many
  pub cut_long : n ≤ length (body can.block.here)
  cut_long = let large = can.large in let within = can.within in let long = fit_long in omega arith

  -- the block can be split
  abbrev pub split-can : size < size_of l.heads can.block.here → CanSplit l at size n
  split-can smaller = let large = can.large in
      record { block = can.block; large = omega arith; within = omega arith; smaller = can.apart smaller; front = can.front; rest = can.rest smaller; unlent = can.unlent }

  -- or resized
  abbrev pub resize-can : (size < size_of l.heads can.block.here → ⊥) → CanResize l at n
  resize-can whole =
      let large = can.large in
      let within = can.within in
      let long = fit_long in
      let all : take (size - head_size l.heads) (body can.block.here) ≡ body can.block.here = take_all (size - head_size l.heads) (body can.block.here) (omega arith) in
      record { block = can.block; within = cut_long; possible = ap (λ xs. is_possible l.heads (raw_block can.block.here.role n xs)) (sym all) ∙ can.front; unlent = can.unlent }

  -- the block is split
  pub fit-split : (m : Layout) → size < size_of l.heads can.block.here → ((s : CanSplit l at size n) → m ≡ with_blocks (s.block.before ++ front_of l s ∷ rest_of l s ∷ s.block.after) l) → m ≡ cut_layout
  fit-split m smaller ends =
      let large = can.large in
      let s : CanSplit l at size n = record { block = can.block; large = omega arith; within = omega arith; smaller = can.apart smaller; front = can.front; rest = can.rest smaller; unlent = can.unlent } in
      let test : nat_lt size (size_of l.heads can.block.here) ≡ true = grind (arith, nat_tests) in
      ends s ∙ ap (λ b. with_blocks (can.block.before ++ cut_front ∷ (cond b (rest_of l s ∷ []) [] ++ can.block.after)) l) (sym test)

  -- or all of it stays
  pub fit-resize : (m : Layout) → (size < size_of l.heads can.block.here → ⊥) → ((s : CanResize l at n) → m ≡ with_blocks (s.block.before ++ raw_block s.block.here.role n (body s.block.here) ∷ s.block.after) l) → m ≡ cut_layout
  fit-resize m whole ends =
      let large = can.large in
      let within = can.within in
      let long = fit_long in
      let all : take (size - head_size l.heads) (body can.block.here) ≡ body can.block.here = take_all (size - head_size l.heads) (body can.block.here) (omega arith) in
      let s : CanResize l at n = record { block = can.block; within = cut_long; possible = ap (λ xs. is_possible l.heads (raw_block can.block.here.role n xs)) (sym all) ∙ can.front; unlent = can.unlent } in
      let test : nat_lt size (size_of l.heads can.block.here) ≡ false = grind (arith, nat_tests) in
      ends s ∙ ap (λ xs. with_blocks (can.block.before ++ raw_block can.block.here.role n xs ∷ can.block.after) l) (sym all)
      ∙ ap (λ b. with_blocks (can.block.before ++ cut_front ∷ (cond b (free_raw_block (drop size (body can.block.here)) ∷ []) [] ++ can.block.after)) l) (sym test)

  -- it can be cleared
  abbrev cut_clear : (kept : ℕ) → kept < n → CanClear cut_layout at kept
  cut_clear kept few = record {
    block = record { before = can.block.before; here = cut_front; after = (fitted_rest l can ++ can.block.after); blocks = refl; place = can.block.place };
    within = (let same = ap length cut_contents in let long = cut_long in let exact = length-take-le n (body can.block.here) long in omega arith);
    unlent = refl;
  }

  -- so can a zone that is that
  pub fit-clear : (m : Layout) (kept : ℕ) → m ≡ cut_layout → kept < n → CanClear m at kept
  fit-clear m kept is few = subst (λ m. CanClear m at kept) (sym is) (cut_clear kept few)

  -- where fewer are kept, the others are cleared
  pub fit-cleared : (m k : Layout) (kept : ℕ) → m ≡ cut_layout → kept < n → ((c : CanClear m at kept) → k ≡ with_blocks (c.block.before ++ cleared_from c.block.here kept ∷ c.block.after) m) → k ≡ raw_fitted l can kept
  fit-cleared m k kept is few ends =
      let here : (c : CanClear cut_layout at kept) → k ≡ with_blocks (c.block.before ++ cleared_from c.block.here kept ∷ c.block.after) cut_layout =
      subst (λ m. (c : CanClear m at kept) → k ≡ with_blocks (c.block.before ++ cleared_from c.block.here kept ∷ c.block.after) m) is ends in
      let long = cut_long in
      let exact : length cut_front.contents ≡ n = ap length cut_contents ∙ length-take-le n (body can.block.here) long in
      let contents = (λ i. take kept (cut_contents i) ++ replicate (exact i - kept) 0) ∙ few_kept n kept (body can.block.here) (omega arith) long in
      here (cut_clear kept few) ∙ ap (λ xs. with_blocks (can.block.before ++ record cut_front { contents = xs } ∷ (fitted_rest l can ++ can.block.after)) l) contents

  -- and where all are, nothing is
  pub fit-kept : (m : Layout) (kept : ℕ) → m ≡ cut_layout → n ≤ kept → m ≡ raw_fitted l can kept
  fit-kept m kept is many =
      is ∙ ap (λ xs. with_blocks (can.block.before ++ record cut_front { contents = xs } ∷ (fitted_rest l can ++ can.block.after)) l) (cut_contents ∙ all_kept n kept (body can.block.here) many cut_long)
