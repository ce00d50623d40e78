-- Two neighbouring parts of a list that change places: bytes that turn or slide, and numbers that are moved down or up.
use Rattle.std.proofs.Common.{◌≡◌, ℕ, suc, ◌+◌, ◌-◌, ◌<◌, ◌≤◌, List, ◌∷◌, ◌++◌, length, take, drop, replicate, sym, ap, ◌∙◌, arith, append_assoc, length-append, length-take-le, length-drop, take-append-drop, take_at, drop_at, slice_index}
use Rattle.std.proofs.Math.ListN.{set}
use Rattle.std.proofs.lemmas.List.{set_at, get_or-take, get_or_append_left}
use Rattle.raw_region.specs.Bytes.{part, written}
use Rattle.place_numbers.specs.Shifted.{shifted_down, shifted_up}
use Rattle.block_bytes.proofs.Rendered.{part-middle, written-middle}
use Rattle.block_bytes.proofs.Starts.{unmarked, length-unmarked}

module _ (bytes low x y high : List ℕ) (is : bytes ≡ low ++ (x ++ (y ++ high))) (p : ℕ) (there : p ≡ length low) where
  -- the first part is read
  first-part : (n : ℕ) → n ≡ length x → part bytes p n ≡ x
  first-part n long = ap (λ (l : List ℕ). part l p n) is ∙ part-middle low x (y ++ high) p n there long

  -- and the second
  second-part : (q n : ℕ) → q ≡ p + length x → n ≡ length y → part bytes q n ≡ y
  second-part q n there' long = let sum = length-append low x in
      ap (λ (l : List ℕ). part l q n) (is ∙ sym (append_assoc low x (y ++ high))) ∙ part-middle (low ++ x) y high q n (omega arith) long

  -- both are written in each other's place
  pub parts-turned : (q m n : ℕ) → q ≡ p + length x → m ≡ length y → n ≡ length x → written bytes p (part bytes q m ++ part bytes p n) ≡ low ++ (y ++ (x ++ high))
  parts-turned q m n there' long long' = let a = length-append x y in let b = length-append y x in
      (λ i. written (is i) p (second-part q m there' long i ++ first-part n long' i))
      ∙ ap (λ (l : List ℕ). written (low ++ l) p (y ++ x)) (sym (append_assoc x y high)) ∙ written-middle low (x ++ y) high (y ++ x) p there (omega arith)
      ∙ ap (λ (l : List ℕ). low ++ l) (append_assoc y x high)

  -- both, cut at a place
  parts-cut : (k : ℕ) → bytes ≡ low ++ (take k (x ++ y) ++ (drop k (x ++ y) ++ high))
  parts-cut k = is ∙ ap (λ (l : List ℕ). low ++ l) (sym (append_assoc x y high) ∙ ap (λ (l : List ℕ). l ++ high) (sym (take-append-drop k (x ++ y))) ∙ append_assoc (take k (x ++ y)) (drop k (x ++ y)) high)

  -- the second slides down over the first
  pub slid-down : (q m : ℕ) → q ≡ p + length x → m ≡ length y → written bytes p (part bytes q m) ≡ low ++ (y ++ (drop (length y) (x ++ y) ++ high))
  slid-down q m there' long = let a = length-append x y in let cut = length-take-le (length y) (x ++ y) (omega arith) in
      (λ i. written (parts-cut (length y) i) p (second-part q m there' long i))
      ∙ written-middle low (take (length y) (x ++ y)) (drop (length y) (x ++ y) ++ high) y p there (omega arith)

  -- the first slides up over the second
  pub slid-up : (q n : ℕ) → q ≡ p + length y → n ≡ length x → written bytes q (part bytes p n) ≡ low ++ (take (length y) (x ++ y) ++ (x ++ high))
  slid-up q n there' long =
      let a = length-append x y in let cut = length-take-le (length y) (x ++ y) (omega arith) in let rest = length-drop (length y) (x ++ y) in let sum = length-append low (take (length y) (x ++ y)) in
      (λ i. written ((parts-cut (length y) ∙ sym (append_assoc low (take (length y) (x ++ y)) (drop (length y) (x ++ y) ++ high))) i) q (first-part n long i))
      ∙ written-middle (low ++ take (length y) (x ++ y)) (drop (length y) (x ++ y)) high x q (omega arith) (omega arith)
      ∙ append_assoc low (take (length y) (x ++ y)) (x ++ high)

-- as many numbers as before are there when some have moved down
pub length-shifted_down : (from to n : ℕ) (xs : List ℕ) → to ≤ from → from + n ≤ length xs → length (shifted_down from to n xs) ≡ length xs
length-shifted_down from to n xs order inside =
    let a = length-take-le to xs (omega arith) in let b = length-drop from xs in let c = length-take-le n (drop from xs) (omega arith) in let d = length-unmarked (from - to) in let e = length-drop (from + n) xs in
    let f = length-append (take to xs) (take n (drop from xs)) in let g = length-append (take to xs ++ take n (drop from xs)) (unmarked (from - to)) in
    let h = length-append (take to xs ++ take n (drop from xs) ++ unmarked (from - to)) (drop (from + n) xs) in omega arith

-- or up
pub length-shifted_up : (from to n : ℕ) (xs : List ℕ) → from ≤ to → to + n ≤ length xs → length (shifted_up from to n xs) ≡ length xs
length-shifted_up from to n xs order inside =
    let a = length-take-le from xs (omega arith) in let b = length-drop from xs in let c = length-take-le n (drop from xs) (omega arith) in let d = length-unmarked (to - from) in let e = length-drop (to + n) xs in
    let f = length-append (take from xs) (unmarked (to - from)) in let g = length-append (take from xs ++ unmarked (to - from)) (take n (drop from xs)) in
    let h = length-append (take from xs ++ unmarked (to - from) ++ take n (drop from xs)) (drop (to + n) xs) in omega arith

-- the numbers before a place stay, where those from it on are others
pub shifted-before : (place : ℕ) (xs first second third : List ℕ) → place ≤ length xs → (j : ℕ) → j < place → slice_index (take place xs ++ first ++ second ++ third) j ≡ slice_index xs j
shifted-before place xs first second third inside j before =
    let long = length-take-le place xs inside in let a = length-append (take place xs) first in let b = length-append (take place xs ++ first) second in
    get_or_append_left (take place xs ++ first ++ second) third 0 j (omega arith) ∙ get_or_append_left (take place xs ++ first) second 0 j (omega arith)
    ∙ get_or_append_left (take place xs) first 0 j (omega arith) ∙ get_or-take place xs j 0 before

module _ (before others after : List ℕ) (x y j : ℕ) where
  -- numbers move down over a number and those of none after it, and one is written after them
  pub numbers-down : (from to n place : ℕ) → to ≡ length before → from ≡ to + suc j → n ≡ length others → place ≡ to + n
      → set (shifted_down from to n (before ++ x ∷ (unmarked j ++ (others ++ after)))) place y ≡ before ++ (others ++ y ∷ (unmarked j ++ after))
  numbers-down from to n place there there' long there'' =
      let here = x ∷ unmarked j in let all = before ++ (here ++ (others ++ after)) in
      let none = length-unmarked j in let a = length-append before here in let b = length-append (before ++ here) others in let c = length-append before others in
      let low : take to all ≡ before = take_at before (here ++ (others ++ after)) to (sym there) in
      let moved : take n (drop from all) ≡ others = ap (λ (l : List ℕ). part l from n) (sym (append_assoc before here (others ++ after))) ∙ part-middle (before ++ here) others after from n (omega arith) long in
      let high : drop (from + n) all ≡ after =
      ap (drop (from + n)) (sym (append_assoc before here (others ++ after)) ∙ sym (append_assoc (before ++ here) others after)) ∙ drop_at ((before ++ here) ++ others) after (from + n) (omega arith) in
      let gap : from - to ≡ suc j = omega arith in
      (λ i. set (low i ++ moved i ++ replicate (gap i) 0 ++ high i) place y)
      ∙ ap (λ (l : List ℕ). set l place y) (append_assoc (before ++ others) (0 ∷ unmarked j) after)
      ∙ set_at (before ++ others) 0 (unmarked j ++ after) y place (omega arith) ∙ append_assoc before others (y ∷ (unmarked j ++ after))

  -- numbers move up over a number and those of none after it, and one is written before them
  pub numbers-up : (from to n : ℕ) → from ≡ length before → to ≡ from + suc j → n ≡ length others
      → set (shifted_up from to n (before ++ (others ++ x ∷ (unmarked j ++ after)))) from y ≡ before ++ y ∷ (unmarked j ++ (others ++ after))
  numbers-up from to n there there' long =
      let here = x ∷ unmarked j in let all = before ++ (others ++ (here ++ after)) in
      let none = length-unmarked j in let a = length-append before others in let b = length-append (before ++ others) here in
      let low : take from all ≡ before = take_at before (others ++ (here ++ after)) from (sym there) in
      let moved : take n (drop from all) ≡ others = part-middle before others (here ++ after) from n there long in
      let high : drop (to + n) all ≡ after =
      ap (drop (to + n)) (sym (append_assoc before others (here ++ after)) ∙ sym (append_assoc (before ++ others) here after)) ∙ drop_at ((before ++ others) ++ here) after (to + n) (omega arith) in
      let gap : to - from ≡ suc j = omega arith in
      (λ i. set (low i ++ replicate (gap i) 0 ++ moved i ++ high i) from y)
      ∙ ap (λ (l : List ℕ). set l from y) (append_assoc (before ++ (0 ∷ unmarked j)) others after ∙ append_assoc before (0 ∷ unmarked j) (others ++ after))
      ∙ set_at before 0 (unmarked j ++ (others ++ after)) y from (sym there)
