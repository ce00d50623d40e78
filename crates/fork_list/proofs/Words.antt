-- The words for attributes, one attribute further.
use Rattle.std.proofs.Common.{◌≡◌, ◌≢◌, ℕ, ◌+◌, ◌<◌, ◌==◌, true, false, List, ◌++◌, length, get_or, drop, codes, refl, add-one, append_assoc, bit_and, arith}
use Rattle.std.proofs.Math.Seq.{drop-cons}
use Rattle.std.proofs.lemmas.Bool.Decides.{nat_tests}
use Rattle.fork_list.specs.declared.attribute.Attribute.{Attribute}
use Rattle.fork_list.specs.Attributes.{bit_of, word_of, words_of}

-- the attribute isn't set
pub skipped : (before done : List ℕ) (bits : ℕ) (items : List Attribute) (i : ℕ) (d : Attribute) (whole : List ℕ) (b : ℕ) → i < length items
    → b ≡ bit_of (get_or items i d) → bit_and bits b ≡ 0 → done ++ words_of before bits (drop i items) ≡ whole
    → done ++ words_of before bits (drop (i + 1) items) ≡ whole
skipped before done bits items i d whole b within is test so_far =
    let unset : (bit_and bits (bit_of (get_or items i d)) == 0) ≡ true = rw (← is, test) refl in
    rw add-one (rw (drop-cons items i d within, unset) at so_far)

isn't_zero : (n : ℕ) → n ≢ 0 → (n == 0) ≡ false
isn't_zero n some = grind (arith, nat_tests)

-- the attribute is set
pub said : (before done : List ℕ) (bits : ℕ) (items : List Attribute) (i : ℕ) (d : Attribute) (whole : List ℕ) (b : ℕ) (word : List ℕ) → i < length items
    → b ≡ bit_of (get_or items i d) → word ≡ word_of (get_or items i d) → bit_and bits b ≢ 0 → done ++ words_of before bits (drop i items) ≡ whole
    → (done ++ (before ++ word)) ++ words_of (codes ",") bits (drop (i + 1) items) ≡ whole
said before done bits items i d whole b word within is word_is test so_far =
    let set : (bit_and bits (bit_of (get_or items i d)) == 0) ≡ false = rw (← is) (isn't_zero _ test) in
    simp (add-one, append_assoc, word_is) (rw (drop-cons items i d within, set) at so_far)
