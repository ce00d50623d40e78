-- A text that was read is written again as the same bits.
use Rattle.std.proofs.Common.{eq-eqb, ◌≡◌, ℕ, zero, suc, ◌+◌, ◌-◌, ◌^◌, ◌<◌, ◌≤◌, ◌==◌, Bool, true, false, List, [], ◌∷◌, ◌++◌, length, take, drop, replicate, cond, get_or, Option, Some, None, refl, sym, ap, ◌∙◌, subst, append_assoc, arith}
use Rattle.std.specs.Prelude.{nat_le, nat_lt, ◌&&◌}
use Rattle.std.specs.List.{list_all, position}
use Rattle.std.proofs.lemmas.List.{length-take-le, length-drop, take-append-drop}
use Rattle.std.proofs.lemmas.List.Quantifiers.{position-Some}
use Rattle.std.proofs.lemmas.List.Folds.{list_all-append}
use Rattle.std.proofs.lemmas.Bool.{leb-true, le-leb}
use Rattle.std.proofs.lemmas.Bool.Decides.{nat_tests}
use Rattle.res_types.specs.declared.field.CountSize.{CountSize}
use Rattle.res_types.specs.declared.field.CountSize.TheVariants.{Byte, Integer, Longint}
use Rattle.res_types.specs.declared.field.TextForm.{TextForm}
use Rattle.res_types.specs.declared.field.TextForm.TheVariants.{Fixed, Counted, Ended, CountedWithin, EndedWithin}
use Rattle.res_types.specs.Bits.{◌>>=◌, bits_of, byte_bits, number_at, bytes_at, ended_at}
use Rattle.res_types.specs.Texts.{width_of, greatest, are_bytes, are_zeros, has_no_zero, counted_within, ended_within, text_at, bits_in, text_bits}
use Rattle.res_types.proofs.Pairs.{same_some, some_pair}
use Rattle.res_types.proofs.Numbers.{when, number_takes, number_within}

-- what was there before something is
pub bind_some : {A B : Type 0} (o : Option A) (f : A → Option B) (y : B) → (o >>= f) ≡ Some y → (x : A) × (o ≡ Some x) × (f x ≡ Some y)
bind_some (Some x) f y is = (x, refl, is)
bind_some None f y is = cc

pub both : (a b : Bool) → (a && b) ≡ true → (a ≡ true) × (b ≡ true)
both true true is = (refl, refl)
both true false is = cc
both false b is = cc

-- bytes that were read
pub record TakesBytes (bits : List Bool) (bytes : List ℕ) (rest : List Bool) : Type 0 where
  pub all : bits ≡ byte_bits bytes ++ rest
  pub small : are_bytes bytes ≡ true

one_taken : (bits after rest : List Bool) (byte : ℕ) (bytes : List ℕ) → number_at 8 bits ≡ Some (byte, after) → TakesBytes after bytes rest → TakesBytes bits (byte ∷ bytes) rest
one_taken bits after rest byte bytes here t =
    let within = (number_within 8 bits (byte, after) here).1 in
    record {
      all = number_takes 8 bits (byte, after) here ∙ ap (λ (b : List Bool). bits_of 8 byte ++ b) t.all ∙ sym (append_assoc (bits_of 8 byte) (byte_bits bytes) rest);
      small = rw (le-leb (suc byte) 256 within) t.small;
    }

pub bytes_taken : (n : ℕ) (bits : List Bool) (bytes : List ℕ) (rest : List Bool) → bytes_at n bits ≡ Some (bytes, rest) → (length bytes ≡ n) × TakesBytes bits bytes rest
bytes_taken zero bits bytes rest is =
    let both_are = some_pair ([], bits) (bytes, rest) is in
    let none = both_are.0 in
    let left = both_are.1 in
    (ap (λ (b : List ℕ). length b) (sym none), record { all = left ∙ ap (λ (b : List ℕ). byte_bits b ++ rest) none; small = ap (λ (b : List ℕ). are_bytes b) (sym none) })
bytes_taken (suc n) bits bytes rest is =
    let x = bind_some (number_at 8 bits) _ _ is in
    let y = bind_some (bytes_at n x.0.1) _ _ x.2 in
    let t = bytes_taken n x.0.1 y.0.0 y.0.1 y.1 in
    let both_are = some_pair (x.0.0 ∷ y.0.0, y.0.1) (bytes, rest) y.2 in
    let ps_is = both_are.0 in
    let left = both_are.1 in
    let taken = one_taken bits x.0.1 y.0.1 x.0.0 y.0.0 x.1 t.1 in
    (ap (λ (b : List ℕ). length b) (sym ps_is) ∙ ap (λ (k : ℕ). suc k) t.0, subst (λ (b : List ℕ). TakesBytes bits b rest) ps_is (subst (λ (r : List Bool). TakesBytes bits (x.0.0 ∷ y.0.0) r) left taken))

ended_byte : (turns : ℕ) → ((bits : List Bool) (bytes : List ℕ) (rest : List Bool) → ended_at turns bits ≡ Some (bytes, rest) → (has_no_zero bytes ≡ true) × TakesBytes bits (bytes ++ 0 ∷ []) rest)
    → (bits : List Bool) (bytes : List ℕ) (rest : List Bool) (byte : ℕ) (after : List Bool) → number_at 8 bits ≡ Some (byte, after) → (test : Bool) → (byte == 0) ≡ test
    → cond {A = Option (List ℕ × List Bool)} test (Some ([], after)) (ended_at turns after >>= λ others. Some (byte ∷ others.0, others.1)) ≡ Some (bytes, rest) → (has_no_zero bytes ≡ true) × TakesBytes bits (bytes ++ 0 ∷ []) rest
ended_byte turns later bits bytes rest byte after here true zeroed is =
    let both_are = some_pair ([], after) (bytes, rest) is in
    let none = both_are.0 in
    let left = both_are.1 in
    let z : byte ≡ 0 = grind (arith, nat_tests) in
    let nothing : TakesBytes after [] after = record { all = refl; small = refl } in
    let taken = one_taken bits after after byte [] here nothing in
    let same : TakesBytes bits (0 ∷ []) after = subst (λ (b : ℕ). TakesBytes bits (b ∷ []) after) z taken in
    (ap (λ (b : List ℕ). has_no_zero b) (sym none), subst (λ (b : List ℕ). TakesBytes bits (b ++ 0 ∷ []) rest) none (subst (λ (r : List Bool). TakesBytes bits (0 ∷ []) r) left same))
ended_byte turns later bits bytes rest byte after here false some is =
    let y = bind_some (ended_at turns after) _ _ is in
    let t = later after y.0.0 y.0.1 y.1 in
    let both_are = some_pair (byte ∷ y.0.0, y.0.1) (bytes, rest) y.2 in
    let ps_is = both_are.0 in
    let left = both_are.1 in
    let taken = one_taken bits after y.0.1 byte (y.0.0 ++ 0 ∷ []) here t.1 in
    let free : has_no_zero (byte ∷ y.0.0) ≡ true = rw some t.0 in (
      subst (λ (b : List ℕ). has_no_zero b ≡ true) ps_is free,
      subst (λ (b : List ℕ). TakesBytes bits (b ++ 0 ∷ []) rest) ps_is (subst (λ (r : List Bool). TakesBytes bits ((byte ∷ y.0.0) ++ 0 ∷ []) r) left taken),
    )

ended_taken : (turns : ℕ) (bits : List Bool) (bytes : List ℕ) (rest : List Bool) → ended_at turns bits ≡ Some (bytes, rest) → (has_no_zero bytes ≡ true) × TakesBytes bits (bytes ++ 0 ∷ []) rest
ended_taken zero bits bytes rest is = cc
ended_taken (suc turns) bits bytes rest is =
    let x = bind_some (number_at 8 bits) _ _ is in
    ended_byte turns (ended_taken turns) bits bytes rest x.0.0 x.0.1 x.1 (x.0.0 == 0) refl x.2

-- zeros
zeros_are : (bytes : List ℕ) → are_zeros bytes ≡ true → bytes ≡ replicate (length bytes) 0
zeros_are [] is = refl
zeros_are (byte ∷ bytes) is =
    let t = both (byte == 0) (are_zeros bytes) is in
    let z : byte ≡ 0 = grind (arith, nat_tests, t.0) in
    ap (λ (b : ℕ). b ∷ bytes) z ∙ ap (λ (b : List ℕ). 0 ∷ b) (zeros_are bytes t.1)

-- what a text has, if it was read
pub record TextTaken (form : TextForm) (bits : List Bool) (text : List ℕ) (rest : List Bool) : Type 0 where
  pub bs : List Bool
  pub all : bits ≡ bs ++ rest
  pub written : text_bits form text ≡ Some bs

written_so : (form : TextForm) (text : List ℕ) (bs : List Bool) → are_bytes text ≡ true → bits_in form text ≡ Some bs → text_bits form text ≡ Some bs
unfolding text_bits
written_so form text bs small is = rw (small) is

fixed_taken : (n : ℕ) (bits : List Bool) (text : List ℕ) (rest : List Bool) → bytes_at n bits ≡ Some (text, rest) → TextTaken (Fixed n) bits text rest
unfolding bits_in
fixed_taken n bits text rest is =
    let t = bytes_taken n bits text rest is in
    let same : (length text == n) ≡ true = eq-eqb (length text) n t.0 in
    record { bs = byte_bits text; all = t.1.all; written = written_so (Fixed n) text (byte_bits text) t.1.small (rw same refl) }

-- a count in its bits is no greater than the greatest
pub small_count : (size : CountSize) (n : ℕ) → n < 2 ^ width_of size → n ≤ greatest size
small_count Byte n less = omega arith
small_count Integer n less = omega arith
small_count Longint n less = omega arith

counted_taken : (size : CountSize) (bits : List Bool) (text : List ℕ) (rest : List Bool) (n : ℕ) (after : List Bool) → number_at (width_of size) bits ≡ Some (n, after) → bytes_at n after ≡ Some (text, rest) → TextTaken (Counted size) bits text rest
unfolding bits_in
counted_taken size bits text rest n after here is =
    let t = bytes_taken n after text rest is in
    let within = (number_within (width_of size) bits (n, after) here).1 in
    let small : length text ≤ greatest size = subst (λ (k : ℕ). k ≤ greatest size) (sym t.0) (small_count size n within) in
    let front = bits_of (width_of size) (length text) in
    record {
      bs = front ++ byte_bits text;
      all = number_takes (width_of size) bits (n, after) here ∙ ap (λ (k : ℕ). bits_of (width_of size) k ++ after) (sym t.0) ∙ ap (λ (b : List Bool). front ++ b) t.1.all ∙ sym (append_assoc front (byte_bits text) rest);
      written = written_so (Counted size) text (front ++ byte_bits text) t.1.small (rw (le-leb (length text) (greatest size) small) refl);
    }

front_small : (p : ℕ → Bool) (xs ys : List ℕ) → list_all p (xs ++ ys) ≡ true → (list_all p xs ≡ true) × (list_all p ys ≡ true)
front_small p xs ys is = both (list_all p xs) (list_all p ys) (sym (list_all-append p xs ys) ∙ is)

ended_text : (bits : List Bool) (text : List ℕ) (rest : List Bool) → ended_at (length bits) bits ≡ Some (text, rest) → TextTaken Ended bits text rest
unfolding bits_in
ended_text bits text rest is =
    let t = ended_taken (length bits) bits text rest is in
    let small = (front_small (λ byte. nat_lt byte 256) text (0 ∷ []) t.1.small).0 in
    record { bs = byte_bits (text ++ 0 ∷ []); all = t.1.all; written = written_so Ended text (byte_bits (text ++ 0 ∷ [])) small (rw t.0 refl) }

-- bytes in which a text is, that was read
split_zeros : (k n : ℕ) (bytes : List ℕ) → k ≤ length bytes → length bytes ≡ n → are_zeros (drop k bytes) ≡ true → bytes ≡ take k bytes ++ replicate (n - length (take k bytes)) 0
split_zeros k n bytes le long zeros =
    let front : length (take k bytes) ≡ k = length-take-le k bytes le in
    let back : length (drop k bytes) ≡ n - length (take k bytes) = let d = length-drop k bytes in omega arith in
    sym (take-append-drop k bytes) ∙ ap (λ (b : List ℕ). take k bytes ++ b) (zeros_are (drop k bytes) zeros ∙ ap (λ (m : ℕ). replicate m 0) back)

counted_within_taken : (n : ℕ) (bits : List Bool) (text : List ℕ) (rest : List Bool) (bytes : List ℕ) → bytes_at (n + 1) bits ≡ Some (bytes, rest) → counted_within bytes ≡ Some text → TextTaken (CountedWithin n) bits text rest
unfolding bits_in counted_within
counted_within_taken n bits text rest [] is here = cc
counted_within_taken n bits text rest (count ∷ bytes) is here =
    let t = bytes_taken (n + 1) bits (count ∷ bytes) rest is in
    let w = when (nat_le count (length bytes) && are_zeros (drop count bytes)) (Some (take count bytes)) text here in
    let b = both (nat_le count (length bytes)) (are_zeros (drop count bytes)) w.0 in
    let le : count ≤ length bytes = leb-true count (length bytes) b.0 in
    let ps_is = same_some (take count bytes) text w.1 in
    let long : length bytes ≡ n = let e = t.0 in omega arith in
    let front : length text ≡ count = ap (λ (x : List ℕ). length x) (sym ps_is) ∙ length-take-le count bytes le in
    let split : bytes ≡ text ++ replicate (n - length text) 0 = subst (λ (x : List ℕ). bytes ≡ x ++ replicate (n - length x) 0) ps_is (split_zeros count n bytes le long b.1) in
    let whole : count ∷ bytes ≡ length text ∷ (text ++ replicate (n - length text) 0) = ap (λ (c : ℕ). c ∷ bytes) (sym front) ∙ ap (λ (x : List ℕ). length text ∷ x) split in
    let smalls = both (nat_lt count 256) (are_bytes bytes) t.1.small in
    let small = (front_small (λ byte. nat_lt byte 256) text (replicate (n - length text) 0) (ap (λ (x : List ℕ). are_bytes x) (sym split) ∙ smalls.1)).0 in
    let less : length text ≤ n = omega arith in
    record {
      bs = byte_bits (length text ∷ (text ++ replicate (n - length text) 0));
      all = t.1.all ∙ ap (λ (x : List ℕ). byte_bits x ++ rest) whole;
      written = written_so (CountedWithin n) text (byte_bits (length text ∷ (text ++ replicate (n - length text) 0))) small (rw (le-leb (length text) n less) refl);
    }

-- no 0 is before the first one
free_front : (k : ℕ) (bytes : List ℕ) → ((j : ℕ) → j < k → (get_or bytes j 0 == 0) ≡ false) → k ≤ length bytes → has_no_zero (take k bytes) ≡ true
free_front zero bytes free le = refl
free_front (suc k) [] free le = refl
free_front (suc k) (byte ∷ bytes) free le =
    let first : (byte == 0) ≡ false = free 0 (omega arith) in
    rw first (free_front k bytes (λ j less. free (suc j) (omega arith)) (omega arith))

ended_place : (n : ℕ) (bits : List Bool) (text : List ℕ) (rest : List Bool) (bytes : List ℕ) → bytes_at n bits ≡ Some (bytes, rest) → (place : Option ℕ) → position (λ byte. byte == 0) bytes ≡ place
    → elim place [ None ↦ None | Some k ↦ cond (are_zeros (drop k bytes)) (Some (take k bytes)) None ] ≡ Some text → TextTaken (EndedWithin n) bits text rest
unfolding bits_in
ended_place n bits text rest bytes is None at here = cc
ended_place n bits text rest bytes is (Some k) at here =
    let t = bytes_taken n bits bytes rest is in
    let w = when (are_zeros (drop k bytes)) (Some (take k bytes)) text here in
    let p = position-Some (λ byte. byte == 0) bytes k 0 at in
    let ps_is = same_some (take k bytes) text w.1 in
    let le : k ≤ length bytes = omega (arith, p.0) in
    let front : length text ≡ k = ap (λ (x : List ℕ). length x) (sym ps_is) ∙ length-take-le k bytes le in
    let split : bytes ≡ text ++ replicate (n - length text) 0 = subst (λ (x : List ℕ). bytes ≡ x ++ replicate (n - length x) 0) ps_is (split_zeros k n bytes le t.0 w.0) in
    let free : has_no_zero text ≡ true = subst (λ (x : List ℕ). has_no_zero x ≡ true) ps_is (free_front k bytes p.2 le) in
    let small = (front_small (λ byte. nat_lt byte 256) text (replicate (n - length text) 0) (ap (λ (x : List ℕ). are_bytes x) (sym split) ∙ t.1.small)).0 in
    let less : length text < n = let a = p.0 in let e = t.0 in omega arith in
    record {
      bs = byte_bits (text ++ replicate (n - length text) 0);
      all = t.1.all ∙ ap (λ (x : List ℕ). byte_bits x ++ rest) split;
      written = written_so (EndedWithin n) text (byte_bits (text ++ replicate (n - length text) 0)) small (rw (free, le-leb (suc (length text)) n less) refl);
    }

ended_within_taken : (n : ℕ) (bits : List Bool) (text : List ℕ) (rest : List Bool) (bytes : List ℕ) → bytes_at n bits ≡ Some (bytes, rest) → ended_within bytes ≡ Some text → TextTaken (EndedWithin n) bits text rest
unfolding ended_within
ended_within_taken n bits text rest bytes is here = ended_place n bits text rest bytes is (position (λ byte. byte == 0) bytes) refl here

pub text_taken : (form : TextForm) (bits : List Bool) (text : List ℕ) (rest : List Bool) → text_at form bits ≡ Some (text, rest) → TextTaken form bits text rest
unfolding text_at
text_taken (Fixed n) bits text rest is = fixed_taken n bits text rest is
text_taken (Counted size) bits text rest is =
    let x = bind_some (number_at (width_of size) bits) _ _ is in
    counted_taken size bits text rest x.0.0 x.0.1 x.1 x.2
text_taken Ended bits text rest is = ended_text bits text rest is
text_taken (CountedWithin n) bits text rest is =
    let x = bind_some (bytes_at (n + 1) bits) _ _ is in
    let y = bind_some (counted_within x.0.0) _ _ x.2 in
    let both_are = some_pair (y.0, x.0.1) (text, rest) y.2 in
    let ps_is = both_are.0 in
    let left = both_are.1 in
    counted_within_taken n bits text rest x.0.0 (x.1 ∙ ap (λ (r : List Bool). Some (x.0.0, r)) left) (y.1 ∙ ap (λ (s : List ℕ). Some s) ps_is)
text_taken (EndedWithin n) bits text rest is =
    let x = bind_some (bytes_at n bits) _ _ is in
    let y = bind_some (ended_within x.0.0) _ _ x.2 in
    let both_are = some_pair (y.0, x.0.1) (text, rest) y.2 in
    let ps_is = both_are.0 in
    let left = both_are.1 in
    ended_within_taken n bits text rest x.0.0 (x.1 ∙ ap (λ (r : List Bool). Some (x.0.0, r)) left) (y.1 ∙ ap (λ (s : List ℕ). Some s) ps_is)
