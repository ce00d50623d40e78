-- What is read is written again as the same bits.
use Rattle.std.proofs.Common.{◌≡◌, ℕ, zero, suc, ◌+◌, ◌-◌, ◌^◌, ◌≤◌, Bool, true, false, List, [], ◌∷◌, ◌++◌, length, take, drop, replicate, cond, Option, Some, None, Result, Ok, Err, refl, sym, ap, ◌∙◌, subst, append_assoc, arith}
use Rattle.std.specs.Prelude.{nat_le, max, ◌&&◌, ◌==◌, not, is_none, option_map, if◌then◌else◌}
use Rattle.std.specs.List.{list_all}
use Rattle.std.proofs.lemmas.List.{length-append, length-take-le, length-drop, take-append-drop, take-append-le, drop-append-le}
use Rattle.std.proofs.lemmas.Bool.{leb-true, le-leb}
use Rattle.std.proofs.lemmas.Bool.Decides.{nat_tests}
use Rattle.res_types.specs.declared.field.Count.{Count}
use Rattle.res_types.specs.declared.field.Mark.{Mark}
use Rattle.res_types.specs.declared.field.Key.{Key}
use Rattle.res_types.specs.declared.field.NumberField.{NumberField}
use Rattle.res_types.specs.declared.field.TextForm.{TextForm}
use Rattle.res_types.specs.declared.field.Zeros.{Zeros}
use Rattle.res_types.specs.declared.field.Field.{Field}
use Rattle.res_types.specs.declared.field.Field.TheVariants.{Nothing, Then', Number, Text, Zeros as Zero_bits, Repeated', Counted', Marked', Case', NoCase}
use Rattle.res_types.specs.declared.value.Part.{Part}
use Rattle.res_types.specs.declared.value.Part.TheVariants as parts
use Rattle.res_types.specs.declared.reading.End.{End}
use Rattle.res_types.specs.declared.reading.End.TheVariants.{At, Whole}
use Rattle.res_types.specs.declared.writing.Element.TheVariants.{Any, Unlike}
use Rattle.res_types.specs.Bits.{number_at, number_from, bits_of}
use Rattle.res_types.specs.declared.writing.Element.{Element}
use Rattle.res_types.specs.Texts.{width_of, greatest, text_at, text_bits}
use Rattle.res_types.specs.Reading.{◌>>=◌, Read, or_fails, with_front, with_least, part_of_number, read_number, read_text, zero_count, after_zeros, read_zeros, read_elements, elements_of, count_at, after_mark, after_end, least_of, read_list, read_whole_list, has_key, read_case, read_counted, read}
use Rattle.res_types.specs.Writing.{Written, with_bits, number_bits, or_none, write_number, write_text, fits, if_fits, write_elements, number_of_count, count_bits, is_keyed, write_counted, write_marked, write_case, write}
use Rattle.res_types.proofs.Steps.{list_step, list_opens}
use Rattle.res_types.proofs.Pairs.{same_ok, ok_pair, ok_three, same_some, some_pair}
use Rattle.res_types.proofs.Numbers.{when, number_takes, number_within}
use Rattle.res_types.proofs.TextLaws.{text_taken, both, small_count}

-- these parts, and others after them, are written as the bits before the rest
pub record Spells (write : List Part → Written) (front : List Part) (bits rest : List Bool) : Type 0 where
  pub bs : List Bool
  pub all : bits ≡ bs ++ rest
  pub written : (qs : List Part) → write (front ++ qs) ≡ Ok (bs, qs)

-- what was there before a success
pub bind_ok : {A B : Type 0} (r : Result A ℕ) (f : A → Result B ℕ) (y : B) → (r >>= f) ≡ Ok y → (x : A) × (r ≡ Ok x) × (f x ≡ Ok y)
bind_ok (Ok x) f y is = (x, refl, is)
bind_ok (Err e) f y is = cc

pub or_ok : {A : Type 0} (bits : List Bool) (o : Option A) (x : A) → or_fails bits o ≡ Ok x → o ≡ Some x
or_ok bits None x is = cc
or_ok bits (Some y) x is = cc

pub cond_ok : {A : Type 0} (b : Bool) (x y : A) (e : ℕ) → cond b (Ok x) (Err e) ≡ Ok y → (b ≡ true) × (x ≡ y)
cond_ok true x y e is = (refl, same_ok x y is)
cond_ok false x y e is = cc

pub front_ok : (front all : List Part) (r : Read) (rest : List Bool) → with_front front r ≡ Ok (all, rest) → (more : List Part) × (r ≡ Ok (more, rest)) × (all ≡ front ++ more)
front_ok front all (Ok x) rest is =
    let both_are = ok_pair (front ++ x.0, x.1) (all, rest) is in
    let left = both_are.1 in
    let ps_is = sym both_are.0 in
    (x.0, ap (λ (t : List Bool). let r : Read = Ok (x.0, t) in r) left, ps_is)
front_ok front all (Err e) rest is = cc

pub least_ok : (least : ℕ) (bits : List Bool) (r : Read) (x : List Part × List Bool) → with_least least bits r ≡ Ok x → (r ≡ Ok x) × (least ≤ length bits - length x.1)
least_ok least bits (Ok y) x is =
    let c = cond_ok (nat_le least (length bits - length y.1)) y x (length bits) is in
    let le : least ≤ length bits - length y.1 = leb-true least (length bits - length y.1) c.0 in
    (ap (λ (z : List Part × List Bool). Ok z) c.1, subst (λ (z : List Part × List Bool). least ≤ length bits - length z.1) c.1 le)
least_ok least bits (Err e) x is = cc

-- how long what was written is
pub spelled_long : (write : List Part → Written) (front : List Part) (bits rest : List Bool) (s : Spells write front bits rest) → length bits ≡ length s.bs + length rest
spelled_long write front bits rest s = ap (λ (t : List Bool). length t) s.all ∙ length-append s.bs rest

-- the same under other names
pub same_spelled : (w v : List Part → Written) (p q : List Part) (bits rest : List Bool) → ((ps : List Part) → v ps ≡ w ps) → p ≡ q → Spells w p bits rest → Spells v q bits rest
same_spelled w v p q bits rest same ps_is s = record {
  bs = s.bs;
  all = s.all;
  written = λ qs. ap (λ (ps : List Part). v (ps ++ qs)) (sym ps_is) ∙ same (p ++ qs) ∙ s.written qs;
}

pub then_spelled : (first : List Part → Written) (second : ℕ → List Part → Written) (at : ℕ) (p q : List Part) (bits mid rest : List Bool)
    (a : Spells first p bits mid) → Spells (second (at + length a.bs)) q mid rest → Spells (λ ps. first ps >>= λ x. with_bits x.0 (second (at + length x.0) x.1)) (p ++ q) bits rest
then_spelled first second at p q bits mid rest a b = record {
  bs = a.bs ++ b.bs;
  all = a.all ∙ ap (λ (t : List Bool). a.bs ++ t) b.all ∙ sym (append_assoc a.bs b.bs rest);
  written = λ qs.
      ap (λ (ps : List Part). first ps >>= λ x. with_bits x.0 (second (at + length x.0) x.1)) (append_assoc p q qs)
      ∙ rw (a.written (q ++ qs), b.written qs) refl;
}

pub fitting_spelled : (fit : List Bool → Bool) (w : List Part → Written) (p : List Part) (bits rest : List Bool) (s : Spells w p bits rest) → fit s.bs ≡ true
    → Spells (λ ps. if_fits fit (length ps) (w ps)) p bits rest
fitting_spelled fit w p bits rest s ok = record { bs = s.bs; all = s.all; written = λ qs. rw (s.written qs, ok) refl }

-- bits that are there, before parts that stay
pub bits_spelled : (o : Option (List Bool)) (bits rest bs : List Bool) (w : List Part → Written) (p : List Part) → o ≡ Some bs → bits ≡ bs ++ rest → (left : List Part → ℕ)
    → ((qs : List Part) → w (p ++ qs) ≡ or_none o (left qs) qs) → Spells w p bits rest
bits_spelled o bits rest bs w p some all left is = record {
  bs = bs;
  all = all;
  written = λ qs. is qs ∙ ap (λ (x : Option (List Bool)). or_none x (left qs) qs) some;
}

number_there : (w n : ℕ) (bits rest : List Bool) → number_at w bits ≡ Some (n, rest) → number_bits w n ≡ Some (bits_of w n)
unfolding number_bits
number_there w n bits rest is =
    let within = number_within w bits (n, rest) is in
    rw (le-leb w 32 within.0, le-leb (suc n) (2 ^ w) within.1) refl

number_part : (field : NumberField) (only : Option ℕ) → field.only ≡ only → (bits : List Bool) (p : List Part) (rest : List Bool) (n : ℕ) (after : List Bool) → number_at field.width bits ≡ Some (n, after)
    → part_of_number only n bits after ≡ Ok (p, rest) → Spells (write_number field) p bits rest
unfolding write_number
number_part field None none bits p rest n after here is =
    let both_are = ok_pair (parts.Number n ∷ [], after) (p, rest) is in
    let ps_is = both_are.0 in
    let left = both_are.1 in
    let all = number_takes field.width bits (n, after) here ∙ ap (λ (t : List Bool). bits_of field.width n ++ t) left in
    same_spelled (write_number field) (write_number field) (parts.Number n ∷ []) p bits rest (λ ps. refl) ps_is
    (bits_spelled (number_bits field.width n) bits rest (bits_of field.width n) (write_number field) (parts.Number n ∷ []) (number_there field.width n bits after here) all (λ qs. length qs + 1) (λ qs. rw none refl))
number_part field (Some only) some bits p rest n after here is =
    let c = cond_ok (n == only) ([], after) (p, rest) (length bits) is in
    let same : n ≡ only = grind (arith, nat_tests, c.0) in
    let ps_is : [] ≡ p = ap (λ (z : List Part × List Bool). z.0) c.1 in
    let left : after ≡ rest = ap (λ (z : List Part × List Bool). z.1) c.1 in
    let all = number_takes field.width bits (n, after) here ∙ ap (λ (t : List Bool). bits_of field.width n ++ t) left ∙ ap (λ (k : ℕ). bits_of field.width k ++ rest) same in
    same_spelled (write_number field) (write_number field) [] p bits rest (λ ps. refl) ps_is
    (bits_spelled (number_bits field.width only) bits rest (bits_of field.width only) (write_number field) [] (ap (λ (k : ℕ). number_bits field.width k) (sym same) ∙ number_there field.width n bits after here ∙ ap (λ (k : ℕ). Some (bits_of field.width k)) same) all (λ qs. length qs) (λ qs. rw some refl))

number_spelled : (field : NumberField) (bits : List Bool) (p : List Part) (rest : List Bool) → read_number field bits ≡ Ok (p, rest) → Spells (write_number field) p bits rest
unfolding read_number write_number
number_spelled field bits p rest is =
    let x = bind_ok _ _ _ is in
    let here = or_ok bits (number_at field.width bits) x.0 x.1 in
    number_part field field.only refl bits p rest x.0.0 x.0.1 here x.2

text_spelled : (form : TextForm) (bits : List Bool) (p : List Part) (rest : List Bool) → read_text form bits ≡ Ok (p, rest) → Spells (write_text form) p bits rest
unfolding read_text write_text
text_spelled form bits p rest is =
    let x = bind_ok _ _ _ is in
    let here = or_ok bits (text_at form bits) x.0 x.1 in
    let t = text_taken form bits x.0.0 x.0.1 here in
    let both_are = ok_pair (parts.Text x.0.0 ∷ [], x.0.1) (p, rest) x.2 in
    let ps_is = both_are.0 in
    let left = both_are.1 in
    same_spelled (write_text form) (write_text form) (parts.Text x.0.0 ∷ []) p bits rest (λ ps. refl) ps_is
    (bits_spelled (text_bits form x.0.0) bits rest t.bs (write_text form) (parts.Text x.0.0 ∷ []) t.written (t.all ∙ ap (λ (r : List Bool). t.bs ++ r) left) (λ qs. length qs + 1) (λ qs. refl))

-- bits that are all 0
zeros_are : (bits : List Bool) → list_all not bits ≡ true → bits ≡ replicate (length bits) false
zeros_are [] is = refl
zeros_are (true ∷ bits) is = cc
zeros_are (false ∷ bits) is = ap (λ (t : List Bool). false ∷ t) (zeros_are bits is)

zeros_taken : (n : ℕ) (bits rest : List Bool) → after_zeros n bits ≡ Some rest → bits ≡ replicate n false ++ rest
unfolding after_zeros
zeros_taken n bits rest is =
    let w = when (nat_le n (length bits) && list_all not (take n bits)) (Some (drop n bits)) rest is in
    let b = both (nat_le n (length bits)) (list_all not (take n bits)) w.0 in
    let long : length (take n bits) ≡ n = length-take-le n bits (leb-true n (length bits) b.0) in
    let left = same_some (drop n bits) rest w.1 in
    sym (take-append-drop n bits) ∙ ap (λ (t : List Bool). t ++ drop n bits) (zeros_are (take n bits) b.1 ∙ ap (λ (k : ℕ). replicate k false) long) ∙ ap (λ (t : List Bool). replicate n false ++ t) left

zeros_spelled : (zeros : Zeros) (at : ℕ) (bits : List Bool) (p : List Part) (rest : List Bool) → read_zeros zeros at bits ≡ Ok (p, rest) → Spells (λ ps. Ok (replicate (zero_count zeros at) false, ps)) p bits rest
unfolding read_zeros
zeros_spelled zeros at bits p rest is =
    let x = bind_ok _ _ _ is in
    let here = or_ok bits (after_zeros (zero_count zeros at) bits) x.0 x.1 in
    let both_are = ok_pair ([], x.0) (p, rest) x.2 in
    let ps_is = both_are.0 in
    let left = both_are.1 in
    record {
      bs = replicate (zero_count zeros at) false;
      all = zeros_taken (zero_count zeros at) bits x.0 here ∙ ap (λ (t : List Bool). replicate (zero_count zeros at) false ++ t) left;
      written = λ qs. ap (λ (ps : List Part). Ok (replicate (zero_count zeros at) false, ps ++ qs)) (sym ps_is);
    }

-- a reader whose parts are written again as the same bits
abbrev pub Keeps : ℕ → (List Bool → Read) → (ℕ → List Part → Written) → Type 0
Keeps whole read write = (bits : List Bool) (p : List Part) (rest : List Bool) → length bits ≤ whole → read bits ≡ Ok (p, rest) → Spells (write (whole - length bits)) p bits rest

-- where the next field begins
moved : (whole : ℕ) (bits bs rest : List Bool) → length bits ≤ whole → bits ≡ bs ++ rest → (whole - length bits + length bs ≡ whole - length rest) × (length rest ≤ whole)
moved whole bits bs rest le is =
    let long : length bits ≡ length bs + length rest = ap (λ (t : List Bool). length t) is ∙ length-append bs rest in
    (omega arith, omega arith)

then_keeps : (whole : ℕ) (r s : List Bool → Read) (v w : ℕ → List Part → Written) → Keeps whole r v → Keeps whole s w
    → Keeps whole (λ bits. r bits >>= λ x. with_front x.0 (s x.1)) (λ at ps. v at ps >>= λ x. with_bits x.0 (w (at + length x.0) x.1))
then_keeps whole r s v w first second bits p rest le is =
    let x = bind_ok (r bits) _ _ is in
    let a = first bits x.0.0 x.0.1 le x.1 in
    let m = moved whole bits a.bs x.0.1 le a.all in
    let y = front_ok x.0.0 p (s x.0.1) rest x.2 in
    let b = second x.0.1 y.0 rest m.1 y.1 in
    let b' = subst (λ (at : ℕ). Spells (w at) y.0 x.0.1 rest) (sym m.0) b in
    let both_are = then_spelled (v (whole - length bits)) w (whole - length bits) x.0.0 y.0 bits x.0.1 rest a b' in
    subst (λ (ps : List Part). Spells (λ qs. v (whole - length bits) qs >>= λ z. with_bits z.0 (w (whole - length bits + length z.0) z.1)) ps bits rest) (sym y.2) both_are

-- one element that has enough bits
least_keeps : (whole least : ℕ) (fit : List Bool → Bool) (r : List Bool → Read) (w : ℕ → List Part → Written) → Keeps whole r w
    → (bits : List Bool) (p : List Part) (rest : List Bool) → length bits ≤ whole → with_least least bits (r bits) ≡ Ok (p, rest) → ((bs : List Bool) → bits ≡ bs ++ rest → least ≤ length bs → fit bs ≡ true)
    → Spells (λ ps. if_fits fit (length ps) (w (whole - length bits) ps)) p bits rest
least_keeps whole least fit r w keeps bits p rest le is fitting =
    let x = least_ok least bits (r bits) (p, rest) is in
    let s = keeps bits p rest le x.0 in
    let long = spelled_long (w (whole - length bits)) p bits rest s in
    let enough : least ≤ length s.bs = let e = x.1 in omega arith in
    fitting_spelled fit (w (whole - length bits)) p bits rest s (fitting s.bs s.all enough)

any_fits : (bs : List Bool) → 1 ≤ length bs → fits Any bs ≡ true
unfolding fits
any_fits bs some = le-leb 1 (length bs) some

elements_keep : (whole : ℕ) (r : List Bool → Read) (w : ℕ → List Part → Written) → Keeps whole r w → (n : ℕ) → Keeps whole (read_elements r n) (write_elements w (fits Any) n)
unfolding read_elements write_elements
elements_keep whole r w keeps zero bits p rest le is =
    let both_are = ok_pair ([], bits) (p, rest) is in
    let ps_is = both_are.0 in
    let left = both_are.1 in
    record { bs = []; all = left; written = λ qs. ap (λ (ps : List Part). Ok ([], ps ++ qs)) (sym ps_is) }
elements_keep whole r w keeps (suc n) bits p rest le is =
    let x = bind_ok (with_least 1 bits (r bits)) _ _ is in
    let a = least_keeps whole 1 (fits Any) r w keeps bits x.0.0 x.0.1 le x.1 (λ bs all some. any_fits bs some) in
    let m = moved whole bits a.bs x.0.1 le a.all in
    let y = front_ok x.0.0 p (read_elements r n x.0.1) rest x.2 in
    let b = elements_keep whole r w keeps n x.0.1 y.0 rest m.1 y.1 in
    let b' = subst (λ (at : ℕ). Spells (write_elements w (fits Any) n at) y.0 x.0.1 rest) (sym m.0) b in
    let first : List Part → Written = λ ps. if_fits (fits Any) (length ps) (w (whole - length bits) ps) in
    let both_are = then_spelled first (λ at ps. write_elements w (fits Any) n at ps) (whole - length bits) x.0.0 y.0 bits x.0.1 rest a b' in
    subst (λ (ps : List Part). Spells (write_elements w (fits Any) (suc n) (whole - length bits)) ps bits rest) (sym y.2) both_are

-- the number that counts the elements of a number
number_back : (count : Count) (n : ℕ) → n ≤ greatest count.size → number_of_count count (elements_of count n) ≡ Some n
number_back count n le = grind (arith, nat_tests)

-- what a count says, if its number is there
abbrev counted : Count → Option (ℕ × List Bool) → Option (ℕ × List Bool)
counted count None = None
counted count (Some x) = Some (elements_of count x.0, x.1)

at_number : (count : Count) (bits : List Bool) (n : ℕ) (rest : List Bool) → count_at count bits ≡ Some (n, rest)
    → counted count (number_at (width_of count.size) bits) ≡ Some (n, rest)
unfolding count_at
at_number count bits n rest is = is

-- the bits of a count, if it has a number
abbrev counted_bits : Count → Option ℕ → Option (List Bool)
counted_bits count None = None
counted_bits count (Some number) = Some (bits_of (width_of count.size) number)

count_number : (count : Count) (bits : List Bool) (n : ℕ) (rest : List Bool) (o : Option (ℕ × List Bool)) → number_at (width_of count.size) bits ≡ o → counted count o ≡ Some (n, rest)
    → (bs : List Bool) × (bits ≡ bs ++ rest) × (count_bits count n ≡ Some bs)
unfolding count_bits
count_number count bits n rest None here is = cc
count_number count bits n rest (Some x) here is =
    let both_are = some_pair (elements_of count x.0, x.1) (n, rest) is in
    let elements = both_are.0 in
    let left = both_are.1 in
    let within = (number_within (width_of count.size) bits x here).1 in
    let back = number_back count x.0 (small_count count.size x.0 within) in
    let number : number_of_count count n ≡ Some x.0 = ap (λ (k : ℕ). number_of_count count k) (sym elements) ∙ back in (
      bits_of (width_of count.size) x.0,
      number_takes (width_of count.size) bits x here ∙ ap (λ (t : List Bool). bits_of (width_of count.size) x.0 ++ t) left,
      ap (counted_bits count) number,
    )

count_taken : (count : Count) (bits : List Bool) (n : ℕ) (rest : List Bool) → count_at count bits ≡ Some (n, rest) → (bs : List Bool) × (bits ≡ bs ++ rest) × (count_bits count n ≡ Some bs)
count_taken count bits n rest is = count_number count bits n rest (number_at (width_of count.size) bits) refl (at_number count bits n rest is)

counted_keeps : (whole : ℕ) (count : Count) (r s : List Bool → Read) (v w : ℕ → List Part → Written) → Keeps whole r v → Keeps whole s w → Keeps whole (read_counted count r s) (write_counted count v w)
unfolding write_counted
counted_keeps whole count r s v w first second bits p rest le is =
    let x = bind_ok _ _ _ is in
    let here = or_ok bits (count_at count bits) x.0 x.1 in
    let t = count_taken count bits x.0.0 x.0.1 here in
    let m = moved whole bits t.0 x.0.1 le t.1 in
    let y = front_ok (parts.Elements x.0.0 ∷ []) p _ rest x.2 in
    let inside = then_keeps whole r (read_elements s x.0.0) v (write_elements w (fits Any) x.0.0) first (elements_keep whole s w second x.0.0) x.0.1 y.0 rest m.1 y.1 in
    let at = whole - length bits in
    record {
      bs = t.0 ++ inside.bs;
      all = t.1 ∙ ap (λ (b : List Bool). t.0 ++ b) inside.all ∙ sym (append_assoc t.0 inside.bs rest);
      written = λ qs.
          let body : ℕ → Written = λ k. v k (y.0 ++ qs) >>= λ z. with_bits z.0 (write_elements w (fits Any) x.0.0 (k + length z.0) z.1) in
          let moved_body : body (at + length t.0) ≡ Ok (inside.bs, qs) = ap body m.0 ∙ inside.written qs in
          ap (λ (ps : List Part). write_counted count v w at (ps ++ qs)) y.2
          ∙ rw (t.2) (rw moved_body refl);
    }

front_cases : (b : Bool) (n : ℕ) (s t : List Bool) → option_map (λ (x : ℕ × List Bool). x.0) (cond b (Some (n, s)) None) ≡ option_map (λ (x : ℕ × List Bool). x.0) (cond b (Some (n, t)) None)
front_cases true n s t = refl
front_cases false n s t = refl

-- a number that isn't in the front of some bits isn't in fewer
number_front : (w : ℕ) (bs rest : List Bool) → w ≤ length bs → option_map (λ x. x.0) (number_at w (bs ++ rest)) ≡ option_map (λ x. x.0) (number_at w bs)
unfolding number_at
number_front w bs rest le =
    let long : w ≤ length (bs ++ rest) = omega (arith, length-append bs rest) in
    rw (le-leb w (length bs) le, le-leb w (length (bs ++ rest)) long, take-append-le w bs rest le) (front_cases (nat_le w 32) (number_from 0 (take w bs)) (drop w (bs ++ rest)) (drop w bs))

-- what is after a number, if it is the mark
abbrev marked : Mark → Option (ℕ × List Bool) → Option (List Bool)
marked mark None = None
marked mark (Some x) = cond (x.0 == mark.value) (Some x.1) None

mark_test : (a b : Bool) (s t : List Bool) → a ≡ b → cond a (Some s) None ≡ None → is_none (cond b (Some t) None) ≡ true
mark_test true b s t same none = cc
mark_test false true s t same none = cc
mark_test false false s t same none = refl

no_mark : (mark : Mark) (o u : Option (ℕ × List Bool)) → option_map (λ x. x.0) o ≡ option_map (λ x. x.0) u → marked mark o ≡ None
    → is_none (marked mark u) ≡ true
no_mark mark None None same none = refl
no_mark mark None (Some y) same none = cc
no_mark mark (Some x) None same none = cc
no_mark mark (Some x) (Some y) same none =
    let e : x.0 ≡ y.0 = cc in
    mark_test (x.0 == mark.value) (y.0 == mark.value) x.1 y.1 (ap (λ (n : ℕ). n == mark.value) e) none

-- an element that isn't begun by the mark
unlike_mark : (mark : Mark) (bs rest : List Bool) → after_mark mark (bs ++ rest) ≡ None → max 1 mark.width ≤ length bs → fits (Unlike mark) bs ≡ true
unfolding after_mark fits
unlike_mark mark bs rest none enough =
    let wide : mark.width ≤ length bs = omega arith in
    let isnt = no_mark mark (number_at mark.width (bs ++ rest)) (number_at mark.width bs) (number_front mark.width bs rest wide) none in
    rw (le-leb (max 1 mark.width) (length bs) enough) isnt

-- what the bits of an element are up to an end
abbrev pub fit_of : End → Element
fit_of (At mark) = Unlike mark
fit_of Whole = Any

end_fits : (end : End) (bits bs rest : List Bool) → after_end end bits ≡ None → bits ≡ bs ++ rest → least_of end ≤ length bs → fits (fit_of end) bs ≡ true
end_fits (At mark) bits bs rest none all enough = unlike_mark mark bs rest (ap (λ (t : List Bool). after_mark mark t) (sym all) ∙ none) enough
end_fits Whole bits bs rest none all enough = any_fits bs enough

-- elements that were read up to an end: how many, and where they end
pub record ListTaken (whole : ℕ) (end : End) (w : ℕ → List Part → Written) (bits : List Bool) (n : ℕ) (p : List Part) (rest : List Bool) : Type 0 where
  pub mid : List Bool
  pub spelled : Spells (write_elements w (fits (fit_of end)) n (whole - length bits)) p bits mid
  pub over : after_end end mid ≡ Some rest

-- one element more, or the end
list_turn : (whole : ℕ) (end : End) (r : List Bool → Read) (w : ℕ → List Part → Written) → Keeps whole r w → (turns : ℕ)
    → ((bits : List Bool) (n : ℕ) (p : List Part) (rest : List Bool) → length bits ≤ whole → read_list r end turns bits ≡ Ok (n, p, rest) → ListTaken whole end w bits n p rest)
    → (bits : List Bool) (n : ℕ) (p : List Part) (rest : List Bool) → length bits ≤ whole → (o : Option (List Bool)) → after_end end bits ≡ o
    → list_step r end turns bits o ≡ Ok (n, p, rest)
    → ListTaken whole end w bits n p rest
unfolding write_elements
list_turn whole end r w keeps turns later bits n p rest le (Some left) at is =
    let all_are = ok_three (0, [], left) (n, p, rest) is in
    let count = all_are.0 in
    let ps_is = all_are.1 in
    let same = all_are.2 in
    record {
      mid = bits;
      spelled = record { bs = []; all = refl; written = λ qs. ap (λ (k : ℕ). write_elements w (fits (fit_of end)) k (whole - length bits) (p ++ qs)) (sym count) ∙ ap (λ (ps : List Part). Ok ([], ps ++ qs)) (sym ps_is) };
      over = at ∙ ap (λ (t : List Bool). Some t) same;
    }
list_turn whole end r w keeps turns later bits n p rest le None at is =
    let x = bind_ok (with_least (least_of end) bits (r bits)) _ _ is in
    let a = least_keeps whole (least_of end) (fits (fit_of end)) r w keeps bits x.0.0 x.0.1 le x.1 (λ bs all some. end_fits end bits bs x.0.1 at all some) in
    let m = moved whole bits a.bs x.0.1 le a.all in
    let y = bind_ok (read_list r end turns x.0.1) _ _ x.2 in
    let b = later x.0.1 y.0.0 y.0.1 y.0.2 m.1 y.1 in
    let all_are = ok_three (y.0.0 + 1, x.0.0 ++ y.0.1, y.0.2) (n, p, rest) y.2 in
    let ps_is = all_are.1 in
    let same = all_are.2 in
    let more : suc y.0.0 ≡ n = let e : y.0.0 + 1 ≡ n = all_are.0 in omega arith in
    let second = subst (λ (k : ℕ). Spells (write_elements w (fits (fit_of end)) y.0.0 k) y.0.1 x.0.1 b.mid) (sym m.0) b.spelled in
    let first : List Part → Written = λ ps. if_fits (fits (fit_of end)) (length ps) (w (whole - length bits) ps) in
    let both_are = then_spelled first (λ k ps. write_elements w (fits (fit_of end)) y.0.0 k ps) (whole - length bits) x.0.0 y.0.1 bits x.0.1 b.mid a second in
    let named : Spells (write_elements w (fits (fit_of end)) (suc y.0.0) (whole - length bits)) (x.0.0 ++ y.0.1) bits b.mid = both_are in
    record {
      mid = b.mid;
      spelled = subst (λ (k : ℕ). Spells (write_elements w (fits (fit_of end)) k (whole - length bits)) p bits b.mid) more (subst (λ (ps : List Part). Spells (write_elements w (fits (fit_of end)) (suc y.0.0) (whole - length bits)) ps bits b.mid) ps_is named);
      over = b.over ∙ ap (λ (t : List Bool). Some t) same;
    }

pub list_taken : (whole : ℕ) (end : End) (r : List Bool → Read) (w : ℕ → List Part → Written) → Keeps whole r w → (turns : ℕ) (bits : List Bool) (n : ℕ) (p : List Part) (rest : List Bool) → length bits ≤ whole
    → read_list r end turns bits ≡ Ok (n, p, rest) → ListTaken whole end w bits n p rest
unfolding read_list
list_taken whole end r w keeps zero bits n p rest le is = cc
list_taken whole end r w keeps (suc turns) bits n p rest le is =
    list_turn whole end r w keeps turns (list_taken whole end r w keeps turns) bits n p rest le (after_end end bits) refl (sym (list_opens r end turns bits (after_end end bits) refl) ∙ is)

mark_number : (mark : Mark) (mid rest : List Bool) (o : Option (ℕ × List Bool)) → number_at mark.width mid ≡ o → marked mark o ≡ Some rest
    → (mid ≡ bits_of mark.width mark.value ++ rest) × (number_bits mark.width mark.value ≡ Some (bits_of mark.width mark.value))
mark_number mark mid rest None here is = cc
mark_number mark mid rest (Some x) here is =
    let w = when (x.0 == mark.value) (Some x.1) rest is in
    let same : x.0 ≡ mark.value = grind (arith, nat_tests, w.0) in
    let left = same_some x.1 rest w.1 in
    let there = number_there mark.width x.0 mid x.1 here in (
      number_takes mark.width mid x here ∙ ap (λ (n : ℕ). bits_of mark.width n ++ x.1) same ∙ ap (λ (t : List Bool). bits_of mark.width mark.value ++ t) left,
      ap (λ (n : ℕ). number_bits mark.width n) (sym same) ∙ there ∙ ap (λ (n : ℕ). Some (bits_of mark.width n)) same,
    )

-- the mark that was read
mark_taken : (mark : Mark) (mid rest : List Bool) → after_mark mark mid ≡ Some rest → (mid ≡ bits_of mark.width mark.value ++ rest) × (number_bits mark.width mark.value ≡ Some (bits_of mark.width mark.value))
unfolding after_mark
mark_taken mark mid rest is = mark_number mark mid rest (number_at mark.width mid) refl is

marked_keeps : (whole : ℕ) (mark : Mark) (r : List Bool → Read) (w : ℕ → List Part → Written) → Keeps whole r w → Keeps whole (read_whole_list r (At mark)) (write_marked mark w)
unfolding read_whole_list write_marked
marked_keeps whole mark r w keeps bits p rest le is =
    let x = bind_ok (read_list r (At mark) (length bits + 1) bits) _ _ is in
    let t = list_taken whole (At mark) r w keeps (length bits + 1) bits x.0.0 x.0.1 x.0.2 le x.1 in
    let both_are = ok_pair (parts.Elements x.0.0 ∷ x.0.1, x.0.2) (p, rest) x.2 in
    let ps_is = both_are.0 in
    let left = both_are.1 in
    let k = mark_taken mark t.mid x.0.2 t.over in
    let end_bits = bits_of mark.width mark.value in
    record {
      bs = t.spelled.bs ++ end_bits;
      all = t.spelled.all ∙ ap (λ (b : List Bool). t.spelled.bs ++ b) (k.0 ∙ ap (λ (b : List Bool). end_bits ++ b) left) ∙ sym (append_assoc t.spelled.bs end_bits rest);
      written = λ qs.
          ap (λ (ps : List Part). write_marked mark w (whole - length bits) (ps ++ qs)) (sym ps_is)
          ∙ rw (t.spelled.written qs) (rw (k.1) refl);
    }

-- whether a number is there, and is the key's
abbrev is_key : Key → Option (ℕ × List Bool) → Bool
is_key key None = false
is_key key (Some x) = x.0 == key.value

key_cases : (key : Key) (o u : Option (ℕ × List Bool)) → option_map (λ x. x.0) o ≡ option_map (λ x. x.0) u
    → is_key key o ≡ is_key key u
key_cases key None None same = refl
key_cases key None (Some y) same = cc
key_cases key (Some x) None same = cc
key_cases key (Some x) (Some y) same = let e : x.0 ≡ y.0 = cc in ap (λ (n : ℕ). n == key.value) e

key_front : (key : Key) (bs rest : List Bool) → key.offset + key.width ≤ length bs → has_key key (bs ++ rest) ≡ has_key key bs
unfolding has_key
key_front key bs rest le =
    let drops : drop key.offset (bs ++ rest) ≡ drop key.offset bs ++ rest = drop-append-le key.offset bs rest (omega arith) in
    let wide : key.width ≤ length (drop key.offset bs) = omega (arith, length-drop key.offset bs) in
    ap (λ (t : List Bool). is_key key (number_at key.width t)) drops
    ∙ key_cases key (number_at key.width (drop key.offset bs ++ rest)) (number_at key.width (drop key.offset bs)) (number_front key.width (drop key.offset bs) rest wide)

key_is : (key : Key) (chosen : Bool) (bits bs rest : List Bool) → has_key key bits ≡ chosen → bits ≡ bs ++ rest → key.offset + key.width ≤ length bs → is_keyed key chosen bs ≡ true
unfolding is_keyed
key_is key true bits bs rest has all le =
    let here : has_key key bs ≡ true = sym (key_front key bs rest le) ∙ ap (λ (t : List Bool). has_key key t) (sym all) ∙ has in
    rw (le-leb (key.offset + key.width) (length bs) le, here) refl
key_is key false bits bs rest has all le =
    let here : has_key key bs ≡ false = sym (key_front key bs rest le) ∙ ap (λ (t : List Bool). has_key key t) (sym all) ∙ has in
    rw (le-leb (key.offset + key.width) (length bs) le, here) refl

-- a case that was read
case_side : (whole : ℕ) (key : Key) (chosen : Bool) (r : List Bool → Read) (v w : ℕ → List Part → Written) → Keeps whole r (if chosen then v else w) → (bits : List Bool) (p : List Part) (rest : List Bool) → length bits ≤ whole
    → has_key key bits ≡ chosen → with_least (key.offset + key.width) bits (with_front (parts.Case chosen ∷ []) (r bits)) ≡ Ok (p, rest) → Spells (write_case key v w (whole - length bits)) p bits rest
unfolding write_case
case_side whole key true r v w keeps bits p rest le has is =
    let x = least_ok (key.offset + key.width) bits (with_front (parts.Case true ∷ []) (r bits)) (p, rest) is in
    let y = front_ok (parts.Case true ∷ []) p (r bits) rest x.0 in
    let s = keeps bits y.0 rest le y.1 in
    let long = spelled_long (v (whole - length bits)) y.0 bits rest s in
    let enough : key.offset + key.width ≤ length s.bs = let e = x.1 in omega arith in
    let ok = key_is key true bits s.bs rest has s.all enough in
    record { bs = s.bs; all = s.all; written = λ qs. ap (λ (ps : List Part). write_case key v w (whole - length bits) (ps ++ qs)) y.2 ∙ rw (s.written qs, ok) refl }
case_side whole key false r v w keeps bits p rest le has is =
    let x = least_ok (key.offset + key.width) bits (with_front (parts.Case false ∷ []) (r bits)) (p, rest) is in
    let y = front_ok (parts.Case false ∷ []) p (r bits) rest x.0 in
    let s = keeps bits y.0 rest le y.1 in
    let long = spelled_long (w (whole - length bits)) y.0 bits rest s in
    let enough : key.offset + key.width ≤ length s.bs = let e = x.1 in omega arith in
    let ok = key_is key false bits s.bs rest has s.all enough in
    record { bs = s.bs; all = s.all; written = λ qs. ap (λ (ps : List Part). write_case key v w (whole - length bits) (ps ++ qs)) y.2 ∙ rw (s.written qs, ok) refl }

case_cases : (whole : ℕ) (key : Key) (r s : List Bool → Read) (v w : ℕ → List Part → Written) → Keeps whole r v → Keeps whole s w → (bits : List Bool) (p : List Part) (rest : List Bool) → length bits ≤ whole
    → (has : Bool) → has_key key bits ≡ has → with_least (key.offset + key.width) bits (cond has (with_front (parts.Case true ∷ []) (r bits)) (with_front (parts.Case false ∷ []) (s bits))) ≡ Ok (p, rest)
    → Spells (write_case key v w (whole - length bits)) p bits rest
case_cases whole key r s v w first second bits p rest le true has is = case_side whole key true r v w first bits p rest le has is
case_cases whole key r s v w first second bits p rest le false has is = case_side whole key false s v w second bits p rest le has is

case_keeps : (whole : ℕ) (key : Key) (r s : List Bool → Read) (v w : ℕ → List Part → Written) → Keeps whole r v → Keeps whole s w → Keeps whole (read_case key r s) (write_case key v w)
case_keeps whole key r s v w first second bits p rest le is = case_cases whole key r s v w first second bits p rest le (has_key key bits) refl is

-- fields that were read are written again as the same bits
pub fields_keep : (whole : ℕ) (field : Field) → Keeps whole (read whole field) (write field)
fields_keep whole Nothing bits p rest le is =
    let both_are = ok_pair ([], bits) (p, rest) is in
    let ps_is = both_are.0 in
    let left = both_are.1 in
    record { bs = []; all = left; written = λ qs. ap (λ (ps : List Part). Ok ([], ps ++ qs)) (sym ps_is) }
fields_keep whole (Then' a first b second) bits p rest le is = then_keeps whole (read whole first) (read whole second) (write first) (write second) (fields_keep whole first) (fields_keep whole second) bits p rest le is
fields_keep whole (Number field) bits p rest le is = number_spelled field bits p rest is
fields_keep whole (Text form style) bits p rest le is = text_spelled form bits p rest is
fields_keep whole (Zero_bits zeros) bits p rest le is = zeros_spelled zeros (whole - length bits) bits p rest is
fields_keep whole (Repeated' n a body) bits p rest le is = elements_keep whole (read whole body) (write body) (fields_keep whole body) n bits p rest le is
fields_keep whole (Counted' count a between b body) bits p rest le is = counted_keeps whole count (read whole between) (read whole body) (write between) (write body) (fields_keep whole between) (fields_keep whole body) bits p rest le is
fields_keep whole (Marked' mark a body) bits p rest le is = marked_keeps whole mark (read whole body) (write body) (fields_keep whole body) bits p rest le is
fields_keep whole (Case' key a chosen b other) bits p rest le is = case_keeps whole key (read whole chosen) (read whole other) (write chosen) (write other) (fields_keep whole chosen) (fields_keep whole other) bits p rest le is
fields_keep whole NoCase bits p rest le is = cc
