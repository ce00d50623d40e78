-- Whether a journal is usable, read off its first bytes and its length.
use Rattle.std.proofs.Common.{◌≡◌, ◌≢◌, ℕ, ◌+◌, ◌≤◌, ◌<◌, ◌==◌, ◌||◌, Bool, true, false, if◌then◌else◌, List, [], ◌∷◌, length, take, drop, get_or, refl, sym, ◌∙◌, ap, arith}
use Rattle.std.proofs.lemmas.Bool.Decides.{nat_tests}
use Rattle.std.proofs.lemmas.List.{drop-drop, length-drop, length-take-le}
use Rattle.std.proofs.lemmas.Bool.{and_from}
use Rattle.fork_disk.specs.Disk.{bytes_at}
use Rattle.byteorder.specs.Endian.{big_number}
use Rattle.fork_journal.specs.Form.{is_whole, fork_in, is_open, is_usable, must_shut}
use Rattle.fork_journal.proofs.Settling.{unusable_short}

abbrev Bytes : Type 0
Bytes = List ℕ

-- the length in a journal of at least five bytes
same_length : (journal : Bytes) → 5 ≤ length journal → big_number 4 (drop 1 (bytes_at 5 0 journal)) ≡ big_number 4 (drop 1 journal)
same_length [] few = absurd (omega arith)
same_length (g ∷ []) few = absurd (omega arith)
same_length (g ∷ a ∷ []) few = absurd (omega arith)
same_length (g ∷ a ∷ b ∷ []) few = absurd (omega arith)
same_length (g ∷ a ∷ b ∷ c ∷ []) few = absurd (omega arith)
same_length (g ∷ a ∷ b ∷ c ∷ d ∷ rest) few = refl

same_gate : (journal : Bytes) → 5 ≤ length journal → get_or (bytes_at 5 0 journal) 0 0 ≡ get_or journal 0 0
same_gate [] few = absurd (omega arith)
same_gate (g ∷ rest) few = refl

short_text : (text : Bytes) (told : ℕ) → told ≡ big_number 4 text → length text < 4 + told → is_whole text ≡ false
unfolding is_whole
short_text text told is short = grind (arith, nat_tests)

under_four : (text : Bytes) → length text < 4 → is_whole text ≡ false
unfolding is_whole
under_four text short = grind (arith, nat_tests)

whole_text : (text : Bytes) (told : ℕ) → told ≡ big_number 4 text → 4 + told ≤ length text → is_whole text ≡ true
unfolding is_whole
whole_text text told is long = grind (arith, nat_tests)

taken : (journal : Bytes) (told : ℕ) → told ≡ big_number 4 (drop 1 journal) → bytes_at told 5 journal ≡ fork_in (drop 1 journal)
unfolding fork_in
taken journal told is =
    ap (λ (n : ℕ). take n (drop 5 journal)) is ∙ ap (λ (l : Bytes). take (big_number 4 (drop 1 journal)) l) (sym (drop-drop 4 1 journal))

gate_open : (gate : ℕ) → gate ≡ 1 → (gate == 1) ≡ true
gate_open gate is = grind (arith, nat_tests)

isn't_zero : (n : ℕ) → n ≢ 0 → (n == 0) ≡ false
isn't_zero n some = grind (arith, nat_tests)

-- the gate that was read says whether it has to be shut
pub must_shut_read : (journal gate : Bytes) (n : ℕ) → n ≡ length journal → n ≢ 0 → gate ≡ bytes_at 1 0 journal → (get_or gate 0 0 == 1) ≡ must_shut journal
must_shut_read [] gate n is some reads = absurd (some is)
must_shut_read (g ∷ rest) gate n is some reads =
    ap (λ (h : Bytes). get_or h 0 0 == 1) reads ∙ ap (λ (none : Bool). none || (g == 1)) (sym (isn't_zero (length (g ∷ rest)) (λ zero. some (is ∙ zero))))

pub unusable_under : (journal : Bytes) (n : ℕ) → n ≡ length journal → n < 5 → is_usable journal ≡ false
unusable_under journal n is few = unusable_short journal (under_four_of journal (omega arith))
  where
    under_four_of : (journal : Bytes) → length journal < 5 → is_whole (drop 1 journal) ≡ false
    under_four_of journal few = under_four (drop 1 journal) (omega (arith, length-drop 1 journal))

module _ (journal head : Bytes) (n told : ℕ) (is : n ≡ length journal) (enough : 5 ≤ n) (reads : head ≡ bytes_at 5 0 journal) (tells : told ≡ big_number 4 (drop 1 head)) where
  tells_so : told ≡ big_number 4 (drop 1 journal)
  tells_so = tells ∙ ap (λ (h : Bytes). big_number 4 (drop 1 h)) reads ∙ same_length journal (omega arith)

  pub unusable_cut : n < 5 + told → is_usable journal ≡ false
  unusable_cut short = unusable_short journal (short_text (drop 1 journal) told tells_so (omega (arith, length-drop 1 journal)))

  pub usable_whole : 5 + told ≤ n → get_or head 0 0 ≡ 1 → is_usable journal ≡ true
  usable_whole long gate =
      let gate_is : get_or journal 0 0 ≡ 1 = sym (same_gate journal (omega arith)) ∙ ap (λ (h : Bytes). get_or h 0 0) (sym reads) ∙ gate in
      and_from (is_open journal) (is_whole (drop 1 journal)) (gate_open (get_or journal 0 0) gate_is)
      (whole_text (drop 1 journal) told tells_so (omega (arith, length-drop 1 journal)))

  pub fork_read : bytes_at told 5 journal ≡ fork_in (drop 1 journal)
  fork_read = taken journal told tells_so

  -- a fork of some bytes is copied
  pub some_copied : 5 + told ≤ n → get_or head 0 0 ≡ 1 → 1 ≤ told → 1 ≤ (if is_usable journal then length (fork_in (drop 1 journal)) else 0)
  some_copied long gate some =
      let copied = ap (λ (b : Bool). if b then length (fork_in (drop 1 journal)) else 0) (usable_whole long gate) in
      let all : length (bytes_at told 5 journal) ≡ told = length-take-le told (drop 5 journal) (omega (arith, length-drop 5 journal)) in
      omega (arith, copied, all, ap length fork_read)
