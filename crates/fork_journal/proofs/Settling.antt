-- What recovering gives, by the gate and the text.
use Rattle.std.proofs.Common.{◌≡◌, ◌⊎◌, inl, inr, ℕ, ◌+◌, ◌<◌, ◌^◌, ◌==◌, ◌&&◌, ◌||◌, Bool, true, false, nat_le, if◌then◌else◌, List, [], ◌∷◌, length, take, drop, get_or, refl, sym, ◌∙◌, ap, arith, length-append}
use Rattle.std.proofs.lemmas.List.{get_or-take, take_all}
use Rattle.std.proofs.lemmas.Bool.Decides.{nat_tests}
use Rattle.std.proofs.lemmas.Bool.{and_left}
use Rattle.std.proofs.Math.Bool.{and-false}
use Rattle.fork_journal.specs.Crash.{Contents}
use Rattle.byteorder.specs.Endian.{big_bytes, big_number}
use Rattle.byteorder.specs.Numbers.{big_number-reads_back}
use Rattle.fork_journal.specs.Form.{text_of, is_whole, fork_in, is_open, is_usable, must_shut}
use Rattle.fork_journal.specs.Recovery.{settled_fork, IsBeforeOrAfter}

abbrev Bytes : Type 0
Bytes = List ℕ

if_both : (b : Bool) (x y z : Bytes) → x ≡ z → y ≡ z → (if b then x else y) ≡ z
if_both true x y z first second = first
if_both false x y z first second = second

if_one : (b : Bool) (x y before after : Bytes) → x ≡ after → y ≡ before → ((if b then x else y) ≡ before) ⊎ ((if b then x else y) ≡ after)
if_one true x y before after first second = inr first
if_one false x y before after first second = inl second

-- whatever the gate: the text has the fork, and the fork is there
pub settled_both : (c : Contents) (fork : Bytes) → fork_in (drop 1 c.journal) ≡ fork → c.fork ≡ fork → settled_fork c ≡ fork
settled_both c fork text here = if_both (is_usable c.journal) _ _ fork text here

pub settled_one : (c : Contents) (before after : Bytes) → fork_in (drop 1 c.journal) ≡ after → c.fork ≡ before → IsBeforeOrAfter before after c
settled_one c before after text here = if_one (is_usable c.journal) _ _ before after text here

pub settled_usable : (c : Contents) → is_usable c.journal ≡ true → settled_fork c ≡ fork_in (drop 1 c.journal)
settled_usable c usable = ap (λ (b : Bool). if b then fork_in (drop 1 c.journal) else c.fork) usable

pub settled_unusable : (c : Contents) → is_usable c.journal ≡ false → settled_fork c ≡ c.fork
settled_unusable c unusable = ap (λ (b : Bool). if b then fork_in (drop 1 c.journal) else c.fork) unusable

-- the same at an equal journal
pub settled_at : (c : Contents) (journal : Bytes) → c.journal ≡ journal → is_usable journal ≡ true → settled_fork c ≡ fork_in (drop 1 journal)
settled_at c journal is usable =
    settled_usable c (ap is_usable is ∙ usable) ∙ ap (λ (j : Bytes). fork_in (drop 1 j)) is

pub unusable_shut : (journal : Bytes) → is_open journal ≡ false → is_usable journal ≡ false
unusable_shut journal shut = and_left (is_open journal) (is_whole (drop 1 journal)) shut

pub unusable_short : (journal : Bytes) → is_whole (drop 1 journal) ≡ false → is_usable journal ≡ false
unusable_short journal short = ap (λ (w : Bool). is_open journal && w) short ∙ and-false (is_open journal)

-- an unusable journal whose gate has to be shut has no whole text
nothing_whole : is_whole [] ≡ false
unfolding is_whole
nothing_whole = refl

open_short : (gate whole : Bool) → gate ≡ true → (gate && whole) ≡ false → whole ≡ false
open_short true whole is none = none
open_short false whole is none = absurd (cc)

or_cases : (a b : Bool) → (a || b) ≡ true → (a ≡ true) ⊎ (b ≡ true)
or_cases true b is = inl refl
or_cases false b is = inr is

empty_from : (journal : Bytes) → (length journal == 0) ≡ true → journal ≡ []
empty_from [] is = refl
empty_from (x ∷ xs) is = absurd (grind (arith, nat_tests))

pub short_where_open : (journal : Bytes) → is_usable journal ≡ false → must_shut journal ≡ true → is_whole (drop 1 journal) ≡ false
short_where_open journal unusable must = elim (or_cases (length journal == 0) (is_open journal) must) [
  | inl empty ↦ ap (λ (j : Bytes). is_whole (drop 1 j)) (empty_from journal empty) ∙ nothing_whole
  | inr gate ↦ open_short (is_open journal) (is_whole (drop 1 journal)) gate unusable
]

-- a new text keeps the gate
pub same_gate : (old new : Bytes) → take 1 new ≡ take 1 old → get_or new 0 0 ≡ get_or old 0 0
same_gate old new same =
    sym (get_or-take 1 new 0 0 (omega arith)) ∙ ap (λ (l : Bytes). get_or l 0 0) same ∙ get_or-take 1 old 0 0 (omega arith)

pub shut_after : (old new : Bytes) → take 1 new ≡ take 1 old → is_open old ≡ false → is_open new ≡ false
shut_after old new same shut = ap (λ (n : ℕ). n == 1) (same_gate old new same) ∙ shut

-- the text of a fork
tells : (fork : Bytes) → length fork < 2 ^ 32 → big_number 4 (text_of fork) ≡ length fork
tells fork short = big_number-reads_back 4 (length fork) fork short

pub text_whole : (fork : Bytes) → length fork < 2 ^ 32 → is_whole (text_of fork) ≡ true
unfolding is_whole
text_whole fork short = whole_at (big_number 4 (text_of fork)) (length (text_of fork)) (tells fork short) (length-append (big_bytes 4 (length fork)) fork)
  where
    whole_at : (n all : ℕ) → n ≡ length fork → all ≡ 4 + length fork → nat_le (4 + n) all ≡ true
    whole_at n all is long = grind (arith, nat_tests)

pub text_fork : (fork : Bytes) → length fork < 2 ^ 32 → fork_in (text_of fork) ≡ fork
unfolding fork_in
text_fork fork short = take_all (big_number 4 (text_of fork)) fork (omega (arith, tells fork short))

pub never : {A : Type 0} (b : Bool) → b ≡ true → b ≡ false → A
never true is not = absurd (cc)
never false is not = absurd (cc)
