-- Messages that are written in parts.
use Rattle.std.proofs.Common.{◌≡◌, ℕ, Bool, true, false, List, [], ◌++◌, Option, refl, sym, ap, subst, ◌∙◌}
use Rattle.std.specs.Prelude.{MatchBool}
use Rattle.script_run.specs.Counting.{Counting, RoseByOne, Took}
use Rattle.script_run.specs.Run.{IsProperFront}
use Rattle.script_run.proofs.Known.{Took-none, Took-then}
use Rattle.macheap.specs.Saying.{Says}
use Rattle.macheap.proofs.Ending.{front_after, front_of_more}

module _ {M : Type 0} (notes : M → Option (List ℕ)) where
  -- one write
  pub says : (old new : Counting M) (whole : Bool) (text : List ℕ) → (written : List ℕ) × Took notes old written new × MatchBool whole (written ≡ text) (IsProperFront written text)
      → MatchBool whole (new.failures ≡ old.failures) (RoseByOne old.failures new.failures) → Says notes old new whole text
  says old new whole text it failures = record { written = it.0; took = it.1; bytes = it.2; failures = failures }

  pub says_nothing : (writer : Counting M) → Says notes writer writer true []
  says_nothing writer = record { written = []; took = Took-none notes writer; bytes = refl; failures = refl }

  -- a text, and what was said after it
  pub says_then : (old mid new : Counting M) (whole : Bool) (text more : List ℕ) → Says notes old mid true text → Says notes mid new whole more → Says notes old new whole (text ++ more)
  says_then old mid new true text more one two = record {
    written = one.written ++ two.written;
    took = Took-then notes old mid new one.written two.written one.took two.took;
    bytes = ap (λ (t : List ℕ). t ++ two.written) one.bytes ∙ ap (λ (t : List ℕ). text ++ t) two.bytes;
    failures = two.failures ∙ one.failures;
  }
  says_then old mid new false text more one two = record {
    written = one.written ++ two.written;
    took = Took-then notes old mid new one.written two.written one.took two.took;
    bytes = subst (λ (t : List ℕ). IsProperFront (t ++ two.written) (text ++ more)) (sym one.bytes) (front_after text two.written more two.bytes);
    failures = subst (λ (n : ℕ). RoseByOne n new.failures) one.failures two.failures;
  }

  -- a front of a text is one of more
  pub says_cut : (old new : Counting M) (text more : List ℕ) → Says notes old new false text → Says notes old new false (text ++ more)
  says_cut old new text more one = record { written = one.written; took = one.took; bytes = front_of_more one.written text more one.bytes; failures = one.failures }

  -- the same text in other words
  pub says_is : (old new : Counting M) (whole : Bool) (text same : List ℕ) → text ≡ same → Says notes old new whole text → Says notes old new whole same
  says_is old new whole text same is one = subst (λ (t : List ℕ). Says notes old new whole t) is one

  -- a text that has three parts: the first one was cut, or the second one; or the third one was said
  pub first_cut : (old new : Counting M) (a b c text : List ℕ) → a ++ (b ++ c) ≡ text → Says notes old new false a → Says notes old new false text
  first_cut old new a b c text is one = subst (λ (t : List ℕ). Says notes old new false t) is (says_cut old new a (b ++ c) one)

  pub second_cut : (old mid new : Counting M) (a b c text : List ℕ) → a ++ (b ++ c) ≡ text → Says notes old mid true a → Says notes mid new false b → Says notes old new false text
  second_cut old mid new a b c text is one two = subst (λ (t : List ℕ). Says notes old new false t) is (says_then old mid new false a (b ++ c) one (says_cut mid new b c two))

  pub third_said : (old mid late new : Counting M) (whole : Bool) (a b c text : List ℕ) → a ++ (b ++ c) ≡ text → Says notes old mid true a → Says notes mid late true b → Says notes late new whole c → Says notes old new whole text
  third_said old mid late new whole a b c text is one two three =
      subst (λ (t : List ℕ). Says notes old new whole t) is (says_then old mid new whole a (b ++ c) one (says_then mid late new whole b c two three))
