use Rattle.std.proofs.Common.{◌≡◌, ◌+◌, ℕ, not, nat_eq, sym, ap, ◌∙◌, inl, inr, arith}
use Rattle.std.specs.Int.{bit_at}
use Rattle.std.proofs.lemmas.Bool.{cases_lt}
use Rattle.place_numbers.specs.Bits.{mark_of}
use Rattle.place_numbers.proofs.Marked.{lowest, is-marked, is-not-marked, has-mark, has-no-mark}
use Rattle.place_numbers.proofs.words.Words.used.Goals as goal
use Rattle.place_numbers.proofs.words.Words.used.Goals.{After-with_bits-used}

-- the bit of the word that was looked at last
last : (c : After-with_bits-used) → bit_at c.with_bits-used.result c.loop-done.done ≡ mark_of (not (nat_eq c.word_at-is_used.result 0))
last c =
    let done = c.loop-done.done in let at : done ≡ done + 0 = omega arith in
    ap (bit_at c.with_bits-used.result) at ∙ c.with_bits-used.ensures.here 0 (omega arith) ∙ ap (λ (m : ℕ). bit_at m 0) c.from.ensures ∙ lowest (not (nat_eq c.word_at-is_used.result 0))

pub loop-done-preserved : goal.loop-done-preserved
loop-done-preserved c =
    let items = c.self.inside.items.items in let count = c.self.inside.count in let past = c.self.invariant.past in let now = c.args.self.now in let view = c.self.view_is in
    let done = c.loop-done.done in let w = c.args.word + done in let word = c.word_at-is_used in let b = not (nat_eq word.result 0) in
    record {
      some = λ i low one. elim (cases_lt i done) [
        | inl before ↦ c.loop-done.invariant.some i before (sym (c.with_bits-used.ensures.before i before) ∙ one)
        | inr end ↦ let is : i ≡ done = omega arith in rw is (has-mark items count past now view w word.result word.ensures (omega arith) (is-marked b (sym (last c) ∙ (rw is at one))))
      ];
      none = λ i low zero j at. elim (cases_lt i done) [
        | inl before ↦ c.loop-done.invariant.none i before (sym (c.with_bits-used.ensures.before i before) ∙ zero) j at
        | inr end ↦ let is : i ≡ done = omega arith in has-no-mark items count past now view w word.result word.ensures (is-not-marked b (sym (last c) ∙ (rw is at zero))) j (omega (arith, is, at))
      ];
    }
