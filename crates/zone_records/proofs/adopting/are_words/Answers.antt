use Rattle.std.proofs.Common.{◌≡◌, ◌-◌, ◌*◌, ◌∙◌, ℕ, length, refl, true, sym, ap, arith, below_more}
use Rattle.zone_records.specs.Masters.{word_at}
use Rattle.zone_records.specs.Word.{slot_word, slot_in}
use Rattle.zone_records.proofs.Comparing.{word-read, word-right}
use Rattle.zone_records.proofs.Adopted.{words-from}
use Rattle.zone_records.proofs.adopting.are_words.Goals as goal
use Rattle.zone_records.proofs.adopting.are_words.Goals.{After-says_itself}

-- the word that is read
read : (c : After-says_itself) → c.read_u32.result ≡ word_at c.args.words.now (4 * c.loop-index.index)
read c = let long = c.requires in c.read_u32.ensures ∙ word-read (length c.args.words.now - 4 * c.loop-index.index) c.args.words.now (4 * c.loop-index.index) (omega arith)

pub returns-then-not-says_itself : goal.returns-then-not-says_itself
returns-then-not-says_itself c = (
  λ yes. absurd (cc yes),
  λ is.
      let right = word-right c.args.heads 64 c.args.words.now (λ k. omega (arith, c.type_inv.words k)) is c.loop-index.index c.loop-index-test.true in
      let e = read (goal.at.returns-then-not-says_itself c).After-says_itself in
      let yes : c.says_itself.result ≡ true = c.says_itself.ensures.1 (ap (λ (n : ℕ). slot_word c.args.heads (slot_in c.args.heads n)) e ∙ right ∙ sym e) in
      let no = c.if-not-says_itself.true in absurd (cc (yes, no)),
)

pub loop-index-preserved : goal.loop-index-preserved
loop-index-preserved c =
    let e = read (goal.at.loop-index-preserved c).After-says_itself in
    let own : slot_word c.args.heads (slot_in c.args.heads c.read_u32.result) ≡ c.read_u32.result = c.says_itself.ensures.0 c.if-not-says_itself.false in
    below_more _ _ c.loop-index.invariant (ap (λ (n : ℕ). slot_word c.args.heads (slot_in c.args.heads n)) (sym e) ∙ own ∙ e)

pub returns : goal.returns
returns c =
    let long = c.requires in let all : c.loop-index.index ≡ 64 = omega arith in
    (λ yes. words-from c.args.heads 64 c.args.words.now (λ k. omega (arith, c.type_inv.words k)) (omega arith) (λ k few. c.loop-index.invariant k (omega arith)), λ is. refl)
