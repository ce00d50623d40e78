use Rattle.std.proofs.Common.{◌≡◌, ◌+◌, ◌-◌, ◌*◌, ◌∙◌, length, true, sym, ap, subst, arith, below_more}
use Rattle.zone_records.specs.Linking.{Keeps, free_count, full_count, one_free, one_full}
use Rattle.zone_records.specs.Masters.{slot_of, word_at}
use Rattle.zone_records.specs.Reading.{records_in}
use Rattle.zone_records.specs.Word.{slot_in, slots_in}
use Rattle.zone_records.proofs.Comparing.{word-read}
use Rattle.zone_records.proofs.SaidPlaces.{full-few, words-full, words-all}
use Rattle.zone_records.proofs.ZoneSlots.{one-few, words-done, words-free}
use Rattle.zone_records.proofs.linking.kept_slots.Goals as goal

pub loop-index-init : goal.loop-index-init
loop-index-init c =
    let l = c.args.blocks.now in let words = c.args.words.now in
    record {
      kept = λ k few. absurd (omega arith);
      full = (let e : 0 + full_count (slots_in l.heads 64 words) ≡ full_count (slots_in l.heads 64 words) = omega arith in e);
      few_full = omega arith;
      free = (let e : 0 + free_count (slots_in l.heads 64 words) ≡ free_count (slots_in l.heads 64 words) = omega arith in e);
      few_free = omega arith;
    }

pub returns-then-not-keeps-clause-none : goal.returns-then-not-keeps-clause-none
returns-then-not-keeps-clause-none c = λ all.
    let l = c.args.blocks.now in let words = c.args.words.now in let k = c.loop-index.index in let long = c.requires.long in
    let read : c.read_u32-word.result ≡ word_at words (4 * k) = c.read_u32-word.ensures ∙ word-read (length words - 4 * k) words (4 * k) (omega arith) in
    let said : c.read-said.result ≡ slot_of l.heads words k = c.read-said.ensures ∙ (λ i. slot_in ((c.heads-heads.ensures ∙ c.spec.ensures.heads) i) (read i)) in
    let yes : c.keeps.result ≡ true = c.keeps.ensures.1 (subst (Keeps (records_in l) (c.args.first + 4 * k)) (sym said) (all k c.loop-index-test.true)) in
    let not_so = c.if-not-keeps.true in absurd (cc (yes, not_so))

pub loop-index-preserved : goal.loop-index-preserved
loop-index-preserved c =
    let l = c.args.blocks.now in let words = c.args.words.now in let k = c.loop-index.index in let long = c.requires.long in let few = c.loop-index-test.true in
    let read : c.read_u32-word.result ≡ word_at words (4 * k) = c.read_u32-word.ensures ∙ word-read (length words - 4 * k) words (4 * k) (omega arith) in
    let said : c.read-said.result ≡ slot_of l.heads words k = c.read-said.ensures ∙ (λ i. slot_in ((c.heads-heads.ensures ∙ c.spec.ensures.heads) i) (read i)) in
    let full : c.one_full-full.result ≡ one_full (slot_of l.heads words k) = c.one_full-full.ensures ∙ ap one_full said in
    let free : c.one_free-free.result ≡ one_free (slot_of l.heads words k) = c.one_free-free.ensures ∙ ap one_free said in
    let full_step = words-full l.heads words k few in let free_step = words-free l.heads words k few in
    let small = full-few (slot_of l.heads words k) in let small_free = one-few (slot_of l.heads words k) in
    let before = c.loop-index.invariant.full in let below = c.loop-index.invariant.few_full in
    let before_free = c.loop-index.invariant.free in let below_free = c.loop-index.invariant.few_free in
    record {
      kept = below_more (λ j. Keeps (records_in l) (c.args.first + 4 * j) (slot_of l.heads words j)) k c.loop-index.invariant.kept
          (subst (Keeps (records_in l) (c.args.first + 4 * k)) said (c.keeps.ensures.0 c.if-not-keeps.false));
      full = omega arith;
      few_full = omega arith;
      free = omega arith;
      few_free = omega arith;
    }

pub returns-clause-kept : goal.returns-clause-kept
returns-clause-kept c = λ k few. let all = c.loop-index-test.false in c.loop-index.invariant.kept k (omega arith)

pub returns-clause-full : goal.returns-clause-full
returns-clause-full c =
    let all = c.loop-index-test.false in
    let before = c.loop-index.invariant.full in let none = words-all c.args.blocks.now.heads c.args.words.now c.loop-index.index (omega arith) in omega arith

pub returns-clause-free : goal.returns-clause-free
returns-clause-free c =
    let all = c.loop-index-test.false in
    let before = c.loop-index.invariant.free in let none = words-done c.args.blocks.now.heads c.args.words.now c.loop-index.index (omega arith) in omega arith
