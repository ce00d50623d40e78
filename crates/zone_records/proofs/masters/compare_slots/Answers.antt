use Rattle.std.proofs.Common.{◌≡◌, ◌+◌, ◌-◌, ◌*◌, ◌∙◌, length, refl, sym, ap, subst, arith}
use Rattle.zone_records.specs.Masters.{SlotsAgree, SlotsSame, WordAgrees, SameWord, word_at}
use Rattle.zone_records.specs.Structure.{Means}
use Rattle.zone_records.specs.Word.{slot_word, slot_in}
use Rattle.zone_records.proofs.Comparing.{word-read, word-right, compare-more}
use Rattle.zone_records.proofs.masters.compare_slots.Goals as goal

pub loop-index-init : goal.loop-index-init
loop-index-init c = (λ k few. absurd (omega arith), λ k few. absurd (omega arith))

pub compare_words-requires : goal.compare_words-requires
compare_words-requires c =
    let ours = c.args.ours.now in
    let place = 4 * c.loop-index.index in
    let long = c.requires.long in
    let here = c.read_u32-here.ensures ∙ word-read (length ours - place) ours place (omega arith) in
    ap (λ n. slot_word c.args.heads (slot_in c.args.heads n)) here
    ∙ word-right c.args.heads 64 ours (λ k. omega (arith, c.type_inv.ours k)) c.requires.right c.loop-index.index c.loop-index-test.true ∙ sym here

pub loop-index-preserved : goal.loop-index-preserved
loop-index-preserved c =
    let ours = c.args.ours.now in
    let bytes = c.args.bytes.now in
    let place = 4 * c.loop-index.index in
    let at = c.args.start + place in
    let long = c.requires.long in
    let inside = c.requires.inside in
    let here = c.read_u32-here.ensures ∙ word-read (length ours - place) ours place (omega arith) in
    let there = c.read_u32-there.ensures ∙ word-read (length bytes - at) bytes at (omega arith) in
    let word : Means c.compare_words.result (WordAgrees c.args.heads (word_at ours place) (word_at bytes at)) (SameWord c.args.heads (word_at ours place) (word_at bytes at)) =
    subst (λ n. Means c.compare_words.result (WordAgrees c.args.heads (word_at ours place) n) (SameWord c.args.heads (word_at ours place) n)) there
    (subst (λ n. Means c.compare_words.result (WordAgrees c.args.heads n c.read_u32-there.result) (SameWord c.args.heads n c.read_u32-there.result)) here c.compare_words.ensures) in
    let next = c.loop-index.index + 1 in
    subst (λ a. Means a (SlotsAgree c.args.heads bytes next c.args.start ours) (SlotsSame c.args.heads bytes next c.args.start ours)) (sym c.with-agreement.ensures)
    (compare-more c.args.heads ours bytes at c.loop-index.index (λ k. omega (arith, c.type_inv.bytes k)) (omega arith) c.args.start refl c.loop-index.agreement c.compare_words.result c.loop-index.invariant word)

pub returns : goal.returns
returns c =
    let ours = c.args.ours.now in
    let bytes = c.args.bytes.now in
    let all : c.loop-index.index ≡ 64 = omega arith in
    subst (λ n. Means c.loop-index.agreement (SlotsAgree c.args.heads bytes n c.args.start ours) (SlotsSame c.args.heads bytes n c.args.start ours)) all c.loop-index.invariant
