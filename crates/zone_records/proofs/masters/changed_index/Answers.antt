use Rattle.std.proofs.Common.{◌≡◌, ◌+◌, ◌-◌, ◌*◌, ◌∙◌, ◌≤◌, length, sym, arith, below_more}
use Rattle.zone_records.specs.Masters.{IsSame, word_at}
use Rattle.zone_records.proofs.Comparing.{word-read, word-right, same-word, other-word}
use Rattle.zone_records.proofs.masters.changed_index.Goals as goal
use Rattle.zone_records.proofs.masters.changed_index.Goals.{After-read_u32-in-loop-index}

pub loop-index-init : goal.loop-index-init
loop-index-init c = λ k low high. absurd (omega arith)

-- the two words that are compared
words : (c : After-read_u32-in-loop-index)
    → (c.read_u32.result ≡ word_at c.args.ours.now (4 * c.loop-index.index)) × (c.read_u32-in-loop-index.result ≡ word_at c.args.bytes.now (c.args.start + 4 * c.loop-index.index))
words c =
    let place = 4 * c.loop-index.index in
    let at = c.args.start + place in
    let long = c.requires.long in
    let inside = c.requires.inside in
    let few = c.loop-index-test.true in (
      c.read_u32.ensures ∙ word-read (length c.args.ours.now - place) c.args.ours.now place (omega arith),
      c.read_u32-in-loop-index.ensures ∙ word-read (length c.args.bytes.now - at) c.args.bytes.now at (omega arith),
    )

pub returns-then-read_u32 : goal.returns-then-read_u32
returns-then-read_u32 c =
    let both = words (goal.at.returns-then-read_u32 c).After-read_u32-in-loop-index in
    let ours = c.args.ours.now in
    let bytes = c.args.bytes.now in
    let k = c.loop-index.index in
    let inside = c.requires.inside in
    let few = c.loop-index-test.true in
    record {
      first = record {
        reached = c.loop-index.auto.index;
        few = few;
        other = other-word c.args.heads ours bytes (c.args.start + 4 * k) k (λ k. omega (arith, c.type_inv.bytes k)) (omega arith)
            (word-right c.args.heads 64 ours (λ k. omega (arith, c.type_inv.ours k)) c.requires.right k few) (c.requires.agree k few) (λ same. c.if-read_u32.true (both.0 ∙ same ∙ sym both.1));
        before = c.loop-index.invariant;
      };
      none = tt;
    }

pub loop-index-preserved : goal.loop-index-preserved
loop-index-preserved c j low high =
    let both = words (goal.at.loop-index-preserved c).After-read_u32-in-loop-index in
    let ours = c.args.ours.now in
    let bytes = c.args.bytes.now in
    let k = c.loop-index.index in
    let own : IsSame c.args.heads bytes c.args.start ours k = same-word c.args.heads ours bytes (c.args.start + 4 * k) k (λ k. omega (arith, c.type_inv.bytes k)) (sym both.0 ∙ c.if-read_u32.false ∙ both.1) in
    below_more (λ j. c.args.from ≤ j → IsSame c.args.heads bytes c.args.start ours j) k (λ j less low. c.loop-index.invariant j low less) (λ _. own) j high low

pub returns : goal.returns
returns c = record { first = tt; none = λ k few low. let all = c.loop-index-test.false in c.loop-index.invariant k low (omega arith) }
