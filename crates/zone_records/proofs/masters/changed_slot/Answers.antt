use Rattle.std.proofs.Common.{◌≡◌, ◌+◌, ◌-◌, ◌*◌, ◌≤◌, ◌∙◌, IfNone, get_or, sym, ap, subst, arith}
use Rattle.mac_base.specs.HeadKind.{head_size, slot_count}
use Rattle.mac_base.specs.FlagState.{flags_from}
use Rattle.block_bytes.specs.Layout.{BlockAt}
use Rattle.zone_records.specs.Masters.{IsSame, SameWhere, SlotsAgree}
use Rattle.zone_records.proofs.MasterBlocks.{IsOpen, is-open, open-from, open-to, block-end, contents-unlent}
use Rattle.zone_records.proofs.masters.changed_slot.Goals as goal
use Rattle.zone_records.proofs.masters.changed_slot.Goals.{After-heads-2}

pub contents-ours-requires : goal.contents-ours-requires
contents-ours-requires c = contents-unlent c.args.blocks.now c.requires.sound c.args.at c.requires.block (c.requires.master c.requires.block)

pub overflow_add-first : goal.overflow_add-first
overflow_add-first c =
    let l = c.args.blocks.now in
    let head : c.head_size.result ≡ head_size l.heads = c.head_size.ensures ∙ ap head_size (c.heads.ensures ∙ c.spec-spec.ensures.heads) in
    omega (arith, (block-end l c.requires.sound c.args.at c.requires.block).0)

-- what was read
opened : (c : After-heads-2) (b : BlockAt c.args.blocks.now c.args.at) → IsOpen c.args.blocks.now c.args.at b c.heads-2.result c.base.result c.head_size.result c.contents-ours.result.now
opened c b =
    let heads = c.spec-spec.ensures.heads in
    is-open c.args.blocks.now c.requires.sound c.args.at b (c.requires.master b) c.heads-2.result c.base.result c.head_size.result c.contents-ours.result.now
    (c.heads-2.ensures ∙ heads) (c.base.ensures.value ∙ c.spec-spec.ensures.base) (c.head_size.ensures ∙ ap head_size (c.heads.ensures ∙ heads)) (c.contents-ours.ensures b)

pub changed_index-requires : goal.changed_index-requires
changed_index-requires c =
    let b = c.requires.block in
    let o = opened (goal.at.changed_index-requires c).After-heads-2 b in
    let whole = c.requires.whole in
    record {
      long = o.long;
      inside = omega arith;
      right = o.right;
      agree = open-from o (λ heads start contents. SlotsAgree heads c.args.bytes.now slot_count start contents) (c.args.at + c.head_size.result - c.base.result) (omega arith) (c.requires.agree b);
    }

pub returns-in_err-index-clause-none : goal.returns-in_err-index-clause-none
returns-in_err-index-clause-none c =
    let l = c.args.blocks.now in
    let zero = c.saturating_sub.ensures in
    let ceil = c.div_ceil-low.ensures in
    subst (λ r. IfNone r ((b : BlockAt l c.args.at) → SameWhere (λ x. c.args.from ≤ x) l c.args.bytes.now (c.args.at - l.base + head_size l.heads) b.here.contents)) (sym c.from_residual.ensures)
    (λ b k few above.
    let o = opened (goal.at.returns-in_err-index-clause-none c).After-heads-2 b in
    let place = b.place in
    open-to o (λ heads start contents. IsSame heads c.args.bytes.now start contents k) (c.args.at + c.head_size.result - c.base.result) (omega arith) (c.in_err-index.ensures.none k few (omega arith)))

pub bounds-bytes-start : goal.bounds-bytes-start
bounds-bytes-start c =
    let o = opened (goal.at.bounds-bytes-start c).After-heads-2 c.requires.block in
    let whole = c.requires.whole in
    omega (arith, c.in_ok-index.ensures.first.few)

pub overflow_add-result : goal.overflow_add-result
overflow_add-result c = let o = opened (goal.at.overflow_add-result c).After-heads-2 c.requires.block in omega (arith, c.in_ok-index.ensures.first.few)

pub returns : goal.returns
returns c =
    let bytes = c.args.bytes.now in
    let first = c.args.at + c.head_size.result - c.base.result in
    let zero = c.saturating_sub.ensures in
    let ceil = c.div_ceil-low.ensures in
    let index = c.in_ok-index.index in
    let found = c.in_ok-index.ensures.first in
    let low = found.reached in
    record {
      first = λ b.
          let there = b.place in
          let o = opened (goal.at.returns c).After-heads-2 b in
          let place : first ≡ c.args.at - c.args.blocks.now.base + head_size c.args.blocks.now.heads = omega arith in
          record {
            index = index;
            few = found.few;
            place = omega arith;
            reached = omega arith;
            other = λ is. found.other (open-from o (λ heads start contents. IsSame heads bytes start contents index) first place is);
            said = c.flags_from.ensures ∙ ap flags_from (c.from.ensures ∙ ap (λ n. get_or bytes (n + 4 * index) 0) place);
            before = λ k few above.
                let from = above.0 in
                let below = above.1 in
                open-to o (λ heads start contents. IsSame heads bytes start contents k) first place (found.before k (omega arith) (omega arith));
          };
      none = tt;
    }
