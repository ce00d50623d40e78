use Rattle.std.proofs.Common.{◌≡◌, ◌<◌, inl, inr, refl, ◌∙◌, ℕ, ◌∷◌, arith}
use Rattle.std.proofs.lemmas.Bool.{cases_lt}
use Rattle.mac_base.specs.HeadKind.{zone_header}
use Rattle.mac_base.proofs.Reach.{end-small}
use Rattle.block_bytes.specs.Finding.{SplitAt}
use Rattle.block_bytes.specs.Layout.{BlockAt, Layout}
use Rattle.block_bytes.specs.Structure.{HasHead}
use Rattle.zone_records.proofs.MasterBlocks.{block-end}
use Rattle.zone_records.proofs.TouchedBlocks.{HasBlocks, range-outside, range-tells}
use Rattle.zone_records.proofs.ranges.compare_range.Goals as goal
use Rattle.zone_records.proofs.ranges.compare_range.Goals.{After-holder, In-Some, else-range-lt-ZONE_HEADER-via-then-range-lt-ZONE_HEADER+else-not-has_head, else-range-lt-ZONE_HEADER-via-else-range-lt-ZONE_HEADER}

pub returns-then-not-has_head : goal.returns-then-not-has_head
returns-then-not-has_head c range =
    let any = c.if-range-eq0.false in
    let low = c.if-range-lt-ZONE_HEADER.true in
    let head = c.if-not-has_head.ensures.1 (range.head c.args.range.from (omega arith, omega arith) low) in
    absurd (cc head)

-- the zone's header is there where the range reaches into it
head_is : (c : After-holder) → c.args.range.from < zone_header → HasHead c.args.blocks.now c.args.bytes.now
head_is c low = elim c.else-range-lt-ZONE_HEADER.branch [
  | else-range-lt-ZONE_HEADER-via-then-range-lt-ZONE_HEADER+else-not-has_head w ↦ w.if-not-has_head.ensures.0 refl
  | else-range-lt-ZONE_HEADER-via-else-range-lt-ZONE_HEADER w ↦ (let high = w.if-range-lt-ZONE_HEADER.false in absurd (omega arith))
]

-- the blocks from an address on
split_there : (l : Layout) (at : ℕ) → BlockAt l at → SplitAt l at
split_there l at b = record { before = b.before; after = b.here ∷ b.after; blocks = b.blocks; place = b.place }

pub compare_blocks-requires-clause-split : goal.compare_blocks-requires-clause-split
compare_blocks-requires-clause-split c = split_there c.args.blocks.now c.in-Some.start c.in-Some.ensures.holds.block

-- its blocks are those from the one that has the first byte
has_blocks : (c : In-Some) → HasBlocks c.args.blocks.now c.args.range c.in-Some.start c.saturating_add-end.result
has_blocks c =
    let l = c.args.blocks.now in
    let w = c.args.range in
    let held = c.in-Some.ensures.holds in
    let base : c.base-base.result ≡ l.base = c.base-base.ensures.value ∙ c.spec.ensures.base in
    let most = c.max.ensures in
    let first = c.saturating_add-first.ensures in
    let from = c.saturating_add.ensures in
    let end = c.saturating_add-end.ensures in
    let low = held.low in
    let high = held.high in
    let inside = (block-end l c.requires.sound c.in-Some.start held.block).0 in
    let some = c.if-range-eq0.false in
    record {
      first = held.block;
      any = omega arith;
      low = λ at after following. omega arith;
      high = omega arith;
      ends = omega arith;
      all = elim (cases_lt c.saturating_add-end.result 0xFFFF_FFFF) [ inl below ↦ inl (omega arith) | inr highest ↦ inr highest ];
    }

pub returns-in-Some : goal.returns-in-Some
returns-in-Some c =
    let l = c.args.blocks.now in
    let split = split_there l c.in-Some.start c.in-Some.ensures.holds.block in
    range-tells l c.requires.sound c.args.bytes.now c.args.range c.in-Some.start c.saturating_add-end.result (has_blocks (goal.at.returns-in-Some c).In-Some) split (head_is (goal.at.returns-in-Some c).After-holder) c.compare_blocks.result (c.compare_blocks.ensures split)

pub returns-in-None : goal.returns-in-None
returns-in-None c =
    let l = c.args.blocks.now in
    let base : c.base-base.result ≡ l.base = c.base-base.ensures.value ∙ c.spec.ensures.base in
    let most = c.max.ensures in
    let first = c.saturating_add-first.ensures in
    let high = c.requires.sound.high in
    let small = end-small l.heads in
    range-outside l c.requires.sound c.args.bytes.now c.args.range (head_is (goal.at.returns-in-None c).After-holder) (λ at after following. elim c.in-None.ensures.outside [ inl below ↦ absurd (omega arith) | inr above ↦ omega arith ])
