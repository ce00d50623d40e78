use Rattle.std.proofs.Common.{rules, ◌≡◌, ℕ, ◌+◌, ◌-◌, ◌%◌, ◌≤◌, ◌<◌, ◌∙◌, sym, ap, arith, inl, inr}
use Rattle.std.proofs.lemmas.Bool.Decides.{nat_tests}
use Rattle.std.proofs.lemmas.Bool.{eqb-true}
use Rattle.mac_base.specs.HeadKind.{head_size}
use Rattle.block_bytes.specs.declared.header.Header.{Header}
use Rattle.block_bytes.specs.declared.header.Role.TheVariants.{Master}
use Rattle.zone_records.proofs.Held.{held-read}
use Rattle.zone_records.proofs.Slots.{no-slot_outside, slot-found, slot-made, holder-range}
use Rattle.zone_records.proofs.lookup.is_slot.Goals as goal
use Rattle.zone_records.proofs.lookup.is_slot.Goals.{then-eq, else-eq, then-first-at, else-first-at, Then-at-first-lt-MASTER_LENGTH}

pub returns-in_default : goal.returns-in_default
returns-in_default c = (
  λ is. absurd (cc is),
  λ s. absurd (no-slot_outside _ _ (held-read c.args.blocks.now c.requires) c.args.at s c.in_default.ensures.outside),
)

pub overflow_add-first : goal.overflow_add-first
overflow_add-first c =
    let held = held-read c.args.blocks.now c.requires in
    let high = holder-range _ _ held c.args.at c.in-Some.start c.in-Some.ensures.holds in
    let head = c.head_size.ensures ∙ ap head_size (c.heads.ensures ∙ c.spec.ensures.heads) in
    omega arith

-- the tests that have passed
passed : (c : Then-at-first-lt-MASTER_LENGTH) → (c.entry_at.result.role ≡ Master) × (c.in-Some.start + c.head_size.result ≤ c.args.at) × (c.args.at < c.in-Some.start + c.head_size.result + 256)
passed c = elim c.if-first-at.branch [
  | then-first-at w ↦ (search rules, omega arith, let is = w.value-is in let true = c.if-at-first-lt-MASTER_LENGTH.true in grind (arith, nat_tests))
  | else-first-at w ↦ (let is = w.value-is in let true = c.if-at-first-lt-MASTER_LENGTH.true in absurd (grind (arith, nat_tests)))
]

pub returns-then-at-first-lt-MASTER_LENGTH : goal.returns-then-at-first-lt-MASTER_LENGTH
returns-then-at-first-lt-MASTER_LENGTH c =
    let held = held-read c.args.blocks.now c.requires in
    let first = c.in-Some.start + c.head_size.result in
    let head = ap (λ (n : ℕ). c.in-Some.start + n) (c.head_size.ensures ∙ ap head_size (c.heads.ensures ∙ c.spec.ensures.heads)) in
    let tests = passed c in
    let role = ap (λ (h : Header). h.role) (sym (c.entry_at.ensures c.in-Some.ensures.holds.block)) ∙ tests.0 in (
      λ even. slot-made _ _ held c.args.at c.in-Some.start first c.in-Some.ensures.holds head role tests.1 tests.2 (eqb-true ((c.args.at - first) % 4) 0 even),
      λ s. let even = (slot-found _ _ held c.args.at s c.in-Some.start first c.in-Some.ensures.holds head).3 in grind (arith, nat_tests),
    )

pub returns-else-at-first-lt-MASTER_LENGTH : goal.returns-else-at-first-lt-MASTER_LENGTH
returns-else-at-first-lt-MASTER_LENGTH c =
    let held = held-read c.args.blocks.now c.requires in
    let first = c.in-Some.start + c.head_size.result in
    let head = ap (λ (n : ℕ). c.in-Some.start + n) (c.head_size.ensures ∙ ap head_size (c.heads.ensures ∙ c.spec.ensures.heads)) in (
      λ is. absurd (cc (is, c.if-at-first-lt-MASTER_LENGTH.false)),
      λ s. let said = slot-found _ _ held c.args.at s c.in-Some.start first c.in-Some.ensures.holds head in
          let master : c.entry_at.result.role ≡ Master = ap (λ (h : Header). h.role) (c.entry_at.ensures c.in-Some.ensures.holds.block) ∙ said.0 in
          let low = said.1 in
          let high = said.2 in
          elim c.if-first-at.branch [
            | then-first-at w ↦ (let value = w.value-is in let false = c.if-at-first-lt-MASTER_LENGTH.false in absurd (grind (arith, nat_tests)))
            | else-first-at w ↦ elim w.if-first-at.either [
              | inl below ↦ (let less = below.1 in absurd (omega arith))
              | inr other ↦ absurd (grind (arith, nat_tests))
            ]
          ],
    )
