use Rattle.std.proofs.Common.{◌≡◌, ◌+◌, ◌-◌, ◌∙◌, sym, ap, ℕ, List, ◌++◌, ◌∷◌, [], Ok, Err, rules, arith}
use Rattle.std.proofs.lemmas.Grind.{common_steps}
use Rattle.pict_bytes.specs.declared.sequence.Opcode.{Opcode}
use Rattle.pict_bytes.specs.Sequence.{next, opcodes_from}
use Rattle.pict_bytes.proofs.Steps.{after, last_opcode, next_low, next_opcode, none_before, too_many, wrong_opcode}
use Rattle.pict_bytes.proofs.sequence.opcodes_from.Goals as goal

pub loop-opcode-init : goal.loop-opcode-init
loop-opcode-init c =
    let rest = opcodes_from c.args.version c.args.bytes.now 1048576 c.args.start in
    record { all = ap (λ (xs : List Opcode). after xs rest) c.new-opcodes.ensures.items ∙ none_before rest; low = omega arith }

pub returns-in_err-opcode : goal.returns-in_err-opcode
returns-in_err-opcode c =
    let wrong : opcodes_from c.args.version c.args.bytes.now 1048576 c.args.start ≡ Err c.in_err-opcode.field-0.0 =
    sym c.loop-opcode.invariant.all
    ∙ wrong_opcode c.args.version c.args.bytes.now c.loop-opcode.at 1048576 c.loop-opcode._opcode c.loop-opcode.opcodes.items c.in_err-opcode.field-0.0
    c.loop-opcode-test.true (sym c.in_err-opcode.ensures.is) in
    rw wrong (first_of (search rules, grind (arith, common_steps)))

pub returns-then-opcode-eq-END : goal.returns-then-opcode-eq-END
returns-then-opcode-eq-END c =
    sym c.loop-opcode.invariant.all
    ∙ last_opcode c.args.version c.args.bytes.now c.loop-opcode.at 1048576 c.loop-opcode._opcode c.loop-opcode.opcodes.items c.in_ok-opcode.opcode
    c.loop-opcode-test.true (sym c.in_ok-opcode.ensures.is) c.if-opcode-eq-END.true
    ∙ ap (λ (xs : List Opcode). Ok xs) (sym c.in_ok-add.ensures)

pub loop-opcode-preserved : goal.loop-opcode-preserved
loop-opcode-preserved c =
    let version = c.args.version in
    let bytes = c.args.bytes.now in
    let left = 1048576 - (c.loop-opcode._opcode + 1) in
    let before = c.loop-opcode.opcodes.items in
    let opcode = c.in_ok-opcode.opcode in
    record {
      all =
          ap (λ (xs : List Opcode). after xs (opcodes_from version bytes left c.next-at.result)) c.in_ok-add.ensures
          ∙ ap (λ (n : ℕ). after (before ++ opcode ∷ []) (opcodes_from version bytes left n)) c.next-at.ensures
          ∙ sym
          (next_opcode version bytes c.loop-opcode.at 1048576 c.loop-opcode._opcode before opcode c.loop-opcode-test.true (sym c.in_ok-opcode.ensures.is)
          c.if-opcode-eq-END.false)
          ∙ c.loop-opcode.invariant.all;
      low = let near = next_low version opcode.end (omega (arith, c.in_ok-opcode.ensures.inside)) in omega (arith, near, c.next-at.ensures);
    }

pub returns : goal.returns
returns c =
    sym c.loop-opcode.invariant.all
    ∙ too_many c.args.version c.args.bytes.now c.loop-opcode.at 1048576 c.loop-opcode._opcode c.loop-opcode.opcodes.items c.loop-opcode-test.false
