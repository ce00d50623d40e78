use Rattle.std.proofs.Common.{rules, refl, ◌++◌, ◌∷◌, [], List}
use Rattle.std.proofs.Output.{has_written_append, writes_in_calls_nil}
use Rattle.fork_list.specs.declared.attribute.Attribute.{Attribute}
use Rattle.fork_list.specs.declared.attribute.Attribute.TheVariants.{Bit7, SysHeap, Purgeable, Locked, Protected, Preload, Changed, Bit0}
use Rattle.fork_list.proofs.Words.{skipped, said}
use Rattle.fork_list.proofs.attribute.AttributesDisplay.fmt.Goals as goal
use Rattle.fork_list.proofs.attribute.AttributesDisplay.fmt.Goals.{then-bits-bit-ne0+in_ok-write, else-bits-bit-ne0}

abbrev all : List Attribute
all = Bit7 ∷ SysHeap ∷ Purgeable ∷ Locked ∷ Protected ∷ Preload ∷ Changed ∷ Bit0 ∷ []

pub loop-attribute-init : goal.loop-attribute-init
loop-attribute-init g c = (search rules, λ plain. ([], record { wrote = writes_in_calls_nil _ _; plain = plain }, refl))

pub loop-attribute-preserved : goal.loop-attribute-preserved
loop-attribute-preserved g c =
    let invariant = c.loop-attribute.invariant in
    let i = c.loop-attribute.attribute-index in
    let separator = c.loop-attribute.separator.now in
    let bits = c.args.self.now.bits in
    elim c.if-bits-bit-ne0.branch [
      | then-bits-bit-ne0+in_ok-write w ↦ rw (w.f-is, w.separator-is) (
        search rules,
        λ plain.
            let so_far = invariant.1 plain in (
              so_far.0 ++ (separator ++ w.word-word.result.now),
              has_written_append _ _ _ _ _ _ so_far.1 (search rules),
              said separator so_far.0 bits all i Bit7 _ c.bit.result w.word-word.result.now c.loop-attribute-test.true c.bit.ensures w.word-word.ensures w.if-bits-bit-ne0.true so_far.2,
            ),
      )
      | else-bits-bit-ne0 w ↦ rw (w.f-is, w.separator-is) (
        invariant.0,
        λ plain.
            let so_far = invariant.1 plain in
            (so_far.0, so_far.1, skipped separator so_far.0 bits all i Bit7 _ c.bit.result c.loop-attribute-test.true c.bit.ensures w.if-bits-bit-ne0.false so_far.2),
      )
    ]
