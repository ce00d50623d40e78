use Rattle.std.proofs.Common.{inr, refl}
use Rattle.fork_words.proofs.Endings.{unmade_is}
use Rattle.fork_words.proofs.ending.form_by_ending.Goals as goal

pub returns-then-is_refused-clause-refused : goal.returns-then-is_refused-clause-refused
returns-then-is_refused-clause-refused c =
    inr (
      refl,
      unmade_is c.args.name.now c.as_bytes.result.now c.in_ok-small.small.items c.as_slice-name.result.now c.is_refused.result _ c.as_bytes.ensures.value
          c.in_ok-small.ensures.ok c.as_slice-name.ensures.value c.is_refused.ensures c.if-is_refused.true,
    )

pub returns-clause-made : goal.returns-clause-made
returns-clause-made c =
    unmade_is c.args.name.now c.as_bytes.result.now c.in_ok-small.small.items c.as_slice-name.result.now c.is_refused.result _ c.as_bytes.ensures.value
    c.in_ok-small.ensures.ok c.as_slice-name.ensures.value c.is_refused.ensures c.if-is_refused.false
