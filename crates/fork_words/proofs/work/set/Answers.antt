use Rattle.std.proofs.Common.{refl}
use Rattle.fork_words.proofs.work.set.Goals as goal

pub returns-clause-asked : goal.returns-clause-asked
returns-clause-asked c =
    let what = rw (c.word-old_kind.ensures, c.word-old_id.ensures) at c.in_ok-what.ensures.resource in
    let to = rw (c.word_or-kind.ensures, c.word_or-id.ensures, c.word-old_kind.ensures, c.word-old_id.ensures) at c.in_ok-to.ensures.resource in
    let file = rw c.word.ensures at c.in_ok-target.ensures.target in (
      refl,
      record {
        resource = what;
        becomes = to;
        name = c.in_ok-name.ensures.name;
        attributes = c.in_ok-attributes.ensures;
        target = file;
      },
    )
