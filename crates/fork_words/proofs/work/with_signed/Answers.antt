use Rattle.std.proofs.Common.{inl, inr, rules}
use Rattle.fork_words.proofs.work.with_signed.Goals as goal

pub returns-in_ok-attribute : goal.returns-in_ok-attribute
returns-in_ok-attribute c =
    (c.in-Some.word.now, c.in_ok-attribute.attribute.0, c.in_ok-attribute.ensures, c.insert.ensures tt, inl (search rules, c.insert-in-Some.ensures tt))

pub returns-in_ok-attribute-2 : goal.returns-in_ok-attribute-2
returns-in_ok-attribute-2 c =
    (c.in_ok-strip_prefix.field-0.now, c.in_ok-attribute-2.attribute.0, c.in_ok-attribute-2.ensures, c.insert-in_default.ensures tt, inr (search rules, c.remove.ensures tt))
