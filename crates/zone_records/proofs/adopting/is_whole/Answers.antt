use Rattle.std.proofs.Common.{◌≡◌, true}
use Rattle.zone_records.proofs.adopting.is_whole.Goals as goal

pub returns-then-not-are_used-clause-whole : goal.returns-then-not-are_used-clause-whole
returns-then-not-are_used-clause-whole c = (
  λ yes. absurd (cc yes),
  λ whole. let yes : c.are_used.result ≡ true = c.are_used.ensures.1 whole.used in let not_so = c.if-not-are_used.true in absurd (cc (yes, not_so)),
)

pub free_if_right-requires : goal.free_if_right-requires
free_if_right-requires c = c.requires.sound (c.are_used.ensures.0 c.if-not-are_used.false)

pub is_chained-requires : goal.is_chained-requires
is_chained-requires c = record { sound = c.requires.sound (c.are_used.ensures.0 c.if-not-are_used.false); count = c.in-Some.ensures.free }

pub returns-in-None-clause-whole : goal.returns-in-None-clause-whole
returns-in-None-clause-whole c = (
  λ yes. absurd (cc yes),
  λ whole. absurd (c.in-None.ensures.none whole.right),
)

pub returns-in-Some-clause-whole : goal.returns-in-Some-clause-whole
returns-in-Some-clause-whole c = (
  λ yes. record { used = c.are_used.ensures.0 c.if-not-are_used.false; right = c.in-Some.ensures.right; chained = c.is_chained.ensures.0 yes },
  λ whole. c.is_chained.ensures.1 whole.chained,
)
