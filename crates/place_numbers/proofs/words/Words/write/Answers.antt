use Rattle.std.proofs.Common.{◌≡◌, ◌+◌, ◌%◌, ◌<◌, ◌≤◌, ℕ, List, subst, arith}
use Rattle.std.specs.Int.{bit_at}
use Rattle.place_numbers.specs.Bits.{bits_of, AreWritten}
use Rattle.place_numbers.proofs.Marked.{long, IsWrite, still-none, marks-written, some-mark, none-marked}
use Rattle.place_numbers.proofs.words.Words.write.Goals as goal
use Rattle.place_numbers.proofs.words.Words.write.Goals.{After-put}

pub put-requires : goal.put-requires
put-requires c = let l = long c.self.inside.items.items c.self.inside.count c.self.invariant.past c.args.self.now c.self.view_is in let room = c.self.invariant.room in omega (arith, l, c.requires.inside, c.requires.some)

write : (c : After-put) → IsWrite c.self.inside.items.items c.put.new.words.items c.self.inside.count c.args.place c.args.count c.with_bits-now.result c.args.marks
write c = record {
  past = c.self.invariant.past;
  some = c.requires.some;
  fits = c.requires.word;
  inside = let l = long c.self.inside.items.items c.self.inside.count c.self.invariant.past c.args.self.now c.self.view_is in omega (arith, l, c.requires.inside);
  word = c.put.ensures.here;
  apart = c.put.ensures.others;
  here = c.with_bits-now.ensures.here;
  before = subst (λ (n : ℕ). (i : ℕ) → i < c.args.place % 64 → bit_at c.with_bits-now.result i ≡ bit_at n i) c.word_at-before.ensures c.with_bits-now.ensures.before;
  after = subst (λ (n : ℕ). (i : ℕ) → c.args.place % 64 + c.args.count ≤ i → i < 64 → bit_at c.with_bits-now.result i ≡ bit_at n i) c.word_at-before.ensures c.with_bits-now.ensures.after;
}

pub invariant_of-self : goal.invariant_of-self
invariant_of-self c = record {
  few = c.self.invariant.few;
  room = omega (arith, c.self.invariant.room, c.put.ensures.room);
  past = still-none c.self.inside.items.items c.put.new.words.items c.self.inside.count c.args.place c.args.count c.with_bits-now.result c.args.marks (write c);
}

pub returns-clause-written : goal.returns-clause-written
returns-clause-written c =
    subst (λ (xs : List ℕ). AreWritten xs (bits_of c.put.new.words.items c.self.inside.count) c.args.place c.args.count c.args.marks) c.self.view_is
    (marks-written c.self.inside.items.items c.put.new.words.items c.self.inside.count c.args.place c.args.count c.with_bits-now.result c.args.marks (write c))

pub returns-clause-some : goal.returns-clause-some
returns-clause-some c is = some-mark c.self.inside.items.items c.put.new.words.items c.self.inside.count c.args.place c.args.count c.with_bits-now.result c.args.marks (write c) (omega arith) is

pub returns-clause-none : goal.returns-clause-none
returns-clause-none c is = none-marked c.self.inside.items.items c.put.new.words.items c.self.inside.count c.args.place c.args.count c.with_bits-now.result c.args.marks (write c) is
