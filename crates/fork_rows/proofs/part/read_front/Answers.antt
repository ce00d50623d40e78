use Rattle.std.proofs.Common.{◌≡◌, ◌∙◌, ◌≤◌, ◌++◌, List, ℕ, length, drop, take, min, replicate, ap, arith}
use Rattle.std.proofs.lemmas.List.{take_rest}
use Rattle.fork_bytes.specs.Fork.{header_of}
use Rattle.fork_rows.proofs.Front.{header_of_front, extra_of_front}
use Rattle.fork_rows.proofs.part.read_front.Goals as goal

pub returns-clause-reads : goal.returns-clause-reads
returns-clause-reads g c = λ honest. (
    let fork = g.S.ForkStore.fork c.args.store.now in
    let read = c.in_ok-front.ensures.reads honest in
    let known = (c.requires.long read.keeps.honest).1 in
    let whole : 16 ≤ c.min-count.result = omega arith in
    let count : c.min-count.result ≡ min (length fork) 256 = omega arith in
    let front = c.deref.ensures.value ∙ read.told in
    let after = take_rest c.deref-2.result.now 16 ∙ ap (drop 16) (c.deref-2.ensures.value ∙ read.told) in
    record {
      keeps = read.keeps;
      told = (
        c.in_ok-read_header.ensures.header ∙ ap header_of front ∙ header_of_front fork c.min-count.result whole,
        c.extra_bytes.ensures ∙ ap (λ (xs : List ℕ). take 240 (xs ++ replicate 240 0)) after ∙ extra_of_front fork c.min-count.result count,
      );
    })
