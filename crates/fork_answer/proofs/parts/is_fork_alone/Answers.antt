use Rattle.std.proofs.Common.{◌∙◌, ◌≤◌, ℕ, ap, arith, replicate}
use Rattle.std.proofs.lemmas.List.{length-take-le}
use Rattle.fork_bytes.specs.Fork.{bytes_at}
use Rattle.fork_answer.proofs.InParts.{known_by_front}
use Rattle.fork_rows.proofs.Kept.{read_twice}
use Rattle.fork_answer.proofs.parts.is_fork_alone.Goals as goal

pub returns-in-Ok-read_at-clause-raw : goal.returns-in-Ok-read_at-clause-raw
returns-in-Ok-read_at-clause-raw g c = λ honest. (
    let read = c.in-Ok-read_at.ensures.reads honest in
    let count = c.in-Ok.ensures.measures read.keeps.honest in
    let few : c.min.result ≤ 128 = omega arith in
    let long = length-take-le c.min.result (replicate 128 0) few in
    let part = read.read ∙ ap (λ (n : ℕ). bytes_at n 0 (g.S.ForkStore.fork c.len.new.self)) long ∙ ap (bytes_at c.min.result 0) count.keeps.same in
    record {
      keeps = read_twice g.S.ForkStore _ _ _ count.keeps read.keeps;
      told = c.is_raw.ensures ∙ known_by_front _ _ _ c.min.result count.value c.min.ensures part;
    })
