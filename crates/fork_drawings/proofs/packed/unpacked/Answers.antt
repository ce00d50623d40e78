use Rattle.std.proofs.Common.{◌≡◌, ℕ, ◌+◌, ◌-◌, ◌<◌, ◌∙◌, sym, ap, List, ◌++◌, length, drop, get_or, arith}
use Rattle.std.proofs.lemmas.List.{take_rest}
use Rattle.fork_drawings.specs.Packed.{run, unpacked, used}
use Rattle.fork_drawings.proofs.Steps.{appended, code_step, ended, enough, fewer, out_of_codes}
use Rattle.fork_drawings.proofs.packed.unpacked.Goals as goal

pub loop-code-preserved : goal.loop-code-preserved
loop-code-preserved c =
    let bytes : List ℕ = c.args.bytes.now in
    let unit : ℕ = c.args.unit in
    let at : ℕ = c.loop-code.at in
    let count = length bytes in
    let left = count - (c.loop-code._code + 1) in
    let old : List ℕ = c.loop-code.row.items in
    let new : List ℕ = c.push_run.new.row.items in
    let wanted = c.args.wanted - length old in
    let code : ℕ = get_or bytes at 0 in
    let piece = run unit code (drop (at + 1) bytes) in
    let more : 0 < wanted = omega (arith, c.loop-code.row.ok.0) in
    let step = code_step unit wanted count at c.loop-code._code bytes c.loop-code-test.true c.if-at-bytes.false more in
    let pushed : new ≡ old ++ piece =
    c.in_ok-push_run.ensures ∙ ap (λ (xs : List ℕ). old ++ run unit code xs) (take_rest bytes (at + 1)) in
    record {
      all =
          ap (λ (n : ℕ). new ++ unpacked unit (c.args.wanted - length new) left (drop (at + (1 + n)) bytes)) c.used.ensures.is
          ∙ ap (λ (n : ℕ). new ++ unpacked unit n left (drop (at + (1 + used unit code)) bytes)) (fewer c.args.wanted new old piece pushed)
          ∙ appended new old piece (unpacked unit (wanted - length piece) left (drop (at + (1 + used unit code)) bytes)) _ pushed
          (ap (λ (xs : List ℕ). old ++ xs) step ∙ c.loop-code.invariant.all);
      low = omega (arith, c.used.ensures.few, c.loop-code.invariant.low);
    }

pub returns-then-at-bytes : goal.returns-then-at-bytes
returns-then-at-bytes c =
    sym
    (ended c.args.unit (c.args.wanted - length c.loop-code.row.items) (length c.args.bytes.now - c.loop-code._code) c.loop-code.at c.loop-code.row.items
    c.args.bytes.now (omega arith))
    ∙ c.loop-code.invariant.all

pub returns-then-count-wanted : goal.returns-then-count-wanted
returns-then-count-wanted c =
    sym
    (enough c.args.unit c.args.wanted (length c.args.bytes.now - c.loop-code._code) c.loop-code.row.items (drop c.loop-code.at c.args.bytes.now)
    (omega (arith, c.loop-code.row.ok.0)))
    ∙ c.loop-code.invariant.all

pub returns : goal.returns
returns c =
    sym
    (out_of_codes c.args.unit (c.args.wanted - length c.loop-code.row.items) (length c.args.bytes.now) c.loop-code._code c.loop-code.at
    c.loop-code.row.items c.args.bytes.now c.loop-code-test.false)
    ∙ c.loop-code.invariant.all
