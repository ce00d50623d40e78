use Rattle.std.proofs.Common.{◌≡◌, ◌∙◌, ◌<◌, ◌+◌, ◌^◌, if◌then◌else◌, sym, ap, get_or, length, map, option_copied, rules, take}
use Rattle.fork_bytes.specs.Rows.{Row}
use Rattle.fork_change.specs.declared.row.ResourceId.{ResourceId}
use Rattle.fork_change.specs.Differences.{count_at, nth_at, shown}
use Rattle.fork_change.specs.Index.{HasCounted, count_of, found_at}
use Rattle.fork_change.specs.Rows.{id_of, is_at}
use Rattle.fork_change.proofs.Indexed.{counted, few, changed_more}
use Rattle.fork_change.proofs.comparing.push_changed.Goals as goal

pub count_row-requires : goal.count_row-requires
count_row-requires c =
    let small : length c.args.first.now < 2 ^ 63 = search rules in
    record { few = few c.loop-at.counts c.args.first.now c.loop-at.at (id_of c.index-first-at.result) c.loop-at.invariant.1 small }

pub loop-at-preserved : goal.loop-at-preserved
loop-at-preserved c =
    let row = c.index-first-at.result in let n = c.in_ok-nth.nth in let at = c.loop-at.at in let rows = c.args.first.now in
    let nth : n ≡ count_at (id_of row) (take at rows) = c.in_ok-nth.ensures.nth ∙ c.loop-at.invariant.1 (id_of row) in
    let found : option_copied c.nth_at.result ≡ nth_at (id_of row) n c.args.second.now =
    c.nth_at.ensures ∙ ap (λ (what : ResourceId). found_at c.in_ok-others.others what n) c.id_of.ensures ∙ c.in_ok-others.ensures (id_of row) n in
    let within : at < length rows = search rules in
    let here : get_or rows at row ≡ row = search rules in (
      changed_more (map shown c.loop-at.found.items) (map shown c.push_against.new.found.items) c.args.second.now rows at n row (option_copied c.nth_at.result) within here nth found c.in_ok-push_against.ensures ∙ c.loop-at.invariant.0,
      (let all : HasCounted c.count_row.new.counts (take (at + 1) rows) = counted c.loop-at.counts c.count_row.new.counts rows at row within c.loop-at.invariant.1
          (λ what. c.in_ok-nth.ensures.counted what ∙ ap (λ (x : Row). count_of c.loop-at.counts what + (if is_at what x then 1 else 0)) (sym here)) in all),
    )
