use Rattle.fork_bytes.specs.declared.fault.Condition.TheVariants.{Types, References, Names, Places, ByteCount}
use Rattle.fork_salvage.proofs.Conditions.{refuses_at}
use Rattle.fork_salvage.proofs.Order.{below_types, below_references, below_names, below_places, below_sum, refuses_found, fork_unless}
use Rattle.fork_salvage.proofs.first.find_fault.Goals as goal

pub returns-in-Some-clause-refuses : goal.returns-in-Some-clause-refuses
returns-in-Some-clause-refuses c =
    let fork = c.args.fork.now in
    refuses_at fork c.in-Some.fault Types c.in-Some.ensures.some c.in-Some.ensures.refusal c.requires.header (below_types fork c.requires.parts)

pub returns-in-Some-find_list-clause-refuses : goal.returns-in-Some-find_list-clause-refuses
returns-in-Some-find_list-clause-refuses c =
    let fork = c.args.fork.now in
    refuses_at fork c.in-Some-find_list.fault References c.in-Some-find_list.ensures.some c.in-Some-find_list.ensures.refusal c.requires.header
    (below_references fork c.requires.parts c.in_default.ensures.none)

pub returns-in-Some-find_bad_name-clause-refuses : goal.returns-in-Some-find_bad_name-clause-refuses
returns-in-Some-find_bad_name-clause-refuses c =
    let fork = c.args.fork.now in
    refuses_at fork c.in-Some-find_bad_name.fault Names c.in-Some-find_bad_name.ensures.some c.in-Some-find_bad_name.ensures.refusal c.requires.header
    (below_names fork c.requires.parts c.in_default.ensures.none c.in_default-find_list.ensures.none c.in_default-find_count.ensures.none)

pub returns-in-Some-find_bad_bytes-clause-refuses : goal.returns-in-Some-find_bad_bytes-clause-refuses
returns-in-Some-find_bad_bytes-clause-refuses c =
    let fork = c.args.fork.now in
    refuses_at fork c.in-Some-find_bad_bytes.fault Places c.in-Some-find_bad_bytes.ensures.some c.in-Some-find_bad_bytes.ensures.refusal c.requires.header
    (below_places fork c.requires.parts c.in_default.ensures.none c.in_default-find_list.ensures.none c.in_default-find_count.ensures.none c.in_default-find_bad_name.ensures.none)

pub returns-clause-refuses : goal.returns-clause-refuses
returns-clause-refuses c =
    let fork = c.args.fork.now in
    refuses_found fork c.find_sum.result ByteCount c.find_sum.ensures.some c.find_sum.ensures.refusal c.requires.header
    (below_sum fork c.requires.parts c.in_default.ensures.none c.in_default-find_list.ensures.none c.in_default-find_count.ensures.none c.in_default-find_bad_name.ensures.none c.in_default-find_bad_bytes.ensures.none)

pub returns-clause-none : goal.returns-clause-none
returns-clause-none c =
    let fork = c.args.fork.now in
    fork_unless fork c.find_sum.result c.find_sum.ensures.none c.requires.header
    (below_sum fork c.requires.parts c.in_default.ensures.none c.in_default-find_list.ensures.none c.in_default-find_count.ensures.none c.in_default-find_bad_name.ensures.none c.in_default-find_bad_bytes.ensures.none)
