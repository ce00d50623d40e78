use Rattle.std.proofs.Common.{◌++◌, length, List, ℕ, take, replicate, subst, sym, ap, ◌∙◌}
use Rattle.std.proofs.lemmas.List.{take_rest}
use Rattle.fork_bytes.specs.declared.fault.Condition.TheVariants.{Parts}
use Rattle.fork_bytes.specs.declared.layout.Header.{Header}
use Rattle.fork_bytes.specs.Fork.{attributes_of, HasPartsWithin}
use Rattle.fork_bytes.proofs.Whole.{table_is, map_is, map_is_long}
use Rattle.fork_bytes.proofs.read.table_of.Goals as goal

pub map_bytes-requires : goal.map_bytes-requires
map_bytes-requires c = let P : Header → Type 0 = HasPartsWithin c.requires.fork.0 (length c.args.fork.now) in (subst P (sym c.requires.header) (c.requires.fork.1.holds Parts)).whole_map

pub read_attributes-requires : goal.read_attributes-requires
read_attributes-requires c =
    let P : Header → Type 0 = HasPartsWithin c.requires.fork.0 (length c.args.fork.now) in
    map_is_long c.requires.fork.0 c.args.fork.now c.args.header c.requires.header (subst P (sym c.requires.header) (c.requires.fork.1.holds Parts)) c.map_bytes.result.now c.map_bytes.ensures

pub returns : goal.returns
returns c =
    let fork = c.args.fork.now in
    let extra = c.extra_bytes.ensures ∙ ap (λ (xs : List ℕ). take 240 (xs ++ replicate 240 0)) (take_rest fork 16) in
    let marks = c.read_attributes.ensures ∙ ap attributes_of (map_is fork c.args.header c.requires.header c.map_bytes.result.now c.map_bytes.ensures) in
    table_is fork c.new.result c.extra_bytes.result c.read_attributes.result (c.new.ensures ∙ c.requires.rows) extra marks
