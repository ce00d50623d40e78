use Rattle.std.proofs.Common.{◌≡◌, ◌≤◌, ◌+◌, Fits, w8, ap, sym, ◌∙◌, subst, arith, ℕ, List, length, take, drop, Some, slice_index}
use Rattle.fork_bytes.specs.Fork.{name_at}
use Rattle.fork_bytes.specs.Reading.{names_end}
use Rattle.fork_bytes.proofs.Sharing.{part_of_first, within_first}
use Rattle.fork_bytes.proofs.name.read_name.Goals as goal

-- a byte of length, which is at most 255
low : (map : List ℕ) (start count : ℕ) → start ≤ 131070 → count ≡ slice_index map start → Fits w8 (slice_index map start) → start + 1 + count ≤ names_end
low map start count first is few = omega arith

pub part-requires : goal.part-requires
part-requires c =
    subst (λ (xs : List ℕ). c.in-Some.start + 1 + c.in-Some-name_length.count ≤ length xs) (sym c.requires.shared)
    (within_first _ names_end c.args.map.now (low c.args.map.now _ _ c.in-Some.ensures.small c.in-Some-name_length.ensures.count (c.type_inv.map c.in-Some.start)) c.in-Some-name_length.ensures.within)

pub returns-in-Ok-clause-name : goal.returns-in-Ok-clause-name
returns-in-Ok-clause-name c =
    let m = c.args.map.now in let start = c.in-Some.start in let count = c.in-Some-name_length.count in
    ap Some (c.in-Ok.ensures ∙ ap (λ (xs : List ℕ). take count (drop (start + 1) xs)) c.requires.shared
    ∙ part_of_first count (start + 1) names_end m (low m start count c.in-Some.ensures.small c.in-Some-name_length.ensures.count (c.type_inv.map start))
    ∙ ap (λ (n : ℕ). take n (drop (start + 1) m)) c.in-Some-name_length.ensures.count)
    ∙ ap (name_at m) (sym c.in-Some.is ∙ c.find_name.ensures.place)
