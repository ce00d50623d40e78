use Rattle.std.proofs.Common.{◌≡◌, ◌+◌, ◌-◌, ◌<◌, ℕ, slice_index, sym, ◌∙◌, ⊎_elim, arith}
use Rattle.std.proofs.lemmas.Bool.{cases_lt}
use Rattle.byteorder.specs.Endian.{big_bytes}
use Rattle.raw_region.specs.State.{with_bytes}
use Rattle.block_bytes.specs.Starts.{first_marked}
use Rattle.block_bytes.specs.ZoneHead.{free_field, lowest_field}
use Rattle.block_bytes.proofs.Starts.{first_marked-found, first_marked-missing}
use Rattle.block_bytes.proofs.blocks.count_free.Goals as goal
use Rattle.block_bytes.proofs.blocks.count_free.Goals.{in-Some, in-None}

pub returns : goal.returns
returns c =
    let from = c.search_start-from.result in
    let lower : (j : ℕ) → j < from → slice_index c.args.index.now j < 3 = λ j before.
    let changed = c.search_start-from.ensures.changed in let few = c.requires.low j (omega arith) (λ above. let b = c.search_start-from.ensures.before above in omega arith) in omega arith in
    let lowest : c.match-first_most.lowest ≡ first_marked c.args.base c.args.index.now = elim c.match-first_most.branch [
      | in-Some w ↦ let found = w.in-Some.ensures.first in
          w.lowest-is ∙ sym (first_marked-found c.args.index.now c.args.base w.in-Some.place found.inside.1 found.large
          (λ j before. ⊎_elim (λ low. lower j low) (λ above. found.first j above before) (cases_lt j from)))
      | in-None w ↦ w.lowest-is ∙ sym (first_marked-missing c.args.index.now c.args.base
          (λ j inside. ⊎_elim (λ low. lower j low) (λ above. w.in-None.ensures.none j above inside) (cases_lt j from)))
    ] in
    c.set_free.ensures ∙ (λ i. with_bytes (with_bytes c.args.memory.now free_field (big_bytes 4 (c.free_bytes.ensures i + c.args.gained - c.args.lost))) lowest_field (big_bytes 4 (lowest i)))
