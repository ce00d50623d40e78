-- None of some blocks is free where the next free one begins after them.
use Rattle.std.proofs.Common.{◌≡◌, ℕ, ◌≤◌, true, ap, sym, ◌∙◌, arith}
use Rattle.mac_base.specs.ZoneMap.{free_bytes}
use Rattle.mac_base.specs.ZoneState.{ZoneState}
use Rattle.zone_laws.proofs.Arranging.{free_bytes-all_used}
use Rattle.zone_laws.proofs.GapAppend.{free_bytes-append}
use Rattle.linked_zone.specs.Places.{FirstFree, SplitAt, none_free}
use Rattle.zone_index.specs.Leaves.{IsUsed}
use Rattle.zone_index.proofs.GapWalk.{none-among}

module _ {z : ZoneState} {low : ℕ} (split : SplitAt z low) (high : ℕ) where
  pub used-up_to : (at : ℕ) → FirstFree split.after low at → high ≤ at → IsUsed split high
  used-up_to at f past blocks after is within = let place = f.place in none-among blocks after f.passed f.size f.after (sym is ∙ f.splits) f.used (omega arith)

  pub used-all : none_free split.after ≡ true → IsUsed split high
  used-all used blocks after is within =
      let none = free_bytes-all_used split.after used in
      let both = ap free_bytes is ∙ free_bytes-append blocks after in
      omega arith
