use Rattle.std.proofs.Common.{◌≡◌, ◌∙◌, ℕ, take, sym, ap}
use Rattle.mac_base.specs.HeadKind.{zone_header}
use Rattle.block_bytes.specs.ZoneHead.{zone_head}
use Rattle.block_bytes.proofs.ZoneHeads.{front-same}
use Rattle.block_bytes.proofs.memory.Memory.is_zone_head.Goals as goal

pub returns : goal.returns
returns c =
    let head : take zone_header c.zone_head.result ≡ zone_head c.args.end c.front.result c.args.free c.args.lowest = ap (take zone_header) c.zone_head.ensures in (
      λ yes. record { front = c.front.result; head = sym (c.has_zone_head.ensures.0 yes) ∙ head },
      λ w. c.has_zone_head.ensures.1
          (head ∙ ap (λ (n : ℕ). zone_head c.args.end n c.args.free c.args.lowest) c.front.ensures ∙ front-same c.args.self.now.bytes c.args.end w.front c.args.free c.args.lowest w.head),
    )
