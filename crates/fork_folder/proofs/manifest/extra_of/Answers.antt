use Rattle.std.proofs.Common.{sym, ◌∙◌}
use Rattle.hex.proofs.HexLemmas.{IsOk-decode_sized}
use Rattle.fork_folder.proofs.manifest.extra_of.Goals as goal

pub returns-clause-found : goal.returns-clause-found
returns-clause-found c =
    let digits = IsOk-decode_sized c.args.text.now 240 in
    let sized = c.from_hex.ensures in (
      λ h. digits.0 (rw sized at (sym c.ok.ensures.variant ∙ h)),
      λ h. c.ok.ensures.variant ∙ rw sized (digits.1 h),
    )
