use Rattle.std.proofs.Common.{◌≡◌, ◌∙◌}
use Rattle.std.specs.List.{position_or_len}
use Rattle.script_text.specs.Front.{is_no_blank}
use Rattle.script_text.proofs.Fronts.{position_or_end, position_within}
use Rattle.script_text.proofs.token.skip_blanks.Goals as goal

pub split_at-requires : goal.split_at-requires
split_at-requires c =
    let found : c.unwrap_or.result ≡ position_or_len is_no_blank c.args.line.now = c.unwrap_or.ensures ∙ rw c.first_no_blank.ensures (position_or_end is_no_blank c.args.line.now) in
    rw found (position_within is_no_blank c.args.line.now)

pub returns : goal.returns
returns c =
    let found : c.unwrap_or.result ≡ position_or_len is_no_blank c.args.line.now = c.unwrap_or.ensures ∙ rw c.first_no_blank.ensures (position_or_end is_no_blank c.args.line.now) in
    rw found at c.split_at.ensures.back
