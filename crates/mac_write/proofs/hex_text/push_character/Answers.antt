use Rattle.std.proofs.Common.{◌-◌, ◌∷◌, [], arith}
use Rattle.mac_write.proofs.HexLines.{character_added, line_goes_on, line_starts}
use Rattle.mac_write.proofs.hex_text.push_character.Goals as goal

pub returns-in_ok-extend_from_slice-clause-lines : goal.returns-in_ok-extend_from_slice-clause-lines
returns-in_ok-extend_from_slice-clause-lines c = λ rest.
    character_added c.extend_from_slice.new.self.items c.args.new.now.items (10 ∷ c.args.character ∷ []) 63 c.args.room c.args.character rest
    c.in_ok-extend_from_slice.ensures.items (line_starts c.args.room c.args.character rest c.if-room-eq0.true)

pub returns-in_ok-extend_from_slice-2-clause-lines : goal.returns-in_ok-extend_from_slice-2-clause-lines
returns-in_ok-extend_from_slice-2-clause-lines c = λ rest.
    character_added c.extend_from_slice-else-room-eq0.new.self.items c.args.new.now.items (c.args.character ∷ []) (c.args.room - 1) c.args.room c.args.character rest
    c.in_ok-extend_from_slice-2.ensures.items (line_goes_on c.args.room c.args.character rest (omega arith))
