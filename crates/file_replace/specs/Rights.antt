-- Which mode a file gets in the place of another.
use Rattle.std.specs.Prelude.{ℕ, ◌+◌, ◌*◌, ◌/◌, ◌%◌, ◌&&◌, ◌==◌, Bool, if◌then◌else◌, bit_and}
use Rattle.file_replace.specs.declared.rights.Owner.{Owner}
use Rattle.file_replace.specs.declared.rights.Rights.{Rights}

-- the bits of a mode: those of others, of the group, of the user, and the special ones
abbrev pub of_others : ℕ → ℕ
of_others mode = mode / 1 % 8

abbrev pub of_group : ℕ → ℕ
of_group mode = mode / 8 % 8

abbrev pub of_user : ℕ → ℕ
of_user mode = mode / 64 % 8

abbrev pub special : ℕ → ℕ
special mode = mode / 512 % 8

-- what both the group and others may do
abbrev pub of_both : ℕ → ℕ
of_both mode = bit_and (of_group mode) (of_others mode)

-- The special bits stay only where the new file belongs to the same user and group. Members of a group that isn't kept
-- are others then, so group and others get what both had.
abbrev pub mode_for : ℕ → Bool → Bool → ℕ
mode_for mode keeps_user keeps_group = (if keeps_user && keeps_group then special mode else 0) * 512 + of_user mode * 64
    + (if keeps_group then of_group mode else of_both mode) * 8 + (if keeps_group then of_others mode else of_both mode)

-- the mode of a file that has this owner in the place of one of these rights
abbrev pub mode_of : Rights → Owner → ℕ
mode_of rights owner = mode_for rights.mode (owner.user == rights.owner.user) (owner.group == rights.owner.group)
