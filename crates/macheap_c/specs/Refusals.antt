-- What C gets from a call that is refused.
use Rattle.std.specs.Prelude.{ℤ, pos, Result, Ok, Err}
use Rattle.held_zone.specs.HostCodes.{host_code}
use Rattle.mac_base.specs.Codes.{code_of}
use Rattle.macheap_c.specs.declared.refusal.Refusal.{Refusal}
use Rattle.macheap_c.specs.declared.refusal.Refusal.TheVariants.{Toolbox, Host}

-- the number of a refusal's code
abbrev pub refusal_code : Refusal → ℤ
refusal_code (Toolbox code) = code_of code
refusal_code (Host code) = host_code code

-- the code of a call without results
abbrev pub reply_code : Result (Unit {0}) Refusal → ℤ
reply_code (Ok done) = pos 0
reply_code (Err refusal) = refusal_code refusal
