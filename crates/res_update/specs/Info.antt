-- SetResInfo: a resource gets another id, and another name. The bytes of resources, and the zone, stay.
use Rattle.std.specs.Prelude.{ℕ, ℤ, not, nat_le, List, length, Option, is_some}
use Rattle.std.specs.Option.{option_map_or, option_or}
use Rattle.mac_base.specs.declared.error.OsErr.{OsErr}
use Rattle.mac_base.specs.declared.error.OsErr.TheVariants.{ParamErr, ResNotFound, ResFNotFound, ResAttrErr}
use Rattle.mac_base.specs.Tests.{unless_passed}
use Rattle.res_table.specs.OpenFiles.{place_of_handle}
use Rattle.res_table.specs.Info.{with_info}
use Rattle.res_update.specs.Attributes.{has_bit, res_protected}
use Rattle.res_update.specs.Changes.{Files, row_changed}
use Rattle.res_update.specs.Updates.{row_passes}

-- Why the call is refused, if it is: no file is open; no resource has the handle; the resource is protected; the name
-- has more than 255 bytes.
abbrev pub info_refusal : ℕ → Option (List ℕ) → Files → Option OsErr
info_refusal h name files = option_or (unless_passed ResFNotFound (is_some files.current)) (option_or (unless_passed ResNotFound (is_some (place_of_handle h files)))
    (option_or (unless_passed ResAttrErr (row_passes (λ r. not (has_bit res_protected r.resource.attributes)) h files)) (unless_passed ParamErr (nat_le (option_map_or length name 0) 255))))

-- the files, where the resource with a handle has this id, and this name where one is given
abbrev pub info_changed : ℕ → ℤ → Option (List ℕ) → Files → Files
info_changed h id name files = option_map_or (λ p. row_changed p (with_info id name) files) (place_of_handle h files) files
