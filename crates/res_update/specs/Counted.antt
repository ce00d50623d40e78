-- Calls that say what all open files have together. They change nothing.
use Rattle.std.specs.Prelude.{length, is_some, if◌then◌else◌, Ok, Err}
use Rattle.std.specs.Option.{option_map_or}
use Rattle.mac_base.specs.declared.error.OsErr.TheVariants.{AddResFailed, ResNotFound, ResFNotFound}
use Rattle.mac_base.specs.Outcomes.{Outcome}
use Rattle.mac_base.specs.declared.reply.Results.TheVariants.{Number, Kind}
use Rattle.res_table.specs.AllFiles.{all_rows, all_types, free_in_all}
use Rattle.res_table.specs.Rows.{count_of_type, ith}
use Rattle.res_update.specs.declared.counting_call.CountingCall.{CountingCall}
use Rattle.res_update.specs.declared.counting_call.CountingCall.TheVariants.{CountTypes, GetIndType, CountResources, UniqueId}
use Rattle.res_update.specs.Changes.{Files}

-- what some open files say: there may be no type with the index, and no id from 128 to 32,767 may be left
abbrev pub told_of_all : CountingCall → Files → Outcome
told_of_all CountTypes files = Ok (Number (length (all_types files.files)))
told_of_all (GetIndType i) files = option_map_or (λ kind. Ok (Kind kind)) (ith i (all_types files.files)) (Err ResNotFound)
told_of_all (CountResources kind) files = Ok (Number (count_of_type kind (all_rows files.files)))
told_of_all (UniqueId kind) files = option_map_or (λ id. Ok (Number id)) (free_in_all kind files.files) (Err AddResFailed)

-- what the call returns; it is refused where no file is open
abbrev pub counted : CountingCall → Files → Outcome
counted call files = if is_some files.current then told_of_all call files else Err ResFNotFound
