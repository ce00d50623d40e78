-- Where nothing is lost, the container holds the new file.
use Rattle.std.proofs.Common.{◌≡◌, zero, suc, Bool, true, false, List, [], ◌∷◌, ◌++◌, map, refl, arith}
use Rattle.std.specs.Prelude.{◌&&◌, not, if◌then◌else◌}
use Rattle.mac_write.specs.Bytes.{AreBytes}
use Rattle.mac_write.specs.Lost.{NothingIsLost, holds, is_lost}
use Rattle.mac_write.specs.Parts.{IsFile, Parts}
use Rattle.mac_write.specs.Written.{held}
use Rattle.mac_write.specs.declared.detail.Detail.{Detail}
use Rattle.mac_write.specs.declared.detail.Detail.TheVariants.{Comment, DataFork, Dates, Finder, Name}
use Rattle.fork_edit.specs.Convert.{IsHeldWhole, here, is_left_out, lacks_data, losses, lost_details, new_file, told}
use Rattle.fork_edit.specs.Extras.{extras}
use Rattle.fork_edit.specs.declared.convert.Loss.{Loss}
use Rattle.fork_edit.specs.declared.convert.Loss.TheVariants as loss
use Rattle.fork_edit.specs.declared.convert.Transfer.{Transfer}

first_empty : (xs ys : List Loss) → xs ++ ys ≡ [] → xs ≡ []
first_empty [] ys none = refl
first_empty (x ∷ xs) ys none = absurd (cc none)

rest_empty : (xs ys : List Loss) → xs ++ ys ≡ [] → ys ≡ []
rest_empty [] ys none = none
rest_empty (x ∷ xs) ys none = absurd (cc none)

not_told : (out : Bool) (d : Detail) → (if out then loss.Detail d ∷ [] else []) ≡ [] → out ≡ false
not_told true d none = absurd (cc none)
not_told false d none = refl

none_left_out : (asked : Transfer) → losses asked ≡ [] → (d : Detail) → is_left_out asked d ≡ false
none_left_out asked none d =
    let more : List Loss = (if lacks_data asked then loss.DataBeside ∷ [] else []) ++ map loss.Extra (extras asked.bytes.now) in
    let all = first_empty (lost_details asked) more none in
    let finder = rest_empty (told asked Name) (told asked Finder ++ (told asked Dates ++ (told asked Comment ++ told asked DataFork))) all in
    let dates = rest_empty (told asked Finder) (told asked Dates ++ (told asked Comment ++ told asked DataFork)) finder in
    let comment = rest_empty (told asked Dates) (told asked Comment ++ told asked DataFork) dates in
    elim d as (λ (v : Detail). is_left_out asked v ≡ false) [
      | Name ↦ not_told (is_left_out asked Name) Name (first_empty (told asked Name) (told asked Finder ++ (told asked Dates ++ (told asked Comment ++ told asked DataFork))) all)
      | Finder ↦ not_told (is_left_out asked Finder) Finder (first_empty (told asked Finder) (told asked Dates ++ (told asked Comment ++ told asked DataFork)) finder)
      | Dates ↦ not_told (is_left_out asked Dates) Dates (first_empty (told asked Dates) (told asked Comment ++ told asked DataFork) dates)
      | Comment ↦ not_told (is_left_out asked Comment) Comment (first_empty (told asked Comment) (told asked DataFork) comment)
      | DataFork ↦ not_told (is_left_out asked DataFork) DataFork (rest_empty (told asked Comment) (told asked DataFork) comment)
    ]

if_same : (b : Bool) → (if b then false else false) ≡ false
if_same true = refl
if_same false = refl

not_both : (a b : Bool) → b ≡ true → (a && b) ≡ false → a ≡ false
not_both true true is none = none
not_both true false is none = absurd (cc is)
not_both false b is none = refl

no_bytes : AreBytes []
no_bytes zero = omega arith
no_bytes (suc k) = omega arith

held_here : (asked : Transfer) (named : Bool) → asked.is_data_named ≡ named → losses asked ≡ [] → IsFile (new_file asked) → NothingIsLost →
    held asked.target (here named (new_file asked)) ≡ here named (new_file asked)
held_here asked true is none file law =
    let left = none_left_out asked none in
    let bare : Parts = record (new_file asked) { data_fork = [] } in
    let is_file : IsFile bare = record {
      name = file.name;
      comment = file.comment;
      data_fork = no_bytes;
      resource_fork = file.resource_fork;
      kind = file.kind;
      kind_length = file.kind_length;
      creator = file.creator;
      creator_length = file.creator_length;
      flags = file.flags;
    } in
    law asked.target bare is_file (λ (d : Detail). elim d as (λ (v : Detail). is_lost v asked.target bare ≡ false)
    [ Name ↦ left Name | Finder ↦ left Finder | Dates ↦ left Dates | Comment ↦ left Comment | DataFork ↦ if_same (holds asked.target DataFork) ])
held_here asked false is none file law =
    let left = none_left_out asked none in
    let unnamed : not asked.is_data_named ≡ true = rw is refl in
    law asked.target (new_file asked) file (λ (d : Detail). elim d as (λ (v : Detail). is_lost v asked.target (new_file asked) ≡ false) [
      | Name ↦ left Name
      | Finder ↦ left Finder
      | Dates ↦ left Dates
      | Comment ↦ left Comment
      | DataFork ↦ not_both (is_lost DataFork asked.target (new_file asked)) (not asked.is_data_named) unnamed (left DataFork)
    ])

pub held_whole : (asked : Transfer) → losses asked ≡ [] → IsFile (new_file asked) → NothingIsLost → IsHeldWhole asked
held_whole asked none file law = held_here asked asked.is_data_named refl none file law
