-- The commands of a 'snd ' resource (Inside Macintosh: Sound, "Sound Resources").
use Rattle.std.specs.Prelude.{ℕ, ◌+◌, ◌-◌, ◌*◌, ◌%◌, ◌==◌, ◌&&◌, ◌||◌, nat_lt, nat_le, if◌then◌else◌, Bool, List, length, map, Result, Ok, Err}
use Rattle.std.specs.List.{range_with_len}
use Rattle.fork_sounds.specs.declared.command.Command.{Command}
use Rattle.fork_sounds.specs.declared.fault.Fault.{Fault}
use Rattle.fork_sounds.specs.declared.fault.Fault.TheVariants as fault
use Rattle.fork_sounds.specs.Bytes.{and_then, long_at, word_at}

-- the most bytes of a resource that is read
abbrev pub most : ℕ
most = 16777216

-- where the first command is: format 1 has a list of synthesizers of 6 bytes before the count of commands, format 2 none
abbrev pub first_at : List ℕ → Result ℕ Fault
first_at bytes =
    if nat_lt most (length bytes) then Err fault.TooLarge
    else if nat_lt (length bytes) 6 then Err (fault.Short 6)
    else if word_at bytes 0 == 1 then Ok (6 + 6 * word_at bytes 2)
    else if word_at bytes 0 == 2 then Ok 6
    else Err fault.Kind

-- the command at a place: what it does, whether its second parameter is a place in the resource, and its parameters
abbrev pub command_at : List ℕ → ℕ → Command
command_at bytes at =
    record {
      number = word_at bytes at % 32768;
      has_place = nat_le 32768 (word_at bytes at);
      first = word_at bytes (at + 2);
      second = long_at bytes (at + 4);
    }

-- so many commands of 8 bytes, from a place on
abbrev pub commands_from : List ℕ → ℕ → ℕ → List Command
commands_from bytes start count = map (λ place. command_at bytes (start + 8 * place)) (range_with_len 0 count)

-- the commands of a resource; their count is before the first
abbrev pub commands_of : List ℕ → Result (List Command) Fault
commands_of bytes =
    and_then (first_at bytes) (λ start.
    let count = word_at bytes (start - 2) in
    if nat_lt (length bytes) (start + 8 * count) then Err (fault.Short (start + 8 * count)) else Ok (commands_from bytes start count))

-- whether a command plays samples of the resource: soundCmd and bufferCmd do
abbrev pub plays : Command → Bool
plays command = command.has_place && (command.number == 80 || command.number == 81)
