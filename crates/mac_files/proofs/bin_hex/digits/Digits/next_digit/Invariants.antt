use Rattle.std.proofs.Common.{◌≡◌, ◌-◌, ◌≤◌, length}
use Rattle.mac_files.specs.BinHexLeft.{digits_left}
use Rattle.mac_files.proofs.bin_hex.digits.Digits.next_digit.Given as goal

-- what is left has the same digits as before
abbrev pub invariant-loop-self : goal.invariant-loop-self
invariant-loop-self l = record {
  same : digits_left l.self ≡ digits_left l.initial.self;
  text : l.self.text ≡ l.initial.self.text;
  forward : l.initial.self.at ≤ l.self.at;
}

abbrev pub decreases-loop-self : goal.decreases-loop-self
decreases-loop-self l = length l.self.text.now - l.self.at
