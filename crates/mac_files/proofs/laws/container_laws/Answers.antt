use Rattle.mac_files.proofs.Known.{single, double, mac_binary, front, raw}
use Rattle.mac_files.proofs.laws.container_laws.Goals as goal

pub returns : goal.returns
returns c = record { single = single; double = double; mac_binary = mac_binary; front = front; raw = raw }
