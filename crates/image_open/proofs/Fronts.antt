-- The beginning of a file.
use Rattle.std.proofs.Common.{◌≡◌, ℕ, Bool, List, length, min, take, sym, ap, ◌∙◌}
use Rattle.std.proofs.lemmas.List.{take_min}
use Rattle.fork_disk.specs.Disk.{bytes_at}
use Rattle.image_open.specs.Opening.{holds_fork, is_other}

-- by the first 4,096 bytes of a file, or all of fewer
pub front_says : (file front : List ℕ) (size least : ℕ) (is : Bool) → size ≡ length file → least ≡ min 4096 size → front ≡ bytes_at least 0 file → is ≡ is_other size front → is ≡ holds_fork file
front_says file front size least is whole fewer read says =
    says
    ∙ ap (λ (xs : List ℕ). is_other size xs) (read ∙ ap (λ (n : ℕ). take n file) (fewer ∙ ap (λ (n : ℕ). min 4096 n) whole) ∙ take_min 4096 file)
    ∙ ap (λ (n : ℕ). is_other n (take 4096 file)) whole
