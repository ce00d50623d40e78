-- A file that is left.
use Rattle.std.specs.Prelude.{Option, IfSome}
use Rattle.std.specs.Path.{path_buf_bytes}
use Rattle.std.specs.Global.{Global}
use Rattle.std.specs.declared.path.buf.PathBuf.{PathBuf}
use Rattle.host_paths.specs.Naming.{IsMadePath}

-- what is left, and can be removed, was made beside some path: it has the name of a new file
abbrev pub IsMadeLeft : Option (PathBuf Global) → Type 0
IsMadeLeft left = ∥ IfSome left (λ path. IsMadePath (path_buf_bytes path)) ∥₁
