-- Definition. A disk without files.
use Rattle.std.specs.Prelude.{List, replicate, Option, None}
use Rattle.edi_calls.specs.State.{File}

-- 256 free slots
unfoldable pub no_files : List (Option File)
no_files = replicate 256 None
