-- Words of contracts. The steps of `watch` from the bytes of its files to what they are.
use Rattle.std.specs.Prelude.{◌≡◌, ℕ, List, Result, Ok, Err, ⊤}
use Rattle.edi_tree.specs.Tree.{Program}
use Rattle.edi_debug.specs.declared.answer.Points.{Points}
use Rattle.edi_debug.specs.Points.{bad_line, read, read_of, watched_in}
use Rattle.edi_runs.specs.declared.watch.source.Watchable.{Watchable}
use Rattle.edi_runs.specs.watch.Watchable.{IsWatchable}
use Rattle.edi_statuses.specs.declared.status.Status.{Status}
use Rattle.edi_statuses.specs.declared.status.Status.TheVariants as status
use Rattle.edi_statuses.specs.Outside.{Outside, IsSomeFile}
use Rattle.edi_statuses.specs.Steps.{goes, stops, Fetches}
use Rattle.edi_main.specs.run.FileSteps.{TextStops}

-- the program of a text, or why the command stops there
abbrev pub WatchableStep : (bytes : List ℕ) → Result Watchable Status → Type 0
WatchableStep bytes (Ok w) = IsWatchable bytes w
WatchableStep bytes (Err s) = TextStops bytes s

-- the bytes of a file of points are read
abbrev pub FilePoints : Program → (bytes : List ℕ) → Result Points Status → Type 0
FilePoints tree bytes (Ok points) = read_of tree bytes ≡ read (watched_in points)
FilePoints tree bytes (Err status.NoMemory) = ⊤
FilePoints tree bytes (Err (status.BadPoints n)) = read_of tree bytes ≡ bad_line n
FilePoints tree bytes (Err s) = ⊥

-- the points of a file are read, or why the command stops there; only a file of points that is there may be a fault
abbrev pub PointsStep : Outside → Program → (name : List ℕ) → Result Points Status → Type 0
PointsStep o tree name (Ok points) = (bytes : List ℕ) × Fetches o name (goes bytes) × (read_of tree bytes ≡ read (watched_in points))
PointsStep o tree name (Err status.NoMemory) = ⊤
PointsStep o tree name (Err status.FileFault) = IsSomeFile o name
PointsStep o tree name (Err (status.BadPoints n)) = (bytes : List ℕ) × Fetches o name (goes bytes) × (read_of tree bytes ≡ bad_line n)
PointsStep o tree name (Err s) = Fetches o name (stops s)
