-- The points of a file that was fetched.
use Rattle.std.proofs.Common.{◌≡◌, ◌∙◌, ℕ, List, take, Result, Ok, Err, IfErr, sym, ap, subst}
use Rattle.edi_tree.specs.Tree.{Program}
use Rattle.edi_debug.specs.declared.answer.Points.{Points}
use Rattle.edi_debug.specs.Points.{bad_line, read, read_of, watched_in}
use Rattle.edi_runs.specs.watch.Limit.{most_fetched}
use Rattle.edi_runs.proofs.watch.Limited.{first_bytes_decide}
use Rattle.edi_statuses.specs.declared.status.Status.{Status}
use Rattle.edi_statuses.specs.declared.status.Status.TheVariants as status
use Rattle.edi_statuses.specs.Outside.{Outside}
use Rattle.edi_statuses.specs.Steps.{goes, Fetches}
use Rattle.edi_main.specs.run.WatchedFiles.{FilePoints, PointsStep}

-- the first bytes are read as all are
same_reading : (tree : Program) (bytes all : List ℕ) → bytes ≡ take most_fetched all → read_of tree all ≡ read_of tree bytes
same_reading tree bytes all e = sym (ap (read_of tree) e ∙ first_bytes_decide tree all)

pub points_step : (o : Outside) (tree : Program) (name bytes all : List ℕ) (r : Result Points Status) → Fetches o name (goes all)
    → bytes ≡ take most_fetched all → FilePoints tree bytes r → PointsStep o tree name r
points_step o tree name bytes all (Ok points) f e h = (all, f, same_reading tree bytes all e ∙ h)
points_step o tree name bytes all (Err status.NoMemory) f e h = tt
points_step o tree name bytes all (Err (status.BadPoints n)) f e h = (all, f, same_reading tree bytes all e ∙ h)
points_step o tree name bytes all (Err s) f e h = absurd h

-- a file of points that is there is no fault
pub no_fault : (tree : Program) (bytes : List ℕ) (r : Result Points Status) (P : Type 0) → FilePoints tree bytes r
    → IfErr r (λ s. s ≡ status.FileFault → P)
no_fault tree bytes (Ok points) P h = tt
no_fault tree bytes (Err s) P h = λ e. absurd (subst (λ x. FilePoints tree bytes (Err x)) e h)
