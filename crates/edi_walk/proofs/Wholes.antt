-- Whole constructs, as what a run of their frames makes.
use Rattle.std.proofs.Common.{◌≡◌, ℕ, List, [], ◌∷◌, Result, Ok, Err, refl, ap, ◌∙◌}
use Rattle.std.specs.Prelude.{map}
use Rattle.edi_calls.specs.Names.{Name}
use Rattle.edi_calls.specs.State.{State, Traced}
use Rattle.edi_unit.specs.Values.{Value, is_true}
use Rattle.edi_unit.specs.Tree.{Arguments, Clauses, Expression, Place, ProgramUnit}
use Rattle.edi_unit.specs.View.{unit_of}
use Rattle.edi_meaning.specs.Store.{Cell, put}
use Rattle.edi_meaning.specs.Evaluation.{World, Evaluation, gives, ends, ◌>>=◌}
use Rattle.edi_meaning.specs.Whole.{Designated, arguments, below, designated, expression, first, system_call}
use Rattle.edi_meaning.specs.Whole.{whole_arguments, whole_assignment, whole_condition, whole_first}
use Rattle.edi_meaning.proofs.Going.{goes_same}
use Rattle.edi_walk.specs.declared.evaluation.Evaluation as code
use Rattle.edi_walk.specs.declared.stop.Stop.{Stop}
use Rattle.edi_walk.specs.Frames.{Given, nothing, a_value, a_place, some_cells, whether, value_given, cells_given, truth_given, Frame, evaluates, places}
use Rattle.edi_walk.specs.Frames.{tries, collects, assigns, asks, resume, after}
use Rattle.edi_walk.specs.Machine.{given_of, frame_of, deeper_of, world_of, makes_of}
use Rattle.edi_walk.specs.Runs.{RunsTo}
use Rattle.edi_walk.specs.Steps.{MakesSo}
use Rattle.edi_walk.proofs.FrameSteps.{associates}
use Rattle.edi_walk.proofs.Stopping.{stops_then, stop_of_run}

-- ---- what a run made, read as this

pub run_so : {A : Type 0} (levels : ℕ) (from : Traced) (result : Result (Unit {0}) Stop) (new : code.Evaluation) (t : State) (m : Evaluation Given) (f : Given → A) →
    RunsTo levels from result new t m → MakesSo from (λ _ a. a ≡ f (given_of new.given)) result new t (m >>= λ g w. gives (f g) w)
run_so levels from (Ok x) new t m f h = record {
  value = f (given_of new.given);
  related = refl;
  system = h.system;
  system_is = h.system_is;
  grew = h.grew;
  is = ap (λ x. x >>= λ g w. gives (f g) w) h.is;
}
run_so levels from (Err s) new t m f h = stops_then from s new t m (λ g w. gives (f g) w) (stop_of_run levels from s new t m h) (λ g v. goes_same v)

-- ---- frames that are alone

pub same_given : (m : Evaluation Given) → (m >>= gives) ≡ m
same_given (gives g w) = refl
same_given (ends e system turns) = refl

pub alone_makes : (levels : ℕ) (e : code.Evaluation) (f : Frame) (system : Traced) → map frame_of e.frames.items ≡ f ∷ [] →
    makes_of levels e system ≡ resume (unit_of e.unit.now) e.name.items e.size (deeper_of levels e) f (given_of e.given) (world_of e system)
alone_makes levels e f system is =
    ap (λ fs. after (unit_of e.unit.now) e.name.items e.size (deeper_of levels e) fs gives (given_of e.given) (world_of e system)) is ∙ same_given _

pub two_make : (levels : ℕ) (e : code.Evaluation) (lower upper : Frame) (system : Traced) → map frame_of e.frames.items ≡ lower ∷ upper ∷ [] →
    makes_of levels e system
    ≡ (resume (unit_of e.unit.now) e.name.items e.size (deeper_of levels e) upper (given_of e.given) (world_of e system)
    >>= (λ g w. resume (unit_of e.unit.now) e.name.items e.size (deeper_of levels e) lower g w >>= gives))
two_make levels e lower upper system is =
    ap (λ fs. after (unit_of e.unit.now) e.name.items e.size (deeper_of levels e) fs gives (given_of e.given) (world_of e system)) is

-- ---- the four wholes, and a call of the system

module _ (unit : ProgramUnit) (p : Name) (size : ℕ) (w : World) where
  abbrev alone : Frame → Given → Evaluation Given
  alone f g = resume unit p size (below unit p size w) f g w

  pub condition_is : (e : Expression) (g : Given) → (alone (evaluates e) g >>= λ h w. gives (is_true (value_given h)) w) ≡ whole_condition unit p size e w
  condition_is e g = associates (expression unit p size (below unit p size w) e w) (λ v w. gives (a_value v) w) (λ h w. gives (is_true (value_given h)) w)

  pub arguments_are : (es : Arguments) → (alone (collects [] es) nothing >>= λ h w. gives (cells_given h) w) ≡ whole_arguments unit p size es w
  arguments_are es = on (arguments unit p size (below unit p size w) es w) where
    on : (m : Evaluation (List Cell)) → ((m >>= λ more w. gives (some_cells more) w) >>= λ h w. gives (cells_given h) w) ≡ m
    on (gives cells v) = refl
    on (ends e system turns) = refl

  pub first_is : (cs : Clauses) (g : Given) → (alone (tries cs) g >>= λ h w. gives (truth_given h) w) ≡ whole_first unit p size cs w
  first_is cs g = on (first unit p size (below unit p size w) cs w) where
    on : (m : Evaluation _) → ((m >>= λ b w. gives (whether b) w) >>= λ h w. gives (truth_given h) w) ≡ m
    on (gives b v) = refl
    on (ends e system turns) = refl

  pub assignment_is : (v : Place) (e : Expression) (g : Given) →
      ((alone (places v) g >>= (λ h w'. resume unit p size (below unit p size w) (assigns e) h w' >>= gives)) >>= λ h w. gives (tt {0}) w) ≡ whole_assignment unit p size v e w
  assignment_is v e g = on (designated unit p size (below unit p size w) v w) where
    last : (d : Designated) (m : Evaluation Value) →
        (((m >>= λ x w. gives nothing (record w { store = put w.store d.at x })) >>= gives) >>= λ h w. gives (tt {0}) w)
        ≡ (m >>= λ x w. gives (tt {0}) (record w { store = put w.store d.at x }))
    last d (gives x u) = refl
    last d (ends i system turns) = refl

    on : (m : Evaluation Designated) →
        (((m >>= λ d w. gives (a_place d) w) >>= (λ h w'. resume unit p size (below unit p size w) (assigns e) h w' >>= gives)) >>= λ h w. gives (tt {0}) w)
        ≡ (m >>= λ d w'. expression unit p size (below unit p size w) e w' >>= λ x w. gives (tt {0}) (record w { store = put w.store d.at x }))
    on (gives d u) = last d (expression unit p size (below unit p size w) e u)
    on (ends i system turns) = refl

  pub call_is : (number line : ℕ) (cells : List Cell) → (alone (asks number line) (some_cells cells) >>= λ h w. gives (tt {0}) w) ≡ system_call number cells line w
  call_is number line cells = on (system_call number cells line w) where
    on : (m : Evaluation (Unit {0})) → ((m >>= λ _ w. gives nothing w) >>= λ h w. gives (tt {0}) w) ≡ m
    on (gives u v) = refl
    on (ends i system turns) = refl
