-- What is read or assigned at once, as what a frame, a condition or a step makes.
use Rattle.std.proofs.Common.{◌≡◌, ℕ, ℤ, Bool, true, false, List, [], ◌∷◌, Option, Result, Ok, Err, refl, sym, subst, ap, ◌∙◌}
use Rattle.std.specs.Prelude.{IfOk, OnErr}
use Rattle.edi_told.specs.Told.{WhereTold}
use Rattle.edi_calls.specs.declared.kinds.Cause.TheVariants as cause
use Rattle.edi_calls.specs.Outcome as outcome
use Rattle.edi_calls.specs.State.{State, Traced}
use Rattle.edi_unit.specs.Tree as tree
use Rattle.edi_unit.specs.Tree.{Acts, Expression, Place}
use Rattle.edi_unit.specs.Values.{ordinal, is_true}
use Rattle.edi_unit.specs.View.{unit_of}
use Rattle.edi_meaning.specs.Evaluation.{World, Evaluation, gives, ends, ◌>>=◌}
use Rattle.edi_meaning.specs.Step.{Work, Asks, doing, goes, ready, statement_step}
use Rattle.edi_meaning.specs.Store.{put}
use Rattle.edi_meaning.specs.Whole.{Designated, acts, below, expression, whole_assignment}
use Rattle.edi_meaning.proofs.Going.{goes_same}
use Rattle.edi_walk.specs.declared.data.Target as code_target
use Rattle.edi_walk.specs.declared.evaluation.Evaluation as code
use Rattle.edi_walk.specs.declared.frames.Given as code_given
use Rattle.edi_walk.specs.declared.hurdle.Hurdle.{Hurdle}
use Rattle.edi_walk.specs.declared.hurdle.Hurdle.TheVariants as hurdle
use Rattle.edi_walk.specs.declared.process.Asked.TheVariants as asks
use Rattle.edi_walk.specs.declared.process.Work as code_work
use Rattle.edi_walk.specs.declared.stop.Stop.{Stop}
use Rattle.edi_walk.specs.declared.stop.Stop.TheVariants as stop
use Rattle.edi_walk.specs.Data.{designated_of}
use Rattle.edi_walk.specs.Frames.{a_value, evaluates, nothing, performs}
use Rattle.edi_walk.specs.Machine.{deeper_of, given_of, next_of, Resumes, rest_of, world_of}
use Rattle.edi_walk.specs.Memory.{store_of}
use Rattle.edi_walk.specs.Processes.{work_of}
use Rattle.edi_walk.specs.Reads.{AssignsAtOnce, left_to_frames, ReadsPlace, ReadsValue, StoresAtOnce}
use Rattle.edi_walk.specs.Steps.{Condition}
use Rattle.edi_walk.specs.Works.{AsksSo, IsCalm, Statement}
use Rattle.edi_walk.proofs.Arms.{gave}
use Rattle.edi_walk.proofs.Calls.{WhereTold-same}
use Rattle.edi_walk.proofs.Parted.{does_stop, does_then, local_continues, makes_here, up_here}
use Rattle.edi_walk.proofs.Working.{Nothing}

-- ---- an expression

pub value_read : (old new : code.Evaluation) (e : Expression) (n : ℤ) (g : code_given.Given) → ReadsValue e (Ok n) old → new ≡ record old { given = g } →
    given_of g ≡ a_value (ordinal n) → Resumes (evaluates e) nothing (Ok tt) old new
value_read old new e n g r is means levels system enough =
    ap (λ m. (m >>= λ v w. gives (a_value v) w) >>= rest_of levels old) (r (deeper_of levels old) system) ∙ gave levels system old new g _ is means

pub value_fails : (old : code.Evaluation) (e : Expression) (line : ℕ) → ReadsValue e (Err (hurdle.Range line)) old →
    Resumes (evaluates e) nothing (Err (stop.Failed cause.Range line)) old old
value_fails old e line r levels system enough =
    ap (λ m. (m >>= λ v w. gives (a_value v) w) >>= rest_of levels old) (r (deeper_of levels old) system)

-- ---- a condition

pub told_read : (old : code.Evaluation) (e : Expression) (n : ℤ) (b : Bool) (o : Option State) → ReadsValue e (Ok n) old → b ≡ is_true (ordinal n) →
    WhereTold o o (λ s t. Condition e (Ok b) old old s t)
told_read old e n b o r is =
    WhereTold-same _ o (λ s system i.
    record {
      value = is_true (ordinal n);
      related = sym is;
      system = system;
      system_is = i;
      grew = ([], refl, refl);
      is = ap (λ m. m >>= λ v w. gives (is_true v) w) (r (below (unit_of old.unit.now) old.name.items old.size (world_of old system)) system);
    })

pub told_fails : (old : code.Evaluation) (e : Expression) (line : ℕ) (o : Option State) → ReadsValue e (Err (hurdle.Range line)) old →
    WhereTold o o (λ s t. Condition e (Err (stop.Failed cause.Range line)) old old s t)
told_fails old e line o r =
    WhereTold-same _ o (λ s system i.
    record {
      system = system;
      system_is = i;
      is = ap (λ m. m >>= λ v w. gives (is_true v) w) (r (below (unit_of old.unit.now) old.name.items old.size (world_of old system)) system);
    })

-- ---- an assignment

-- what is put where a variable is that was determined
pub stored : (old new : code.Evaluation) (d : Designated) (e : Expression) (n : ℤ) → ReadsValue e (Ok n) old →
    store_of new.memory ≡ put (store_of old.memory) d.at (ordinal n) → new ≡ record old { memory = new.memory } → StoresAtOnce d e (Ok true) old new
stored old new d e n r is others deeper system =
    ap (λ m. m >>= λ x w. gives (tt {0}) (record w { store = put w.store d.at x })) (r deeper system)
    ∙ ap (λ s. gives (tt {0}) (record (world_of old system) { store = s })) (sym is)
    ∙ ap (λ (x : code.Evaluation). gives (tt {0}) (record { store = store_of new.memory; system = system; turns = x.turns })) (sym others)

-- a value that is not read at once
pub unstored : (old : code.Evaluation) (d : Designated) (e : Expression) (h : Hurdle) → ReadsValue e (Err h) old → StoresAtOnce d e (left_to_frames h) old old
unstored old d e (hurdle.Range line) r =
    (refl, λ deeper system. ap (λ m. m >>= λ x w. gives (tt {0}) (record w { store = put w.store d.at x })) (r deeper system))
unstored old d e hurdle.Frames r = refl

-- the variable was determined, and then this
pub assigns : (old new : code.Evaluation) (v : Place) (d : code_target.Target) (e : Expression) (result : Result Bool Stop) → ReadsPlace v (Ok d) old →
    StoresAtOnce (designated_of d) e result old new → AssignsAtOnce v e result old new
assigns old new v d e (Ok true) r s = λ deeper system.
    ap (λ m. m >>= λ d w. expression (unit_of old.unit.now) old.name.items old.size deeper e w >>= λ x w. gives (tt {0}) (record w { store = put w.store d.at x }))
    (r deeper system)
    ∙ s deeper system
assigns old new v d e (Ok false) r s = s
assigns old new v d e (Err (stop.Failed c line)) r s = (
  s.0,
  λ deeper system.
      ap (λ m. m >>= λ d w. expression (unit_of old.unit.now) old.name.items old.size deeper e w >>= λ x w. gives (tt {0}) (record w { store = put w.store d.at x }))
      (r deeper system)
      ∙ s.1 deeper system,
)
assigns old new v d e (Err stop.NoMemory) r s = tt
assigns old new v d e (Err stop.Done) r s = absurd s
assigns old new v d e (Err (stop.Halted line)) r s = absurd s
assigns old new v d e (Err stop.Turns) r s = absurd s
assigns old new v d e (Err (stop.Fault number)) r s = absurd s

-- a variable that is not determined at once
pub unassigned : (old : code.Evaluation) (v : Place) (e : Expression) (h : Hurdle) → ReadsPlace v (Err h) old → AssignsAtOnce v e (left_to_frames h) old old
unassigned old v e (hurdle.Range line) r = (
  refl,
  λ deeper system.
      ap (λ m. m >>= λ d w. expression (unit_of old.unit.now) old.name.items old.size deeper e w >>= λ x w. gives (tt {0}) (record w { store = put w.store d.at x }))
      (r deeper system),
)
unassigned old v e hurdle.Frames r = refl

module _ (old mid : code.Evaluation) (v : Place) (e : Expression) where
  -- it was made: the statements behind it are to do
  pub made_goes : (levels : ℕ) (system : Traced) (s : Acts) → AssignsAtOnce v e (Ok true) old mid → mid ≡ record old { memory = mid.memory } →
      next_of levels old (performs (tree.act_then (tree.assign v e) s)) nothing (world_of old system)
      ≡ next_of levels mid (performs s) (given_of mid.given) (world_of mid system)
  made_goes levels system s r others =
      ap (λ m. ((m >>= λ _ w. acts (unit_of old.unit.now) old.name.items old.size (deeper_of levels old) s w) >>= λ _ w. gives nothing w) >>= rest_of levels old)
      (r (deeper_of levels old) system)
      ∙ ap (λ (x : code.Evaluation). next_of levels x (performs s) (given_of mid.given) (world_of mid system)) (sym others)

  -- it went no further
  pub made_stops : (x : Stop) (s : Acts) → AssignsAtOnce v e (Err x) old mid →
      Resumes (performs (tree.act_then (tree.assign v e) s)) nothing (Err x) old mid
  made_stops (stop.Failed c line) s r levels system enough =
      ap (λ m. ((m >>= λ _ w. acts (unit_of old.unit.now) old.name.items old.size (deeper_of levels old) s w) >>= λ _ w. gives nothing w) >>= rest_of levels old)
      (r.1 (deeper_of levels old) system)
      ∙ ap (λ (x : code.Evaluation). ends (outcome.failed c line) system x.turns) (sym r.0)
  made_stops stop.NoMemory s r levels system enough = tt
  made_stops stop.Done s r levels system enough = absurd r
  made_stops (stop.Halted line) s r levels system enough = absurd r
  made_stops stop.Turns s r levels system enough = absurd r
  made_stops (stop.Fault number) s r levels system enough = absurd r

  -- as a statement of a process
  abbrev then_on : List Work → Unit {0} → World → Evaluation Asks
  then_on work _ w = gives (goes work) w

  pub made_so : (t : State) → AssignsAtOnce v e (Ok true) old mid → (left : List code_work.Work) →
      Statement (tree.assign v e) (work_of left []) left (Ok asks.Goes) old mid t t
  made_so t r left position work b =
      does_then Nothing (AsksSo left) old (whole_assignment (unit_of old.unit.now) old.name.items old.size v e) (then_on work) tt (Ok asks.Goes) mid mid t t t
      (makes_here Nothing old mid (whole_assignment (unit_of old.unit.now) old.name.items old.size v e) t tt tt tt
      (λ system. r (below (unit_of old.unit.now) old.name.items old.size (world_of old system)) system))
      (λ a q. makes_here (AsksSo left) mid mid (then_on work a) t asks.Goes (goes work) b (λ system. refl))

  pub made_stop : (t : State) (x : Stop) → AssignsAtOnce v e (Err x) old mid → (left : List code_work.Work) →
      Statement (tree.assign v e) (work_of left []) left (Err x) old mid t t
  made_stop t (stop.Failed c line) r left position work b =
      does_stop {S = Unit {0}} Nothing (AsksSo left) old (whole_assignment (unit_of old.unit.now) old.name.items old.size v e) (then_on work) (stop.Failed c line) mid t t
      (λ system i.
      record {
        system = system;
        system_is = i;
        is =
            r.1 (below (unit_of old.unit.now) old.name.items old.size (world_of old system)) system
            ∙ ap (λ (x : code.Evaluation). ends (outcome.failed c line) system x.turns) (sym r.0);
      })
      (λ a w. goes_same w)
  made_stop t stop.NoMemory r left position work b =
      up_here (AsksSo left) old mid (statement_step (unit_of old.unit.now) old.name.items old.size (tree.assign v e) position work) t
      (λ w. local_continues (unit_of old.unit.now) old.name.items old.size ready (doing (tree.assign v e) position ∷ work) w)
  made_stop t stop.Done r left position work b = absurd r
  made_stop t (stop.Halted line) r left position work b = absurd r
  made_stop t stop.Turns r left position work b = absurd r
  made_stop t (stop.Fault number) r left position work b = absurd r

-- ---- the parts of an assignment at once

pub stores_so : (old new : code.Evaluation) (d : Designated) (e : Expression) (n : ℤ) (result : Result Bool Stop) → ReadsValue e (Ok n) old →
    IfOk result (λ made. (made ≡ true) × (store_of new.memory ≡ put (store_of old.memory) d.at (ordinal n))) →
    OnErr result (result ≡ Err stop.NoMemory) → new ≡ record old { memory = new.memory } → StoresAtOnce d e result old new
stores_so old new d e n (Ok true) r ok err others = stored old new d e n r ok.1 others
stores_so old new d e n (Ok false) r ok err others = absurd (let a : false ≡ true = ok.0 in cc)
stores_so old new d e n (Err x) r ok err others = subst (λ s. StoresAtOnce d e s old new) (sym err) tt

pub calm_left : (h : Hurdle) → IsCalm {T = Bool} (left_to_frames h)
calm_left (hurdle.Range line) = tt
calm_left hurdle.Frames = tt

pub calm_stored : (result : Result Bool Stop) → OnErr result (result ≡ Err stop.NoMemory) → IsCalm result
calm_stored (Ok b) err = tt
calm_stored (Err x) err = subst (λ r. IsCalm {T = Bool} r) (sym err) tt

-- an assignment that is left to frames: nothing has changed
pub stays : (old mid : code.Evaluation) (v : Place) (e : Expression) (made : Bool) → made ≡ false → AssignsAtOnce v e (Ok made) old mid → mid ≡ old
stays old mid v e made is r = (let s : AssignsAtOnce v e (Ok false) old mid = subst (λ b. AssignsAtOnce v e (Ok b) old mid) is r in s)
