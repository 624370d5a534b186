-- Words of contracts. What is read at once, without a frame: it makes no call, and leaves the world as it is.
use Rattle.std.specs.Prelude.{◌≡◌, ℕ, ℤ, Bool, true, false, Result, Ok, Err, ⊤}
use Rattle.edi_calls.specs.declared.kinds.Cause.TheVariants as cause
use Rattle.edi_calls.specs.State.{Traced}
use Rattle.edi_unit.specs.Types.{shape_at}
use Rattle.edi_unit.specs.Tree.{Acts, Expression, Link, Place, Part, Parts}
use Rattle.edi_unit.specs.Values.{ordinal}
use Rattle.edi_unit.specs.View.{unit_of}
use Rattle.edi_meaning.specs.Store.{put}
use Rattle.edi_meaning.specs.Evaluation.{World, Evaluation, gives, fails, ◌>>=◌}
use Rattle.edi_meaning.specs.Whole.{Designated, assigned, element_of, expression, operated, designated, parts, part}
use Rattle.edi_walk.specs.declared.data.Target as code_target
use Rattle.edi_walk.specs.declared.evaluation.Evaluation as code_evaluation
use Rattle.edi_walk.specs.declared.hurdle.Hurdle.{Hurdle}
use Rattle.edi_walk.specs.declared.hurdle.Hurdle.TheVariants as hurdle
use Rattle.edi_walk.specs.declared.stop.Stop.{Stop}
use Rattle.edi_walk.specs.declared.stop.Stop.TheVariants as stop
use Rattle.edi_walk.specs.Data.{designated_of}
use Rattle.edi_walk.specs.Machine.{world_of}

-- an evaluation, by what is left to deeper levels
abbrev pub Construct : Type 0 → Type 0
Construct A = (Acts → World → Evaluation (Unit {0})) → World → Evaluation A

-- it gives this here, whatever the system is; or it fails here; or frames have to make it
abbrev pub Reads : {A T : Type 0} → (T → A) → Construct A → Result T Hurdle → code_evaluation.Evaluation → Type 0
Reads of m (Ok x) here =
    (deeper : Acts → World → Evaluation (Unit {0})) (system : Traced) → m deeper (world_of here system) ≡ gives (of x) (world_of here system)
Reads of m (Err (hurdle.Range line)) here =
    (deeper : Acts → World → Evaluation (Unit {0})) (system : Traced) → m deeper (world_of here system) ≡ fails cause.Range line (world_of here system)
Reads of m (Err hurdle.Frames) here = ⊤

abbrev pub ReadsValue : Expression → Result ℤ Hurdle → code_evaluation.Evaluation → Type 0
ReadsValue e result here = Reads ordinal (λ deeper. expression (unit_of here.unit.now) here.name.items here.size deeper e) result here

-- an operator, with its left operand
abbrev pub ReadsLink : ℤ → Link → Result ℤ Hurdle → code_evaluation.Evaluation → Type 0
ReadsLink n l result here = Reads ordinal (λ deeper. operated (unit_of here.unit.now) here.name.items here.size deeper (ordinal n) l) result here

abbrev pub ReadsPlace : Place → Result code_target.Target Hurdle → code_evaluation.Evaluation → Type 0
ReadsPlace v result here = Reads designated_of (λ deeper. designated (unit_of here.unit.now) here.name.items here.size deeper v) result here

-- the parts of this variable lead to that one
abbrev pub ReadsParts : (old new : Designated) → Parts → Result (Unit {0}) Hurdle → code_evaluation.Evaluation → Type 0
ReadsParts old new ps result here = Reads (λ _. new) (λ deeper. parts (unit_of here.unit.now) here.name.items here.size deeper old ps) result here

abbrev pub ReadsPart : (old new : Designated) → Part → Result (Unit {0}) Hurdle → code_evaluation.Evaluation → Type 0
ReadsPart old new q result here = Reads (λ _. new) (λ deeper. part (unit_of here.unit.now) here.name.items here.size deeper old q) result here

-- the element of an array at this index
abbrev pub ReadsElement : (old new : Designated) → (n : ℤ) → (line : ℕ) → Result (Unit {0}) Hurdle → code_evaluation.Evaluation → Type 0
ReadsElement old new n line result here =
    Reads (λ _. new) (λ _ w. element_of (shape_at (unit_of here.unit.now).types old.of) line old.at (ordinal n) w) result here

-- an assignment that was made at once; or that is left to frames; or that goes no further
abbrev pub AssignsAtOnce : Place → Expression → Result Bool Stop → (old new : code_evaluation.Evaluation) → Type 0
AssignsAtOnce v e (Ok true) old new =
    (deeper : Acts → World → Evaluation (Unit {0})) (system : Traced) →
    assigned (unit_of old.unit.now) old.name.items old.size deeper v e (world_of old system) ≡ gives tt (world_of new system)
AssignsAtOnce v e (Ok false) old new = new ≡ old
AssignsAtOnce v e (Err (stop.Failed c line)) old new =
    (new ≡ old)
    × ((deeper : Acts → World → Evaluation (Unit {0})) (system : Traced) →
    assigned (unit_of old.unit.now) old.name.items old.size deeper v e (world_of old system) ≡ fails c line (world_of old system))
AssignsAtOnce v e (Err stop.NoMemory) old new = ⊤
AssignsAtOnce v e (Err _) old new = ⊥

-- and where the variable has been determined
abbrev pub StoresAtOnce : Designated → Expression → Result Bool Stop → (old new : code_evaluation.Evaluation) → Type 0
StoresAtOnce d e (Ok true) old new =
    (deeper : Acts → World → Evaluation (Unit {0})) (system : Traced) →
    (expression (unit_of old.unit.now) old.name.items old.size deeper e (world_of old system)
    >>= λ x w. gives (tt {0}) (record w { store = put w.store d.at x })) ≡ gives tt (world_of new system)
StoresAtOnce d e (Ok false) old new = new ≡ old
StoresAtOnce d e (Err (stop.Failed c line)) old new =
    (new ≡ old)
    × ((deeper : Acts → World → Evaluation (Unit {0})) (system : Traced) →
    (expression (unit_of old.unit.now) old.name.items old.size deeper e (world_of old system)
    >>= λ x w. gives (tt {0}) (record w { store = put w.store d.at x })) ≡ fails c line (world_of old system))
StoresAtOnce d e (Err stop.NoMemory) old new = ⊤
StoresAtOnce d e (Err _) old new = ⊥

-- what is to be done of an assignment that is not made at once
abbrev pub left_to_frames : Hurdle → Result Bool Stop
left_to_frames (hurdle.Range line) = Err (stop.Failed cause.Range line)
left_to_frames hurdle.Frames = Ok false
