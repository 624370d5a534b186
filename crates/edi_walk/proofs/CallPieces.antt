-- Calls as steps of a process: of a block, of the system, of what a callee means, with the cells of arguments.
use Rattle.std.proofs.Common.{◌≡◌, ℕ, Bool, if◌then◌else◌, List, [], ◌∷◌, ◌++◌, Result, Ok, Err, refl, sym, subst, ap, ◌∙◌, append_assoc}
use Rattle.std.specs.Prelude.{map, ⊤}
use Rattle.std.specs.Global.{Vec}
use Rattle.edi_calls.specs.Outcome as outcome
use Rattle.edi_calls.specs.State.{State, Traced}
use Rattle.edi_calls.specs.declared.kinds.Cause.TheVariants as cause
use Rattle.edi_unit.specs.Need.{block_at}
use Rattle.edi_unit.specs.Tree as tree
use Rattle.edi_unit.specs.Tree.{Arguments}
use Rattle.edi_unit.specs.View.{unit_of}
use Rattle.edi_unit.specs.declared.expressions.Callee.{Callee}
use Rattle.edi_meaning.specs.Store.{Cell, Closure, Spot, block_procedure, grown, system_procedure}
use Rattle.edi_meaning.specs.Evaluation.{World, Evaluation, gives, ends, ◌>>=◌, fails, turn, turn_from}
use Rattle.edi_meaning.specs.Step.{Work, procedure_end, body_of}
use Rattle.edi_meaning.specs.Step.{Asks, goes, called}
use Rattle.edi_meaning.specs.Whole.{below, instance_of, meant, system_call, whole_arguments}
use Rattle.edi_meaning.proofs.Going.{goes_same}
use Rattle.edi_walk.specs.declared.data.Held as code_cell
use Rattle.edi_walk.specs.declared.evaluation.Evaluation as code
use Rattle.edi_walk.specs.declared.frames.Given as code_given
use Rattle.edi_walk.specs.declared.process.Asked as code_asked
use Rattle.edi_walk.specs.declared.process.Asked.TheVariants as make
use Rattle.edi_walk.specs.declared.process.Work as code_work
use Rattle.edi_walk.specs.declared.stop.Stop.{Stop}
use Rattle.edi_walk.specs.declared.stop.Stop.TheVariants as stop
use Rattle.edi_walk.specs.Data.{cell_of}
use Rattle.edi_walk.specs.Frames.{Given, nothing, some_cells, cells_given, collects, asks, resume}
use Rattle.edi_walk.specs.Machine.{EntersBlock, Entered, given_of, IsSameProcess, world_of}
use Rattle.edi_walk.specs.Processes.{acts_bare, Bare, bare_all, ends_procedure}
use Rattle.edi_walk.specs.Processes.{work_of}
use Rattle.edi_walk.specs.Steps.{MakesSo, Wholly}
use Rattle.edi_walk.specs.Works.{AsksSo, CallsThis, CallsWith, CellsOf, Does, PutsFirst, Statement}
use Rattle.edi_walk.proofs.Bare.{body_bare}
use Rattle.edi_walk.proofs.Choosing.{of_old}
use Rattle.edi_walk.proofs.Parted.{called_continues, does_stop, does_then, makes_here, turn_out}
use Rattle.edi_walk.proofs.Parted.{up_here}
use Rattle.edi_walk.proofs.Wholes.{arguments_are, call_is}
use Rattle.edi_walk.proofs.Working.{does_at, puts_here, read_so, read_stop}

module _ (old new : code.Evaluation) (s : State) (number : ℕ) (parent : Spot) (cells : List Cell) (line : ℕ) where
  abbrev calling : List Work → World → Evaluation Asks
  calling work w = called (unit_of old.unit.now) old.name.items old.size (block_procedure number parent) cells line work w

  abbrev inside : List Work → World → Evaluation Asks
  inside work w = gives (goes (body_of (unit_of old.unit.now) number (procedure_end line ∷ work))) w

  block_so : (work : List Work) (system : Traced) → Entered number parent cells old new → calling work (world_of old system) ≡ inside work (world_of new system)
  block_so work system l =
      let U = unit_of old.unit.now in
      let p = old.name.items in
      let w = world_of old system in
      ap (λ b. if b then fails cause.VariableLimit line w else turn w (λ w. inside work (record w { store = grown p (instance_of U p old.size number parent cells) w.store })))
      l.fits
      ∙ ap (λ n. turn_from n w (λ w. inside work (record w { store = grown p (instance_of U p old.size number parent cells) w.store }))) l.turns
      ∙ ap (λ x. inside work (record { store = x; system = system; turns = new.turns })) (sym l.store)

  pub block_begun : (body : tree.Acts) (result : Result code_asked.Asked Stop) (before rest : List code_work.Work) → Entered number parent cells old new →
      body ≡ (block_at (unit_of old.unit.now).blocks number).body → PutsFirst (acts_bare body ++ ends_procedure ∷ []) result before rest →
      CallsThis (block_procedure number parent) cells line (work_of before []) rest result old new s s
  block_begun body result before rest l is h work b =
      puts_here old new s (calling work) (body_of (unit_of old.unit.now) number (procedure_end line ∷ work)) (acts_bare body ++ ends_procedure ∷ []) result before rest
      (λ system. block_so work system l)
      (called_continues (unit_of old.unit.now) old.name.items old.size (block_procedure number parent) cells line work)
      (body_bare (unit_of old.unit.now) number (procedure_end line ∷ work) ∙ ap (λ x. acts_bare x ++ ends_procedure ∷ bare_all work) (sym is)
      ∙ ap (λ x. acts_bare body ++ ends_procedure ∷ x) b ∙ sym (append_assoc (acts_bare body) (ends_procedure ∷ []) (work_of before []))) h

  pub block_stays : (todo : List Bare) (rest : List code_work.Work) (x : Stop) → EntersBlock number parent cells line (Err x) old new →
      CallsThis (block_procedure number parent) cells line todo rest (Err x) old new s s
  block_stays todo rest x h work b = by_stop x h
    where
      go : World → Evaluation Asks
      go w = inside work (record w { store = grown old.name.items (instance_of (unit_of old.unit.now) old.name.items old.size number parent cells) w.store })

      test : Bool → World → Evaluation Asks
      test f w = if f then fails cause.VariableLimit line w else turn w go

      by_stop : (x : Stop) → EntersBlock number parent cells line (Err x) old new → Does (calling work) (AsksSo rest) (Err x) old new s s
      by_stop (stop.Failed c l) h system i = record {
        system = system;
        system_is = i;
        is = ap (λ f. test f (world_of old system)) h.0 ∙ ap (λ n. ends (outcome.failed cause.VariableLimit line) system n) (sym h.3)
            ∙ ap (λ d. ends (outcome.failed d line) system new.turns) (sym h.1) ∙ ap (λ k. ends (outcome.failed c k) system new.turns) (sym h.2);
      }
      by_stop stop.Turns h system i = record {
        system = system;
        system_is = i;
        is = ap (λ f. test f (world_of old system)) h.0 ∙ turn_out old new.turns system go h.1 h.2;
      }
      by_stop stop.NoMemory h system i =
          up_here (AsksSo rest) old new (calling work) s
          (called_continues (unit_of old.unit.now) old.name.items old.size (block_procedure number parent) cells line work) system i
      by_stop stop.Done h system i = absurd h
      by_stop (stop.Halted l) h system i = absurd h
      by_stop (stop.Fault number) h system i = absurd h

-- a call of the system, with these cells
module _ (old mid new : code.Evaluation) (s t : State) (number line : ℕ) (given : code_given.Given) (cells : List Cell) (took : mid ≡ record old { given = given })
    (are : given_of given ≡ some_cells cells) where
  abbrev asked_of : World → Evaluation Given
  asked_of w = resume (unit_of old.unit.now) old.name.items old.size (below (unit_of old.unit.now) old.name.items old.size w) (asks number line) (some_cells cells) w

  abbrev Nothing : Unit {0} → Unit {0} → Type 0
  Nothing a b = ⊤

  abbrev on_with : List Work → Unit {0} → World → Evaluation Asks
  on_with work _ w = gives (goes work) w

  asked_again : (result : Result (Unit {0}) Stop) → Wholly (asks number line) result mid new s t → (system : Traced) → system.now ≡ s →
      Rattle.edi_walk.specs.Runs.RunsTo old.turns system result new t (asked_of (world_of old system))
  asked_again result h system i =
      subst (λ g. Rattle.edi_walk.specs.Runs.RunsTo old.turns system result new t
      (resume (unit_of old.unit.now) old.name.items old.size (below (unit_of old.unit.now) old.name.items old.size (world_of old system)) (asks number line) g
      (world_of old system))) are
      (subst (λ (e : code.Evaluation). Wholly (asks number line) result e new s t) took h system i)

  system_of_old : (system : Traced) → (asked_of (world_of old system) >>= λ g v. gives (tt {0}) v) ≡ system_call number cells line (world_of old system)
  system_of_old system = call_is (unit_of old.unit.now) old.name.items old.size (world_of old system) number line cells

  pub system_called : Wholly (asks number line) (Ok tt) mid new s t → (rest : List code_work.Work) →
      CallsThis (system_procedure number) cells line (work_of rest []) rest (Ok make.Goes) old new s t
  system_called h rest work b =
      does_then Nothing (AsksSo rest) old (system_call number cells line) (on_with work) tt (Ok make.Goes) new new s t t
      (does_at Nothing old new s t (λ w. asked_of w >>= λ g v. gives (tt {0}) v) (system_call number cells line) (Ok tt) system_of_old
      (read_so Nothing old new s t asked_of (λ _. tt) tt tt (asked_again (Ok tt) h)))
      (λ a r. makes_here (AsksSo rest) new new (on_with work a) t make.Goes (goes work) b (λ system. refl))

  pub system_stays : (x : Stop) → Wholly (asks number line) (Err x) mid new s t → (rest : List code_work.Work) →
      CallsThis (system_procedure number) cells line (work_of rest []) rest (Err x) old new s t
  system_stays x h rest work b =
      does_stop {S = Unit {0}} Nothing (AsksSo rest) old (system_call number cells line) (on_with work) x new s t
      (does_at Nothing old new s t (λ w. asked_of w >>= λ g v. gives (tt {0}) v) (system_call number cells line) (Err x) system_of_old
      (read_stop Nothing old new s t asked_of (λ _. tt) x (asked_again (Err x) h)))
      (λ a w. goes_same w)

-- a call of what a callee means
pub calls_meant : (old new : code.Evaluation) (s t : State) (c : Callee) (this : Closure) (cells : List Cell) (line : ℕ) (todo : List Bare) (rest : List code_work.Work)
    (result : Result code_asked.Asked Stop) →
    ((system : Traced) → this ≡ meant (unit_of old.unit.now) old.name.items old.size c (world_of old system)) →
    CallsThis this cells line todo rest result old new s t → CallsWith c cells line todo rest result old new s t
calls_meant old new s t c this cells line todo rest result is h work b =
    let U = unit_of old.unit.now in
    let p = old.name.items in
    does_at (AsksSo rest) old new s t (called U p old.size this cells line work) (λ w. called U p old.size (meant U p old.size c w) cells line work w) result
    (λ system. ap (λ x. called U p old.size x cells line work (world_of old system)) (is system)) (h work b)

pub calls_nothing : (old : code.Evaluation) (s : State) (c : Callee) (cells : List Cell) (line : ℕ) (todo : List Bare) (rest : List code_work.Work) →
    CallsWith c cells line todo rest (Err stop.NoMemory) old old s s
calls_nothing old s c cells line todo rest work b =
    let U = unit_of old.unit.now in
    let p = old.name.items in
    up_here (AsksSo rest) old old (λ w. called U p old.size (meant U p old.size c w) cells line work w) s
    (λ w. called_continues U p old.size (meant U p old.size c w) cells line work w)

-- the cells of arguments
module _ (old mid new : code.Evaluation) (s t : State) (es : Arguments) (took : mid ≡ record old { given = Rattle.edi_walk.specs.declared.frames.Given.TheVariants.Nothing })
  where
    abbrev collecting : World → Evaluation Given
    collecting w = resume (unit_of old.unit.now) old.name.items old.size (below (unit_of old.unit.now) old.name.items old.size w) (collects [] es) nothing w

    abbrev AreCells : Vec code_cell.Held → List Cell → Type 0
    AreCells v cells = cells ≡ map cell_of v.items

    collected_again : (result : Result (Unit {0}) Stop) → Wholly (collects [] es) result mid new s t → (system : Traced) → system.now ≡ s →
        Rattle.edi_walk.specs.Runs.RunsTo old.turns system result new t (collecting (world_of old system))
    collected_again result h system i = subst (λ (e : code.Evaluation). Wholly (collects [] es) result e new s t) took h system i

    cells_of_old : (system : Traced) → (collecting (world_of old system) >>= λ g v. gives (cells_given g) v)
        ≡ whole_arguments (unit_of old.unit.now) old.name.items old.size es (world_of old system)
    cells_of_old system = arguments_are (unit_of old.unit.now) old.name.items old.size (world_of old system) es

    -- they are taken from what is given
    pub cells_so : (last : code.Evaluation) (v : Vec code_cell.Held) → map cell_of v.items ≡ cells_given (given_of new.given) →
        last ≡ record new { given = last.given } → Wholly (collects [] es) (Ok tt) mid new s t → CellsOf es (Ok v) old last s t
    cells_so last v e is h system i =
        let k = does_at AreCells old new s t (λ w. collecting w >>= λ g v. gives (cells_given g) v)
        (whole_arguments (unit_of old.unit.now) old.name.items old.size es) (Ok v) cells_of_old
        (read_so AreCells old new s t collecting cells_given v (sym e) (collected_again (Ok tt) h)) system i in
        record {
          value = k.value;
          related = k.related;
          system = k.system;
          system_is = k.system_is;
          grew = k.grew;
          is = k.is ∙ ap (λ (x : code.Evaluation). gives k.value (world_of x k.system)) (sym is);
        }

    pub cells_stop : (x : Stop) → Wholly (collects [] es) (Err x) mid new s t → CellsOf es (Err x) old new s t
    cells_stop x h =
        does_at {T = Vec code_cell.Held} AreCells old new s t (λ w. collecting w >>= λ g v. gives (cells_given g) v)
        (whole_arguments (unit_of old.unit.now) old.name.items old.size es) (Err x) cells_of_old
        (read_stop AreCells old new s t collecting cells_given x (collected_again (Err x) h))

module _ (c : Callee) (es : Arguments) (line : ℕ) (todo : List Bare) (rest : List code_work.Work) (old : code.Evaluation) where
  abbrev HeldAs : Vec code_cell.Held → List Cell → Type 0
  HeldAs v cells = cells ≡ map cell_of v.items

  abbrev called_on : List Work → List Cell → World → Evaluation Asks
  called_on work cells w =
      called (unit_of old.unit.now) old.name.items old.size (meant (unit_of old.unit.now) old.name.items old.size c w) cells line work w

  pub called_then : (mid new : code.Evaluation) (r s t : State) (v : Vec code_cell.Held) (result : Result code_asked.Asked Stop) → IsSameProcess old mid →
      CellsOf es (Ok v) old mid r s → CallsWith c (map cell_of v.items) line todo rest result mid new s t →
      Statement (tree.call c es line) todo rest result old new r t
  called_then mid new r s t v result same h k position work b =
      does_then HeldAs (AsksSo rest) old (whole_arguments (unit_of old.unit.now) old.name.items old.size es) (called_on work) v result mid new r s t h
      (λ cells e system i. subst (λ x. MakesSo system (AsksSo rest) result new t (called_on work x (world_of mid system))) (sym e)
      (of_old old mid (λ u p n. MakesSo system (AsksSo rest) result new t (called u p n (meant u p n c (world_of mid system)) (map cell_of v.items) line work (world_of mid system)))
      same (k work b system i)))

  pub called_stop : (new : code.Evaluation) (s t : State) (x : Stop) → CellsOf es (Err x) old new s t → Statement (tree.call c es line) todo rest (Err x) old new s t
  called_stop new s t x h position work b =
      does_stop {S = Vec code_cell.Held} HeldAs (AsksSo rest) old (whole_arguments (unit_of old.unit.now) old.name.items old.size es) (called_on work) x new s t h
      (λ cells w. called_continues (unit_of old.unit.now) old.name.items old.size (meant (unit_of old.unit.now) old.name.items old.size c w) cells line work w)
