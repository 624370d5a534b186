-- Ends and entries as steps, and the piece of work that is next.
use Rattle.std.proofs.Common.{◌≡◌, ℕ, suc, List, [], ◌∷◌, ◌++◌, Result, Ok, Err, refl, sym, subst, ap, ◌∙◌}
use Rattle.std.specs.Prelude.{map, OnErr, OnOk}
use Rattle.edi_calls.specs.Names.{with_at}
use Rattle.edi_calls.specs.Outcome as outcome
use Rattle.edi_calls.specs.State.{State, Traced}
use Rattle.edi_unit.specs.Need.{block_at}
use Rattle.edi_unit.specs.Tree as tree
use Rattle.edi_unit.specs.Tree.{Act, Clauses}
use Rattle.edi_unit.specs.View.{clause_of, clauses, unit_of}
use Rattle.edi_unit.specs.declared.statements.Clause as code_clause
use Rattle.edi_meaning.specs.Store.{Cell, Spot, procedure, shrunk, system_procedure}
use Rattle.edi_meaning.specs.Evaluation.{World, Evaluation, gives, ends, stops, turn, turn_from}
use Rattle.edi_meaning.specs.Step.{Work, doing, body_of, ready, at_when, waiting}
use Rattle.edi_meaning.specs.Step.{Asks, goes, leaves, attempt, program_entered, statement_step, work_step}
use Rattle.edi_meaning.specs.Whole.{instance_of, left}
use Rattle.edi_meaning.proofs.Going.{goes_same}
use Rattle.edi_walk.specs.declared.evaluation.Evaluation as code
use Rattle.edi_walk.specs.declared.process.Asked as code_asked
use Rattle.edi_walk.specs.declared.process.Asked.TheVariants as make
use Rattle.edi_walk.specs.declared.process.Standing.TheVariants as stands
use Rattle.edi_walk.specs.declared.process.Work as code_work
use Rattle.edi_walk.specs.declared.stop.Stop.{Stop}
use Rattle.edi_walk.specs.declared.stop.Stop.TheVariants as stop
use Rattle.edi_walk.specs.Frames.{nothing}
use Rattle.edi_walk.specs.Machine.{EntersBlock, Left, LeavesBlock, world_of}
use Rattle.edi_walk.specs.Memory.{store_of}
use Rattle.edi_walk.specs.Processes.{acts_bare, Bare, bare_all, does, ends_branch, ends_procedure, ends_program, enters_program, loops_back, piece_of}
use Rattle.edi_walk.specs.Processes.{work_of}
use Rattle.edi_walk.specs.Works.{AsksSo, Attempt, Does, EntersProgram, IsCalm, Local, ProgramEntered, PutsFirst, Statement}
use Rattle.edi_walk.specs.Works.{TurnsTo, Works}
use Rattle.edi_walk.proofs.Bare.{body_bare}
use Rattle.edi_walk.proofs.Parted.{local_continues, makes_here, out_here, turn_continues, turn_taken}
use Rattle.edi_walk.proofs.Parted.{turned_does, up_here}
use Rattle.edi_walk.proofs.Working.{branch_first, does_first, end_first, entry_first, loops_first, procedure_first, puts_here}

-- ---- ends

module _ (old new : code.Evaluation) (s : State) where
  -- a loop comes again
  pub loop_back : (list : List code_clause.Clause) (result : Result code_asked.Asked Stop) (before left : List code_work.Work) → old.turns ≡ suc new.turns →
      new ≡ record old { turns = new.turns } → PutsFirst (does (tree.while_act (clauses (map clause_of list))) ∷ []) result before left →
      Works (loops_back (clauses (map clause_of list)) ∷ work_of before []) left result old new s s
  loop_back list result before left e is h =
      let cs = clauses (map clause_of list) in
      loops_first (λ work. Does (work_step (unit_of old.unit.now) old.name.items old.size work) (AsksSo left) result old new s s) (work_of before []) cs
      (λ position work b. puts_here old new s (λ w. turn w (gives (goes (doing (tree.while_act cs) position ∷ work)))) (doing (tree.while_act cs) position ∷ work)
      (does (tree.while_act cs) ∷ []) result before left (λ system. turn_taken old new system (gives (goes (doing (tree.while_act cs) position ∷ work))) e is)
      (λ w. turn_continues w _ (λ v. goes_same v)) (ap (λ l. does (tree.while_act cs) ∷ l) b) h)

  -- no turn was left for it
  pub loop_out : (cs : Clauses) (todo : List Bare) (left : List code_work.Work) → old.turns ≡ 0 → new.turns ≡ 0 →
      Works (loops_back cs ∷ todo) left (Err stop.Turns) old new s s
  loop_out cs todo left e f =
      loops_first (λ work. Does (work_step (unit_of old.unit.now) old.name.items old.size work) (AsksSo left) (Err stop.Turns) old new s s) todo cs
      (λ position work b. out_here (AsksSo left) old new (λ w. gives (goes (doing (tree.while_act cs) position ∷ work))) s e f)

  -- a procedure
  left_so : {A : Type 0} (go : World → Evaluation A) (system : Traced) → Left old new →
      left (unit_of old.unit.now) old.name.items old.size (world_of old system) go ≡ go (world_of new system)
  left_so go system l =
      ap (λ n. turn_from n (world_of old system) (λ w. go (record w { store = shrunk old.name.items w.store }))) l.turns
      ∙ ap (λ x. go (record { store = x; system = system; turns = new.turns })) (sym l.store)

  pub procedure_left : (todo : List code_work.Work) → Left old new → Works (ends_procedure ∷ work_of todo []) todo (Ok make.Goes) old new s s
  procedure_left todo h =
      procedure_first (λ work. Does (work_step (unit_of old.unit.now) old.name.items old.size work) (AsksSo todo) (Ok make.Goes) old new s s) (work_of todo [])
      (λ line work b. makes_here (AsksSo todo) old new (λ w. left (unit_of old.unit.now) old.name.items old.size w (gives (goes work))) s make.Goes (goes work) b
      (λ system. left_so (gives (goes work)) system h))

  pub procedure_stays : (todo : List code_work.Work) (x : Stop) → LeavesBlock (Err x) old new → Works (ends_procedure ∷ work_of todo []) todo (Err x) old new s s
  procedure_stays todo x h =
      procedure_first (λ work. Does (work_step (unit_of old.unit.now) old.name.items old.size work) (AsksSo todo) (Err x) old new s s) (work_of todo [])
      (λ line work b. by_stop x h work)
    where
      by_stop : (x : Stop) → LeavesBlock (Err x) old new → (work : List Work) →
          Does (λ w. left (unit_of old.unit.now) old.name.items old.size w (gives (goes work))) (AsksSo todo) (Err x) old new s s
      by_stop stop.Turns h work =
          out_here (AsksSo todo) old new (λ w v. gives (goes work) (record v { store = shrunk old.name.items v.store })) s h.0 h.1
      by_stop stop.NoMemory h work =
          up_here (AsksSo todo) old new (λ w. left (unit_of old.unit.now) old.name.items old.size w (gives (goes work))) s
          (λ w. turn_continues w _ (λ v. goes_same v))
      by_stop stop.Done h work = absurd h
      by_stop (stop.Halted line) h work = absurd h
      by_stop (stop.Failed c line) h work = absurd h
      by_stop (stop.Fault number) h work = absurd h

  -- a branch
  pub branch_over : (result : Result code_asked.Asked Stop) (todo : List code_work.Work) → TurnsTo make.Leaves result old new →
      Works (ends_branch ∷ work_of todo []) todo result old new s s
  branch_over result todo h =
      branch_first (λ work. Does (work_step (unit_of old.unit.now) old.name.items old.size work) (AsksSo todo) result old new s s) (work_of todo [])
      (λ work b. turned_does (AsksSo todo) make.Leaves leaves result old new s tt h)

  -- the program
  pub program_over : (todo : List Bare) (rest : List code_work.Work) → old.turns ≡ suc new.turns → new ≡ record old { turns = new.turns } →
      Works (ends_program ∷ todo) rest (Err stop.Done) old new s s
  program_over todo rest e is =
      end_first (λ work. Does (work_step (unit_of old.unit.now) old.name.items old.size work) (AsksSo rest) (Err stop.Done) old new s s) todo
      (λ work b system i. record { system = system; system_is = i; is = turn_taken old new system (stops outcome.done) e is })

  pub program_out : (todo : List Bare) (rest : List code_work.Work) → old.turns ≡ 0 → new.turns ≡ 0 → Works (ends_program ∷ todo) rest (Err stop.Turns) old new s s
  program_out todo rest e f =
      end_first (λ work. Does (work_step (unit_of old.unit.now) old.name.items old.size work) (AsksSo rest) (Err stop.Turns) old new s s) todo
      (λ work b. out_here (AsksSo rest) old new (λ w. stops outcome.done) s e f)

-- ---- the program's entry

module _ (old new : code.Evaluation) (s : State) where
  abbrev begins : List Work → World → Evaluation Asks
  begins work w = program_entered (unit_of old.unit.now) old.name.items old.size work w

  entry_so : (work : List Work) (system : Traced) → ProgramEntered old new →
      begins work (world_of old system) ≡ gives (goes (body_of (unit_of old.unit.now) (unit_of old.unit.now).program work)) (world_of new system)
  entry_so work system l =
      let go : World → Evaluation Asks = gives (goes (body_of (unit_of old.unit.now) (unit_of old.unit.now).program work)) in
      ap (λ n. turn_from n (world_of old system) (λ w. go (record w {
        store = with_at w.store old.name.items (instance_of (unit_of old.unit.now) old.name.items old.size (unit_of old.unit.now).program ([], 0)
            (map (λ k. procedure (system_procedure k)) (unit_of old.unit.now).calls) ∷ []);
      }))) l.turns
      ∙ ap (λ x. go (record { store = x; system = system; turns = new.turns })) (sym l.store)

  pub program_begun : (body : tree.Acts) (result : Result code_asked.Asked Stop) (before rest : List code_work.Work) → ProgramEntered old new →
      body ≡ (block_at (unit_of old.unit.now).blocks (unit_of old.unit.now).program).body → PutsFirst (acts_bare body) result before rest →
      Works (enters_program ∷ work_of before []) rest result old new s s
  program_begun body result before rest l is h =
      entry_first (λ work. Does (work_step (unit_of old.unit.now) old.name.items old.size work) (AsksSo rest) result old new s s) (work_of before [])
      (λ work b. puts_here old new s (begins work) (body_of (unit_of old.unit.now) (unit_of old.unit.now).program work) (acts_bare body) result before rest
      (λ system. entry_so work system l) (λ w. turn_continues w _ (λ v. goes_same v))
      (body_bare (unit_of old.unit.now) (unit_of old.unit.now).program work ∙ ap (λ x. acts_bare x ++ bare_all work) (sym is) ∙ ap (λ x. acts_bare body ++ x) b) h)

  pub program_stays : (todo : List Bare) (rest : List code_work.Work) (x : Stop) → EntersProgram (Err x) old new →
      Works (enters_program ∷ todo) rest (Err x) old new s s
  program_stays todo rest x h =
      entry_first (λ work. Does (work_step (unit_of old.unit.now) old.name.items old.size work) (AsksSo rest) (Err x) old new s s) todo (λ work b. by_stop x h work)
    where
      by_stop : (x : Stop) → EntersProgram (Err x) old new → (work : List Work) → Does (begins work) (AsksSo rest) (Err x) old new s s
      by_stop stop.Turns h work =
          out_here (AsksSo rest) old new (λ w v. gives (goes (body_of (unit_of old.unit.now) (unit_of old.unit.now).program work)) (record v {
            store = with_at v.store old.name.items (instance_of (unit_of old.unit.now) old.name.items old.size (unit_of old.unit.now).program ([], 0)
                (map (λ k. procedure (system_procedure k)) (unit_of old.unit.now).calls) ∷ []);
          })) s h.0 h.1
      by_stop stop.NoMemory h work = up_here (AsksSo rest) old new (begins work) s (λ w. turn_continues w _ (λ v. goes_same v))
      by_stop stop.Done h work = absurd h
      by_stop (stop.Halted line) h work = absurd h
      by_stop (stop.Failed c line) h work = absurd h
      by_stop (stop.Fault number) h work = absurd h

-- ---- the list of work

pub work_added : (ws : List code_work.Work) (w : code_work.Work) (behind : List Bare) → work_of (ws ++ w ∷ []) behind ≡ piece_of w ++ work_of ws behind
work_added [] w behind = refl
work_added (x ∷ ws) w behind = work_added ws w (piece_of x ++ behind)

-- a statement, before the others of its list
pub act_first : (old new : code.Evaluation) (s t : State) (a : Act) (todo : List Bare) (rest : List code_work.Work) (result : Result code_asked.Asked Stop) →
    Statement a todo rest result old new s t → Works (does a ∷ todo) rest result old new s t
act_first old new s t a todo rest result h =
    does_first (λ work. Does (work_step (unit_of old.unit.now) old.name.items old.size work) (AsksSo rest) result old new s t) todo a (λ position work b. h position work b)

act_stays : (old : code.Evaluation) (s : State) (a : Act) (todo : List Bare) (rest : List code_work.Work) → Statement a todo rest (Err stop.NoMemory) old old s s
act_stays old s a todo rest position work b =
    up_here (AsksSo rest) old old (statement_step (unit_of old.unit.now) old.name.items old.size a position work) s
    (local_continues (unit_of old.unit.now) old.name.items old.size ready (doing a position ∷ work))

pub act_stop : (old : code.Evaluation) (s : State) (a : Act) (some todo : List Bare) (rest before after : List code_work.Work) (x : Stop) →
    PutsFirst some (Err x) before after → Statement a todo rest (Err x) old old s s
act_stop old s a some todo rest before after stop.NoMemory h = act_stays old s a todo rest
act_stop old s a some todo rest before after stop.Done h = absurd h
act_stop old s a some todo rest before after (stop.Halted line) h = absurd h
act_stop old s a some todo rest before after (stop.Failed c line) h = absurd h
act_stop old s a some todo rest before after stop.Turns h = absurd h
act_stop old s a some todo rest before after (stop.Fault number) h = absurd h

-- nothing is left to do
pub no_work : (old : code.Evaluation) (s : State) (rest : List code_work.Work) → Works [] rest (Err stop.Turns) old old s s
no_work old s rest [] b system i = record { system = system; system_is = i; is = refl }
no_work old s rest (w ∷ work) b system i = absurd (cc)

-- ---- by how it stands

pub local_ready : (old new : code.Evaluation) (s t : State) (todo : List Bare) (rest : List code_work.Work) (result : Result code_asked.Asked Stop) →
    Works todo rest result old new s t → Local stands.Ready todo rest result old new s t
local_ready old new s t todo rest result h ready q work b = h work b
local_ready old new s t todo rest result h (at_when cs position) q work b = absurd q
local_ready old new s t todo rest result h (waiting n) q work b = absurd q

pub local_at : (old new : code.Evaluation) (s t : State) (list : Rattle.std.specs.Borrow.Bor (List code_clause.Clause)) (rest : List code_work.Work)
    (result : Result code_asked.Asked Stop) → Attempt (clauses (map clause_of list.now)) result old new s t →
    Local (stands.AtWhen list) (work_of rest []) rest result old new s t
local_at old new s t list rest result h ready q work b = absurd q
local_at old new s t list rest result h (at_when cs position) q work b =
    subst (λ c. Does (attempt (unit_of old.unit.now) old.name.items old.size c position work) (AsksSo rest) result old new s t) (sym q) (h rest position work b)
local_at old new s t list rest result h (waiting n) q work b = absurd q

pub local_waits : (old : code.Evaluation) (s : State) (n : ℕ) (todo : List Bare) (rest : List code_work.Work) →
    Local (stands.Waiting n) todo rest (Err stop.Turns) old old s s
local_waits old s n todo rest ready q work b system i = absurd q
local_waits old s n todo rest (at_when cs position) q work b system i = absurd q
local_waits old s n todo rest (waiting k) q work b system i = record { system = system; system_is = i; is = refl }

-- ---- no object outside has failed

pub leaves_calm : (old new : code.Evaluation) (x : Stop) → LeavesBlock (Err x) old new → IsCalm {T = code_asked.Asked} (Err x)
leaves_calm old new stop.Turns h = tt
leaves_calm old new stop.NoMemory h = tt
leaves_calm old new stop.Done h = tt
leaves_calm old new (stop.Halted line) h = tt
leaves_calm old new (stop.Failed c line) h = tt
leaves_calm old new (stop.Fault number) h = h

pub enters_calm : (old new : code.Evaluation) (number : ℕ) (parent : Spot) (cells : List Cell) (line : ℕ) (x : Stop) →
    EntersBlock number parent cells line (Err x) old new → IsCalm {T = code_asked.Asked} (Err x)
enters_calm old new number parent cells line stop.Turns h = tt
enters_calm old new number parent cells line stop.NoMemory h = tt
enters_calm old new number parent cells line stop.Done h = tt
enters_calm old new number parent cells line (stop.Halted l) h = tt
enters_calm old new number parent cells line (stop.Failed c l) h = tt
enters_calm old new number parent cells line (stop.Fault asked) h = h

abbrev pub Alike : {T : Type 0} → Result T Stop → Result T Stop → Type 0
Alike a b = a ≡ b

pub err_is : {T : Type 0} (x y : Stop) → Alike {T = T} (Err x) (Err y) → x ≡ y
err_is x y e = cc

pub program_enters : (old mid new : code.Evaluation) (result : Result (Unit {0}) Stop) → old.turns ≡ suc mid.turns → mid ≡ record old { turns = mid.turns } →
    OnOk result (store_of new.memory
    ≡ with_at (store_of mid.memory) mid.name.items (instance_of (unit_of mid.unit.now) mid.name.items mid.size (unit_of mid.unit.now).program ([], 0)
    (map (λ n. procedure (system_procedure n)) (unit_of mid.unit.now).calls) ∷ [])) →
    new ≡ record mid { memory = new.memory } → OnErr result (result ≡ Err stop.NoMemory) → EntersProgram result old new
program_enters old mid new (Ok x) e is store others err =
    let began : (k : code.Evaluation) → Type 0 = λ k. store_of new.memory
    ≡ with_at (store_of k.memory) k.name.items (instance_of (unit_of k.unit.now) k.name.items k.size (unit_of k.unit.now).program ([], 0)
    (map (λ n. procedure (system_procedure n)) (unit_of k.unit.now).calls) ∷ []) in
    record {
      turns = e ∙ ap (λ (k : code.Evaluation). suc k.turns) (sym others);
      store = subst began is store;
      others = others ∙ ap (λ (k : code.Evaluation). record k { memory = new.memory }) is ∙ ap (λ n. record old { memory = new.memory; turns = n }) (ap (λ (k : code.Evaluation). k.turns) (sym others));
    }
program_enters old mid new (Err x) e is store others err = subst (λ y. EntersProgram (Err y) old new) (sym (err_is x stop.NoMemory err)) tt

pub program_calm : (old new : code.Evaluation) (x : Stop) → EntersProgram (Err x) old new → IsCalm {T = code_asked.Asked} (Err x)
program_calm old new stop.Turns h = tt
program_calm old new stop.NoMemory h = tt
program_calm old new stop.Done h = tt
program_calm old new (stop.Halted line) h = tt
program_calm old new (stop.Failed c line) h = tt
program_calm old new (stop.Fault number) h = h
