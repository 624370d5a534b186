-- Parts of a step, one after another: what is made of all is what is made of the rest.
use Rattle.std.proofs.Common.{◌≡◌, ℕ, zero, suc, Bool, true, false, if◌then◌else◌, List, [], ◌∷◌, Result, Ok, Err, refl, sym, subst, ap, ◌∙◌, arith}
use Rattle.std.specs.Prelude.{nat_lt}
use Rattle.edi_calls.specs.Names.{Name}
use Rattle.edi_calls.specs.Outcome as outcome
use Rattle.edi_calls.specs.Outcome.{Ending}
use Rattle.edi_calls.specs.State.{State, Traced}
use Rattle.edi_unit.specs.Tree.{ProgramUnit}
use Rattle.edi_meaning.specs.Laws.{GoesFrom, Grows}
use Rattle.edi_calls.specs.declared.kinds.Cause.TheVariants as cause
use Rattle.edi_unit.specs.Need.{block_at}
use Rattle.edi_meaning.specs.Store.{Cell, Closure, block_procedure, grown, room, shape, system_procedure}
use Rattle.edi_meaning.specs.Evaluation.{World, Evaluation, gives, ends, ◌>>=◌, fails, turn, turn_from}
use Rattle.edi_meaning.specs.Step.{Work, Standing, Asks, goes, body_of, called, local_step, procedure_end}
use Rattle.edi_meaning.specs.Whole.{instance_of, system_call}
use Rattle.edi_meaning.proofs.Going.{going, goes_same, grows_all}
use Rattle.edi_meaning.proofs.Lasting.{Any, At, Gives, system_keeps}
use Rattle.edi_meaning.proofs.Local.{Moving, local_keeps}
use Rattle.edi_walk.specs.declared.evaluation.Evaluation as code
use Rattle.edi_walk.specs.declared.stop.Stop.{Stop}
use Rattle.edi_walk.specs.declared.stop.Stop.TheVariants as stop
use Rattle.edi_walk.specs.Machine.{world_of}
use Rattle.edi_walk.specs.Steps.{Continues, MakesSo}
use Rattle.edi_walk.specs.Works.{Does, TurnsTo}
use Rattle.edi_walk.proofs.Choosing.{stops_further}
use Rattle.edi_walk.proofs.Grows.{every_any}
use Rattle.edi_walk.proofs.Stopping.{both_continues, continues_then, further, stops_then}

-- ---- what is left goes on

pub turn_continues : {A : Type 0} (w : World) (go : World → Evaluation A) → ((v : World) → Continues v (go v)) → Continues w (turn w go)
turn_continues w go h = by_turns w.turns refl
  where
    by_turns : (n : ℕ) → w.turns ≡ n → Continues w (turn_from n w go)
    by_turns zero e = goes_same w
    by_turns (suc n) e =
        let g = goes_same w in further w (record w { turns = n }) (go (record w { turns = n })) (omega (arith, e), g.1, g.2) (h (record w { turns = n }))

abbrev moves : (unit : ProgramUnit) (p : Name) (size : ℕ) (w : World) → Moving (going unit p size w) tt (λ v. GoesFrom w v.system v.turns)
moves unit p size w = record { stays = λ v h. h; grows = λ number parent cells v c f h. h; shrinks = λ v h. h; begins = λ v h. h }

pub local_continues : (unit : ProgramUnit) (p : Name) (size : ℕ) (standing : Standing) (work : List Work) (w : World) → Continues w (local_step unit p size standing work w)
local_continues unit p size standing work w =
    both_continues w (local_step unit p size standing work w)
    (local_keeps (going unit p size w) tt (λ v. GoesFrom w v.system v.turns) (moves unit p size w) standing work w (λ idle v h. h) (goes_same w)).is

pub asking_continues : (number line : ℕ) (cells : List Cell) (w : World) → Continues w (system_call number cells line w)
asking_continues number line cells w =
    read (system_call number cells line w) (system_keeps (going no_unit [] 0 w) tt number cells line w (every_any cells) (goes_same w)).is
  where
    no_unit : ProgramUnit
    no_unit = record { types = []; blocks = []; program = 0; calls = [] }

    read : (m : Evaluation (Unit {0})) → Gives (At (going no_unit [] 0 w) tt Any) (going no_unit [] 0 w).Ends m → Continues w m
    read (gives b v) k = k.1
    read (ends i system turns) k = k

pub called_continues : (unit : ProgramUnit) (p : Name) (size : ℕ) (c : Closure) (cells : List Cell) (line : ℕ) (work : List Work) (w : World) →
    Continues w (called unit p size c cells line work w)
called_continues unit p size (system_procedure number) cells line work w =
    continues_then w (system_call number cells line w) (λ _ v. gives (goes work) v) (asking_continues number line cells w) (λ _ v. goes_same v)
called_continues unit p size (block_procedure number parent) cells line work w =
    by_room (nat_lt (room size (shape w.store p)) (block_at unit.blocks number).need)
  where
    inside : World → Evaluation Asks
    inside v = gives (goes (body_of unit number (procedure_end line ∷ work))) (record v { store = grown p (instance_of unit p size number parent cells) v.store })

    by_room : (b : Bool) → Continues w (if b then fails cause.VariableLimit line w else turn w inside)
    by_room true = goes_same w
    by_room false = turn_continues w inside (λ v. goes_same v)

-- ---- one part after another

grows_same : (s : Traced) → Grows s s
grows_same s = ([], refl, refl)

further_so : {B T : Type 0} (from on : Traced) (Q : T → B → Type 0) (result : Result T Stop) (new : code.Evaluation) (u : State) (m : Evaluation B) → Grows from on →
    MakesSo on Q result new u m → MakesSo from Q result new u m
further_so from on Q (Ok y) new u m g h = record {
  value = h.value;
  related = h.related;
  system = h.system;
  system_is = h.system_is;
  grew = grows_all from on h.system g h.grew;
  is = h.is;
}
further_so from on Q (Err s) new u m g h = stops_further from on s new u m g h

module _ {A B S T : Type 0} (R : S → A → Type 0) (Q : T → B → Type 0) (old : code.Evaluation) (m : World → Evaluation A) (f : A → World → Evaluation B) where
  pub does_then : (x : S) (result : Result T Stop) (mid new : code.Evaluation) (s t u : State) → Does m R (Ok x) old mid s t →
      ((a : A) → R x a → Does (f a) Q result mid new t u) → Does (λ w. m w >>= f) Q result old new s u
  does_then x result mid new s t u h k system i =
      let g = h system i in
      further_so system g.system Q result new u (m (world_of old system) >>= f) g.grew
      (subst (MakesSo g.system Q result new u) (sym (ap (λ r. r >>= f) g.is)) (k g.value g.related g.system g.system_is))

  pub does_stop : (x : Stop) (new : code.Evaluation) (s t : State) → Does {T = S} m R (Err x) old new s t → ((a : A) (v : World) → Continues v (f a v)) →
      Does {T = T} (λ w. m w >>= f) Q (Err x) old new s t
  does_stop x new s t h k system i = stops_then system x new t (m (world_of old system)) f (h system i) k

-- ---- parts without a call of the system

module _ {B T : Type 0} (Q : T → B → Type 0) (old new : code.Evaluation) (m : World → Evaluation B) (s : State) where
  pub makes_here : (y : T) (b : B) → Q y b → ((system : Traced) → m (world_of old system) ≡ gives b (world_of new system)) → Does m Q (Ok y) old new s s
  makes_here y b q is system i = record { value = b; related = q; system = system; system_is = i; grew = grows_same system; is = is system }

  pub up_here : ((w : World) → Continues w (m w)) → Does m Q (Err stop.NoMemory) old new s s
  up_here k system i = record { world = world_of old system; grew = grows_same system; system_is = i; goes = k (world_of old system) }

-- ---- turns

pub turn_taken : {A : Type 0} (old new : code.Evaluation) (system : Traced) (go : World → Evaluation A) → old.turns ≡ suc new.turns → new ≡ record old { turns = new.turns } →
    turn (world_of old system) go ≡ go (world_of new system)
turn_taken old new system go e is = ap (λ n. turn_from n (world_of old system) go) e ∙ ap (λ (x : code.Evaluation). go (world_of x system)) (sym is)

pub turn_out : {A : Type 0} (old : code.Evaluation) (n : ℕ) (system : Traced) (go : World → Evaluation A) → old.turns ≡ 0 → n ≡ 0 →
    turn (world_of old system) go ≡ ends outcome.turns system n
turn_out old n system go e f = ap (λ k. turn_from k (world_of old system) go) e ∙ ap (λ k. ends outcome.turns system k) (e ∙ sym f)

pub out_here : {B T : Type 0} (Q : T → B → Type 0) (old new : code.Evaluation) (go : World → World → Evaluation B) (s : State) → old.turns ≡ 0 → new.turns ≡ 0 →
    Does {T = T} (λ w. turn w (go w)) Q (Err stop.Turns) old new s s
out_here Q old new go s e f system i =
    record { system = system; system_is = i; is = turn_out old new.turns system (go (world_of old system)) e f }

-- a turn, and then this
pub turned_does : {B T : Type 0} (Q : T → B → Type 0) (x : T) (b : B) (result : Result T Stop) (old new : code.Evaluation) (s : State) → Q x b →
    TurnsTo x result old new → Does (λ w. turn w (gives b)) Q result old new s s
turned_does Q x b (Ok y) old new s q h =
    makes_here Q old new (λ w. turn w (gives b)) s y b (subst (λ z. Q z b) (sym h.0) q) (λ system. turn_taken old new system (gives b) h.1 h.2)
turned_does Q x b (Err stop.Turns) old new s q h = out_here Q old new (λ w. gives b) s h.0 h.1
turned_does Q x b (Err stop.Done) old new s q h = absurd h
turned_does Q x b (Err (stop.Halted line)) old new s q h = absurd h
turned_does Q x b (Err (stop.Failed c line)) old new s q h = absurd h
turned_does Q x b (Err (stop.Fault number)) old new s q h = absurd h
turned_does Q x b (Err stop.NoMemory) old new s q h = absurd h
