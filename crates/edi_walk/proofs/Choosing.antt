-- The first list whose condition is true: what is made of all is what is made of the rest.
use Rattle.std.proofs.Common.{◌≡◌, ℕ, suc, Bool, true, false, if◌then◌else◌, Option, Some, Result, Ok, Err, refl, sym, subst, ap, ◌∙◌}
use Rattle.edi_calls.specs.Names.{Name}
use Rattle.edi_calls.specs.State.{State, Traced}
use Rattle.edi_unit.specs.Tree as tree
use Rattle.edi_unit.specs.Tree.{Acts, Clauses, Expression, ProgramUnit}
use Rattle.edi_unit.specs.View.{unit_of}
use Rattle.edi_meaning.specs.Laws.{Grows}
use Rattle.edi_meaning.specs.Evaluation.{World, Evaluation, gives, ends, ◌>>=◌}
use Rattle.edi_meaning.specs.Step.{chosen}
use Rattle.edi_meaning.specs.Whole.{whole_condition}
use Rattle.edi_meaning.proofs.Going.{going, goes_same, grows_all}
use Rattle.edi_meaning.proofs.Lasting.{Any, At, Gives, whole_condition_keeps}
use Rattle.edi_walk.specs.declared.evaluation.Evaluation as code
use Rattle.edi_walk.specs.declared.stop.Stop.{Stop}
use Rattle.edi_walk.specs.declared.stop.Stop.TheVariants as stop
use Rattle.edi_walk.specs.Machine.{world_of, IsSameProcess}
use Rattle.edi_walk.specs.Steps.{Condition, Continues, Makes, MakesSo, StopsSo}
use Rattle.edi_walk.proofs.Stopping.{continues_then, stops_then}

-- ---- what is left goes on

condition_continues : (unit : ProgramUnit) (p : Name) (size : ℕ) (e : Expression) (w : World) → Continues w (whole_condition unit p size e w)
condition_continues unit p size e w =
    read (whole_condition unit p size e w) (whole_condition_keeps (going unit p size w) tt e w (goes_same w)).is
  where
    read : (m : Evaluation Bool) → Gives (At (going unit p size w) tt Any) (going unit p size w).Ends m → Continues w m
    read (gives b v) k = k.1
    read (ends i system turns) k = k

pub chosen_continues : (unit : ProgramUnit) (p : Name) (size : ℕ) (cs : Clauses) (n : ℕ) (w : World) → Continues w (chosen unit p size cs n w)
chosen_continues unit p size tree.no_clause n w = goes_same w
chosen_continues unit p size (tree.clause_then (tree.clause e s) cs) n w =
    continues_then w (whole_condition unit p size e w) _ (condition_continues unit p size e w) (λ b v. by_truth b v (chosen_continues unit p size cs (suc n) v))
  where
    by_truth : (b : Bool) (v : World) → Continues v (chosen unit p size cs (suc n) v) →
        Continues v (if b then gives (Some (s, n)) v else chosen unit p size cs (suc n) v)
    by_truth true v k = goes_same v
    by_truth false v k = k

-- ---- from an earlier past

pub stops_further : {A : Type 0} (from on : Traced) (s : Stop) (new : code.Evaluation) (now : State) (m : Evaluation A) → Grows from on → StopsSo on s new now m →
    StopsSo from s new now m
stops_further from on stop.Done new now m g h = h
stops_further from on (stop.Halted line) new now m g h = h
stops_further from on (stop.Failed c line) new now m g h = h
stops_further from on stop.Turns new now m g h = h
stops_further from on (stop.Fault number) new now m g h = record {
  before = h.before;
  grew = grows_all from on h.before g h.grew;
  next = h.next;
  arguments = h.arguments;
  answer = h.answer;
  answers = h.answers;
  torn = h.torn;
  world = h.world;
  world_is = h.world_is;
  goes = h.goes;
}
stops_further from on stop.NoMemory new now m g h = record {
  world = h.world;
  grew = grows_all from on h.world.system g h.grew;
  system_is = h.system_is;
  goes = h.goes;
}

-- ---- some conditions were false

pub record Far (all rest : Clauses) (old mid : code.Evaluation) (from : Traced) (n : ℕ) (now : State) : Type 0 where
  pub system : Traced
  pub system_is : system.now ≡ now
  pub grew : Grows from system
  pub number : ℕ
  pub is : chosen (unit_of old.unit.now) old.name.items old.size all n (world_of old from)
      ≡ chosen (unit_of old.unit.now) old.name.items old.size rest number (world_of mid system)

abbrev pub FarOn : (all rest : Clauses) (old mid : code.Evaluation) → (before now : State) → Type 0
FarOn all rest old mid before now = (system : Traced) → system.now ≡ before → (n : ℕ) → Far all rest old mid system n now

-- the unit, the process and its segment have stayed
pub of_old : (old mid : code.Evaluation) (P : ProgramUnit → Name → ℕ → Type 0) → IsSameProcess old mid → P (unit_of mid.unit.now) mid.name.items mid.size →
    P (unit_of old.unit.now) old.name.items old.size
of_old old mid P same h =
    subst (λ u. P (unit_of u.now) old.name.items old.size) same.unit
    (subst (λ p. P (unit_of mid.unit.now) p.items old.size) same.name (subst (λ n. P (unit_of mid.unit.now) mid.name.items n) same.size h))

module _ (all rest : Clauses) (e : Expression) (s : Acts) (old mid new : code.Evaluation) (a b c : State) (same : IsSameProcess old mid)
    (far : FarOn all (tree.clause_then (tree.clause e s) rest) old mid a b) where
  abbrev judged : Result Bool Stop → (system : Traced) → Type 0
  judged r system =
      MakesSo system (λ x y. y ≡ x) r new c (whole_condition (unit_of old.unit.now) old.name.items old.size e (world_of mid system))

  condition_of : (r : Result Bool Stop) → Condition e r mid new b c → (system : Traced) → system.now ≡ b → judged r system
  condition_of r h system i =
      of_old old mid (λ u p n. MakesSo system (λ x y. y ≡ x) r new c (whole_condition u p n e (world_of mid system))) same (h system i)

  abbrev then_so : ℕ → Bool → World → Evaluation (Option (Acts × ℕ))
  then_so n truth w =
      if truth then gives (Some (s, n)) w else chosen (unit_of old.unit.now) old.name.items old.size rest (suc n) w

  pub far_false : Condition e (Ok false) mid new b c → FarOn all rest old new a c
  far_false h system i n =
      let f = far system i n in
      let k = condition_of (Ok false) h f.system f.system_is in
      record {
        system = k.system;
        system_is = k.system_is;
        grew = grows_all system f.system k.system f.grew k.grew;
        number = suc f.number;
        is = f.is ∙ ap (λ m. m >>= then_so f.number) k.is ∙ ap (λ t. then_so f.number t (world_of new k.system)) k.related;
      }

  pub far_true : Condition e (Ok true) mid new b c → (system : Traced) → system.now ≡ a → (n : ℕ) →
      Makes system (λ x. (m : ℕ) × (x ≡ Some (s, m))) new c (chosen (unit_of old.unit.now) old.name.items old.size all n (world_of old system))
  far_true h system i n =
      let f = far system i n in
      let k = condition_of (Ok true) h f.system f.system_is in
      record {
        value = Some (s, f.number);
        related = (f.number, refl);
        system = k.system;
        system_is = k.system_is;
        grew = grows_all system f.system k.system f.grew k.grew;
        is = f.is ∙ ap (λ m. m >>= then_so f.number) k.is ∙ ap (λ t. then_so f.number t (world_of new k.system)) k.related;
      }

  pub far_stops : (x : Stop) → Condition e (Err x) mid new b c → (system : Traced) → system.now ≡ a → (n : ℕ) →
      StopsSo system x new c (chosen (unit_of old.unit.now) old.name.items old.size all n (world_of old system))
  far_stops x h system i n =
      let f = far system i n in
      stops_further system f.system x new c _ f.grew
      (subst (StopsSo f.system x new c) (sym f.is)
      (stops_then f.system x new c (whole_condition (unit_of old.unit.now) old.name.items old.size e (world_of mid f.system)) (then_so f.number)
      (condition_of (Err x) h f.system f.system_is) (λ t v. by_truth t v f.number)))
    where
      by_truth : (t : Bool) (v : World) (k : ℕ) → Continues v (then_so k t v)
      by_truth true v k = goes_same v
      by_truth false v k = chosen_continues (unit_of old.unit.now) old.name.items old.size rest (suc k) v
