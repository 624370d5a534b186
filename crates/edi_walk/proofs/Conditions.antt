-- Frames that are done alone, and conditions.
use Rattle.std.proofs.Common.{◌≡◌, Bool, [], ◌∷◌, ◌++◌, Option, Result, Ok, Err, sym, subst, ap, ◌∙◌, arith}
use Rattle.std.specs.Prelude.{map}
use Rattle.edi_told.specs.Told.{WhereTold}
use Rattle.edi_told.proofs.Told.{WhereTold-map}
use Rattle.edi_calls.specs.State.{State}
use Rattle.edi_unit.specs.Tree.{Expression}
use Rattle.edi_unit.specs.View.{unit_of}
use Rattle.edi_unit.specs.Values.{is_true}
use Rattle.edi_walk.specs.declared.evaluation.Evaluation as code
use Rattle.edi_walk.specs.declared.frames.Frame as code_frame
use Rattle.edi_walk.specs.declared.stop.Stop.{Stop}
use Rattle.edi_walk.specs.declared.stop.Stop.TheVariants as stop
use Rattle.edi_walk.specs.Frames.{value_given, evaluates, resume}
use Rattle.edi_walk.specs.Machine.{given_of, frame_of, deeper_of, world_of, IsSameProcess}
use Rattle.edi_walk.specs.Runs.{RunsTo, Runs}
use Rattle.edi_walk.specs.Steps.{MakesSo, Wholly, Condition}
use Rattle.edi_walk.proofs.Calls.{WhereTold-same}
use Rattle.edi_walk.proofs.Wholes.{run_so, alone_makes, condition_is}

-- a frame was put on a list without frames, and all was done
pub told_wholly : (old mid new : code.Evaluation) (f : code_frame.Frame) (result : Result (Unit {0}) Stop) (a b : Option State) →
    mid ≡ record old { frames = mid.frames } → old.frames.items ≡ [] → mid.frames.items ≡ old.frames.items ++ f ∷ [] →
    WhereTold a b (λ s t. Runs result mid new s t) → WhereTold a b (λ s t. Wholly (frame_of f) result old new s t)
told_wholly old mid new f result a b is none items told =
    WhereTold-map _ _ a b
    (λ s t runs system e.
    subst (RunsTo old.turns system result new t)
    (alone_makes old.turns mid (frame_of f) system (ap (map frame_of) (items ∙ ap (λ l. l ++ f ∷ []) none))
    ∙ ap (λ (x : code.Evaluation). resume (unit_of x.unit.now) x.name.items x.size (deeper_of old.turns x) (frame_of f) (given_of x.given) (world_of x system)) is)
    (runs old.turns system e (omega (arith, ap (λ (x : code.Evaluation). x.turns) is)))) told

-- it was not put on the list, for want of memory
pub told_unput : (old new : code.Evaluation) (f : code_frame.Frame) (result : Result (Unit {0}) Stop) (o : Option State) → result ≡ Err stop.NoMemory → IsSameProcess old new →
    WhereTold o o (λ x y. Wholly (frame_of f) result old new x y)
told_unput old new f result o e same =
    WhereTold-same _ o (λ x system i.
    subst (λ r. RunsTo old.turns system r new x
    (resume (unit_of old.unit.now) old.name.items old.size (deeper_of old.turns old) (frame_of f) (given_of old.given) (world_of old system))) (sym e)
    (Rattle.edi_walk.proofs.Calls.up_alone old.turns old new (frame_of f) (given_of old.given) system x same (omega arith) i))

pub told_holds : (old new : code.Evaluation) (e : Expression) (b : Bool) (x y : Option State) → b ≡ is_true (value_given (given_of new.given)) →
    WhereTold x y (λ s t. Wholly (evaluates e) (Ok tt) old new s t) → WhereTold x y (λ s t. Condition e (Ok b) old new s t)
told_holds old new e b x y is told =
    WhereTold-map _ _ x y
    (λ s t h system i.
    let w = world_of old system in
    let k = run_so old.turns system (Ok tt) new t _ (λ g. is_true (value_given g)) (h system i) in
    record {
      value = k.value;
      related = k.related ∙ sym is;
      system = k.system;
      system_is = k.system_is;
      grew = k.grew;
      is = sym (condition_is (unit_of old.unit.now) old.name.items old.size w e (given_of old.given)) ∙ k.is;
    }) told

pub told_no_truth : (old new : code.Evaluation) (e : Expression) (s : Stop) (x y : Option State) →
    WhereTold x y (λ u t. Wholly (evaluates e) (Err s) old new u t) → WhereTold x y (λ u t. Condition e (Err s) old new u t)
told_no_truth old new e s x y told =
    WhereTold-map _ _ x y
    (λ u t h system i.
    subst (MakesSo {T = Bool} system (λ b a. a ≡ b) (Err s) new t)
    (condition_is (unit_of old.unit.now) old.name.items old.size (world_of old system) e (given_of old.given))
    (run_so old.turns system (Err s) new t _ (λ g. is_true (value_given g)) (h system i))) told
