-- What frames make only takes turns and input, and only adds to what was shown and printed, and to the past of the system.
use Rattle.std.proofs.Common.{ℕ, ◌<◌, ◌≤◌, Bool, true, false, if◌then◌else◌, List, [], ◌∷◌, refl, arith}
use Rattle.edi_calls.specs.Names.{Name}
use Rattle.edi_unit.specs.Types.{shape_at}
use Rattle.edi_unit.specs.Values.{apply, converted, is_true, ordinal_of, sign, with_ordinal}
use Rattle.edi_unit.specs.Tree as tree
use Rattle.edi_unit.specs.Tree.{Acts, ProgramUnit}
use Rattle.edi_meaning.specs.Laws.{GoesFrom}
use Rattle.edi_meaning.specs.Store.{Cell}
use Rattle.edi_meaning.specs.Evaluation.{World, Evaluation, gives, ends, ◌>>=◌, turn}
use Rattle.edi_meaning.specs.Whole.{levels_of, meant, result_of}
use Rattle.edi_meaning.proofs.Going.{going, goes_same}
use Rattle.edi_meaning.proofs.Lasting.{Any, At, Every, Gives, Keeps, Lasting, acts_keeps, arguments_keeps, bind, bounded, designated_keeps, element_keeps}
use Rattle.edi_meaning.proofs.Lasting.{expression_keeps, expressions_keeps, first_keeps, function_keeps, give, if_keeps, left_keeps, linked_keeps, members_keeps}
use Rattle.edi_meaning.proofs.Lasting.{levels_keep, parts_keeps, procedure_keeps, range_keeps, system_keeps, turn_less}
use Rattle.edi_walk.specs.Frames.{Given, nothing, a_value, a_place, some_cells, whether, value_given, cells_given, truth_given, member_given}
use Rattle.edi_walk.specs.Frames.{Frame, evaluates, places, refines, performs, tries, gathers, joins_members, collects, negates, signs, converts, links_on}
use Rattle.edi_walk.specs.Frames.{operates, indexes, stores, tests, loads, assigns, calls_function, calls_procedure, asks, loops, ends_function, ends_procedure}
use Rattle.edi_walk.specs.Frames.{was_true, resume, after, makes_within}

pub every_any : (cells : List Cell) → Every Any cells
every_any [] = tt
every_any (c ∷ cells) = (tt, every_any cells)

module _ (unit : ProgramUnit) (p : Name) (size levels : ℕ) (before : World) where
  abbrev s : Lasting unit p size
  s = bounded (going unit p size before) levels

  abbrev within : (x : s.Level) (w : World) → s.Holds x w → w.turns ≤ levels
  within x w h = h.0

  deep : (x : s.Level) (as' : Acts) (w : World) → w.turns < levels → s.Holds x w → Keeps s (At s x Any) (levels_of unit p size levels as' w)
  deep x as' w less h = levels_keep levels s x as' w less h

  abbrev Kept : Evaluation Given → Type 0
  Kept r = Keeps s (At s tt Any) r

  -- what is made is handed on
  on : {A : Type 0} (V : A → Type 0) (r : Evaluation A) (f : A → Given) → Keeps s (At s tt V) r → Kept (r >>= λ a w. gives (f a) w)
  on V r f h = bind s tt V _ r _ h (λ a w v g. give s _ (f a) w (tt, g))

  member_kept : (set : List ℕ) (line : ℕ) (g : Given) (w : World) → s.Holds tt w → Keeps s (At s tt Any) (member_given set line g w)
  member_kept set line (a_value v) w h = range_keeps s tt line (with_ordinal set (ordinal_of v)) w h
  member_kept set line nothing w h = give s _ set w (tt, h)
  member_kept set line (a_place d) w h = give s _ set w (tt, h)
  member_kept set line (some_cells cells) w h = give s _ set w (tt, h)
  member_kept set line (whether b) w h = give s _ set w (tt, h)

  again : (cs : tree.Clauses) (b : Bool) (w : World) → s.Holds tt w →
      Kept (if b then turn w (λ w. levels_of unit p size levels (tree.act_then (tree.while_act cs) tree.no_act) w >>= λ _ w. gives nothing w) else gives nothing w)
  again cs true w h = turn_less s tt _ w.turns w _ refl h
      (λ v less g. on Any _ (λ _. nothing) (deep tt (tree.act_then (tree.while_act cs) tree.no_act) v (omega (arith, less, within tt w h)) g))
  again cs false w h = give s _ nothing w (tt, h)

  pub resume_kept : (f : Frame) (g : Given) (w : World) → s.Holds tt w → Kept (resume unit p size (levels_of unit p size levels) f g w)
  resume_kept (evaluates e) g w h = on Any _ a_value (expression_keeps s levels within _ deep tt e w h)
  resume_kept (places v) g w h = on _ _ a_place (designated_keeps s levels within _ deep tt v w h)
  resume_kept (refines d ps) g w h = on _ _ a_place (parts_keeps s levels within _ deep tt d ps w tt h)
  resume_kept (performs acts) g w h = on Any _ (λ _. nothing) (acts_keeps s levels within _ deep tt acts w h)
  resume_kept (tries cs) g w h = on Any _ whether (first_keeps s levels within _ deep tt cs w h)
  resume_kept (gathers vs es) g w h = on Any _ _ (expressions_keeps s levels within _ deep tt es w h)
  resume_kept (joins_members set es line) g w h =
      bind s tt Any _ _ _ (member_kept set line g w h) (λ set w _ h. on Any _ _ (members_keeps s levels within _ deep tt set es line w h))
  resume_kept (collects cells es) g w h = on _ _ _ (arguments_keeps s levels within _ deep tt es w h)
  resume_kept negates g w h = give s _ _ w (tt, h)
  resume_kept (signs line) g w h = on Any _ a_value (range_keeps s tt line (sign (value_given g)) w h)
  resume_kept (converts of line) g w h = on Any _ a_value (range_keeps s tt line (converted (shape_at unit.types of) (value_given g)) w h)
  resume_kept (links_on ls) g w h = on Any _ a_value (linked_keeps s levels within _ deep tt (value_given g) ls w h)
  resume_kept (operates v o line ls) g w h =
      bind s tt Any _ _ _ (range_keeps s tt line (apply o v (value_given g)) w h) (λ v w _ h. on Any _ a_value (linked_keeps s levels within _ deep tt v ls w h))
  resume_kept (indexes d line ps) g w h =
      bind s tt Any _ _ _ (element_keeps s tt (shape_at unit.types d.of) line d.at (value_given g) w tt h)
      (λ d w _ h. on _ _ a_place (parts_keeps s levels within _ deep tt d ps w tt h))
  resume_kept (stores d) g w h = give s _ nothing _ (tt, h)
  resume_kept (tests acts cs) g w h =
      if_keeps s _ (is_true (value_given g)) _ _ (on Any _ (λ _. whether true) (acts_keeps s levels within _ deep tt acts w h))
      (on Any _ whether (first_keeps s levels within _ deep tt cs w h))
  resume_kept loads g w h = give s _ _ w (tt, h)
  resume_kept (assigns e) g w h = bind s tt Any _ _ _ (expression_keeps s levels within _ deep tt e w h) (λ x w _ h. give s _ nothing _ (tt, h))
  resume_kept (calls_function c line) g w h =
      on Any _ a_value (function_keeps s levels within _ deep tt (meant unit p size c w) (cells_given g) line w tt (every_any (cells_given g)) h)
  resume_kept (calls_procedure c line) g w h =
      on Any _ (λ _. nothing) (procedure_keeps s levels within _ deep tt (meant unit p size c w) (cells_given g) line w tt (every_any (cells_given g)) h)
  resume_kept (asks number line) g w h = on Any _ (λ _. nothing) (system_keeps s tt number (cells_given g) line w (every_any (cells_given g)) h)
  resume_kept (loops cs) g w h = again cs (truth_given g) w h
  resume_kept ends_function g w h = left_keeps s tt tt _ w (gives (a_value (result_of unit p size w))) (λ v k. k) h (λ w h. give s _ _ w (tt, h))
  resume_kept ends_procedure g w h = left_keeps s tt tt _ w (gives nothing) (λ v k. k) h (λ w h. give s _ nothing w (tt, h))
  resume_kept was_true g w h = give s _ _ w (tt, h)

  after_kept : (fs : List Frame) (go : Given → World → Evaluation Given) → ((g : Given) (w : World) → s.Holds tt w → Kept (go g w)) → (g : Given) (w : World) →
      s.Holds tt w → Kept (after unit p size (levels_of unit p size levels) fs go g w)
  after_kept [] go k g w h = k g w h
  after_kept (f ∷ fs) go k g w h =
      after_kept fs (λ g w. resume unit p size (levels_of unit p size levels) f g w >>= go)
      (λ g w h. bind s tt Any _ _ go (resume_kept f g w h) (λ g w _ h. k g w h)) g w h

-- from a world with at most as many turns as there are levels
pub makes_grow : (unit : ProgramUnit) (p : Name) (size levels : ℕ) (fs : List Frame) (g : Given) (w : World) → w.turns ≤ levels →
    Gives (λ a v. GoesFrom w v.system v.turns) (λ e system turns. GoesFrom w system turns) (makes_within unit p size levels fs g w)
makes_grow unit p size levels fs g w enough =
    drop_bound (makes_within unit p size levels fs g w)
    (after_kept unit p size levels w fs gives (λ g v h. give (s unit p size levels w) _ g v (tt, h)) g w (enough, goes_same w)).is
  where
    drop_bound : (r : Evaluation Given) → Gives (At (s unit p size levels w) tt Any) (λ e system turns. GoesFrom w system turns) r →
        Gives (λ a v. GoesFrom w v.system v.turns) (λ e system turns. GoesFrom w system turns) r
    drop_bound (gives a v) k = k.1.1
    drop_bound (ends e system turns) k = k
