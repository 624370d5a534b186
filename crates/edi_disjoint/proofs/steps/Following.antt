-- Two evaluations of one text by one process, in two worlds, the second with so many turns more. The second does what the first does: where the first
-- gives something, the second gives the same, and what relates the worlds is kept; where the first ends the program, the second ends it so, unless
-- the first has no turn left. It is one walk over the tree, for any relation that each change keeps.
use Rattle.std.proofs.Common.{◌≡◌, ℕ, zero, suc, ◌+◌, ◌≤◌, Bool, true, false, if◌then◌else◌, List, [], ◌∷◌, Option, Some, None, refl, ap, subst, ◌∙◌, arith}
use Rattle.std.specs.Prelude.{pos, nat_lt}
use Rattle.edi_calls.specs.declared.kinds.Cause.TheVariants as cause
use Rattle.edi_calls.specs.Calls.{CallResult, answered, no_file, file_limit, call}
use Rattle.edi_calls.specs.Names.{Name}
use Rattle.edi_calls.specs.Outcome as outcome
use Rattle.edi_calls.specs.Outcome.{Ending}
use Rattle.edi_calls.specs.State.{State, Traced, after_call}
use Rattle.edi_unit.specs.declared.expressions.Callee.{Callee}
use Rattle.edi_unit.specs.Types.{Shape, shape_at, is_set_shape, array_of, int, char, bool, enumeration, record_of, set_of}
use Rattle.edi_unit.specs.Values.{Value, ordinal, is_true, decides, apply, sign, converted, with_ordinal, ordinal_of, element_at}
use Rattle.edi_unit.specs.Need.{block_at}
use Rattle.edi_unit.specs.Tree as tree
use Rattle.edi_unit.specs.Tree.{Expression, Expressions, Link, Links, Place, Part, Parts, Argument, Arguments, Act, Acts, Clause, Clauses, ProgramUnit}
use Rattle.edi_meaning.specs.Store.{Spot, Location, Closure, system_procedure, block_procedure, Cell, value, location, procedure, shape, room, get, put}
use Rattle.edi_meaning.specs.Store.{grown, shrunk}
use Rattle.edi_meaning.specs.Evaluation.{World, Evaluation, gives, ends, ◌>>=◌, stops, fails, turn_from, turn}
use Rattle.edi_meaning.specs.Whole.{in_range, Designated, part_of, element_of, words_of_cells, answer_in, answered_by, system_call, meant, instance_of}
use Rattle.edi_meaning.specs.Whole.{entered, left, result_of, named, function_body, function_call, expression, expressions, members_of, linked, operated}
use Rattle.edi_meaning.specs.Whole.{designated, parts, part, argument, arguments, procedure_body, procedure_call, assigned, act, acts, first, guarded}
use Rattle.edi_meaning.specs.Whole.{levels_of, whole_arguments, whole_assignment, whole_condition, whole_first}
use Rattle.edi_meaning.proofs.Lasting.{Any}
use Rattle.edi_disjoint.specs.Open.{open_act, open_acts, open_clause, open_clauses}
use Rattle.edi_disjoint.specs.Leaves.{Way, reads, assigns, lends, Leaves, ExpressionMay, ExpressionsMay, LinksMay, LinkMay, PlaceMay, PartsMay, PartMay}
use Rattle.edi_disjoint.specs.Leaves.{ArgumentMay, ArgumentsMay, ActMay, ActsMay, ClauseMay, ClausesMay, Each}

-- ---- two evaluations

-- the second ends the program as the first does, which does not end it for want of turns, with the system that the second has there
abbrev pub EndsAlike : {A : Type 0} → (other : Traced → Traced) → (more : ℕ) → Ending → Traced → (turns : ℕ) → Evaluation A → Type 0
EndsAlike other more e system turns r = (e ≡ outcome.turns → ⊥) → r ≡ ends e (other system) (turns + more)

-- they give the same, with worlds so related; or the first has ended the program
abbrev pub Follows : {A : Type 0} → (other : Traced → Traced) → (more : ℕ) → (A → World → World → Type 0) → Evaluation A → Evaluation A → Type 0
Follows other more P (gives a w) (gives b u) = (a ≡ b) × P a w u
Follows other more P (gives a w) (ends e system turns) = ⊥
Follows other more P (ends e system turns) r = EndsAlike other more e system turns r

-- A relation of the worlds of two evaluations of p, which may speak of a level that a call changes and its end restores; what
-- may stand in the text at that level; what then holds of the locations, procedures and cells that are met; and that each
-- change keeps it. The systems may differ, if the text calls none. A `when` in an evaluation fails, so nothing is asked of what stands in it.
pub record Following (unit : ProgramUnit) (p : Name) (size : ℕ) : Type 1 where
  pub more : ℕ
  -- the system of the second world
  pub other : Traced → Traced
  pub Level : Type 0
  pub Holds : Level → World → World → Type 0
  pub text : Level → Leaves
  pub Comes : Level → Way → Location → Type 0
  pub Enters : Level → Arguments → Closure → Type 0
  pub Fits : Level → Argument → Cell → Type 0
  pub other_system : (x : Level) (w u : World) → Holds x w u → u.system ≡ other w.system
  pub same_turns : (x : Level) (w u : World) → Holds x w u → u.turns ≡ w.turns + more
  pub turned : (x : Level) (m n : ℕ) (w u : World) → w.turns ≡ suc m → u.turns ≡ suc n → Holds x w u → Holds x (record w { turns = m }) (record u { turns = n })
  pub stored : (x : Level) (l : Location) (v : Value) (w u : World) → Comes x assigns l → Holds x w u →
      Holds x (record w { store = put w.store l v }) (record u { store = put u.store l v })
  pub asked : (x : Level) (es : Arguments) (number : ℕ) (w u : World) → Enters x es (system_procedure number) → Holds x w u →
      (w.system.now ≡ u.system.now)
      × ((system : State) → Holds x (record w { system = after_call system w.system }) (record u { system = after_call system u.system }))
  pub called : (x : Level) (es : Arguments) (number : ℕ) (parent : Spot) (cells : List Cell) (w u : World) →
      Enters x es (block_procedure number parent) → Each (Fits x) es cells → Holds x w u →
      (y : Level)
      × Holds y (record w { store = grown p (instance_of unit p size number parent cells) w.store })
      (record u { store = grown p (instance_of unit p size number parent cells) u.store })
      × ((v z : World) → Holds y v z → Holds x (record v { store = shrunk p v.store }) (record z { store = shrunk p z.store }))
      × ActsMay (text y) (open_acts (block_at unit.blocks number).body)
  pub space : (x : Level) (w u : World) → Holds x w u → shape w.store p ≡ shape u.store p
  pub result : (x : Level) (w u : World) → Holds x w u → result_of unit p size w ≡ result_of unit p size u
  pub of_slot : (x : Level) (way : Way) (levels variable : ℕ) (w u : World) → (text x).Names way levels variable → Holds x w u →
      (named unit p size levels variable w.store ≡ named unit p size levels variable u.store) × Comes x way (named unit p size levels variable w.store).at
  pub of_part : (x : Level) (way : Way) (l : Location) (n : ℕ) → Comes x way l → Comes x way (part_of l n)
  pub got : (x : Level) (l : Location) (w u : World) → Comes x reads l → Holds x w u → get w.store l ≡ get u.store l
  pub to_call : (x : Level) (c : Callee) (es : Arguments) (w u : World) → (text x).Calls c es → Holds x w u →
      (meant unit p size c w ≡ meant unit p size c u) × Enters x es (meant unit p size c w)
  pub to_pass : (x : Level) (c : Callee) (w u : World) → (text x).Passes c → Holds x w u →
      (meant unit p size c w ≡ meant unit p size c u) × Fits x (tree.by_procedure c) (procedure (meant unit p size c w))
  pub by_value : (x : Level) (e : Expression) (v : Value) → Fits x (tree.by_value e) (value v)
  pub by_location : (x : Level) (v : Place) (l : Location) → Comes x lends l → Fits x (tree.by_variable v) (location l)
  -- a call of the system puts its answer there
  pub to_location : (x : Level) (es : Arguments) (number : ℕ) (a : Argument) (l : Location) → Enters x es (system_procedure number) → Fits x a (location l) →
      Comes x assigns l

module _ {unit : ProgramUnit} {p : Name} {size : ℕ} (s : Following unit p size) where
  pub record Pairs {A : Type 0} (P : A → World → World → Type 0) (r t : Evaluation A) : Type 0 where
    pub is : Follows s.other s.more P r t

  -- V of the value, and the relation of the worlds
  abbrev pub At : {A : Type 0} → s.Level → (A → Type 0) → A → World → World → Type 0
  At x V a w u = V a × s.Holds x w u

  -- ---- the ways to put runs together

  pub give : {A : Type 0} (P : A → World → World → Type 0) (a : A) (w u : World) → P a w u → Pairs P (gives a w) (gives a u)
  give P a w u h = record { is = (refl, h) }

  -- both end the program so
  pub stop : {A : Type 0} (P : A → World → World → Type 0) (x : s.Level) (e : Ending) (w u : World) → s.Holds x w u → Pairs P (stops e w) (stops e u)
  stop P x e w u h = record {
    is = λ some. ap (λ z. ends e z u.turns) (s.other_system x w u h) ∙ ap (λ n. ends e (s.other w.system) n) (s.same_turns x w u h);
  }

  -- the first has no turn left
  pub spent : {A : Type 0} (P : A → World → World → Type 0) (system : Traced) (turns : ℕ) (r : Evaluation A) → Pairs P (ends outcome.turns system turns) r
  spent P system turns r = record { is = λ some. absurd (some refl) }

  pub bind : {A B : Type 0} (x : s.Level) (V : A → Type 0) (P : B → World → World → Type 0) (r t : Evaluation A) (f g : A → World → Evaluation B) →
      Pairs (At x V) r t → ((a : A) (w u : World) → V a → s.Holds x w u → Pairs P (f a w) (g a u)) → Pairs P (r >>= f) (t >>= g)
  bind x V P (gives a w) (gives b u) f g h k = subst (λ z. Pairs P (f a w) (g z u)) h.is.0 (k a w u h.is.1.0 h.is.1.1)
  bind x V P (gives a w) (ends e system turns) f g h k = absurd h.is
  bind x V P (ends e system turns) t f g h k = record { is = λ some. ap (λ z. z >>= g) (h.is some) }

  turn_less : {A : Type 0} (x : s.Level) (P : A → World → World → Type 0) (m n : ℕ) (w u : World) (f g : World → Evaluation A) → w.turns ≡ m → u.turns ≡ n →
      s.Holds x w u → ((v z : World) → s.Holds x v z → Pairs P (f v) (g z)) → Pairs P (turn_from m w f) (turn_from n u g)
  turn_less x P zero n w u f g d e h k = spent P w.system w.turns (turn_from n u g)
  turn_less x P (suc m) zero w u f g d e h k = absurd (omega (arith, d, e, s.same_turns x w u h))
  turn_less x P (suc m) (suc n) w u f g d e h k = k (record w { turns = m }) (record u { turns = n }) (s.turned x m n w u d e h)

  pub turn_pairs : {A : Type 0} (x : s.Level) (P : A → World → World → Type 0) (w u : World) (f g : World → Evaluation A) →
      s.Holds x w u → ((v z : World) → s.Holds x v z → Pairs P (f v) (g z)) → Pairs P (turn w f) (turn u g)
  turn_pairs x P w u f g h k = turn_less x P w.turns u.turns w u f g refl refl h k

  pub if_pairs : {A : Type 0} (P : A → World → World → Type 0) (b : Bool) (r t r' t' : Evaluation A) → Pairs P r r' → Pairs P t t' →
      Pairs P (if b then r else t) (if b then r' else t')
  if_pairs P true r t r' t' h k = h
  if_pairs P false r t r' t' h k = k

  -- ---- what needs no tree

  pub range_pairs : {A : Type 0} (x : s.Level) (line : ℕ) (o : Option A) (w u : World) → s.Holds x w u → Pairs (At x Any) (in_range line o w) (in_range line o u)
  range_pairs x line None w u h = stop _ x (outcome.failed cause.Range line) w u h
  range_pairs x line (Some a) w u h = give _ a w u (tt, h)

  abbrev Located : s.Level → Way → Designated → Type 0
  Located x way d = s.Comes x way d.at

  element_pairs : (x : s.Level) (way : Way) (shape : Shape) (line : ℕ) (l : Location) (v : Value) (w u : World) → s.Comes x way l → s.Holds x w u →
      Pairs (At x (Located x way)) (element_of shape line l v w) (element_of shape line l v u)
  element_pairs x way (array_of i lo hi e) line l v w u c h = bind x Any _ _ _ _ _ (range_pairs x line (element_at lo hi v) w u h)
      (λ n w u _ h. give _ _ w u (s.of_part x way l n c, h))
  element_pairs x way int line l v w u c h = give _ _ w u (c, h)
  element_pairs x way char line l v w u c h = give _ _ w u (c, h)
  element_pairs x way bool line l v w u c h = give _ _ w u (c, h)
  element_pairs x way (enumeration n) line l v w u c h = give _ _ w u (c, h)
  element_pairs x way (record_of fs) line l v w u c h = give _ _ w u (c, h)
  element_pairs x way (set_of b) line l v w u c h = give _ _ w u (c, h)

  answer_pairs : (x : s.Level) (all : Arguments) (number : ℕ) (es : Arguments) (cells : List Cell) (words : List ℕ) (w u : World) →
      s.Enters x all (system_procedure number) → Each (s.Fits x) es cells → s.Holds x w u →
      s.Holds x (record w { store = answer_in cells words w.store }) (record u { store = answer_in cells words u.store })
  answer_pairs x all number tree.no_argument [] words w u c f h = h
  answer_pairs x all number tree.no_argument (d ∷ cells) words w u c f h = absurd f
  answer_pairs x all number (tree.argument_then a es) [] words w u c f h = absurd f
  answer_pairs x all number (tree.argument_then a es) (location l ∷ cells) [] w u c f h = answer_pairs x all number es cells [] w u c f.1 h
  answer_pairs x all number (tree.argument_then a es) (location l ∷ cells) (word ∷ words) w u c f h =
      s.stored x l (ordinal (pos word)) w u (s.to_location x all number a l c f.0) h
  answer_pairs x all number (tree.argument_then a es) (value v ∷ cells) words w u c f h = answer_pairs x all number es cells words w u c f.1 h
  answer_pairs x all number (tree.argument_then a es) (procedure d ∷ cells) words w u c f h = answer_pairs x all number es cells words w u c f.1 h

  answered_pairs : (x : s.Level) (es : Arguments) (number : ℕ) (result : CallResult) (cells : List Cell) (line : ℕ) (w u : World) →
      s.Enters x es (system_procedure number) → Each (s.Fits x) es cells → s.Holds x w u →
      ((system : State) → s.Holds x (record w { system = after_call system w.system }) (record u { system = after_call system u.system })) →
      Pairs (At x Any) (answered_by result cells line w) (answered_by result cells line u)
  answered_pairs x es number (answered words system) cells line w u c f h k =
      give _ tt _ _ (
        tt,
        answer_pairs x es number es cells words (record w { system = after_call system w.system }) (record u { system = after_call system u.system }) c f (k system),
      )
  answered_pairs x es number no_file cells line w u c f h k = stop _ x (outcome.failed cause.NoFile line) w u h
  answered_pairs x es number file_limit cells line w u c f h k = stop _ x (outcome.failed cause.FileLimit line) w u h

  pub system_pairs : (x : s.Level) (es : Arguments) (number : ℕ) (cells : List Cell) (line : ℕ) (w u : World) → s.Enters x es (system_procedure number) →
      Each (s.Fits x) es cells → s.Holds x w u → Pairs (At x Any) (system_call number cells line w) (system_call number cells line u)
  system_pairs x es number cells line w u c f h =
      subst (λ z. Pairs (At x Any) (answered_by (call number (words_of_cells cells) w.system.now) cells line w) (answered_by (call number (words_of_cells cells) z) cells line u))
      (s.asked x es number w u c h).0 (answered_pairs x es number (call number (words_of_cells cells) w.system.now) cells line w u c f h (s.asked x es number w u c h).1)

  -- a block is entered
  entered_pairs : {A : Type 0} (x : s.Level) (P : A → World → World → Type 0) (es : Arguments) (number : ℕ) (parent : Spot) (cells : List Cell) (line : ℕ) (w u : World)
      (f g : World → Evaluation A) → s.Enters x es (block_procedure number parent) → Each (s.Fits x) es cells → s.Holds x w u →
      ((y : s.Level) → ((v z : World) → s.Holds y v z → s.Holds x (record v { store = shrunk p v.store }) (record z { store = shrunk p z.store })) →
      ActsMay (s.text y) (open_acts (block_at unit.blocks number).body) → (v z : World) → s.Holds y v z → Pairs P (f v) (g z)) →
      Pairs P (entered unit p size number parent cells line w f) (entered unit p size number parent cells line u g)
  entered_pairs x P es number parent cells line w u f g c k h go =
      subst (λ fs. Pairs P (entered unit p size number parent cells line w f)
      (if nat_lt (room size fs) (block_at unit.blocks number).need then fails cause.VariableLimit line u
      else turn u (λ u. g (record u { store = grown p (instance_of unit p size number parent cells) u.store }))))
      (s.space x w u h)
      (if_pairs P (nat_lt (room size (shape w.store p)) (block_at unit.blocks number).need) _ _ _ _
      (stop P x (outcome.failed cause.VariableLimit line) w u h)
      (turn_pairs x P w u _ _ h (λ v z h. inside v z h (s.called x es number parent cells v z c k h))))
    where
      inside : (v z : World) → s.Holds x v z →
          (y : s.Level)
          × s.Holds y (record v { store = grown p (instance_of unit p size number parent cells) v.store })
          (record z { store = grown p (instance_of unit p size number parent cells) z.store })
          × ((v z : World) → s.Holds y v z → s.Holds x (record v { store = shrunk p v.store }) (record z { store = shrunk p z.store }))
          × ActsMay (s.text y) (open_acts (block_at unit.blocks number).body) →
          Pairs P (f (record v { store = grown p (instance_of unit p size number parent cells) v.store }))
          (g (record z { store = grown p (instance_of unit p size number parent cells) z.store }))
      inside v z h a = go a.0 a.2 a.3 _ _ a.1

  left_pairs : {A : Type 0} (x y : s.Level) (P : A → World → World → Type 0) (w u : World) (f g : World → Evaluation A) →
      ((v z : World) → s.Holds y v z → s.Holds x (record v { store = shrunk p v.store }) (record z { store = shrunk p z.store })) → s.Holds y w u →
      ((v z : World) → s.Holds x v z → Pairs P (f v) (g z)) → Pairs P (left unit p size w f) (left unit p size u g)
  left_pairs x y P w u f g back h k = turn_pairs y P w u _ _ h (λ v z h. k _ _ (back v z h))

  -- ---- what follows the tree

  module _ (deeper deeper' : Acts → World → Evaluation (Unit {0}))
      (deep : (x : s.Level) (as' : Acts) (w u : World) → ActsMay (s.text x) (open_acts as') → s.Holds x w u → Pairs (At x Any) (deeper as' w) (deeper' as' u)) where
    function_pairs : (x : s.Level) (es : Arguments) (c : Closure) (cells : List Cell) (line : ℕ) (w u : World) → s.Enters x es c → Each (s.Fits x) es cells →
        s.Holds x w u → Pairs (At x Any) (function_call unit p size deeper c cells line w) (function_call unit p size deeper' c cells line u)
    function_pairs x es (block_procedure number parent) cells line w u c f h =
        entered_pairs x _ es number parent cells line w u (function_body unit p size deeper number) (function_body unit p size deeper' number) c f h
        (λ y back may v z h. bind y Any _ _ _ _ _ (deep y (block_at unit.blocks number).body v z may h)
        (λ _ v z _ h. subst (λ o. Pairs (At x Any) (left unit p size v (gives (result_of unit p size v))) (left unit p size z (gives o))) (s.result y v z h)
        (left_pairs x y _ v z (gives (result_of unit p size v)) (gives (result_of unit p size v)) back h (λ v z h. give _ _ v z (tt, h)))))
    function_pairs x es (system_procedure number) cells line w u c f h = give _ _ w u (tt, h)

    mutual
      expression_pairs : (x : s.Level) (e : Expression) (w u : World) → ExpressionMay (s.text x) e → s.Holds x w u →
          Pairs (At x Any) (expression unit p size deeper e w) (expression unit p size deeper' e u)
      expression_pairs x (tree.constant of n) w u m h = give _ _ w u (tt, h)
      expression_pairs x (tree.load v) w u m h = bind x (Located x reads) _ _ _ _ _ (designated_pairs x reads v w u m h)
          (λ d w u c h. subst (λ o. Pairs (At x Any) (gives (get w.store d.at) w) (gives o u)) (s.got x d.at w u c h) (give _ _ w u (tt, h)))
      expression_pairs x (tree.not_of e) w u m h = bind x Any _ _ _ _ _ (expression_pairs x e w u m h) (λ v w u _ h. give _ _ w u (tt, h))
      expression_pairs x (tree.sign_of e line) w u m h = bind x Any _ _ _ _ _ (expression_pairs x e w u m h) (λ v w u _ h. range_pairs x line (sign v) w u h)
      expression_pairs x (tree.chain e ls) w u m h = bind x Any _ _ _ _ _ (expression_pairs x e w u m.0 h) (λ v w u _ h. linked_pairs x v ls w u m.1 h)
      expression_pairs x (tree.make of es line) w u m h =
          if_pairs _ (is_set_shape (shape_at unit.types of)) _ _ _ _
          (bind x Any _ _ _ _ _ (members_pairs x [] es line w u m h) (λ set w u _ h. give _ _ w u (tt, h)))
          (bind x Any _ _ _ _ _ (expressions_pairs x es w u m h) (λ vs w u _ h. give _ _ w u (tt, h)))
      expression_pairs x (tree.convert of e line) w u m h =
          bind x Any _ _ _ _ _ (expression_pairs x e w u m h) (λ v w u _ h. range_pairs x line (converted (shape_at unit.types of) v) w u h)
      expression_pairs x (tree.apply_of c es line) w u m h =
          bind x (Each (s.Fits x) es) _ _ _ _ _ (arguments_pairs x es w u m.1 h)
          (λ cells w u f h. subst (λ d. Pairs (At x Any) (function_call unit p size deeper (meant unit p size c w) cells line w) (function_call unit p size deeper' d cells line u))
          (s.to_call x c es w u m.0 h).0
          (function_pairs x es (meant unit p size c w) cells line w u (s.to_call x c es w u m.0 h).1 f h))

      expressions_pairs : (x : s.Level) (es : Expressions) (w u : World) → ExpressionsMay (s.text x) es → s.Holds x w u →
          Pairs (At x Any) (expressions unit p size deeper es w) (expressions unit p size deeper' es u)
      expressions_pairs x tree.no_expression w u m h = give _ _ w u (tt, h)
      expressions_pairs x (tree.expression_then e es) w u m h =
          bind x Any _ _ _ _ _ (expression_pairs x e w u m.0 h) (λ v w u _ h. bind x Any _ _ _ _ _ (expressions_pairs x es w u m.1 h) (λ vs w u _ h. give _ _ w u (tt, h)))

      members_pairs : (x : s.Level) (set : List ℕ) (es : Expressions) (line : ℕ) (w u : World) → ExpressionsMay (s.text x) es → s.Holds x w u →
          Pairs (At x Any) (members_of unit p size deeper set es line w) (members_of unit p size deeper' set es line u)
      members_pairs x set tree.no_expression line w u m h = give _ _ w u (tt, h)
      members_pairs x set (tree.expression_then e es) line w u m h =
          bind x Any _ _ _ _ _ (expression_pairs x e w u m.0 h)
          (λ v w u _ h. bind x Any _ _ _ _ _ (range_pairs x line (with_ordinal set (ordinal_of v)) w u h) (λ set w u _ h. members_pairs x set es line w u m.1 h))

      linked_pairs : (x : s.Level) (v : Value) (ls : Links) (w u : World) → LinksMay (s.text x) ls → s.Holds x w u →
          Pairs (At x Any) (linked unit p size deeper v ls w) (linked unit p size deeper' v ls u)
      linked_pairs x v tree.no_link w u m h = give _ _ w u (tt, h)
      linked_pairs x v (tree.link_then l ls) w u m h = bind x Any _ _ _ _ _ (operated_pairs x v l w u m.0 h) (λ v w u _ h. linked_pairs x v ls w u m.1 h)

      operated_pairs : (x : s.Level) (v : Value) (l : Link) (w u : World) → LinkMay (s.text x) l → s.Holds x w u →
          Pairs (At x Any) (operated unit p size deeper v l w) (operated unit p size deeper' v l u)
      operated_pairs x v (tree.link o e line) w u m h =
          if_pairs _ (decides o v) _ _ _ _ (give _ _ w u (tt, h))
          (bind x Any _ _ _ _ _ (expression_pairs x e w u m h) (λ y w u _ h. range_pairs x line (apply o v y) w u h))

      designated_pairs : (x : s.Level) (way : Way) (v : Place) (w u : World) → PlaceMay (s.text x) way v → s.Holds x w u →
          Pairs (At x (Located x way)) (designated unit p size deeper v w) (designated unit p size deeper' v u)
      designated_pairs x way (tree.place levels variable ps) w u m h =
          subst (λ d. Pairs (At x (Located x way)) (parts unit p size deeper (named unit p size levels variable w.store) ps w) (parts unit p size deeper' d ps u))
          (s.of_slot x way levels variable w u m.0 h).0
          (parts_pairs x way (named unit p size levels variable w.store) ps w u m.1 (s.of_slot x way levels variable w u m.0 h).1 h)

      parts_pairs : (x : s.Level) (way : Way) (d : Designated) (ps : Parts) (w u : World) → PartsMay (s.text x) ps → Located x way d → s.Holds x w u →
          Pairs (At x (Located x way)) (parts unit p size deeper d ps w) (parts unit p size deeper' d ps u)
      parts_pairs x way d tree.no_part w u m c h = give _ d w u (c, h)
      parts_pairs x way d (tree.part_then q qs) w u m c h =
          bind x (Located x way) _ _ _ _ _ (part_pairs x way d q w u m.0 c h) (λ d w u c h. parts_pairs x way d qs w u m.1 c h)

      part_pairs : (x : s.Level) (way : Way) (d : Designated) (q : Part) (w u : World) → PartMay (s.text x) q → Located x way d → s.Holds x w u →
          Pairs (At x (Located x way)) (part unit p size deeper d q w) (part unit p size deeper' d q u)
      part_pairs x way d (tree.field n) w u m c h = give _ _ w u (s.of_part x way d.at n c, h)
      part_pairs x way d (tree.index e line) w u m c h = bind x Any _ _ _ _ _ (expression_pairs x e w u m h)
          (λ v w u _ h. element_pairs x way (shape_at unit.types d.of) line d.at v w u c h)

      argument_pairs : (x : s.Level) (a : Argument) (w u : World) → ArgumentMay (s.text x) a → s.Holds x w u →
          Pairs (At x (s.Fits x a)) (argument unit p size deeper a w) (argument unit p size deeper' a u)
      argument_pairs x (tree.by_value e) w u m h =
          bind x Any _ _ _ _ _ (expression_pairs x e w u m h) (λ v w u _ h. give _ _ w u (s.by_value x e v, h))
      argument_pairs x (tree.by_variable v) w u m h =
          bind x (Located x lends) _ _ _ _ _ (designated_pairs x lends v w u m h) (λ d w u c h. give _ _ w u (s.by_location x v d.at c, h))
      argument_pairs x (tree.by_procedure c) w u m h =
          subst (λ d. Pairs (At x (s.Fits x (tree.by_procedure c))) (gives (procedure (meant unit p size c w)) w) (gives (procedure d) u))
          (s.to_pass x c w u m h).0 (give _ _ w u ((s.to_pass x c w u m h).1, h))

      arguments_pairs : (x : s.Level) (es : Arguments) (w u : World) → ArgumentsMay (s.text x) es → s.Holds x w u →
          Pairs (At x (Each (s.Fits x) es)) (arguments unit p size deeper es w) (arguments unit p size deeper' es u)
      arguments_pairs x tree.no_argument w u m h = give _ [] w u (tt, h)
      arguments_pairs x (tree.argument_then a as') w u m h =
          bind x (s.Fits x a) _ _ _ _ _ (argument_pairs x a w u m.0 h)
          (λ c w u f h. bind x (Each (s.Fits x) as') _ _ _ _ _ (arguments_pairs x as' w u m.1 h)
          (λ cs w u fs h. give _ (c ∷ cs) w u ((f, fs), h)))

    procedure_pairs : (x : s.Level) (es : Arguments) (c : Closure) (cells : List Cell) (line : ℕ) (w u : World) → s.Enters x es c → Each (s.Fits x) es cells →
        s.Holds x w u → Pairs (At x Any) (procedure_call unit p size deeper c cells line w) (procedure_call unit p size deeper' c cells line u)
    procedure_pairs x es (block_procedure number parent) cells line w u c f h =
        entered_pairs x _ es number parent cells line w u (procedure_body unit p size deeper number) (procedure_body unit p size deeper' number) c f h
        (λ y back may v z h. bind y Any _ _ _ _ _ (deep y (block_at unit.blocks number).body v z may h)
        (λ _ v z _ h. left_pairs x y _ v z (gives tt) (gives tt) back h (λ v z h. give _ _ v z (tt, h))))
    procedure_pairs x es (system_procedure number) cells line w u c f h = system_pairs x es number cells line w u c f h

    assigned_pairs : (x : s.Level) (v : Place) (e : Expression) (w u : World) → PlaceMay (s.text x) assigns v → ExpressionMay (s.text x) e → s.Holds x w u →
        Pairs (At x Any) (assigned unit p size deeper v e w) (assigned unit p size deeper' v e u)
    assigned_pairs x v e w u m n h =
        bind x (Located x assigns) _ _ _ _ _ (designated_pairs x assigns v w u m h)
        (λ d w u c h. bind x Any _ _ _ _ _ (expression_pairs x e w u n h) (λ v w u _ h. give _ _ _ _ (tt, s.stored x d.at v w u c h)))

    again_pairs : (x : s.Level) (cs : Clauses) (ran : Bool) (w u : World) → ClausesMay (s.text x) (open_clauses cs) → s.Holds x w u →
        Pairs (At x Any) (if ran then turn w (deeper (tree.act_then (tree.while_act cs) tree.no_act)) else gives (tt {0}) w)
        (if ran then turn u (deeper' (tree.act_then (tree.while_act cs) tree.no_act)) else gives (tt {0}) u)
    again_pairs x cs true w u m h = turn_pairs x _ w u _ _ h (λ v z h. deep x (tree.act_then (tree.while_act cs) tree.no_act) v z (m, tt) h)
    again_pairs x cs false w u m h = give _ _ w u (tt, h)

    mutual
      act_pairs : (x : s.Level) (a : Act) (w u : World) → ActMay (s.text x) (open_act a) → s.Holds x w u → Pairs (At x Any) (act unit p size deeper a w) (act unit p size deeper' a u)
      act_pairs x tree.skip w u m h = give _ _ w u (tt, h)
      act_pairs x (tree.assign v e) w u m h = assigned_pairs x v e w u m.0 m.1 h
      act_pairs x (tree.call c es line) w u m h =
          bind x (Each (s.Fits x) es) _ _ _ _ _ (arguments_pairs x es w u m.1 h)
          (λ cells w u f h. subst (λ d. Pairs (At x Any) (procedure_call unit p size deeper (meant unit p size c w) cells line w) (procedure_call unit p size deeper' d cells line u))
          (s.to_call x c es w u m.0 h).0
          (procedure_pairs x es (meant unit p size c w) cells line w u (s.to_call x c es w u m.0 h).1 f h))
      act_pairs x (tree.halt line) w u m h = stop _ x (outcome.halted line) w u h
      act_pairs x (tree.if_act cs) w u m h = bind x Any _ _ _ _ _ (first_pairs x cs w u m h) (λ _ w u _ h. give _ _ w u (tt, h))
      act_pairs x (tree.while_act cs) w u m h = bind x Any _ _ _ _ _ (first_pairs x cs w u m h) (λ ran w u _ h. again_pairs x cs ran w u m h)
      act_pairs x (tree.when_act cs line) w u m h = stop _ x (outcome.failed cause.Held line) w u h
      act_pairs x (tree.cobegin bs line) w u m h = stop _ x (outcome.failed cause.Held line) w u h

      acts_pairs : (x : s.Level) (as' : Acts) (w u : World) → ActsMay (s.text x) (open_acts as') → s.Holds x w u →
          Pairs (At x Any) (acts unit p size deeper as' w) (acts unit p size deeper' as' u)
      acts_pairs x tree.no_act w u m h = give _ _ w u (tt, h)
      acts_pairs x (tree.act_then a as') w u m h = bind x Any _ _ _ _ _ (act_pairs x a w u m.0 h) (λ _ w u _ h. acts_pairs x as' w u m.1 h)

      first_pairs : (x : s.Level) (cs : Clauses) (w u : World) → ClausesMay (s.text x) (open_clauses cs) → s.Holds x w u →
          Pairs (At x Any) (first unit p size deeper cs w) (first unit p size deeper' cs u)
      first_pairs x tree.no_clause w u m h = give _ _ w u (tt, h)
      first_pairs x (tree.clause_then c cs) w u m h =
          bind x Any _ _ _ _ _ (guarded_pairs x c w u m.0 h) (λ ran w u _ h. if_pairs _ ran _ _ _ _ (give _ _ w u (tt, h)) (first_pairs x cs w u m.1 h))

      guarded_pairs : (x : s.Level) (c : Clause) (w u : World) → ClauseMay (s.text x) (open_clause c) → s.Holds x w u →
          Pairs (At x Any) (guarded unit p size deeper c w) (guarded unit p size deeper' c u)
      guarded_pairs x (tree.clause e as') w u m h =
          bind x Any _ _ _ _ _ (expression_pairs x e w u m.0 h)
          (λ v w u _ h. if_pairs _ (is_true v) _ _ _ _ (bind x Any _ _ _ _ _ (acts_pairs x as' w u m.1 h) (λ _ w u _ h. give _ _ w u (tt, h))) (give _ _ w u (tt, h)))

  -- ---- levels: no fewer of them in the second

  levels_pair : (m n : ℕ) → m ≤ n → (x : s.Level) (as' : Acts) (w u : World) → ActsMay (s.text x) (open_acts as') → s.Holds x w u →
      Pairs (At x Any) (levels_of unit p size m as' w) (levels_of unit p size n as' u)
  levels_pair zero n le x as' w u may h = spent _ w.system w.turns _
  levels_pair (suc m) zero le x as' w u may h = absurd (omega (arith, le))
  levels_pair (suc m) (suc n) le x as' w u may h =
      acts_pairs (levels_of unit p size m) (levels_of unit p size n) (λ x as' w u may h. levels_pair m n (omega (arith, le)) x as' w u may h) x as' w u may h

  deepest : (y : s.Level) (w u : World) → s.Holds y w u → (x : s.Level) (as' : Acts) (v z : World) → ActsMay (s.text x) (open_acts as') → s.Holds x v z →
      Pairs (At x Any) (levels_of unit p size w.turns as' v) (levels_of unit p size u.turns as' z)
  deepest y w u k x as' v z may h = levels_pair w.turns u.turns (omega (arith, s.same_turns y w u k)) x as' v z may h

  -- ---- evaluations to the end

  pub whole_arguments_pair : (x : s.Level) (es : Arguments) (w u : World) → ArgumentsMay (s.text x) es → s.Holds x w u →
      Pairs (At x (Each (s.Fits x) es)) (whole_arguments unit p size es w) (whole_arguments unit p size es u)
  whole_arguments_pair x es w u may h = arguments_pairs (levels_of unit p size w.turns) (levels_of unit p size u.turns) (deepest x w u h) x es w u may h

  pub whole_assignment_pairs : (x : s.Level) (v : Place) (e : Expression) (w u : World) → PlaceMay (s.text x) assigns v → ExpressionMay (s.text x) e →
      s.Holds x w u → Pairs (At x Any) (whole_assignment unit p size v e w) (whole_assignment unit p size v e u)
  whole_assignment_pairs x v e w u m n h = assigned_pairs (levels_of unit p size w.turns) (levels_of unit p size u.turns) (deepest x w u h) x v e w u m n h

  pub whole_condition_pairs : (x : s.Level) (e : Expression) (w u : World) → ExpressionMay (s.text x) e → s.Holds x w u →
      Pairs (At x Any) (whole_condition unit p size e w) (whole_condition unit p size e u)
  whole_condition_pairs x e w u may h =
      bind x Any _ _ _ _ _ (expression_pairs (levels_of unit p size w.turns) (levels_of unit p size u.turns) (deepest x w u h) x e w u may h)
      (λ v w u _ h. give _ _ w u (tt, h))

  pub whole_first_pairs : (x : s.Level) (cs : Clauses) (w u : World) → ClausesMay (s.text x) (open_clauses cs) → s.Holds x w u →
      Pairs (At x Any) (whole_first unit p size cs w) (whole_first unit p size cs u)
  whole_first_pairs x cs w u may h = first_pairs (levels_of unit p size w.turns) (levels_of unit p size u.turns) (deepest x w u h) x cs w u may h
