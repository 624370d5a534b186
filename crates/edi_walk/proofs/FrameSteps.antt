-- One frame taken from the list: what it makes, and what then is left, is what frames for its parts make.
use Rattle.std.proofs.Common.{◌≡◌, ℕ, zero, suc, ◌<◌, ◌≤◌, Bool, true, false, List, [], ◌∷◌, ◌++◌, Some, None, refl, sym, ap, ◌∙◌, arith}
use Rattle.std.specs.Prelude.{if◌then◌else◌, pos}
use Rattle.std.proofs.lemmas.List.{append_assoc, append-nil}
use Rattle.edi_calls.specs.declared.kinds.Cause.TheVariants as cause
use Rattle.edi_calls.specs.Names.{Name}
use Rattle.edi_unit.specs.declared.expressions.Callee.{Callee}
use Rattle.edi_unit.specs.declared.expressions.Operator.{Operator}
use Rattle.edi_unit.specs.Types.{shape_at, is_set_shape}
use Rattle.edi_unit.specs.Values.{Value, ordinal, compound, members, values, ordinal_of, apply, decides}
use Rattle.edi_unit.specs.Tree as tree
use Rattle.edi_unit.specs.Tree.{Expression, Expressions, Links, Place, Parts, Arguments, Acts, ProgramUnit}
use Rattle.edi_meaning.specs.Store.{Cell, value, location, procedure}
use Rattle.edi_meaning.specs.Evaluation.{World, Evaluation, gives, ends, ◌>>=◌, turn, fails}
use Rattle.edi_meaning.specs.Whole.{in_range, Designated, meant, left, named, function_call}
use Rattle.edi_meaning.specs.Whole.{expression, expressions, members_of, linked, designated, parts, arguments, acts, first, levels_of, below}
use Rattle.edi_meaning.proofs.Levels.{levels_are_enough}
use Rattle.edi_walk.specs.Frames.{Given, nothing, a_value, a_place, some_cells, values_given}
use Rattle.edi_walk.specs.Frames.{cell_given, member_given, Frame, evaluates, places, refines, gathers, joins_members, collects, negates}
use Rattle.edi_walk.specs.Frames.{signs, converts, links_on, operates, indexes, loads, calls_function}
use Rattle.edi_walk.specs.Frames.{resume, after}

pub associates : {A B C : Type 0} (m : Evaluation A) (f : A → World → Evaluation B) (g : B → World → Evaluation C) →
    ((m >>= f) >>= g) ≡ (m >>= (λ a w. f a w >>= g))
associates (gives a w) f g = refl
associates (ends e system turns) f g = refl

-- nothing is given
abbrev pub done : World → Evaluation (Unit {0})
done w = gives tt w

-- ---- levels: the body of a call, a turn after the call began

same_unit : (m n : Evaluation (Unit {0})) (f : World → Evaluation Bool) →
    ((m >>= λ _ w. gives true w) >>= λ ran w. if ran then gives true w else f w)
    ≡ ((n >>= λ _ w. gives true w) >>= λ ran w. if ran then gives true w else f w) → m ≡ n
same_unit (gives a w) (gives b v) f e = ap (gives a) (same_world e) where
  same_world : gives true w ≡ gives true v → w ≡ v
  same_world e = cc
same_unit (gives a w) (ends i system turns) f e = absurd (cc)
same_unit (ends i system turns) (gives b v) f e = absurd (cc)
same_unit (ends i system turns) (ends j other turns') f e = cc

module _ (unit : ProgramUnit) (p : Name) (size : ℕ) where
  acts_below : (levels : ℕ) (s : Acts) (w : World) → w.turns ≤ levels →
      acts unit p size (levels_of unit p size levels) s w ≡ acts unit p size (below unit p size w) s w
  acts_below levels s w enough =
      same_unit _ _ (λ w. gives false w)
      ((levels_are_enough unit p size levels w enough).of_first (tree.clause_then (tree.clause (tree.constant 2 (pos 1)) s) tree.no_clause))

  -- one level less is enough after a turn
  pub one_deeper : (levels : ℕ) (s : Acts) (w : World) → w.turns < levels →
      levels_of unit p size levels s w ≡ acts unit p size (levels_of unit p size levels) s w
  one_deeper zero s w less = absurd (omega (arith, less))
  one_deeper (suc n) s w less = acts_below n s w (omega (arith, less)) ∙ sym (acts_below (suc n) s w (omega (arith, less)))

-- ---- the list

module _ (unit : ProgramUnit) (p : Name) (size : ℕ) (deeper : Acts → World → Evaluation (Unit {0})) where
  -- the last frame is resumed first
  pub after_more : (fs : List Frame) (f : Frame) (go : Given → World → Evaluation Given) (g : Given) (w : World) →
      after unit p size deeper (fs ++ f ∷ []) go g w ≡ (resume unit p size deeper f g w >>= after unit p size deeper fs go)
  after_more [] f go g w = refl
  after_more (h ∷ fs) f go g w = after_more fs f (λ g w. resume unit p size deeper h g w >>= go) g w

-- one frame, and then this
module _ (unit : ProgramUnit) (p : Name) (size : ℕ) (deeper : Acts → World → Evaluation (Unit {0})) (K : Given → World → Evaluation Given) where
  abbrev pub then_go : Frame → (Given → World → Evaluation Given) → Given → World → Evaluation Given
  then_go f go g w = resume unit p size deeper f g w >>= go

  abbrev pub alone : Frame → Given → World → Evaluation Given
  alone f = then_go f K

  abbrev pub two : (upper lower : Frame) → Given → World → Evaluation Given
  two upper lower = then_go upper (alone lower)

  -- ---- expressions

  pub constant_goes : (of : ℕ) (n : _) (g : Given) (w : World) → alone (evaluates (tree.constant of n)) g w ≡ K (a_value (ordinal n)) w
  constant_goes of n g w = refl

  pub load_goes : (v : Place) (g : Given) (w : World) → alone (evaluates (tree.load v)) g w ≡ two (places v) loads g w
  load_goes v g w = on (designated unit p size deeper v w) where
    on : (m : Evaluation Designated) →
        (((m >>= λ d w. gives (Rattle.edi_meaning.specs.Store.get w.store d.at) w) >>= λ v w. gives (a_value v) w) >>= K)
        ≡ ((m >>= λ d w. gives (a_place d) w) >>= alone loads)
    on (gives d w) = refl
    on (ends e system turns) = refl

  pub not_goes : (e : Expression) (g : Given) (w : World) → alone (evaluates (tree.not_of e)) g w ≡ two (evaluates e) negates g w
  not_goes e g w = on (expression unit p size deeper e w) where
    on : (m : Evaluation Value) →
        (((m >>= λ v w. gives (Rattle.edi_unit.specs.Values.negation v) w) >>= λ v w. gives (a_value v) w) >>= K)
        ≡ ((m >>= λ v w. gives (a_value v) w) >>= alone negates)
    on (gives d w) = refl
    on (ends e system turns) = refl

  pub sign_goes : (e : Expression) (line : ℕ) (g : Given) (w : World) → alone (evaluates (tree.sign_of e line)) g w ≡ two (evaluates e) (signs line) g w
  sign_goes e line g w = on (expression unit p size deeper e w) where
    on : (m : Evaluation Value) →
        (((m >>= λ v w. in_range line (Rattle.edi_unit.specs.Values.sign v) w) >>= λ v w. gives (a_value v) w) >>= K)
        ≡ ((m >>= λ v w. gives (a_value v) w) >>= alone (signs line))
    on (gives d w) = refl
    on (ends e system turns) = refl

  pub convert_goes : (of : ℕ) (e : Expression) (line : ℕ) (g : Given) (w : World) →
      alone (evaluates (tree.convert of e line)) g w ≡ two (evaluates e) (converts of line) g w
  convert_goes of e line g w = on (expression unit p size deeper e w) where
    on : (m : Evaluation Value) →
        (((m >>= λ v w. in_range line (Rattle.edi_unit.specs.Values.converted (shape_at unit.types of) v) w) >>= λ v w. gives (a_value v) w) >>= K)
        ≡ ((m >>= λ v w. gives (a_value v) w) >>= alone (converts of line))
    on (gives d w) = refl
    on (ends e system turns) = refl

  pub chain_goes : (e : Expression) (ls : Links) (g : Given) (w : World) → alone (evaluates (tree.chain e ls)) g w ≡ two (evaluates e) (links_on ls) g w
  chain_goes e ls g w = on (expression unit p size deeper e w) where
    on : (m : Evaluation Value) →
        (((m >>= λ v w. linked unit p size deeper v ls w) >>= λ v w. gives (a_value v) w) >>= K)
        ≡ ((m >>= λ v w. gives (a_value v) w) >>= alone (links_on ls))
    on (gives d w) = refl
    on (ends e system turns) = refl

  -- the operators of a chain
  pub no_link_goes : (v : Value) (w : World) → alone (links_on tree.no_link) (a_value v) w ≡ K (a_value v) w
  no_link_goes v w = refl

  pub decided_goes : (v : Value) (o : Operator) (e : Expression) (line : ℕ) (ls : Links) (w : World) → decides o v ≡ true →
      alone (links_on (tree.link_then (tree.link o e line) ls)) (a_value v) w ≡ alone (links_on ls) (a_value v) w
  decided_goes v o e line ls w is = rw is refl

  pub link_goes : (v : Value) (o : Operator) (e : Expression) (line : ℕ) (ls : Links) (g : Given) (w : World) → decides o v ≡ false →
      alone (links_on (tree.link_then (tree.link o e line) ls)) (a_value v) w ≡ two (evaluates e) (operates v o line ls) g w
  link_goes v o e line ls g w is = rw is (on (expression unit p size deeper e w)) where
    on : (m : Evaluation Value) →
        ((((m >>= λ u w. in_range line (apply o v u) w) >>= λ v w. linked unit p size deeper v ls w) >>= λ v w. gives (a_value v) w) >>= K)
        ≡ ((m >>= λ v w. gives (a_value v) w) >>= alone (operates v o line ls))
    on (gives u w) = ap (λ m. m >>= K) (associates (in_range line (apply o v u) w) (λ v w. linked unit p size deeper v ls w) (λ v w. gives (a_value v) w))
    on (ends e system turns) = refl

  pub operated_goes : (v u x : Value) (o : Operator) (line : ℕ) (ls : Links) (w : World) → apply o v u ≡ Some x →
      alone (operates v o line ls) (a_value u) w ≡ alone (links_on ls) (a_value x) w
  operated_goes v u x o line ls w is = rw is refl

  pub operated_fails : (v u : Value) (o : Operator) (line : ℕ) (ls : Links) (w : World) → apply o v u ≡ None →
      alone (operates v o line ls) (a_value u) w ≡ fails cause.Range line w
  operated_fails v u o line ls w is = rw is refl

  -- ---- the parts of a value

  pub compound_goes : (of : ℕ) (es : Expressions) (line : ℕ) (g : Given) (w : World) → is_set_shape (shape_at unit.types of) ≡ false →
      alone (evaluates (tree.make of es line)) g w ≡ alone (gathers [] es) nothing w
  compound_goes of es line g w is = rw is (ap (λ m. m >>= K) (associates (expressions unit p size deeper es w) _ _))

  pub set_goes : (of : ℕ) (es : Expressions) (line : ℕ) (g : Given) (w : World) → is_set_shape (shape_at unit.types of) ≡ true →
      alone (evaluates (tree.make of es line)) g w ≡ alone (joins_members [] es line) nothing w
  set_goes of es line g w is = rw is (ap (λ m. m >>= K) (associates (members_of unit p size deeper [] es line w) _ _))

  pub gathered_goes : (vs : List Value) (g : Given) (w : World) →
      alone (gathers vs tree.no_expression) g w ≡ K (a_value (compound (values (vs ++ values_given g)))) w
  gathered_goes vs g w = ap (λ us. K (a_value (compound (values us))) w) (append-nil (vs ++ values_given g))

  pub gather_goes : (vs : List Value) (e : Expression) (es : Expressions) (g h : Given) (w : World) →
      alone (gathers vs (tree.expression_then e es)) g w ≡ two (evaluates e) (gathers (vs ++ values_given g) es) h w
  gather_goes vs e es g h w = on (expression unit p size deeper e w) where
    rest : (u : Value) (m : Evaluation (List Value)) →
        (((m >>= λ more w. gives (u ∷ more) w) >>= λ more w. gives (a_value (compound (values ((vs ++ values_given g) ++ more)))) w) >>= K)
        ≡ ((m >>= λ more w. gives (a_value (compound (values (((vs ++ values_given g) ++ u ∷ []) ++ more)))) w) >>= K)
    rest u (gives more w) = ap (λ us. K (a_value (compound (values us))) w) (sym (append_assoc (vs ++ values_given g) (u ∷ []) more))
    rest u (ends e system turns) = refl

    on : (m : Evaluation Value) →
        (((m >>= λ v w. expressions unit p size deeper es w >>= λ more w. gives (v ∷ more) w)
        >>= λ more w. gives (a_value (compound (values ((vs ++ values_given g) ++ more)))) w) >>= K)
        ≡ ((m >>= λ v w. gives (a_value v) w) >>= alone (gathers (vs ++ values_given g) es))
    on (gives u w) = rest u (expressions unit p size deeper es w)
    on (ends e system turns) = refl

  pub joined_goes : (set : List ℕ) (line : ℕ) (g : Given) (w : World) →
      alone (joins_members set tree.no_expression line) g w ≡ (member_given set line g w >>= λ set w. K (a_value (members set)) w)
  joined_goes set line g w = on (member_given set line g w) where
    on : (m : Evaluation (List ℕ)) → ((m >>= λ set w. gives set w >>= λ set w. gives (a_value (members set)) w) >>= K)
        ≡ (m >>= λ set w. K (a_value (members set)) w)
    on (gives set w) = refl
    on (ends e system turns) = refl

  pub join_goes : (set : List ℕ) (e : Expression) (es : Expressions) (line : ℕ) (g h : Given) (w : World) →
      alone (joins_members set (tree.expression_then e es) line) g w
      ≡ (member_given set line g w >>= λ set w. two (evaluates e) (joins_members set es line) h w)
  join_goes set e es line g h w = on (member_given set line g w) where
    last : (m : Evaluation (List ℕ)) →
        (((m >>= λ set w. members_of unit p size deeper set es line w) >>= λ set w. gives (a_value (members set)) w) >>= K)
        ≡ ((m >>= λ set w. members_of unit p size deeper set es line w >>= λ set w. gives (a_value (members set)) w) >>= K)
    last (gives set w) = refl
    last (ends e system turns) = refl

    rest : (set : List ℕ) (m : Evaluation Value) →
        (((m >>= λ v w. in_range line (Rattle.edi_unit.specs.Values.with_ordinal set (ordinal_of v)) w >>= λ set w. members_of unit p size deeper set es line w)
        >>= λ set w. gives (a_value (members set)) w) >>= K)
        ≡ ((m >>= λ v w. gives (a_value v) w) >>= alone (joins_members set es line))
    rest set (gives v w) = last (in_range line (Rattle.edi_unit.specs.Values.with_ordinal set (ordinal_of v)) w)
    rest set (ends e system turns) = refl

    on : (m : Evaluation (List ℕ)) →
        ((m >>= λ set w. members_of unit p size deeper set (tree.expression_then e es) line w >>= λ set w. gives (a_value (members set)) w) >>= K)
        ≡ (m >>= λ set w. two (evaluates e) (joins_members set es line) h w)
    on (gives set w) = rest set (expression unit p size deeper e w)
    on (ends e system turns) = refl

  -- ---- places

  pub place_goes : (levels variable : ℕ) (ps : Parts) (g h : Given) (w : World) →
      alone (places (tree.place levels variable ps)) g w ≡ alone (refines (named unit p size levels variable w.store) ps) h w
  place_goes levels variable ps g h w = refl

  pub no_part_goes : (d : Designated) (g : Given) (w : World) → alone (refines d tree.no_part) g w ≡ K (a_place d) w
  no_part_goes d g w = refl

  pub field_goes : (d : Designated) (n : ℕ) (ps : Parts) (g h : Given) (w : World) →
      alone (refines d (tree.part_then (tree.field n) ps)) g w
      ≡ alone (refines (record {
        at = Rattle.edi_meaning.specs.Whole.part_of d.at n;
        of = Rattle.std.specs.Prelude.unwrap_or (Rattle.edi_unit.specs.Types.field_type unit.types d.of n) 0;
      }) ps) h w
  field_goes d n ps g h w = refl

  pub index_goes : (d : Designated) (e : Expression) (line : ℕ) (ps : Parts) (g h : Given) (w : World) →
      alone (refines d (tree.part_then (tree.index e line) ps)) g w ≡ two (evaluates e) (indexes d line ps) h w
  index_goes d e line ps g h w = on (expression unit p size deeper e w) where
    last : (m : Evaluation Designated) →
        (((m >>= λ d w. parts unit p size deeper d ps w) >>= λ d w. gives (a_place d) w) >>= K)
        ≡ ((m >>= λ d w. parts unit p size deeper d ps w >>= λ d w. gives (a_place d) w) >>= K)
    last (gives d w) = refl
    last (ends e system turns) = refl

    on : (m : Evaluation Value) →
        ((((m >>= λ v w. Rattle.edi_meaning.specs.Whole.element_of (shape_at unit.types d.of) line d.at v w) >>= λ d w. parts unit p size deeper d ps w)
        >>= λ d w. gives (a_place d) w) >>= K)
        ≡ ((m >>= λ v w. gives (a_value v) w) >>= alone (indexes d line ps))
    on (gives v w) = last (Rattle.edi_meaning.specs.Whole.element_of (shape_at unit.types d.of) line d.at v w)
    on (ends e system turns) = refl

  pub indexed_goes : (d : Designated) (line : ℕ) (ps : Parts) (v : Value) (h : Given) (w : World) →
      alone (indexes d line ps) (a_value v) w
      ≡ (Rattle.edi_meaning.specs.Whole.element_of (shape_at unit.types d.of) line d.at v w >>= λ d w. alone (refines d ps) h w)
  indexed_goes d line ps v h w = associates (Rattle.edi_meaning.specs.Whole.element_of (shape_at unit.types d.of) line d.at v w) _ K

  -- ---- arguments

  pub collected_goes : (cells : List Cell) (g : Given) (w : World) →
      alone (collects cells tree.no_argument) g w ≡ K (some_cells (cells ++ cell_given g)) w
  collected_goes cells g w = ap (λ xs. K (some_cells xs) w) (append-nil (cells ++ cell_given g))

  private_rest : (xs : List Cell) (x : Cell) (m : Evaluation (List Cell)) →
      (((m >>= λ more w. gives (x ∷ more) w) >>= λ more w. gives (some_cells (xs ++ more)) w) >>= K)
      ≡ ((m >>= λ more w. gives (some_cells ((xs ++ x ∷ []) ++ more)) w) >>= K)
  private_rest xs x (gives more w) = ap (λ us. K (some_cells us) w) (sym (append_assoc xs (x ∷ []) more))
  private_rest xs x (ends e system turns) = refl

  pub by_value_goes : (cells : List Cell) (e : Expression) (es : Arguments) (g h : Given) (w : World) →
      alone (collects cells (tree.argument_then (tree.by_value e) es)) g w ≡ two (evaluates e) (collects (cells ++ cell_given g) es) h w
  by_value_goes cells e es g h w = on (expression unit p size deeper e w) where
    on : (m : Evaluation Value) →
        ((((m >>= λ v w. gives (value v) w) >>= λ x w. arguments unit p size deeper es w >>= λ xs w. gives (x ∷ xs) w)
        >>= λ more w. gives (some_cells ((cells ++ cell_given g) ++ more)) w) >>= K)
        ≡ ((m >>= λ v w. gives (a_value v) w) >>= alone (collects (cells ++ cell_given g) es))
    on (gives v w) = private_rest (cells ++ cell_given g) (value v) (arguments unit p size deeper es w)
    on (ends e system turns) = refl

  pub by_variable_goes : (cells : List Cell) (v : Place) (es : Arguments) (g h : Given) (w : World) →
      alone (collects cells (tree.argument_then (tree.by_variable v) es)) g w ≡ two (places v) (collects (cells ++ cell_given g) es) h w
  by_variable_goes cells v es g h w = on (designated unit p size deeper v w) where
    on : (m : Evaluation Designated) →
        ((((m >>= λ d w. gives (location d.at) w) >>= λ x w. arguments unit p size deeper es w >>= λ xs w. gives (x ∷ xs) w)
        >>= λ more w. gives (some_cells ((cells ++ cell_given g) ++ more)) w) >>= K)
        ≡ ((m >>= λ d w. gives (a_place d) w) >>= alone (collects (cells ++ cell_given g) es))
    on (gives d w) = private_rest (cells ++ cell_given g) (location d.at) (arguments unit p size deeper es w)
    on (ends e system turns) = refl

  pub by_procedure_goes : (cells : List Cell) (c : Callee) (es : Arguments) (g : Given) (w : World) →
      alone (collects cells (tree.argument_then (tree.by_procedure c) es)) g w
      ≡ alone (collects ((cells ++ cell_given g) ++ procedure (meant unit p size c w) ∷ []) es) nothing w
  by_procedure_goes cells c es g w =
      private_rest (cells ++ cell_given g) (procedure (meant unit p size c w)) (arguments unit p size deeper es w)
      ∙ ap (λ us. (arguments unit p size deeper es w >>= λ more w. gives (some_cells (us ++ more)) w) >>= K)
      (sym (append-nil ((cells ++ cell_given g) ++ procedure (meant unit p size c w) ∷ [])))

  pub function_goes : (c : Callee) (es : Arguments) (line : ℕ) (g : Given) (w : World) →
      alone (evaluates (tree.apply_of c es line)) g w ≡ two (collects [] es) (calls_function c line) nothing w
  function_goes c es line g w = on (arguments unit p size deeper es w) where
    on : (m : Evaluation (List Cell)) →
        (((m >>= λ cells w. function_call unit p size deeper (meant unit p size c w) cells line w) >>= λ v w. gives (a_value v) w) >>= K)
        ≡ ((m >>= λ more w. gives (some_cells more) w) >>= alone (calls_function c line))
    on (gives cells w) = refl
    on (ends e system turns) = refl
