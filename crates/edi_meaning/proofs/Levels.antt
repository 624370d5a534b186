-- Evaluations that agree where fewer turns are left agree.
use Rattle.std.proofs.Common.{◌≡◌, ℕ, zero, suc, ◌<◌, ◌≤◌, Bool, true, false, List, Option, Some, None, refl, ap, ◌∙◌, arith}
use Rattle.std.specs.Prelude.{nat_lt, if◌then◌else◌, ⊤}
use Rattle.edi_calls.specs.Calls.{CallResult, answered, no_file, file_limit, call}
use Rattle.edi_calls.specs.Names.{Name}
use Rattle.edi_calls.specs.Outcome.{Ending}
use Rattle.edi_calls.specs.State.{Traced}
use Rattle.edi_unit.specs.Types.{Shape, shape_at, is_set_shape}
use Rattle.edi_unit.specs.Types as types
use Rattle.edi_unit.specs.Values.{Value, ordinal_of, is_true, apply, decides, sign, converted, with_ordinal, element_at}
use Rattle.edi_unit.specs.Need.{block_at}
use Rattle.edi_unit.specs.Tree as tree
use Rattle.edi_unit.specs.Tree.{Expression, Expressions, Link, Links, Place, Part, Parts, Argument, Arguments, Act, Acts, Clause, Clauses, ProgramUnit}
use Rattle.edi_meaning.specs.Store.{Spot, Location, Closure, system_procedure, block_procedure, Cell, shape, room}
use Rattle.edi_meaning.specs.Evaluation.{World, Evaluation, gives, ends, ◌>>=◌, turn, turn_from}
use Rattle.edi_meaning.specs.Whole.{in_range, Designated, element_of, words_of_cells, answered_by, meant, entered, left, named, function_body}
use Rattle.edi_meaning.specs.Whole.{function_call, expression, expressions, members_of, linked, operated, designated, parts, part, argument, arguments}
use Rattle.edi_meaning.specs.Whole.{procedure_body, procedure_call, assigned, act, acts, first, guarded, levels_of}
use Rattle.edi_meaning.specs.Levels.{LevelsAreEnough}

-- what it gives has no more than so many turns left
pub Low : {A : Type 0} → ℕ → Evaluation A → Type 0
Low k (gives a w) = w.turns ≤ k
Low k (ends e system turns) = ⊤

-- the two are one
pub record Agrees {A : Type 0} (k : ℕ) (one other : Evaluation A) : Type 0 where
  pub same : one ≡ other
  pub low : Low k other

pub alike : {A : Type 0} (k : ℕ) (m : Evaluation A) → Low k m → Agrees k m m
alike k m low = record { same = refl; low = low }

-- one evaluation after another
pub bind : {A B : Type 0} (k : ℕ) (m m' : Evaluation A) (f g : A → World → Evaluation B) → Agrees k m m'
    → ((a : A) (w : World) → w.turns ≤ k → Agrees k (f a w) (g a w)) → Agrees k (m >>= f) (m' >>= g)
unfolding Low
bind k m (gives a w) f g h both = let rest = both a w h.low in record { same = ap (λ e. e >>= f) h.same ∙ rest.same; low = rest.low }
bind k m (ends e system turns) f g h both = record { same = ap (λ x. x >>= f) h.same; low = tt }

pub given : {A : Type 0} (k : ℕ) (a : A) (w : World) → w.turns ≤ k → Agrees k (gives a w) (gives a w)
unfolding Low
given k a w low = alike k (gives a w) low

pub ranged : {A : Type 0} (k line : ℕ) (o : Option A) (w : World) → w.turns ≤ k → Agrees k (in_range line o w) (in_range line o w)
unfolding Low
ranged k line None w low = alike k (in_range line None w) tt
ranged k line (Some x) w low = given k x w low

pub either : {A : Type 0} {k : ℕ} (b : Bool) {one two other another : Evaluation A} → Agrees k one two → Agrees k other another
    → Agrees k (if b then one else other) (if b then two else another)
either true h i = h
either false h i = i

pub stopped : {A : Type 0} {k : ℕ} (e : Ending) (system : Traced) (turns : ℕ) → Agrees {A = A} k (ends e system turns) (ends e system turns)
unfolding Low
stopped e system turns = alike _ (ends e system turns) tt

-- a turn is taken
pub turned : {A : Type 0} (k : ℕ) (w : World) (f g : World → Evaluation A) → w.turns ≤ k → ((v : World) → v.turns < k → Agrees k (f v) (g v))
    → Agrees k (turn w f) (turn w g)
unfolding Low
turned k w f g low both = go w.turns low where
  go : (n : ℕ) → n ≤ k → Agrees k (turn_from n w f) (turn_from n w g)
  go zero few = alike k (turn_from zero w f) tt
  go (suc n) few = both (record w { turns = n }) (omega arith)

pub answers : (k : ℕ) (r : CallResult) (cells : List Cell) (line : ℕ) (w : World) → w.turns ≤ k → Agrees k (answered_by r cells line w) (answered_by r cells line w)
unfolding Low
answers k (answered words system) cells line w low = alike k (answered_by (answered words system) cells line w) low
answers k no_file cells line w low = alike k (answered_by no_file cells line w) tt
answers k file_limit cells line w low = alike k (answered_by file_limit cells line w) tt

pub element : (k : ℕ) (s : Shape) (line : ℕ) (l : Location) (v : Value) (w : World) → w.turns ≤ k → Agrees k (element_of s line l v w) (element_of s line l v w)
element k types.int line l v w low = given k _ w low
element k types.char line l v w low = given k _ w low
element k types.bool line l v w low = given k _ w low
element k (types.enumeration n) line l v w low = given k _ w low
element k (types.record_of fs) line l v w low = given k _ w low
element k (types.array_of index lo hi of) line l v w low = bind k _ _ _ _ (ranged k line (element_at lo hi v) w low) (λ n w low. given k _ w low)
element k (types.set_of b) line l v w low = given k _ w low

module _ (unit : ProgramUnit) (p : Name) (size k : ℕ) (f g : Acts → World → Evaluation (Unit {0}))
    (deep : (s : Acts) (v : World) → v.turns < k → Agrees k (f s v) (g s v)) where
  -- a block is entered and left
  pub enters : {A : Type 0} (number : ℕ) (parent : Spot) (cells : List Cell) (line : ℕ) (w : World) (one other : World → Evaluation A) → w.turns ≤ k
      → ((v : World) → v.turns < k → Agrees k (one v) (other v))
      → Agrees k (entered unit p size number parent cells line w one) (entered unit p size number parent cells line w other)
  enters number parent cells line w one other low both =
      either (nat_lt (room size (shape w.store p)) (block_at unit.blocks number).need) (stopped _ _ _) (turned k w _ _ low (λ v few. both _ few))

  pub leaves : {A : Type 0} (a : A) (w : World) → w.turns ≤ k → Agrees k (left unit p size w (gives a)) (left unit p size w (gives a))
  leaves a w low = turned k w _ _ low (λ v few. given k a _ (omega (arith, few)))

  pub function_agrees : (c : Closure) (cells : List Cell) (line : ℕ) (w : World) → w.turns ≤ k
      → Agrees k (function_call unit p size f c cells line w) (function_call unit p size g c cells line w)
  function_agrees (block_procedure number parent) cells line w low =
      enters number parent cells line w (function_body unit p size f number) (function_body unit p size g number) low
      (λ v few. bind k _ _ _ _ (deep (block_at unit.blocks number).body v few) (λ a u low. leaves _ u low))
  function_agrees (system_procedure number) cells line w low = given k _ w low

  mutual
    pub expression_agrees : (e : Expression) (w : World) → w.turns ≤ k → Agrees k (expression unit p size f e w) (expression unit p size g e w)
    expression_agrees (tree.constant of n) w low = given k _ w low
    expression_agrees (tree.load v) w low = bind k _ _ _ _ (designated_agrees v w low) (λ d w low. given k _ w low)
    expression_agrees (tree.not_of e) w low = bind k _ _ _ _ (expression_agrees e w low) (λ v w low. given k _ w low)
    expression_agrees (tree.sign_of e line) w low = bind k _ _ _ _ (expression_agrees e w low) (λ v w low. ranged k line (sign v) w low)
    expression_agrees (tree.chain e links) w low = bind k _ _ _ _ (expression_agrees e w low) (λ v w low. linked_agrees v links w low)
    expression_agrees (tree.make of es line) w low =
        either (is_set_shape (shape_at unit.types of)) (bind k _ _ _ _ (members_agree _ es line w low) (λ set w low. given k _ w low))
        (bind k _ _ _ _ (expressions_agree es w low) (λ vs w low. given k _ w low))
    expression_agrees (tree.convert of e line) w low =
        bind k _ _ _ _ (expression_agrees e w low) (λ v w low. ranged k line (converted (shape_at unit.types of) v) w low)
    expression_agrees (tree.apply_of c es line) w low =
        bind k _ _ _ _ (arguments_agree es w low) (λ cells w low. function_agrees (meant unit p size c w) cells line w low)

    pub expressions_agree : (es : Expressions) (w : World) → w.turns ≤ k → Agrees k (expressions unit p size f es w) (expressions unit p size g es w)
    expressions_agree tree.no_expression w low = given k _ w low
    expressions_agree (tree.expression_then e es) w low =
        bind k _ _ _ _ (expression_agrees e w low)
        (λ v w low. bind k _ _ _ _ (expressions_agree es w low) (λ vs w low. given k _ w low))

    pub members_agree : (set : List ℕ) (es : Expressions) (line : ℕ) (w : World) → w.turns ≤ k
        → Agrees k (members_of unit p size f set es line w) (members_of unit p size g set es line w)
    members_agree set tree.no_expression line w low = given k _ w low
    members_agree set (tree.expression_then e es) line w low =
        bind k _ _ _ _ (expression_agrees e w low)
        (λ v w low. bind k _ _ _ _ (ranged k line (with_ordinal set (ordinal_of v)) w low) (λ set w low. members_agree set es line w low))

    pub linked_agrees : (v : Value) (ls : Links) (w : World) → w.turns ≤ k → Agrees k (linked unit p size f v ls w) (linked unit p size g v ls w)
    linked_agrees v tree.no_link w low = given k _ w low
    linked_agrees v (tree.link_then l ls) w low = bind k _ _ _ _ (operated_agrees v l w low) (λ v w low. linked_agrees v ls w low)

    pub operated_agrees : (v : Value) (l : Link) (w : World) → w.turns ≤ k → Agrees k (operated unit p size f v l w) (operated unit p size g v l w)
    operated_agrees v (tree.link o e line) w low =
        either (decides o v) (given k v w low)
        (bind k _ _ _ _ (expression_agrees e w low) (λ u w low. ranged k line (apply o v u) w low))

    pub designated_agrees : (v : Place) (w : World) → w.turns ≤ k → Agrees k (designated unit p size f v w) (designated unit p size g v w)
    designated_agrees (tree.place levels variable ps) w low = parts_agree (named unit p size levels variable w.store) ps w low

    pub parts_agree : (d : Designated) (ps : Parts) (w : World) → w.turns ≤ k → Agrees k (parts unit p size f d ps w) (parts unit p size g d ps w)
    parts_agree d tree.no_part w low = given k _ w low
    parts_agree d (tree.part_then q qs) w low = bind k _ _ _ _ (part_agrees d q w low) (λ d w low. parts_agree d qs w low)

    pub part_agrees : (d : Designated) (q : Part) (w : World) → w.turns ≤ k → Agrees k (part unit p size f d q w) (part unit p size g d q w)
    part_agrees d (tree.field n) w low = given k _ w low
    part_agrees d (tree.index e line) w low =
        bind k _ _ _ _ (expression_agrees e w low) (λ v w low. element k (shape_at unit.types d.of) line d.at v w low)

    pub argument_agrees : (a : Argument) (w : World) → w.turns ≤ k → Agrees k (argument unit p size f a w) (argument unit p size g a w)
    argument_agrees (tree.by_value e) w low = bind k _ _ _ _ (expression_agrees e w low) (λ v w low. given k _ w low)
    argument_agrees (tree.by_variable v) w low = bind k _ _ _ _ (designated_agrees v w low) (λ d w low. given k _ w low)
    argument_agrees (tree.by_procedure c) w low = given k _ w low

    pub arguments_agree : (es : Arguments) (w : World) → w.turns ≤ k → Agrees k (arguments unit p size f es w) (arguments unit p size g es w)
    arguments_agree tree.no_argument w low = given k _ w low
    arguments_agree (tree.argument_then a as') w low =
        bind k _ _ _ _ (argument_agrees a w low)
        (λ x w low. bind k _ _ _ _ (arguments_agree as' w low) (λ xs w low. given k _ w low))

  pub procedure_agrees : (c : Closure) (cells : List Cell) (line : ℕ) (w : World) → w.turns ≤ k
      → Agrees k (procedure_call unit p size f c cells line w) (procedure_call unit p size g c cells line w)
  procedure_agrees (block_procedure number parent) cells line w low =
      enters number parent cells line w (procedure_body unit p size f number) (procedure_body unit p size g number) low
      (λ v few. bind k _ _ _ _ (deep (block_at unit.blocks number).body v few) (λ a u low. leaves tt u low))
  procedure_agrees (system_procedure number) cells line w low = answers k (call number (words_of_cells cells) w.system.now) cells line w low

  pub assigned_agrees : (v : Place) (e : Expression) (w : World) → w.turns ≤ k → Agrees k (assigned unit p size f v e w) (assigned unit p size g v e w)
  assigned_agrees v e w low =
      bind k _ _ _ _ (designated_agrees v w low)
      (λ d w low. bind k _ _ _ _ (expression_agrees e w low) (λ x w low. given k tt _ low))

  mutual
    pub act_agrees : (a : Act) (w : World) → w.turns ≤ k → Agrees k (act unit p size f a w) (act unit p size g a w)
    act_agrees tree.skip w low = given k tt w low
    act_agrees (tree.assign v e) w low = assigned_agrees v e w low
    act_agrees (tree.call c es line) w low =
        bind k _ _ _ _ (arguments_agree es w low) (λ cells w low. procedure_agrees (meant unit p size c w) cells line w low)
    act_agrees (tree.halt line) w low = stopped _ _ _
    act_agrees (tree.if_act cs) w low = bind k _ _ _ _ (first_agrees cs w low) (λ ran w low. given k tt w low)
    act_agrees (tree.while_act cs) w low =
        bind k _ _ _ _ (first_agrees cs w low)
        (λ ran w low. either ran (turned k w _ _ low (λ v few. deep (tree.act_then (tree.while_act cs) tree.no_act) v few)) (given k tt w low))
    act_agrees (tree.when_act cs line) w low = stopped _ _ _
    act_agrees (tree.cobegin bs line) w low = stopped _ _ _

    pub acts_agree : (s : Acts) (w : World) → w.turns ≤ k → Agrees k (acts unit p size f s w) (acts unit p size g s w)
    acts_agree tree.no_act w low = given k tt w low
    acts_agree (tree.act_then a as') w low = bind k _ _ _ _ (act_agrees a w low) (λ x w low. acts_agree as' w low)

    pub first_agrees : (cs : Clauses) (w : World) → w.turns ≤ k → Agrees k (first unit p size f cs w) (first unit p size g cs w)
    first_agrees tree.no_clause w low = given k _ w low
    first_agrees (tree.clause_then c cs) w low =
        bind k _ _ _ _ (guarded_agrees c w low) (λ ran w low. either ran (given k true w low) (first_agrees cs w low))

    pub guarded_agrees : (c : Clause) (w : World) → w.turns ≤ k → Agrees k (guarded unit p size f c w) (guarded unit p size g c w)
    guarded_agrees (tree.clause e s) w low =
        bind k _ _ _ _ (expression_agrees e w low)
        (λ v w low. either (is_true v) (bind k _ _ _ _ (acts_agree s w low) (λ x w low. given k true w low)) (given k false w low))

-- ---- levels

pub widened : {A : Type 0} (k n : ℕ) (m m' : Evaluation A) → k ≤ n → Agrees k m m' → Agrees n m m'
unfolding Low
widened k n m (gives a w) le h = record { same = h.same; low = let low : w.turns ≤ k = h.low in omega arith }
widened k n m (ends e system turns) le h = record { same = h.same; low = tt }

levels_agree : (unit : ProgramUnit) (p : Name) (size one other : ℕ) (s : Acts) (w : World) → w.turns < one → w.turns < other
    → Agrees w.turns (levels_of unit p size one s w) (levels_of unit p size other s w)
levels_agree unit p size zero other s w lt gt = absurd (omega (arith, lt))
levels_agree unit p size (suc one) zero s w lt gt = absurd (omega (arith, gt))
levels_agree unit p size (suc one) (suc other) s w lt gt =
    acts_agree unit p size w.turns (levels_of unit p size one) (levels_of unit p size other)
    (λ t v less. widened v.turns w.turns _ _ (omega arith) (levels_agree unit p size one other t v (omega arith) (omega arith))) s w (omega arith)

pub levels_are_enough : LevelsAreEnough
levels_are_enough unit p size levels w enough = record {
  of_arguments = λ es. (arguments_agree unit p size w.turns (levels_of unit p size levels) (levels_of unit p size w.turns) deep es w (omega arith)).same;
  of_assignment = λ v e. (assigned_agrees unit p size w.turns (levels_of unit p size levels) (levels_of unit p size w.turns) deep v e w (omega arith)).same;
  of_condition = λ e.
      ap (λ m. m >>= (λ v w. gives (is_true v) w))
      (expression_agrees unit p size w.turns (levels_of unit p size levels) (levels_of unit p size w.turns) deep e w (omega arith)).same;
  of_first = λ cs. (first_agrees unit p size w.turns (levels_of unit p size levels) (levels_of unit p size w.turns) deep cs w (omega arith)).same;
} where
  deep : (s : Acts) (v : World) → v.turns < w.turns → Agrees w.turns (levels_of unit p size levels s v) (levels_of unit p size w.turns s v)
  deep s v less = widened v.turns w.turns _ _ (omega arith) (levels_agree unit p size levels w.turns s v (omega (arith, less, enough)) less)
