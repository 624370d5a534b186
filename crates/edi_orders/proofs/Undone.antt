-- No evaluation of an expression, a statement or a call ends the program by `done`: that is left to the end of the program's own work.
use Rattle.std.proofs.Common.{◌≡◌, ℕ, zero, suc, Bool, true, false, if◌then◌else◌, List, [], Option, Some, None}
use Rattle.std.specs.Prelude.{⊤, nat_lt}
use Rattle.edi_calls.specs.declared.kinds.Cause.{Cause}
use Rattle.edi_calls.specs.declared.kinds.Cause.TheVariants as cause
use Rattle.edi_calls.specs.Calls.{CallResult, answered, no_file, file_limit, call}
use Rattle.edi_calls.specs.Names.{Name}
use Rattle.edi_calls.specs.Outcome as outcome
use Rattle.edi_calls.specs.Outcome.{Ending}
use Rattle.edi_unit.specs.Types.{Shape, shape_at, is_set_shape, array_of, int, char, bool, enumeration, record_of, set_of}
use Rattle.edi_unit.specs.Values.{Value, is_true, decides, apply, sign, converted, with_ordinal, ordinal_of, element_at}
use Rattle.edi_unit.specs.Need.{block_at}
use Rattle.edi_unit.specs.Tree as tree
use Rattle.edi_unit.specs.Tree.{Expression, Expressions, Link, Links, Place, Part, Parts, Argument, Arguments, Act, Acts, Clause, Clauses, ProgramUnit}
use Rattle.edi_meaning.specs.Store.{Spot, Location, Closure, system_procedure, block_procedure, Cell, shape, room}
use Rattle.edi_meaning.specs.Evaluation.{World, Evaluation, gives, ends, ◌>>=◌, stops, fails, turn_from}
use Rattle.edi_meaning.specs.Whole.{in_range, Designated, element_of, words_of_cells, answered_by, system_call, meant, entered, named}
use Rattle.edi_meaning.specs.Whole.{function_body, function_call, expression, expressions, members_of, linked, operated, designated, parts, part, argument, arguments}
use Rattle.edi_meaning.specs.Whole.{procedure_body, procedure_call, assigned, act, acts, first, guarded, levels_of, whole_arguments, whole_assignment, whole_condition, whole_first}

abbrev NotDone : {A : Type 0} → Evaluation A → Type 0
NotDone (gives a w) = ⊤
NotDone (ends e system turns) = e ≡ outcome.done → ⊥

pub record Undone {A : Type 0} (r : Evaluation A) : Type 0 where
  pub is : NotDone r

pub give : {A : Type 0} (a : A) (w : World) → Undone (gives a w)
give a w = record { is = tt }

pub fail : {A : Type 0} (c : Cause) (line : ℕ) (w : World) → Undone {A = A} (fails c line w)
fail c line w = record { is = λ e. absurd (cc) }

spent : {A : Type 0} (w : World) → Undone {A = A} (stops outcome.turns w)
spent w = record { is = λ e. absurd (cc) }

pub bind : {A B : Type 0} (r : Evaluation A) (f : A → World → Evaluation B) → Undone r → ((a : A) (w : World) → Undone (f a w)) → Undone (r >>= f)
bind (gives a w) f h k = k a w
bind (ends e system turns) f h k = record { is = h.is }

pub turned : {A : Type 0} (n : ℕ) (w : World) (go : World → Evaluation A) → ((w : World) → Undone (go w)) → Undone (turn_from n w go)
turned zero w go h = spent w
turned (suc n) w go h = h (record w { turns = n })

pub either : {A : Type 0} (b : Bool) (r t : Evaluation A) → Undone r → Undone t → Undone (if b then r else t)
either true r t h k = h
either false r t h k = k

ranged : {A : Type 0} (line : ℕ) (o : Option A) (w : World) → Undone (in_range line o w)
ranged line None w = fail cause.Range line w
ranged line (Some a) w = give a w

element_undone : (shape : Shape) (line : ℕ) (l : Location) (v : Value) (w : World) → Undone (element_of shape line l v w)
element_undone (array_of i lo hi e) line l v w = bind (in_range line (element_at lo hi v) w) _ (ranged line (element_at lo hi v) w) (λ n w. give _ w)
element_undone int line l v w = give _ w
element_undone char line l v w = give _ w
element_undone bool line l v w = give _ w
element_undone (enumeration n) line l v w = give _ w
element_undone (record_of fs) line l v w = give _ w
element_undone (set_of b) line l v w = give _ w

pub system_undone : (number : ℕ) (cells : List Cell) (line : ℕ) (w : World) → Undone (system_call number cells line w)
system_undone number cells line w = go (call number (words_of_cells cells) w.system.now)
  where
    go : (r : CallResult) → Undone (answered_by r cells line w)
    go (answered words system) = give _ _
    go no_file = fail cause.NoFile line w
    go file_limit = fail cause.FileLimit line w

module _ (unit : ProgramUnit) (p : Name) (size : ℕ) where
  pub entered_undone : {A : Type 0} (number : ℕ) (parent : Spot) (cells : List Cell) (line : ℕ) (w : World) (go : World → Evaluation A) → ((w : World) → Undone (go w)) →
      Undone (entered unit p size number parent cells line w go)
  entered_undone number parent cells line w go h =
      either (nat_lt (room size (shape w.store p)) (block_at unit.blocks number).need) _ _ (fail cause.VariableLimit line w) (turned w.turns w _ (λ w. h _))

  module _ (deeper : Acts → World → Evaluation (Unit {0})) (deep : (s : Acts) (w : World) → Undone (deeper s w)) where
    function_undone : (c : Closure) (cells : List Cell) (line : ℕ) (w : World) → Undone (function_call unit p size deeper c cells line w)
    function_undone (block_procedure number parent) cells line w =
        entered_undone number parent cells line w (function_body unit p size deeper number)
        (λ w. bind (deeper (block_at unit.blocks number).body w) _ (deep (block_at unit.blocks number).body w) (λ _ w. turned w.turns w _ (λ w. give _ _)))
    function_undone (system_procedure number) cells line w = give _ w

    mutual
      expression_undone : (e : Expression) (w : World) → Undone (expression unit p size deeper e w)
      expression_undone (tree.constant of n) w = give _ w
      expression_undone (tree.load v) w = bind (designated unit p size deeper v w) _ (designated_undone v w) (λ d w. give _ w)
      expression_undone (tree.not_of e) w = bind (expression unit p size deeper e w) _ (expression_undone e w) (λ v w. give _ w)
      expression_undone (tree.sign_of e line) w = bind (expression unit p size deeper e w) _ (expression_undone e w) (λ v w. ranged line (sign v) w)
      expression_undone (tree.chain e ls) w = bind (expression unit p size deeper e w) _ (expression_undone e w) (λ v w. linked_undone v ls w)
      expression_undone (tree.make of es line) w =
          either (is_set_shape (shape_at unit.types of)) _ _
          (bind (members_of unit p size deeper [] es line w) _ (members_undone [] es line w) (λ set w. give _ w))
          (bind (expressions unit p size deeper es w) _ (expressions_undone es w) (λ vs w. give _ w))
      expression_undone (tree.convert of e line) w =
          bind (expression unit p size deeper e w) _ (expression_undone e w) (λ v w. ranged line (converted (shape_at unit.types of) v) w)
      expression_undone (tree.apply_of c es line) w =
          bind (arguments unit p size deeper es w) _ (arguments_undone es w) (λ cells w. function_undone (meant unit p size c w) cells line w)

      expressions_undone : (es : Expressions) (w : World) → Undone (expressions unit p size deeper es w)
      expressions_undone tree.no_expression w = give _ w
      expressions_undone (tree.expression_then e es) w =
          bind (expression unit p size deeper e w) _ (expression_undone e w)
          (λ v w. bind (expressions unit p size deeper es w) _ (expressions_undone es w) (λ vs w. give _ w))

      members_undone : (set : List ℕ) (es : Expressions) (line : ℕ) (w : World) → Undone (members_of unit p size deeper set es line w)
      members_undone set tree.no_expression line w = give _ w
      members_undone set (tree.expression_then e es) line w =
          bind (expression unit p size deeper e w) _ (expression_undone e w)
          (λ v w. bind (in_range line (with_ordinal set (ordinal_of v)) w) _ (ranged line (with_ordinal set (ordinal_of v)) w) (λ more w. members_undone more es line w))

      linked_undone : (v : Value) (ls : Links) (w : World) → Undone (linked unit p size deeper v ls w)
      linked_undone v tree.no_link w = give _ w
      linked_undone v (tree.link_then l ls) w = bind (operated unit p size deeper v l w) _ (operated_undone v l w) (λ v w. linked_undone v ls w)

      operated_undone : (v : Value) (l : Link) (w : World) → Undone (operated unit p size deeper v l w)
      operated_undone v (tree.link o e line) w =
          either (decides o v) _ _ (give _ w) (bind (expression unit p size deeper e w) _ (expression_undone e w) (λ y w. ranged line (apply o v y) w))

      designated_undone : (v : Place) (w : World) → Undone (designated unit p size deeper v w)
      designated_undone (tree.place levels variable ps) w = parts_undone (named unit p size levels variable w.store) ps w

      parts_undone : (d : Designated) (ps : Parts) (w : World) → Undone (parts unit p size deeper d ps w)
      parts_undone d tree.no_part w = give _ w
      parts_undone d (tree.part_then q qs) w = bind (part unit p size deeper d q w) _ (part_undone d q w) (λ d w. parts_undone d qs w)

      part_undone : (d : Designated) (q : Part) (w : World) → Undone (part unit p size deeper d q w)
      part_undone d (tree.field n) w = give _ w
      part_undone d (tree.index e line) w =
          bind (expression unit p size deeper e w) _ (expression_undone e w) (λ v w. element_undone (shape_at unit.types d.of) line d.at v w)

      argument_undone : (a : Argument) (w : World) → Undone (argument unit p size deeper a w)
      argument_undone (tree.by_value e) w = bind (expression unit p size deeper e w) _ (expression_undone e w) (λ v w. give _ w)
      argument_undone (tree.by_variable v) w = bind (designated unit p size deeper v w) _ (designated_undone v w) (λ d w. give _ w)
      argument_undone (tree.by_procedure c) w = give _ w

      arguments_undone : (es : Arguments) (w : World) → Undone (arguments unit p size deeper es w)
      arguments_undone tree.no_argument w = give _ w
      arguments_undone (tree.argument_then a as') w =
          bind (argument unit p size deeper a w) _ (argument_undone a w)
          (λ x w. bind (arguments unit p size deeper as' w) _ (arguments_undone as' w) (λ xs w. give _ w))

    procedure_undone : (c : Closure) (cells : List Cell) (line : ℕ) (w : World) → Undone (procedure_call unit p size deeper c cells line w)
    procedure_undone (block_procedure number parent) cells line w =
        entered_undone number parent cells line w (procedure_body unit p size deeper number)
        (λ w. bind (deeper (block_at unit.blocks number).body w) _ (deep (block_at unit.blocks number).body w) (λ _ w. turned w.turns w _ (λ w. give _ _)))
    procedure_undone (system_procedure number) cells line w = system_undone number cells line w

    assigned_undone : (v : Place) (e : Expression) (w : World) → Undone (assigned unit p size deeper v e w)
    assigned_undone v e w =
        bind (designated unit p size deeper v w) _ (designated_undone v w)
        (λ d w. bind (expression unit p size deeper e w) _ (expression_undone e w) (λ x w. give _ _))

    mutual
      act_undone : (a : Act) (w : World) → Undone (act unit p size deeper a w)
      act_undone tree.skip w = give _ w
      act_undone (tree.assign v e) w = assigned_undone v e w
      act_undone (tree.call c es line) w =
          bind (arguments unit p size deeper es w) _ (arguments_undone es w) (λ cells w. procedure_undone (meant unit p size c w) cells line w)
      act_undone (tree.halt line) w = record { is = λ e. absurd (cc) }
      act_undone (tree.if_act cs) w = bind (first unit p size deeper cs w) _ (first_undone cs w) (λ _ w. give _ w)
      act_undone (tree.while_act cs) w =
          bind (first unit p size deeper cs w) _ (first_undone cs w)
          (λ ran w. either ran _ _ (turned w.turns w _ (λ w. deep (tree.act_then (tree.while_act cs) tree.no_act) w)) (give _ w))
      act_undone (tree.when_act cs line) w = fail cause.Held line w
      act_undone (tree.cobegin bs line) w = fail cause.Held line w

      acts_undone : (s : Acts) (w : World) → Undone (acts unit p size deeper s w)
      acts_undone tree.no_act w = give _ w
      acts_undone (tree.act_then a s) w = bind (act unit p size deeper a w) _ (act_undone a w) (λ _ w. acts_undone s w)

      first_undone : (cs : Clauses) (w : World) → Undone (first unit p size deeper cs w)
      first_undone tree.no_clause w = give _ w
      first_undone (tree.clause_then c cs) w =
          bind (guarded unit p size deeper c w) _ (guarded_undone c w) (λ ran w. either ran _ _ (give _ w) (first_undone cs w))

      guarded_undone : (c : Clause) (w : World) → Undone (guarded unit p size deeper c w)
      guarded_undone (tree.clause e s) w =
          bind (expression unit p size deeper e w) _ (expression_undone e w)
          (λ v w. either (is_true v) _ _ (bind (acts unit p size deeper s w) _ (acts_undone s w) (λ _ w. give _ w)) (give _ w))

  levels_undone : (n : ℕ) (s : Acts) (w : World) → Undone (levels_of unit p size n s w)
  levels_undone zero s w = spent w
  levels_undone (suc n) s w = acts_undone (levels_of unit p size n) (λ s w. levels_undone n s w) s w

  pub whole_arguments_undone : (es : Arguments) (w : World) → Undone (whole_arguments unit p size es w)
  whole_arguments_undone es w = arguments_undone (levels_of unit p size w.turns) (λ s v. levels_undone w.turns s v) es w

  pub whole_assignment_undone : (v : Place) (e : Expression) (w : World) → Undone (whole_assignment unit p size v e w)
  whole_assignment_undone v e w = assigned_undone (levels_of unit p size w.turns) (λ s v. levels_undone w.turns s v) v e w

  pub whole_condition_undone : (e : Expression) (w : World) → Undone (whole_condition unit p size e w)
  whole_condition_undone e w =
      bind (expression unit p size (levels_of unit p size w.turns) e w) _
      (expression_undone (levels_of unit p size w.turns) (λ s v. levels_undone w.turns s v) e w) (λ v w. give _ w)

  pub whole_first_undone : (cs : Clauses) (w : World) → Undone (whole_first unit p size cs w)
  whole_first_undone cs w = first_undone (levels_of unit p size w.turns) (λ s v. levels_undone w.turns s v) cs w
