-- Definition. Evaluation to the end: of expressions, and of the statements of functions and of critical phases. It follows the tree,
-- from left to right. The body of a call and a further turn of a loop are left to `deeper`: each of them takes a turn
-- first, so the turns bound how deep it goes.
use Rattle.std.specs.Prelude.{ℕ, zero, suc, pos, Bool, true, false, nat_lt, if◌then◌else◌, List, [], ◌∷◌, ◌++◌, map, Option, Some, None, slice_get, unwrap_or}
use Rattle.edi_calls.specs.declared.kinds.Cause.TheVariants as cause
use Rattle.edi_calls.specs.Calls.{CallResult, answered, no_file, file_limit, call}
use Rattle.edi_calls.specs.Names.{Name}
use Rattle.edi_calls.specs.State.{after_call}
use Rattle.edi_calls.specs.Outcome as outcome
use Rattle.edi_unit.specs.declared.expressions.Callee.{Callee}
use Rattle.edi_unit.specs.declared.expressions.Callee.TheVariants as callee
use Rattle.edi_unit.specs.Types.{Shape, shape_at, is_set_shape, array_of, field_type, natural}
use Rattle.edi_unit.specs.Values.{Value, ordinal, compound, members, Values, no_value, value_then, values, zero_value, ordinal_of, is_true, apply, decides}
use Rattle.edi_unit.specs.Values.{sign, negation, converted, with_ordinal, element_at}
use Rattle.edi_unit.specs.Need.{block_at, slots, slot_type}
use Rattle.edi_unit.specs.Tree as tree
use Rattle.edi_unit.specs.Tree.{Expression, Expressions, Link, Links, Place, Part, Parts, Argument, Arguments, Act, Acts, Clause, Clauses, Block, ProgramUnit}
use Rattle.edi_meaning.specs.Store.{Spot, Location, Closure, system_procedure, block_procedure, Cell, value, location, procedure, Instance, Store, shape}
use Rattle.edi_meaning.specs.Store.{frame_at, reached, now, room, slot, get, put, formal, grown, shrunk}
use Rattle.edi_meaning.specs.Evaluation.{World, Evaluation, gives, ◌>>=◌, stops, fails, turn}

-- ---- failures of evaluation

-- the value, or the failure `range` at a line
abbrev pub in_range : {A : Type 0} → (line : ℕ) → Option A → World → Evaluation A
in_range line None w = fails cause.Range line w
in_range line (Some x) w = gives x w

-- ---- places

-- a part of a variable with its type
pub record Designated : Type 0 where
  pub at : Location
  pub of : ℕ

abbrev pub part_of : Location → ℕ → Location
part_of l n = record l { path = l.path ++ n ∷ [] }

-- the element at an index, which has to be within the bounds
abbrev pub element_of : Shape → (line : ℕ) → Location → Value → World → Evaluation Designated
element_of (array_of index lo hi element) line l v w =
    in_range line (element_at lo hi v) w >>= λ n w. gives (record { at = part_of l n; of = element }) w
element_of _ line l v w = gives (record { at = l; of = 0 }) w

-- ---- calls

-- an argument's words for a system call: the ordinals of its parts
abbrev pub words_of_values : Values → List ℕ
words_of_values no_value = []
words_of_values (value_then v vs) = natural (ordinal_of v) ∷ words_of_values vs

abbrev pub words_of_value : Value → List ℕ
words_of_value (ordinal n) = natural n ∷ []
words_of_value (compound vs) = words_of_values vs
words_of_value (members set) = []

abbrev pub words_of_cells : List Cell → List ℕ
words_of_cells [] = []
words_of_cells (value v ∷ cells) = words_of_value v ++ words_of_cells cells
words_of_cells (_ ∷ cells) = words_of_cells cells

-- the answer of a system call is put where its `var` argument is
abbrev pub answer_in : List Cell → List ℕ → Store → Store
answer_in [] words store = store
answer_in (location l ∷ cells) (word ∷ words) store = put store l (ordinal (pos word))
answer_in (_ ∷ cells) words store = answer_in cells words store

-- a system call takes no turn
abbrev pub answered_by : CallResult → List Cell → (line : ℕ) → World → Evaluation (Unit {0})
answered_by (answered words system) cells line w = gives tt (record w { store = answer_in cells words w.store; system = after_call system w.system })
answered_by no_file cells line w = fails cause.NoFile line w
answered_by file_limit cells line w = fails cause.FileLimit line w

abbrev pub system_call : (number : ℕ) → List Cell → (line : ℕ) → World → Evaluation (Unit {0})
system_call number cells line w = answered_by (call number (words_of_cells cells) w.system.now) cells line w

-- the function variable, where there is one
abbrev pub result_cells : List Shape → Option ℕ → List Cell
result_cells types None = []
result_cells types (Some t) = value (zero_value types t) ∷ []

-- ---- everything of one process

module _ (unit : ProgramUnit) (p : Name) (size : ℕ) where
  -- the procedure that a callee means here
  abbrev pub meant : Callee → World → Closure
  meant (callee.Block levels number) w = block_procedure number (reached (shape w.store) levels (now (shape w.store) p))
  meant (callee.Formal levels variable) w = formal w.store p levels variable

  -- a new instance of a block: the zero value of its function variable, the arguments, and zero values
  abbrev pub instance_of : (number : ℕ) → (parent : Spot) → List Cell → Instance
  instance_of number parent arguments =
      let b = block_at unit.blocks number in
      record {
        frame = record { block = number; need = b.need; parent = parent };
        cells = result_cells unit.types b.result ++ (arguments ++ map (λ t. value (zero_value unit.types t)) b.variables);
      }

  -- a block is entered: it has to find room, and takes a turn
  abbrev pub entered : {A : Type 0} → (number : ℕ) → (parent : Spot) → List Cell → (line : ℕ) → World → (World → Evaluation A) → Evaluation A
  entered number parent arguments line w go =
      if nat_lt (room size (shape w.store p)) (block_at unit.blocks number).need
      then fails cause.VariableLimit line w
      else turn w (λ w. go (record w { store = grown p (instance_of number parent arguments) w.store }))

  -- it is left after a turn
  abbrev pub left : {A : Type 0} → World → (World → Evaluation A) → Evaluation A
  left w go = turn w (λ w. go (record w { store = shrunk p w.store }))

  -- the value of the newest instance's function variable
  abbrev pub result_of : World → Value
  result_of w = get w.store (record { spot = now (shape w.store) p; variable = 0; path = [] })

  -- the variable of a slot, with its type
  abbrev pub named : (levels variable : ℕ) → Store → Designated
  named levels variable store =
      let here = reached (shape store) levels (now (shape store) p) in
      record {
        at = slot store p levels variable;
        of = slot_type (slice_get (slots (block_at unit.blocks (frame_at (shape store) here).block)) variable);
      }

  module _ (deeper : Acts → World → Evaluation (Unit {0})) where
    -- the body of a function one level deeper, and its result
    abbrev pub function_body : (number : ℕ) → World → Evaluation Value
    function_body number w = deeper (block_at unit.blocks number).body w >>= λ _ w. left w (gives (result_of w))

    abbrev pub function_call : Closure → List Cell → (line : ℕ) → World → Evaluation Value
    function_call (block_procedure number parent) arguments line w =
        entered number parent arguments line w (function_body number)
    function_call (system_procedure number) arguments line w = gives (ordinal (pos 0)) w

    abbrev mutual
      pub expression : Expression → World → Evaluation Value
      expression (tree.constant of n) w = gives (ordinal n) w
      expression (tree.load v) w = designated v w >>= λ d w. gives (get w.store d.at) w
      expression (tree.not_of e) w = expression e w >>= λ v w. gives (negation v) w
      expression (tree.sign_of e line) w = expression e w >>= λ v w. in_range line (sign v) w
      expression (tree.chain e links) w = expression e w >>= λ v w. linked v links w
      expression (tree.make of es line) w =
          if is_set_shape (shape_at unit.types of)
          then (members_of [] es line w >>= λ set w. gives (members set) w)
          else (expressions es w >>= λ vs w. gives (compound (values vs)) w)
      expression (tree.convert of e line) w = expression e w >>= λ v w. in_range line (converted (shape_at unit.types of) v) w
      expression (tree.apply_of c es line) w = arguments es w >>= λ cells w. function_call (meant c w) cells line w

      pub expressions : Expressions → World → Evaluation (List Value)
      expressions tree.no_expression w = gives [] w
      expressions (tree.expression_then e es) w = expression e w >>= λ v w. expressions es w >>= λ vs w. gives (v ∷ vs) w

      -- the members of a set, each tested as soon as it is evaluated
      pub members_of : List ℕ → Expressions → (line : ℕ) → World → Evaluation (List ℕ)
      members_of set tree.no_expression line w = gives set w
      members_of set (tree.expression_then e es) line w =
          expression e w >>= λ v w. in_range line (with_ordinal set (ordinal_of v)) w >>= λ set w. members_of set es line w

      -- the operators of a chain, from the left
      pub linked : Value → Links → World → Evaluation Value
      linked v tree.no_link w = gives v w
      linked v (tree.link_then l ls) w = operated v l w >>= λ v w. linked v ls w

      pub operated : Value → Link → World → Evaluation Value
      operated v (tree.link o e line) w =
          if decides o v then gives v w else (expression e w >>= λ u w. in_range line (apply o v u) w)

      pub designated : Place → World → Evaluation Designated
      designated (tree.place levels variable ps) w = parts (named levels variable w.store) ps w

      pub parts : Designated → Parts → World → Evaluation Designated
      parts d tree.no_part w = gives d w
      parts d (tree.part_then q qs) w = part d q w >>= λ d w. parts d qs w

      pub part : Designated → Part → World → Evaluation Designated
      part d (tree.field n) w = gives (record { at = part_of d.at n; of = unwrap_or (field_type unit.types d.of n) 0 }) w
      part d (tree.index e line) w = expression e w >>= λ v w. element_of (shape_at unit.types d.of) line d.at v w

      pub argument : Argument → World → Evaluation Cell
      argument (tree.by_value e) w = expression e w >>= λ v w. gives (value v) w
      argument (tree.by_variable v) w = designated v w >>= λ d w. gives (location d.at) w
      argument (tree.by_procedure c) w = gives (procedure (meant c w)) w

      pub arguments : Arguments → World → Evaluation (List Cell)
      arguments tree.no_argument w = gives [] w
      arguments (tree.argument_then a as') w = argument a w >>= λ x w. arguments as' w >>= λ xs w. gives (x ∷ xs) w

    -- the body of a procedure one level deeper; or a call of the system
    abbrev pub procedure_body : (number : ℕ) → World → Evaluation (Unit {0})
    procedure_body number w = deeper (block_at unit.blocks number).body w >>= λ _ w. left w (gives tt)

    abbrev pub procedure_call : Closure → List Cell → (line : ℕ) → World → Evaluation (Unit {0})
    procedure_call (block_procedure number parent) cells line w = entered number parent cells line w (procedure_body number)
    procedure_call (system_procedure number) cells line w = system_call number cells line w

    -- `v := e`: the variable is determined first
    abbrev pub assigned : Place → Expression → World → Evaluation (Unit {0})
    assigned v e w =
        designated v w >>= λ d w. expression e w >>= λ x w. gives tt (record w { store = put w.store d.at x })

    abbrev mutual
      pub act : Act → World → Evaluation (Unit {0})
      act tree.skip w = gives tt w
      act (tree.assign v e) w = assigned v e w
      act (tree.call c es line) w = arguments es w >>= λ cells w. procedure_call (meant c w) cells line w
      act (tree.halt line) w = stops (outcome.halted line) w
      act (tree.if_act cs) w = first cs w >>= λ _ w. gives tt w
      act (tree.while_act cs) w =
          first cs w >>= λ ran w. if ran then turn w (deeper (tree.act_then (tree.while_act cs) tree.no_act)) else gives tt w
      act (tree.when_act cs line) w = fails cause.Held line w
      act (tree.cobegin bs line) w = fails cause.Held line w

      pub acts : Acts → World → Evaluation (Unit {0})
      acts tree.no_act w = gives tt w
      acts (tree.act_then a as') w = act a w >>= λ _ w. acts as' w

      -- the first list whose condition is true is executed; the answer says whether there was one
      pub first : Clauses → World → Evaluation Bool
      first tree.no_clause w = gives false w
      first (tree.clause_then c cs) w = guarded c w >>= λ ran w. if ran then gives true w else first cs w

      pub guarded : Clause → World → Evaluation Bool
      guarded (tree.clause e s) w =
          expression e w >>= λ v w. if is_true v then (acts s w >>= λ _ w. gives true w) else gives false w

  -- no more than so many levels deep
  abbrev pub levels_of : ℕ → Acts → World → Evaluation (Unit {0})
  levels_of zero s w = stops outcome.turns w
  levels_of (suc n) s w = acts (levels_of n) s w

  -- a level is reached after a turn, so there are no more levels than turns
  abbrev pub below : World → Acts → World → Evaluation (Unit {0})
  below w = levels_of w.turns

  -- WHOLE: an expression, arguments, an assignment, a condition list with its first true list, each to its end
  abbrev pub whole_arguments : Arguments → World → Evaluation (List Cell)
  whole_arguments es w = arguments (below w) es w

  abbrev pub whole_assignment : Place → Expression → World → Evaluation (Unit {0})
  whole_assignment v e w = assigned (below w) v e w

  abbrev pub whole_condition : Expression → World → Evaluation Bool
  whole_condition e w = expression (below w) e w >>= λ v w. gives (is_true v) w

  abbrev pub whole_first : Clauses → World → Evaluation Bool
  whole_first cs w = first (below w) cs w
