-- An evaluation changes a world in few ways: it takes a turn, stores a value, calls the system, enters and leaves a
-- block. A fact that each of these keeps is kept by every evaluation.
use Rattle.std.proofs.Common.{◌≡◌, ℕ, zero, suc, ◌<◌, ◌≤◌, Bool, true, false, if◌then◌else◌, List, [], ◌∷◌, Option, Some, None, refl, sym, arith}
use Rattle.std.specs.Prelude.{⊤, pos, nat_lt}
use Rattle.edi_calls.specs.declared.kinds.Cause.TheVariants as cause
use Rattle.edi_calls.specs.Calls.{CallResult, answered, no_file, file_limit, call}
use Rattle.edi_calls.specs.Names.{Name}
use Rattle.edi_calls.specs.Outcome as outcome
use Rattle.edi_calls.specs.Outcome.{Ending}
use Rattle.edi_calls.specs.State.{State, Traced, after_call}
use Rattle.edi_unit.specs.declared.expressions.Callee.{Callee}
use Rattle.edi_unit.specs.Types.{Shape, shape_at, is_set_shape, array_of, int, char, bool, enumeration, record_of, set_of}
use Rattle.edi_unit.specs.Values.{Value, ordinal, is_true, decides, apply, sign, converted, with_ordinal, ordinal_of, element_at}
use Rattle.edi_unit.specs.Need.{block_at}
use Rattle.edi_unit.specs.Tree as tree
use Rattle.edi_unit.specs.Tree.{Expression, Expressions, Link, Links, Place, Part, Parts, Argument, Arguments, Act, Acts, Clause, Clauses, ProgramUnit}
use Rattle.edi_meaning.specs.Store.{Spot, Location, Closure, system_procedure, block_procedure, Cell, value, location, procedure, shape, room, slot, put}
use Rattle.edi_meaning.specs.Store.{grown, shrunk}
use Rattle.edi_meaning.specs.Evaluation.{World, Evaluation, gives, ends, ◌>>=◌, stops, turn_from, turn}
use Rattle.edi_meaning.specs.Whole.{in_range, Designated, part_of, element_of, words_of_cells, answer_in, answered_by, system_call, meant, instance_of}
use Rattle.edi_meaning.specs.Whole.{entered, left, result_of, named, function_body, function_call, expression, expressions, members_of, linked, operated}
use Rattle.edi_meaning.specs.Whole.{designated, parts, part, argument, arguments, procedure_body, procedure_call, assigned, act, acts, first, guarded}
use Rattle.edi_meaning.specs.Whole.{levels_of, whole_arguments, whole_assignment, whole_condition, whole_first}

-- an evaluation never ends as a standstill, which is for the kernel to see, nor as bad, which is an ending of code alone
abbrev pub IsOwn : Ending → Type 0
IsOwn outcome.done = ⊤
IsOwn (outcome.halted line) = ⊤
IsOwn (outcome.failed c line) = ⊤
IsOwn outcome.turns = ⊤
IsOwn outcome.standstill = ⊥
IsOwn (outcome.bad address) = ⊥

-- with so many turns left: by turns it ends only where none is left
abbrev pub IsOver : Ending → (turns : ℕ) → Type 0
IsOver outcome.done n = ⊤
IsOver (outcome.halted line) n = ⊤
IsOver (outcome.failed c line) n = ⊤
IsOver outcome.turns n = n ≡ 0
IsOver outcome.standstill n = ⊥
IsOver (outcome.bad address) n = ⊥

pub own_over : (e : Ending) (n : ℕ) → IsOver e n → IsOwn e
own_over outcome.standstill n h = h
own_over (outcome.bad address) n h = h
own_over e n h = tt

pub spent_over : (e : Ending) (n : ℕ) → IsOver e n → e ≡ outcome.turns → n ≡ 0
spent_over outcome.done n h e = absurd (cc)
spent_over (outcome.halted line) n h e = absurd (cc)
spent_over (outcome.failed c line) n h e = absurd (cc)
spent_over outcome.turns n h e = h
spent_over outcome.standstill n h e = absurd h
spent_over (outcome.bad address) n h e = absurd h

-- P of each element
abbrev pub Every : {A : Type 0} → (A → Type 0) → List A → Type 0
Every P [] = ⊤
Every P (x ∷ xs) = P x × Every P xs

-- of every value
abbrev pub Any : {A : Type 0} → A → Type 0
Any a = ⊤

-- D of what a run gives and of the world after it; E of how it ends the program
abbrev pub Gives : {A : Type 0} → (A → World → Type 0) → (Ending → Traced → ℕ → Type 0) → Evaluation A → Type 0
Gives D E (gives a w) = D a w
Gives D E (ends ending system turns) = E ending system turns

-- A fact about the worlds of an evaluation of p, which may speak of a level that a call changes and its end restores;
-- what then holds of an end of the program, and of the locations and the cells that the evaluation comes to; and that
-- each change keeps it.
pub record Lasting (unit : ProgramUnit) (p : Name) (size : ℕ) : Type 1 where
  pub Level : Type 0
  pub Holds : Level → World → Type 0
  pub Ends : Ending → Traced → ℕ → Type 0
  pub Comes : Level → Location → Type 0
  pub Fits : Level → Cell → Type 0
  pub over : (x : Level) (e : Ending) (w : World) → IsOver e w.turns → Holds x w → Ends e w.system w.turns
  pub turned : (x : Level) (n : ℕ) (w : World) → w.turns ≡ suc n → Holds x w → Holds x (record w { turns = n })
  pub stored : (x : Level) (l : Location) (v : Value) (w : World) → Comes x l → Holds x w → Holds x (record w { store = put w.store l v })
  pub replied : (x : Level) (number : ℕ) (asked words : List ℕ) (system : State) (w : World) → call number asked w.system.now ≡ answered words system
      → Holds x w → Holds x (record w { system = after_call system w.system })
  pub called : (x : Level) (number : ℕ) (parent : Spot) (cells : List Cell) (w : World) → Fits x (procedure (block_procedure number parent))
      → Every (Fits x) cells → Holds x w →
      (y : Level) × Holds y (record w { store = grown p (instance_of unit p size number parent cells) w.store })
      × ((v : World) → Holds y v → Holds x (record v { store = shrunk p v.store }))
  pub of_slot : (x : Level) (levels variable : ℕ) (w : World) → Holds x w → Comes x (slot w.store p levels variable)
  pub of_part : (x : Level) (l : Location) (n : ℕ) → Comes x l → Comes x (part_of l n)
  pub by_value : (x : Level) (v : Value) → Fits x (value v)
  pub by_location : (x : Level) (l : Location) → Comes x l → Fits x (location l)
  pub to_location : (x : Level) (l : Location) → Fits x (location l) → Comes x l
  pub by_procedure : (x : Level) (c : Callee) (w : World) → Holds x w → Fits x (procedure (meant unit p size c w))

module _ {unit : ProgramUnit} {p : Name} {size : ℕ} (s : Lasting unit p size) where
  -- P of what is given and of the world after it; or the program has ended
  pub record Keeps {A : Type 0} (P : A → World → Type 0) (r : Evaluation A) : Type 0 where
    pub is : Gives P s.Ends r

  -- V of a value, and the fact of the world
  abbrev pub At : {A : Type 0} → s.Level → (A → Type 0) → A → World → Type 0
  At x V a w = V a × s.Holds x w

  -- ---- the ways to put runs together

  pub give : {A : Type 0} (P : A → World → Type 0) (a : A) (w : World) → P a w → Keeps P (gives a w)
  give P a w h = record { is = h }

  pub stop : {A : Type 0} (x : s.Level) (P : A → World → Type 0) (e : Ending) (w : World) → IsOver e w.turns → s.Holds x w → Keeps P (stops e w)
  stop x P e w o h = record { is = s.over x e w o h }

  pub bind : {A B : Type 0} (x : s.Level) (V : A → Type 0) (P : B → World → Type 0) (r : Evaluation A) (f : A → World → Evaluation B) → Keeps (At x V) r
      → ((a : A) (w : World) → V a → s.Holds x w → Keeps P (f a w)) → Keeps P (r >>= f)
  bind x V P (gives a w) f h k = k a w h.is.0 h.is.1
  bind x V P (ends e system turns) f h k = record { is = h.is }

  pub turn_less : {A : Type 0} (x : s.Level) (P : A → World → Type 0) (n : ℕ) (w : World) (go : World → Evaluation A) → w.turns ≡ n → s.Holds x w
      → ((v : World) → suc v.turns ≡ w.turns → s.Holds x v → Keeps P (go v)) → Keeps P (turn_from n w go)
  turn_less x P zero w go e h k = stop x P outcome.turns w e h
  turn_less x P (suc n) w go e h k = k (record w { turns = n }) (sym e) (s.turned x n w e h)

  pub turn_keeps : {A : Type 0} (x : s.Level) (P : A → World → Type 0) (n : ℕ) (w : World) (go : World → Evaluation A) → w.turns ≡ n → s.Holds x w
      → ((w : World) → s.Holds x w → Keeps P (go w)) → Keeps P (turn_from n w go)
  turn_keeps x P n w go e h k = turn_less x P n w go e h (λ v less g. k v g)

  pub if_keeps : {A : Type 0} (P : A → World → Type 0) (b : Bool) (r t : Evaluation A) → Keeps P r → Keeps P t → Keeps P (if b then r else t)
  if_keeps P true r t h k = h
  if_keeps P false r t h k = k

  -- ---- what needs no tree

  pub range_keeps : {A : Type 0} (x : s.Level) (line : ℕ) (o : Option A) (w : World) → s.Holds x w → Keeps (At x Any) (in_range line o w)
  range_keeps x line None w h = stop x _ (outcome.failed cause.Range line) w tt h
  range_keeps x line (Some a) w h = give _ a w (tt, h)

  abbrev Located : s.Level → Designated → Type 0
  Located x d = s.Comes x d.at

  pub element_keeps : (x : s.Level) (shape : Shape) (line : ℕ) (l : Location) (v : Value) (w : World) → s.Comes x l → s.Holds x w
      → Keeps (At x (Located x)) (element_of shape line l v w)
  element_keeps x (array_of i lo hi e) line l v w c h = bind x Any _ _ _ (range_keeps x line (element_at lo hi v) w h)
      (λ n w _ h. give _ _ w ((s.of_part x l n c), h))
  element_keeps x int line l v w c h = give _ _ w (c, h)
  element_keeps x char line l v w c h = give _ _ w (c, h)
  element_keeps x bool line l v w c h = give _ _ w (c, h)
  element_keeps x (enumeration n) line l v w c h = give _ _ w (c, h)
  element_keeps x (record_of fs) line l v w c h = give _ _ w (c, h)
  element_keeps x (set_of b) line l v w c h = give _ _ w (c, h)

  pub answer_keeps : (x : s.Level) (cells : List Cell) (words : List ℕ) (w : World) → Every (s.Fits x) cells → s.Holds x w
      → s.Holds x (record w { store = answer_in cells words w.store })
  answer_keeps x [] words w f h = h
  answer_keeps x (location l ∷ cells) [] w f h = answer_keeps x cells [] w f.1 h
  answer_keeps x (location l ∷ cells) (word ∷ words) w f h = s.stored x l (ordinal (pos word)) w (s.to_location x l f.0) h
  answer_keeps x (value v ∷ cells) words w f h = answer_keeps x cells words w f.1 h
  answer_keeps x (procedure c ∷ cells) words w f h = answer_keeps x cells words w f.1 h

  pub answered_keeps : (x : s.Level) (number : ℕ) (asked : List ℕ) (result : CallResult) (cells : List Cell) (line : ℕ) (w : World)
      → call number asked w.system.now ≡ result → Every (s.Fits x) cells → s.Holds x w → Keeps (At x Any) (answered_by result cells line w)
  answered_keeps x number asked (answered words system) cells line w e f h =
      give _ tt _ (tt, answer_keeps x cells words (record w { system = after_call system w.system }) f (s.replied x number asked words system w e h))
  answered_keeps x number asked no_file cells line w e f h = stop x _ (outcome.failed cause.NoFile line) w tt h
  answered_keeps x number asked file_limit cells line w e f h = stop x _ (outcome.failed cause.FileLimit line) w tt h

  pub system_keeps : (x : s.Level) (number : ℕ) (cells : List Cell) (line : ℕ) (w : World) → Every (s.Fits x) cells → s.Holds x w
      → Keeps (At x Any) (system_call number cells line w)
  system_keeps x number cells line w f h = answered_keeps x number (words_of_cells cells) (call number (words_of_cells cells) w.system.now) cells line w refl
      f h

  -- a block is entered, and what comes then begins at the level inside
  pub entered_keeps : {A : Type 0} (x : s.Level) (P : A → World → Type 0) (number : ℕ) (parent : Spot) (cells : List Cell) (line : ℕ) (w : World)
      (go : World → Evaluation A) →
      s.Fits x (procedure (block_procedure number parent)) → Every (s.Fits x) cells → s.Holds x w →
      ((y : s.Level) → ((v : World) → s.Holds y v → s.Holds x (record v { store = shrunk p v.store })) → (v : World) → suc v.turns ≡ w.turns → s.Holds y v
      → Keeps P (go v)) → Keeps P (entered unit p size number parent cells line w go)
  entered_keeps x P number parent cells line w go c f h k =
      if_keeps P (nat_lt (room size (shape w.store p)) (block_at unit.blocks number).need) _ _ (stop x P (outcome.failed cause.VariableLimit line) w tt h)
      (turn_less x P w.turns w _ refl h (λ v less g. k (s.called x number parent cells v c f g).0 (s.called x number parent cells v c f g).2 _ less
      (s.called x number parent cells v c f g).1))

  pub left_keeps : {A : Type 0} (x y : s.Level) (P : A → World → Type 0) (w : World) (go : World → Evaluation A)
      → ((v : World) → s.Holds y v → s.Holds x (record v { store = shrunk p v.store })) → s.Holds y w →
      ((w : World) → s.Holds x w → Keeps P (go w)) → Keeps P (left unit p size w go)
  left_keeps x y P w go back h k = turn_keeps y P w.turns w _ refl h (λ w h. k _ (back w h))

  -- ---- what follows the tree

  -- a level deeper is reached behind a turn: with fewer than n turns left, where n is a bound of them at this level
  module _ (n : ℕ) (within : (x : s.Level) (w : World) → s.Holds x w → w.turns ≤ n) (deeper : Acts → World → Evaluation (Unit {0}))
      (deep : (x : s.Level) (as' : Acts) (w : World) → w.turns < n → s.Holds x w → Keeps (At x Any) (deeper as' w)) where
    pub function_keeps : (x : s.Level) (c : Closure) (cells : List Cell) (line : ℕ) (w : World) → s.Fits x (procedure c) → Every (s.Fits x) cells → s.Holds x w
        → Keeps (At x Any) (function_call unit p size deeper c cells line w)
    function_keeps x (block_procedure number parent) cells line w c f h =
        entered_keeps x _ number parent cells line w (function_body unit p size deeper number) c f h
        (λ y back v less g. bind y Any _ _ _ (deep y (block_at unit.blocks number).body v (omega (arith, less, within x w h)) g)
        (λ _ w _ h. left_keeps x y _ w (gives (result_of unit p size w)) back h (λ w h. give _ _ w (tt, h))))
    function_keeps x (system_procedure number) cells line w c f h = give _ _ w (tt, h)

    mutual
      pub expression_keeps : (x : s.Level) (e : Expression) (w : World) → s.Holds x w → Keeps (At x Any) (expression unit p size deeper e w)
      expression_keeps x (tree.constant of n) w h = give _ _ w (tt, h)
      expression_keeps x (tree.load v) w h = bind x (Located x) _ _ _ (designated_keeps x v w h) (λ d w _ h. give _ _ w (tt, h))
      expression_keeps x (tree.not_of e) w h = bind x Any _ _ _ (expression_keeps x e w h) (λ v w _ h. give _ _ w (tt, h))
      expression_keeps x (tree.sign_of e line) w h = bind x Any _ _ _ (expression_keeps x e w h) (λ v w _ h. range_keeps x line (sign v) w h)
      expression_keeps x (tree.chain e ls) w h = bind x Any _ _ _ (expression_keeps x e w h) (λ v w _ h. linked_keeps x v ls w h)
      expression_keeps x (tree.make of es line) w h =
          if_keeps _ (is_set_shape (shape_at unit.types of)) _ _
          (bind x Any _ _ _ (members_keeps x [] es line w h) (λ set w _ h. give _ _ w (tt, h)))
          (bind x Any _ _ _ (expressions_keeps x es w h) (λ vs w _ h. give _ _ w (tt, h)))
      expression_keeps x (tree.convert of e line) w h =
          bind x Any _ _ _ (expression_keeps x e w h) (λ v w _ h. range_keeps x line (converted (shape_at unit.types of) v) w h)
      expression_keeps x (tree.apply_of c es line) w h =
          bind x (Every (s.Fits x)) _ _ _ (arguments_keeps x es w h)
          (λ cells w f h. function_keeps x (meant unit p size c w) cells line w (s.by_procedure x c w h) f h)

      pub expressions_keeps : (x : s.Level) (es : Expressions) (w : World) → s.Holds x w → Keeps (At x Any) (expressions unit p size deeper es w)
      expressions_keeps x tree.no_expression w h = give _ _ w (tt, h)
      expressions_keeps x (tree.expression_then e es) w h =
          bind x Any _ _ _ (expression_keeps x e w h) (λ v w _ h. bind x Any _ _ _ (expressions_keeps x es w h) (λ vs w _ h. give _ _ w (tt, h)))

      pub members_keeps : (x : s.Level) (set : List ℕ) (es : Expressions) (line : ℕ) (w : World) → s.Holds x w
          → Keeps (At x Any) (members_of unit p size deeper set es line w)
      members_keeps x set tree.no_expression line w h = give _ _ w (tt, h)
      members_keeps x set (tree.expression_then e es) line w h =
          bind x Any _ _ _ (expression_keeps x e w h)
          (λ v w _ h. bind x Any _ _ _ (range_keeps x line (with_ordinal set (ordinal_of v)) w h) (λ set w _ h. members_keeps x set es line w h))

      pub linked_keeps : (x : s.Level) (v : Value) (ls : Links) (w : World) → s.Holds x w → Keeps (At x Any) (linked unit p size deeper v ls w)
      linked_keeps x v tree.no_link w h = give _ _ w (tt, h)
      linked_keeps x v (tree.link_then l ls) w h = bind x Any _ _ _ (operated_keeps x v l w h) (λ v w _ h. linked_keeps x v ls w h)

      pub operated_keeps : (x : s.Level) (v : Value) (l : Link) (w : World) → s.Holds x w → Keeps (At x Any) (operated unit p size deeper v l w)
      operated_keeps x v (tree.link o e line) w h =
          if_keeps _ (decides o v) _ _ (give _ _ w (tt, h)) (bind x Any _ _ _ (expression_keeps x e w h) (λ u w _ h. range_keeps x line (apply o v u) w h))

      pub designated_keeps : (x : s.Level) (v : Place) (w : World) → s.Holds x w → Keeps (At x (Located x)) (designated unit p size deeper v w)
      designated_keeps x (tree.place levels variable ps) w h = parts_keeps x (named unit p size levels variable w.store) ps w
          (s.of_slot x levels variable w h) h

      pub parts_keeps : (x : s.Level) (d : Designated) (ps : Parts) (w : World) → Located x d → s.Holds x w
          → Keeps (At x (Located x)) (parts unit p size deeper d ps w)
      parts_keeps x d tree.no_part w c h = give _ d w (c, h)
      parts_keeps x d (tree.part_then q qs) w c h = bind x (Located x) _ _ _ (part_keeps x d q w c h) (λ d w c h. parts_keeps x d qs w c h)

      pub part_keeps : (x : s.Level) (d : Designated) (q : Part) (w : World) → Located x d → s.Holds x w → Keeps (At x (Located x)) (part unit p size deeper d q w)
      part_keeps x d (tree.field n) w c h = give _ _ w ((s.of_part x d.at n c), h)
      part_keeps x d (tree.index e line) w c h = bind x Any _ _ _ (expression_keeps x e w h)
          (λ v w _ h. element_keeps x (shape_at unit.types d.of) line d.at v w c h)

      pub argument_keeps : (x : s.Level) (a : Argument) (w : World) → s.Holds x w → Keeps (At x (s.Fits x)) (argument unit p size deeper a w)
      argument_keeps x (tree.by_value e) w h = bind x Any _ _ _ (expression_keeps x e w h) (λ v w _ h. give _ _ w ((s.by_value x v), h))
      argument_keeps x (tree.by_variable v) w h = bind x (Located x) _ _ _ (designated_keeps x v w h) (λ d w c h. give _ _ w ((s.by_location x d.at c), h))
      argument_keeps x (tree.by_procedure c) w h = give _ _ w ((s.by_procedure x c w h), h)

      pub arguments_keeps : (x : s.Level) (es : Arguments) (w : World) → s.Holds x w → Keeps (At x (Every (s.Fits x))) (arguments unit p size deeper es w)
      arguments_keeps x tree.no_argument w h = give _ [] w (tt, h)
      arguments_keeps x (tree.argument_then a as') w h =
          bind x (s.Fits x) _ _ _ (argument_keeps x a w h)
          (λ c w f h. bind x (Every (s.Fits x)) _ _ _ (arguments_keeps x as' w h) (λ cs w fs h. give _ (c ∷ cs) w ((f, fs), h)))

    pub procedure_keeps : (x : s.Level) (c : Closure) (cells : List Cell) (line : ℕ) (w : World) → s.Fits x (procedure c) → Every (s.Fits x) cells → s.Holds x w
        → Keeps (At x Any) (procedure_call unit p size deeper c cells line w)
    procedure_keeps x (block_procedure number parent) cells line w c f h =
        entered_keeps x _ number parent cells line w (procedure_body unit p size deeper number) c f h
        (λ y back v less g. bind y Any _ _ _ (deep y (block_at unit.blocks number).body v (omega (arith, less, within x w h)) g)
        (λ _ w _ h. left_keeps x y _ w (gives tt) back h (λ w h. give _ _ w (tt, h))))
    procedure_keeps x (system_procedure number) cells line w c f h = system_keeps x number cells line w f h

    pub assigned_keeps : (x : s.Level) (v : Place) (e : Expression) (w : World) → s.Holds x w → Keeps (At x Any) (assigned unit p size deeper v e w)
    assigned_keeps x v e w h =
        bind x (Located x) _ _ _ (designated_keeps x v w h)
        (λ d w c h. bind x Any _ _ _ (expression_keeps x e w h) (λ v w _ h. give _ _ _ (tt, s.stored x d.at v w c h)))

    pub again_keeps : (x : s.Level) (cs : Clauses) (ran : Bool) (w : World) → s.Holds x w
        → Keeps (At x Any) (if ran then turn w (deeper (tree.act_then (tree.while_act cs) tree.no_act)) else gives (tt {0}) w)
    again_keeps x cs true w h = turn_less x _ w.turns w _ refl h
        (λ v less g. deep x (tree.act_then (tree.while_act cs) tree.no_act) v (omega (arith, less, within x w h)) g)
    again_keeps x cs false w h = give _ _ w (tt, h)

    mutual
      pub act_keeps : (x : s.Level) (a : Act) (w : World) → s.Holds x w → Keeps (At x Any) (act unit p size deeper a w)
      act_keeps x tree.skip w h = give _ _ w (tt, h)
      act_keeps x (tree.assign v e) w h = assigned_keeps x v e w h
      act_keeps x (tree.call c es line) w h =
          bind x (Every (s.Fits x)) _ _ _ (arguments_keeps x es w h)
          (λ cells w f h. procedure_keeps x (meant unit p size c w) cells line w (s.by_procedure x c w h) f h)
      act_keeps x (tree.halt line) w h = stop x _ (outcome.halted line) w tt h
      act_keeps x (tree.if_act cs) w h = bind x Any _ _ _ (first_keeps x cs w h) (λ _ w _ h. give _ _ w (tt, h))
      act_keeps x (tree.while_act cs) w h = bind x Any _ _ _ (first_keeps x cs w h) (λ ran w _ h. again_keeps x cs ran w h)
      act_keeps x (tree.when_act cs line) w h = stop x _ (outcome.failed cause.Held line) w tt h
      act_keeps x (tree.cobegin bs line) w h = stop x _ (outcome.failed cause.Held line) w tt h

      pub acts_keeps : (x : s.Level) (as' : Acts) (w : World) → s.Holds x w → Keeps (At x Any) (acts unit p size deeper as' w)
      acts_keeps x tree.no_act w h = give _ _ w (tt, h)
      acts_keeps x (tree.act_then a as') w h = bind x Any _ _ _ (act_keeps x a w h) (λ _ w _ h. acts_keeps x as' w h)

      pub first_keeps : (x : s.Level) (cs : Clauses) (w : World) → s.Holds x w → Keeps (At x Any) (first unit p size deeper cs w)
      first_keeps x tree.no_clause w h = give _ _ w (tt, h)
      first_keeps x (tree.clause_then c cs) w h =
          bind x Any _ _ _ (guarded_keeps x c w h) (λ ran w _ h. if_keeps _ ran _ _ (give _ _ w (tt, h)) (first_keeps x cs w h))

      pub guarded_keeps : (x : s.Level) (c : Clause) (w : World) → s.Holds x w → Keeps (At x Any) (guarded unit p size deeper c w)
      guarded_keeps x (tree.clause e as') w h =
          bind x Any _ _ _ (expression_keeps x e w h)
          (λ v w _ h. if_keeps _ (is_true v) _ _ (bind x Any _ _ _ (acts_keeps x as' w h) (λ _ w _ h. give _ _ w (tt, h))) (give _ _ w (tt, h)))

-- ---- the levels of an evaluation

-- the same fact, with at most n turns left
abbrev pub bounded : {unit : ProgramUnit} {p : Name} {size : ℕ} → Lasting unit p size → ℕ → Lasting unit p size
bounded s n = record {
  Level = s.Level;
  Holds = λ x w. (w.turns ≤ n) × s.Holds x w;
  Ends = s.Ends;
  Comes = s.Comes;
  Fits = s.Fits;
  over = λ x e w o h. s.over x e w o h.1;
  turned = λ x m w e h. (omega (arith, e, h.0), s.turned x m w e h.1);
  stored = λ x l v w c h. (h.0, s.stored x l v w c h.1);
  replied = λ x number asked words system w e h. (h.0, s.replied x number asked words system w e h.1);
  called = λ x number parent cells w c f h.
      let y = s.called x number parent cells w c f h.1 in
      (y.0, (h.0, y.1), λ v k. (k.0, y.2 v k.1));
  of_slot = λ x levels variable w h. s.of_slot x levels variable w h.1;
  of_part = s.of_part;
  by_value = s.by_value;
  by_location = s.by_location;
  to_location = s.to_location;
  by_procedure = λ x c w h. s.by_procedure x c w h.1;
}

pub widen : {unit : ProgramUnit} {p : Name} {size : ℕ} {A : Type 0} (s : Lasting unit p size) (n : ℕ) (x : s.Level) (V : A → Type 0) (r : Evaluation A)
    → Keeps (bounded s n) (At (bounded s n) x V) r → Keeps s (At s x V) r
widen s n x V (gives a w) k = record { is = (k.is.0, k.is.1.1) }
widen s n x V (ends e system turns) k = record { is = k.is }

-- a level is reached with fewer turns left than there are levels from it on, so the last one never is
pub levels_keep : {unit : ProgramUnit} {p : Name} {size : ℕ} (n : ℕ) (s : Lasting unit p size) (x : s.Level) (as' : Acts) (w : World) → w.turns < n → s.Holds x w
    → Keeps s (At s x Any) (levels_of unit p size n as' w)
levels_keep zero s x as' w few h = absurd (omega (arith, few))
levels_keep {unit} {p} {size} (suc n) s x as' w few h =
    widen s n x Any (acts unit p size (levels_of unit p size n) as' w)
    (acts_keeps (bounded s n) n (λ y v g. g.0) (levels_of unit p size n) (λ y more v less g. levels_keep n (bounded s n) y more v less g) x as' w
    (omega (arith, few), h))

-- ---- evaluations to the end

module _ {unit : ProgramUnit} {p : Name} {size : ℕ} (s : Lasting unit p size) where
  abbrev whole_of : (w : World) → Lasting unit p size
  whole_of w = bounded s w.turns

  deepest : (w : World) (x : s.Level) (as' : Acts) (v : World) → v.turns < w.turns → (whole_of w).Holds x v → Keeps (whole_of w) (At (whole_of w) x Any)
      (levels_of unit p size w.turns as' v)
  deepest w x as' v less g = levels_keep w.turns (whole_of w) x as' v less g

  pub whole_arguments_keep : (x : s.Level) (es : Arguments) (w : World) → s.Holds x w → Keeps s (At s x (Every (s.Fits x))) (whole_arguments unit p size es w)
  whole_arguments_keep x es w h =
      widen s w.turns x (Every (s.Fits x)) _ (arguments_keeps (whole_of w) w.turns (λ y v g. g.0) (levels_of unit p size w.turns) (deepest w) x es w
      (omega arith, h))

  pub whole_assignment_keeps : (x : s.Level) (v : Place) (e : Expression) (w : World) → s.Holds x w → Keeps s (At s x Any) (whole_assignment unit p size v e w)
  whole_assignment_keeps x v e w h =
      widen s w.turns x Any _ (assigned_keeps (whole_of w) w.turns (λ y v g. g.0) (levels_of unit p size w.turns) (deepest w) x v e w (omega arith, h))

  pub whole_condition_keeps : (x : s.Level) (e : Expression) (w : World) → s.Holds x w → Keeps s (At s x Any) (whole_condition unit p size e w)
  whole_condition_keeps x e w h =
      bind s x Any _ _ _ (widen s w.turns x Any _
      (expression_keeps (whole_of w) w.turns (λ y v g. g.0) (levels_of unit p size w.turns) (deepest w) x e w (omega arith, h)))
      (λ v w _ h. give s _ _ w (tt, h))

  pub whole_first_keeps : (x : s.Level) (cs : Clauses) (w : World) → s.Holds x w → Keeps s (At s x Any) (whole_first unit p size cs w)
  whole_first_keeps x cs w h =
      widen s w.turns x Any _ (first_keeps (whole_of w) w.turns (λ y v g. g.0) (levels_of unit p size w.turns) (deepest w) x cs w (omega arith, h))
