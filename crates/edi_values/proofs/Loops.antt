-- The loops over the lists of a tree: a start, a step, a fault and an end of each.
use Rattle.std.proofs.Common.{◌≡◌, ℕ, Bool, List, [], ◌∷◌, ◌++◌, map, Err, refl, ap, sym, ◌∙◌}
use Rattle.std.proofs.lemmas.List.{map-append, append-nil}
use Rattle.edi_tree.specs.declared.expressions.Addend as code_addend
use Rattle.edi_tree.specs.declared.expressions.Multiplier as code_multiplier
use Rattle.edi_tree.specs.declared.expressions.Selector as code_selector
use Rattle.edi_tree.specs.declared.expressions.Expr as code_expr
use Rattle.edi_tree.specs.Tree as text
use Rattle.edi_tree.specs.View as see
use Rattle.edi_tree.specs.View.{addend_of, multiplier_of, selector_of, expr_of}
use Rattle.edi_unit.specs.declared.expressions.Argument as code_argument
use Rattle.edi_unit.specs.Headings.{Formals}
use Rattle.edi_unit.specs.Tree.{Arguments, argument_then, Link, Links, no_link, link_then, Part, Parts}
use Rattle.edi_unit.specs.View as unit_see
use Rattle.edi_unit.specs.View.{argument_of, arguments_of}
use Rattle.edi_static.specs.declared.faults.StaticFault.{StaticFault}
use Rattle.edi_static.specs.declared.faults.StaticFault.TheVariants as fault
use Rattle.edi_static.specs.declared.operands.Typed as code_typed
use Rattle.edi_static.specs.Answers.{JudgedAnswers}
use Rattle.edi_static.specs.Judged.{Judged, gives, ◌>>=◌}
use Rattle.edi_static.specs.Environment.{Environment}
use Rattle.edi_static.specs.Operators.{Typed, Linked, Chained}
use Rattle.edi_static.specs.Fitting.{rest_of}
use Rattle.edi_static.specs.Expressions as rule
use Rattle.edi_static.specs.Expressions.{Parted, Reached}
use Rattle.edi_static.specs.Views.{typed_of}
use Rattle.edi_values.specs.Parts.{behind, elements}
use Rattle.edi_values.proofs.Behind.{Listing, link_lists, part_lists, behind_items, no_items, item_more, items_ended, bind_gives, behind_arguments}
use Rattle.edi_values.proofs.Behind.{arguments_ended}
use Rattle.edi_values.proofs.Steps.{argument_next, argument_fails, element_more, element_fails}

-- ---- addends, multipliers and selectors

-- a list of a tree whose items are judged one after another, each with the type that the one before gives
pub record Chain (I X P L R : Type 0) : Type 0 where
  pub lists : Listing X L R
  pub what : P → X
  pub next : P → ℕ
  pub one : ℕ → I → Judged P
  pub all : ℕ → List I → Judged R
  pub none_is : (of : ℕ) → all of [] ≡ gives (lists.make lists.end of)
  pub more_is : (of : ℕ) (i : I) (is : List I) →
      all of (i ∷ is) ≡ (one of i >>= λ p. all (next p) is >>= λ r. gives (lists.make (lists.put (what p) (lists.list r)) (lists.of r)))

-- operators with their right operands
abbrev operators_in : {I : Type 0} → (one : ℕ → I → Judged Linked) → (all : ℕ → List I → Judged Chained) →
    ((of : ℕ) → all of [] ≡ gives (record { links = no_link; of = of })) →
    ((of : ℕ) (i : I) (is : List I) →
    all of (i ∷ is) ≡ (one of i >>= λ l. all l.of is >>= λ c. gives (record { links = link_then l.what c.links; of = c.of }))) →
    Chain I Link Linked Links Chained
operators_in one all none_is more_is = record {
  lists = link_lists;
  what = λ l. l.what;
  next = λ l. l.of;
  one = one;
  all = all;
  none_is = none_is;
  more_is = more_is;
}

abbrev pub addends_in : Environment → Chain code_addend.Addend Link Linked Links Chained
addends_in env =
    operators_in (λ of a. rule.addend env of (addend_of a)) (λ of rest. rule.addends env of (see.addends (map addend_of rest))) (λ of. refl)
    (λ of a rest. refl)

abbrev pub multipliers_in : Environment → Chain code_multiplier.Multiplier Link Linked Links Chained
multipliers_in env =
    operators_in (λ of m. rule.multiplier env of (multiplier_of m)) (λ of rest. rule.multipliers env of (see.multipliers (map multiplier_of rest)))
    (λ of. refl) (λ of m rest. refl)

abbrev pub selectors_in : Environment → Chain code_selector.Selector Part Parted Parts Reached
selectors_in env = record {
  lists = part_lists;
  what = λ p. p.what;
  next = λ p. p.of;
  one = λ of s. rule.selector env of (selector_of s);
  all = λ of rest. rule.selectors env of (see.selectors (map selector_of rest));
  none_is = λ of. refl;
  more_is = λ of s rest. refl;
}

module _ {I C X P L R : Type 0} (view : C → X) (w : Chain I X P L R) where
  -- what is left of the list, behind what has become these
  abbrev pub left : List C → (of : ℕ) → List I → Judged R
  left ys of rest = behind_items w.lists (map view ys) (w.all of rest)

  -- a first item, and these behind it
  abbrev before : List I → Judged P → Judged R
  before rest m = m >>= λ p. w.all (w.next p) rest >>= λ r. gives (w.lists.make (w.lists.put (w.what p) (w.lists.list r)) (w.lists.of r))

  pub start : (ys : List C) (of : ℕ) (rest : List I) → ys ≡ [] → left ys of rest ≡ w.all of rest
  start ys of rest e = ap (λ ls. left ls of rest) e ∙ no_items w.lists (w.all of rest)

  pub step : (ys more : List C) (of : ℕ) (rest behind_it : List I) (one : I) (y : C) (p : P) (whole : Judged R) →
      rest ≡ one ∷ behind_it → more ≡ ys ++ y ∷ [] → view y ≡ w.what p → w.one of one ≡ gives p →
      left ys of rest ≡ whole → left more (w.next p) behind_it ≡ whole
  step ys more of rest behind_it one y p whole d e s h prior =
      ap (λ xs. behind_items w.lists xs (w.all (w.next p) behind_it))
      (ap (map view) e ∙ (map-append view ys (y ∷ []) ∙ ap (λ x. map view ys ++ x ∷ []) s))
      ∙ (sym (item_more w.lists (map view ys) (w.what p) (w.all (w.next p) behind_it))
      ∙ (sym (ap (λ m. behind_items w.lists (map view ys) (before behind_it m)) h)
      ∙ (sym (ap (behind_items w.lists (map view ys)) (w.more_is of one behind_it)) ∙ (ap (left ys of) (sym d) ∙ prior))))

  pub faulty : (ys : List C) (of : ℕ) (rest behind_it : List I) (one : I) (whole : Judged R) (f : StaticFault) {V Y : Type 0} (v : V → P) (u : Y → R) →
      rest ≡ one ∷ behind_it → JudgedAnswers v (Err f) (w.one of one) → left ys of rest ≡ whole → JudgedAnswers u (Err f) whole
  faulty ys of rest behind_it one whole (fault.At why line) v u d h prior =
      sym prior
      ∙ (ap (left ys of) d
      ∙ (ap (behind_items w.lists (map view ys)) (w.more_is of one behind_it)
      ∙ ap (λ m. behind_items w.lists (map view ys) (before behind_it m)) h))
  faulty ys of rest behind_it one whole fault.NoMemory v u d h prior = tt

  pub done : (ys : List C) (of : ℕ) (rest : List I) (whole : Judged R) → rest ≡ [] → left ys of rest ≡ whole →
      whole ≡ gives (w.lists.make (w.lists.all (map view ys)) of)
  done ys of rest whole d prior =
      sym prior
      ∙ (ap (left ys of) d ∙ (ap (behind_items w.lists (map view ys)) (w.none_is of) ∙ items_ended w.lists (map view ys) of))

-- ---- arguments of a call

abbrev pub arguments_left : Environment → (line : ℕ) → List code_argument.Argument → List code_expr.Expr → Formals → Judged Arguments
arguments_left env line arguments rest fs = behind_arguments (map argument_of arguments) (rule.more_arguments env line (see.exprs (map expr_of rest)) fs)

pub arguments_step : (env : Environment) (line : ℕ) (arguments more : List code_argument.Argument) (rest behind_it : List code_expr.Expr)
    (one : code_expr.Expr) (fs gs : Formals) (a : code_argument.Argument) (whole : Judged Arguments) →
    rest ≡ one ∷ behind_it → more ≡ arguments ++ a ∷ [] → gs ≡ rest_of fs → rule.argument env line (expr_of one) (rule.expression env (expr_of one)) fs
    ≡ gives (argument_of a) →
    arguments_left env line arguments rest fs ≡ whole → arguments_left env line more behind_it gs ≡ whole
arguments_step env line arguments more rest behind_it one fs gs a whole d e g h left =
    ap (λ xs. behind_arguments xs (rule.more_arguments env line (see.exprs (map expr_of behind_it)) gs))
    (ap (map argument_of) e ∙ map-append argument_of arguments (a ∷ []))
    ∙ ap (λ fs'. behind_arguments (map argument_of arguments ++ argument_of a ∷ []) (rule.more_arguments env line (see.exprs (map expr_of behind_it)) fs')) g
    ∙ sym (argument_next env line (expr_of one) (see.exprs (map expr_of behind_it)) fs (argument_of a) (map argument_of arguments) h)
    ∙ ap (λ r. arguments_left env line arguments r fs) (sym d)
    ∙ left

pub arguments_fault : (env : Environment) (line : ℕ) (arguments : List code_argument.Argument) (rest behind_it : List code_expr.Expr) (one : code_expr.Expr)
    (fs : Formals) (whole : Judged Arguments) (f : StaticFault) →
    rest ≡ one ∷ behind_it → JudgedAnswers argument_of (Err f) (rule.argument env line (expr_of one) (rule.expression env (expr_of one)) fs) →
    arguments_left env line arguments rest fs ≡ whole → JudgedAnswers arguments_of (Err f) whole
arguments_fault env line arguments rest behind_it one fs whole (fault.At why at) d h left =
    sym left ∙ ap (λ r. arguments_left env line arguments r fs) d
    ∙ argument_fails env line (expr_of one) (see.exprs (map expr_of behind_it)) fs (map argument_of arguments) why at h
arguments_fault env line arguments rest behind_it one fs whole fault.NoMemory d h left = tt

pub arguments_end : (env : Environment) (line : ℕ) (arguments : List code_argument.Argument) (rest : List code_expr.Expr) (fs : Formals)
    (whole : Judged Arguments) → rest ≡ [] →
    arguments_left env line arguments rest fs ≡ whole → whole ≡ gives (unit_see.arguments (map argument_of arguments))
arguments_end env line arguments rest fs whole d left = sym left ∙ ap (λ r. arguments_left env line arguments r fs) d
    ∙ arguments_ended (map argument_of arguments)

-- the first argument, and those behind it
pub arguments_all : (env : Environment) (line : ℕ) (e : text.Expr) (es : text.Exprs) (fs gs : Formals) (first : code_argument.Argument)
    (none arguments : List code_argument.Argument) →
    none ≡ [] → arguments ≡ none ++ first ∷ [] → gs ≡ rest_of fs → rule.argument env line e (rule.expression env e) fs ≡ gives (argument_of first) →
    behind_arguments (map argument_of arguments) (rule.more_arguments env line es gs) ≡ rule.all_arguments env line (text.args e es) fs
arguments_all env line e es fs gs first none arguments n a g h =
    ap (λ xs. behind_arguments (map argument_of xs) (rule.more_arguments env line es gs)) (a ∙ ap (λ xs. xs ++ first ∷ []) n)
    ∙ ap (λ fs'. behind_arguments (argument_of first ∷ []) (rule.more_arguments env line es fs')) g
    ∙ ap (λ m. m >>= λ x. rule.more_arguments env line es (rest_of fs) >>= λ ys. gives (argument_then x ys)) (sym h)

pub arguments_first : (env : Environment) (line : ℕ) (e : text.Expr) (es : text.Exprs) (xs : text.Args) (fs : Formals) (f : StaticFault) →
    text.args e es ≡ xs → JudgedAnswers argument_of (Err f) (rule.argument env line e (rule.expression env e) fs) → JudgedAnswers arguments_of (Err f)
    (rule.all_arguments env line xs fs)
arguments_first env line e es xs fs (fault.At why at) s h =
    ap (λ ys. rule.all_arguments env line ys fs) (sym s)
    ∙ ap (λ m. m >>= λ x. rule.more_arguments env line es (rest_of fs) >>= λ ys. gives (argument_then x ys)) h
arguments_first env line e es xs fs fault.NoMemory s h = tt

-- ---- parts of a constructor

abbrev pub elements_left : Environment → (strings : Bool) → List code_typed.Typed → List code_expr.Expr → Judged (List Typed)
elements_left env strings parts rest = behind (map typed_of parts) (rule.more_elements env strings (see.exprs (map expr_of rest)))

pub elements_step : (env : Environment) (strings : Bool) (parts more : List code_typed.Typed) (rest behind_it : List code_expr.Expr) (one : code_expr.Expr)
    (whole : Judged (List Typed)) →
    rest ≡ one ∷ behind_it → behind (map typed_of parts) (rule.element env strings (expr_of one) (rule.expression env (expr_of one))) ≡ gives
    (map typed_of more) →
    elements_left env strings parts rest ≡ whole → elements_left env strings more behind_it ≡ whole
elements_step env strings parts more rest behind_it one whole d h left =
    sym (element_more env strings (expr_of one) (see.exprs (map expr_of behind_it)) (map typed_of parts) (map typed_of more) h)
    ∙ ap (λ r. elements_left env strings parts r) (sym d)
    ∙ left

pub elements_fault : (env : Environment) (strings : Bool) (parts : List code_typed.Typed) (rest behind_it : List code_expr.Expr) (one : code_expr.Expr)
    (whole : Judged (List Typed)) (f : StaticFault) {X Y : Type 0} (v : X → List Typed) (w : Y → List Typed) →
    rest ≡ one ∷ behind_it → JudgedAnswers v (Err f)
    (behind (map typed_of parts) (rule.element env strings (expr_of one) (rule.expression env (expr_of one)))) →
    elements_left env strings parts rest ≡ whole → JudgedAnswers w (Err f) whole
elements_fault env strings parts rest behind_it one whole (fault.At why line) v w d h left =
    sym left ∙ ap (λ r. elements_left env strings parts r) d
    ∙ element_fails env strings (expr_of one) (see.exprs (map expr_of behind_it)) (map typed_of parts) why line h
elements_fault env strings parts rest behind_it one whole fault.NoMemory v w d h left = tt

pub elements_end : (env : Environment) (strings : Bool) (parts : List code_typed.Typed) (rest : List code_expr.Expr) (whole : Judged (List Typed)) → rest ≡ [] →
    elements_left env strings parts rest ≡ whole → whole ≡ gives (map typed_of parts)
elements_end env strings parts rest whole d left = sym left ∙ ap (λ r. elements_left env strings parts r) d
    ∙ ap (λ vs. one vs) (append-nil (map typed_of parts))
  where
    one : List Typed → Judged (List Typed)
    one vs = gives vs

-- the first part, and those behind it
pub elements_all : (env : Environment) (strings : Bool) (e : text.Expr) (es : text.Exprs) (none parts : List code_typed.Typed) → none ≡ [] →
    behind (map typed_of none) (rule.element env strings e (rule.expression env e)) ≡ gives (map typed_of parts) →
    behind (map typed_of parts) (rule.more_elements env strings es) ≡ elements env strings (text.args e es)
elements_all env strings e es none parts n h =
    sym (element_more env strings e es [] (map typed_of parts)
    (ap (λ ps. behind (map typed_of ps) (rule.element env strings e (rule.expression env e))) (sym n) ∙ h))
    ∙ bind_gives (elements env strings (text.args e es))

pub elements_first : (env : Environment) (strings : Bool) (e : text.Expr) (es : text.Exprs) (xs : text.Args) (none : List code_typed.Typed) (f : StaticFault)
    {X Y : Type 0} (v : X → List Typed) (w : Y → List Typed) →
    none ≡ [] → text.args e es ≡ xs → JudgedAnswers v (Err f) (behind (map typed_of none) (rule.element env strings e (rule.expression env e)))
    → JudgedAnswers w (Err f) (elements env strings xs)
elements_first env strings e es xs none (fault.At why line) v w n s h =
    ap (elements env strings) (sym s)
    ∙ sym (bind_gives (elements env strings (text.args e es)))
    ∙ element_fails env strings e es [] why line (ap (λ ps. behind (map typed_of ps) (rule.element env strings e (rule.expression env e))) (sym n) ∙ h)
elements_first env strings e es xs none fault.NoMemory v w n s h = tt
