-- What parts of an expression cost that the rules give without looking further into the text: at most 8 words for each mark.
use Rattle.std.proofs.Common.{◌≡◌, ℕ, ◌+◌, ◌*◌, ◌≤◌, Bool, true, false, ◌==◌, List, [], ◌∷◌, ◌++◌, map, length, Option, Some, None, refl, subst, sym, arith}
use Rattle.std.specs.Prelude.{slice_index_or}
use Rattle.edi_lex.specs.Order.{size_of}
use Rattle.edi_lex.specs.declared.symbol.Symbol.{Symbol}
use Rattle.edi_lex.specs.declared.symbol.Symbol.TheVariants as is
use Rattle.edi_scope.specs.declared.entity.Entity.{Entity}
use Rattle.edi_scope.specs.declared.entity.Entity.TheVariants as entity
use Rattle.edi_tree.specs.declared.names.Name.{Name}
use Rattle.edi_tree.specs.declared.names.Chars.{Chars}
use Rattle.edi_tree.specs.declared.expressions.Sign.{Sign}
use Rattle.edi_tree.specs.declared.expressions.Sign.TheVariants as sign
use Rattle.edi_tree.specs.declared.expressions.Root.TheVariants as root
use Rattle.edi_tree.specs.Tree as text
use Rattle.edi_tree.specs.Stands.{Spelled, on, name_mark, chars_mark}
use Rattle.edi_tree.specs.Spelled.{expr_then, sign_then}
use Rattle.edi_unit.specs.declared.expressions.Operator.{Operator}
use Rattle.edi_unit.specs.Types.{Shape, shape_at, is_elementary, is_set_shape, int_type}
use Rattle.edi_unit.specs.Tree as unit
use Rattle.edi_unit.specs.Headings.{Heading, Formals, no_formal, value_then, variable_then, procedure_then}
use Rattle.edi_static.specs.declared.faults.StaticKind.TheVariants as kind
use Rattle.edi_static.specs.Judged.{Judged}
use Rattle.edi_static.specs.Environment.{Environment, look_up, same_heading}
use Rattle.edi_static.specs.Operators.{Typed, signed, Linked, Chained, operated, takes, chain_of}
use Rattle.edi_static.specs.Fitting.{Use, constructs, calls, halts, neither, use_of, variable_argument, passed, name_alone, is_variable_alone, string_alone}
use Rattle.edi_static.specs.Fitting.{character, single, function_called, expressions_of, made, takes_parts, constructed, is_record, index_of_name}
use Rattle.edi_static.specs.Expressions.{Parted, field_at, field_of, used_alone, alone, taken, element, procedure_argument, argument}
use Rattle.edi_static.proofs.Judging.{Gives, bind, behind, ruled}
use Rattle.edi_scheme.specs.Lines.{IsLine, ExpressionLines, ExpressionsLines, LinksLines, PartLines, ArgumentLines}
use Rattle.edi_compile.proofs.codable.Front.{weight, Lined}
use Rattle.edi_compile.proofs.codable.Most.{expression_most, elements_most, link_most, links_most, part_most, argument_most}

-- what stands between two places of the text becomes something with these lines, of at most so many words
pub record Costs (Lines : Type 0) (most : ℕ) (a b : List Spelled) : Type 0 where
  pub lined : Lined b
  pub lines : Lines
  pub fewer : most + 8 * weight b ≤ 8 * weight a

abbrev pub Fine : List Spelled → List Spelled → Typed → Type 0
Fine a b v = Costs (ExpressionLines v.what) (expression_most v.what) a b

abbrev pub LinkLines : unit.Link → Type 0
LinkLines (unit.link o e line) = IsLine line × ExpressionLines e

abbrev pub LinkFine : List Spelled → List Spelled → Linked → Type 0
LinkFine a b l = Costs (LinkLines l.what) (link_most l.what) a b

abbrev pub LinksFine : List Spelled → List Spelled → Chained → Type 0
LinksFine a b c = Costs (LinksLines c.links) (links_most c.links) a b

abbrev pub PartFine : List Spelled → List Spelled → Parted → Type 0
PartFine a b p = Costs (PartLines p.what) (part_most p.what) a b

abbrev pub ListFine : List Spelled → List Spelled → List Typed → Type 0
ListFine a b vs = Costs (ExpressionsLines (expressions_of vs)) (elements_most (expressions_of vs)) a b

abbrev pub ArgumentFine : List Spelled → List Spelled → unit.Argument → Type 0
ArgumentFine a b x = Costs (ArgumentLines x) (argument_most x) a b

-- a mark in front and one behind
pub within_marks : {L : Type 0} {m : ℕ} {s t : Spelled} {a b : List Spelled} → Costs L m a (t ∷ b) → Costs L m (s ∷ a) b
within_marks x = record { lined = x.lined.1; lines = x.lines; fewer = omega (arith, x.fewer) }

-- ---- operators

pub chained : (e : unit.Expression) (ls : unit.Links) (a b c : List Spelled) → Costs (ExpressionLines e) (expression_most e) a b
    → Costs (LinksLines ls) (links_most ls) b c → Costs (ExpressionLines (chain_of e ls)) (expression_most (chain_of e ls)) a c
chained e unit.no_link a b c x y = record { lined = y.lined; lines = x.lines; fewer = omega (arith, x.fewer, y.fewer) }
chained e (unit.link_then l ls) a b c x y = record { lined = y.lined; lines = (x.lines, y.lines); fewer = omega (arith, x.fewer, y.fewer) }

pub linked : (l : unit.Link) (ls : unit.Links) (a b c : List Spelled) → Costs (LinkLines l) (link_most l) a b → Costs (LinksLines ls) (links_most ls) b c
    → Costs (LinksLines (unit.link_then l ls)) (links_most (unit.link_then l ls)) a c
linked (unit.link o e line) ls a b c x y = record { lined = y.lined; lines = (x.lines.0, x.lines.1, y.lines); fewer = omega (arith, x.fewer, y.fewer) }

pub operated_fine : (types : List Shape) (o : Operator) (line left : ℕ) (v : Typed) (s : Symbol) (a b : List Spelled) → size_of s ≡ 1 → IsLine line
    → Fine a b v → Gives (LinkFine (on s line ∷ a) b) (operated types o line left v)
operated_fine types o line left v s a b size small x =
    ruled (LinkFine (on s line ∷ a) b) (takes types o left v.of) kind.Types line _
    (λ e. record { lined = x.lined; lines = (small, x.lines); fewer = omega (arith, x.fewer, size) })

pub signed_fine : (s : Option Sign) (v : Typed) (a b : List Spelled) → Lined (sign_then s a) → Fine a b v → Gives (Fine (sign_then s a) b) (signed s v)
signed_fine None v a b h x = x
signed_fine (Some (sign.Plus line)) v a b h x =
    ruled (Fine (on is.Plus line ∷ a) b) (v.of == int_type) kind.Types line _ (λ e. record { lined = x.lined; lines = x.lines; fewer = omega (arith, x.fewer) })
signed_fine (Some (sign.Minus line)) v a b h x =
    ruled (Fine (on is.Minus line ∷ a) b) (v.of == int_type) kind.Types line _
    (λ e. record { lined = x.lined; lines = (h.0, x.lines); fewer = omega (arith, x.fewer) })

-- ---- names and strings alone

pub single_fine : (s : Chars) (more : List Spelled) → Lined (chars_mark s ∷ more) → Gives (Fine (chars_mark s ∷ more) more) (single s.line s.text)
single_fine s more h = go s.line s.text h.1 where
  go : (line : ℕ) (cs : List ℕ) → Lined more → Gives (Fine (on (is.Chars cs) line ∷ more) more) (single line cs)
  go line [] k = tt
  go line (c ∷ []) k = record { lined = k; lines = tt; fewer = omega arith }
  go line (c ∷ d ∷ cs) k = tt

used_fine : (env : Environment) (name : Name) (u : Use) (means : Entity) (more : List Spelled) → Lined (name_mark name ∷ more)
    → Gives (Fine (name_mark name ∷ more) more) (used_alone env name.line u means)
used_fine env name (constructs of) means more h =
    ruled (Fine (name_mark name ∷ more) more) (is_set_shape (shape_at env.types of)) kind.Constructor name.line _
    (λ e. record { lined = h.1; lines = (h.0, tt); fewer = omega arith })
used_fine env name (calls c) means more h =
    behind (Fine (name_mark name ∷ more) more) (function_called name.line c 0) _ (λ r. record { lined = h.1; lines = (h.0, tt); fewer = omega arith })
used_fine env name halts means more h = tt
used_fine env name neither (entity.Constant of n) more h = record { lined = h.1; lines = tt; fewer = omega arith }
used_fine env name neither (entity.Variable b v of) more h = record { lined = h.1; lines = tt; fewer = omega arith }
used_fine env name neither (entity.Types t) more h = tt
used_fine env name neither (entity.Procedure b) more h = tt
used_fine env name neither (entity.Formal b v shape) more h = tt
used_fine env name neither entity.Halt more h = tt

pub alone_fine : (env : Environment) (name : Name) (more : List Spelled) → Lined (name_mark name ∷ more) → Gives (Fine (name_mark name ∷ more) more)
    (alone env name)
alone_fine env name more h = behind (Fine (name_mark name ∷ more) more) (look_up env name) _ (λ means. used_fine env name (use_of env means) means more h)

-- what an expression spells that is a name alone, or a string alone
name_first : (e : text.Expr) (name : Name) (more : List Spelled) → name_alone e ≡ Some name → expr_then e more ≡ name_mark name ∷ more
name_first (text.expr (text.simple None (text.term (text.variable_factor (text.variable (root.Name n) text.no_selector)) text.no_multiplier) text.no_addend)
    text.no_comparison) name more e = grind (arith, e)
name_first (text.expr (text.simple None (text.term f text.no_multiplier) text.no_addend) (text.compared r l s)) name more e = absurd (cc)
name_first (text.expr (text.simple None (text.term f text.no_multiplier) (text.next_addend a as')) c) name more e = absurd (cc)
name_first (text.expr (text.simple None (text.term f (text.next_multiplier m ms)) as') c) name more e = absurd (cc)
name_first (text.expr (text.simple (Some s) t as') c) name more e = absurd (cc)
name_first x name more e = absurd (cc)

-- a string alone, and its line
record IsString (e : text.Expr) (cs : List ℕ) (more : List Spelled) : Type 0 where
  line : ℕ
  first : expr_then e more ≡ on (is.Chars cs) line ∷ more

string_first : (e : text.Expr) (cs : List ℕ) (more : List Spelled) → string_alone e ≡ Some cs → IsString e cs more
string_first (text.expr (text.simple None (text.term (text.string s) text.no_multiplier) text.no_addend) text.no_comparison) cs more e =
    record { line = s.line; first = grind (arith, e) }
string_first (text.expr (text.simple None (text.term f text.no_multiplier) text.no_addend) (text.compared r l s)) cs more e = absurd (cc)
string_first (text.expr (text.simple None (text.term f text.no_multiplier) (text.next_addend a as')) c) cs more e = absurd (cc)
string_first (text.expr (text.simple None (text.term f (text.next_multiplier m ms)) as') c) cs more e = absurd (cc)
string_first (text.expr (text.simple (Some s) t as') c) cs more e = absurd (cc)
string_first x cs more e = absurd (cc)

-- ---- constructors

characters_lined : (cs : List ℕ) → ExpressionsLines (expressions_of (map character cs))
characters_lined [] = tt
characters_lined (c ∷ cs) = (tt, characters_lined cs)

characters_most : (cs : List ℕ) → elements_most (expressions_of (map character cs)) ≤ 4 * length cs
characters_most [] = omega arith
characters_most (c ∷ cs) = omega (arith, characters_most cs)

-- a part of a constructor costs two words more, which what stands before it pays
module _ (env : Environment) (e : text.Expr) (judged : Judged Typed) (front more : List Spelled)
    (paid : 8 * weight (expr_then e more) + 2 ≤ 8 * weight front) (h : Lined (expr_then e more)) (x : Gives (Fine (expr_then e more) more) judged) where
  value_fine : Gives (ListFine front more) (taken env false None judged)
  value_fine = bind (Fine (expr_then e more) more) (ListFine front more) judged _ x
      (λ v k. record { lined = k.lined; lines = (k.lines, tt); fewer = omega (arith, k.fewer, paid) })

  string_fine : (cs : List ℕ) → IsString e cs more → ListFine front more (map character cs)
  string_fine cs s =
      let lined : Lined (on (is.Chars cs) s.line ∷ more) = subst Lined s.first h in
      let heavy : weight (expr_then e more) ≡ length cs + weight more = subst (λ l. weight l ≡ length cs + weight more) (sym s.first) refl in
      record { lined = lined.1; lines = characters_lined cs; fewer = omega (arith, characters_most cs, heavy, paid) }

  taken_fine : (strings : Bool) (o : Option (List ℕ)) → string_alone e ≡ o → Gives (ListFine front more) (taken env strings o judged)
  taken_fine true (Some cs) q = string_fine cs (string_first e cs more q)
  taken_fine true None q = value_fine
  taken_fine false o q = value_fine

  pub element_fine : (strings : Bool) → Gives (ListFine front more) (element env strings e judged)
  element_fine strings = taken_fine strings (string_alone e) refl

both_lined : (vs ws : List Typed) → ExpressionsLines (expressions_of vs) → ExpressionsLines (expressions_of ws) → ExpressionsLines (expressions_of (vs ++ ws))
both_lined [] ws h k = k
both_lined (v ∷ vs) ws h k = (h.0, both_lined vs ws h.1 k)

both_most : (vs ws : List Typed) → elements_most (expressions_of (vs ++ ws)) ≤ elements_most (expressions_of vs) + elements_most (expressions_of ws)
both_most [] ws = omega arith
both_most (v ∷ vs) ws = omega (arith, both_most vs ws)

pub both_fine : (vs ws : List Typed) (a b c : List Spelled) → ListFine a b vs → ListFine b c ws → ListFine a c (vs ++ ws)
both_fine vs ws a b c x y = record { lined = y.lined; lines = both_lined vs ws x.lines y.lines; fewer = omega (arith, both_most vs ws, x.fewer, y.fewer) }

made_fine : (elementary : Bool) (of : ℕ) (vs : List Typed) (line : ℕ) (s t : Spelled) (a b : List Spelled) → size_of s.symbol ≡ 1 → IsLine line
    → ListFine a (t ∷ b) vs → Costs (ExpressionLines (made elementary of vs line)) (expression_most (made elementary of vs line)) (s ∷ a) b
made_fine true of [] line s t a b size small x = record { lined = x.lined.1; lines = (small, x.lines); fewer = omega (arith, x.fewer, size) }
made_fine true of (v ∷ []) line s t a b size small x = record { lined = x.lined.1; lines = (small, x.lines.0); fewer = omega (arith, x.fewer, size) }
made_fine true of (v ∷ w ∷ vs) line s t a b size small x = record { lined = x.lined.1; lines = (small, x.lines); fewer = omega (arith, x.fewer, size) }
made_fine false of vs line s t a b size small x = record { lined = x.lined.1; lines = (small, x.lines); fewer = omega (arith, x.fewer, size) }

pub constructed_fine : (env : Environment) (name : Name) (of : ℕ) (vs : List Typed) (t : Spelled) (a b : List Spelled) → IsLine name.line
    → ListFine a (t ∷ b) vs → Gives (Fine (name_mark name ∷ a) b) (constructed env name.line of vs)
constructed_fine env name of vs t a b small x =
    ruled (Fine (name_mark name ∷ a) b) (takes_parts env.types (shape_at env.types of) (map (λ v. v.of) vs)) kind.Constructor name.line _ (λ e.
    made_fine (is_elementary env.types of) of vs name.line (name_mark name) t a b refl small x)

-- ---- arguments

variable_fine : (line of : ℕ) (is_alone : Bool) (x : unit.Expression) (has : ℕ) (a b : List Spelled) → Costs (ExpressionLines x) (expression_most x) a b
    → Gives (ArgumentFine a b) (variable_argument line of is_alone x has)
variable_fine line of true (unit.load p) has a b h =
    ruled (ArgumentFine a b) (has == of) kind.Call line _ (λ e. record { lined = h.lined; lines = h.lines; fewer = omega (arith, h.fewer) })
variable_fine line of true (unit.constant u n) has a b h = tt
variable_fine line of true (unit.not_of x) has a b h = tt
variable_fine line of true (unit.sign_of x l) has a b h = tt
variable_fine line of true (unit.chain x ls) has a b h = tt
variable_fine line of true (unit.make u es l) has a b h = tt
variable_fine line of true (unit.convert u x l) has a b h = tt
variable_fine line of true (unit.apply_of c xs l) has a b h = tt
variable_fine line of false x has a b h = tt

passed_fine : (line : ℕ) (asked : Heading) (u : Use) (name : Name) (more : List Spelled) → Lined more → Gives (ArgumentFine (name_mark name ∷ more) more)
    (passed line asked u)
passed_fine line asked (calls c) name more h =
    ruled (ArgumentFine (name_mark name ∷ more) more) (same_heading c.asks asked) kind.Call line _ (λ e. record { lined = h; lines = tt; fewer = omega arith })
passed_fine line asked (constructs of) name more h = tt
passed_fine line asked halts name more h = tt
passed_fine line asked neither name more h = tt

procedure_fine : (env : Environment) (line : ℕ) (asked : Heading) (e : text.Expr) (o : Option Name) (judged : Judged Typed) (more : List Spelled)
    → name_alone e ≡ o → Lined (expr_then e more) → Gives (ArgumentFine (expr_then e more) more) (procedure_argument env line asked o judged)
procedure_fine env line asked e (Some name) judged more q h =
    let first = name_first e name more q in
    let lined : Lined (name_mark name ∷ more) = subst Lined first h in
    behind (ArgumentFine (expr_then e more) more) (look_up env name) _ (λ means.
    subst (λ l. Gives (ArgumentFine l more) (passed line asked (use_of env means))) (sym first) (passed_fine line asked (use_of env means) name more lined.1))
procedure_fine env line asked e None judged more q h = behind (ArgumentFine (expr_then e more) more) judged _ (λ v. tt)

pub argument_fine : (env : Environment) (line : ℕ) (e : text.Expr) (judged : Judged Typed) (fs : Formals) (more : List Spelled) → Lined (expr_then e more)
    → Gives (Fine (expr_then e more) more) judged → Gives (ArgumentFine (expr_then e more) more) (argument env line e judged fs)
argument_fine env line e judged no_formal more h x = tt
argument_fine env line e judged (value_then of fs) more h x =
    bind (Fine (expr_then e more) more) (ArgumentFine (expr_then e more) more) judged _ x
    (λ v k. ruled (ArgumentFine (expr_then e more) more) (v.of == of) kind.Call line _ (λ r. k))
argument_fine env line e judged (variable_then of fs) more h x =
    bind (Fine (expr_then e more) more) (ArgumentFine (expr_then e more) more) judged _ x
    (λ v k. variable_fine line of (is_variable_alone e) v.what v.of (expr_then e more) more k)
argument_fine env line e judged (procedure_then asked fs) more h x = procedure_fine env line asked e (name_alone e) judged more refl h

-- ---- fields

pub field_fine : (env : Environment) (line of : ℕ) (name : Name) (more : List Spelled) → Lined (on is.Period line ∷ name_mark name ∷ more)
    → Gives (PartFine (on is.Period line ∷ name_mark name ∷ more) more) (field_of env line of name)
field_fine env line of name more h =
    ruled (PartFine (on is.Period line ∷ name_mark name ∷ more) more) (is_record (shape_at env.types of)) kind.Types line _
    (λ e. go (index_of_name (slice_index_or env.fields of []) name.text)) where
      go : (o : Option ℕ) → Gives (PartFine (on is.Period line ∷ name_mark name ∷ more) more) (field_at env of name o)
      go None = tt
      go (Some n) = record { lined = h.1.1; lines = tt; fewer = omega arith }
