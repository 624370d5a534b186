-- What a tree spells, part by part: the lines that it keeps are small, and what is behind a part weighs less than what the
-- part begins. A string weighs as much as it has characters, every other symbol one.
use Rattle.std.proofs.Common.{◌≡◌, ℕ, ◌+◌, ◌<◌, ◌≤◌, ◌^◌, Bool, true, ◌&&◌, nat_lt, nat_le, List, [], ◌∷◌, Option, Some, None, refl, subst, arith}
use Rattle.std.proofs.Math.Bool.{Bool-set}
use Rattle.std.proofs.Math.Logic.{∥∥₁_elim}
use Rattle.std.proofs.Math.Nat.{le_trans}
use Rattle.std.proofs.lemmas.Bool.Decides.{nat_tests}
use Rattle.std.proofs.lemmas.List.Sums.{sum_by-cons}
use Rattle.edi_lex.specs.Order.{is_orderly, size_of, extent}
use Rattle.edi_lex.specs.declared.symbol.Symbol.TheVariants as is
use Rattle.edi_lex.specs.declared.symbol.Mark.{Mark}
use Rattle.edi_lex.proofs.Runs.{both}
use Rattle.edi_tree.specs.declared.names.Name.{Name}
use Rattle.edi_tree.specs.declared.constants.Constant.{Constant}
use Rattle.edi_tree.specs.declared.constants.Constant.TheVariants as constant
use Rattle.edi_tree.specs.declared.constants.ConstDecl.{ConstDecl}
use Rattle.edi_tree.specs.declared.expressions.Sign.{Sign}
use Rattle.edi_tree.specs.declared.expressions.Sign.TheVariants as sign
use Rattle.edi_tree.specs.Tree.{Names, no_name, next_name, ConstDecls, no_const_decl, next_const_decl, ConstList, const_list, Group, group, Groups, no_group}
use Rattle.edi_tree.specs.Tree.{next_group, TypeDecl, enum_decl, record_decl, array_decl, set_decl, VarList, var_list, Heading, heading, Params, no_params}
use Rattle.edi_tree.specs.Tree.{params, MoreParams, no_param, next_param, Param, value_param, var_param, procedure_param, Program}
use Rattle.edi_tree.specs.Stands.{Spelled, just, name_mark, IsOn, StandAsMarks}
use Rattle.edi_tree.specs.Spelled.{names_then, constant_then, const_decl_then, const_decls_then, const_list_then, group_then}
use Rattle.edi_tree.specs.Spelled.{groups_then, type_decl_then, var_list_then, result_then, heading_then, params_then, more_params_then, param_then}
use Rattle.edi_tree.specs.Spelled.{sign_then, spelled}
use Rattle.edi_tree.specs.Spells.{IsBounded}
use Rattle.edi_tree.proofs.Marks.{parts_stand}
use Rattle.edi_scheme.specs.Lines.{IsLine}

abbrev pub weight : List Spelled → ℕ
weight [] = 0
weight (s ∷ ss) = size_of s.symbol + weight ss

abbrev is_small : Option ℕ → Bool
is_small None = true
is_small (Some line) = nat_lt line (2 ^ 16)

abbrev are_small : List Spelled → Bool
are_small [] = true
are_small (s ∷ ss) = is_small s.line && are_small ss

abbrev pub KeptLine : Option ℕ → Type 0
KeptLine None = Unit {0}
KeptLine (Some line) = IsLine line

abbrev pub Lined : List Spelled → Type 0
Lined [] = Unit {0}
Lined (s ∷ ss) = KeptLine s.line × Lined ss

-- ---- a tree that symbols may hold

lowest : (line : ℕ) (marks : List Mark) (last : ℕ) → is_orderly line marks last ≡ true → line ≤ last
lowest line [] last e = grind (arith, nat_tests, e)
lowest line (m ∷ marks) last e =
    let parts = both (nat_le line m.line) (is_orderly m.line marks last) e in
    let first : line ≤ m.line = grind (arith, nat_tests, parts.0) in
    le_trans first (lowest m.line marks last parts.1)

kept_small : (kept : Option ℕ) (line : ℕ) → IsOn kept line → line < 2 ^ 16 → is_small kept ≡ true
kept_small None line h less = refl
kept_small (Some kept) line h less = grind (arith, nat_tests, h, less)

standing_small : (ss : List Spelled) (marks : List Mark) (line last : ℕ) → StandAsMarks ss marks → is_orderly line marks last ≡ true → last < 2 ^ 16
    → are_small ss ≡ true
standing_small [] marks line last h e less = refl
standing_small (s ∷ ss) [] line last h e less = absurd h
standing_small (s ∷ ss) (m ∷ marks) line last h e less =
    let parts = both (nat_le line m.line) (is_orderly m.line marks last) e in
    let low = lowest m.line marks last parts.1 in
    let here : is_small s.line ≡ true = kept_small s.line m.line h.0.1 (omega (arith, low, less)) in
    rw (here, standing_small ss marks m.line last h.1 parts.1 less) refl

pub standing_weight : (ss : List Spelled) (marks : List Mark) → StandAsMarks ss marks → weight ss ≤ extent marks
standing_weight [] marks h = omega arith
standing_weight (s ∷ ss) [] h = absurd h
standing_weight (s ∷ ss) (m ∷ marks) h =
    let here : size_of s.symbol ≤ size_of m.symbol = subst (λ x. size_of x ≤ size_of m.symbol) h.0.0 (omega arith) in
    omega (arith, sum_by-cons (λ m. size_of m.symbol) m marks, here, standing_weight ss marks h.1)

tree_small : (tree : Program) → IsBounded tree → are_small (spelled tree) ≡ true
tree_small tree h = standing_small (spelled tree) h.marks 1 h.last (parts_stand tree h.marks h.spells) h.is_bounded.orderly h.is_bounded.bounded

tree_light : (tree : Program) → IsBounded tree → nat_le (weight (spelled tree)) 262144 ≡ true
tree_light tree h =
    let few = le_trans (standing_weight (spelled tree) h.marks (parts_stand tree h.marks h.spells)) h.is_bounded.few in
    grind (arith, nat_tests, few)

line_lined : (kept : Option ℕ) → is_small kept ≡ true → KeptLine kept
line_lined None e = tt
line_lined (Some line) e = grind (arith, nat_tests, e)

all_lined : (ss : List Spelled) → are_small ss ≡ true → Lined ss
all_lined [] e = tt
all_lined (s ∷ ss) e = let parts = both (is_small s.line) (are_small ss) e in (line_lined s.line parts.0, all_lined ss parts.1)

-- the lines of a tree that spells marks that `Symbols` can hold
pub tree_lined : (tree : Program) → ∥ IsBounded tree ∥₁ → Lined (spelled tree)
tree_lined tree is_bounded = all_lined (spelled tree) (∥∥₁_elim is_bounded (Bool-set _ _) (tree_small tree))

-- and its weight
pub tree_weight : (tree : Program) → ∥ IsBounded tree ∥₁ → weight (spelled tree) ≤ 262144
tree_weight tree is_bounded =
    let few : nat_le (weight (spelled tree)) 262144 ≡ true = ∥∥₁_elim is_bounded (Bool-set _ _) (tree_light tree) in
    grind (arith, nat_tests, few)

-- ---- a part of the tree

-- from the front of a part that weighs n or more to what is behind it
pub record Front (n : ℕ) (a b : List Spelled) : Type 0 where
  pub lined : Lined a → Lined b
  pub fewer : n + weight b ≤ weight a

same : (a : List Spelled) → Front 0 a a
same a = record { lined = λ h. h; fewer = omega arith }

-- a mark in front, and one behind
mark : {n : ℕ} {s : Spelled} {a b : List Spelled} → Front n a b → Front n (s ∷ a) b
mark x = record { lined = λ h. x.lined h.1; fewer = omega (arith, x.fewer) }

then_mark : {n : ℕ} {s : Spelled} {a b : List Spelled} → Front n a (s ∷ b) → Front n a b
then_mark x = record { lined = λ h. (x.lined h).1; fewer = omega (arith, x.fewer) }

two : {n m : ℕ} {a b c : List Spelled} → Front n a b → Front m b c → Front 0 a c
two x y = record { lined = λ h. y.lined (x.lined h); fewer = omega (arith, x.fewer, y.fewer) }

-- ---- names, constants, types, variables

names_front : (x : Names) (more : List Spelled) → Front 0 (names_then x more) more
names_front no_name more = same more
names_front (next_name n ns) more = mark (mark (names_front ns more))

one : (s : Spelled) (more : List Spelled) → size_of s.symbol ≡ 1 → Front 1 (s ∷ more) more
one s more e = record { lined = λ h. h.1; fewer = omega (arith, e) }

pub constant_front : (x : Constant) (more : List Spelled) → Front 1 (constant_then x more) more
constant_front (constant.Numeral v) more = one _ more refl
constant_front (constant.Char c) more = one _ more refl
constant_front (constant.Name n None) more = one _ more refl
constant_front (constant.Name n (Some v)) more = record { lined = λ h. h.1.1.1.1; fewer = omega arith }

const_decl_front : (x : ConstDecl) (more : List Spelled) → Front 1 (const_decl_then x more) more
const_decl_front d more = mark (mark (constant_front d.constant more))

const_decls_front : (x : ConstDecls) (more : List Spelled) → Front 0 (const_decls_then x more) more
const_decls_front no_const_decl more = same more
const_decls_front (next_const_decl d ds) more = mark (two (const_decl_front d (const_decls_then ds more)) (const_decls_front ds more))

pub const_list_front : (x : ConstList) (more : List Spelled) → Front 0 (const_list_then x more) more
const_list_front (const_list d ds) more = mark (two (const_decl_front d (const_decls_then ds more)) (const_decls_front ds more))

group_front : (x : Group) (more : List Spelled) → Front 0 (group_then x more) more
group_front (group n ns t) more = mark (then_mark (then_mark (names_front ns (just is.Colon ∷ name_mark t ∷ more))))

groups_front : (x : Groups) (more : List Spelled) → Front 0 (groups_then x more) more
groups_front no_group more = same more
groups_front (next_group g gs) more = mark (two (group_front g (groups_then gs more)) (groups_front gs more))

-- a word symbol in front
worded : {n : ℕ} {s : Spelled} {a b : List Spelled} → Front n a b → size_of s.symbol ≡ 1 → Front 1 (s ∷ a) b
worded x e = record { lined = λ h. x.lined h.1; fewer = omega (arith, x.fewer, e) }

pub type_decl_front : (x : TypeDecl) (more : List Spelled) → Front 1 (type_decl_then x more) more
type_decl_front (enum_decl n m ms) more = worded (mark (mark (mark (then_mark (names_front ms (just is.Close ∷ more)))))) refl
type_decl_front (record_decl n g gs) more =
    worded (mark (mark (two (group_front g (groups_then gs (just is.Close ∷ more))) (then_mark (groups_front gs (just is.Close ∷ more)))))) refl
type_decl_front (array_decl n line lower upper e) more =
    let last : List Spelled = just is.CloseBracket ∷ just is.Open ∷ name_mark e ∷ just is.Close ∷ more in
    let x = then_mark (constant_front lower (just is.Colon ∷ constant_then upper last)) in
    worded (mark (mark (two x (then_mark (then_mark (then_mark (then_mark (constant_front upper last)))))))) refl
type_decl_front (set_decl n b) more = worded (mark (mark (mark (mark (same more))))) refl

pub var_list_front : (x : VarList) (more : List Spelled) → Front 0 (var_list_then x more) more
var_list_front (var_list g gs) more = mark (two (group_front g (groups_then gs more)) (groups_front gs more))

-- ---- headings

result_front : (x : Option Name) (more : List Spelled) → Front 0 (result_then x more) more
result_front None more = same more
result_front (Some n) more = mark (mark (same more))

-- the word `proc` and the name
headed : {n : ℕ} {t : List ℕ} {l : ℕ} {a b : List Spelled} → Front n a b → Front 2 (just is.Proc ∷ record { symbol = is.Name t; line = Some l } ∷ a) b
headed x = record { lined = λ h. x.lined h.1.1; fewer = omega (arith, x.fewer) }

loose : {n : ℕ} {a b : List Spelled} → Front n a b → Front 0 a b
loose x = record { lined = x.lined; fewer = omega (arith, x.fewer) }

mutual
  pub heading_front : (x : Heading) (more : List Spelled) → Front 2 (heading_then x more) more
  heading_front (heading n ps r) more = headed (two (params_front ps (result_then r more)) (result_front r more))

  params_front : (x : Params) (more : List Spelled) → Front 0 (params_then x more) more
  params_front no_params more = same more
  params_front (params p ps) more =
      mark (two (param_front p (more_params_then ps (just is.Close ∷ more))) (then_mark (more_params_front ps (just is.Close ∷ more))))

  more_params_front : (x : MoreParams) (more : List Spelled) → Front 0 (more_params_then x more) more
  more_params_front no_param more = same more
  more_params_front (next_param p ps) more = mark (two (param_front p (more_params_then ps more)) (more_params_front ps more))

  param_front : (x : Param) (more : List Spelled) → Front 0 (param_then x more) more
  param_front (value_param g) more = group_front g more
  param_front (var_param g) more = mark (group_front g more)
  param_front (procedure_param p) more = loose (heading_front p more)

-- ---- signs

pub sign_front : (x : Option Sign) (more : List Spelled) → Front 0 (sign_then x more) more
sign_front None more = same more
sign_front (Some (sign.Plus line)) more = mark (same more)
sign_front (Some (sign.Minus line)) more = mark (same more)
