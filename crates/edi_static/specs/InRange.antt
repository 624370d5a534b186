-- Words of contracts. What is true of a tree that is parsed from a text, and what no static rule tests again: a numeral is a value of `int`, a
-- character one of `char`, and a `cobegin` has fewer than 65,536 branches.
use Rattle.std.specs.Prelude.{ℕ, suc, ◌<◌, ◌^◌, pos, int_le, IsTrue, List, [], ◌∷◌, Some, None}
use Rattle.edi_tree.specs.declared.constants.Constant.{Constant}
use Rattle.edi_tree.specs.declared.constants.Constant.TheVariants as code
use Rattle.edi_tree.specs.Tree.{ConstDecls, no_const_decl, next_const_decl, ConstList, const_list, TypeDecl, enum_decl, record_decl, array_decl, set_decl}
use Rattle.edi_tree.specs.Tree.{Branches, no_branch, next_branch, Procedure, procedure, Item, const_item, type_item, var_item, procedure_item, pre_item}
use Rattle.edi_tree.specs.Tree.{post_item, Module, module_with, Member, item_member, exported_member, module_member, Members, no_member, next_member}
use Rattle.edi_tree.specs.Tree.{Declaration, item_declaration, module_declaration, Declarations, no_declaration, next_declaration, Global, const_global}
use Rattle.edi_tree.specs.Tree.{type_global, Globals, no_global, next_global, Program, program}
use Rattle.edi_unit.specs.Types.{int, char, is_ordinal_of}
use Rattle.edi_static.specs.Leaves.{LeafFacts, ListHolds}

-- ---- constants and types

-- the numeral of `char(n)` is not negative; that it is at most 127 is a rule
abbrev pub ConstantInRange : Constant → Type 0
ConstantInRange (code.Numeral n) = IsTrue (is_ordinal_of int n)
ConstantInRange (code.Char c) = IsTrue (is_ordinal_of char (pos c.character))
ConstantInRange (code.Name name None) = Unit {0}
ConstantInRange (code.Name name (Some n)) = IsTrue (int_le (pos 0) n)

abbrev pub ConstDeclsInRange : ConstDecls → Type 0
ConstDeclsInRange no_const_decl = Unit {0}
ConstDeclsInRange (next_const_decl d ds) = ConstantInRange d.constant × ConstDeclsInRange ds

abbrev pub ConstListInRange : ConstList → Type 0
ConstListInRange (const_list d ds) = ConstantInRange d.constant × ConstDeclsInRange ds

abbrev pub TypeDeclInRange : TypeDecl → Type 0
TypeDeclInRange (enum_decl name first more) = Unit {0}
TypeDeclInRange (record_decl name first more) = Unit {0}
TypeDeclInRange (array_decl name line lower upper element) = ConstantInRange lower × ConstantInRange upper
TypeDeclInRange (set_decl name base) = Unit {0}

-- ---- expressions and statements

abbrev pub AreCharacters : List ℕ → Type 0
AreCharacters [] = Unit {0}
AreCharacters (c ∷ cs) = IsTrue (is_ordinal_of char (pos c)) × AreCharacters cs

abbrev pub branches_count : Branches → ℕ
branches_count (no_branch end) = 0
branches_count (next_branch also b bs) = suc (branches_count bs)

abbrev pub in_range : LeafFacts
in_range = record {
  OfNumeral = λ n. IsTrue (is_ordinal_of int n);
  OfChars = λ s. AreCharacters s.text;
  OfConstant = ConstantInRange;
  Called = λ name P. P;
  Rooted = λ r P. P;
  Forked = λ bs P. (suc (branches_count bs) < 2 ^ 16) × P;
}

-- ---- declarations

abbrev mutual
  pub ProcedureInRange : Procedure → Type 0
  ProcedureInRange (procedure h ds s end) = DeclarationsInRange ds × ListHolds in_range s

  pub ItemInRange : Item → Type 0
  ItemInRange (const_item cs) = ConstListInRange cs
  ItemInRange (type_item t) = TypeDeclInRange t
  ItemInRange (var_item vs) = Unit {0}
  ItemInRange (procedure_item p) = ProcedureInRange p
  ItemInRange (pre_item h) = Unit {0}
  ItemInRange (post_item p) = ProcedureInRange p

  pub ModuleInRange : Module → Type 0
  ModuleInRange (module_with ms s) = MembersInRange ms × ListHolds in_range s

  pub MemberInRange : Member → Type 0
  MemberInRange (item_member i) = ItemInRange i
  MemberInRange (exported_member i) = ItemInRange i
  MemberInRange (module_member m) = ModuleInRange m

  pub MembersInRange : Members → Type 0
  MembersInRange no_member = Unit {0}
  MembersInRange (next_member m ms) = MemberInRange m × MembersInRange ms

  pub DeclarationInRange : Declaration → Type 0
  DeclarationInRange (item_declaration i) = ItemInRange i
  DeclarationInRange (module_declaration m) = ModuleInRange m

  pub DeclarationsInRange : Declarations → Type 0
  DeclarationsInRange no_declaration = Unit {0}
  DeclarationsInRange (next_declaration d ds) = DeclarationInRange d × DeclarationsInRange ds

-- ---- programs

abbrev pub GlobalInRange : Global → Type 0
GlobalInRange (const_global cs) = ConstListInRange cs
GlobalInRange (type_global t) = TypeDeclInRange t

abbrev pub GlobalsInRange : Globals → Type 0
GlobalsInRange no_global = Unit {0}
GlobalsInRange (next_global g gs) = GlobalInRange g × GlobalsInRange gs

abbrev pub ProgramInRange : Program → Type 0
ProgramInRange (program gs p) = GlobalsInRange gs × ProcedureInRange p
