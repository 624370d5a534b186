-- Constants, types, variables and headings: a tree whose elements fit is read, one line for each rule.
use Rattle.std.proofs.Common.{ℤ, List, ◌∷◌, Option, Some, None, refl, sym, ap, ◌∙◌, subst}
use Rattle.edi_lex.specs.declared.symbol.Symbol.TheVariants as is
use Rattle.edi_tree.specs.declared.names.Name.{Name}
use Rattle.edi_tree.specs.declared.constants.Constant.{Constant}
use Rattle.edi_tree.specs.declared.constants.Constant.TheVariants as constant
use Rattle.edi_tree.specs.declared.constants.ConstDecl.{ConstDecl}
use Rattle.edi_tree.specs.Tree.{Names, no_name, next_name, ConstDecls, no_const_decl, next_const_decl, ConstList, const_list, Group, group, Groups, no_group}
use Rattle.edi_tree.specs.Tree.{next_group, TypeDecl, enum_decl, record_decl, array_decl, set_decl, VarList, var_list, Heading, heading, Params, no_params}
use Rattle.edi_tree.specs.Tree.{params, MoreParams, no_param, next_param, Param, value_param, var_param, procedure_param}
use Rattle.edi_tree.specs.Levels.{Element, level_end, word, named, const_decl_elements, const_decls_elements, const_list_elements, constant_elements}
use Rattle.edi_tree.specs.Levels.{group_elements, groups_elements, more_params_elements, names_elements, param_elements, params_elements, result_elements}
use Rattle.edi_tree.specs.Levels.{type_decl_elements, var_list_elements}
use Rattle.edi_grammar.specs.Kind.{kind_of}
use Rattle.edi_grammar.specs.Rules as g
use Rattle.edi_grammar.specs.derivation.Parts.{head_elements, code_elements}
use Rattle.edi_grammar.specs.derivation.Fits.{Items, Fit}
use Rattle.edi_grammar.proofs.derivation.Builds.{value_of, line_in, name_in}
use Rattle.edi_grammar.proofs.derivation.Stands.{name_is, char_is}
use Rattle.edi_grammar.proofs.derivation.Splits.{heading_split}
use Rattle.edi_grammar.proofs.derivation.Reading.{done, past, past_end, past_part, takes, takes_part, takes_behind, takes_within, Takes}

pub names_takes : (t : Names) (es : List Element) (items : Items) → Fit (names_elements t es) items → Takes g.Names t es items
names_takes (next_name n ns) es items h = let p1 = names_takes ns es h.4.1 h.4.4 in
    takes g.Names 0 (past h.2 (ap kind_of h.3.0) (past h.4.2 (ap kind_of h.4.3.0) (past_part p1 (done p1.fits))))
    (λ P made. ((Some h.0, (Some h.4.0, (ns, tt))), ap (λ z. next_name z ns) (name_is n h.4.0 h.4.3), made))
names_takes no_name es items h = takes g.Names 1 (done h) (λ P made. (tt, refl, made))

pub code_takes : (t : Option ℤ) (es : List Element) (items : Items) → Fit (code_elements t es) items → Takes g.Code t es items
code_takes (Some v) es items h = takes g.Code 0 (past h.2 (ap kind_of h.3.0)
    (past h.4.2 (ap kind_of h.4.3.0) (past h.4.4.2 (ap kind_of h.4.4.3.0) (past_end h.4.4.4.1 (done h.4.4.4.2)))))
    (λ P made. ((Some h.0, (Some h.4.0, (Some h.4.4.0, tt))), ap (λ z. Some z) (sym (ap value_of h.4.3.0)), made))
code_takes None es items h = takes g.Code 1 (done h) (λ P made. (tt, refl, made))

pub constant_takes : (t : Constant) (es : List Element) (items : Items) → Fit (constant_elements t es) items → Takes g.Constant t es items
constant_takes (constant.Numeral v) es items h = takes g.Constant 0 (past h.2 (ap kind_of h.3.0) (done h.4))
    (λ P made. ((Some h.0, tt), ap (λ z. constant.Numeral z) (sym (ap value_of h.3.0)), made))
constant_takes (constant.Char c) es items h = takes g.Constant 1 (past h.2 (ap kind_of h.3.0) (done h.4))
    (λ P made. ((Some h.0, tt), ap (λ z. constant.Char z) (char_is c h.0 h.3), made))
constant_takes (constant.Name n None) es items h = let p1 = code_takes None es h.1 h.4 in
    takes g.Constant 2 (past h.2 (ap kind_of h.3.0) (past_part p1 (done p1.fits)))
    (λ P made. ((Some h.0, (None, tt)), ap (λ z. constant.Name z None) (name_is n h.0 h.3), made))
constant_takes (constant.Name n (Some v)) es items h = let p1 = code_takes (Some v) es h.1 h.4 in
    takes g.Constant 2 (past h.2 (ap kind_of h.3.0) (past_part p1 (done p1.fits)))
    (λ P made. ((Some h.0, ((Some v), tt)), ap (λ z. constant.Name z (Some v)) (name_is n h.0 h.3), made))

pub const_decl_takes : (t : ConstDecl) (es : List Element) (items : Items) → Fit (const_decl_elements t es) items → Takes g.ConstDecl t es items
const_decl_takes d es items h = let p1 = constant_takes d.constant es h.4.1 h.4.4 in
    takes g.ConstDecl 0 (past h.2 (ap kind_of h.3.0) (past h.4.2 (ap kind_of h.4.3.0) (past_part p1 (done p1.fits))))
    (λ P made. ((Some h.0, (Some h.4.0, (d.constant, tt))), ap (λ z. record { name = z; constant = d.constant }) (name_is d.name h.0 h.3), made))

pub const_decls_takes : (t : ConstDecls) (es : List Element) (items : Items) → Fit (const_decls_elements t es) items → Takes g.ConstDecls t es items
const_decls_takes (next_const_decl d ds) es items h = takes_behind g.ConstDecls 0 h.2 (ap kind_of h.3.0)
    (const_decl_takes d (const_decls_elements ds es) h.1 h.4) (const_decls_takes ds es)
    (λ P made. ((Some h.0, (d, (ds, tt))), refl, made))
const_decls_takes no_const_decl es items h = takes g.ConstDecls 1 (done h) (λ P made. (tt, refl, made))

pub const_list_takes : (t : ConstList) (es : List Element) (items : Items) → Fit (const_list_elements t es) items → Takes g.ConstList t es items
const_list_takes (const_list d ds) es items h = takes_behind g.ConstList 0 h.2 (ap kind_of h.3.0) (const_decl_takes d _ h.1 h.4) (const_decls_takes ds es)
    (λ P made. ((Some h.0, (d, (ds, tt))), refl, made))

pub group_takes : (t : Group) (es : List Element) (items : Items) → Fit (group_elements t es) items → Takes g.Group t es items
group_takes (group n ns t) es items h = let p1 = names_takes ns (word is.Colon ∷ named t ∷ es) h.1 h.4 in
    takes g.Group 0 (past h.2 (ap kind_of h.3.0)
    (past_part p1 (past p1.fits.2 (ap kind_of p1.fits.3.0) (past p1.fits.4.2 (ap kind_of p1.fits.4.3.0) (done p1.fits.4.4)))))
    (λ P made. (
      (Some h.0, (ns, (Some p1.fits.0, (Some p1.fits.4.0, tt)))),
      ap (λ z. group z ns t) (name_is n h.0 h.3)
          ∙ ap (λ z. group (name_in (Some h.0)) ns z) (name_is t p1.fits.4.0 p1.fits.4.3),
      made,
    ))

pub groups_takes : (t : Groups) (es : List Element) (items : Items) → Fit (groups_elements t es) items → Takes g.Groups t es items
groups_takes (next_group gr gs) es items h = takes_behind g.Groups 0 h.2 (ap kind_of h.3.0) (group_takes gr _ h.1 h.4) (groups_takes gs es)
    (λ P made. ((Some h.0, (gr, (gs, tt))), refl, made))
groups_takes no_group es items h = takes g.Groups 1 (done h) (λ P made. (tt, refl, made))

pub type_decl_takes : (t : TypeDecl) (es : List Element) (items : Items) → Fit (type_decl_elements t es) items → Takes g.TypeDecl t es items
type_decl_takes (enum_decl n m ms) es items h = let p1 = names_takes ms (word is.Close ∷ level_end ∷ es) h.4.4.4.1 h.4.4.4.4 in
    takes g.TypeDecl 0 (past h.2 (ap kind_of h.3.0)
    (past h.4.2 (ap kind_of h.4.3.0) (past h.4.4.2 (ap kind_of h.4.4.3.0)
    (past h.4.4.4.2 (ap kind_of h.4.4.4.3.0) (past_part p1 (past p1.fits.2 (ap kind_of p1.fits.3.0) (past_end p1.fits.4.1 (done p1.fits.4.2))))))))
    (λ P made. (
      (Some h.0, (Some h.4.0, (Some h.4.4.0, (Some h.4.4.4.0, (ms, (Some p1.fits.0, tt)))))),
      ap (λ z. enum_decl z m ms) (name_is n h.4.0 h.4.3)
          ∙ ap (λ z. enum_decl (name_in (Some h.4.0)) z ms) (name_is m h.4.4.4.0 h.4.4.4.3),
      made,
    ))
type_decl_takes (record_decl n gr gs) es items h = let p1 = group_takes gr (groups_elements gs (word is.Close ∷ level_end ∷ es)) h.4.4.1 h.4.4.4 in
    let p2 = groups_takes gs (word is.Close ∷ level_end ∷ es) p1.rest p1.fits in
    takes g.TypeDecl 1 (past h.2 (ap kind_of h.3.0)
    (past h.4.2 (ap kind_of h.4.3.0) (past h.4.4.2 (ap kind_of h.4.4.3.0)
    (past_part p1 (past_part p2 (past p2.fits.2 (ap kind_of p2.fits.3.0) (past_end p2.fits.4.1 (done p2.fits.4.2))))))))
    (λ P made. ((Some h.0, (Some h.4.0, (Some h.4.4.0, (gr, (gs, (Some p2.fits.0, tt)))))), ap (λ z. record_decl z gr gs) (name_is n h.4.0 h.4.3), made))
type_decl_takes (array_decl n line lower upper e) es items h = let p1 = constant_takes lower
    (word is.Colon ∷ constant_elements upper (word is.CloseBracket ∷ level_end ∷ word is.Open ∷ named e ∷ word is.Close ∷ level_end ∷ es)) h.4.4.1 h.4.4.4 in
    let p2 = constant_takes upper (word is.CloseBracket ∷ level_end ∷ word is.Open ∷ named e ∷ word is.Close ∷ level_end ∷ es) p1.fits.1 p1.fits.4 in
    takes g.TypeDecl 2 (past h.2 (ap kind_of h.3.0)
    (past h.4.2 (ap kind_of h.4.3.0) (past h.4.4.2 (ap kind_of h.4.4.3.0)
    (past_part p1 (past p1.fits.2 (ap kind_of p1.fits.3.0)
    (past_part p2 (past p2.fits.2 (ap kind_of p2.fits.3.0)
    (past_end p2.fits.4.1 (past p2.fits.4.2.2 (ap kind_of p2.fits.4.2.3.0)
    (past p2.fits.4.2.4.2 (ap kind_of p2.fits.4.2.4.3.0)
    (past p2.fits.4.2.4.4.2 (ap kind_of p2.fits.4.2.4.4.3.0) (past_end p2.fits.4.2.4.4.4.1 (done p2.fits.4.2.4.4.4.2)))))))))))))
    (λ P made. (
      (
        Some h.0,
        (
          Some h.4.0,
          (
            Some h.4.4.0,
            (lower, (Some p1.fits.0, (upper, (Some p2.fits.0, (Some p2.fits.4.2.0, (Some p2.fits.4.2.4.0, (Some p2.fits.4.2.4.4.0, tt))))))),
          ),
        ),
      ),
      ap
          (λ z. array_decl z line lower upper e) (name_is n h.4.0 h.4.3)
          ∙ ap (λ z. array_decl (name_in (Some h.4.0)) z lower upper e) (sym h.4.4.3.1)
          ∙ ap (λ z. array_decl (name_in (Some h.4.0)) (line_in (Some h.4.4.0)) lower upper z) (name_is e p2.fits.4.2.4.0 p2.fits.4.2.4.3),
      made,
    ))
type_decl_takes (set_decl n b) es items h = takes g.TypeDecl 3
    (past h.2 (ap kind_of h.3.0) (past h.4.2 (ap kind_of h.4.3.0)
    (past h.4.4.2 (ap kind_of h.4.4.3.0) (past h.4.4.4.2 (ap kind_of h.4.4.4.3.0)
    (past h.4.4.4.4.2 (ap kind_of h.4.4.4.4.3.0) (past_end h.4.4.4.4.4.1 (done h.4.4.4.4.4.2)))))))
    (λ P made. (
      (Some h.0, (Some h.4.0, (Some h.4.4.0, (Some h.4.4.4.0, (Some h.4.4.4.4.0, tt))))),
      ap (λ z. set_decl z b) (name_is n h.4.0 h.4.3)
          ∙ ap (λ z. set_decl (name_in (Some h.4.0)) z) (name_is b h.4.4.4.0 h.4.4.4.3),
      made,
    ))

pub var_list_takes : (t : VarList) (es : List Element) (items : Items) → Fit (var_list_elements t es) items → Takes g.VarList t es items
var_list_takes (var_list gr gs) es items h = takes_behind g.VarList 0 h.2 (ap kind_of h.3.0) (group_takes gr _ h.1 h.4) (groups_takes gs es)
    (λ P made. ((Some h.0, (gr, (gs, tt))), refl, made))

pub result_takes : (t : Option Name) (es : List Element) (items : Items) → Fit (result_elements t es) items → Takes g.Result t es items
result_takes (Some n) es items h = takes g.Result 0 (past h.2 (ap kind_of h.3.0) (past h.4.2 (ap kind_of h.4.3.0) (done h.4.4)))
    (λ P made. ((Some h.0, (Some h.4.0, tt)), ap (λ z. Some z) (name_is n h.4.0 h.4.3), made))
result_takes None es items h = takes g.Result 1 (done h) (λ P made. (tt, refl, made))

mutual
  pub head_takes : (t : Heading) (es : List Element) (items : Items) → Fit (head_elements t es) items → Takes g.Head t es items
  head_takes (heading n ps r) es items h = takes_behind g.Head 0 h.2 (ap kind_of h.3.0) (params_takes ps _ h.1 h.4) (result_takes r es)
      (λ P made. ((Some h.0, (ps, (r, tt))), ap (λ z. heading z ps r) (name_is n h.0 h.3), made))

  pub params_takes : (t : Params) (es : List Element) (items : Items) → Fit (params_elements t es) items → Takes g.Params t es items
  params_takes (params p ps) es items h = takes_within g.Params 0 is.Close h.2 (ap kind_of h.3.0) (param_takes p _ h.1 h.4)
      (more_params_takes ps (word is.Close ∷ level_end ∷ es)) (λ c P made. ((Some h.0, (p, (ps, (c, tt)))), refl, made))
  params_takes no_params es items h = takes g.Params 1 (done h) (λ P made. (tt, refl, made))

  pub more_params_takes : (t : MoreParams) (es : List Element) (items : Items) → Fit (more_params_elements t es) items → Takes g.MoreParams t es items
  more_params_takes (next_param p ps) es items h = takes_behind g.MoreParams 0 h.2 (ap kind_of h.3.0) (param_takes p _ h.1 h.4) (more_params_takes ps es)
      (λ P made. ((Some h.0, (p, (ps, tt))), refl, made))
  more_params_takes no_param es items h = takes g.MoreParams 1 (done h) (λ P made. (tt, refl, made))

  pub param_takes : (t : Param) (es : List Element) (items : Items) → Fit (param_elements t es) items → Takes g.Param t es items
  param_takes (var_param gr) es items h = let p1 = group_takes gr es h.1 h.4
      in takes g.Param 0 (past h.2 (ap kind_of h.3.0) (past_part p1 (done p1.fits))) (λ P made. ((Some h.0, (gr, tt)), refl, made))
  param_takes (procedure_param hd) es items h = let h = subst (λ l. Fit l items) (heading_split hd (level_end ∷ es)) h
      in let p1 = head_takes hd (level_end ∷ es) h.1 h.4
      in takes g.Param 1 (past h.2 (ap kind_of h.3.0) (past_part p1 (past_end p1.fits.1 (done p1.fits.2)))) (λ P made. ((Some h.0, (hd, tt)), refl, made))
  param_takes (value_param gr) es items h = takes_part g.Param 2 (group_takes gr es items h) (λ P made. ((gr, tt), refl, made))
