-- Declarations and programs: a tree whose elements fit is read.
use Rattle.std.proofs.Common.{List, ◌∷◌, Some, refl, sym, ap, subst}
use Rattle.edi_lex.specs.declared.symbol.Symbol.TheVariants as is
use Rattle.edi_tree.specs.Tree.{Procedure, procedure, Item, const_item, type_item, var_item, procedure_item, pre_item, post_item, Module, module_with}
use Rattle.edi_tree.specs.Tree.{Member, item_member, exported_member, module_member, Members, no_member, next_member, Declaration, item_declaration}
use Rattle.edi_tree.specs.Tree.{module_declaration, Declarations, no_declaration, next_declaration, Global, const_global, type_global, Globals, no_global}
use Rattle.edi_tree.specs.Tree.{next_global, Program, program}
use Rattle.edi_tree.specs.Levels.{Element, level_end, word, kept, declaration_elements, declarations_elements, global_elements, globals_elements}
use Rattle.edi_tree.specs.Levels.{item_elements, list_elements, member_elements, members_elements, module_elements, procedure_elements, program_elements}
use Rattle.edi_grammar.specs.Kind.{kind_of}
use Rattle.edi_grammar.specs.Rules as g
use Rattle.edi_grammar.specs.derivation.Fits.{Items, Fit}
use Rattle.edi_grammar.proofs.derivation.Splits.{heading_split}
use Rattle.edi_grammar.proofs.derivation.Reading.{done, past, past_end, past_part, takes, takes_part, takes_parts, Takes}
use Rattle.edi_grammar.proofs.derivation.SmallTakes.{const_list_takes, type_decl_takes, var_list_takes, head_takes}
use Rattle.edi_grammar.proofs.derivation.StatementTakes.{list_takes}

mutual
  pub procedure_takes : (t : Procedure) (es : List Element) (items : Items) → Fit (procedure_elements t es) items → Takes g.Procedure t es items
  procedure_takes (procedure hd ds l end) es items h = let h = subst (λ l. Fit l items)
      (heading_split hd (declarations_elements ds (word is.Begin ∷ list_elements l (kept is.End end ∷ level_end ∷ es)))) h in
      let p1 = head_takes hd (declarations_elements ds (word is.Begin ∷ list_elements l (kept is.End end ∷ level_end ∷ es))) h.1 h.4 in
      let p2 = declarations_takes ds (word is.Begin ∷ list_elements l (kept is.End end ∷ level_end ∷ es)) p1.rest p1.fits in
      let p3 = list_takes l (kept is.End end ∷ level_end ∷ es) p2.fits.1 p2.fits.4 in
      takes g.Procedure 0 (past h.2 (ap kind_of h.3.0)
      (past_part p1 (past_part p2 (past p2.fits.2 (ap kind_of p2.fits.3.0)
      (past_part p3 (past p3.fits.2 (ap kind_of p3.fits.3.0) (past_end p3.fits.4.1 (done p3.fits.4.2))))))))
      (λ P made. ((Some h.0, (hd, (ds, (Some p2.fits.0, (l, (Some p3.fits.0, tt)))))), ap (λ z. procedure hd ds l z) (sym p3.fits.3.1), made))

  pub item_takes : (t : Item) (es : List Element) (items : Items) → Fit (item_elements t es) items → Takes g.Item t es items
  item_takes (const_item l) es items h = takes_part g.Item 0 (const_list_takes l es items h) (λ P made. ((l, tt), refl, made))
  item_takes (type_item d) es items h = takes_part g.Item 1 (type_decl_takes d es items h) (λ P made. ((d, tt), refl, made))
  item_takes (var_item l) es items h = takes_part g.Item 2 (var_list_takes l es items h) (λ P made. ((l, tt), refl, made))
  item_takes (pre_item hd) es items h = let h = subst (λ l. Fit (word is.Pre ∷ l) items) (heading_split hd (level_end ∷ es)) h in
      let p1 = head_takes hd (level_end ∷ es) h.4.1 h.4.4 in
      takes g.Item 3 (past h.2 (ap kind_of h.3.0) (past h.4.2 (ap kind_of h.4.3.0) (past_part p1 (past_end p1.fits.1 (done p1.fits.2)))))
      (λ P made. ((Some h.0, (Some h.4.0, (hd, tt))), refl, made))
  item_takes (post_item p) es items h = let p1 = procedure_takes p es h.1 h.4 in
      takes g.Item 4 (past h.2 (ap kind_of h.3.0) (past_part p1 (done p1.fits))) (λ P made. ((Some h.0, (p, tt)), refl, made))
  item_takes (procedure_item p) es items h = takes_part g.Item 5 (procedure_takes p es items h) (λ P made. ((p, tt), refl, made))

  pub module_takes : (t : Module) (es : List Element) (items : Items) → Fit (module_elements t es) items → Takes g.Module t es items
  module_takes (module_with ms l) es items h = let p1 = members_takes ms (word is.Begin ∷ list_elements l (word is.End ∷ level_end ∷ es)) h.1 h.4 in
      let p2 = list_takes l (word is.End ∷ level_end ∷ es) p1.fits.1 p1.fits.4 in
      takes g.Module 0 (past h.2 (ap kind_of h.3.0)
      (past_part p1 (past p1.fits.2 (ap kind_of p1.fits.3.0)
      (past_part p2 (past p2.fits.2 (ap kind_of p2.fits.3.0) (past_end p2.fits.4.1 (done p2.fits.4.2)))))))
      (λ P made. ((Some h.0, (ms, (Some p1.fits.0, (l, (Some p2.fits.0, tt))))), refl, made))

  pub member_takes : (t : Member) (es : List Element) (items : Items) → Fit (member_elements t es) items → Takes g.Member t es items
  member_takes (exported_member i) es items h = let p1 = item_takes i es h.1 h.4 in
      takes g.Member 0 (past h.2 (ap kind_of h.3.0) (past_part p1 (done p1.fits))) (λ P made. ((Some h.0, (i, tt)), refl, made))
  member_takes (module_member m) es items h = takes_part g.Member 1 (module_takes m es items h) (λ P made. ((m, tt), refl, made))
  member_takes (item_member i) es items h = takes_part g.Member 2 (item_takes i es items h) (λ P made. ((i, tt), refl, made))

  pub members_takes : (t : Members) (es : List Element) (items : Items) → Fit (members_elements t es) items → Takes g.Members t es items
  members_takes (next_member m ms) es items h = takes_parts g.Members 0 (member_takes m _ items h) (members_takes ms es) (λ P made. ((m, (ms, tt)), refl, made))
  members_takes no_member es items h = takes g.Members 1 (done h) (λ P made. (tt, refl, made))

  pub declaration_takes : (t : Declaration) (es : List Element) (items : Items) → Fit (declaration_elements t es) items → Takes g.Declaration t es items
  declaration_takes (module_declaration m) es items h = takes_part g.Declaration 0 (module_takes m es items h) (λ P made. ((m, tt), refl, made))
  declaration_takes (item_declaration i) es items h = takes_part g.Declaration 1 (item_takes i es items h) (λ P made. ((i, tt), refl, made))

  pub declarations_takes : (t : Declarations) (es : List Element) (items : Items) → Fit (declarations_elements t es) items → Takes g.Declarations t es items
  declarations_takes (next_declaration d ds) es items h = takes_parts g.Declarations 0 (declaration_takes d _ items h) (declarations_takes ds es)
      (λ P made. ((d, (ds, tt)), refl, made))
  declarations_takes no_declaration es items h = takes g.Declarations 1 (done h) (λ P made. (tt, refl, made))

pub global_takes : (t : Global) (es : List Element) (items : Items) → Fit (global_elements t es) items → Takes g.Global t es items
global_takes (const_global l) es items h = takes_part g.Global 0 (const_list_takes l es items h) (λ P made. ((l, tt), refl, made))
global_takes (type_global d) es items h = takes_part g.Global 1 (type_decl_takes d es items h) (λ P made. ((d, tt), refl, made))

pub globals_takes : (t : Globals) (es : List Element) (items : Items) → Fit (globals_elements t es) items → Takes g.Globals t es items
globals_takes (next_global gr gs) es items h = takes_parts g.Globals 0 (global_takes gr _ items h) (globals_takes gs es)
    (λ P made. ((gr, (gs, tt)), refl, made))
globals_takes no_global es items h = takes g.Globals 1 (done h) (λ P made. (tt, refl, made))

pub program_takes : (t : Program) (es : List Element) (items : Items) → Fit (program_elements t es) items → Takes g.Program t es items
program_takes (program gs p) es items h = takes_parts g.Program 0 (globals_takes gs _ items h) (procedure_takes p es) (λ P made. ((gs, (p, tt)), refl, made))
