use Rattle.std.proofs.Common.{[], refl, ap, sym, ◌∙◌}
use Rattle.std.specs.Prelude.{map}
use Rattle.edi_tree.specs.declared.declarations.Declaration.TheViews.{out-Module, out-Procedure}
use Rattle.edi_tree.specs.View.{declaration_of, declarations, list_of, member_of, members}
use Rattle.edi_sema.proofs.Seen.{module_seen, procedure_seen}
use Rattle.edi_sights.specs.named.Naming as spec
use Rattle.edi_sights.specs.named.Views.{naming_of}
use Rattle.edi_sights.proofs.naming.Folding.{all_named}
use Rattle.edi_sights.proofs.named.declarations.+namings.Goals as goal

pub procedure_named-returns : goal.procedure_named-returns
procedure_named-returns t c =
    let items = c.items-declaration-items.result.now in
    let old = naming_of c.args.walk.now in
    let n = c.args.block in
    record {
      exact =
          c.put_begun.ensures.exact
          ∙ (ap (λ bs. spec.with_begun bs (naming_of c.list_named.new.walk)) c.take_begun-begun.ensures.begun
          ∙ (ap (spec.with_begun old.begun)
          (c.in_ok-list_named.ensures.exact
          ∙ ap (spec.list_named (list_of (out-Procedure c.args.procedure.now).list))
          (all_named declaration_of (λ ds w. spec.declarations_named n (declarations ds) w) items c.loop-declaration.declaration-index
          (naming_of c.loop-declaration.walk) _ refl c.loop-declaration.invariant.left c.loop-declaration-test.false
          ∙ (ap (λ w. spec.declarations_named n (declarations (map declaration_of items)) w) c.take_begun-begun.ensures.exact
          ∙ ap (λ ds. spec.declarations_named n (declarations (map declaration_of ds)) (spec.with_begun [] old)) c.items-declaration-items.ensures.exact)))
          ∙ ap (λ p. spec.procedure_named n p old) (sym (procedure_seen c.args.procedure.now))));
    }

pub module_named-returns : goal.module_named-returns
module_named-returns t c =
    let items = c.items-one-items.result.now in
    let old = naming_of c.args.walk.now in
    let n = c.args.block in
    record {
      exact =
          c.put_begun.ensures.exact
          ∙ (ap (λ bs. spec.with_begun bs (naming_of c.list_named.new.walk)) c.take_begun-begun.ensures.begun
          ∙ (ap (spec.with_begun old.begun)
          (c.in_ok-list_named.ensures.exact
          ∙ ap (spec.list_named (list_of (out-Module c.args.inner.now).list))
          (all_named member_of (λ ms w. spec.members_named n (members ms) w) items c.loop-one.one-index (naming_of c.loop-one.walk) _ refl
          c.loop-one.invariant.left c.loop-one-test.false
          ∙ (ap (λ w. spec.members_named n (members (map member_of items)) w) c.take_begun-begun.ensures.exact
          ∙ ap (λ ms. spec.members_named n (members (map member_of ms)) (spec.with_begun [] old)) c.items-one-items.ensures.exact)))
          ∙ ap (λ m. spec.module_named n m old) (sym (module_seen c.args.inner.now))));
    }
