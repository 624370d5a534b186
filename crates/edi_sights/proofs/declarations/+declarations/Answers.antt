use Rattle.std.proofs.Common.{◌≡◌, drop, ap, sym, ◌∙◌}
use Rattle.std.proofs.Math.ListN.{drop_of_length-le}
use Rattle.std.specs.Prelude.{map}
use Rattle.edi_tree.specs.declared.declarations.Declaration.TheViews.{out-Procedure}
use Rattle.edi_tree.specs.View.{declaration_of, declarations, declarations_of, heading_of, list_of}
use Rattle.edi_static.specs.Declarations.{enter_block}
use Rattle.edi_static.specs.Views.{environment}
use Rattle.edi_sema.proofs.Declaring.{declaring, all_declared, procedure_given}
use Rattle.edi_sema.proofs.Opening.{post_comes}
use Rattle.edi_sema.proofs.Seen.{procedure_seen}
use Rattle.edi_sema.proofs.Staying.{given}
use Rattle.edi_sights.specs.Awaits as spec
use Rattle.edi_sights.proofs.Walking.{procedure_done}
use Rattle.edi_sights.proofs.declarations.+declarations.Goals as goal

pub procedure_met-returns-clause-exact : goal.procedure_met-returns-clause-exact
procedure_met-returns-clause-exact t c =
    let h = declaring c.args.block (environment c.args.known.now) (environment c.open_block.new.known) (environment c.loop-declaration.known)
    c.args.procedure.now c.items-declaration-items.result.now (drop c.loop-declaration.declaration-index c.items-declaration-items.result.now)
    c.in_ok-begun.ensures.exact c.items-declaration-items.ensures.exact c.loop-declaration.invariant.comes c.loop-declaration.invariant.left in
    procedure_given _ _ _ _ _ h (environment c.finish_block_met.new.known) (environment c.leave_block.new.known) c.in_ok-begun.begun
    c.in_ok-begun.ensures.begun c.in_ok-finish_block_met.ensures.comes c.leave_block.ensures.exact
    (drop_of_length-le c.items-declaration-items.result.now c.loop-declaration-test.false) c.in_ok-finish_block_met.ensures.exact

pub item_met-returns-in_ok-procedure_met-in-Post-clause-comes : goal.item_met-returns-in_ok-procedure_met-in-Post-clause-comes
item_met-returns-in_ok-procedure_met-in-Post-clause-comes t c =
    post_comes (environment c.args.known.now) (environment c.begin_post.new.known) (environment c.procedure_met-in-Post.new.known)
    (environment c.completed.new.known) _ c.requires.stands.stands c.in_ok-block-in-Post.ensures.begins c.in_ok-procedure_met-in-Post.ensures.leaves
    c.completed.ensures.exact

pub procedure_met-returns-clause-awaits : goal.procedure_met-returns-clause-awaits
procedure_met-returns-clause-awaits t c =
    let env = environment c.args.known.now in
    let block = c.args.block in
    let name = c.args.name.now in
    let p = out-Procedure c.args.procedure.now in
    let items = c.items-declaration-items.result.now in
    let now = environment c.loop-declaration.known in
    let opened = environment c.open_block.new.known in
    let start = c.args.awaits.now.items in
    let none = drop_of_length-le items c.loop-declaration-test.false in
    let rest = drop c.loop-declaration.declaration-index items in
    let h = declaring block env opened now c.args.procedure.now items rest c.in_ok-begun.ensures.exact c.items-declaration-items.ensures.exact
    c.loop-declaration.invariant.comes c.loop-declaration.invariant.left in
    let at : enter_block block env ≡ opened = given (enter_block block env) opened c.in_ok-begun.ensures.exact in
    let met : c.loop-declaration.awaits.items ≡ spec.declarations_met name (declarations_of p.declarations) (enter_block block env) start =
    ap (λ xs. spec.declarations_met name (declarations (map declaration_of xs)) now c.loop-declaration.awaits.items) (sym none)
    ∙ (c.loop-declaration.invariant.met
    ∙ (ap (λ e. spec.declarations_met name (declarations (map declaration_of items)) e start) (sym at)
    ∙ ap (λ xs. spec.declarations_met name (declarations (map declaration_of xs)) (enter_block block env) start) c.items-declaration-items.ensures.exact)) in
    procedure_done name block (heading_of p.heading) (declarations_of p.declarations) (list_of p.list) p.end env now start c.loop-declaration.awaits.items
    c.finish_block_met.new.awaits.items
    (all_declared block env now c.args.procedure.now rest h none) met c.in_ok-finish_block_met.ensures.awaits
    ∙ ap (λ p. spec.procedure_met name block p env start) (sym (procedure_seen c.args.procedure.now))
