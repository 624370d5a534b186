use Rattle.std.proofs.Common.{◌+◌, drop, refl}
use Rattle.std.proofs.Math.ListN.{drop_of_length-le}
use Rattle.std.proofs.lemmas.Result.{err_from_is_err_and}
use Rattle.edi_unit.proofs.Limits.{drop_item}
use Rattle.edi_static.specs.Views.{environment}
use Rattle.edi_sema.proofs.Opening.{post_comes}
use Rattle.edi_sema.proofs.Declaring.{declaring, declaration_faults, finish_faults, procedure_given, procedure_leaves}
use Rattle.edi_sema.proofs.Staying.{comes_self}
use Rattle.edi_sema.proofs.declarations.+declarations.Goals as goal

pub procedure_rest-loop-declaration-init : goal.procedure_rest-loop-declaration-init
procedure_rest-loop-declaration-init t c = record { comes = comes_self (environment c.open_block.new.known) c.in_ok-begun.ensures.stands; left = refl }

pub procedure_rest-returns-in_err-declare-clause-exact : goal.procedure_rest-returns-in_err-declare-clause-exact
procedure_rest-returns-in_err-declare-clause-exact t c =
    let env = environment c.args.known.now in
    let now = environment c.loop-declaration.known in
    let items = c.items-declaration-items.result.now in
    let i = c.loop-declaration.declaration-index in
    let q = err_from_is_err_and c.from_residual-in_err-declare.result c.from_residual-in_err-declare.ensures.1 in
    rw (q.1, q.2) (declaration_faults c.args.block env now c.args.procedure.now (drop i items)
    (declaring c.args.block env (environment c.open_block.new.known) now c.args.procedure.now items (drop i items) c.in_ok-begun.ensures.exact
    c.items-declaration-items.ensures.exact c.loop-declaration.invariant.comes c.loop-declaration.invariant.left)
    c.declaration-item.result (drop (i + 1) items) c.in_err-declare.field-0.0
    (drop_item items i c.declaration-item.result c.loop-declaration-test.true c.declaration-item.is) c.in_err-declare.ensures.exact)

pub procedure_rest-returns-in_err-finish_block-clause-exact : goal.procedure_rest-returns-in_err-finish_block-clause-exact
procedure_rest-returns-in_err-finish_block-clause-exact t c =
    let h = declaring c.args.block (environment c.args.known.now) (environment c.open_block.new.known) (environment c.loop-declaration.known)
    c.args.procedure.now c.items-declaration-items.result.now (drop c.loop-declaration.declaration-index c.items-declaration-items.result.now)
    c.in_ok-begun.ensures.exact c.items-declaration-items.ensures.exact c.loop-declaration.invariant.comes c.loop-declaration.invariant.left in
    let q = err_from_is_err_and c.from_residual-in_err-finish_block.result c.from_residual-in_err-finish_block.ensures.1 in
    rw (q.1, q.2) (finish_faults _ _ _ _ _ h c.in_err-finish_block.field-0.0
    (drop_of_length-le c.items-declaration-items.result.now c.loop-declaration-test.false) c.in_err-finish_block.ensures.exact)

pub procedure_rest-returns : goal.procedure_rest-returns
procedure_rest-returns t c =
    let h = declaring c.args.block (environment c.args.known.now) (environment c.open_block.new.known) (environment c.loop-declaration.known)
    c.args.procedure.now c.items-declaration-items.result.now (drop c.loop-declaration.declaration-index c.items-declaration-items.result.now)
    c.in_ok-begun.ensures.exact c.items-declaration-items.ensures.exact c.loop-declaration.invariant.comes c.loop-declaration.invariant.left in
    record {
      exact = procedure_given _ _ _ _ _ h (environment c.finish_block.new.known) (environment c.leave_block.new.known) c.in_ok-begun.begun
          c.in_ok-begun.ensures.begun c.in_ok-finish_block.ensures.comes c.leave_block.ensures.exact
          (drop_of_length-le c.items-declaration-items.result.now c.loop-declaration-test.false) c.in_ok-finish_block.ensures.exact;
      leaves = procedure_leaves _ _ _ _ _ h (environment c.finish_block.new.known) (environment c.leave_block.new.known)
          c.in_ok-begun.begun c.in_ok-begun.ensures.begun c.in_ok-finish_block.ensures.comes c.leave_block.ensures.exact
          c.leave_block.ensures.proper;
    }

pub item-returns-in_ok-procedure_rest-in-Post-clause-comes : goal.item-returns-in_ok-procedure_rest-in-Post-clause-comes
item-returns-in_ok-procedure_rest-in-Post-clause-comes t c =
    post_comes (environment c.args.known.now) (environment c.begin_post.new.known) (environment c.procedure_rest-in-Post.new.known)
    (environment c.completed.new.known) _ c.requires.stands.stands c.in_ok-block-in-Post.ensures.begins c.in_ok-procedure_rest-in-Post.ensures.leaves
    c.completed.ensures.exact
