use Rattle.std.proofs.Common.{rules, ◌≡◌, ◌+◌, ◌++◌, refl, sym, ap, subst, ◌∙◌, arith}
use Rattle.std.specs.Prelude.{IfOk, OnOk, map}
use Rattle.std.proofs.lemmas.List.{drop_all}
use Rattle.edi_unit.specs.Tree.{chain}
use Rattle.edi_unit.specs.View.{expression_of, links_of, arguments, argument_of}
use Rattle.edi_unit.specs.Need.{operator_type, expression_type}
use Rattle.edi_unit.proofs.Limits.{drop_item}
use Rattle.edi_scheme.specs.Pieces.{code_length, decision}
use Rattle.edi_code.specs.Emits.{Emits}
use Rattle.edi_code.specs.Scope.{types_in, blocks_in}
use Rattle.edi_code.specs.InScope.{expression_length, links_length, expression_code, links_code, arguments_code}
use Rattle.edi_code.specs.Aimed.{decided}
use Rattle.edi_code.proofs.Aiming.{grown, decides}
use Rattle.edi_code.proofs.Emitting.{two, both, told, emits_then}
use Rattle.edi_code.proofs.Layers.{chain_seen}
use Rattle.edi_code.proofs.Links.{link_is}
use Rattle.edi_code.proofs.Listed.{item_behind, all_behind, of_values, of_members, of_links, of_parts, of_arguments}
use Rattle.edi_code.proofs.expressions.+emitted.Goals as goal

pub emit_make-loop-value-preserved : goal.emit_make-loop-value-preserved
emit_make-loop-value-preserved t c =
    item_behind (of_values c.args.scope.now) _ _ _ _ _ _ _ _ _ _ _ _ (drop_item _ _ _ c.loop-value-test.true c.value-item.is) c.loop-value.invariant
    refl c.in_ok-here.ensures.behind c.in_ok-here.ensures.emits

pub emit_make-loop-member-preserved : goal.emit_make-loop-member-preserved
emit_make-loop-member-preserved t c =
    item_behind (of_members c.args.scope.now c.args.line) _ _ _ _ _ _ _ _ _ _ _ _ (drop_item _ _ _ c.loop-member-test.true c.member-item.is)
    c.loop-member.invariant refl (omega (arith, c.in_ok-behind.ensures.behind)) (emits_then _ _ _ _ _ c.in_ok-behind.ensures.emits c.in_ok-put-2.ensures.emits)

pub places::emit_parts-loop-part-preserved : goal.places::emit_parts-loop-part-preserved
places::emit_parts-loop-part-preserved t c =
    item_behind (of_parts c.args.scope.now) _ _ _ _ _ _ _ _ _ _ _ _ (drop_item _ _ _ c.loop-part-test.true c.part-item.is) c.loop-part.invariant
    c.part_type-of.ensures.exact c.in_ok-here.ensures.behind c.in_ok-here.ensures.emits

pub emit_links-loop-link-preserved : goal.emit_links-loop-link-preserved
emit_links-loop-link-preserved t c =
    item_behind (of_links c.args.scope.now) _ _ _ _ _ _ _ _ _ _ _ _ (drop_item _ _ _ c.loop-link-test.true c.link-item.is) c.loop-link.invariant
    (c.operator_type-of.ensures.exact ∙ ap (λ o. operator_type o c.loop-link.of) c.operator_of.ensures.exact) c.in_ok-here.ensures.behind c.in_ok-here.ensures.emits

pub places::emit_call-loop-argument-preserved : goal.places::emit_call-loop-argument-preserved
places::emit_call-loop-argument-preserved t c =
    item_behind (of_arguments c.args.scope.now) _ _ _ _ _ _ _ _ _ _ _ _ (drop_item _ _ _ c.loop-argument-test.true c.argument-item.is)
    c.loop-argument.invariant refl c.in_ok-here.ensures.behind c.in_ok-here.ensures.emits

pub emit_right-decide-requires : goal.emit_right-decide-requires
emit_right-decide-requires t c =
    let first = grown _ _ _ c.in_ok-put_any.ensures.emits in
    let second = grown _ _ _ c.in_ok-ends.ensures.emits in
    let third = grown _ _ _ c.in_ok-put_any-2.ensures.emits in
    let place = c.len-start.ensures ∙ c.args.out.now.ok.0 in
    record { there = omega (arith, first, second, third, ap code_length c.decision.ensures.exact, place) }

pub emit_right-returns-clause-emits : goal.emit_right-returns-clause-emits
emit_right-returns-clause-emits t c =
    let s = c.args.scope.now in
    let o = c.args.operator in
    let e = expression_of c.args.right.now in
    let begins : c.args.at + c.decision_length.result ≡ c.args.at + code_length (decision o 0) = ap (λ k. c.args.at + k) (c.decision_length.ensures.exact 0) in
    let long = c.operation_length.ensures.exact c.args.line in
    let place = c.len-start.ensures ∙ c.args.out.now.ok.0 in
    let aimed = c.decide.ensures.exact ∙ ap (λ k. decided o (c.in_ok-ends.ends + c.operation_length.result) k c.put_any-2.new.out.items) place in
    let code = decides o c.args.out.now.items _ _ _ _ _ (subst (Emits _ _) c.decision.ensures.exact c.in_ok-put_any.ensures.emits)
    (emits_then _ _ _ _ _ c.in_ok-ends.ensures.emits (subst (Emits _ _) c.operation.ensures.exact c.in_ok-put_any-2.ensures.emits)) aimed in
    subst (Emits c.args.out.now.items c.decide.new.out.items)
    (sym (link_is s c.args.at c.args.left o e c.args.line _ _ begins (ap (λ k. k + c.operation_length.result) c.in_ok-ends.ensures.behind
    ∙ ap (λ k. c.args.at + c.decision_length.result + expression_length s e + k) long))) code

pub places::emit_load-returns-clause-emits : goal.places::emit_load-returns-clause-emits
places::emit_load-returns-clause-emits t c = both _ _ _ _ _ _ _ c.in_ok-behind.ensures.emits c.in_ok-put.ensures.emits refl (search rules)

pub emit_operand-returns-clause-emits : goal.emit_operand-returns-clause-emits
emit_operand-returns-clause-emits t c = emits_then _ _ _ _ _ c.in_ok-behind.ensures.emits c.in_ok-put_any.ensures.emits

pub places::emit_call-returns-clause-emits : goal.places::emit_call-returns-clause-emits
places::emit_call-returns-clause-emits t c =
    let items = c.items-argument-items.result.now in
    let none = drop_all c.loop-argument.argument-index items (omega (arith, c.loop-argument-test.false)) in
    let emits = subst (λ l. Emits c.args.out.now.items c.loop-argument.out.items (arguments_code c.args.scope.now c.args.at (arguments (map argument_of l))))
    c.items-argument-items.ensures.exact (all_behind (of_arguments c.args.scope.now) _ _ _ _ 0 0 items _ none refl c.loop-argument.invariant) in
    both _ _ _ _ _ _ _ emits c.in_ok-put.ensures.emits c.call.ensures.exact refl

pub emit_value-returns-in_ok-behind-in-Chain : goal.emit_value-returns-in_ok-behind-in-Chain
emit_value-returns-in_ok-behind-in-Chain t c =
    let s = c.args.scope.now in
    let first = expression_of c.in-Chain.first.value in
    let rest = links_of c.in-Chain.links in
    let seen : expression_of c.args.value.now ≡ chain first rest = ap expression_of c.in-Chain.is ∙ chain_seen c.in-Chain.first c.in-Chain.links in
    let typed : c.expression_type-left.result ≡ expression_type (types_in s) (blocks_in s) s.block first = c.expression_type-left.ensures.exact
    ∙ ap (λ v. expression_type (types_in s) (blocks_in s) s.block (expression_of v)) c.deref-in-Chain.ensures in
    let begun = subst (λ v. Emits c.args.out.now.items c.emit_value.new.out.items (expression_code s c.args.at (expression_of v))) c.deref-in-Chain-2.ensures
    c.in_ok-behind-in-Chain.ensures.emits in
    let long : c.in_ok-behind-in-Chain.behind ≡ c.args.at + expression_length s first = c.in_ok-behind-in-Chain.ensures.behind
    ∙ ap (λ v. c.args.at + expression_length s (expression_of v)) c.deref-in-Chain-2.ensures in
    let here = ap (λ k. links_length s k rest) typed in
    record {
      emits =
          subst (λ v. OnOk c.emit_links.result (Emits c.args.out.now.items c.emit_links.new.out.items (expression_code s c.args.at v))) (sym seen)
          (two c.emit_links.result _ _ _ _ _ _ (expression_code s c.args.at (chain first rest)) begun c.emit_links.ensures.emits
          (ap (λ k. links_code s k c.expression_type-left.result rest) long
          ∙ ap (λ k. links_code s (c.args.at + expression_length s first) k rest) typed) refl);
      behind =
          subst (λ v. IfOk c.emit_links.result (λ b. b ≡ c.args.at + expression_length s v)) (sym seen)
          (told c.emit_links.result _ (c.args.at + expression_length s (chain first rest)) c.emit_links.ensures.behind (omega (arith, long, here)));
    }
