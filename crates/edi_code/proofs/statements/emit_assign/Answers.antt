use Rattle.std.proofs.Common.{◌+◌, ◌++◌, ◌∷◌, [], refl, ap, ◌∙◌}
use Rattle.edi_unit.specs.Types.{size}
use Rattle.edi_unit.specs.View.{expression_of, place_of}
use Rattle.edi_target.specs.Op as instruction
use Rattle.edi_code.specs.Scope.{types_in}
use Rattle.edi_code.specs.InScope.{expression_code, place_length}
use Rattle.edi_code.proofs.Emitting.{both, emits_then}
use Rattle.edi_code.proofs.statements.emit_assign.Goals as goal

pub returns-clause-emits : goal.returns-clause-emits
returns-clause-emits c =
    let s = c.args.scope.now in
    let value = expression_of c.args.value.now in
    let place = place_of c.args.place.now in
    let count = c.type_words-count.ensures.exact ∙ ap (size (types_in s)) c.place_type-of.ensures.exact in
    both _ _ _ _ _ _ _ c.in_ok-middle.ensures.emits (emits_then _ _ _ _ _ c.in_ok-behind.ensures.emits c.in_ok-put.ensures.emits)
    (ap (λ k. expression_code s k value ++ instruction.store c.type_words-count.result ∷ []) c.in_ok-middle.ensures.behind
    ∙ ap (λ k. expression_code s (c.args.at + place_length s place) value ++ instruction.store k ∷ []) count) refl
