-- No more parts may be told, and a member is left.
use Rattle.std.proofs.Common.{◌++◌, sym, ap, ◌∙◌, arith}
use Rattle.edi_dump.specs.values.Texts.{Piece}
use Rattle.edi_dump.specs.values.Views.{constants_of}
use Rattle.edi_dump.proofs.valued.Sets.{none_told}
use Rattle.edi_dump.proofs.values.sets.put_members.Goals as goal

pub returns-then-more-eq0-clause-exact : goal.returns-then-more-eq0-clause-exact
returns-then-more-eq0-clause-exact c =
    c.in_ok-put_more.ensures.exact
    ∙ (ap (λ (piece : Piece). c.loop-n.out.items ++ piece.text)
    (sym (none_told c.args.types.now (constants_of c.args.constants.now) c.loop-n.first c.loop-n.more c.args.base c.args.members.now c.loop-n.n-index
    (omega (arith, c.if-more-eq0.true)) c.loop-n-test.true))
    ∙ c.loop-n.invariant.text)

pub returns-then-more-eq0-clause-left : goal.returns-then-more-eq0-clause-left
returns-then-more-eq0-clause-left c =
    ap (λ (piece : Piece). piece.left)
    (sym (none_told c.args.types.now (constants_of c.args.constants.now) c.loop-n.first c.loop-n.more c.args.base c.args.members.now c.loop-n.n-index
    (omega (arith, c.if-more-eq0.true)) c.loop-n-test.true))
    ∙ c.loop-n.invariant.left
