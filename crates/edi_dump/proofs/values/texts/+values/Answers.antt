use Rattle.std.proofs.Common.{◌≡◌, ◌++◌, IfOk, OnOk, subst, sym, ◌-◌, arith}
use Rattle.edi_unit.specs.Types.{shape_at}
use Rattle.edi_dump.specs.Views.{constants_in, types_in}
use Rattle.edi_dump.specs.values.Texts.{Piece}
use Rattle.edi_dump.specs.values.Words.{piece_within, shape_piece}
use Rattle.edi_dump.proofs.valued.Deep.{within}
use Rattle.edi_dump.proofs.values.texts.+values.Goals as goal

pub put_within-returns : goal.put_within-returns
put_within-returns t c =
    let types = types_in c.args.known.now in
    let constants = constants_in c.args.known.now in
    let is : shape_piece types constants (piece_within types constants (c.args.deep - 1)) c.args.left c.args.t (shape_at types c.args.t) c.args.words.now
    ≡ piece_within types constants c.args.deep c.args.left c.args.t c.args.words.now =
    sym (within types constants c.args.deep c.args.left c.args.t c.args.words.now (omega (arith, c.if-deep-eq0.false))) in
    record {
      exact = subst (λ (p : Piece). OnOk c.put_shape.result (c.put_shape.new.out.items ≡ c.args.out.now.items ++ p.text)) is c.put_shape.ensures.exact;
      left = subst (λ (p : Piece). IfOk c.put_shape.result (λ more. more ≡ p.left)) is c.put_shape.ensures.left;
    }
