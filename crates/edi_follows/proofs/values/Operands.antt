-- All operands: what the constructs' interface asks for.
use Rattle.std.proofs.Common.{ℕ}
use Rattle.edi_unit.specs.Tree.{Acts}
use Rattle.edi_meaning.specs.Evaluation.{World, Evaluation}
use Rattle.edi_follows.proofs.values.Lengths.{values_are_long}
use Rattle.edi_follows.specs.places.Coded.{Coded}
use Rattle.edi_follows.specs.places.Scene.{Scene}
use Rattle.edi_follows.specs.places.Constructs.{Operands}
use Rattle.edi_follows.proofs.values.Constants.{constant_does}
use Rattle.edi_follows.proofs.values.Unary.{not_does, sign_does, convert_does}
use Rattle.edi_follows.proofs.values.Chains.{no_link_does, link_does, chain_does}
use Rattle.edi_follows.proofs.values.Rows.{no_expression_does, expression_then_does}
use Rattle.edi_follows.proofs.values.Members.{no_member_does, member_then_does}
use Rattle.edi_follows.proofs.values.Makes.{make_does}

pub operands_do : (g : Coded) (s : Scene) (deeper : Acts → World → Evaluation (Unit {0})) (bound : ℕ) → Operands g s deeper bound
operands_do g s deeper bound = record {
  constant = λ of n F pc to t held w m less stands fits able. constant_does g s values_are_long deeper of n F pc to t held w m stands fits able;
  not_of = not_does g s deeper bound;
  sign_of = sign_does g s deeper bound;
  chain = chain_does g s deeper bound;
  make = make_does g s deeper bound;
  convert = convert_does g s deeper bound;
  no_expression = no_expression_does g s deeper bound;
  expression_then = expression_then_does g s deeper bound;
  no_member = no_member_does g s deeper bound;
  member_then = member_then_does g s deeper bound;
  no_link = no_link_does g s deeper bound;
  link_then = link_does g s deeper bound;
}
