use Rattle.std.proofs.Common.{◌≡◌, sym, ap, ◌∙◌}
use Rattle.std.proofs.Common.{rules, w16, true, ℤ, Some, None}
use Rattle.std.specs.Prelude.{if◌then◌else◌}
use Rattle.std.proofs.lemmas.Int.{to_z-of_z}
use Rattle.edi_unit.specs.Types.{Shape, is_ordinal_of, shape_at}
use Rattle.edi_unit.specs.Values.{Value, converted, ordinal, ordinal_of}
use Rattle.edi_unit.specs.View.{unit_of}
use Rattle.edi_meaning.specs.Evaluation.{gives, ◌>>=◌}
use Rattle.edi_meaning.specs.Whole.{in_range}
use Rattle.edi_walk.specs.Data.{value_of}
use Rattle.edi_walk.specs.Frames.{a_value, converts}
use Rattle.edi_walk.specs.Machine.{given_of, next_of, rest_of, world_of}
use Rattle.edi_walk.proofs.Arms.{gave}
use Rattle.edi_walk.proofs.Layers.{ordinal_seen}
use Rattle.edi_walk.proofs.evaluation.Evaluation.convert.Goals as goal

ranged : (shape : Shape) (v : Value) (n : ℤ) → n ≡ ordinal_of v → is_ordinal_of shape n ≡ true → converted shape v ≡ Some (ordinal n)
ranged shape v n same is =
    ap (λ b. if b then Some (ordinal (ordinal_of v)) else None) (ap (is_ordinal_of shape) (sym same) ∙ is) ∙ ap (λ k. Some (ordinal k)) (sym same)

pub returns-clause-exact : goal.returns-clause-exact
returns-clause-exact c levels system enough =
    ap (λ g. next_of levels c.args.self.now (converts c.args.of c.args.line) (given_of g) (world_of c.args.self.now system)) c.in_ok-value.ensures.exact
    ∙ ap (λ o. (in_range c.args.line o (world_of c.args.self.now system) >>= λ v w. gives (a_value v) w) >>= rest_of levels c.args.self.now)
    (ranged (shape_at (unit_of c.args.self.now.unit.now).types c.args.of) (value_of c.in_ok-value.value) c.ordinal-n.result c.ordinal-n.ensures.exact
    (ap (is_ordinal_of (shape_at (unit_of c.args.self.now.unit.now).types c.args.of)) (sym (to_z-of_z w16 c.ordinal-n.result (search rules)))
    ∙ sym c.has_ordinal.ensures.exact ∙ c.if-not-has_ordinal.false))
    ∙ gave levels system c.args.self.now c.give.new.self _ _ c.give.ensures.exact
    (ap a_value (ordinal_seen _ ∙ ap ordinal (to_z-of_z w16 c.ordinal-n.result (search rules))))
