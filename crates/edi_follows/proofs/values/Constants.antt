-- A construct by way of example: a constant.
use Rattle.std.proofs.Common.{ℕ, List, [], ◌∷◌, refl}
use Rattle.std.specs.Prelude.{ℤ}
use Rattle.edi_unit.specs.Tree.{constant, Acts}
use Rattle.edi_unit.specs.Values.{ordinal}
use Rattle.edi_unit.specs.Need.{expression_type, expression_height}
use Rattle.edi_unit.specs.Fits.{ExpressionFits}
use Rattle.edi_meaning.specs.Store.{Shape}
use Rattle.edi_meaning.specs.Evaluation.{World, Evaluation}
use Rattle.edi_meaning.specs.Whole.{expression}
use Rattle.edi_target.specs.Op as op
use Rattle.edi_target.specs.Op.{word_of_integer}
use Rattle.edi_scheme.specs.Stands as code
use Rattle.edi_follows.specs.values.Words.{ValuesAreLong}
use Rattle.edi_follows.specs.places.Coded.{Coded, entry}
use Rattle.edi_follows.specs.places.Scene.{Scene, here, Able, Does}
use Rattle.edi_follows.specs.places.Claims.{Pushed}
use Rattle.edi_follows.proofs.places.Free.{pushes}

pub constant_does : (g : Coded) (s : Scene) → ValuesAreLong → (deeper : Acts → World → Evaluation (Unit {0})) (of : ℕ) (n : ℤ) (F : Shape) (pc to t held : ℕ)
    (w : World) (m : List ℕ) →
    code.IsExpression g.fetched g.unit.types g.unit.blocks (entry g) (here g s F) (constant of n) pc to →
    ExpressionFits g.unit.types g.unit.blocks g.fits.headings (here g s F) (constant of n) →
    Able g s F w m t (expression_height g.unit.types g.unit.blocks (here g s F) (constant of n)) held →
    Does g s F pc t t held w m (Pushed g s (expression_type g.unit.types g.unit.blocks (here g s F) (constant of n)) to t)
    (expression g.unit s.name (s.size s.name) deeper (constant of n) w)
constant_does g s long deeper of n F pc to t held w m stands fits able =
    pushes g s F w m able.stands (op.const (word_of_integer n)) pc to t held of (ordinal n) (word_of_integer n ∷ []) stands refl refl
    (long g.unit.types (record { table = g.fits.table; shapes = g.fits.shapes; parts = g.parts }) (ordinal n) of fits.0 fits.1) fits.1 able.low able.high
