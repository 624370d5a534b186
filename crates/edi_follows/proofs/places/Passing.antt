-- Arguments by their kinds: a value, a variable, a procedure.
use Rattle.std.proofs.Common.{ℕ, ◌+◌, ◌≤◌, List, length, None, Some, refl, sym, subst, ap, ◌∙◌, arith}
use Rattle.edi_store.proofs.MemoryLaws.{length-words_at}
use Rattle.edi_unit.specs.declared.units.Parameter.TheVariants as slot
use Rattle.edi_unit.specs.Types.{size}
use Rattle.edi_unit.specs.Tree as tree
use Rattle.edi_unit.specs.Tree.{Expression, Place, Arguments, Acts}
use Rattle.edi_unit.specs.Need.{expression_type, expression_height, place_type, place_height, arguments_height}
use Rattle.edi_unit.specs.Headings as headings
use Rattle.edi_unit.specs.Headings.{Heading, no_formal, value_then, variable_then, procedure_then, heading_result}
use Rattle.edi_meaning.specs.Store.{Cell, value, location, Shape, now}
use Rattle.edi_meaning.specs.Evaluation.{World, Evaluation, gives}
use Rattle.edi_meaning.specs.Whole.{argument, expression, designated}
use Rattle.edi_follows.specs.places.Coded.{Coded}
use Rattle.edi_follows.specs.places.Spots.{frames_end, Holds}
use Rattle.edi_follows.specs.places.Scene.{Scene, here, Stands, Does}
use Rattle.edi_follows.specs.places.Claims.{Pushed, Pointed}
use Rattle.edi_follows.specs.places.Constructs.{E, P, Xs}
use Rattle.edi_follows.proofs.places.Doing.{give, stands_after}
use Rattle.edi_follows.proofs.places.Binding.{bind_value}
use Rattle.edi_follows.proofs.places.Effects.{one_word}
use Rattle.edi_follows.proofs.places.Steps.{able_above}
use Rattle.edi_follows.proofs.places.Pointing.{bind_pointed}
use Rattle.edi_follows.proofs.places.Arguments.{Handed, then_does}

module _ (g : Coded) (s : Scene) where
  -- words of the operands are in the memory
  inside : (F : Shape) (w : World) (m : List ℕ) (t : ℕ) → Stands g s F w m → t ≤ frames_end s.first F s.name → t ≤ length m
  inside F w m t h high = omega (arith, high, h.layout.segments.own s.name s.lives, h.layout.segments.within s.name s.lives, h.long)

  -- what a variable for values, for a location or for a procedure may hold
  abbrev IsValue : Shape → ℕ → Cell → Type 0
  IsValue F t c = Holds g F (now F s.name) (headings.heading no_formal None) (Some (slot.Value t)) c

  abbrev IsLocation : Shape → ℕ → Cell → Type 0
  IsLocation F t c = Holds g F (now F s.name) (headings.heading no_formal None) (Some (slot.Var t)) c

  abbrev pub IsFormal : Shape → Heading → Cell → Type 0
  IsFormal F h c = Holds g F (now F s.name) h (Some (slot.Formal (heading_result h))) c

  module _ (deeper : Acts → World → Evaluation (Unit {0})) (bound : ℕ) where
    -- ---- a value

    value_handed : (e : Expression) (F : Shape) (pc a t held : ℕ) (w : World) (m : List ℕ) → Stands g s F w m →
        Does g s F pc t t held w m (Pushed g s (expression_type g.unit.types g.unit.blocks (here g s F) e) a t)
        (expression g.unit s.name (s.size s.name) deeper e w) →
        Does g s F pc t t held w m (Handed g s F a t (size g.unit.types (expression_type g.unit.types g.unit.blocks (here g s F) e))
        (IsValue F (expression_type g.unit.types g.unit.blocks (here g s F) e)))
        (argument g.unit s.name (s.size s.name) deeper (tree.by_value e) w)
    value_handed e F pc a t held w m h does =
        bind_value g s Cell (Handed g s F a t n (IsValue F of)) (expression g.unit s.name (s.size s.name) deeper e w) (λ v w. gives (value v) w) F pc a
        t t t held of w m (omega arith) does
        (λ x v m' c up after pushed.
        let stood : Stands g s F v m' = stands_after g s F w v m m' t c h after in
        give g s F a (t + n) t held v m' (Handed g s F a t n (IsValue F of)) (value x) stood (omega arith) up
        (record {
          pc_is = refl;
          top_is = refl;
          long = ap length (sym pushed.words) ∙ length-words_at m' t n (inside F v m' (t + n) stood up);
          words = pushed.words;
          good = pushed.typed;
        }))
      where
        of : ℕ
        of = expression_type g.unit.types g.unit.blocks (here g s F) e

        n : ℕ
        n = size g.unit.types of

    pub value_does : (e : Expression) (xs : Arguments) → E g s deeper bound e → Xs g s deeper bound xs →
        Xs g s deeper bound (tree.argument_then (tree.by_value e) xs)
    value_does e xs does rest no_formal F pc to t held w m turns st fits able = absurd fits
    value_does e xs does rest (variable_then u fs) F pc to t held w m turns st fits able = absurd fits
    value_does e xs does rest (procedure_then h fs) F pc to t held w m turns st fits able = absurd fits
    value_does e xs does rest (value_then u fs) F pc to t held w m turns st fits able =
        then_does g s deeper bound (tree.by_value e) xs rest (value_then u fs) fs F pc st.0 to t held w m
        (IsValue F (expression_type g.unit.types g.unit.blocks (here g s F) e)) turns st.2 fits.2 able
        (λ c cs good others. (subst (λ y. IsValue F y c) fits.0 good, others))
        (value_handed e F pc st.0 t held w m able.stands
        (does F pc st.0 t held w m turns st.1 fits.1
        (able_above g s F w m t (arguments_height g.unit.types g.unit.blocks (here g s F) 0 (tree.argument_then (tree.by_value e) xs)) t
        (expression_height g.unit.types g.unit.blocks (here g s F) e) held able (omega arith) (omega arith))))

    -- ---- a variable

    variable_handed : (v : Place) (F : Shape) (pc a t held : ℕ) (w : World) (m : List ℕ) → Stands g s F w m →
        Does g s F pc t t held w m (Pointed g s F (place_type g.unit.types g.unit.blocks (here g s F) v) a t)
        (designated g.unit s.name (s.size s.name) deeper v w) →
        Does g s F pc t t held w m (Handed g s F a t 1 (IsLocation F (place_type g.unit.types g.unit.blocks (here g s F) v)))
        (argument g.unit s.name (s.size s.name) deeper (tree.by_variable v) w)
    variable_handed v F pc a t held w m h does =
        bind_pointed g s Cell (Handed g s F a t 1 (IsLocation F of)) (designated g.unit s.name (s.size s.name) deeper v w)
        (λ d w. gives (location d.at) w) F pc a t t t held of w m (omega arith) does
        (λ d z m' c up after pointed.
        let stood : Stands g s F z m' = stands_after g s F w z m m' t c h after in
        give g s F a (t + 1) t held z m' (Handed g s F a t 1 (IsLocation F of)) (location d.at) stood (omega arith) up
        (record {
          pc_is = refl;
          top_is = refl;
          long = refl;
          words = one_word m' _ t (omega (arith, inside F z m' (t + 1) stood up)) pointed.address;
          good = (pointed.leads, pointed.older);
        }))
      where
        of : ℕ
        of = place_type g.unit.types g.unit.blocks (here g s F) v

    pub variable_does : (v : Place) (xs : Arguments) → P g s deeper bound v → Xs g s deeper bound xs →
        Xs g s deeper bound (tree.argument_then (tree.by_variable v) xs)
    variable_does v xs does rest no_formal F pc to t held w m turns st fits able = absurd fits
    variable_does v xs does rest (value_then u fs) F pc to t held w m turns st fits able = absurd fits
    variable_does v xs does rest (procedure_then h fs) F pc to t held w m turns st fits able = absurd fits
    variable_does v xs does rest (variable_then u fs) F pc to t held w m turns st fits able =
        then_does g s deeper bound (tree.by_variable v) xs rest (variable_then u fs) fs F pc st.0 to t held w m
        (IsLocation F (place_type g.unit.types g.unit.blocks (here g s F) v)) turns st.2 fits.2 able
        (λ c cs good others. (subst (λ y. IsLocation F y c) fits.0 good, others))
        (variable_handed v F pc st.0 t held w m able.stands
        (does F pc st.0 t held w m turns st.1 fits.1
        (able_above g s F w m t (arguments_height g.unit.types g.unit.blocks (here g s F) 0 (tree.argument_then (tree.by_variable v) xs)) t
        (place_height g.unit.types g.unit.blocks (here g s F) v) held able (omega arith) (omega arith))))
