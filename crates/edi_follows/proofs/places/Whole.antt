-- A variable is loaded, and a value is stored.
use Rattle.std.proofs.Common.{◌≡◌, ℕ, ◌+◌, refl, sym, subst, ap, ◌∙◌, arith}
use Rattle.edi_unit.specs.Types.{size}
use Rattle.edi_unit.specs.Values.{Value, IsOf}
use Rattle.edi_store.specs.Memory.{words_at}
use Rattle.edi_unit.specs.Tree as tree
use Rattle.edi_unit.specs.Tree.{Expression, Place, Acts}
use Rattle.edi_unit.specs.Need.{expression_type, expression_height, place_type, place_height}
use Rattle.edi_meaning.specs.Store.{get, put}
use Rattle.edi_meaning.specs.Evaluation.{World, Evaluation, gives, ◌>>=◌}
use Rattle.edi_meaning.specs.Whole.{expression, designated}
use Rattle.edi_follows.specs.places.Coded.{Coded}
use Rattle.edi_follows.specs.places.Scene.{Scene, here}
use Rattle.edi_follows.specs.places.Claims.{Pushed, Ran, AssignAt}
use Rattle.edi_follows.specs.places.Constructs.{E, P}
use Rattle.edi_follows.proofs.places.Doing.{stands_after}
use Rattle.edi_follows.proofs.values.Lengths.{values_are_long}
use Rattle.edi_follows.proofs.values.Portions.{parts_stand}
use Rattle.edi_follows.proofs.places.Binding.{bind_value}
use Rattle.edi_follows.proofs.places.Steps.{able_above, able_then}
use Rattle.edi_follows.proofs.places.Variables.{loads_part, stores}
use Rattle.edi_follows.proofs.places.Pointing.{bind_pointed, word_stays}

module _ (g : Coded) (s : Scene) (deeper : Acts → World → Evaluation (Unit {0})) (bound : ℕ) where
  pub load_does : (v : Place) → P g s deeper bound v → E g s deeper bound (tree.load v)
  load_does v does F pc to t held w m turns st fits able =
      let a : ℕ = st.0 in
      let of : ℕ = place_type g.unit.types g.unit.blocks (here g s F) v in
      bind_pointed g s Value (Pushed g s of to t) (designated g.unit s.name (s.size s.name) deeper v w) (λ d w. gives (get w.store d.at) w) F pc a t t t
      held of w m (omega arith)
      (does F pc a t held w m turns st.1 fits (able_above g s F w m t (expression_height g.unit.types g.unit.blocks (here g s F) (tree.load v)) t
      (place_height g.unit.types g.unit.blocks (here g s F) v) held able (omega arith) (omega arith)))
      (λ d v m' c within after pointed.
      loads_part g s values_are_long parts_stand F v m' d.at of a to t (t + 1) held (stands_after g s F w v m m' t c able.stands after) pointed.leads
      st.2 able.low refl pointed.address
      (omega (arith, able.high)))

  pub assign_does : (v : Place) (e : Expression) → P g s deeper bound v → E g s deeper bound e → AssignAt g s deeper bound v e
  assign_does v e does value_does F pc to t held w m turns st fits able =
      let a : ℕ = st.0 in
      let b : ℕ = st.1 in
      let of : ℕ = place_type g.unit.types g.unit.blocks (here g s F) v in
      let from : ℕ = expression_type g.unit.types g.unit.blocks (here g s F) e in
      bind_pointed g s (Unit {0}) (Ran g s to t) (designated g.unit s.name (s.size s.name) deeper v w)
      (λ d w. expression g.unit s.name (s.size s.name) deeper e w >>= λ x w. gives tt (record w {
        store =
            put w.store d.at x;
      })) F pc a t t t held of w m (omega arith)
      (does F pc a t held w m turns st.2 fits.1
      (able_above g s F w m t _ t (place_height g.unit.types g.unit.blocks (here g s F) v) held able (omega arith) (omega arith)))
      (λ d u m' c within after pointed.
      let stood = stands_after g s F w u m m' t c able.stands after in
      bind_value g s (Unit {0}) (Ran g s to t) (expression g.unit s.name (s.size s.name) deeper e u) (λ x w. gives tt (record w { store = put w.store d.at x }))
      F a b (t + 1) t (t + 1) held from u m' (omega arith)
      (value_does F a b (t + 1) held u m' (omega (arith, after.turns, turns)) st.3 fits.2
      (able_then g s F w u m m' t _ (t + 1) (expression_height g.unit.types g.unit.blocks (here g s F) e) t held c able after (omega arith) (omega arith)))
      (λ x z m'' c' up later pushed.
      let same : size g.unit.types of ≡ size g.unit.types from = ap (size g.unit.types) fits.0 in
      stores g s values_are_long parts_stand F z m'' d.at x of b to t (t + 1 + size g.unit.types from) held
      (stands_after g s F u z m' m'' (t + 1) c' stood later) pointed.leads pointed.older
      (subst (λ y. IsOf g.unit.types x y) (sym fits.0) pushed.typed) st.4 able.low (omega (arith, able.high)) (omega (arith, same))
      (word_stays g s F u z m' m'' t (t + 1) _ c' stood later able.low (omega arith) within pointed.address)
      (ap (words_at m'' (t + 1)) same ∙ pushed.words)))
