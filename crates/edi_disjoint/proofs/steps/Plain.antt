-- A plain text is evaluated alike wherever its process finds the same, and changes nothing.
use Rattle.std.proofs.Common.{◌≡◌, ℕ, zero, suc, ◌-◌, Bool, true, false, if◌then◌else◌, List, [], length, Option, Some, None, refl, sym, ap, subst, ◌∙◌}
use Rattle.std.specs.Prelude.{⊤, slice_get, slice_index_or, unwrap_or}
use Rattle.edi_calls.specs.Names.{Name}
use Rattle.edi_unit.specs.declared.expressions.Callee.{Callee}
use Rattle.edi_unit.specs.declared.expressions.Callee.TheVariants as callee
use Rattle.edi_unit.specs.Need.{block_at, slots, slot_type}
use Rattle.edi_unit.specs.Types.{Shape, shape_at, is_set_shape, array_of, int, char, bool, enumeration, record_of, set_of}
use Rattle.edi_unit.specs.Values.{Value, is_true, decides, apply, sign, converted, with_ordinal, ordinal_of, element_at}
use Rattle.edi_unit.specs.Tree as tree
use Rattle.edi_unit.specs.Tree.{Expression, Expressions, Link, Links, Place, Part, Parts, Argument, Arguments, Acts, Clauses, ProgramUnit}
use Rattle.edi_meaning.specs.Parts.{part_at}
use Rattle.edi_meaning.specs.Store.{Spot, Location, block_procedure, procedure, Frame, instances, shape, no_frame, frame_at}
use Rattle.edi_meaning.specs.Store.{reached, now, cells_in, no_cell, cell, located, slot, value_in, get, Owns}
use Rattle.edi_meaning.specs.Evaluation.{World, Evaluation, gives, ends, ◌>>=◌}
use Rattle.edi_meaning.specs.Whole.{in_range, Designated, part_of, element_of, meant, named, expression, expressions, members_of, linked, operated, designated}
use Rattle.edi_meaning.specs.Whole.{parts, part, argument, arguments, below}
use Rattle.edi_meaning.specs.Step.{chosen}
use Rattle.edi_meaning.proofs.Own.{owns_self, owns_all, Owned}
use Rattle.edi_disjoint.specs.Leaves.{Way, reads, assigns, lends, ExpressionMay, ExpressionsMay, LinksMay, LinkMay, PlaceMay, PartsMay, PartMay, ArgumentMay}
use Rattle.edi_disjoint.specs.Leaves.{ArgumentsMay}
use Rattle.edi_disjoint.specs.steps.Own.{reference_at}
use Rattle.edi_disjoint.specs.steps.Plain.{NamesOwn, IsByName, plain, ConditionsMay}
use Rattle.edi_disjoint.proofs.steps.Differing.{parent_owned, reached_by}
use Rattle.edi_disjoint.proofs.steps.Locations.{same_located}

-- two evaluations of p from two worlds in which it finds the same
module _ (unit : ProgramUnit) (p : Name) (size : ℕ) (w u : World) (owned : Owned w.store) (own : instances u.store p ≡ instances w.store p)
    (alike : (r : Name) → Owns p r → shape u.store r ≡ shape w.store r)
    (lent : (r : Name) (depth variable : ℕ) → Owns p r → reference_at (instances u.store r) depth variable ≡ reference_at (instances w.store r) depth variable) where
  same_frame : (s : Spot) → Owns p s.0 → frame_at (shape u.store) s ≡ frame_at (shape w.store) s
  same_frame s o = ap (λ fs. unwrap_or (slice_get fs s.1) no_frame) (alike s.0 o)

  same_reached : (levels : ℕ) (s : Spot) → Owns p s.0 → reached (shape u.store) levels s ≡ reached (shape w.store) levels s
  same_reached zero s o = refl
  same_reached (suc levels) s o =
      ap (λ (f : Frame). reached (shape u.store) levels f.parent) (same_frame s o)
      ∙ same_reached levels (frame_at (shape w.store) s).parent
      (owns_all p s.0 (frame_at (shape w.store) s).parent.0 o (parent_owned s.0 (instances w.store s.0) s.1 (owned.each s.0)))

  pub same_here : (levels : ℕ) → reached (shape u.store) levels (now (shape u.store) p) ≡ reached (shape w.store) levels (now (shape w.store) p)
  same_here levels =
      ap (λ (fs : List Frame). reached (shape u.store) levels (p, length fs - 1)) (alike p (owns_self p))
      ∙ same_reached levels (now (shape w.store) p) (owns_self p)

  same_held : (r : Name) → r ≡ p → instances u.store r ≡ instances w.store r
  same_held r e = ap (instances u.store) e ∙ own ∙ sym (ap (instances w.store) e)

  same_named : (levels variable : ℕ) → named unit p size levels variable w.store ≡ named unit p size levels variable u.store
  same_named levels variable =
      let here : Spot = reached (shape w.store) levels (now (shape w.store) p) in
      let mine : Owns p here.0 = reached_by w.store levels (now (shape w.store) p) owned in
      sym (ap (λ (s : Spot). of_spot s (located s variable (cell u.store s variable)) (frame_at (shape u.store) s)) (same_here levels)
      ∙ ap (λ (l : Location). of_spot here l (frame_at (shape u.store) here))
      (same_located here variable (cell u.store here variable) (cell w.store here variable) (lent here.0 here.1 variable mine))
      ∙ ap (λ (f : Frame). of_spot here (located here variable (cell w.store here variable)) f) (same_frame here mine))
    where
      of_spot : Spot → Location → Frame → Designated
      of_spot s l f = record { at = l; of = slot_type (slice_get (slots (block_at unit.blocks f.block)) variable) }

  pub same_meant : (c : Callee) → IsByName c → meant unit p size c w ≡ meant unit p size c u
  same_meant (callee.Block levels number) h = ap (λ (s : Spot). block_procedure number s) (sym (same_here levels))
  same_meant (callee.Formal levels variable) h = absurd h

  same_get : (l : Location) → l.spot.0 ≡ p → get w.store l ≡ get u.store l
  same_get l o = ap (λ is. part_at (value_in (slice_index_or (cells_in is l.spot.1) l.variable no_cell)) l.path) (sym (same_held l.spot.0 o))

  -- ---- the two give the same and change nothing, or both end the program

  abbrev pub Alike : {A : Type 0} → (A → Type 0) → Evaluation A → Evaluation A → Type 0
  Alike V (gives a v) (gives b z) = (a ≡ b) × (v ≡ w) × (z ≡ u) × V a
  Alike V (gives a v) (ends e system turns) = ⊥
  Alike V (ends e system turns) (gives a v) = ⊥
  Alike V (ends e system turns) (ends f other left) = ⊤

  pub record Pairs {A : Type 0} (V : A → Type 0) (r t : Evaluation A) : Type 0 where
    pub is : Alike V r t

  abbrev Any : {A : Type 0} → A → Type 0
  Any a = ⊤

  give : {A : Type 0} (V : A → Type 0) (a : A) → V a → Pairs V (gives a w) (gives a u)
  give V a h = record { is = (refl, refl, refl, h) }

  bind : {A B : Type 0} (V : A → Type 0) (P : B → Type 0) (r t : Evaluation A) (f g : A → World → Evaluation B) → Pairs V r t →
      ((a : A) → V a → Pairs P (f a w) (g a u)) → Pairs P (r >>= f) (t >>= g)
  bind V P (gives a v) (gives b z) f g h k =
      subst (λ x. Pairs P (f a x) (g b z)) (sym h.is.1)
      (subst (λ x. Pairs P (f a w) (g b x)) (sym h.is.2)
      (subst (λ x. Pairs P (f a w) (g x u)) h.is.0 (k a h.is.3)))
  bind V P (gives a v) (ends e system turns) f g h k = absurd h.is
  bind V P (ends e system turns) (gives a v) f g h k = absurd h.is
  bind V P (ends e system turns) (ends e' other left) f g h k = record { is = tt }

  if_pairs : {A : Type 0} (V : A → Type 0) (b : Bool) (r t r' t' : Evaluation A) → Pairs V r r' → Pairs V t t' → Pairs V (if b then r else t) (if b then r' else t')
  if_pairs V true r t r' t' h k = h
  if_pairs V false r t r' t' h k = k

  range_pairs : {A : Type 0} (line : ℕ) (o : Option A) → Pairs Any (in_range line o w) (in_range line o u)
  range_pairs line None = record { is = tt }
  range_pairs line (Some a) = give Any a tt

  -- where what is designated is: it may be used, or only lent
  abbrev pub Comes : Way → Location → Type 0
  Comes reads l = l.spot.0 ≡ p
  Comes assigns l = l.spot.0 ≡ p
  Comes lends l = ⊤

  abbrev Located : Way → Designated → Type 0
  Located way d = Comes way d.at

  to_part : (way : Way) (l : Location) (n : ℕ) → Comes way l → Comes way (part_of l n)
  to_part reads l n c = c
  to_part assigns l n c = c
  to_part lends l n c = c

  element_pairs : (way : Way) (shape : Shape) (line : ℕ) (l : Location) (v : Value) → Comes way l →
      Pairs (Located way) (element_of shape line l v w) (element_of shape line l v u)
  element_pairs way (array_of i lo hi e) line l v c =
      bind Any (Located way) _ _ _ _ (range_pairs line (element_at lo hi v)) (λ n _. give (Located way) _ (to_part way l n c))
  element_pairs way int line l v c = give (Located way) _ c
  element_pairs way char line l v c = give (Located way) _ c
  element_pairs way bool line l v c = give (Located way) _ c
  element_pairs way (enumeration n) line l v c = give (Located way) _ c
  element_pairs way (record_of fs) line l v c = give (Located way) _ c
  element_pairs way (set_of b) line l v c = give (Located way) _ c

  comes_of : (way : Way) (levels variable : ℕ) → NamesOwn w.store p way levels variable → Comes way (slot w.store p levels variable)
  comes_of reads levels variable h = h.means
  comes_of assigns levels variable h = h.means
  comes_of lends levels variable h = tt

  -- ---- what follows the tree

  module _ (deeper deeper' : Acts → World → Evaluation (Unit {0})) where
    mutual
      pub expression_pairs : (e : Expression) → ExpressionMay (plain w.store p) e →
          Pairs Any (expression unit p size deeper e w) (expression unit p size deeper' e u)
      expression_pairs (tree.constant of n) m = give Any _ tt
      expression_pairs (tree.load v) m =
          bind (Located reads) Any _ _ _ _ (designated_pairs reads v m)
          (λ d c. subst (λ o. Pairs Any (gives (get w.store d.at) w) (gives o u)) (same_get d.at c) (give Any _ tt))
      expression_pairs (tree.not_of e) m = bind Any Any _ _ _ _ (expression_pairs e m) (λ v _. give Any _ tt)
      expression_pairs (tree.sign_of e line) m = bind Any Any _ _ _ _ (expression_pairs e m) (λ v _. range_pairs line (sign v))
      expression_pairs (tree.chain e ls) m = bind Any Any _ _ _ _ (expression_pairs e m.0) (λ v _. linked_pairs v ls m.1)
      expression_pairs (tree.make of es line) m =
          if_pairs Any (is_set_shape (shape_at unit.types of)) _ _ _ _
          (bind Any Any _ _ _ _ (members_pairs [] es line m) (λ set _. give Any _ tt))
          (bind Any Any _ _ _ _ (expressions_pairs es m) (λ vs _. give Any _ tt))
      expression_pairs (tree.convert of e line) m =
          bind Any Any _ _ _ _ (expression_pairs e m) (λ v _. range_pairs line (converted (shape_at unit.types of) v))
      expression_pairs (tree.apply_of c es line) m = absurd m.0

      expressions_pairs : (es : Expressions) → ExpressionsMay (plain w.store p) es →
          Pairs Any (expressions unit p size deeper es w) (expressions unit p size deeper' es u)
      expressions_pairs tree.no_expression m = give Any _ tt
      expressions_pairs (tree.expression_then e es) m =
          bind Any Any _ _ _ _ (expression_pairs e m.0) (λ v _. bind Any Any _ _ _ _ (expressions_pairs es m.1) (λ vs _. give Any _ tt))

      members_pairs : (set : List ℕ) (es : Expressions) (line : ℕ) → ExpressionsMay (plain w.store p) es →
          Pairs Any (members_of unit p size deeper set es line w) (members_of unit p size deeper' set es line u)
      members_pairs set tree.no_expression line m = give Any _ tt
      members_pairs set (tree.expression_then e es) line m =
          bind Any Any _ _ _ _ (expression_pairs e m.0)
          (λ v _. bind Any Any _ _ _ _ (range_pairs line (with_ordinal set (ordinal_of v))) (λ set _. members_pairs set es line m.1))

      linked_pairs : (v : Value) (ls : Links) → LinksMay (plain w.store p) ls → Pairs Any (linked unit p size deeper v ls w) (linked unit p size deeper' v ls u)
      linked_pairs v tree.no_link m = give Any _ tt
      linked_pairs v (tree.link_then l ls) m = bind Any Any _ _ _ _ (operated_pairs v l m.0) (λ v _. linked_pairs v ls m.1)

      operated_pairs : (v : Value) (l : Link) → LinkMay (plain w.store p) l → Pairs Any (operated unit p size deeper v l w) (operated unit p size deeper' v l u)
      operated_pairs v (tree.link o e line) m =
          if_pairs Any (decides o v) _ _ _ _ (give Any _ tt) (bind Any Any _ _ _ _ (expression_pairs e m) (λ y _. range_pairs line (apply o v y)))

      pub designated_pairs : (way : Way) (v : Place) → PlaceMay (plain w.store p) way v →
          Pairs (Located way) (designated unit p size deeper v w) (designated unit p size deeper' v u)
      designated_pairs way (tree.place levels variable ps) m =
          subst (λ d. Pairs (Located way) (parts unit p size deeper (named unit p size levels variable w.store) ps w) (parts unit p size deeper' d ps u))
          (same_named levels variable)
          (parts_pairs way (named unit p size levels variable w.store) ps m.1 (comes_of way levels variable m.0))

      parts_pairs : (way : Way) (d : Designated) (ps : Parts) → PartsMay (plain w.store p) ps → Located way d →
          Pairs (Located way) (parts unit p size deeper d ps w) (parts unit p size deeper' d ps u)
      parts_pairs way d tree.no_part m c = give (Located way) d c
      parts_pairs way d (tree.part_then q qs) m c =
          bind (Located way) (Located way) _ _ _ _ (part_pairs way d q m.0 c) (λ d c. parts_pairs way d qs m.1 c)

      part_pairs : (way : Way) (d : Designated) (q : Part) → PartMay (plain w.store p) q → Located way d →
          Pairs (Located way) (part unit p size deeper d q w) (part unit p size deeper' d q u)
      part_pairs way d (tree.field n) m c = give (Located way) _ (to_part way d.at n c)
      part_pairs way d (tree.index e line) m c =
          bind Any (Located way) _ _ _ _ (expression_pairs e m) (λ v _. element_pairs way (shape_at unit.types d.of) line d.at v c)

      argument_pairs : (a : Argument) → ArgumentMay (plain w.store p) a → Pairs Any (argument unit p size deeper a w) (argument unit p size deeper' a u)
      argument_pairs (tree.by_value e) m = bind Any Any _ _ _ _ (expression_pairs e m) (λ v _. give Any _ tt)
      argument_pairs (tree.by_variable v) m = bind (Located lends) Any _ _ _ _ (designated_pairs lends v m) (λ d c. give Any _ tt)
      argument_pairs (tree.by_procedure c) m =
          subst (λ d. Pairs Any (gives (procedure (meant unit p size c w)) w) (gives (procedure d) u)) (same_meant c m) (give Any _ tt)

      pub arguments_pairs : (es : Arguments) → ArgumentsMay (plain w.store p) es →
          Pairs Any (arguments unit p size deeper es w) (arguments unit p size deeper' es u)
      arguments_pairs tree.no_argument m = give Any _ tt
      arguments_pairs (tree.argument_then a es) m =
          bind Any Any _ _ _ _ (argument_pairs a m.0) (λ c _. bind Any Any _ _ _ _ (arguments_pairs es m.1) (λ cs _. give Any _ tt))

  pub chosen_pairs : (cs : Clauses) (n : ℕ) → ConditionsMay (plain w.store p) cs → Pairs Any (chosen unit p size cs n w) (chosen unit p size cs n u)
  chosen_pairs tree.no_clause n m = give Any _ tt
  chosen_pairs (tree.clause_then (tree.clause e s) cs) n m =
      bind Any Any _ _ _ _
      (bind Any Any _ _ _ _ (expression_pairs (below unit p size w) (below unit p size u) e m.0) (λ v _. give Any (is_true v) tt))
      (λ holds _. if_pairs Any holds _ _ _ _ (give Any _ tt) (chosen_pairs cs (suc n) m.1))
