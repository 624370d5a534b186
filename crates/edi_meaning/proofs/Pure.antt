-- An expression without function calls changes nothing, and its value depends on the variables alone.
use Rattle.std.proofs.Common.{◌≡◌, ℕ, Bool, true, false, not, ◌||◌, ◌&&◌, if◌then◌else◌, List, [], ◌∷◌, Option, Some, None, refl, sym, ap, ◌∙◌}
use Rattle.edi_calls.specs.declared.kinds.Cause.{Cause}
use Rattle.edi_calls.specs.declared.kinds.Cause.TheVariants as cause
use Rattle.edi_calls.specs.Names.{Name}
use Rattle.edi_unit.specs.Types.{Shape, shape_at, is_set_shape, array_of, int, char, bool, enumeration, record_of, set_of}
use Rattle.edi_unit.specs.Values.{Value, values, compound, members, ordinal, ordinal_of, is_true, apply, decides, sign, negation, converted, with_ordinal}
use Rattle.edi_unit.specs.Values.{element_at}
use Rattle.edi_unit.specs.Tree as tree
use Rattle.edi_unit.specs.Tree.{Expression, Expressions, Link, Links, Place, Part, Parts, Acts, Clause, Clauses, ProgramUnit}
use Rattle.edi_meaning.specs.Store.{Store, Location, get}
use Rattle.edi_meaning.specs.Evaluation.{World, Evaluation, gives, ends, ◌>>=◌, fails}
use Rattle.edi_meaning.specs.Whole.{in_range, Designated, part_of, element_of, named, expression, expressions, members_of, linked, operated, designated}
use Rattle.edi_meaning.specs.Whole.{parts, part, acts, first}
use Rattle.edi_meaning.specs.Step.{calls, any_calls, links_call, link_calls, place_calls, parts_call, part_calls, is_quiet}

-- what an evaluation gives that changes nothing
pub data Result (A : Type 0) : Type 0 where
  gave : A → Result A
  failed : Cause → (line : ℕ) → Result A

abbrev pub as_run : {A : Type 0} → Result A → World → Evaluation A
as_run (gave a) w = gives a w
as_run (failed c line) w = fails c line w

-- an evaluation that changes nothing, whose result depends on the store alone
abbrev Deeper : Type 0
Deeper = Acts → World → Evaluation (Unit {0})

pub record Pure {A : Type 0} (store : Store) (f : Deeper → World → Evaluation A) : Type 0 where
  pub result : Result A
  pub is : (deeper : Deeper) (w : World) → w.store ≡ store → f deeper w ≡ as_run result w

pure : {A : Type 0} (store : Store) (a : A) → Pure store (λ deeper w. gives a w)
pure store a = record { result = gave a; is = λ deeper w e. refl }

then_run : {A B : Type 0} (store : Store) (f : Deeper → World → Evaluation A) (g : A → Deeper → World → Evaluation B) → Pure store f
    → ((a : A) → Pure store (g a)) → Pure store (λ deeper w. f deeper w >>= λ a w. g a deeper w)
then_run {A} {B} store f g p q = go p.result p.is
  where
    go : (r : Result A) → ((deeper : Deeper) (w : World) → w.store ≡ store → f deeper w ≡ as_run r w)
        → Pure store (λ deeper w. f deeper w >>= λ a w. g a deeper w)
    go (gave a) h = record { result = (q a).result; is = λ deeper w e. ap (λ r. r >>= λ a w. g a deeper w) (h deeper w e) ∙ (q a).is deeper w e }
    go (failed c line) h = record { result = failed c line; is = λ deeper w e. ap (λ r. r >>= λ a w. g a deeper w) (h deeper w e) }

range_pure : {A : Type 0} (store : Store) (line : ℕ) (x : Option A) → Pure store (λ deeper w. in_range line x w)
range_pure store line None = record { result = failed cause.Range line; is = λ deeper w e. refl }
range_pure store line (Some x) = record { result = gave x; is = λ deeper w e. refl }

element_pure : (store : Store) (shape : Shape) (line : ℕ) (l : Location) (v : Value) → Pure store (λ deeper w. element_of shape line l v w)
element_pure store (array_of i lo hi e) line l v = then_run store (λ deeper w. in_range line (element_at lo hi v) w)
    (λ n deeper w. gives (record { at = part_of l n; of = e }) w) (range_pure store line (element_at lo hi v)) (λ n. pure store _)
element_pure store int line l v = pure store _
element_pure store char line l v = pure store _
element_pure store bool line l v = pure store _
element_pure store (enumeration n) line l v = pure store _
element_pure store (record_of fs) line l v = pure store _
element_pure store (set_of b) line l v = pure store _

no_left : (a b : Bool) → (a || b) ≡ false → a ≡ false
no_left true b e = absurd (cc)
no_left false b e = refl

no_right : (a b : Bool) → (a || b) ≡ false → b ≡ false
no_right true b e = absurd (cc)
no_right false b e = e

module _ (unit : ProgramUnit) (p : Name) (size : ℕ) (store : Store) where
  if_pure : {A : Type 0} (b : Bool) (f g : Deeper → World → Evaluation A) → Pure store f → Pure store g
      → Pure store (λ deeper w. if b then f deeper w else g deeper w)
  if_pure true f g p q = record { result = p.result; is = p.is }
  if_pure false f g p q = record { result = q.result; is = q.is }

  -- a run and what comes behind it, neither of which calls a function
  both_pure : {A B : Type 0} (a b : Bool) (f : Deeper → World → Evaluation A) (g : A → Deeper → World → Evaluation B) → (a ≡ false → Pure store f)
      → (b ≡ false → (x : A) → Pure store (g x)) → (a || b) ≡ false → Pure store (λ deeper w. f deeper w >>= λ x w. g x deeper w)
  both_pure a b f g p q h = then_run store f g (p (no_left a b h)) (q (no_right a b h))

  load_pure : (v : Place) → Pure store (λ deeper w. designated unit p size deeper v w)
      → Pure store (λ deeper w. designated unit p size deeper v w >>= λ d w. gives (get w.store d.at) w)
  load_pure v q = then_run store (λ deeper w. designated unit p size deeper v w) (λ d deeper w. gives (get w.store d.at) w) q
      (λ d. record { result = gave (get store d.at); is = λ deeper w e. ap (λ s. gives (get s d.at) w) e })

  named_pure : (levels variable : ℕ) (ps : Parts) → Pure store (λ deeper w. parts unit p size deeper (named unit p size levels variable store) ps w)
      → Pure store (λ deeper w. designated unit p size deeper (tree.place levels variable ps) w)
  named_pure levels variable ps q = record {
    result = q.result;
    is = λ deeper w e. ap (λ s. parts unit p size deeper (named unit p size levels variable s) ps w) e ∙ q.is deeper w e;
  }

  mutual
    pub expression_pure : (e : Expression) → calls e ≡ false → Pure store (λ deeper w. expression unit p size deeper e w)
    expression_pure (tree.constant of n) h = pure store (ordinal n)
    expression_pure (tree.load v) h = load_pure v (place_pure v h)
    expression_pure (tree.not_of e) h = then_run store (λ deeper w. expression unit p size deeper e w) (λ v deeper w. gives (negation v) w)
        (expression_pure e h) (λ v. pure store (negation v))
    expression_pure (tree.sign_of e line) h = then_run store (λ deeper w. expression unit p size deeper e w) (λ v deeper w. in_range line (sign v) w)
        (expression_pure e h) (λ v. range_pure store line (sign v))
    expression_pure (tree.chain e ls) h = both_pure (calls e) (links_call ls) (λ deeper w. expression unit p size deeper e w)
        (λ v deeper w. linked unit p size deeper v ls w) (expression_pure e) (λ h v. linked_pure v ls h) h
    expression_pure (tree.make of es line) h =
        if_pure (is_set_shape (shape_at unit.types of)) (λ deeper w. members_of unit p size deeper [] es line w >>= λ set w. gives (members set) w)
        (λ deeper w. expressions unit p size deeper es w >>= λ vs w. gives (compound (values vs)) w)
        (then_run store (λ deeper w. members_of unit p size deeper [] es line w) (λ set deeper w. gives (members set) w) (members_pure [] es line h)
        (λ set. pure store (members set)))
        (then_run store (λ deeper w. expressions unit p size deeper es w) (λ vs deeper w. gives (compound (values vs)) w) (expressions_pure es h)
        (λ vs. pure store (compound (values vs))))
    expression_pure (tree.convert of e line) h =
        then_run store (λ deeper w. expression unit p size deeper e w) (λ v deeper w. in_range line (converted (shape_at unit.types of) v) w)
        (expression_pure e h) (λ v. range_pure store line (converted (shape_at unit.types of) v))
    expression_pure (tree.apply_of c es line) h = absurd (cc)

    expressions_pure : (es : Expressions) → any_calls es ≡ false → Pure store (λ deeper w. expressions unit p size deeper es w)
    expressions_pure tree.no_expression h = pure store []
    expressions_pure (tree.expression_then e es) h =
        then_run store (λ deeper w. expression unit p size deeper e w) (λ v deeper w. expressions unit p size deeper es w >>= λ vs w. gives (v ∷ vs) w)
        (expression_pure e (no_left (calls e) (any_calls es) h))
        (λ v. then_run store (λ deeper w. expressions unit p size deeper es w) (λ vs deeper w. gives (v ∷ vs) w)
        (expressions_pure es (no_right (calls e) (any_calls es) h)) (λ vs. pure store (v ∷ vs)))

    members_pure : (set : List ℕ) (es : Expressions) (line : ℕ) → any_calls es ≡ false → Pure store (λ deeper w. members_of unit p size deeper set es line w)
    members_pure set tree.no_expression line h = pure store set
    members_pure set (tree.expression_then e es) line h =
        then_run store (λ deeper w. expression unit p size deeper e w)
        (λ v deeper w. in_range line (with_ordinal set (ordinal_of v)) w >>= λ set w. members_of unit p size deeper set es line w)
        (expression_pure e (no_left (calls e) (any_calls es) h))
        (λ v. then_run store (λ deeper w. in_range line (with_ordinal set (ordinal_of v)) w) (λ set deeper w. members_of unit p size deeper set es line w)
        (range_pure store line (with_ordinal set (ordinal_of v))) (λ set. members_pure set es line (no_right (calls e) (any_calls es) h)))

    linked_pure : (v : Value) (ls : Links) → links_call ls ≡ false → Pure store (λ deeper w. linked unit p size deeper v ls w)
    linked_pure v tree.no_link h = pure store v
    linked_pure v (tree.link_then l ls) h = both_pure (link_calls l) (links_call ls) (λ deeper w. operated unit p size deeper v l w)
        (λ v deeper w. linked unit p size deeper v ls w) (operated_pure v l) (λ h v. linked_pure v ls h) h

    operated_pure : (v : Value) (l : Link) → link_calls l ≡ false → Pure store (λ deeper w. operated unit p size deeper v l w)
    operated_pure v (tree.link o e line) h =
        if_pure (decides o v) (λ deeper w. gives v w) (λ deeper w. expression unit p size deeper e w >>= λ u w. in_range line (apply o v u) w) (pure store v)
        (then_run store (λ deeper w. expression unit p size deeper e w) (λ u deeper w. in_range line (apply o v u) w) (expression_pure e h)
        (λ u. range_pure store line (apply o v u)))

    place_pure : (v : Place) → place_calls v ≡ false → Pure store (λ deeper w. designated unit p size deeper v w)
    place_pure (tree.place levels variable ps) h = named_pure levels variable ps (parts_pure (named unit p size levels variable store) ps h)

    parts_pure : (d : Designated) (ps : Parts) → parts_call ps ≡ false → Pure store (λ deeper w. parts unit p size deeper d ps w)
    parts_pure d tree.no_part h = pure store d
    parts_pure d (tree.part_then q qs) h = both_pure (part_calls q) (parts_call qs) (λ deeper w. part unit p size deeper d q w)
        (λ d deeper w. parts unit p size deeper d qs w) (part_pure d q) (λ h d. parts_pure d qs h) h

    part_pure : (d : Designated) (q : Part) → part_calls q ≡ false → Pure store (λ deeper w. part unit p size deeper d q w)
    part_pure d (tree.field n) h = pure store _
    part_pure d (tree.index e line) h =
        then_run store (λ deeper w. expression unit p size deeper e w) (λ v deeper w. element_of (shape_at unit.types d.of) line d.at v w)
        (expression_pure e h) (λ v. element_pure store (shape_at unit.types d.of) line d.at v)

  -- ---- conditions without calls, none of which is true

  -- what comes behind a condition
  abbrev behind : Acts → Clauses → Deeper → Evaluation Value → Evaluation Bool
  behind s cs deeper r =
      (r >>= λ v w. if is_true v then (acts unit p size deeper s w >>= λ _ w. gives true w) else gives false w)
      >>= λ ran w. if ran then gives true w else first unit p size deeper cs w

  -- the same, where the condition has this truth value
  abbrev chosen_by : Acts → Clauses → Deeper → Bool → World → Evaluation Bool
  chosen_by s cs deeper b w =
      (if b then (acts unit p size deeper s w >>= λ _ w. gives true w) else gives false w)
      >>= λ ran w. if ran then gives true w else first unit p size deeper cs w

  not_both : (cs : Clauses) (deeper : Deeper) (r : Evaluation (Unit {0})) (v : World) →
      ((r >>= λ _ w. gives true w) >>= λ ran w. if ran then gives true w else first unit p size deeper cs w) ≡ gives false v → ⊥
  not_both cs deeper (gives a w) v e = absurd (cc)
  not_both cs deeper (ends x system turns) v e = absurd (cc)

  and_left : (a b : Bool) → (not a && b) ≡ true → a ≡ false
  and_left true b e = absurd (cc)
  and_left false b e = refl

  and_right : (a b : Bool) → (not a && b) ≡ true → b ≡ true
  and_right true b e = absurd (cc)
  and_right false b e = e

  abbrev NoneTrue : Clauses → World → World → Type 0
  NoneTrue cs w v = (v ≡ w) × ((deeper : Deeper) (w : World) → w.store ≡ store → first unit p size deeper cs w ≡ gives false w)

  none_behind : (e : Expression) (s : Acts) (cs : Clauses) (x : Value) (b : Bool) → is_true x ≡ b → (deeper : Deeper) (w v : World) →
      ((deeper : Deeper) (w : World) → w.store ≡ store → expression unit p size deeper e w ≡ gives x w) → chosen_by s cs deeper b w ≡ gives false v →
      (first unit p size deeper cs w ≡ gives false v → NoneTrue cs w v) → NoneTrue (tree.clause_then (tree.clause e s) cs) w v
  none_behind e s cs x true t deeper w v h k ih = absurd (not_both cs deeper (acts unit p size deeper s w) v k)
  none_behind e s cs x false t deeper w v h k ih =
      let r : NoneTrue cs w v = ih k in
      (r.0, λ deeper w e. ap (behind s cs deeper) (h deeper w e) ∙ ap (λ b. chosen_by s cs deeper b w) t ∙ r.1 deeper w e)

  -- an attempt that found no condition true finds none in any world with the same variables
  pub none_true : (cs : Clauses) → is_quiet cs ≡ true → (deeper : Deeper) (w v : World) → w.store ≡ store → first unit p size deeper cs w ≡ gives false v
      → NoneTrue cs w v
  none_true tree.no_clause q deeper w v e h = ((cc), λ deeper w e. refl)
  none_true (tree.clause_then (tree.clause e s) cs) q deeper w v f h =
      let pure : Pure store (λ deeper w. expression unit p size deeper e w) = expression_pure e (and_left (calls e) (is_quiet cs) q) in
      go pure.result pure.is (λ k. none_true cs (and_right (calls e) (is_quiet cs) q) deeper w v f k)
    where
      go : (r : Result Value) → ((deeper : Deeper) (w : World) → w.store ≡ store → expression unit p size deeper e w ≡ as_run r w) →
          (first unit p size deeper cs w ≡ gives false v → NoneTrue cs w v) → NoneTrue (tree.clause_then (tree.clause e s) cs) w v
      go (gave x) is ih =
          none_behind e s cs x (is_true x) refl deeper w v is (sym (ap (behind s cs deeper) (is deeper w f)) ∙ h) ih
      go (failed c line) is ih = let k : behind s cs deeper (fails c line w) ≡ gives false v = sym (ap (behind s cs deeper) (is deeper w f)) ∙ h in absurd (cc)
