-- The step to the element at an index.
use Rattle.std.proofs.Common.{◌≡◌, ℕ, ◌+◌, ◌*◌, ◌<◌, ◌≤◌, ◌^◌, Bool, true, false, ◌&&◌, if◌then◌else◌, List, [], ◌∷◌, length, Option, Some, None, refl, sym}
use Rattle.std.proofs.Common.{subst, ap, ◌∙◌, arith}
use Rattle.std.specs.Prelude.{ℤ, ◌-ℤ◌, IsTrue, IfSome, int_le, nat_abs}
use Rattle.edi_calls.specs.declared.kinds.Cause.TheVariants as cause
use Rattle.edi_word.specs.Words.{signed}
use Rattle.edi_unit.specs.Types.{shape_at, is_elementary, element_count, size}
use Rattle.edi_unit.specs.TypeTables.{part_types}
use Rattle.edi_unit.specs.Values.{Value, IsOf, element_at}
use Rattle.edi_unit.specs.Tree as tree
use Rattle.edi_unit.specs.Tree.{Expression, Parts, Acts}
use Rattle.edi_unit.specs.Need.{part_type, parts_type, element_type, parts_height, expression_type, expression_height}
use Rattle.edi_meaning.specs.Store.{Shape, now, Older}
use Rattle.edi_meaning.specs.Evaluation.{World, Evaluation, gives, ◌>>=◌}
use Rattle.edi_meaning.specs.Whole.{Designated, part_of, element_of, expression, parts, part, in_range}
use Rattle.edi_target.specs.Op as op
use Rattle.edi_target.specs.Op.{Instruction}
use Rattle.edi_target.specs.Memory.{word}
use Rattle.edi_target.specs.Effect.{fails}
use Rattle.edi_target.specs.Perform.{push_address}
use Rattle.edi_scheme.specs.Pieces.{element_code}
use Rattle.edi_scheme.specs.Stands as code
use Rattle.edi_follows.specs.values.Words.{nth_type}
use Rattle.edi_follows.proofs.values.Paths.{element_within, element_nth_type, element_nth_offset}
use Rattle.edi_follows.specs.values.Operated.{word_of, IsAlone, elements_before}
use Rattle.edi_follows.proofs.values.Alone.{elementary_is_alone}
use Rattle.edi_follows.proofs.values.Checks.{index_follows}
use Rattle.edi_follows.specs.places.Coded.{Coded}
use Rattle.edi_follows.specs.places.Spots.{frames_end, location_address, Leads}
use Rattle.edi_follows.specs.places.Scene.{Scene, here, base_of, Stands, Does, local_at}
use Rattle.edi_follows.specs.places.Claims.{Pointed}
use Rattle.edi_follows.specs.places.Constructs.{E, Ps}
use Rattle.edi_follows.specs.places.Instructions.{effect}
use Rattle.edi_follows.proofs.places.Doing.{stands_after}
use Rattle.edi_follows.proofs.places.Binding.{bind_value}
use Rattle.edi_follows.proofs.places.Effects.{word_is, index_is, pushes_address}
use Rattle.edi_follows.proofs.places.Steps.{pops_pushes, fails_at, able_then, able_above}
use Rattle.edi_follows.proofs.places.Pointing.{table_of, bind_pointed, word_stays}
use Rattle.edi_follows.proofs.values.Lengths.{values_are_long}
use Rattle.edi_follows.proofs.values.Portions.{parts_stand}
use Rattle.edi_follows.proofs.places.Stores.{parts_are_there}
use Rattle.edi_follows.proofs.places.PartSteps.{part_leads, part_address, address_small, IsArray, indexed, index_elementary, index_known}

-- behind the index
module _ (g : Coded) (s : Scene) (F : Shape) (of from : ℕ) (array : IsArray g of from) (known : from < length g.unit.types)
    (elementary : IsTrue (is_elementary g.unit.types from))
    (d : Designated) (leads : Leads g F d.at of) (older : Older d.at.spot (now F s.name)) (of_is : d.of ≡ of) (line pc end t held : ℕ)
    (at : g.fetched pc ≡ Some (op.index array.low array.high (size g.unit.types array.elements) line, end))
    (x : Value) (w : World) (m : List ℕ) (h : Stands g s F w m) (low : base_of g s F ≤ t) (room : t + 1 ≤ frames_end s.first F s.name)
    (address : word m t ≡ location_address g s.first F d.at) (index : word m (t + 1) ≡ word_of x) (typed : IsOf g.unit.types x from) where
  abbrev z : ℤ
  z = signed (word_of x)

  abbrev here_at : ℕ
  here_at = location_address g s.first F d.at

  abbrev n : ℕ
  n = nat_abs (z -ℤ array.low)

  abbrev i : Instruction
  i = op.index array.low array.high (size g.unit.types array.elements) line

  abbrev inside : Bool
  inside = int_le array.low z && int_le z array.high

  abbrev found : Option ℕ → Evaluation Designated
  found o = in_range line o w >>= λ n w. gives (record { at = part_of d.at n; of = array.elements }) w

  abbrev Done : Evaluation Designated → Type 0
  Done run = Does g s F pc (t + 2) t held w m (Pointed g s F array.elements end t) run

  does : (b : Bool) → inside ≡ b →
      effect g s i end (local_at s F m pc (t + 2) held) ≡ (if b then push_address (here_at + n * size g.unit.types array.elements) end
      (local_at s F m pc t held) else fails cause.Range line)
  does b e =
      index_is g s F m array.low array.high (size g.unit.types array.elements) line end here_at (word_of x) pc t (t + 2) held low refl address index
      ∙ ap (λ b. if b then push_address (here_at + n * size g.unit.types array.elements) end (local_at s F m pc t held) else fails cause.Range line) e

  follows : (element_at array.low array.high x ≡ elements_before array.low array.high z) × IfSome (element_at array.low array.high x)
      (λ k. k < element_count array.low array.high)
  follows = index_follows g.unit.types (table_of g) x from array.low array.high known elementary typed

  at_is : (b : Bool) → inside ≡ b → element_at array.low array.high x ≡ (if b then Some n else None)
  at_is b e = follows.0 ∙ ap (λ b. if b then Some n else None) e

  -- within the bounds
  within : inside ≡ true → Done (gives (record { at = part_of d.at n; of = array.elements }) w)
  within e =
      let fewer : n < element_count array.low array.high = subst (λ o. IfSome o (λ k. k < element_count array.low array.high)) (at_is true e) follows.1 in
      let less : n < length (part_types (shape_at g.unit.types of)) = element_within g.unit.types of from array.low array.high array.elements array.is n
      fewer in
      let type : nth_type g.unit.types of n ≡ array.elements = element_nth_type g.unit.types of from array.low array.high array.elements array.is n fewer in
      let leads' : Leads g F (part_of d.at n) array.elements = subst (λ u. Leads g F (part_of d.at n) u) type (part_leads g s F d.at of n leads less) in
      let place : location_address g s.first F (part_of d.at n) ≡ here_at + n * size g.unit.types array.elements =
      part_address g s F d.at of n leads less
      ∙ ap (λ o. here_at + o) (element_nth_offset g.unit.types of from array.low array.high array.elements array.is n fewer) in
      let small : location_address g s.first F (part_of d.at n) < 2 ^ 16 = address_small g s F w m (part_of d.at n) array.elements h leads' in
      pops_pushes g s Designated (Pointed g s F array.elements end t) (record { at = part_of d.at n; of = array.elements }) F i pc end (t + 2) t held w m
      (location_address g s.first F (part_of d.at n) ∷ []) h at
      (does true e ∙ ap (λ a. push_address a end (local_at s F m pc t held)) (sym place)
      ∙ pushes_address g s (location_address g s.first F (part_of d.at n)) end (local_at s F m pc t held) small)
      low room (λ m' words. record { pc_is = refl; top_is = refl; address = word_is m' [] _ t 1 words; leads = leads'; older = older; of_is = refl })

  -- outside them
  outside : inside ≡ false → Done (found None)
  outside e = fails_at g s Designated (Pointed g s F array.elements end t) F i pc end (t + 2) t held w m cause.Range line at (does false e)

  by_test : (b : Bool) → inside ≡ b → Done (found (element_at array.low array.high x))
  by_test true e = subst (λ o. Done (found o)) (sym (at_is true e)) (within e)
  by_test false e = subst (λ o. Done (found o)) (sym (at_is false e)) (outside e)

  -- the element, or the failure
  pub element_does : Done (element_of (shape_at g.unit.types d.of) line d.at x w)
  element_does = subst (λ y. Done (element_of y line d.at x w)) (sym (ap (shape_at g.unit.types) of_is ∙ array.is)) (by_test inside refl)

module _ (g : Coded) (s : Scene) (deeper : Acts → World → Evaluation (Unit {0})) (bound : ℕ) where
  pub index_does : (e : Expression) (line : ℕ) (ps : Parts) → E g s deeper bound e → Ps g s deeper bound ps →
      Ps g s deeper bound (tree.part_then (tree.index e line) ps)
  index_does e line ps value_does does d of F pc end t held w m turns st fits able room pointed =
      bind_pointed g s Designated (Pointed g s F (parts_type g.unit.types (part_type g.unit.types of (tree.index e line)) ps) end t)
      (part g.unit s.name (s.size s.name) deeper d (tree.index e line) w) (λ d w. parts g.unit s.name (s.size s.name) deeper d ps w)
      F pc a (t + 1) t t held (part_type g.unit.types of (tree.index e line)) w m (omega arith) stepped
      (λ d v m' c within after pointed.
      does d (part_type g.unit.types of (tree.index e line)) F a end t held v m' (omega (arith, after.turns, turns)) st.2 fits.1
      (able_then g s F w v m m' t (parts_height g.unit.types g.unit.blocks (here g s F) (tree.part_then (tree.index e line) ps)) t
      (parts_height g.unit.types g.unit.blocks (here g s F) ps) t held c able after (omega arith) (omega arith))
      within pointed)
    where
      a : ℕ
      a = st.0

      b : ℕ
      b = st.1.0

      from : ℕ
      from = expression_type g.unit.types g.unit.blocks (here g s F) e

      array : IsArray g of from
      array = indexed g of from fits.0.0

      type : array.elements ≡ part_type g.unit.types of (tree.index e line)
      type = sym (ap element_type array.is)

      at : g.fetched b ≡ Some (op.index array.low array.high (size g.unit.types array.elements) line, a)
      at = subst (λ x. code.AreInstructions g.fetched (element_code g.unit.types x line) b a) array.is st.1.2

      of_known : of < length g.unit.types
      of_known = (parts_are_there g s values_are_long parts_stand F w m d.at of able.stands pointed.leads).known

      elementary : IsTrue (is_elementary g.unit.types from)
      elementary = index_elementary g of from of_known array

      from_known : from < length g.unit.types
      from_known = index_known g of from of_known array

      stepped : Does g s F pc (t + 1) t held w m (Pointed g s F (part_type g.unit.types of (tree.index e line)) a t)
          (part g.unit s.name (s.size s.name) deeper d (tree.index e line) w)
      stepped =
          bind_value g s Designated (Pointed g s F (part_type g.unit.types of (tree.index e line)) a t) (expression g.unit s.name (s.size s.name) deeper e w)
          (λ v w. element_of (shape_at g.unit.types d.of) line d.at v w) F pc b (t + 1) t (t + 1) held from w m (omega arith)
          (value_does F pc b (t + 1) held w m turns st.1.1 fits.0.1
          (able_above g s F w m t (parts_height g.unit.types g.unit.blocks (here g s F) (tree.part_then (tree.index e line) ps)) (t + 1)
          (expression_height g.unit.types g.unit.blocks (here g s F) e) held able (omega arith) (omega arith)))
          (λ x v m' c up after pushed.
          let alone : IsAlone g.unit.types x from = elementary_is_alone g.unit.types (table_of g) x from from_known elementary pushed.typed in
          let two : t + 1 + size g.unit.types from ≡ t + 2 = omega (arith, alone.size_is) in
          let word_there : word m' (t + 1) ≡ word_of x = word_is m' [] (word_of x) (t + 1) (size g.unit.types from) (pushed.words ∙ alone.words) in
          let done = element_does g s F of from array from_known elementary d pointed.leads pointed.older pointed.of_is line b a t held at x v m'
          (stands_after g s F w v m m' (t + 1) c able.stands after) able.low room
          (word_stays g s F w v m m' t (t + 1) _ c able.stands after able.low (omega arith) room pointed.address) word_there pushed.typed in
          subst (λ y. Does g s F b y t held v m' (Pointed g s F (part_type g.unit.types of (tree.index e line)) a t)
          (element_of (shape_at g.unit.types d.of) line d.at x v)) (sym two)
          (subst (λ u. Does g s F b (t + 2) t held v m' (Pointed g s F u a t) (element_of (shape_at g.unit.types d.of) line d.at x v)) type done))
