-- What fits in a block goes on to fit, with the same types and heights, where types, blocks and variables are added.
use Rattle.std.proofs.Common.{◌≡◌, ℕ, zero, suc, ◌+◌, ◌<◌, ◌≤◌, max, true, false, ◌||◌, ◌==◌, if◌then◌else◌, List, [], ◌∷◌, ◌++◌, length, map, All, Option}
use Rattle.std.proofs.Common.{Some, None, IsSome, IsTrue, IfSome, unwrap_or, refl, sym, ap, ◌∙◌, subst, arith, append_assoc, length-append}
use Rattle.std.proofs.lemmas.List.{map-append}
use Rattle.std.specs.Prelude.{slice_get, option_to_list, get_or}
use Rattle.std.specs.Option.{option_map_or}
use Rattle.std.proofs.lemmas.Bool.{false≢true}
use Rattle.std.proofs.Math.ListN.{get_or-append}
use Rattle.edi_unit.specs.declared.expressions.Operator.{Operator}
use Rattle.edi_unit.specs.declared.expressions.Operator.TheVariants as op
use Rattle.edi_unit.specs.declared.expressions.Callee.{Callee}
use Rattle.edi_unit.specs.declared.expressions.Callee.TheVariants as callee
use Rattle.edi_unit.specs.declared.units.Parameter.{Parameter}
use Rattle.edi_unit.specs.declared.units.Parameter.TheVariants as slot
use Rattle.edi_unit.specs.Types.{Shape, int, char, bool, enumeration, record_of, array_of, set_of, shape_at, int_type, fields_of, is_elementary}
use Rattle.edi_unit.specs.TypeTables.{part_types}
use Rattle.edi_unit.specs.Types.{is_elementary_shape, is_ordinal_of, is_set_shape, size}
use Rattle.edi_unit.specs.TypeTables.{AreDeclared}
use Rattle.edi_unit.specs.Tree.{Expression, constant, load, not_of, sign_of, chain, make, convert, apply_of, Expressions, no_expression, expression_then}
use Rattle.edi_unit.specs.Tree.{link, Links, no_link, link_then, Place, place, Part, field, index, Parts, no_part, part_then, by_value, by_variable}
use Rattle.edi_unit.specs.Tree.{by_procedure, Arguments, no_argument, argument_then, Block}
use Rattle.edi_unit.specs.Need.{block_at, outer, slots, slot_at, slot_type, slot_result, element_type, part_type, parts_type, operator_type, links_type}
use Rattle.edi_unit.specs.Need.{left_words, callee_result, place_type, expression_type, expression_height, members_height, compound_height, links_height}
use Rattle.edi_unit.specs.Need.{place_height, part_height, parts_height, arguments_height}
use Rattle.edi_unit.specs.Fits.{is_called, formals_from}
use Rattle.edi_unit.specs.Headings.{Heading, heading, heading_formals, Formals, no_formal, value_then, variable_then, procedure_then}
use Rattle.edi_unit.specs.Fits.{first_parameter, callee_heading, is_variable, is_procedure, CalleeFits, OperatorFits, IsIndexedBy, HaveTypes, AllHaveType}
use Rattle.edi_unit.specs.Fits.{MakesValue, ExpressionFits, ExpressionsFit, LinksFit, PlaceFits, PartFits, PartsFit, ArgumentsFit, SlotIsKnown}
use Rattle.edi_unit.proofs.Known.{all_some, standard_known, element_known, found_known, field_known, operator_known, type_known, formal_known, first_known}
use Rattle.edi_unit.proofs.Known.{names_known}
use Rattle.edi_unit.proofs.Tables.{size-before}

-- ---- lists

pub get_more : {X : Type 0} (xs ys : List X) (v : ℕ) → IsSome (slice_get xs v) → slice_get (xs ++ ys) v ≡ slice_get xs v
get_more [] ys v h = absurd (false≢true h)
get_more (x ∷ xs) ys zero h = refl
get_more (x ∷ xs) ys (suc v) h = get_more xs ys v h

pub two : (f : ℕ → ℕ → ℕ) {i j k l : ℕ} → i ≡ j → k ≡ l → f i k ≡ f j l
two f {i} {j} {k} {l} d e = ap (λ n. f n k) d ∙ ap (f j) e

-- ---- blocks

-- a block, and what it is later: it may have more variables and other statements, and its need may be told
pub record BlockGrows (old new : Block) : Type 0 where
  pub kind : new.kind ≡ old.kind
  pub up : new.up ≡ old.up
  pub result : new.result ≡ old.result
  pub parameters : new.parameters ≡ old.parameters
  pub more : List ℕ
  pub variables : new.variables ≡ old.variables ++ more

pub slots_grow : (old new : Block) (g : BlockGrows old new) → slots new ≡ slots old ++ map slot.Value g.more
slots_grow old new g =
    let first : List Parameter = map slot.Value (option_to_list old.result) in
    ap (λ r. map slot.Value (option_to_list r) ++ (new.parameters ++ map slot.Value new.variables)) g.result
    ∙ ap (λ ps. first ++ (ps ++ map slot.Value new.variables)) g.parameters
    ∙ ap (λ vs. first ++ (old.parameters ++ map slot.Value vs)) g.variables
    ∙ ap (λ vs. first ++ (old.parameters ++ vs)) (map-append slot.Value old.variables g.more)
    ∙ ap (λ vs. first ++ vs) (sym (append_assoc old.parameters (map slot.Value old.variables) (map slot.Value g.more)))
    ∙ sym (append_assoc first (old.parameters ++ map slot.Value old.variables) (map slot.Value g.more))

pub some_variable : (o : Option Parameter) → IsTrue (is_variable o) → IsSome o
some_variable None h = absurd (false≢true h)
some_variable (Some p) h = refl

pub some_procedure : (o : Option Parameter) → IsTrue (is_procedure o) → IsSome o
some_procedure None h = absurd (false≢true h)
some_procedure (Some p) h = refl

-- types and blocks, and later ones, for what stands in one block
pub record Steady (types more : List Shape) (blocks later : List Block) (headings next : ℕ → ℕ → Heading) (b : ℕ) : Type 0 where
  pub three : 3 ≤ length types
  pub declared : AreDeclared types
  pub longer : length blocks ≤ length later
  pub each : (n : ℕ) → n < length blocks → BlockGrows (block_at blocks n) (block_at later n)
  pub ups : (n : ℕ) → n < length blocks → (block_at blocks n).up < length blocks
  pub known : (n : ℕ) → n < length blocks → All (SlotIsKnown types) (slots (block_at blocks n))
  pub same : (n : ℕ) → n < length blocks → next n ≡ headings n
  pub inside : b < length blocks

module _ (types more : List Shape) (blocks later : List Block) (headings next : ℕ → ℕ → Heading) (b : ℕ) (g : Steady types more blocks later headings next b)
  where
    -- ---- types

    longer_types : length types ≤ length (types ++ more)
    longer_types = omega (arith, length-append types more)

    pub shape_same : (t : ℕ) → t < length types → shape_at (types ++ more) t ≡ shape_at types t
    shape_same t h = get_or-append types more int t h

    pub size_same : (s t : ℕ) → s ≡ t → t < length types → size (types ++ more) s ≡ size types t
    size_same s t e h = ap (size (types ++ more)) e ∙ size-before types more t h

    elementary_same : (s t : ℕ) → s ≡ t → t < length types → IsTrue (is_elementary types t) → IsTrue (is_elementary (types ++ more) s)
    elementary_same s t e h k = ap (is_elementary (types ++ more)) e ∙ ap is_elementary_shape (shape_same t h) ∙ k

    -- ---- blocks and variables

    pub outer_inside : (levels n : ℕ) → n < length blocks → outer blocks n levels < length blocks
    outer_inside zero n h = h
    outer_inside (suc levels) n h = outer_inside levels (block_at blocks n).up (g.ups n h)

    pub outer_same : (levels n : ℕ) → n < length blocks → outer later n levels ≡ outer blocks n levels
    outer_same zero n h = refl
    outer_same (suc levels) n h =
        ap (λ u. outer later u levels) (g.each n h).up ∙ outer_same levels (block_at blocks n).up (g.ups n h)

    slot_same : (levels v : ℕ) → IsSome (slot_at blocks b levels v) → slot_at later b levels v ≡ slot_at blocks b levels v
    slot_same levels v h =
        let n : ℕ = outer blocks b levels in
        let grows = g.each n (outer_inside levels b g.inside) in
        ap (λ k. slice_get (slots (block_at later k)) v) (outer_same levels b g.inside)
        ∙ ap (λ s. slice_get s v) (slots_grow (block_at blocks n) (block_at later n) grows)
        ∙ get_more (slots (block_at blocks n)) (map slot.Value grows.more) v h

    slot_known : (levels v : ℕ) → IfSome (slot_at blocks b levels v) (SlotIsKnown types)
    slot_known levels v =
        all_some (SlotIsKnown types) (slots (block_at blocks (outer blocks b levels))) v
        (g.known (outer blocks b levels) (outer_inside levels b g.inside))

    -- ---- callees

    pub callee_fits : (c : Callee) → CalleeFits blocks b c → CalleeFits later b c
    callee_fits (callee.Block levels n) h =
        let grows = g.each n h.1 in
        let longer = g.longer in (
          h.0,
          omega (arith, h.1, longer),
          subst (λ k. IsTrue (is_called k)) (sym grows.kind) h.2,
          outer_same levels b g.inside ∙ h.3 ∙ sym grows.up,
        )
    callee_fits (callee.Formal levels v) h =
        (h.0, subst (λ o. IsTrue (is_procedure o)) (sym (slot_same levels v (some_procedure (slot_at blocks b levels v) h.1))) h.1)

    pub result_same : (c : Callee) → CalleeFits blocks b c → callee_result later b c ≡ callee_result blocks b c
    result_same (callee.Block levels n) h = (g.each n h.1).result
    result_same (callee.Formal levels v) h = ap slot_result (slot_same levels v (some_procedure (slot_at blocks b levels v) h.1))

    result_known : (c : Callee) → CalleeFits blocks b c → IfSome (callee_result blocks b c) (λ t. t < length types)
    result_known (callee.Block levels n) h = first_known types (block_at blocks n).result _ (g.known n h.1)
    result_known (callee.Formal levels v) h = formal_known types (slot_at blocks b levels v) (slot_known levels v)

    words_same : (r : Option ℕ) → IfSome r (λ t. t < length types) → option_map_or (size (types ++ more)) r 0 ≡ option_map_or (size types) r 0
    words_same None h = refl
    words_same (Some t) h = size_same t t refl h

    pub heading_same : (c : Callee) → CalleeFits blocks b c → callee_heading next later b c ≡ callee_heading headings blocks b c
    heading_same (callee.Block levels n) h =
        let grows = g.each n h.1 in
        ap (λ f. heading (formals_from f (first_parameter (block_at later n).result) (block_at later n).parameters) (block_at later n).result) (g.same n h.1)
        ∙ ap (λ r. heading (formals_from (headings n) (first_parameter r) (block_at later n).parameters) r) grows.result
        ∙ ap (λ ps. heading (formals_from (headings n) (first_parameter (block_at blocks n).result) ps) (block_at blocks n).result) grows.parameters
    heading_same (callee.Formal levels v) h =
        ap (λ n. next n v) (outer_same levels b g.inside)
        ∙ ap (λ f. f v) (g.same (outer blocks b levels) (outer_inside levels b g.inside))

    -- ---- operators

    operator_same : (o : Operator) (s t : ℕ) → s < length types → t < length types → OperatorFits types o s t → OperatorFits (types ++ more) o s t
    operator_same op.Equal s t i j h = h
    operator_same op.NotEqual s t i j h = h
    operator_same op.Less s t i j h = (h.0, elementary_same s s refl i h.1)
    operator_same op.LessOrEqual s t i j h = (h.0, elementary_same s s refl i h.1)
    operator_same op.Greater s t i j h = (h.0, elementary_same s s refl i h.1)
    operator_same op.GreaterOrEqual s t i j h = (h.0, elementary_same s s refl i h.1)
    operator_same op.In s t i j h = shape_same t j ∙ h
    operator_same op.Plus s t i j h = (h.0, subst (λ x. IsTrue ((s == int_type) || is_set_shape x)) (sym (shape_same s i)) h.1)
    operator_same op.Minus s t i j h = (h.0, subst (λ x. IsTrue ((s == int_type) || is_set_shape x)) (sym (shape_same s i)) h.1)
    operator_same op.Times s t i j h = (h.0, subst (λ x. IsTrue ((s == int_type) || is_set_shape x)) (sym (shape_same s i)) h.1)
    operator_same op.Div s t i j h = h
    operator_same op.Mod s t i j h = h
    operator_same op.And s t i j h = h
    operator_same op.Or s t i j h = h

    left_same : (o : Operator) (t : ℕ) → t < length types → left_words (types ++ more) o t ≡ left_words types o t
    left_same op.And t h = refl
    left_same op.Or t h = refl
    left_same o t h = size_same t t refl h

    -- ---- expressions

    pub record SameExpression (e : Expression) : Type 0 where
      pub of : expression_type (types ++ more) later b e ≡ expression_type types blocks b e
      pub known : expression_type types blocks b e < length types
      pub height : expression_height (types ++ more) later b e ≡ expression_height types blocks b e
      pub fits : ExpressionFits (types ++ more) later next b e

    record SameExpressions (es : Expressions) : Type 0 where
      have : (ts : List ℕ) → HaveTypes types blocks headings b es ts → HaveTypes (types ++ more) later next b es ts
      each : (t : ℕ) → AllHaveType types blocks headings b t es → AllHaveType (types ++ more) later next b t es
      members : members_height (types ++ more) later b es ≡ members_height types blocks b es
      compound : (n : ℕ) → compound_height (types ++ more) later b n es ≡ compound_height types blocks b n es
      fits : ExpressionsFit (types ++ more) later next b es

    record SameLinks (t : ℕ) (ls : Links) : Type 0 where
      known : links_type t ls < length types
      height : links_height (types ++ more) later b t ls ≡ links_height types blocks b t ls
      fits : LinksFit (types ++ more) later next b t ls

    pub record SamePlace (p : Place) : Type 0 where
      pub of : place_type (types ++ more) later b p ≡ place_type types blocks b p
      pub known : place_type types blocks b p < length types
      pub height : place_height (types ++ more) later b p ≡ place_height types blocks b p
      pub fits : PlaceFits (types ++ more) later next b p

    record SamePart (t : ℕ) (p : Part) : Type 0 where
      of : part_type (types ++ more) t p ≡ part_type types t p
      known : part_type types t p < length types
      height : part_height (types ++ more) later b p ≡ part_height types blocks b p
      fits : PartFits (types ++ more) later next b t p

    record SameParts (t : ℕ) (ps : Parts) : Type 0 where
      of : parts_type (types ++ more) t ps ≡ parts_type types t ps
      known : parts_type types t ps < length types
      height : parts_height (types ++ more) later b ps ≡ parts_height types blocks b ps
      fits : PartsFit (types ++ more) later next b t ps

    pub record SameArguments (xs : Arguments) (fs : Formals) : Type 0 where
      pub height : (n : ℕ) → arguments_height (types ++ more) later b n xs ≡ arguments_height types blocks b n xs
      pub fits : ArgumentsFit (types ++ more) later next b xs fs

    makes_same : (s : Shape) (es : Expressions) → SameExpressions es → MakesValue types blocks headings b s es → MakesValue (types ++ more) later next b s es
    makes_same (record_of fs) es s h = s.have fs h
    makes_same (array_of i lo hi e) es s h = s.have (part_types (array_of i lo hi e)) h
    makes_same (set_of t) es s h = s.each t h
    makes_same int es s h = h
    makes_same char es s h = h
    makes_same bool es s h = h
    makes_same (enumeration n) es s h = h

    mutual
      pub expression_same : (e : Expression) → ExpressionFits types blocks headings b e → SameExpression e
      expression_same (constant t n) h =
          record {
            of = refl;
            known = h.0;
            height = refl;
            fits = (omega (arith, h.0, longer_types), subst (λ s. IsTrue (is_ordinal_of s n)) (sym (shape_same t h.0)) h.1);
          }
      expression_same (load p) h =
          let s = place_same p h in
          record { of = s.of; known = s.known; height = two max s.height (size_same _ _ s.of s.known); fits = s.fits }
      expression_same (not_of e) h =
          let s = expression_same e h.1 in
          record { of = refl; known = standard_known types g.three 2 (omega arith); height = s.height; fits = (s.of ∙ h.0, s.fits) }
      expression_same (sign_of e line) h =
          let s = expression_same e h.1 in
          record { of = refl; known = standard_known types g.three 0 (omega arith); height = s.height; fits = (s.of ∙ h.0, s.fits) }
      expression_same (chain e ls) h =
          let s = expression_same e h.1 in
          let l = links_same (expression_type types blocks b e) ls s.known h.2 in
          record {
            of = ap (λ t. links_type t ls) s.of;
            known = l.known;
            height = two max s.height (ap (λ t. links_height (types ++ more) later b t ls) s.of ∙ l.height);
            fits = (h.0, s.fits, subst (λ t. LinksFit (types ++ more) later next b t ls) (sym s.of) l.fits);
          }
      expression_same (make t es line) h =
          let s = expressions_same es h.2 in
          record {
            of = refl;
            known = h.0;
            height =
                ap (λ x. if is_set_shape x then members_height (types ++ more) later b es else compound_height (types ++ more) later b 0 es) (shape_same t h.0)
                ∙ two (λ m n. if is_set_shape (shape_at types t) then m else n) s.members (s.compound 0);
            fits = (
              omega (arith, h.0, longer_types),
              subst (λ x. MakesValue (types ++ more) later next b x es) (sym (shape_same t h.0)) (makes_same (shape_at types t) es s h.1),
              s.fits,
            );
          }
      expression_same (convert t e line) h =
          let s = expression_same e h.3 in
          record {
            of = refl;
            known = h.0;
            height = s.height;
            fits = (omega (arith, h.0, longer_types), elementary_same t t refl h.0 h.1, elementary_same _ _ s.of s.known h.2, s.fits);
          }
      expression_same (apply_of c xs line) h =
          let s = arguments_same xs (heading_formals (callee_heading headings blocks b c)) h.2 in
          record {
            of = ap (λ r. unwrap_or r int_type) (result_same c h.0);
            known = found_known types g.three (callee_result blocks b c) (result_known c h.0);
            height =
                two max (s.height 0)
                (ap (λ r. option_map_or (size (types ++ more)) r 0) (result_same c h.0) ∙ words_same (callee_result blocks b c) (result_known c h.0));
            fits = (
              callee_fits c h.0,
              subst IsSome (sym (result_same c h.0)) h.1,
              subst (λ x. ArgumentsFit (types ++ more) later next b xs (heading_formals x)) (sym (heading_same c h.0)) s.fits,
            );
          }

      expressions_same : (es : Expressions) → ExpressionsFit types blocks headings b es → SameExpressions es
      expressions_same no_expression h = record { have = have; each = λ t k. tt; members = refl; compound = λ n. refl; fits = tt }
        where
          have : (ts : List ℕ) → HaveTypes types blocks headings b no_expression ts → HaveTypes (types ++ more) later next b no_expression ts
          have [] k = tt
          have (t ∷ ts) k = k
      expressions_same (expression_then e es) h =
          let s = expression_same e h.0 in
          let ss = expressions_same es h.1 in
          record {
            have = have s ss;
            each = λ t k. (s.of ∙ k.0, ss.each t k.1);
            members = two (λ m n. max (8 + m) n) s.height ss.members;
            compound = λ n.
                two max (ap (λ k. n + k) s.height)
                (ap (λ k. compound_height (types ++ more) later b (n + k) es) (size_same _ _ s.of s.known)
                ∙ ss.compound (n + size types (expression_type types blocks b e)));
            fits = (s.fits, ss.fits);
          }
        where
          have : SameExpression e → SameExpressions es → (ts : List ℕ) → HaveTypes types blocks headings b (expression_then e es) ts
              → HaveTypes (types ++ more) later next b (expression_then e es) ts
          have s ss [] k = k
          have s ss (t ∷ ts) k = (s.of ∙ k.0, ss.have ts k.1)

      links_same : (t : ℕ) (ls : Links) → t < length types → LinksFit types blocks headings b t ls → SameLinks t ls
      links_same t no_link i h = record { known = i; height = refl; fits = tt }
      links_same t (link_then (link o e line) ls) i h =
          let s = expression_same e h.1 in
          let l = links_same (operator_type o t) ls (operator_known types g.three o t i) h.2 in
          record {
            known = l.known;
            height = two max (two (λ m n. m + n) (left_same o t i) s.height) l.height;
            fits = (subst (λ u. OperatorFits (types ++ more) o t u) (sym s.of) (operator_same o t _ i s.known h.0), s.fits, l.fits);
          }

      pub place_same : (p : Place) → PlaceFits types blocks headings b p → SamePlace p
      place_same (place levels v ps) h =
          let same = slot_same levels v (some_variable (slot_at blocks b levels v) h.1) in
          let s = parts_same (slot_type (slot_at blocks b levels v)) ps (type_known types (slot_at blocks b levels v) h.1 (slot_known levels v)) h.2 in
          record {
            of = ap (λ o. parts_type (types ++ more) (slot_type o) ps) same ∙ s.of;
            known = s.known;
            height = ap (max 1) s.height;
            fits = (
              h.0,
              subst (λ o. IsTrue (is_variable o)) (sym same) h.1,
              subst (λ o. PartsFit (types ++ more) later next b (slot_type o) ps) (sym same) s.fits,
            );
          }

      part_same : (t : ℕ) (p : Part) → t < length types → PartFits types blocks headings b t p → SamePart t p
      part_same t (field n) i h =
          record {
            of = ap (λ s. unwrap_or (slice_get (fields_of s) n) int_type) (shape_same t i);
            known = field_known types g.three (shape_at types t) n (names_known types g.declared t i);
            height = refl;
            fits = subst (λ s. IsSome (slice_get (fields_of s) n)) (sym (shape_same t i)) h;
          }
      part_same t (index e line) i h =
          let s = expression_same e h.1 in
          record {
            of = ap element_type (shape_same t i);
            known = element_known types g.three (shape_at types t) (names_known types g.declared t i);
            height = ap (λ n. 1 + n) s.height;
            fits = (
              subst (λ x. IsIndexedBy x (expression_type (types ++ more) later b e)) (sym (shape_same t i))
                  (subst (IsIndexedBy (shape_at types t)) (sym s.of) h.0),
              s.fits,
            );
          }

      parts_same : (t : ℕ) (ps : Parts) → t < length types → PartsFit types blocks headings b t ps → SameParts t ps
      parts_same t no_part i h = record { of = refl; known = i; height = refl; fits = tt }
      parts_same t (part_then p ps) i h =
          let s = part_same t p i h.0 in
          let ss = parts_same (part_type types t p) ps s.known h.1 in
          record {
            of = ap (λ u. parts_type (types ++ more) u ps) s.of ∙ ss.of;
            known = ss.known;
            height = two max s.height ss.height;
            fits = (s.fits, subst (λ u. PartsFit (types ++ more) later next b u ps) (sym s.of) ss.fits);
          }

      pub arguments_same : (xs : Arguments) (fs : Formals) → ArgumentsFit types blocks headings b xs fs → SameArguments xs fs
      arguments_same no_argument no_formal h = record { height = λ n. refl; fits = tt }
      arguments_same (argument_then (by_value e) xs) (value_then t fs) h =
          let s = expression_same e h.1 in
          let ss = arguments_same xs fs h.2 in
          record {
            height = λ n.
                two max (ap (λ k. n + k) s.height)
                (ap (λ k. arguments_height (types ++ more) later b (n + k) xs) (size_same _ _ s.of s.known)
                ∙ ss.height (n + size types (expression_type types blocks b e)));
            fits = (s.of ∙ h.0, s.fits, ss.fits);
          }
      arguments_same (argument_then (by_variable p) xs) (variable_then t fs) h =
          let s = place_same p h.1 in
          let ss = arguments_same xs fs h.2 in
          record {
            height = λ n. two max (ap (λ k. n + k) s.height) (ss.height (n + 1));
            fits = (s.of ∙ h.0, s.fits, ss.fits);
          }
      arguments_same (argument_then (by_procedure c) xs) (procedure_then hd fs) h =
          let ss = arguments_same xs fs h.2 in
          record {
            height = λ n. ap (max (n + 3)) (ss.height (n + 3));
            fits = (heading_same c h.1 ∙ h.0, callee_fits c h.1, ss.fits);
          }
      arguments_same no_argument (value_then t fs) h = absurd h
      arguments_same no_argument (variable_then t fs) h = absurd h
      arguments_same no_argument (procedure_then hd fs) h = absurd h
      arguments_same (argument_then (by_value e) xs) no_formal h = absurd h
      arguments_same (argument_then (by_value e) xs) (variable_then t fs) h = absurd h
      arguments_same (argument_then (by_value e) xs) (procedure_then hd fs) h = absurd h
      arguments_same (argument_then (by_variable p) xs) no_formal h = absurd h
      arguments_same (argument_then (by_variable p) xs) (value_then t fs) h = absurd h
      arguments_same (argument_then (by_variable p) xs) (procedure_then hd fs) h = absurd h
      arguments_same (argument_then (by_procedure c) xs) no_formal h = absurd h
      arguments_same (argument_then (by_procedure c) xs) (value_then t fs) h = absurd h
      arguments_same (argument_then (by_procedure c) xs) (variable_then t fs) h = absurd h
