-- Constructors of records, arrays and sets.
use Rattle.std.proofs.Common.{◌≡◌, ℕ, ◌+◌, ◌<◌, ◌≤◌, Bool, true, false, if◌then◌else◌, List, [], length, max, replicate, Option, Some, None, refl, sym}
use Rattle.std.proofs.Common.{subst, ap, ◌∙◌, arith}
use Rattle.std.specs.Prelude.{sum_by, IsTrue}
use Rattle.std.proofs.lemmas.Bool.{false≢true}
use Rattle.std.proofs.lemmas.List.{length-replicate}
use Rattle.edi_store.specs.Memory.{words_at}
use Rattle.edi_unit.specs.Types as types
use Rattle.edi_unit.specs.Types.{is_elementary, is_set_shape, shape_at, size}
use Rattle.edi_unit.specs.TypeTables.{has_parts, part_types}
use Rattle.edi_unit.specs.Tree as tree
use Rattle.edi_unit.specs.Tree.{Expression, Expressions, Acts}
use Rattle.edi_unit.specs.Values.{Value, compound, members, values}
use Rattle.edi_unit.specs.Need.{members_height, compound_height}
use Rattle.edi_unit.specs.Fits.{MakesValue, HaveTypes, AllHaveType, ExpressionsFit}
use Rattle.edi_unit.proofs.Tables.{size-is}
use Rattle.edi_meaning.specs.Store.{Shape}
use Rattle.edi_meaning.specs.Evaluation.{World, Evaluation, gives, ◌>>=◌}
use Rattle.edi_meaning.specs.Whole.{expressions, members_of}
use Rattle.edi_target.specs.Op as op
use Rattle.edi_scheme.specs.Pieces.{constant_words}
use Rattle.edi_scheme.specs.Stands as code
use Rattle.edi_follows.proofs.values.Lengths.{parts_sum, size_of_set}
use Rattle.edi_follows.proofs.values.Zeros.{empty_set}
use Rattle.edi_follows.proofs.values.Operators.{base_elementary}
use Rattle.edi_follows.specs.places.Coded.{Coded, entry}
use Rattle.edi_follows.specs.places.Spots.{frames_end}
use Rattle.edi_follows.specs.places.Scene.{Scene, here, Able, Does}
use Rattle.edi_follows.specs.places.Claims.{Pushed, PushedRow, PushedSet}
use Rattle.edi_follows.specs.places.Constructs.{E, Es, Ms}
use Rattle.edi_follows.specs.places.Instructions.{Instructed}
use Rattle.edi_follows.proofs.places.Doing.{bind_up, give, stands_after}
use Rattle.edi_follows.proofs.places.Instructed.{instructed}
use Rattle.edi_follows.proofs.places.Binding.{at_same}
use Rattle.edi_follows.proofs.values.Unary.{table_of}
use Rattle.edi_follows.proofs.values.Texts.{Constants, constants_are}

-- the words of the empty set
abbrev eight_zeros : List ℕ
eight_zeros = replicate 8 0

module _ (g : Coded) (s : Scene) (deeper : Acts → World → Evaluation (Unit {0})) (bound : ℕ) where
  i : Instructed g s
  i = instructed g s

  abbrev ts : List types.Shape
  ts = g.unit.types

  -- a type whose values are made of parts
  module _ (b : ℕ) (es : Expressions) where
    parts_of : (shape : types.Shape) → is_set_shape shape ≡ false → MakesValue ts g.unit.blocks g.fits.headings b shape es →
        HaveTypes ts g.unit.blocks g.fits.headings b es (part_types shape) × IsTrue (has_parts shape)
    parts_of types.int e h = absurd h
    parts_of types.char e h = absurd h
    parts_of types.bool e h = absurd h
    parts_of (types.enumeration n) e h = absurd h
    parts_of (types.record_of fs) e h = (h, refl)
    parts_of (types.array_of j lo hi x) e h = (h, refl)
    parts_of (types.set_of x) e h = absurd (false≢true (sym e))

    base_of_set : (shape : types.Shape) → is_set_shape shape ≡ true → MakesValue ts g.unit.blocks g.fits.headings b shape es →
        (base : ℕ) × (shape ≡ types.set_of base) × AllHaveType ts g.unit.blocks g.fits.headings b base es
    base_of_set types.int e h = absurd h
    base_of_set types.char e h = absurd h
    base_of_set types.bool e h = absurd h
    base_of_set (types.enumeration n) e h = absurd h
    base_of_set (types.record_of fs) e h = absurd (false≢true e)
    base_of_set (types.array_of j lo hi x) e h = absurd (false≢true e)
    base_of_set (types.set_of x) e h = (x, refl, h)

  module _ (of : ℕ) (es : Expressions) (line : ℕ) (row : Es g s deeper bound es) (joined : Ms g s deeper bound es) (F : Shape) (pc to t held : ℕ)
      (w : World) (m : List ℕ) (less : w.turns ≤ bound)
      (known : of < length ts) (makes : MakesValue ts g.unit.blocks g.fits.headings (here g s F) (shape_at ts of) es)
      (fits : ExpressionsFit ts g.unit.blocks g.fits.headings (here g s F) es) where
    abbrev row_of : World → Evaluation (List Value)
    row_of w = expressions g.unit s.name (s.size s.name) deeper es w

    abbrev set_of : List ℕ → World → Evaluation (List ℕ)
    set_of set w = members_of g.unit s.name (s.size s.name) deeper set es line w

    -- a set
    makes_set : is_set_shape (shape_at ts of) ≡ true → (a : ℕ) × code.InstructionStands g.fetched pc (op.zeros 8) a
        × code.AreMembers g.fetched ts g.unit.blocks (entry g) (here g s F) line es a to →
        Able g s F w m t (members_height ts g.unit.blocks (here g s F) es) held → Does g s F pc t t held w m (Pushed g s of to t)
        (set_of [] w >>= λ set w. gives (members set) w)
    makes_set set stands able =
        let base = base_of_set (here g s F) es (shape_at ts of) set makes in
        let elementary : IsTrue (is_elementary ts base.0) = base_elementary ts (table_of g) base.0 of known base.1 in
        let eight : length eight_zeros ≡ 8 = length-replicate {A = ℕ} 8 0 in
        let higher : t + length eight_zeros ≡ t + 8 = ap (λ n. t + n) eight in
        let wide : size ts of ≡ 8 = size_of_set ts (table_of g) of known set in
        let room : t + 8 ≤ frames_end s.first F s.name = omega (arith, able.high, eight_at_least (here g s F) es) in
        i.pushes_then Value (Pushed g s of to t) (set_of [] w >>= λ set w. gives (members set) w) F
        (op.zeros 8) pc stands.0 t t t held w m eight_zeros able.stands stands.1 refl (omega arith) able.low
        (omega (arith, room, eight)) (λ m' after words.
        at_same g s Value (Pushed g s of to t) (set_of [] w >>= λ set w. gives (members set) w) F stands.0 stands.0 (t + 8)
        (t + length eight_zeros) t held w m' refl higher
        (bind_up g s (List ℕ) F stands.0 (t + 8) t t held w m' Value (PushedSet g s to t) (Pushed g s of to t) (set_of [] w)
        (λ set w. gives (members set) w) (omega arith)
        (joined base.0 line [] F stands.0 to t held w m' less stands.2 base.2 elementary fits
        (i.able_then F w w m m' t (members_height ts g.unit.blocks (here g s F) es) t
        (members_height ts g.unit.blocks (here g s F) es) t held false able after (omega arith) (omega arith))
        (record { pc_is = refl; top_is = refl; words = ap (words_at m' t) (sym eight) ∙ words ∙ sym empty_set; ordinal = tt }))
        (λ all z m'' pc' top' c above within after' post.
        give g s F pc' top' t held z m'' (Pushed g s of to t) (members all)
        (stands_after g s F w z m' m'' t c (stands_after g s F w w m m' t false able.stands after) after') above within (record {
          pc_is = post.pc_is;
          top_is = post.top_is ∙ ap (λ n. t + n) (sym wide);
          words = ap (words_at m'' t) wide ∙ post.words;
          typed = (set, post.ordinal);
        }))))
      where
        eight_at_least : (b : ℕ) (es : Expressions) → 8 ≤ members_height ts g.unit.blocks b es
        eight_at_least b tree.no_expression = omega arith
        eight_at_least b (tree.expression_then e es) = omega (arith, eight_at_least b es)

    -- a record or an array
    makes_parts : is_set_shape (shape_at ts of) ≡ false → code.IsRow g.fetched (constant_words es) pc to
        (code.AreExpressions g.fetched ts g.unit.blocks (entry g) (here g s F) es pc to) →
        Able g s F w m t (compound_height ts g.unit.blocks (here g s F) 0 es) held → Does g s F pc t t held w m (Pushed g s of to t)
        (row_of w >>= λ vs w. gives (compound (values vs)) w)
    makes_parts no_set stands able = go (constant_words es) refl stands
      where
        parts : HaveTypes ts g.unit.blocks g.fits.headings (here g s F) es (part_types (shape_at ts of)) × IsTrue (has_parts (shape_at ts of))
        parts = parts_of (here g s F) es (shape_at ts of) no_set makes

        total : size ts of ≡ sum_by (size ts) (part_types (shape_at ts of))
        total = size-is ts of g.fits.table known ∙ sym (parts_sum (size ts) (shape_at ts of) parts.1)

        go : (o : Option (List ℕ)) → constant_words es ≡ o → code.IsRow g.fetched o pc to
            (code.AreExpressions g.fetched ts g.unit.blocks (entry g) (here g s F) es pc to) →
            Does g s F pc t t held w m (Pushed g s of to t) (row_of w >>= λ vs w. gives (compound (values vs)) w)
        go None e at =
            bind_up g s (List Value) F pc t t t held w m Value (PushedRow g s (part_types (shape_at ts of)) to t) (Pushed g s of to t) (row_of w)
            (λ vs w. gives (compound (values vs)) w) (omega arith)
            (row (part_types (shape_at ts of)) F pc to t held w m less at parts.0 fits able) (λ vs z m' pc' top' c above within after post.
            give g s F pc' top' t held z m' (Pushed g s of to t) (compound (values vs)) (stands_after g s F w z m m' t c able.stands after) above within
            (record {
              pc_is = post.pc_is;
              top_is = post.top_is ∙ ap (λ n. t + n) (sym total);
              words = ap (words_at m' t) total ∙ post.words;
              typed = (parts.1, post.typed);
            }))
        go (Some ws) e at =
            let k : Constants g s deeper (here g s F) es ws (part_types (shape_at ts of)) =
            constants_are g s deeper (here g s F) es ws (part_types (shape_at ts of)) e parts.0 fits in
            let tall : 0 + sum_by (size ts) (part_types (shape_at ts of)) ≤ max 0 (compound_height ts g.unit.blocks (here g s F) 0 es) = k.high 0 in
            subst (λ r. Does g s F pc t t held w m (Pushed g s of to t) (r >>= λ vs w. gives (compound (values vs)) w)) (sym (k.is w))
            (i.pops_pushes_value F (op.text ws) pc to t t held of w m ws (compound (values k.given)) able.stands at refl able.low
            (omega (arith, able.high, tall, total)) (sym k.words) known
            (parts.1, k.typed))

  pub make_does : (of : ℕ) (es : Expressions) (line : ℕ) → Es g s deeper bound es → Ms g s deeper bound es → E g s deeper bound (tree.make of es line)
  make_does of es line row joined F pc to t held w m less stands fits able = go (is_set_shape (shape_at ts of)) refl stands able
    where
      go : (b : Bool) → is_set_shape (shape_at ts of) ≡ b →
          code.Either b ((a : ℕ) × code.InstructionStands g.fetched pc (op.zeros 8) a × code.AreMembers g.fetched ts g.unit.blocks (entry g)
          (here g s F) line es a to)
          (code.IsRow g.fetched (constant_words es) pc to (code.AreExpressions g.fetched ts g.unit.blocks (entry g) (here g s F) es pc to)) →
          Able g s F w m t (if b then members_height ts g.unit.blocks (here g s F) es else compound_height ts g.unit.blocks (here g s F) 0 es) held →
          Does g s F pc t t held w m (Pushed g s of to t)
          (if b then (members_of g.unit s.name (s.size s.name) deeper [] es line w >>= λ set w. gives (members set) w)
          else (expressions g.unit s.name (s.size s.name) deeper es w >>= λ vs w. gives (compound (values vs)) w))
      go true e at able = makes_set of es line row joined F pc to t held w m less fits.0 fits.1 fits.2 e at able
      go false e at able = makes_parts of es line row joined F pc to t held w m less fits.0 fits.1 fits.2 e at able
