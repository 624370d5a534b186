-- One environment behind another, and what still holds there.
use Rattle.std.proofs.Common.{◌≡◌, ℕ, zero, suc, ◌+◌, ◌<◌, ◌≤◌, Bool, true, false, ◌||◌, ◌==◌, List, [], ◌∷◌, ◌++◌, length, get_or, map, All, IsTrue, IsSome}
use Rattle.std.proofs.Common.{refl, sym, ap, ◌∙◌, subst, arith, append_assoc, length-append}
use Rattle.std.specs.Prelude.{slice_get, sum_by}
use Rattle.std.proofs.lemmas.Bool.{false≢true, eqb-true}
use Rattle.std.proofs.lemmas.List.{append-nil}
use Rattle.std.proofs.Math.ListN.{get_or-append}
use Rattle.edi_scope.specs.declared.entity.Entity.{Entity}
use Rattle.edi_scope.specs.declared.entity.Entity.TheVariants as entity
use Rattle.edi_scope.specs.Scope.{Scope}
use Rattle.edi_unit.specs.declared.units.Parameter.{Parameter}
use Rattle.edi_unit.specs.declared.units.Parameter.TheVariants as slot
use Rattle.edi_unit.specs.Types.{Shape, int, shape_at, is_ordinal_of}
use Rattle.edi_unit.specs.Tree.{Block, Acts}
use Rattle.edi_unit.specs.Need.{block_at, slots, slot_type, slot_result, slot_words, acts_height, need}
use Rattle.edi_unit.specs.Fits.{is_variable, is_procedure, is_called, ActsFit, SlotIsKnown, KindFits}
use Rattle.edi_unit.specs.Headings.{Heading, heading_result, heading_formals}
use Rattle.edi_static.specs.Environment.{Environment, heading_at, parameters_of}
use Rattle.edi_static.specs.Proper.{ScopesFit}
use Rattle.edi_static.proofs.Proper.{scopes_fit}
use Rattle.edi_static.proofs.Fitness.{variable_heading, headings_of, is_round, slot_of, Names, StandsIn, IsChain, Nested, BlockStands, Sits}
use Rattle.edi_static.proofs.FitnessGrowth.{BlockGrows, Steady, get_more, slots_grow, some_variable, some_procedure}
use Rattle.edi_static.proofs.FitnessActs.{acts_same, words_same, slots_known}

-- what constructs add to
pub record Stock : Type 0 where
  pub types : List Shape
  pub blocks : List Block
  pub headings : List Heading
  pub shapes : List Heading

abbrev pub stock : Environment → Stock
stock env = record { types = env.types; blocks = env.blocks; headings = env.headings; shapes = env.shapes }

-- types, blocks and headings are only added, and blocks only grow
pub record StockGrows (old new : Stock) : Type 0 where
  pub more : List Shape
  pub types : new.types ≡ old.types ++ more
  pub longer : length old.blocks ≤ length new.blocks
  pub each : (n : ℕ) → n < length old.blocks → BlockGrows (block_at old.blocks n) (block_at new.blocks n)
  pub headings : (n : ℕ) → n < length old.blocks → heading_at new.headings n ≡ heading_at old.headings n
  pub longer_shapes : length old.shapes ≤ length new.shapes
  pub shapes : (s : ℕ) → s < length old.shapes → heading_at new.shapes s ≡ heading_at old.shapes s

-- One environment behind another: scopes, and the blocks that are open, may be others.
abbrev pub Later : Environment → Environment → Type 0
Later env next = StockGrows (stock env) (stock next)

pub same_block : (b : Block) → BlockGrows b b
same_block b = record { kind = refl; up = refl; result = refl; parameters = refl; more = []; variables = sym (append-nil b.variables) }

grows_then : (a b c : Block) → BlockGrows a b → BlockGrows b c → BlockGrows a c
grows_then a b c g h = record {
  kind = h.kind ∙ g.kind;
  up = h.up ∙ g.up;
  result = h.result ∙ g.result;
  parameters = h.parameters ∙ g.parameters;
  more = g.more ++ h.more;
  variables = h.variables ∙ ap (λ vs. vs ++ h.more) g.variables ∙ append_assoc a.variables g.more h.more;
}

-- of one with the same types
pub types_stay : (env next : Environment) → next.types ≡ env.types → length env.blocks ≤ length next.blocks →
    ((n : ℕ) → n < length env.blocks → BlockGrows (block_at env.blocks n) (block_at next.blocks n)) →
    ((n : ℕ) → n < length env.blocks → heading_at next.headings n ≡ heading_at env.headings n) → length env.shapes ≤ length next.shapes →
    ((s : ℕ) → s < length env.shapes → heading_at next.shapes s ≡ heading_at env.shapes s) → Later env next
types_stay env next same longer each headings longer_shapes shapes = record {
  more = [];
  types = same ∙ sym (append-nil env.types);
  longer = longer;
  each = each;
  headings = headings;
  longer_shapes = longer_shapes;
  shapes = shapes;
}

pub later_same : (env : Environment) → Later env env
later_same env = types_stay env env refl (omega arith) (λ n h. same_block (block_at env.blocks n)) (λ n h. refl) (omega arith) (λ s h. refl)

pub later_then : (a b c : Environment) → Later a b → Later b c → Later a c
later_then a b c g h =
    let blocks = g.longer in
    let shapes = g.longer_shapes in
    let wider = h.longer in
    let others = h.longer_shapes in
    record {
      more = g.more ++ h.more;
      types = h.types ∙ ap (λ ts. ts ++ h.more) g.types ∙ append_assoc a.types g.more h.more;
      longer = omega (arith, blocks, wider);
      each = λ n i. grows_then _ _ _ (g.each n i) (h.each n (omega (arith, i, blocks)));
      headings = λ n i. h.headings n (omega (arith, i, blocks)) ∙ g.headings n i;
      longer_shapes = omega (arith, shapes, others);
      shapes = λ s i. h.shapes s (omega (arith, i, shapes)) ∙ g.shapes s i;
    }

-- ---- blocks

-- the block round a block is there
up_inside : (n up all : ℕ) → n < all → (n ≡ 0 → up ≡ 0) → (0 < n → up < n) → up < all
up_inside zero up all h first inner = let e = first refl in omega (arith, h, e)
up_inside (suc n) up all h first inner = let less = inner (omega arith) in omega (arith, h, less)

-- each block of a chain is there
either : (P : Bool) (a b : ℕ) (r : Bool) → (a == b) ≡ P → (P || r) ≡ true → (n : ℕ) → a < n → (r ≡ true → b < n) → b < n
either true a b r e h n i k = subst (λ m. m < n) (eqb-true a b e) i
either false a b r e h n i k = k h

pub chain_inside : (blocks : List Block) (around : List ℕ) (b : ℕ) → IsChain blocks around → IsTrue (is_round b around) → b < length blocks
chain_inside blocks [] b c h = absurd (false≢true h)
chain_inside blocks (a ∷ around) b c h = either (a == b) a b (is_round b around) refl h (length blocks) c.0 (chain_inside blocks around b c.2)

module _ (env next : Environment) (s : Sits env) (l : Later env next) where
  ups : (n : ℕ) → n < length env.blocks → (block_at env.blocks n).up < length env.blocks
  ups n h = up_inside n _ _ h (s.stand n h).outermost (s.stand n h).inner

  pub steady : (b : ℕ) → b < length env.blocks → Steady env.types l.more env.blocks next.blocks (headings_of env.headings) (headings_of next.headings) b
  steady b h = record {
    three = s.types.table.three;
    declared = s.types.table.declared;
    longer = l.longer;
    each = l.each;
    ups = ups;
    known = λ n i. (s.stand n i).known;
    same = λ n i. ap variable_heading (l.headings n i);
    inside = h;
  }

  -- what fits in a block fits there later
  pub acts_later : (b : ℕ) → b < length env.blocks → (body : Acts) → ActsFit env.types env.blocks (headings_of env.headings) b body
      → ActsFit next.types next.blocks (headings_of next.headings) b body
  acts_later b h body fits =
      subst (λ ts. ActsFit ts next.blocks (headings_of next.headings) b body) (sym l.types)
      (acts_same env.types l.more env.blocks next.blocks (headings_of env.headings) (headings_of next.headings) b (steady b h) body fits).fits

  pub slots_later : (ps : List Parameter) → All (SlotIsKnown env.types) ps → All (SlotIsKnown next.types) ps
  slots_later ps h = subst (λ ts. All (SlotIsKnown ts) ps) (sym l.types) (slots_known env.types l.more ps h)

  -- a block that has grown
  pub stand_grown : (n : ℕ) → n < length env.blocks →
      KindFits (block_at next.blocks n).kind n (block_at next.blocks n) →
      All (SlotIsKnown next.types) (slots (block_at next.blocks n)) →
      ActsFit next.types next.blocks (headings_of next.headings) n (block_at next.blocks n).body →
      BlockStands next.types next.blocks next.headings n
  stand_grown n h kind known body =
      let old = s.stand n h in
      let g = l.each n h in
      record {
        fits_kind = kind;
        outermost = λ e. g.up ∙ old.outermost e;
        inner = λ i. subst (λ u. u < n) (sym g.up) (old.inner i);
        known = known;
        parameters = g.parameters ∙ old.parameters ∙ ap (λ h. parameters_of (heading_formals h)) (sym (l.headings n h));
        result = g.result ∙ old.result ∙ ap heading_result (sym (l.headings n h));
        statements = body;
      }

  -- a block that is as it was
  pub stand_later : (n : ℕ) → n < length env.blocks → block_at next.blocks n ≡ block_at env.blocks n → BlockStands next.types next.blocks next.headings n
  stand_later n h same =
      let old = s.stand n h in
      stand_grown n h
      (subst (λ b. KindFits b.kind n b) (sym same) old.fits_kind)
      (subst (λ b. All (SlotIsKnown next.types) (slots b)) (sym same) (slots_later (slots (block_at env.blocks n)) old.known))
      (subst (λ b. ActsFit next.types next.blocks (headings_of next.headings) n b.body) (sym same) (acts_later n h (block_at env.blocks n).body old.statements))

  -- its need is the same
  pub need_later : (n : ℕ) → n < length env.blocks → slots (block_at next.blocks n) ≡ slots (block_at env.blocks n) → (block_at next.blocks n).body
      ≡ (block_at env.blocks n).body → need next.types next.blocks n ≡ need env.types env.blocks n
  need_later n h same body =
      let old = s.stand n h in
      let steady = steady n h in
      ap (λ ts. need ts next.blocks n) l.types
      ∙ ap (λ b. 5 + sum_by (slot_words (env.types ++ l.more)) (slots (block_at next.blocks n)) + acts_height (env.types ++ l.more) next.blocks n b) body
      ∙ ap (λ ps. 5 + sum_by (slot_words (env.types ++ l.more)) ps + acts_height (env.types ++ l.more) next.blocks n (block_at env.blocks n).body) same
      ∙ ap (λ k. 5 + k + acts_height (env.types ++ l.more) next.blocks n (block_at env.blocks n).body)
      (words_same env.types l.more env.blocks next.blocks (headings_of env.headings) (headings_of next.headings) n steady (slots (block_at env.blocks n))
      old.known)
      ∙ ap (λ k. 5 + sum_by (slot_words env.types) (slots (block_at env.blocks n)) + k)
      (acts_same env.types l.more env.blocks next.blocks (headings_of env.headings) (headings_of next.headings) n steady (block_at env.blocks n).body
      old.statements).height

  -- ---- names

  pub chain_later : (around : List ℕ) → IsChain env.blocks around → IsChain next.blocks around
  chain_later [] c = tt
  chain_later (b ∷ around) c =
      let longer = l.longer in
      (omega (arith, c.0, longer), in_later b around (l.each b c.0).up c.1, chain_later around c.2)
    where
      in_later : (b : ℕ) (around : List ℕ) → (block_at next.blocks b).up ≡ (block_at env.blocks b).up → StandsIn env.blocks b around
          → StandsIn next.blocks b around
      in_later b [] e h = tt
      in_later b (a ∷ around) e h = e ∙ h

  pub nested_later : Nested next.blocks env.around
  nested_later = record { chain = chain_later env.around s.nested.chain; near = s.nested.near }

  slot_later : (b v : ℕ) → b < length env.blocks → IsSome (slot_of env.blocks b v) → slot_of next.blocks b v ≡ slot_of env.blocks b v
  slot_later b v h is =
      ap (λ ps. slice_get ps v) (slots_grow (block_at env.blocks b) (block_at next.blocks b) (l.each b h))
      ∙ get_more (slots (block_at env.blocks b)) (map slot.Value (l.each b h).more) v is

  pub names_later : (around : List ℕ) → IsChain env.blocks around → (e : Entity) →
      Names env.types env.blocks env.headings env.shapes around e → Names next.types next.blocks next.headings next.shapes around e
  names_later around c (entity.Constant of n) h = subst (λ ts. (of < length ts) × IsTrue (is_ordinal_of (shape_at ts of) n)) (sym l.types) (
    omega (arith, h.0, length-append env.types l.more),
    subst (λ x. IsTrue (is_ordinal_of x n)) (sym (get_or-append env.types l.more int of h.0)) h.1,
  )
  names_later around c (entity.Types t) h = subst (λ ts. t < length ts) (sym l.types) (omega (arith, h, length-append env.types l.more))
  names_later around c (entity.Variable b v of) h =
      let same = slot_later b v (chain_inside env.blocks around b c h.0) (some_variable (slot_of env.blocks b v) h.1) in
      (h.0, subst (λ o. IsTrue (is_variable o)) (sym same) h.1, ap slot_type same ∙ h.2)
  names_later around c (entity.Procedure b) h =
      let g = l.each b h.0 in
      let longer = l.longer in
      (omega (arith, h.0, longer), subst (λ k. IsTrue (is_called k)) (sym g.kind) h.1, subst (λ u. IsTrue (is_round u around)) (sym g.up) h.2)
  names_later around c (entity.Formal b v shape) h =
      let inside = chain_inside env.blocks around b c h.0 in
      let same = slot_later b v inside (some_procedure (slot_of env.blocks b v) h.1) in
      let longer = l.longer_shapes in (
        h.0,
        subst (λ o. IsTrue (is_procedure o)) (sym same) h.1,
        ap slot_result same ∙ h.2 ∙ ap heading_result (sym (l.shapes shape h.3)),
        omega (arith, h.3, longer),
        ap (λ x. variable_heading x v) (l.headings b inside) ∙ h.4 ∙ sym (l.shapes shape h.3),
      )
  names_later around c entity.Halt h = tt

  pub scopes_later : (around : List ℕ) → IsChain env.blocks around → (scopes : List Scope) →
      ScopesFit (Names env.types env.blocks env.headings env.shapes around) scopes → ScopesFit (Names next.types next.blocks next.headings next.shapes around)
      scopes
  scopes_later around c scopes h =
      scopes_fit (Names env.types env.blocks env.headings env.shapes around) (Names next.types next.blocks next.headings next.shapes around)
      (names_later around c) scopes h
