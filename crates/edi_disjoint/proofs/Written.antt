-- What stands in a text of a unit that fits: a block that is called is there; what may be written is a variable, and no procedure parameter.
use Rattle.std.proofs.Common.{◌≡◌, ℕ, zero, suc, ◌<◌, ◌≤◌, ◌⊎◌, inl, inr, List, [], ◌∷◌, ◌++◌, length, Option, Some, None, refl, subst, ap, arith}
use Rattle.std.specs.Prelude.{⊤, IsTrue, slice_get, slice_index_or}
use Rattle.std.proofs.lemmas.Bool.{cases_lt}
use Rattle.edi_unit.specs.declared.expressions.Callee.TheVariants as callee
use Rattle.edi_unit.specs.declared.units.Parameter.{Parameter}
use Rattle.edi_unit.specs.declared.units.Parameter.TheVariants as slot
use Rattle.edi_unit.specs.Need.{block_at, no_block, slots}
use Rattle.edi_unit.specs.Fits.{Fits, is_variable, is_procedure}
use Rattle.edi_unit.specs.Tree as tree
use Rattle.edi_unit.specs.Tree.{Block, Expression, Expressions, Link, Links, Place, Part, Parts, Argument, Arguments, Act, Acts, Clause, Clauses, ProgramUnit}
use Rattle.edi_meaning.proofs.Lasting.{Every}
use Rattle.edi_meaning.proofs.Own.{every-append}
use Rattle.edi_disjoint.specs.declared.mentions.Mention.{Mention}
use Rattle.edi_disjoint.specs.declared.mentions.Mention.TheVariants as mention
use Rattle.edi_disjoint.specs.Mentions.{in_expression, in_expressions, in_links, in_parts, in_arguments, in_act, in_acts}
use Rattle.edi_disjoint.specs.Mentions.{in_clause, in_clauses}
use Rattle.edi_disjoint.specs.Footprints.{Variable, variable_at, Mentions, Writes, outside, through, written}
use Rattle.edi_disjoint.specs.Leaves.{reads, assigns, lends, Leaves, ExpressionMay, ExpressionsMay, LinksMay, PartsMay}
use Rattle.edi_disjoint.specs.Leaves.{ArgumentsMay, ActMay, ActsMay, ClauseMay, ClausesMay}
use Rattle.edi_disjoint.proofs.Texts.{text_of, body_may}

-- ---- what is true of the leaves of a text is true of each mention in it

module _ (t : Leaves) where
  abbrev pub Told : Mention → Type 0
  Told (mention.Reads levels v) = t.Names reads levels v
  Told (mention.Assigns levels v) = t.Names assigns levels v
  Told (mention.Lends levels v) = t.Names lends levels v
  Told (mention.Calls c) = (es : Arguments) × t.Calls c es
  Told (mention.Passes c) = ⊤

  abbrev All : List Mention → Type 0
  All xs = Every Told xs

  both : (xs ys : List Mention) → All xs → All ys → All (xs ++ ys)
  both xs ys h k = every-append Told xs ys h k

  mutual
    expression_told : (e : Expression) → ExpressionMay t e → All (in_expression e)
    expression_told (tree.constant of n) h = tt
    expression_told (tree.load (tree.place levels v ps)) h = (h.0, parts_told ps h.1)
    expression_told (tree.not_of e) h = expression_told e h
    expression_told (tree.sign_of e line) h = expression_told e h
    expression_told (tree.chain e ls) h = both (in_expression e) (in_links ls) (expression_told e h.0) (links_told ls h.1)
    expression_told (tree.make of es line) h = expressions_told es h
    expression_told (tree.convert of e line) h = expression_told e h
    expression_told (tree.apply_of c xs line) h = ((xs, h.0), arguments_told xs h.1)

    expressions_told : (es : Expressions) → ExpressionsMay t es → All (in_expressions es)
    expressions_told tree.no_expression h = tt
    expressions_told (tree.expression_then e es) h = both (in_expression e) (in_expressions es) (expression_told e h.0) (expressions_told es h.1)

    links_told : (ls : Links) → LinksMay t ls → All (in_links ls)
    links_told tree.no_link h = tt
    links_told (tree.link_then (tree.link o e line) ls) h = both (in_expression e) (in_links ls) (expression_told e h.0) (links_told ls h.1)

    parts_told : (ps : Parts) → PartsMay t ps → All (in_parts ps)
    parts_told tree.no_part h = tt
    parts_told (tree.part_then (tree.field n) qs) h = parts_told qs h.1
    parts_told (tree.part_then (tree.index e line) qs) h = both (in_expression e) (in_parts qs) (expression_told e h.0) (parts_told qs h.1)

    arguments_told : (xs : Arguments) → ArgumentsMay t xs → All (in_arguments xs)
    arguments_told tree.no_argument h = tt
    arguments_told (tree.argument_then (tree.by_value e) xs) h = both (in_expression e) (in_arguments xs) (expression_told e h.0) (arguments_told xs h.1)
    arguments_told (tree.argument_then (tree.by_variable (tree.place levels v ps)) xs) h =
        (h.0.0, both (in_parts ps) (in_arguments xs) (parts_told ps h.0.1) (arguments_told xs h.1))
    arguments_told (tree.argument_then (tree.by_procedure c) xs) h = (tt, arguments_told xs h.1)

  mutual
    act_told : (a : Act) → ActMay t a → All (in_act a)
    act_told tree.skip h = tt
    act_told (tree.assign (tree.place levels v ps) e) h = (h.0.0, both (in_parts ps) (in_expression e) (parts_told ps h.0.1) (expression_told e h.1))
    act_told (tree.call c xs line) h = ((xs, h.0), arguments_told xs h.1)
    act_told (tree.halt line) h = tt
    act_told (tree.if_act cs) h = clauses_told cs h
    act_told (tree.while_act cs) h = clauses_told cs h
    act_told (tree.when_act cs line) h = clauses_told cs h
    act_told (tree.cobegin bs line) h = tt

    acts_told : (as' : Acts) → ActsMay t as' → All (in_acts as')
    acts_told tree.no_act h = tt
    acts_told (tree.act_then a as') h = both (in_act a) (in_acts as') (act_told a h.0) (acts_told as' h.1)

    clause_told : (c : Clause) → ClauseMay t c → All (in_clause c)
    clause_told (tree.clause e as') h = both (in_expression e) (in_acts as') (expression_told e h.0) (acts_told as' h.1)

    clauses_told : (cs : Clauses) → ClausesMay t cs → All (in_clauses cs)
    clauses_told tree.no_clause h = tt
    clauses_told (tree.clause_then c cs) h = both (in_clause c) (in_clauses cs) (clause_told c h.0) (clauses_told cs h.1)

one_of : {A : Type 0} (P : A → Type 0) (xs : List A) (k : ℕ) → k < length xs → Every P xs → (x : A) → slice_index_or xs k x ≡ x → P x
one_of P [] k l h x e = absurd (omega arith)
one_of P (y ∷ ys) zero l h x e = subst P e h.0
one_of P (y ∷ ys) (suc k) l h x e = one_of P ys k (omega (arith, l)) h.1 x e

pub block_past : (blocks : List Block) (n : ℕ) → length blocks ≤ n → block_at blocks n ≡ no_block
block_past [] n l = refl
block_past (b ∷ bs) zero l = absurd (omega (arith, l))
block_past (b ∷ bs) (suc n) l = block_past bs n (omega (arith, l))

module _ (unit : ProgramUnit) (ok : Fits unit) where
  -- what stands in a block is a leaf of its text
  pub told : (n : ℕ) (m : Mention) → Mentions unit n m → Told (text_of unit ok n) m
  told n m h = go (cases_lt n (length unit.blocks))
    where
      go : (n < length unit.blocks) ⊎ (length unit.blocks ≤ n) → Told (text_of unit ok n) m
      go (inl l) = one_of (Told (text_of unit ok n)) (in_acts (block_at unit.blocks n).body) h.0 h.1 (acts_told (text_of unit ok n) _ (body_may unit ok n l)) m h.2
      go (inr l) =
          let none : length (in_acts (block_at unit.blocks n).body) ≡ 0 = ap (λ b. length (in_acts b.body)) (block_past unit.blocks n l) in
          absurd (omega (arith, h.1, none))

  -- a block that is called by its name is one of the program
  pub called_there : (n levels d : ℕ) → Mentions unit n (mention.Calls (callee.Block levels d)) → d < length unit.blocks
  called_there n levels d h = (told n (mention.Calls (callee.Block levels d)) h).1.1.1

  abbrev IsVariable : Variable → Type 0
  IsVariable v = IsTrue (is_variable (slice_get (slots (block_at unit.blocks v.home)) v.number))

  some_same : (v x : Variable) → Some v ≡ Some x → v ≡ x
  some_same v x e = cc

  written_variable : (n : ℕ) (m : Mention) (v : Variable) → Mentions unit n m → written unit.blocks n m ≡ Some v → IsVariable v
  written_variable n (mention.Reads levels k) v h e = absurd (cc)
  written_variable n (mention.Assigns levels k) v h e = subst IsVariable (some_same (variable_at unit.blocks n levels k) v e) (told n (mention.Assigns levels k) h).1
  written_variable n (mention.Lends levels k) v h e = subst IsVariable (some_same (variable_at unit.blocks n levels k) v e) (told n (mention.Lends levels k) h).1
  written_variable n (mention.Calls c) v h e = absurd (cc)
  written_variable n (mention.Passes c) v h e = absurd (cc)

  pub writes_variable : (b : ℕ) (v : Variable) → Writes unit b v → IsVariable v
  writes_variable b v (outside h e) = written_variable h.block h.mention v h.stands h.is
  writes_variable b v (through x h var target) =
      subst (λ n. IsTrue (is_variable (slice_get (slots (block_at unit.blocks n)) v.number))) target.is (told target.block (mention.Lends target.levels v.number) target.stands).1

-- a variable is no procedure parameter
pub not_both : (o : Option Parameter) → IsTrue (is_variable o) → IsTrue (is_procedure o) → ⊥
not_both None h k = absurd (cc)
not_both (Some (slot.Value t)) h k = absurd (cc)
not_both (Some (slot.Var t)) h k = absurd (cc)
not_both (Some (slot.Formal r)) h k = absurd (cc)
