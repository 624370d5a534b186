-- What stands in the statements of a block of a unit that fits, as it is used by a walk.
use Rattle.std.proofs.Common.{◌≡◌, ℕ, suc, ◌<◌, List, [], ◌∷◌, ◌++◌, length, refl, sym, subst, arith}
use Rattle.std.specs.Prelude.{All, Contains, IsTrue, slice_index_or}
use Rattle.edi_unit.specs.Need.{block_at, slot_at}
use Rattle.edi_unit.specs.Fits.{Fits, is_variable, CalleeFits, ArgumentsFit, callee_heading, ExpressionFits, ExpressionsFit, LinksFit}
use Rattle.edi_unit.specs.Headings.{heading_formals, Formals}
use Rattle.edi_unit.specs.Fits as fits
use Rattle.edi_unit.specs.Headings as headings
use Rattle.edi_unit.specs.Tree as tree
use Rattle.edi_unit.specs.Tree.{Expression, Expressions, Links, Parts, Arguments, Act, Acts, Clause, Clauses, ProgramUnit}
use Rattle.edi_meaning.proofs.Lasting.{Every}
use Rattle.edi_disjoint.specs.declared.mentions.Mention.{Mention}
use Rattle.edi_disjoint.specs.declared.mentions.Mention.TheVariants as mention
use Rattle.edi_disjoint.specs.Mentions.{in_expression, in_expressions, in_links, in_parts, in_arguments, in_act, in_acts}
use Rattle.edi_disjoint.specs.Mentions.{in_clause, in_clauses}
use Rattle.edi_disjoint.specs.Footprints.{Mentions}
use Rattle.edi_disjoint.specs.Open.{open_act, open_acts, open_clause, open_clauses, OpenMentions}
use Rattle.edi_disjoint.specs.Leaves.{Way, reads, assigns, lends, Leaves, ExpressionMay, ExpressionsMay, LinksMay, PartsMay}
use Rattle.edi_disjoint.proofs.Opened.{block_opened}
use Rattle.edi_disjoint.specs.Leaves.{ArgumentsMay, ActMay, ActsMay, ClauseMay, ClausesMay}

abbrev pub mention_of : Way → (levels variable : ℕ) → Mention
mention_of reads levels variable = mention.Reads levels variable
mention_of assigns levels variable = mention.Assigns levels variable
mention_of lends levels variable = mention.Lends levels variable

-- both halves of a list
pub every-left : {A : Type 0} (P : A → Type 0) (xs ys : List A) → Every P (xs ++ ys) → Every P xs
every-left P [] ys h = tt
every-left P (x ∷ xs) ys h = (h.0, every-left P xs ys h.1)

pub every-right : {A : Type 0} (P : A → Type 0) (xs ys : List A) → Every P (xs ++ ys) → Every P ys
every-right P [] ys h = h
every-right P (x ∷ xs) ys h = every-right P xs ys h.1

-- each element of a list is one of it
every_one : {A : Type 0} (xs : List A) (P : A → Type 0) → ((k : ℕ) → k < length xs → (x : A) → slice_index_or xs k x ≡ x → P x) → Every P xs
every_one [] P h = tt
every_one (x ∷ xs) P h = (h 0 (omega arith) x refl, every_one xs P (λ k l y e. h (suc k) (omega arith) y e))

contained : (xs : List Mention) (k : ℕ) → k < length xs → (x : Mention) → slice_index_or xs k x ≡ x → Contains xs x
contained xs k l x e = (k, l, e)

module _ (unit : ProgramUnit) (ok : Fits unit) where
  -- a text of block n in which these mentions stand
  abbrev pub text_with : ℕ → (Mention → Type 0) → Leaves
  text_with n There = record {
    Names = λ way levels variable. There (mention_of way levels variable) × IsTrue (is_variable (slot_at unit.blocks n levels variable));
    Calls = λ c es. There (mention.Calls c) × CalleeFits unit.blocks n c
        × ArgumentsFit unit.types unit.blocks ok.headings n es (heading_formals (callee_heading ok.headings unit.blocks n c));
    Passes = λ c. There (mention.Passes c) × CalleeFits unit.blocks n c;
    Forks = λ bs. All (fits.BranchFits unit.types unit.blocks ok.headings n) bs;
  }

  -- the text of block n, and what stands of it outside critical phases
  abbrev pub text_of : ℕ → Leaves
  text_of n = text_with n (Mentions unit n)

  abbrev pub open_text : ℕ → Leaves
  open_text n = text_with n (OpenMentions unit n)

  module _ (n : ℕ) (There : Mention → Type 0) where
    abbrev split : (xs ys : List Mention) → Every There (xs ++ ys) → Every There xs × Every There ys
    split xs ys h = (every-left There xs ys h, every-right There xs ys h)

    mutual
      expression_may : (e : Expression) → Every There (in_expression e) → ExpressionFits unit.types unit.blocks ok.headings n e → ExpressionMay (text_with n There) e
      expression_may (tree.constant of i) h f = tt
      expression_may (tree.load (tree.place levels v ps)) h f = ((h.0, f.1), parts_may _ ps h.1 f.2)
      expression_may (tree.not_of e) h f = expression_may e h f.1
      expression_may (tree.sign_of e line) h f = expression_may e h f.1
      expression_may (tree.chain e ls) h f =
          let both : Every There (in_expression e) × Every There (in_links ls) = split (in_expression e) (in_links ls) h in
          (expression_may e both.0 f.1, links_may _ ls both.1 f.2)
      expression_may (tree.make of es line) h f = expressions_may es h f.2
      expression_may (tree.convert of e line) h f = expression_may e h f.3
      expression_may (tree.apply_of c xs line) h f = ((h.0, f.0, f.2), arguments_may xs _ h.1 f.2)

      expressions_may : (es : Expressions) → Every There (in_expressions es) → ExpressionsFit unit.types unit.blocks ok.headings n es → ExpressionsMay (text_with n There) es
      expressions_may tree.no_expression h f = tt
      expressions_may (tree.expression_then e es) h f =
          let both : Every There (in_expression e) × Every There (in_expressions es) = split (in_expression e) (in_expressions es) h in
          (expression_may e both.0 f.0, expressions_may es both.1 f.1)

      links_may : (t : ℕ) (ls : Links) → Every There (in_links ls) → LinksFit unit.types unit.blocks ok.headings n t ls → LinksMay (text_with n There) ls
      links_may t tree.no_link h f = tt
      links_may t (tree.link_then (tree.link o e line) ls) h f =
          let both : Every There (in_expression e) × Every There (in_links ls) = split (in_expression e) (in_links ls) h in
          (expression_may e both.0 f.1, links_may _ ls both.1 f.2)

      parts_may : (t : ℕ) (ps : Parts) → Every There (in_parts ps) → fits.PartsFit unit.types unit.blocks ok.headings n t ps → PartsMay (text_with n There) ps
      parts_may t tree.no_part h f = tt
      parts_may t (tree.part_then (tree.field i) qs) h f = (tt, parts_may _ qs h f.1)
      parts_may t (tree.part_then (tree.index e line) qs) h f =
          let both : Every There (in_expression e) × Every There (in_parts qs) = split (in_expression e) (in_parts qs) h in
          (expression_may e both.0 f.0.1, parts_may _ qs both.1 f.1)

      arguments_may : (xs : Arguments) (fs : Formals) → Every There (in_arguments xs) → ArgumentsFit unit.types unit.blocks ok.headings n xs fs
          → ArgumentsMay (text_with n There) xs
      arguments_may tree.no_argument fs h f = tt
      arguments_may (tree.argument_then (tree.by_value e) xs) (headings.value_then t fs) h f =
          let both : Every There (in_expression e) × Every There (in_arguments xs) = split (in_expression e) (in_arguments xs) h in
          (expression_may e both.0 f.1, arguments_may xs fs both.1 f.2)
      arguments_may (tree.argument_then (tree.by_variable (tree.place levels v ps)) xs) (headings.variable_then t fs) h f =
          let both : Every There (in_parts ps) × Every There (in_arguments xs) = split (in_parts ps) (in_arguments xs) h.1 in
          (((h.0, f.1.1), parts_may _ ps both.0 f.1.2), arguments_may xs fs both.1 f.2)
      arguments_may (tree.argument_then (tree.by_procedure c) xs) (headings.procedure_then g fs) h f = ((h.0, f.1), arguments_may xs fs h.1 f.2)
      arguments_may (tree.argument_then (tree.by_value e) xs) headings.no_formal h f = absurd f
      arguments_may (tree.argument_then (tree.by_value e) xs) (headings.variable_then t fs) h f = absurd f
      arguments_may (tree.argument_then (tree.by_value e) xs) (headings.procedure_then g fs) h f = absurd f
      arguments_may (tree.argument_then (tree.by_variable v) xs) headings.no_formal h f = absurd f
      arguments_may (tree.argument_then (tree.by_variable v) xs) (headings.value_then t fs) h f = absurd f
      arguments_may (tree.argument_then (tree.by_variable v) xs) (headings.procedure_then g fs) h f = absurd f
      arguments_may (tree.argument_then (tree.by_procedure c) xs) headings.no_formal h f = absurd f
      arguments_may (tree.argument_then (tree.by_procedure c) xs) (headings.value_then t fs) h f = absurd f
      arguments_may (tree.argument_then (tree.by_procedure c) xs) (headings.variable_then t fs) h f = absurd f

    mutual
      act_may : (a : Act) → Every There (in_act a) → fits.ActFits unit.types unit.blocks ok.headings n a → ActMay (text_with n There) a
      act_may tree.skip h f = tt
      act_may (tree.assign (tree.place levels v ps) e) h f =
          let both : Every There (in_parts ps) × Every There (in_expression e) = split (in_parts ps) (in_expression e) h.1 in
          (((h.0, f.1.1), parts_may _ ps both.0 f.1.2), expression_may e both.1 f.2)
      act_may (tree.call c xs line) h f = ((h.0, f.0, f.2), arguments_may xs _ h.1 f.2)
      act_may (tree.halt line) h f = tt
      act_may (tree.if_act cs) h f = clauses_may cs h f
      act_may (tree.while_act cs) h f = clauses_may cs h f
      act_may (tree.when_act cs line) h f = clauses_may cs h f
      act_may (tree.cobegin bs line) h f = f.2

      acts_may : (as' : Acts) → Every There (in_acts as') → fits.ActsFit unit.types unit.blocks ok.headings n as' → ActsMay (text_with n There) as'
      acts_may tree.no_act h f = tt
      acts_may (tree.act_then a as') h f =
          let both : Every There (in_act a) × Every There (in_acts as') = split (in_act a) (in_acts as') h in
          (act_may a both.0 f.0, acts_may as' both.1 f.1)

      clause_may : (c : Clause) → Every There (in_clause c) → fits.ClauseFits unit.types unit.blocks ok.headings n c → ClauseMay (text_with n There) c
      clause_may (tree.clause e as') h f =
          let both : Every There (in_expression e) × Every There (in_acts as') = split (in_expression e) (in_acts as') h in
          (expression_may e both.0 f.1, acts_may as' both.1 f.2)

      clauses_may : (cs : Clauses) → Every There (in_clauses cs) → fits.ClausesFit unit.types unit.blocks ok.headings n cs → ClausesMay (text_with n There) cs
      clauses_may tree.no_clause h f = tt
      clauses_may (tree.clause_then c cs) h f =
          let both : Every There (in_clause c) × Every There (in_clauses cs) = split (in_clause c) (in_clauses cs) h in
          (clause_may c both.0 f.0, clauses_may cs both.1 f.1)

  -- all that stands in the block
  pub body_may : (n : ℕ) → n < length unit.blocks → ActsMay (text_of n) (block_at unit.blocks n).body
  body_may n l =
      acts_may n (Mentions unit n) (block_at unit.blocks n).body (every_one (in_acts (block_at unit.blocks n).body) (Mentions unit n)
      (λ k l x e. contained (in_acts (block_at unit.blocks n).body) k l x e))
      (ok.fits_blocks n l).statements

  -- what fits does so without its critical phases
  module _ (n : ℕ) where
    mutual
      act_fits : (a : Act) → fits.ActFits unit.types unit.blocks ok.headings n a → fits.ActFits unit.types unit.blocks ok.headings n (open_act a)
      act_fits tree.skip f = f
      act_fits (tree.assign v e) f = f
      act_fits (tree.call c xs line) f = f
      act_fits (tree.halt line) f = f
      act_fits (tree.if_act cs) f = clauses_fit cs f
      act_fits (tree.while_act cs) f = clauses_fit cs f
      act_fits (tree.when_act cs line) f = tt
      act_fits (tree.cobegin bs line) f = f

      acts_fit : (as' : Acts) → fits.ActsFit unit.types unit.blocks ok.headings n as' → fits.ActsFit unit.types unit.blocks ok.headings n (open_acts as')
      acts_fit tree.no_act f = f
      acts_fit (tree.act_then a as') f = (act_fits a f.0, acts_fit as' f.1)

      clause_fits : (c : Clause) → fits.ClauseFits unit.types unit.blocks ok.headings n c → fits.ClauseFits unit.types unit.blocks ok.headings n (open_clause c)
      clause_fits (tree.clause e as') f = (f.0, f.1, acts_fit as' f.2)

      clauses_fit : (cs : Clauses) → fits.ClausesFit unit.types unit.blocks ok.headings n cs → fits.ClausesFit unit.types unit.blocks ok.headings n (open_clauses cs)
      clauses_fit tree.no_clause f = f
      clauses_fit (tree.clause_then c cs) f = (clause_fits c f.0, clauses_fit cs f.1)

  pub open_body_may : (n : ℕ) → n < length unit.blocks → ActsMay (open_text n) (open_acts (block_at unit.blocks n).body)
  open_body_may n l =
      acts_may n (OpenMentions unit n) (open_acts (block_at unit.blocks n).body)
      (every_one (in_acts (open_acts (block_at unit.blocks n).body)) (OpenMentions unit n)
      (λ k l x e. subst (λ b. Contains (in_acts b.body) x) (sym (block_opened unit.blocks n))
      (contained (in_acts (open_acts (block_at unit.blocks n).body)) k l x e)))
      (acts_fit n (block_at unit.blocks n).body (ok.fits_blocks n l).statements)
