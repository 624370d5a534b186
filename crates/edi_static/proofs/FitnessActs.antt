-- Statements and whole blocks go on to fit, with the same height and need.
use Rattle.std.proofs.Common.{◌≡◌, ℕ, suc, ◌+◌, max, get_or, length-append, List, [], ◌∷◌, ◌++◌, length, All, Some, None, refl, sym, ◌∙◌, subst, arith}
use Rattle.std.specs.Prelude.{sum_by}
use Rattle.std.proofs.lemmas.List.Sums.{sum_by-cons}
use Rattle.edi_unit.specs.declared.units.Parameter.{Parameter}
use Rattle.edi_unit.specs.declared.units.Parameter.TheVariants as slot
use Rattle.edi_unit.specs.Types.{Shape}
use Rattle.edi_unit.specs.Tree.{Act, skip, assign, call, halt, if_act, while_act, when_act, cobegin, Acts, no_act, act_then, Clause, clause, Clauses}
use Rattle.edi_unit.specs.Tree.{no_clause, clause_then, Block}
use Rattle.edi_unit.specs.Need.{slot_words, act_height, acts_height, clause_height, clauses_height}
use Rattle.edi_unit.specs.Fits.{callee_heading, BranchFits, ActFits, ActsFit, ArgumentsFit, ClauseFits, ClausesFit, SlotIsKnown}
use Rattle.edi_unit.specs.Headings.{Heading, heading_formals}
use Rattle.edi_static.specs.Statements.{acts_append}
use Rattle.edi_static.proofs.FitnessGrowth.{Steady, expression_same, place_same, arguments_same, callee_fits, result_same, heading_same, size_same, two}

module _ (types more : List Shape) (blocks later : List Block) (headings next : ℕ → ℕ → Heading) (b : ℕ) (g : Steady types more blocks later headings next b)
  where
    -- a construct of this kind has the height that it had, and fits
    pub record Same {A : Type 0} (height_of : List Shape → List Block → ℕ → A → ℕ)
        (Fits : List Shape → List Block → (ℕ → ℕ → Heading) → ℕ → A → Type 0) (x : A) : Type 0 where
      pub height : height_of (types ++ more) later b x ≡ height_of types blocks b x
      pub fits : Fits (types ++ more) later next b x

    branch_same : (n : ℕ) → BranchFits types blocks headings b n → BranchFits (types ++ more) later next b n
    branch_same n h =
        let grows = g.each n h.0 in
        let longer = g.longer in
        (omega (arith, h.0, longer), grows.kind ∙ h.1, grows.up ∙ h.2)

    mutual
      act_same : (a : Act) → ActFits types blocks headings b a → Same act_height ActFits a
      act_same skip h = record { height = refl; fits = tt }
      act_same (assign p e) h =
          let q = place_same types more blocks later headings next b g p h.1 in
          let s = expression_same types more blocks later headings next b g e h.2 in
          record { height = two (λ m n. max m (1 + n)) q.height s.height; fits = (q.of ∙ h.0 ∙ sym s.of, q.fits, s.fits) }
      act_same (call c xs line) h =
          let s = arguments_same types more blocks later headings next b g xs (heading_formals (callee_heading headings blocks b c)) h.2 in
          record {
            height = s.height 0;
            fits = (
              callee_fits types more blocks later headings next b g c h.0,
              result_same types more blocks later headings next b g c h.0 ∙ h.1,
              subst (λ x. ArgumentsFit (types ++ more) later next b xs (heading_formals x)) (sym (heading_same types more blocks later headings next b g c h.0))
                  s.fits,
            );
          }
      act_same (halt line) h = record { height = refl; fits = tt }
      act_same (if_act cs) h = let s = clauses_same cs h in record { height = s.height; fits = s.fits }
      act_same (while_act cs) h = let s = clauses_same cs h in record { height = s.height; fits = s.fits }
      act_same (when_act cs line) h = let s = clauses_same cs h in record { height = s.height; fits = s.fits }
      act_same (cobegin bs line) h = record { height = refl; fits = (h.0, h.1, λ k d i. branch_same _ (h.2 k d i)) }

      pub acts_same : (s : Acts) → ActsFit types blocks headings b s → Same acts_height ActsFit s
      acts_same no_act h = record { height = refl; fits = tt }
      acts_same (act_then a s) h =
          record { height = two max (act_same a h.0).height (acts_same s h.1).height; fits = ((act_same a h.0).fits, (acts_same s h.1).fits) }

      clause_same : (c : Clause) → ClauseFits types blocks headings b c → Same clause_height ClauseFits c
      clause_same (clause e s) h =
          let x = expression_same types more blocks later headings next b g e h.1 in
          let ss = acts_same s h.2 in
          record { height = two max x.height ss.height; fits = (x.of ∙ h.0, x.fits, ss.fits) }

      pub clauses_same : (cs : Clauses) → ClausesFit types blocks headings b cs → Same clauses_height ClausesFit cs
      clauses_same no_clause h = record { height = refl; fits = tt }
      clauses_same (clause_then c cs) h =
          record { height = two max (clause_same c h.0).height (clauses_same cs h.1).height; fits = ((clause_same c h.0).fits, (clauses_same cs h.1).fits) }

    slot_same : (p : Parameter) → SlotIsKnown types p → slot_words (types ++ more) p ≡ slot_words types p
    slot_same (slot.Value t) h = size_same types more blocks later headings next b g t t refl h
    slot_same (slot.Var t) h = refl
    slot_same (slot.Formal r) h = refl

    pub words_same : (ps : List Parameter) → All (SlotIsKnown types) ps → sum_by (slot_words (types ++ more)) ps ≡ sum_by (slot_words types) ps
    words_same [] h = refl
    words_same (p ∷ ps) h =
        sum_by-cons (slot_words (types ++ more)) p ps
        ∙ two (λ m n. m + n) (slot_same p (h 0 p (omega arith))) (words_same ps (λ k d i. h (suc k) d (omega arith)))
        ∙ sym (sum_by-cons (slot_words types) p ps)

    pub branch_stays : (n : ℕ) → BranchFits types blocks headings b n → BranchFits (types ++ more) later next b n
    branch_stays n h = branch_same n h

-- the types of the variables stay known
pub slots_known : (types more : List Shape) (ps : List Parameter) → All (SlotIsKnown types) ps → All (SlotIsKnown (types ++ more)) ps
slots_known types more ps h = λ k d i. longer (get_or ps k d) (h k d i)
  where
    longer : (p : Parameter) → SlotIsKnown types p → SlotIsKnown (types ++ more) p
    longer (slot.Value t) k = omega (arith, k, length-append types more)
    longer (slot.Var t) k = omega (arith, k, length-append types more)
    longer (slot.Formal None) k = tt
    longer (slot.Formal (Some t)) k = omega (arith, k, length-append types more)

-- statements behind others
pub appended_fit : (types : List Shape) (blocks : List Block) (headings : ℕ → ℕ → Heading) (b : ℕ) (s more : Acts) → ActsFit types blocks headings b s
    → ActsFit types blocks headings b more → ActsFit types blocks headings b (acts_append s more)
appended_fit types blocks headings b no_act more h k = k
appended_fit types blocks headings b (act_then a s) more h k = (h.0, appended_fit types blocks headings b s more h.1 k)
