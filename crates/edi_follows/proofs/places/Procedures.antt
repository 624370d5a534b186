-- A procedure is passed: a block by its name, or what a procedure parameter means.
use Rattle.std.proofs.Common.{◌≡◌, ℕ, ◌+◌, ◌≤◌, false, List, [], ◌∷◌, length, Some, refl, sym, subst, ap, ◌∙◌, arith}
use Rattle.edi_store.specs.Memory.{words_at}
use Rattle.edi_unit.specs.declared.expressions.Callee.{Callee}
use Rattle.edi_unit.specs.declared.expressions.Callee.TheVariants as callee
use Rattle.edi_unit.specs.Tree as tree
use Rattle.edi_unit.specs.Tree.{Arguments, Acts}
use Rattle.edi_unit.specs.Fits.{callee_heading, CalleeFits}
use Rattle.edi_unit.specs.Headings.{Heading, no_formal, value_then, variable_then, procedure_then}
use Rattle.edi_meaning.specs.Store.{Spot, Closure, system_procedure, block_procedure, Cell, procedure, Shape, shape, reached, now, cell}
use Rattle.edi_meaning.specs.Evaluation.{World, Evaluation, gives}
use Rattle.edi_meaning.specs.Whole.{meant}
use Rattle.edi_target.specs.Op as op
use Rattle.edi_target.specs.Memory.{word}
use Rattle.edi_target.specs.Effect as effects
use Rattle.edi_target.specs.Effect.{push}
use Rattle.edi_scheme.specs.Code.{slot_offset, procedure_code}
use Rattle.edi_scheme.specs.Stands as code
use Rattle.edi_follows.specs.places.Coded.{Coded, entry, words_in}
use Rattle.edi_follows.specs.places.Spots.{frames_end, slot_address, closure_words, cell_words, IsMeantBy}
use Rattle.edi_follows.specs.places.Scene.{Scene, here, base_of, Stands, Does, local_at}
use Rattle.edi_follows.specs.places.Constructs.{Xs}
use Rattle.edi_follows.specs.places.Instructions.{effect, Reaches}
use Rattle.edi_follows.proofs.places.Doing.{stands_after}
use Rattle.edi_follows.proofs.places.Effects.{word_is}
use Rattle.edi_follows.proofs.places.Steps.{pushes_then, pops_pushes}
use Rattle.edi_follows.proofs.places.Slots.{HasProcedure}
use Rattle.edi_follows.proofs.places.Variables.{levels_reach, address_is, loads_cell, proc_is}
use Rattle.edi_follows.proofs.places.Formals.{answers_nearer, far, reaches, far_slot, far_below, far_holds, means, stands_at}
use Rattle.edi_follows.proofs.places.Arguments.{Handed, then_does}
use Rattle.edi_follows.proofs.places.Passing.{IsFormal}

module _ (g : Coded) (s : Scene) where
  closure_long : (F : Shape) (c : Closure) → length (closure_words g s.first F c) ≡ 3
  closure_long F (system_procedure number) = refl
  closure_long F (block_procedure number parent) = refl

  module _ (F : Shape) (w : World) (m : List ℕ) (h : Stands g s F w m) (heading : Heading) (pc a t held : ℕ) (low : base_of g s F ≤ t)
      (high : t + 3 ≤ frames_end s.first F s.name) where
    abbrev Post : Cell → List ℕ → ℕ → ℕ → Type 0
    Post = Handed g s F a t 3 (IsFormal g s F heading)

    -- the three words of a procedure that may be passed on
    handed : (c meant_here : Closure) (m' : List ℕ) → meant_here ≡ c → IsMeantBy g F (now F s.name) heading c →
        words_at m' t (length (closure_words g s.first F c)) ≡ closure_words g s.first F c →
        Post (procedure meant_here) m' a (t + length (closure_words g s.first F c))
    handed c meant_here m' is answers words =
        let long : length (closure_words g s.first F c) ≡ 3 = closure_long F c in
        record {
          pc_is = refl;
          top_is = ap (λ n. t + n) long;
          long = closure_long F meant_here;
          words = ap (words_at m' t) (sym long) ∙ words ∙ ap (closure_words g s.first F) (sym is);
          good = subst (λ x. IsMeantBy g F (now F s.name) heading x) (sym is) answers;
        }

    -- a block by its name
    module _ (levels n : ℕ) (fits : CalleeFits g.unit.blocks (here g s F) (callee.Block levels n))
        (same : callee_heading g.fits.headings g.unit.blocks (here g s F) (callee.Block levels n) ≡ heading) where
      there : Reaches g s F levels (reached F levels (now F s.name))
      there = levels_reach g s F w m levels h

      named : meant g.unit s.name (s.size s.name) (callee.Block levels n) w ≡ block_procedure n (reached F levels (now F s.name))
      named = let seen : shape w.store ≡ F = λ i y. h.shaped.each y i in λ i. block_procedure n (reached (seen i) levels (now (seen i) s.name))

      block_handed : g.fetched pc ≡ Some (op.proc levels (entry g n), a) →
          Does g s F pc t t held w m Post (gives (procedure (meant g.unit s.name (s.size s.name) (callee.Block levels n) w)) w)
      block_handed at =
          pops_pushes g s Cell Post (procedure (meant g.unit s.name (s.size s.name) (callee.Block levels n) w)) F (op.proc levels (entry g n)) pc a t t held w m
          (closure_words g s.first F (block_procedure n (reached F levels (now F s.name)))) h at (proc_is g s F w m levels n a pc t held h) low high
          (λ m' words. handed (block_procedure n (reached F levels (now F s.name))) (meant g.unit s.name (s.size s.name) (callee.Block levels n) w) m' named
          (fits.1, fits.2, same, there.lives, there.older, there.block_is ∙ fits.3) words)

    -- what a procedure parameter means
    module _ (levels v : ℕ) (fits : CalleeFits g.unit.blocks (here g s F) (callee.Formal levels v))
        (same : callee_heading g.fits.headings g.unit.blocks (here g s F) (callee.Formal levels v) ≡ heading) where
      abbrev spot : Spot
      spot = far g s F w m h levels v fits

      abbrev o : ℕ
      o = slot_offset g.unit.types g.unit.blocks (entry g) (here g s F) levels v

      abbrev found : HasProcedure g F spot (callee_heading g.fits.headings g.unit.blocks (here g s F) (callee.Formal levels v)) (cell w.store spot v)
      found = far_holds g s F w m h levels v fits

      answers : IsMeantBy g F (now F s.name) heading found.of
      answers =
          subst (λ y. IsMeantBy g F (now F s.name) y found.of) same
          (answers_nearer g F spot (now F s.name) (callee_heading g.fits.headings g.unit.blocks (here g s F) (callee.Formal levels v)) found.of
          (reaches g s F w m h levels v fits).older found.answers)

      loads : (m' : List ℕ) (next : ℕ) → Stands g s F w m' → word m' t ≡ slot_address g s.first F spot v →
          effect g s (op.load 3) a (local_at s F m' next (t + 1) held) ≡ push (closure_words g s.first F found.of) (local_at s F m' next t held) (effects.to a)
      loads m' next stood is =
          (λ i. effect g s (op.load (words_in g (sym (far_slot g s F w m h levels v fits) i))) a (local_at s F m' next (t + 1) held))
          ∙ loads_cell g s F w m' spot v a next t (t + 1) held stood (reaches g s F w m h levels v fits).lives (far_below g s F w m h levels v fits) low refl is
          ∙ ap (λ c. push (cell_words g s.first F c) (local_at s F m' next t held) (effects.to a)) found.is

      formal_handed : (next : ℕ) → g.fetched pc ≡ Some (op.address levels o, next) → g.fetched next ≡ Some (op.load 3, a) →
          Does g s F pc t t held w m Post (gives (procedure (meant g.unit s.name (s.size s.name) (callee.Formal levels v) w)) w)
      formal_handed next at then_at =
          pushes_then g s Cell Post (gives (procedure (meant g.unit s.name (s.size s.name) (callee.Formal levels v) w)) w) F (op.address levels o) pc
          next t t t held w m
          (slot_address g s.first F spot v ∷ []) h at
          (address_is g s F w m levels v o next pc t held h (far_below g s F w m h levels v fits) (stands_at g s F w m h levels v fits)) (omega arith)
          low (omega (arith, high)) (λ m' after words.
          let stood : Stands g s F w m' = stands_after g s F w w m m' t false h after in
          pops_pushes g s Cell Post (procedure (meant g.unit s.name (s.size s.name) (callee.Formal levels v) w)) F (op.load 3) next a (t + 1) t held w m'
          (closure_words g s.first F found.of) stood then_at (loads m' next stood (word_is m' [] _ t 1 words)) low
          (omega (arith, high, closure_long F found.of))
          (λ m'' words. handed found.of (meant g.unit s.name (s.size s.name) (callee.Formal levels v) w) m'' (means g s F w m h levels v fits) answers words))

    procedure_handed : (c : Callee) → CalleeFits g.unit.blocks (here g s F) c → callee_heading g.fits.headings g.unit.blocks (here g s F) c ≡ heading →
        code.AreInstructions g.fetched (procedure_code g.unit.types g.unit.blocks (entry g) (here g s F) c) pc a →
        Does g s F pc t t held w m Post (gives (procedure (meant g.unit s.name (s.size s.name) c w)) w)
    procedure_handed (callee.Block levels n) fits same at = block_handed levels n fits same at
    procedure_handed (callee.Formal levels v) fits same at = formal_handed levels v fits same at.0 at.1 at.2

  module _ (deeper : Acts → World → Evaluation (Unit {0})) (bound : ℕ) where
    pub procedure_does : (c : Callee) (xs : Arguments) → Xs g s deeper bound xs → Xs g s deeper bound (tree.argument_then (tree.by_procedure c) xs)
    procedure_does c xs rest no_formal F pc to t held w m turns st fits able = absurd fits
    procedure_does c xs rest (value_then u fs) F pc to t held w m turns st fits able = absurd fits
    procedure_does c xs rest (variable_then u fs) F pc to t held w m turns st fits able = absurd fits
    procedure_does c xs rest (procedure_then h fs) F pc to t held w m turns st fits able =
        then_does g s deeper bound (tree.by_procedure c) xs rest (procedure_then h fs) fs F pc st.0 to t held w m (IsFormal g s F h) turns st.2 fits.2 able
        (λ x cs good others. (good, others))
        (procedure_handed F w m able.stands h pc st.0 t held able.low (omega (arith, able.high)) c fits.1 fits.0 st.1)
