-- Procedures, modules and their members keep what holds of an environment, and each block that ends has told its need.
use Rattle.std.proofs.Common.{◌≡◌, ◌≢◌, ℕ, suc, ◌<◌, ◌≤◌, Bool, true, false, ◌||◌, ◌==◌, List, [], ◌∷◌, length, get_or, All, refl, sym, ap, ◌∙◌, subst, arith}
use Rattle.std.proofs.lemmas.Bool.{false≢true, eqb-true}
use Rattle.edi_scope.specs.Scope.{Scope, outside}
use Rattle.edi_tree.specs.declared.names.Name.{Name}
use Rattle.edi_unit.specs.Tree.{Acts}
use Rattle.edi_unit.specs.Fits.{ActsFit, greatest_levels}
use Rattle.edi_static.specs.Environment.{Begun, Environment, here}
use Rattle.edi_static.specs.Statements.{After, close_block}
use Rattle.edi_static.specs.Declarations.{all_completed}
use Rattle.edi_static.proofs.Judging.{Gives, weaker}
use Rattle.edi_static.proofs.Fitness.{headings_of, is_round, Sits}
use Rattle.edi_static.proofs.FitnessLater.{Later, later_then}
use Rattle.edi_static.proofs.FitnessOnward.{Closed, AllBegun, Tidy, is_open, is_begun, closed_later, Onward}
use Rattle.edi_static.proofs.FitnessVariables.{Ready}
use Rattle.edi_static.proofs.FitnessChanges.{placed_sits}
use Rattle.edi_static.proofs.FitnessBlocks.{Closes, block_closes}
use Rattle.edi_static.proofs.FitnessStatements.{steps_onward, Does, scopes_wider, stands_here}
use Rattle.edi_static.proofs.FitnessBeginnings.{Entered}

-- ---- inside a procedure

-- a place with an open scope of this procedure
abbrev pub inside_of : Environment → Scope → ℕ → Environment
inside_of outer scope n = record outer { scopes = scope ∷ outer.scopes; around = n ∷ outer.around; begun = [] }

module _ (n : ℕ) (export : Bool) (name : Name) (env next : Environment) (r : Ready env) (e : Entered n export name env next) where
  abbrev inner : Environment
  inner = inside_of e.outer e.scope n

  outer_around : 0 < length e.outer.around
  outer_around = subst (λ a. 0 < length a) (sym e.around) r.inside

  pub inner_sits : suc (length env.around) ≤ greatest_levels → Sits (inside_of e.outer e.scope n)
  inner_sits near =
      let outer : Environment = e.outer in
      let t = e.sits in
      placed_sits (e.scope ∷ outer.scopes) (n ∷ outer.around) [] outer t
      (record {
        chain = stands_here outer.blocks n outer.around outer_around (e.inside ∙ ap (λ a. get_or a 0 0) (sym e.around)) e.there t.nested.chain;
        near = subst (λ a. suc (length a) ≤ greatest_levels) (sym e.around) near;
      })
      (e.names, scopes_wider outer.types outer.blocks outer.headings outer.shapes n outer.around outer.scopes t.names)

  pub inner_ready : Ready (inside_of e.outer e.scope n)
  inner_ready = record { inside = omega arith; called = e.called; scoped = omega arith }

pub no_begun : (P : Begun → Type 0) → All P []
no_begun P k d h = absurd (omega (arith, h))

pub completed : (begun : List Begun) → Gives (λ u. begun ≡ []) (all_completed begun)
completed [] = refl
completed (b ∷ bs) = tt

-- ---- a procedure as a whole

-- after a procedure whose block is n, where these procedures are still begun
pub record Ends (n : ℕ) (inner after : Environment) : Type 0 where
  pub sits : Sits after
  pub later : Later inner after
  pub outermost : outside after.scopes ≡ outside inner.scopes
  pub tidy : (further : ℕ → Bool) → Tidy (is_open further inner) inner → (m : ℕ) → m < length after.blocks → m ≢ n
      → is_open further (record inner { begun = [] }) m ≡ false → Closed after.types after.blocks m
  pub closed : Closed after.types after.blocks n

-- three tests that fail
pub apart : (f r b : Bool) → (f || (r || b)) ≡ false → (f ≡ false) × (r ≡ false) × (b ≡ false)
apart true r b e = absurd (false≢true (sym e))
apart false true b e = absurd (false≢true (sym e))
apart false false true e = absurd (false≢true (sym e))
apart false false false e = (refl, refl, refl)

pub together : (f r b : Bool) → f ≡ false → r ≡ false → b ≡ false → (f || (r || b)) ≡ false
together f r b i j k = ap (λ x. x || (r || b)) i ∙ ap (λ x. x || b) j ∙ k

pub differs : (m n : ℕ) → m ≢ n → (m == n) ≡ false
differs m n h = stated (m == n) refl
  where
    stated : (b : Bool) → (m == n) ≡ b → b ≡ false
    stated true e = absurd (h (eqb-true m n e))
    stated false e = refl

-- the statements and the end of a procedure
pub ends : (n line : ℕ) (inner now : Environment) (done : After Acts) → (around : List ℕ) → inner.around ≡ n ∷ around → Onward false inner now → Sits inner
    → AllBegun inner → now.begun ≡ [] → n < length inner.blocks → Does ActsFit now done →
    Gives (Ends n inner) (close_block n done.what line done.env)
ends n line inner now done around is o s all none there d =
    let st = d.steps in
    let p : Onward false now done.env = steps_onward false now done.env o.sits st in
    let l = o.later in
    let m = p.later in
    let longer = l.longer in
    let wider = m.longer in
    let at : here now ≡ n = ap (λ a. get_or a 0 0) (o.around ∙ is) in
    weaker (Closes n done.env) (Ends n inner) (close_block n done.what line done.env)
    (λ after k.
    let c = k.changes in
    record {
      sits = c.sits;
      later = later_then inner now after l (later_then now done.env after m c.later);
      outermost = ap outside c.scopes ∙ p.outer refl ∙ o.outer refl;
      tidy = λ further t x h other shut.
          let many = c.many in
          let before : x < length done.env.blocks = omega (arith, h, many) in
          let q = apart (further x) (is_round x inner.around) false shut in
          closed_later done.env after p.sits c.later x before (c.others x other)
          (p.tidy (o.begun all) further (o.tidy all further t) x before
          (together (further x) (is_round x done.env.around) (is_begun x done.env.begun) q.0
          (ap (λ a. is_round x a) (p.around ∙ o.around) ∙ q.1)
          (ap (λ b. is_begun x b) (st.begun ∙ none))));
      closed = k.closed;
    })
    (block_closes n done.what line done.env p.sits (omega (arith, there, longer, wider))
    (subst (λ b. ActsFit done.env.types done.env.blocks (headings_of done.env.headings) b done.what) at d.fits))
