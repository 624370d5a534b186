-- Statements fit in the block in which they stand, and change no block but those of their branches.
use Rattle.std.proofs.Common.{◌≡◌, ℕ, zero, suc, ◌<◌, ◌≤◌, Bool, true, false, not, ◌&&◌, ◌||◌, ◌==◌, nat_lt, List, [], ◌∷◌, length, get_or, All, Option, Some}
use Rattle.std.proofs.Common.{None, is_some, refl, sym, ap, ◌∙◌, subst, arith, inl, inr, length-append}
use Rattle.std.proofs.lemmas.Bool.{false≢true, eqb-true, cases_eq, and_parts}
use Rattle.std.proofs.Math.ListN.{get_or-append}
use Rattle.edi_scope.specs.declared.entity.Entity.{Entity}
use Rattle.edi_scope.specs.declared.entity.Entity.TheVariants as entity
use Rattle.edi_scope.specs.Scope.{Scope, declared, outside}
use Rattle.edi_tree.specs.Tree as text
use Rattle.edi_unit.specs.declared.units.BlockKind.TheVariants as block_kind
use Rattle.edi_unit.specs.Types.{Shape, bool_type}
use Rattle.edi_unit.specs.Tree as unit
use Rattle.edi_unit.specs.Tree.{Act, Acts, Block}
use Rattle.edi_unit.specs.Need.{no_block, block_at}
use Rattle.edi_unit.specs.Fits.{ActFits, ActsFit, ArgumentsFit, ClauseFits, ClausesFit, BranchFits, greatest_levels}
use Rattle.edi_unit.specs.Headings.{Heading, heading_result, heading_formals}
use Rattle.edi_static.specs.declared.faults.StaticKind.TheVariants as kind
use Rattle.edi_static.specs.Environment.{Environment, here, no_heading, begun_block, with_block}
use Rattle.edi_static.specs.Proper.{ScopesFit}
use Rattle.edi_static.proofs.Proper.{scopes_fit}
use Rattle.edi_static.specs.Operators.{Typed}
use Rattle.edi_static.specs.Fitting.{Use, constructs, calls, halts, neither, is_function, takes_so_many}
use Rattle.edi_static.specs.Expressions.{all_arguments, args_count}
use Rattle.edi_static.specs.Statements.{After, called, close_block, enter_branch, leave_branch}
use Rattle.edi_static.specs.Leaves.{OptionalArgsHolds}
use Rattle.edi_static.specs.InRange.{in_range}
use Rattle.edi_static.proofs.Judging.{Gives, bind, ruled}
use Rattle.edi_static.proofs.Fitness.{headings_of, is_round, Names, IsChain, Sits, TypedFits, UseFits}
use Rattle.edi_static.proofs.FitnessCalls.{none_fit}
use Rattle.edi_static.proofs.FitnessExpressions.{arguments_fit}
use Rattle.edi_static.proofs.FitnessLater.{Later, later_same, later_then, acts_later, nested_later, scopes_later}
use Rattle.edi_static.proofs.FitnessOnward.{Onward, Closed, Tidy, is_open, is_begun, BegunFits, begun_later, closed_later}
use Rattle.edi_static.proofs.FitnessVariables.{here_inside}
use Rattle.edi_static.proofs.FitnessChanges.{placed_sits}
use Rattle.edi_static.proofs.FitnessBlocks.{BlockBegins, block_later, block_sits, new_block, Closes, block_closes}

-- ---- from one statement to the next

pub record Steps (env next : Environment) : Type 0 where
  pub sits : Sits next
  pub later : Later env next
  pub around : next.around ≡ env.around
  pub scopes : next.scopes ≡ env.scopes
  pub begun : next.begun ≡ env.begun
  pub old : (n : ℕ) → n < length env.blocks → block_at next.blocks n ≡ block_at env.blocks n
  pub new : (n : ℕ) → n < length next.blocks → length env.blocks ≤ n → Closed next.types next.blocks n

pub steps_same : (env : Environment) → Sits env → Steps env env
steps_same env s = record {
  sits = s;
  later = later_same env;
  around = refl;
  scopes = refl;
  begun = refl;
  old = λ n h. refl;
  new = λ n h k. absurd (omega (arith, h, k));
}

steps_then : (a b c : Environment) → Steps a b → Steps b c → Steps a c
steps_then a b c g h = record {
  sits = h.sits;
  later = later_then a b c g.later h.later;
  around = h.around ∙ g.around;
  scopes = h.scopes ∙ g.scopes;
  begun = h.begun ∙ g.begun;
  old = λ n i.
      let l = g.later in
      let longer = l.longer in
      h.old n (omega (arith, i, longer)) ∙ g.old n i;
  new = λ n i k. stated n i k (nat_lt n (length b.blocks)) refl;
}
  where
    stated : (n : ℕ) → n < length c.blocks → length a.blocks ≤ n → (before : Bool) → nat_lt n (length b.blocks) ≡ before → Closed c.types c.blocks n
    stated n i k true e = let inside : n < length b.blocks = grind (arith, e) in closed_later b c g.sits h.later n inside (h.old n inside) (g.new n inside k)
    stated n i k false e = h.new n i (grind (arith, e))

pub here_same : (env next : Environment) → next.around ≡ env.around → here next ≡ here env
here_same env next e = ap (λ a. get_or a 0 0) e

-- statements are no declarations
pub steps_onward : (m : Bool) (env next : Environment) → Sits env → Steps env next → Onward m env next
steps_onward m env next s g = record {
  sits = g.sits;
  later = g.later;
  around = g.around;
  outer = λ e. ap (λ ss. outside ss) g.scopes;
  farther = ap (λ ss. outside (outside ss)) g.scopes;
  kept = λ x e k. ap (λ ss. declared ss x) g.scopes ∙ k;
  kept_outside = λ x e k. ap (λ ss. declared (outside ss) x) g.scopes ∙ k;
  begun = λ k. subst (All (BegunFits next.scopes next.blocks (here next))) (sym g.begun)
      (begun_later env next g.later g.around (λ x e i. ap (λ ss. declared ss x) g.scopes ∙ i) env.begun k);
  tidy = λ b further k n h o. stated further k n h o (nat_lt n (length env.blocks)) refl;
  scopes = ap length g.scopes;
}
  where
    stated : (further : ℕ → Bool) → Tidy (is_open further env) env → (n : ℕ) → n < length next.blocks → is_open further next n ≡ false → (before : Bool)
        → nat_lt n (length env.blocks) ≡ before → Closed next.types next.blocks n
    stated further k n h o true e =
        let inside : n < length env.blocks = grind (arith, e) in
        closed_later env next s g.later n inside (g.old n inside)
        (k n inside (ap (λ a. further n || (is_round n a || is_begun n env.begun)) (sym g.around)
        ∙ ap (λ b. further n || (is_round n next.around || is_begun n b)) (sym g.begun) ∙ o))
    stated further k n h o false e = g.new n h (grind (arith, e))

-- ---- what statements become

-- a construct of this kind fits in the block where it stands
pub record Does {A : Type 0} (Fits : List Shape → List Block → (ℕ → ℕ → Heading) → ℕ → A → Type 0) (env : Environment) (after : After A) : Type 0 where
  pub steps : Steps env after.env
  pub fits : Fits after.env.types after.env.blocks (headings_of after.env.headings) (here env) after.what

module _ (env : Environment) (at : here env < length env.blocks) where
  -- what fits after the first statement fits after the next
  lifted : (one next : Environment) → Steps env one → Steps one next → (s : Acts) → ActsFit one.types one.blocks (headings_of one.headings) (here env) s →
      ActsFit next.types next.blocks (headings_of next.headings) (here env) s
  lifted one next g h s fits =
      let l = g.later in
      let longer = l.longer in
      acts_later one next g.sits h.later (here env) (omega (arith, at, longer)) s fits

  pub sequel : (one : After Act) (others : After Acts) → Does ActFits env one → Does ActsFit one.env others
      → Does ActsFit env (record { what = unit.act_then one.what others.what; env = others.env })
  sequel one others h k = record {
    steps = steps_then env one.env others.env h.steps k.steps;
    fits = (
      (lifted one.env others.env h.steps k.steps (unit.act_then one.what unit.no_act) (h.fits, tt)).0,
      subst (λ b. ActsFit others.env.types others.env.blocks (headings_of others.env.headings) b others.what) (here_same env one.env h.steps.around) k.fits,
    );
  }

  pub sequel_clauses : (one : After unit.Clause) (others : After unit.Clauses) → Does ClauseFits env one → Does ClausesFit one.env others →
      Does ClausesFit env (record { what = unit.clause_then one.what others.what; env = others.env })
  sequel_clauses one others h k = record {
    steps = steps_then env one.env others.env h.steps k.steps;
    fits = (
      (lifted one.env others.env h.steps k.steps (unit.act_then (unit.if_act (unit.clause_then one.what unit.no_clause)) unit.no_act) ((h.fits, tt), tt)).0.0,
      subst (λ b. ClausesFit others.env.types others.env.blocks (headings_of others.env.headings) b others.what) (here_same env one.env h.steps.around) k.fits,
    );
  }

  -- a condition before its statements
  pub guarded : (c : Typed) (done : After Acts) → Sits env → TypedFits env c → c.of ≡ bool_type → Does ActsFit env done
      → Does ClauseFits env (record { what = unit.clause c.what done.what; env = done.env })
  guarded c done s f is k =
      let first : Acts = unit.act_then (unit.if_act (unit.clause_then (unit.clause c.what unit.no_act) unit.no_clause)) unit.no_act in
      let raised = lifted env done.env (steps_same env s) k.steps first (((f.has_type ∙ is, f.fits, tt), tt), tt) in
      record { steps = k.steps; fits = (raised.0.0.0, raised.0.0.1, k.fits) }

-- ---- calls and assignments

no_result : (r : Option ℕ) → not (is_some r) ≡ true → r ≡ None
no_result None h = refl
no_result (Some t) h = absurd (false≢true h)

abbrev pub ActSits : Environment → Act → Type 0
ActSits env a = ActFits env.types env.blocks (headings_of env.headings) (here env) a

pub called_fits : (env : Environment) → Sits env → (line : ℕ) (u : Use) (xs : Option text.Args) → UseFits env u → OptionalArgsHolds in_range xs
    → Gives (ActSits env) (called env line u xs)
called_fits env s line (calls c) None h i =
    ruled (ActSits env) (not (is_function c.asks) && takes_so_many c.asks 0) kind.Call line _ (λ e.
    let p = and_parts (not (is_function c.asks)) (takes_so_many c.asks 0) e in (
      h.callee,
      h.result ∙ no_result (heading_result c.asks) p.0,
      subst (λ asks. ArgumentsFit env.types env.blocks (headings_of env.headings) (here env) unit.no_argument (heading_formals asks)) (sym h.asks)
          (none_fit env (heading_formals c.asks) (eqb-true _ 0 p.1)),
    ))
called_fits env s line (calls c) (Some xs) h i =
    ruled (ActSits env) (not (is_function c.asks) && takes_so_many c.asks (args_count xs)) kind.Call line _ (λ e.
    let p = and_parts (not (is_function c.asks)) (takes_so_many c.asks (args_count xs)) e in
    bind (λ given. ArgumentsFit env.types env.blocks (headings_of env.headings) (here env) given (heading_formals c.asks)) (ActSits env)
    (all_arguments env line xs (heading_formals c.asks)) _
    (arguments_fit env s line xs i (heading_formals c.asks) (eqb-true _ (args_count xs) p.1))
    (λ given fits. (
      h.callee,
      h.result ∙ no_result (heading_result c.asks) p.0,
      subst (λ asks. ArgumentsFit env.types env.blocks (headings_of env.headings) (here env) given (heading_formals asks)) (sym h.asks) fits,
    )))
called_fits env s line halts None h i = tt
called_fits env s line halts (Some xs) h i = tt
called_fits env s line (constructs of) xs h i = tt
called_fits env s line neither xs h i = tt

-- ---- branches

branch_begins : (env : Environment) → here env < length env.blocks → BlockBegins env.types (length env.blocks)
    (begun_block block_kind.Branch (here env) None []) no_heading
branch_begins env at = record {
  fits_kind = (omega (arith, at), refl);
  outermost = λ e. absurd (omega (arith, at, e));
  inner = λ h. at;
  known = λ k d i. absurd (omega (arith, i));
  parameters = refl;
  result = refl;
  nothing = refl;
}

abbrev branch_env : Environment → Environment
branch_env env = with_block (begun_block block_kind.Branch (here env) None []) no_heading env

pub stands_here : (blocks : List Block) (n : ℕ) (around : List ℕ) → 0 < length around → (block_at blocks n).up ≡ get_or around 0 0 → n < length blocks
    → IsChain blocks around → IsChain blocks (n ∷ around)
stands_here blocks n [] h e i c = absurd (omega (arith, h))
stands_here blocks n (a ∷ around) h e i c = (i, e, c)

-- ---- names from further in

wider : (a b : Bool) → b ≡ true → (a || b) ≡ true
wider true b h = refl
wider false b h = h

pub names_wider : (types : List Shape) (blocks : List Block) (headings shapes : List Heading) (n : ℕ) (around : List ℕ) (e : Entity) →
    Names types blocks headings shapes around e → Names types blocks headings shapes (n ∷ around) e
names_wider types blocks headings shapes n around (entity.Constant of k) h = h
names_wider types blocks headings shapes n around (entity.Types t) h = h
names_wider types blocks headings shapes n around (entity.Variable b v of) h = (wider (n == b) (is_round b around) h.0, h.1, h.2)
names_wider types blocks headings shapes n around (entity.Procedure b) h =
    (h.0, h.1, wider (n == (block_at blocks b).up) (is_round (block_at blocks b).up around) h.2)
names_wider types blocks headings shapes n around (entity.Formal b v shape) h = (wider (n == b) (is_round b around) h.0, h.1, h.2, h.3, h.4)
names_wider types blocks headings shapes n around entity.Halt h = tt

pub scopes_wider : (types : List Shape) (blocks : List Block) (headings shapes : List Heading) (n : ℕ) (around : List ℕ) (scopes : List Scope) →
    ScopesFit (Names types blocks headings shapes around) scopes → ScopesFit (Names types blocks headings shapes (n ∷ around)) scopes
scopes_wider types blocks headings shapes n around scopes h =
    scopes_fit (Names types blocks headings shapes around) (Names types blocks headings shapes (n ∷ around))
    (names_wider types blocks headings shapes n around) scopes h

module _ (env : Environment) (s : Sits env) (inside : 0 < length env.around) where
  branch_block : Block
  branch_block = begun_block block_kind.Branch (here env) None []

  entered_later : Later env (enter_branch env)
  entered_later = block_later (begun_block block_kind.Branch (here env) None []) no_heading env s

  pub entered_sits : suc (length env.around) ≤ greatest_levels → Sits (enter_branch env)
  entered_sits near =
      let block : Block = begun_block block_kind.Branch (here env) None [] in
      let next : Environment = branch_env env in
      let t : Sits next = block_sits block no_heading env s (branch_begins env (here_inside env s inside)) in
      placed_sits env.scopes (length env.blocks ∷ env.around) env.begun next t
      (record {
        chain = stands_here next.blocks (length env.blocks) env.around inside (ap (λ b. b.up) (new_block block no_heading env s))
            (omega (arith, length-append env.blocks (block ∷ []))) t.nested.chain;
        near = near;
      })
      (scopes_wider next.types next.blocks next.headings next.shapes (length env.blocks) env.around env.scopes t.names)

-- what a branch leaves behind
pub record Left (before : Environment) (one : After ℕ) : Type 0 where
  pub steps : Steps before one.env
  pub fits : BranchFits one.env.types one.env.blocks (headings_of one.env.headings) (here before) one.what

-- the block of a branch is behind the others
longer_by_one : (before : Environment) → length (enter_branch before).blocks ≡ suc (length before.blocks)
longer_by_one before = omega (arith, length-append before.blocks (begun_block block_kind.Branch (here before) None [] ∷ []))

left : (before : Environment) (done : After Acts) (s : Sits before) (inside : 0 < length before.around) → Does ActsFit (enter_branch before) done →
    (after : Environment) → Closes (length before.blocks) done.env after
    → Left before (record { what = length before.blocks; env = record after { around = before.around } })
left before done s inside h after k =
    let n : ℕ = length before.blocks in
    let first : Environment = enter_branch before in
    let block : Block = begun_block block_kind.Branch (here before) None [] in
    let one = longer_by_one before in
    let c = k.changes in
    let many = c.many in
    let inner : Later first after = later_then first done.env after h.steps.later c.later in
    let l : Later before after = later_then before first after (entered_later before s inside) inner in
    let scopes : after.scopes ≡ before.scopes = c.scopes ∙ h.steps.scopes in
    let longer = inner.longer in
    let grown = inner.each n (omega (arith, one)) in
    let new : block_at first.blocks n ≡ block = new_block block no_heading before s in
    record {
      steps = record {
        sits =
            placed_sits after.scopes before.around after.begun after c.sits (nested_later before after s l)
            (subst (ScopesFit (Names after.types after.blocks after.headings after.shapes before.around)) (sym scopes)
            (scopes_later before after s l before.around s.nested.chain before.scopes s.names));
        later = l;
        around = refl;
        scopes = scopes;
        begun = c.begun ∙ h.steps.begun;
        old = λ m i.
            c.others m (λ e. absurd (omega (arith, i, e))) ∙ h.steps.old m (omega (arith, i, one)) ∙ get_or-append before.blocks (block ∷ []) no_block m i;
        new = λ m i j.
            elim (cases_eq m n) [
              | inl e ↦ subst (Closed after.types after.blocks) (sym e) k.closed
              | inr other ↦
                  let there : m < length done.env.blocks = omega (arith, i, many) in
                  closed_later done.env after h.steps.sits c.later m there (c.others m other) (h.steps.new m there (omega (arith, j, other, one)))
            ];
      };
      fits = (omega (arith, one, longer), grown.kind ∙ ap (λ b. b.kind) new, grown.up ∙ ap (λ b. b.up) new);
    }

pub leave_left : (before : Environment) (line : ℕ) (done : After Acts) → Sits before → 0 < length before.around → Does ActsFit (enter_branch before) done
    → Gives (Left before) (leave_branch before line done)
leave_left before line done s inside h =
    let one = longer_by_one before in
    let l = h.steps.later in
    let longer = l.longer in
    bind (Closes (length before.blocks) done.env) (Left before) (close_block (length before.blocks) done.what line done.env) _
    (block_closes (length before.blocks) done.what line done.env h.steps.sits (omega (arith, one, longer)) h.fits)
    (left before done s inside h)

-- what all branches of a `cobegin` leave behind
pub record Branched (before : Environment) (count : ℕ) (all : After (List ℕ)) : Type 0 where
  pub steps : Steps before all.env
  pub fits : All (BranchFits all.env.types all.env.blocks (headings_of all.env.headings) (here before)) all.what
  pub many : length all.what ≡ suc count

branch_later : (env next : Environment) → Later env next → (b n : ℕ) → BranchFits env.types env.blocks (headings_of env.headings) b n
    → BranchFits next.types next.blocks (headings_of next.headings) b n
branch_later env next l b n h =
    let longer = l.longer in
    let g = l.each n h.0 in
    (omega (arith, h.0, longer), g.kind ∙ h.1, g.up ∙ h.2)

pub one_branch : (before : Environment) (one : After ℕ) → Left before one → Branched before 0 (record { what = one.what ∷ []; env = one.env })
one_branch before one k = record { steps = k.steps; fits = all; many = refl }
  where
    all : All (BranchFits one.env.types one.env.blocks (headings_of one.env.headings) (here before)) (one.what ∷ [])
    all zero d i = k.fits
    all (suc m) d i = absurd (omega (arith, i))

pub more_branches : (before : Environment) (count : ℕ) (one : After ℕ) (others : After (List ℕ)) → Left before one → Branched one.env count others
    → Branched before (suc count) (record { what = one.what ∷ others.what; env = others.env })
more_branches before count one others k j = record {
  steps = steps_then before one.env others.env k.steps j.steps;
  fits = all;
  many = ap suc j.many;
}
  where
    all : All (BranchFits others.env.types others.env.blocks (headings_of others.env.headings) (here before)) (one.what ∷ others.what)
    all zero d i = branch_later one.env others.env j.steps.later (here before) one.what k.fits
    all (suc m) d i =
        subst (λ b. BranchFits others.env.types others.env.blocks (headings_of others.env.headings) b (get_or others.what m d))
        (here_same before one.env k.steps.around) (j.fits m d (omega (arith, i)))
