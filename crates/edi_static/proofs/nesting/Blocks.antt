-- The bodies of blocks nest no deeper than the levels of their text allow.
use Rattle.std.proofs.Common.{ℕ, ◌+◌, ◌*◌, ◌<◌, ◌≤◌, max, List, length, Option, Some, None, All, nat_lt, ◌==◌, refl, arith, subst, sym}
use Rattle.std.proofs.lemmas.List.Elements.{All-set, All-push}
use Rattle.edi_tree.specs.Tree as text
use Rattle.edi_tree.specs.Depth.{expr_depth, args_depth, optional_args_depth, variable_depth, depth}
use Rattle.edi_unit.specs.Tree.{Act, Acts, no_act, act_then, Block}
use Rattle.edi_unit.specs.Need.{block_at}
use Rattle.edi_unit.specs.Headings.{heading_formals}
use Rattle.edi_static.specs.declared.faults.StaticKind.TheVariants as kind
use Rattle.edi_static.specs.Environment.{Environment}
use Rattle.edi_static.specs.Fitting.{Use, constructs, calls, halts, neither}
use Rattle.edi_static.specs.Expressions.{expression, variable_place, all_arguments, args_count}
use Rattle.edi_static.specs.Statements.{procedure_called, acts_append, with_statements, assigned, called}
use Rattle.edi_static.proofs.Judging.{Gives, bind, behind, ruled}
use Rattle.edi_static.proofs.Declared.{Keeping, of_blocks, block_or}
use Rattle.edi_static.proofs.Lasting.{Said, Lasting, UnitLasts, unit_lasts}
use Rattle.edi_static.specs.nesting.Nesting.{IsShallow, UnitsAreShallow, act_nesting, acts_nesting, clause_nesting, clauses_nesting}
use Rattle.edi_static.proofs.nesting.Parts.{Within}
use Rattle.edi_static.proofs.nesting.Expressions.{PlaceWithin, ArgumentsWithin, expression_within, place_within, arguments_within}

-- ---- statements without statements in them

abbrev ActWithin : ℕ → Act → Type 0
ActWithin most a = act_nesting a ≤ most

assigned_within : (env : Environment) (v : text.Variable) (line : ℕ) (e : text.Expr) → Gives (ActWithin (5 * max (variable_depth v) (expr_depth e) + 6))
    (assigned env v line e)
assigned_within env v line e =
    let most : ℕ = 5 * max (variable_depth v) (expr_depth e) + 6 in
    bind (PlaceWithin (5 * variable_depth v)) (ActWithin most) (variable_place env v) _ (place_within env v) (λ l h.
    bind (Within (5 * expr_depth e + 5)) (ActWithin most) (expression env e) _ (expression_within env e) (λ x k.
    ruled (ActWithin most) (l.of == x.of) kind.Types line _ (λ r. omega (arith, h, k))))

called_within : (env : Environment) (line : ℕ) (u : Use) (xs : Option text.Args) → Gives (ActWithin (5 * optional_args_depth xs + 6)) (called env line u xs)
called_within env line (calls c) None = behind (ActWithin 6) (procedure_called line c 0) _ (λ r. omega arith)
called_within env line (calls c) (Some xs) =
    behind (ActWithin (5 * args_depth xs + 6)) (procedure_called line c (args_count xs)) _ (λ r.
    bind (ArgumentsWithin (5 * args_depth xs)) (ActWithin (5 * args_depth xs + 6)) (all_arguments env line xs (heading_formals c.asks)) _
    (arguments_within env line xs (heading_formals c.asks)) (λ ys k. omega (arith, k)))
called_within env line halts None = omega arith
called_within env line halts (Some xs) = tt
called_within env line (constructs of) None = tt
called_within env line (constructs of) (Some xs) = tt
called_within env line neither None = tt
called_within env line neither (Some xs) = tt

-- what constructs with so many levels open in them nest at most
abbrev nesting : Said
nesting = record {
  OfAct = λ d a. act_nesting a ≤ 5 * d + 6;
  OfActs = λ d s. acts_nesting s ≤ 5 * d + 6;
  OfClause = λ d c. clause_nesting c ≤ 5 * d + 6;
  OfClauses = λ d cs. clauses_nesting cs ≤ 5 * d + 6;
  OfValue = λ d v. Within (5 * d + 5) v;
  skipping = omega arith;
  assigning = assigned_within;
  calling = called_within;
  conditional = λ d cs h. omega (arith, h);
  loop = λ d cs h. omega (arith, h);
  await = λ d cs line h. omega (arith, h);
  forking = λ d bs line. omega arith;
  no_acts = omega arith;
  acts = λ a b x xs h k. omega (arith, h, k);
  deeper = λ a b xs less h. omega (arith, less, h);
  valued = expression_within;
  guarded = λ a b c xs h k. omega (arith, h, k);
  no_clauses = omega arith;
  clauses = λ a b c cs h k. omega (arith, h, k);
}

-- no deeper than a text in which so many levels are open allows
module _ (levels : ℕ) where
  abbrev Low : Block → Type 0
  Low = IsShallow (5 * levels + 1)

  at_low : (bs : List Block) (n : ℕ) → All Low bs → Low (block_at bs n)
  at_low bs n h = block_or Low bs n (nat_lt n (length bs)) refl (omega arith) h

  appended_low : (a s : Acts) → acts_nesting a ≤ 5 * levels + 1 → acts_nesting s ≤ 5 * levels + 1 → acts_nesting (acts_append a s) ≤ 5 * levels + 1
  appended_low no_act s h k = k
  appended_low (act_then x a) s h k = let rest = appended_low a s (omega (arith, h)) k in omega (arith, h, rest)

  added_low : (n d : ℕ) (s : Acts) (bs : List Block) → d < levels → acts_nesting s ≤ 5 * d + 6 → All Low bs
      → Low (with_statements s (block_at bs n))
  added_low n d s bs less k h = appended_low (block_at bs n).body s (at_low bs n h) (omega (arith, less, k))

  abbrev low : Keeping
  low = of_blocks (All Low) (λ blocks n block body need h.
      All-set Low blocks n block (subst (λ s. acts_nesting s ≤ 5 * levels + 1) (sym body) (at_low blocks n h)) h)

  abbrev low_lasts : Lasting levels
  low_lasts = record {
    keep = low;
    said = nesting;
    settled = λ types blocks h. h;
    first = λ i d lt. absurd (omega (arith, lt));
    begun = λ types blocks block body need h.
        All-push Low blocks block h (subst (λ s. acts_nesting s ≤ 5 * levels + 1) (sym body) (omega arith));
    added = λ types blocks n d s less k h.
        All-set Low blocks n (with_statements s (block_at blocks n)) (added_low n d s blocks less k h) h;
    needed = λ types blocks n most fits h. All-set Low blocks n (record (block_at blocks n) { need = most }) (at_low blocks n h) h;
  }

pub units_are_shallow : UnitsAreShallow
units_are_shallow tree unit e =
    let levels : ℕ = depth tree in
    subst (Gives (UnitLasts levels (low_lasts levels))) e (unit_lasts levels (low_lasts levels) tree (omega arith))
