-- The statements of functions and critical phases, each from the claims for its parts.
use Rattle.std.proofs.Common.{ℕ, List, map, refl, arith}
use Rattle.edi_calls.specs.declared.kinds.Cause.TheVariants as cause
use Rattle.edi_unit.specs.Tree as tree
use Rattle.edi_unit.specs.Tree.{Expression, Place, Act, Acts, Clauses}
use Rattle.edi_unit.specs.Need.{block_at, acts_height}
use Rattle.edi_meaning.specs.Evaluation.{World, Evaluation}
use Rattle.edi_meaning.specs.Whole.{act, acts}
use Rattle.edi_target.specs.Op as op
use Rattle.edi_follows.specs.places.Coded.{Coded, entry}
use Rattle.edi_follows.specs.places.Scene.{Scene, here}
use Rattle.edi_follows.specs.places.Claims.{Ran, AssignAt}
use Rattle.edi_follows.specs.places.Constructs.{A, As, Actions}
use Rattle.edi_follows.specs.places.Instructions.{Instructed}
use Rattle.edi_follows.proofs.places.Doing.{give, bind}
use Rattle.edi_follows.proofs.places.Instructed.{instructed}
use Rattle.edi_follows.proofs.places.Binding.{at_same}
use Rattle.edi_follows.proofs.steps.Passing.{apply_does, call_does}
use Rattle.edi_follows.proofs.steps.Clauses.{no_clause_does, clause_then_does, if_does}
use Rattle.edi_follows.proofs.steps.Loops.{while_does}

module _ (g : Coded) (s : Scene) (deeper : Acts → World → Evaluation (Unit {0})) (bound : ℕ) where
  i : Instructed g s
  i = instructed g s

  skip_does : A g s deeper bound tree.skip
  skip_does F pc to t held w m less some stands fits able =
      give g s F pc t t held w m (Ran g s to t) tt able.stands (omega arith) (omega (arith, able.high)) (record { pc_is = stands; top_is = refl })

  assigned_does : (v : Place) (e : Expression) → AssignAt g s deeper bound v e → A g s deeper bound (tree.assign v e)
  assigned_does v e claim F pc to t held w m less some stands fits able = claim F pc to t held w m less stands fits able

  halt_does : (line : ℕ) → A g s deeper bound (tree.halt line)
  halt_does line F pc to t held w m less some stands fits able =
      i.fails_at (Unit {0}) (Ran g s to t) F (op.halt line) pc to t t held w m cause.Halt line stands refl

  -- a `when` and a `cobegin` fail here
  when_fails : (cs : Clauses) (line : ℕ) → A g s deeper bound (tree.when_act cs line)
  when_fails cs line F pc to t held w m less some stands fits able =
      i.fails_at (Unit {0}) (Ran g s to t) F (op.when line) pc stands.0 t t held w m cause.Held line stands.2 (i.is_held F m line stands.0 pc t held some).0

  cobegin_fails : (bs : List ℕ) (line : ℕ) → A g s deeper bound (tree.cobegin bs line)
  cobegin_fails bs line F pc to t held w m less some stands fits able =
      i.fails_at (Unit {0}) (Ran g s to t) F _ pc to t t held w m cause.Held line stands
      ((i.is_held F m line to pc t held some).1 (map (λ n. record { need = (block_at g.unit.blocks n).need; address = entry g n }) bs))

  no_act_does : As g s deeper bound tree.no_act
  no_act_does F pc to t held w m less some stands fits able =
      give g s F pc t t held w m (Ran g s to t) tt able.stands (omega arith) (omega (arith, able.high)) (record { pc_is = stands; top_is = refl })

  act_then_does : (a : Act) (as' : Acts) → A g s deeper bound a → As g s deeper bound as' → As g s deeper bound (tree.act_then a as')
  act_then_does a as' claim others F pc to t held w m less some stands fits able =
      bind g s F pc t t held w m (Ran g s stands.0 t) (Ran g s to t) (act g.unit s.name (s.size s.name) deeper a w)
      (λ _ w. acts g.unit s.name (s.size s.name) deeper as' w)
      (claim F pc stands.0 t held w m less some stands.1 fits.0 (i.able_above F w m t _ t _ held able (omega arith) (omega arith)))
      (λ u v m' pc' top' c above within after post.
      at_same g s (Unit {0}) (Ran g s to t) (acts g.unit s.name (s.size s.name) deeper as' v) F stands.0 pc' t top' t held v m' post.pc_is post.top_is
      (others F stands.0 to t held v m' (omega (arith, less, after.turns)) some stands.2 fits.1
      (i.able_then F w v m m' t _ t (acts_height g.unit.types g.unit.blocks (here g s F) as') t held c able after (omega arith) (omega arith))))

  -- all of them
  pub statements : Actions g s deeper bound
  statements = record {
    apply_of = apply_does g s deeper bound;
    skip = skip_does;
    assigned = assigned_does;
    call = call_does g s deeper bound;
    halt = halt_does;
    if_act = if_does g s deeper bound;
    while_act = while_does g s deeper bound;
    when_act = when_fails;
    cobegin = cobegin_fails;
    no_act = no_act_does;
    act_then = act_then_does;
    no_clause = no_clause_does g s deeper bound;
    clause_then = clause_then_does g s deeper bound;
  }
