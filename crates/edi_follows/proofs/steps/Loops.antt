-- A loop: where a list was executed a turn is taken, and the loop begins again one level deeper.
use Rattle.std.proofs.Common.{ℕ, ◌≤◌, Bool, true, false, if◌then◌else◌, List, refl, arith}
use Rattle.edi_unit.specs.Tree as tree
use Rattle.edi_unit.specs.Tree.{Acts, Clauses}
use Rattle.edi_unit.specs.Need.{clauses_height}
use Rattle.edi_meaning.specs.Store.{Shape}
use Rattle.edi_meaning.specs.Evaluation.{World, Evaluation, gives, turn}
use Rattle.edi_meaning.specs.Whole.{first}
use Rattle.edi_target.specs.Op as op
use Rattle.edi_scheme.specs.Pieces.{repeated}
use Rattle.edi_follows.specs.places.Coded.{Coded}
use Rattle.edi_follows.specs.places.Scene.{Scene, here, Able, Does}
use Rattle.edi_follows.specs.places.Claims.{Ran, TriedSo, Tried, DeeperClaim}
use Rattle.edi_follows.specs.places.Constructs.{A, Cs}
use Rattle.edi_follows.specs.places.Instructions.{Instructed}
use Rattle.edi_follows.proofs.places.Doing.{give, bind, stands_turned}
use Rattle.edi_follows.proofs.places.Instructed.{instructed}
use Rattle.edi_follows.proofs.places.Binding.{at_same}

module _ (g : Coded) (s : Scene) (deeper : Acts → World → Evaluation (Unit {0})) (bound : ℕ) where
  i : Instructed g s
  i = instructed g s

  -- with a turn less
  turned_able : (F : Shape) (v : World) (n : ℕ) (m : List ℕ) (t h held : ℕ) → Able g s F v m t h held → Able g s F (record v { turns = n }) m t h held
  turned_able F v n m t h held a = record {
    stands = stands_turned g s F v m n a.stands;
    low = a.low;
    high = a.high;
    few = a.few;
  }

  pub while_does : (cs : Clauses) → Cs g s deeper bound cs → DeeperClaim g s deeper bound → A g s deeper bound (tree.while_act cs)
  while_does cs claim deep F pc to t held w m less some stands fits able =
      bind g s F pc t t held w m (Tried g s F repeated pc to t) (Ran g s to t) (first g.unit s.name (s.size s.name) deeper cs w)
      (λ ran w. if ran then turn w (deeper (tree.act_then (tree.while_act cs) tree.no_act)) else gives tt w)
      (claim repeated pc F pc to t held w m less some stands fits able)
      (λ ran v m' pc' top' c above within after post.
      at_same g s (Unit {0}) (Ran g s to t) _ F pc' pc' t top' t held v m' refl post.top_is
      (by_ran v m' pc'
      (i.able_then F w v m m' t (clauses_height g.unit.types g.unit.blocks (here g s F) cs) t
      (clauses_height g.unit.types g.unit.blocks (here g s F) cs) t held c able after (omega arith)
      (omega arith)) (omega (arith, less, after.turns)) ran post.so))
    where
      by_ran : (v : World) (m' : List ℕ) (pc' : ℕ) → Able g s F v m' t (clauses_height g.unit.types g.unit.blocks (here g s F) cs) held → v.turns ≤ bound →
          (ran : Bool) → TriedSo g s (here g s F) repeated pc to ran pc' →
          Does g s F pc' t t held v m' (Ran g s to t) (if ran then turn v (deeper (tree.act_then (tree.while_act cs) tree.no_act)) else gives tt v)
      by_ran v m' pc' able' less' true so =
          i.steps_turn (Unit {0}) (Ran g s to t) (deeper (tree.act_then (tree.while_act cs) tree.no_act)) F (op.loop pc) pc' so.1 pc t t held v m' so.2 refl
          (λ n e.
          deep (tree.act_then (tree.while_act cs) tree.no_act) F pc to t held (record v { turns = n }) m'
          (omega (arith, e, less')) some (to, stands, refl) (fits, tt)
          (i.able_above F (record v { turns = n }) m' t _ t _ held (turned_able F v n m' t _ held able') (omega arith) (omega arith)))
      by_ran v m' pc' able' less' false so =
          give g s F pc' t t held v m' (Ran g s to t) tt able'.stands (omega arith) (omega (arith, able'.high)) (record { pc_is = so; top_is = refl })
