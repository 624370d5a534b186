-- Each child of a fork lies in a share of its own, in their order.
use Rattle.std.proofs.Common.{◌≡◌, ℕ, zero, suc, ◌+◌, ◌*◌, ◌<◌, List, [], ◌∷◌, Option, Some, None, refl, sym, ap, ◌∙◌, arith}
use Rattle.std.specs.Prelude.{slice_get}
use Rattle.edi_calls.proofs.Names.{some_is}
use Rattle.edi_calls.specs.Names.{Name, find}
use Rattle.edi_calls.specs.Ready.{child}
use Rattle.edi_calls.proofs.Tables.{find-with_at-same, find-with_at-other}
use Rattle.edi_target.specs.Op.{Branch}
use Rattle.edi_target.specs.Mach.{Activity, Machine, with_child, with_children}
use Rattle.edi_target.specs.segments.Shares.{first_of_branch, ChildrenLieInShares}
use Rattle.edi_target.proofs.segments.Queues.{children_apart}

module _ (p : Name) (f base share : ℕ) where
  -- later children leave it as it is
  stays_there : (j : ℕ) (x : Activity) (branches : List Branch) (k at : ℕ) (m : Machine) → j < k → find m.activities (child p f j) ≡ Some x
      → find (with_children p f k base at share branches m).activities (child p f j) ≡ Some x
  stays_there j x [] k at m less e = e
  stays_there j x (b ∷ branches) k at m less e =
      stays_there j x branches (suc k) (at + share) (with_child (child p f k) base at share b m) (omega (arith, less))
      (find-with_at-other m.activities (child p f k) (child p f j) _ (children_apart p f j k less) ∙ e)

  lies_there : (branches : List Branch) (k at : ℕ) (m : Machine) (i : ℕ) (b : Branch) → slice_get branches i ≡ Some b →
      find (with_children p f k base at share branches m).activities (child p f (k + i)) ≡ Some (first_of_branch (at + i * share) share b)
  lies_there [] k at m i b e = absurd (cc)
  lies_there (c ∷ branches) k at m zero b e =
      let is : c ≡ b = some_is e in
      let here : k + 0 ≡ k = omega arith in
      let place : at ≡ at + 0 * share = omega arith in
      ap (λ n. find (with_children p f k base at share (c ∷ branches) m).activities (child p f n)) here
      ∙ stays_there k (first_of_branch at share c) branches (suc k) (at + share) (with_child (child p f k) base at share c m) (omega arith)
      (find-with_at-same m.activities (child p f k) _)
      ∙ (λ j. Some (first_of_branch (place j) share (is j)))
  lies_there (c ∷ branches) k at m (suc i) b e =
      let there : k + suc i ≡ suc k + i = omega arith in
      let place : at + share + i * share ≡ at + suc i * share = omega arith in
      ap (λ n. find (with_children p f k base at share (c ∷ branches) m).activities (child p f n)) there
      ∙ lies_there branches (suc k) (at + share) (with_child (child p f k) base at share c m) i b e
      ∙ ap (λ n. Some (first_of_branch n share b)) place

pub children_lie_in_shares : ChildrenLieInShares
children_lie_in_shares p f base at share branches m i b e =
    let here : i ≡ 0 + i = omega arith in
    ap (λ n. find (with_children p f 0 base at share branches m).activities (child p f n)) here ∙ lies_there p f base share branches 0 at m i b e
