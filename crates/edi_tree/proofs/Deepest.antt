-- The depth of branches, whatever the line on which they are closed.
use Rattle.std.proofs.Common.{◌≡◌, ◌≤◌, ℕ, max, List, [], ◌∷◌, refl, ap, subst, arith}
use Rattle.edi_tree.specs.View.{ClosedBranch, branches}
use Rattle.edi_tree.specs.Depth.{limited, branch_depth, branches_depth}

abbrev pub deepest : List ClosedBranch → ℕ
deepest [] = 0
deepest (b ∷ bs) = max (branch_depth b.opened) (deepest bs)

pub branches_deepest : (end : ℕ) (bs : List ClosedBranch) → branches_depth (branches end bs) ≡ deepest bs
branches_deepest end [] = refl
branches_deepest end (b ∷ bs) = ap (max (branch_depth b.opened)) (branches_deepest b.end bs)

-- a loop over branches at its end
pub branches_seen : (bs left : List ClosedBranch) (depth end : ℕ) → left ≡ [] → limited (max depth (deepest left)) ≡ limited (max 0 (deepest bs)) → depth ≤ 65
    → depth ≡ limited (branches_depth (branches end bs))
branches_seen bs left depth end none seen small =
    let h = branches_deepest end bs in
    let e : limited (max depth 0) ≡ limited (max 0 (deepest bs)) = subst (λ l. limited (max depth (deepest l)) ≡ limited (max 0 (deepest bs))) none seen in
    omega (arith, h, e)
