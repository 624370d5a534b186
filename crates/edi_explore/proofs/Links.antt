-- Links of a search: the states to which they lead, and ranks that fall along them.
use Rattle.std.proofs.Common.{◌≡◌, inl, inr, ℕ, zero, suc, ◌<◌, Bool, true, false, List, [], ◌∷◌, ◌++◌, length, Contains, refl, sym, ap, subst, ◌∙◌, arith}
use Rattle.std.specs.Prelude.{◌==◌}
use Rattle.std.proofs.lemmas.Bool.{cases_lt, eq-eqb, eqb-true}
use Rattle.edi_explore.specs.declared.states.Link.{Link}
use Rattle.edi_explore.specs.Links.{AreBelow, FallAlongAll, HaveRanks, first_states, rank_in, targets_of, with_target}
use Rattle.edi_explore.specs.States.{Follows}
use Rattle.edi_explore.proofs.Findings.{contains_front, contains_last, contains_later}

-- ---- links that are appended

with_append : (b : Bool) (w : ℕ) (xs ys : List ℕ) → with_target b w (xs ++ ys) ≡ with_target b w xs ++ ys
with_append true w xs ys = refl
with_append false w xs ys = refl

targets_append : (links more : List Link) (v : ℕ) → targets_of (links ++ more) v ≡ targets_of links v ++ targets_of more v
targets_append [] more v = refl
targets_append (l ∷ links) more v =
    ap (with_target (l.from == v) l.to) (targets_append links more v) ∙ with_append (l.from == v) l.to (targets_of links v) (targets_of more v)

-- what was led to is led to
pub targets_still : (links all : List Link) (v w : ℕ) → Follows links all → Contains (targets_of links v) w → Contains (targets_of all v) w
targets_still links all v w f c =
    subst (λ ls. Contains (targets_of ls v) w) (sym f.1)
    (subst (λ ws. Contains ws w) (sym (targets_append links f.0 v)) (contains_front (targets_of links v) (targets_of f.0 v) w c))

-- the last one leads there
pub target_last : (links : List Link) (l : Link) → Contains (targets_of (links ++ l ∷ []) l.from) l.to
target_last links l =
    let one : targets_of (l ∷ []) l.from ≡ l.to ∷ [] = ap (λ b. with_target b l.to []) (eq-eqb l.from l.from refl) in
    subst (λ ws. Contains ws l.to) (sym (targets_append links (l ∷ []) l.from ∙ ap (λ ws. targets_of links l.from ++ ws) one))
    (contains_last (targets_of links l.from) l.to)

-- ---- from states back to links

-- a link leads from there to there
pub record IsLink (links : List Link) (v w : ℕ) : Type 0 where
  pub link : Link
  pub among : Contains links link
  pub from : link.from ≡ v
  pub to : link.to ≡ w

later : (l : Link) (links : List Link) (v w : ℕ) → IsLink links v w → IsLink (l ∷ links) v w
later l links v w x = record { link = x.link; among = contains_later l links x.link x.among; from = x.from; to = x.to }

pub link_of : (links : List Link) (v w : ℕ) → Contains (targets_of links v) w → IsLink links v w
link_of [] v w c = absurd (omega (arith, c.1))
link_of (l ∷ links) v w c = go (l.from == v) refl c (λ h. link_of links v w h)
  where
    go : (b : Bool) → (l.from == v) ≡ b → Contains (with_target b l.to (targets_of links v)) w → (Contains (targets_of links v) w → IsLink links v w) →
        IsLink (l ∷ links) v w
    go true e (zero, less, is) more = record { link = l; among = (0, omega arith, refl); from = eqb-true l.from v e; to = is }
    go true e (suc k, less, is) more = later l links v w (more (k, omega (arith, less), is))
    go false e c more = later l links v w (more c)

-- ---- the first states

pub state_in : (count w : ℕ) → w < count → Contains (first_states count) w
state_in zero w l = absurd (omega (arith, l))
state_in (suc n) w l = elim (cases_lt w n) [
  | inl less ↦ contains_later n (first_states n) w (state_in n w less)
  | inr past ↦ let e : n ≡ w = omega (arith, l, past) in (0, omega arith, e)
]

pub state_of : (count w : ℕ) → Contains (first_states count) w → w < count
state_of zero w c = absurd (omega (arith, c.1))
state_of (suc n) w (zero, l, is) = let e : n ≡ w = is in omega (arith, e)
state_of (suc n) w (suc k, l, is) = let less : w < n = state_of n w (k, omega (arith, l), is) in omega (arith, less)

-- ---- ranks

pub have_ranks : (links : List Link) (ranks : List ℕ) (count most : ℕ) → length ranks ≡ count → FallAlongAll ranks links → AreBelow ranks most →
    HaveRanks links count most
have_ranks links ranks count most long falls below = record {
  rank = λ v. rank_in ranks v;
  fall = record {
    first = λ w c. below w (omega (arith, long, state_of count w c));
    each = λ v w l c.
        let x = link_of links v w c in
        subst (λ n. rank_in ranks n < rank_in ranks v) x.to
        (subst (λ n. rank_in ranks x.link.to < rank_in ranks n) x.from (falls x.link x.among (omega (arith, l, long, x.from))));
  };
}
