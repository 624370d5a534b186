-- What the rules on operators give fits.
use Rattle.std.proofs.Common.{◌≡◌, ℕ, true, false, ◌||◌, ◌==◌, List, Option, Some, None, IsTrue, refl, sym, ap, subst, ◌∙◌}
use Rattle.std.proofs.lemmas.Bool.{eqb-true, and_parts}
use Rattle.edi_tree.specs.declared.expressions.Sign.{Sign}
use Rattle.edi_tree.specs.declared.expressions.Sign.TheVariants as sign
use Rattle.edi_unit.specs.declared.expressions.Operator.{Operator}
use Rattle.edi_unit.specs.declared.expressions.Operator.TheVariants as op
use Rattle.edi_unit.specs.Types.{Shape, set_of, int_type, bool_type, shape_at, is_elementary, is_set_shape}
use Rattle.edi_unit.specs.Tree.{Link, link, Links, no_link, link_then}
use Rattle.edi_unit.specs.Need.{links_type}
use Rattle.edi_unit.specs.Fits.{OperatorFits, LinksFit}
use Rattle.edi_static.specs.declared.faults.StaticKind.TheVariants as kind
use Rattle.edi_static.specs.Judged.{Judged, gives, ◌>>=◌}
use Rattle.edi_static.specs.Environment.{Environment, here}
use Rattle.edi_static.specs.Operators.{Typed, Linked, Chained, is_set_of, are_ints_or_sets, are_both, are_ordered, takes, signed, operated, chain_of}
use Rattle.edi_static.specs.Operators.{with_links}
use Rattle.edi_static.proofs.Judging.{Gives, bind, ruled}
use Rattle.edi_static.proofs.Fitness.{headings_of, TypedFits}

pub never : {A : Type 0} → false ≡ true → A
never e = absurd (cc)

-- ---- operands

set_is : (shape : Shape) (t : ℕ) → is_set_of shape t ≡ true → shape ≡ set_of t
set_is (set_of b) t e = ap set_of (eqb-true b t e)
set_is other t e = never e

ordered : (types : List Shape) (s t : ℕ) → are_ordered types s t ≡ true → (s ≡ t) × IsTrue (is_elementary types s)
ordered types s t e = let h = and_parts (s == t) (is_elementary types s) e in (eqb-true s t h.0, h.1)

ints_or_sets : (types : List Shape) (s t : ℕ) → are_ints_or_sets types s t ≡ true → (s ≡ t) × IsTrue ((s == int_type) || is_set_shape (shape_at types s))
ints_or_sets types s t e =
    let h = and_parts (s == t) ((s == int_type) || is_set_shape (shape_at types s)) e in (eqb-true s t h.0, h.1)

both : (of s t : ℕ) → are_both of s t ≡ true → (s ≡ of) × (t ≡ of)
both of s t e = let h = and_parts (s == of) (t == of) e in (eqb-true s of h.0, eqb-true t of h.1)

operator_fits : (types : List Shape) (o : Operator) (s t : ℕ) → takes types o s t ≡ true → OperatorFits types o s t
operator_fits types op.Equal s t e = eqb-true s t e
operator_fits types op.NotEqual s t e = eqb-true s t e
operator_fits types op.Less s t e = ordered types s t e
operator_fits types op.LessOrEqual s t e = ordered types s t e
operator_fits types op.Greater s t e = ordered types s t e
operator_fits types op.GreaterOrEqual s t e = ordered types s t e
operator_fits types op.In s t e = set_is (shape_at types t) s e
operator_fits types op.Plus s t e = ints_or_sets types s t e
operator_fits types op.Minus s t e = ints_or_sets types s t e
operator_fits types op.Times s t e = ints_or_sets types s t e
operator_fits types op.Div s t e = both int_type s t e
operator_fits types op.Mod s t e = both int_type s t e
operator_fits types op.And s t e = both bool_type s t e
operator_fits types op.Or s t e = both bool_type s t e

-- ---- signs

pub signed_fits : (env : Environment) (s : Option Sign) (v : Typed) → TypedFits env v → Gives (TypedFits env) (signed s v)
signed_fits env None v h = h
signed_fits env (Some (sign.Plus line)) v h = ruled (TypedFits env) (v.of == int_type) kind.Types line _ (λ _. h)
signed_fits env (Some (sign.Minus line)) v h =
    ruled (TypedFits env) (v.of == int_type) kind.Types line _ (λ e. record { has_type = refl; fits = (h.has_type ∙ eqb-true v.of int_type e, h.fits) })

-- ---- chains

-- an operator with its right operand, behind a left operand of this type
pub record LinkedFits (env : Environment) (left : ℕ) (l : Linked) : Type 0 where
  pub has_type : links_type left (link_then l.what no_link) ≡ l.of
  pub fits : LinksFit env.types env.blocks (headings_of env.headings) (here env) left (link_then l.what no_link)

-- several
pub record ChainedFits (env : Environment) (left : ℕ) (c : Chained) : Type 0 where
  pub has_type : links_type left c.links ≡ c.of
  pub fits : LinksFit env.types env.blocks (headings_of env.headings) (here env) left c.links

pub operated_fits : (env : Environment) (o : Operator) (line left : ℕ) (right : Typed) → TypedFits env right
    → Gives (LinkedFits env left) (operated env.types o line left right)
operated_fits env o line left right h =
    ruled (LinkedFits env left) (takes env.types o left right.of) kind.Types line _ (λ e. record {
      has_type = refl;
      fits = (subst (OperatorFits env.types o left) (sym h.has_type) (operator_fits env.types o left right.of e), h.fits, tt);
    })

then_type : (left t : ℕ) (l : Link) (ls : Links) → links_type left (link_then l no_link) ≡ t → links_type left (link_then l ls) ≡ links_type t ls
then_type left t (link o e line) ls h = ap (λ s. links_type s ls) h

then_fits : (env : Environment) (left t : ℕ) (l : Link) (ls : Links) → links_type left (link_then l no_link) ≡ t
    → LinksFit env.types env.blocks (headings_of env.headings) (here env) left (link_then l no_link)
    → LinksFit env.types env.blocks (headings_of env.headings) (here env) t ls
    → LinksFit env.types env.blocks (headings_of env.headings) (here env) left (link_then l ls)
then_fits env left t (link o e line) ls h f g =
    (f.0, f.1, subst (λ s. LinksFit env.types env.blocks (headings_of env.headings) (here env) s ls) (sym h) g)

links_then : (env : Environment) (left : ℕ) (l : Linked) (ls : Chained) → LinkedFits env left l → ChainedFits env l.of ls
    → ChainedFits env left (record { links = link_then l.what ls.links; of = ls.of })
links_then env left l ls h k = record {
  has_type = then_type left l.of l.what ls.links h.has_type ∙ k.has_type;
  fits = then_fits env left l.of l.what ls.links h.has_type h.fits k.fits;
}

-- an operator with its right operand, and the chain behind it
pub chain_fits : (env : Environment) (left : ℕ) (m : Judged Linked) (rest : ℕ → Judged Chained) → Gives (LinkedFits env left) m
    → ((of : ℕ) → Gives (ChainedFits env of) (rest of)) → Gives (ChainedFits env left)
    (m >>= λ l. rest l.of >>= λ ls. gives (record { links = link_then l.what ls.links; of = ls.of }))
chain_fits env left m rest first more =
    bind (LinkedFits env left) (ChainedFits env left) m _ first (λ l k.
    bind (ChainedFits env l.of) (ChainedFits env left) (rest l.of) _ (more l.of) (λ ls j. links_then env left l ls k j))

pub link_alone : (env : Environment) (left : ℕ) (l : Linked) → LinkedFits env left l
    → ChainedFits env left (record { links = link_then l.what no_link; of = l.of })
link_alone env left l h = record { has_type = h.has_type; fits = h.fits }

chained : (env : Environment) (first : Typed) (ls : Links) (of : ℕ) → TypedFits env first → links_type first.of ls ≡ of
    → LinksFit env.types env.blocks (headings_of env.headings) (here env) first.of ls
    → TypedFits env (record { what = chain_of first.what ls; of = of })
chained env first no_link of h t f = record { has_type = h.has_type ∙ t; fits = h.fits }
chained env first (link_then l ls) of h t f = record {
  has_type = ap (λ s. links_type s (link_then l ls)) h.has_type ∙ t;
  fits =
      (tt, h.fits, subst (λ s. LinksFit env.types env.blocks (headings_of env.headings) (here env) s (link_then l ls)) (sym h.has_type) f);
}

pub with_links_fits : (env : Environment) (first : Typed) (more : Chained) → TypedFits env first → ChainedFits env first.of more
    → TypedFits env (with_links first more)
with_links_fits env first more h k = chained env first more.links more.of h k.has_type k.fits
