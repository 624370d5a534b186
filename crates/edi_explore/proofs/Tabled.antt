-- The parts of a state as a list, as the laws of a search speak of them.
use Rattle.std.proofs.Common.{◌≡◌, ℕ, zero, suc, ◌<◌, true, List, [], ◌∷◌, ◌++◌, length, Contains, Option, Some, None, refl, sym, ap, subst, ◌∙◌, arith}
use Rattle.std.specs.Prelude.{slice_get}
use Rattle.edi_calls.proofs.Names.{some_is}
use Rattle.edi_kernel.specs.declared.kept.Kept.{Kept}
use Rattle.edi_kernel.specs.declared.state.KernelState.{KernelState}
use Rattle.edi_kernel.specs.Table.{is_live}
use Rattle.edi_kernel.specs.Kept.{IsKeptOf}
use Rattle.edi_explored.specs.machine.Kernels as law
use Rattle.edi_explored.specs.machine.Kernels.{AreKeptOf}
use Rattle.edi_explore.specs.Back.{IsPart, AreProcesses, AreApart}
use Rattle.edi_explore.specs.Tables.{parts_at, with_part}

behind : (part : Kept) (x : Option Kept) (parts : List Kept) → Contains parts part → Contains (with_part x parts) part
behind part None parts c = c
behind part (Some y) parts c = (suc c.0, omega (arith, c.1), c.2)

pub has_part : (kept : List Kept) (numbers : List ℕ) (index : ℕ) (part : Kept) → IsPart kept numbers index part → Contains (parts_at kept numbers) part
has_part kept [] index part p = let e : None ≡ Some p.number = p.at in absurd (cc)
has_part kept (n ∷ numbers) zero part p =
    let same : n ≡ p.number = some_is p.at in
    let here : slice_get kept n ≡ Some part = ap (slice_get kept) same ∙ p.is in
    subst (λ x. Contains (with_part x (parts_at kept numbers)) part) (sym here) (0, omega arith, refl)
has_part kept (n ∷ numbers) (suc index) part p =
    behind part (slice_get kept n) (parts_at kept numbers) (has_part kept numbers index part (record { number = p.number; at = p.at; is = p.is }))

pub part_of : (kept : List Kept) (numbers : List ℕ) (part : Kept) → Contains (parts_at kept numbers) part → (index : ℕ) × IsPart kept numbers index part
part_of kept [] part c = absurd (omega (arith, c.1))
part_of kept (n ∷ numbers) part c = go (slice_get kept n) refl c (part_of kept numbers part)
  where
    later : (index : ℕ) × IsPart kept numbers index part → (index : ℕ) × IsPart kept (n ∷ numbers) index part
    later r = (suc r.0, record { number = r.1.number; at = r.1.at; is = r.1.is })

    go : (x : Option Kept) → slice_get kept n ≡ x → Contains (with_part x (parts_at kept numbers)) part →
        (Contains (parts_at kept numbers) part → (index : ℕ) × IsPart kept numbers index part) → (index : ℕ) × IsPart kept (n ∷ numbers) index part
    go None e c more = later (more c)
    go (Some y) e (zero, l, is) more = (0, record { number = n; at = refl; is = e ∙ ap Some is })
    go (Some y) e (suc k, l, is) more = later (more (k, omega (arith, l), is))

module _ (kept : List Kept) (numbers : List ℕ) (k : KernelState) where
  pub are_kept : ((index : ℕ) (part : Kept) → IsPart kept numbers index part → IsKeptOf k part) →
      ((slot : ℕ) → is_live k.table slot ≡ true → (index : ℕ) × (part : Kept) × IsPart kept numbers index part × (part.slot ≡ slot)) →
      AreKeptOf (parts_at kept numbers) k
  are_kept each all = record {
    each = λ part c. let r = part_of kept numbers part c in each r.0 part r.1;
    all = λ slot l. let r = all slot l in (r.1, has_part kept numbers r.0 r.1 r.2, r.3);
  }

pub are_apart : (kept : List Kept) (numbers : List ℕ) → AreProcesses kept numbers → law.AreApart (parts_at kept numbers) → AreApart kept numbers
are_apart kept numbers p apart i j a b x y n = apart a b (has_part kept numbers i a x) (has_part kept numbers j b y) (λ e. n (p.distinct i j a b x y e))

-- what is added behind changes nothing
pub there_still : {X : Type 0} (kept more : List X) (n : ℕ) → n < length kept → slice_get (kept ++ more) n ≡ slice_get kept n
there_still [] more n l = absurd (omega (arith, l))
there_still (x ∷ kept) more zero l = refl
there_still (x ∷ kept) more (suc n) l = there_still kept more n (omega (arith, l))

pub parts_last : (kept more : List Kept) (numbers : List ℕ) → ((index number : ℕ) → slice_get numbers index ≡ Some number → number < length kept) →
    parts_at (kept ++ more) numbers ≡ parts_at kept numbers
parts_last kept more [] h = refl
parts_last kept more (n ∷ numbers) h =
    (λ i. with_part (there_still kept more n (h 0 n refl) i) (parts_last kept more numbers (λ index number e. h (suc index) number e) i))
