-- Locations in cells. Each leads to a cell that holds none, and a value is stored only where a location or a variable leads: so no value is put
-- in place of a location.
use Rattle.std.proofs.Common.{◌≡◌, ℕ, zero, suc, ◌-◌, ◌<◌, ◌≤◌, ◌⊎◌, inl, inr, false, List, [], ◌∷◌, ◌++◌, take, length, length-append}
use Rattle.std.proofs.Common.{Option, Some, None, refl, sym, subst, ap, ◌∙◌, arith}
use Rattle.std.specs.Prelude.{⊤, slice_set, slice_index_or}
use Rattle.std.proofs.lemmas.Bool.{cases_lt}
use Rattle.std.proofs.lemmas.List.{length-take}
use Rattle.edi_calls.specs.Names.{Name, same}
use Rattle.edi_calls.proofs.Names.{some_is, no_some}
use Rattle.edi_calls.proofs.Tables.{same-or-other}
use Rattle.edi_unit.specs.Tree.{ProgramUnit}
use Rattle.edi_unit.specs.Values.{Value}
use Rattle.edi_meaning.specs.Store.{Spot, Location, block_procedure, Cell, value, location, procedure, Instance, Store, Shape, instances}
use Rattle.edi_meaning.specs.Store.{frames, shape, now, with_cell_in, no_cell, cell, located, put, grown, shrunk, IsLive}
use Rattle.edi_meaning.specs.Whole.{instance_of}
use Rattle.edi_meaning.specs.Laws.{CellMeans}
use Rattle.edi_meaning.proofs.Lasting.{Every}
use Rattle.edi_meaning.proofs.Own.{every-at, new_cells_fit, instances-same, instances-other}
use Rattle.edi_meaning.proofs.Frames.{length-frames, returned}
use Rattle.edi_meaning.proofs.References.{Refers, length_is, cell_means}
use Rattle.edi_meaning.proofs.Living.{Setting, shrunk_refers, entered_refers, setting_inside}
use Rattle.edi_disjoint.specs.steps.Own.{reference, reference_at}

-- ---- lists of cells and of instances

set_reference : (cs : List Cell) (k j : ℕ) (v : Value) → reference (slice_index_or cs k no_cell) ≡ None →
    reference (slice_index_or (slice_set cs k (value v)) j no_cell) ≡ reference (slice_index_or cs j no_cell)
set_reference [] k j v e = refl
set_reference (c ∷ cs) zero zero v e = sym e
set_reference (c ∷ cs) zero (suc j) v e = refl
set_reference (c ∷ cs) (suc k) zero v e = refl
set_reference (c ∷ cs) (suc k) (suc j) v e = set_reference cs k j v e

-- a value in place of one changes no location
stored_reference : (is : List Instance) (depth variable d k : ℕ) (v : Value) → reference_at is depth variable ≡ None →
    reference_at (with_cell_in is depth variable (value v)) d k ≡ reference_at is d k
stored_reference [] depth variable d k v e = refl
stored_reference (i ∷ is) zero variable zero k v e = set_reference i.cells variable k v e
stored_reference (i ∷ is) zero variable (suc d) k v e = refl
stored_reference (i ∷ is) (suc depth) variable zero k v e = refl
stored_reference (i ∷ is) (suc depth) variable (suc d) k v e = stored_reference is depth variable d k v e

past_end : (is : List Instance) (d k : ℕ) → length is ≤ d → reference_at is d k ≡ None
past_end [] d k l = refl
past_end (i ∷ is) zero k l = absurd (omega (arith, l))
past_end (i ∷ is) (suc d) k l = past_end is d k (omega (arith, l))

taken_reference : (n : ℕ) (is : List Instance) (d k : ℕ) → d < n → reference_at (take n is) d k ≡ reference_at is d k
taken_reference zero is d k l = absurd (omega (arith, l))
taken_reference (suc n) [] d k l = refl
taken_reference (suc n) (i ∷ is) zero k l = refl
taken_reference (suc n) (i ∷ is) (suc d) k l = taken_reference n is d k (omega (arith, l))

-- without some at the end
pub fewer_references : (n : ℕ) (is : List Instance) (d k : ℕ) → (reference_at (take n is) d k ≡ reference_at is d k) ⊎ (reference_at (take n is) d k ≡ None)
fewer_references zero is d k = inr refl
fewer_references (suc n) [] d k = inl refl
fewer_references (suc n) (i ∷ is) zero k = inl refl
fewer_references (suc n) (i ∷ is) (suc d) k = fewer_references n is d k

-- with one more
before_new : (is : List Instance) (i : Instance) (d k : ℕ) → d < length is → reference_at (is ++ i ∷ []) d k ≡ reference_at is d k
before_new [] i d k l = absurd (omega (arith, l))
before_new (j ∷ is) i zero k l = refl
before_new (j ∷ is) i (suc d) k l = before_new is i d k (omega (arith, l))

old_or_new : (is : List Instance) (i : Instance) (d k : ℕ) →
    (reference_at (is ++ i ∷ []) d k ≡ reference_at is d k) ⊎ (reference_at (is ++ i ∷ []) d k ≡ reference (slice_index_or i.cells k no_cell))
old_or_new [] i zero k = inr refl
old_or_new [] i (suc d) k = inl refl
old_or_new (j ∷ is) i zero k = inl refl
old_or_new (j ∷ is) i (suc d) k = old_or_new is i d k

pub every_as : {A : Type 0} (P Q : A → Type 0) → ((a : A) → P a → Q a) → (xs : List A) → Every P xs → Every Q xs
every_as P Q f [] h = tt
every_as P Q f (x ∷ xs) h = (f x h.0, every_as P Q f xs h.1)

-- an instance without locations
abbrev pub NoReference : Cell → Type 0
NoReference c = reference c ≡ None

pub alone_reference : (i : Instance) → Every NoReference i.cells → (d k : ℕ) → reference_at (i ∷ []) d k ≡ None
alone_reference i h zero k = every-at NoReference i.cells k no_cell h refl
alone_reference i h (suc d) k = refl

-- ---- the locations of a store

abbrev pub References : Type 0
References = Name → ℕ → ℕ → Option Location

abbrev pub references_of : Store → References
references_of store r d k = reference_at (instances store r) d k

-- each leads to a cell that holds none
pub record Flat (B : References) : Type 0 where
  pub leads : (r : Name) (d k : ℕ) (l : Location) → B r d k ≡ Some l → B l.spot.0 l.spot.1 l.variable ≡ None

-- so it is with fewer of them
pub flat_less : (B C : References) → Flat B → ((r : Name) (d k : ℕ) → (C r d k ≡ B r d k) ⊎ (C r d k ≡ None)) → Flat C
flat_less B C h less = record { leads = λ r d k l e. go r d k l e (less r d k) (less l.spot.0 l.spot.1 l.variable) }
  where
    go : (r : Name) (d k : ℕ) (l : Location) → C r d k ≡ Some l → (C r d k ≡ B r d k) ⊎ (C r d k ≡ None) →
        (C l.spot.0 l.spot.1 l.variable ≡ B l.spot.0 l.spot.1 l.variable) ⊎ (C l.spot.0 l.spot.1 l.variable ≡ None) → C l.spot.0 l.spot.1 l.variable ≡ None
    go r d k l e (inr n) m = absurd (no_some (C r d k) n e)
    go r d k l e (inl q) (inr m) = m
    go r d k l e (inl q) (inl m) = m ∙ h.leads r d k l (sym q ∙ e)

pub located_none : (B : References) → Flat B → (t : Spot) (variable : ℕ) (c : Cell) → reference c ≡ B t.0 t.1 variable →
    B (located t variable c).spot.0 (located t variable c).spot.1 (located t variable c).variable ≡ None
located_none B h t variable (value v) e = sym e
located_none B h t variable (location l) e = h.leads t.0 t.1 variable l (sym e)
located_none B h t variable (procedure c) e = sym e

-- two cells with the same location, if any, lead to the same
pub same_located : (t : Spot) (variable : ℕ) (c d : Cell) → reference c ≡ reference d → located t variable c ≡ located t variable d
same_located t variable (value y) (value z) e = refl
same_located t variable (value y) (procedure d) e = refl
same_located t variable (procedure c) (value z) e = refl
same_located t variable (procedure c) (procedure d) e = refl
same_located t variable (location l) (location m) e = some_is e
same_located t variable (location l) (value z) e = absurd (no_some None refl (sym e))
same_located t variable (location l) (procedure d) e = absurd (no_some None refl (sym e))
same_located t variable (value y) (location m) e = absurd (no_some None refl e)
same_located t variable (procedure c) (location m) e = absurd (no_some None refl e)

-- what a location that a cell holds leads to lives
means_live : (F : Shape) (s : Spot) (c : Cell) (l : Location) → CellMeans F s c → reference c ≡ Some l → IsLive F l.spot
means_live F s (value v) l h e = absurd (no_some None refl e)
means_live F s (location m) l h e = subst (λ (n : Location). IsLive F n.spot) (some_is e) h.live
means_live F s (procedure c) l h e = absurd (no_some None refl e)

abbrev pub CellLeads : References → Cell → Type 0
CellLeads B (value v) = ⊤
CellLeads B (location l) = B l.spot.0 l.spot.1 l.variable ≡ None
CellLeads B (procedure c) = ⊤

-- ---- evaluation

-- a process p runs, all that is meant lives, and the locations are these
pub record Holding (p : Name) (F : Shape) (B : References) (store : Store) : Type 0 where
  pub setting : Setting p F
  pub refers : Refers F store
  pub given : (r : Name) (d k : ℕ) → references_of store r d k ≡ B r d k
  pub flat : Flat B

module _ (p : Name) (F : Shape) (B : References) (store : Store) (h : Holding p F B store) where
  pub put_same : (l : Location) (v : Value) → B l.spot.0 l.spot.1 l.variable ≡ None → (r : Name) (d k : ℕ) → references_of (put store l v) r d k ≡ B r d k
  put_same l v none r d k = go (same-or-other r l.spot.0)
    where
      go : (r ≡ l.spot.0) ⊎ (same r l.spot.0 ≡ false) → references_of (put store l v) r d k ≡ B r d k
      go (inl e) =
          ap (λ (x : Name). references_of (put store l v) x d k) e ∙ ap (λ (is : List Instance). reference_at is d k) (instances-same store l.spot.0 _)
          ∙ stored_reference (instances store l.spot.0) l.spot.1 l.variable d k _ (h.given l.spot.0 l.spot.1 l.variable ∙ none)
          ∙ h.given l.spot.0 d k ∙ ap (λ (x : Name). B x d k) (sym e)
      go (inr n) = ap (λ (is : List Instance). reference_at is d k) (instances-other store l.spot.0 r _ n) ∙ h.given r d k

  -- a block is entered
  module _ (unit : ProgramUnit) (size number : ℕ) (parent : Spot) (cells : List Cell) (c : CellMeans F (now F p) (procedure (block_procedure number parent)))
      (f : Every (λ x. CellMeans F (now F p) x × CellLeads B x) cells) where
    abbrev i : Instance
    i = instance_of unit p size number parent cells

    abbrev after : Store
    after = grown p i store

    abbrev G : Shape
    G = shape after

    abbrev C : References
    C = references_of after

    means : Every (CellMeans F (now F p)) cells
    means = every_as (λ x. CellMeans F (now F p) x × CellLeads B x) (CellMeans F (now F p)) (λ x k. k.0) cells f

    abbrev Good : Cell → Type 0
    Good x = (l : Location) → reference x ≡ Some l → IsLive F l.spot × (B l.spot.0 l.spot.1 l.variable ≡ None)

    good_argument : (x : Cell) → CellMeans F (now F p) x × CellLeads B x → Good x
    good_argument (value v) k l e = absurd (no_some None refl e)
    good_argument (location m) k l e = subst (λ (n : Location). IsLive F n.spot × (B n.spot.0 n.spot.1 n.variable ≡ None)) (some_is e) (k.0.live, k.1)
    good_argument (procedure d) k l e = absurd (no_some None refl e)

    good_new : (k : ℕ) → Good (slice_index_or i.cells k no_cell)
    good_new k = every-at Good i.cells k no_cell
        (new_cells_fit Good (λ v l e. absurd (no_some None refl e)) unit p size number parent cells
        (every_as (λ x. CellMeans F (now F p) x × CellLeads B x) Good good_argument cells f))
        (λ l e. absurd (no_some None refl e))

    good_old : (r : Name) (d k : ℕ) (l : Location) → B r d k ≡ Some l → IsLive F l.spot × (B l.spot.0 l.spot.1 l.variable ≡ None)
    good_old r d k l e = (
      means_live F (r, d) (cell store (r, d) k) l (cell_means F store h.refers (r, d) k) (h.given r d k ∙ e),
      h.flat.leads r d k l e,
    )

    still : (s : Spot) (k : ℕ) → IsLive F s → C s.0 s.1 k ≡ B s.0 s.1 k
    still s k l = go (same-or-other s.0 p)
      where
        go : (s.0 ≡ p) ⊎ (same s.0 p ≡ false) → C s.0 s.1 k ≡ B s.0 s.1 k
        go (inl e) =
            let low : s.1 < length (instances store p) = omega (arith, l, length_is F store h.refers.shape p, ap (λ (x : Name). length (F x)) e) in
            ap (λ (x : Name). C x s.1 k) e ∙ ap (λ (is : List Instance). reference_at is s.1 k) (instances-same store p (instances store p ++ i ∷ []))
            ∙ before_new (instances store p) i s.1 k low ∙ h.given p s.1 k ∙ ap (λ (x : Name). B x s.1 k) (sym e)
        go (inr n) = ap (λ (is : List Instance). reference_at is s.1 k) (instances-other store p s.0 (instances store p ++ i ∷ []) n) ∙ h.given s.0 s.1 k

    each : (r : Name) (d k : ℕ) → (C r d k ≡ B r d k) ⊎ ((x : Cell) × Good x × (C r d k ≡ reference x))
    each r d k = go (same-or-other r p) (old_or_new (instances store p) i d k)
      where
        there : r ≡ p → C r d k ≡ reference_at (instances store p ++ i ∷ []) d k
        there e = ap (λ (x : Name). C x d k) e ∙ ap (λ (is : List Instance). reference_at is d k) (instances-same store p (instances store p ++ i ∷ []))

        go : (r ≡ p) ⊎ (same r p ≡ false) →
            (reference_at (instances store p ++ i ∷ []) d k ≡ reference_at (instances store p) d k)
            ⊎ (reference_at (instances store p ++ i ∷ []) d k ≡ reference (slice_index_or i.cells k no_cell)) →
            (C r d k ≡ B r d k) ⊎ ((x : Cell) × Good x × (C r d k ≡ reference x))
        go (inr n) o = inl (ap (λ (is : List Instance). reference_at is d k) (instances-other store p r (instances store p ++ i ∷ []) n) ∙ h.given r d k)
        go (inl e) (inl q) = inl (there e ∙ q ∙ h.given p d k ∙ ap (λ (x : Name). B x d k) (sym e))
        go (inl e) (inr q) = inr (slice_index_or i.cells k no_cell, good_new k, there e ∙ q)

    pub flat_after : Flat C
    flat_after = record { leads = λ r d k l e. go r d k l e (each r d k) }
      where
        led : (l : Location) → IsLive F l.spot × (B l.spot.0 l.spot.1 l.variable ≡ None) → C l.spot.0 l.spot.1 l.variable ≡ None
        led l g = still l.spot l.variable g.0 ∙ g.1

        go : (r : Name) (d k : ℕ) (l : Location) → C r d k ≡ Some l → (C r d k ≡ B r d k) ⊎ ((x : Cell) × Good x × (C r d k ≡ reference x)) →
            C l.spot.0 l.spot.1 l.variable ≡ None
        go r d k l e (inl q) = led l (good_old r d k l (sym q ∙ e))
        go r d k l e (inr q) = led l (q.1 l (sym q.2 ∙ e))

    pub entered : Holding p G C after
    entered = record {
      setting = setting_inside unit p size F i store h.refers.shape h.setting;
      refers = entered_refers unit p size F number parent cells store c means h.refers;
      given = λ r d k. refl;
      flat = flat_after;
    }

    pub back : (v : Store) → Holding p G C v → Holding p F B (shrunk p v)
    back v j = record {
      setting = h.setting;
      refers = shrunk_refers G F v p j.setting.alone j.refers (returned p i F store v h.refers.shape j.refers.shape);
      given = λ r d k. go r d k (same-or-other r p);
      flat = h.flat;
    }
      where
        n : ℕ
        n = length (instances v p) - 1

        many : n ≡ length (instances store p)
        many = omega (
          arith,
          length_is G v j.refers.shape p,
          ap (λ (is : List Instance). length (frames is)) (instances-same store p (instances store p ++ i ∷ [])),
          length-frames (instances store p ++ i ∷ []),
          length-append (instances store p) (i ∷ []),
        )

        here : (d k : ℕ) → (d < n) ⊎ (n ≤ d) → reference_at (take n (instances v p)) d k ≡ B p d k
        here d k (inl l) =
            taken_reference n (instances v p) d k l ∙ j.given p d k
            ∙ ap (λ (is : List Instance). reference_at is d k) (instances-same store p (instances store p ++ i ∷ []))
            ∙ before_new (instances store p) i d k (omega (arith, l, many)) ∙ h.given p d k
        here d k (inr l) =
            past_end (take n (instances v p)) d k (omega (arith, l, length-take n (instances v p)))
            ∙ sym (past_end (instances store p) d k (omega (arith, l, many))) ∙ h.given p d k

        go : (r : Name) (d k : ℕ) → (r ≡ p) ⊎ (same r p ≡ false) → references_of (shrunk p v) r d k ≡ B r d k
        go r d k (inl e) =
            ap (λ (x : Name). references_of (shrunk p v) x d k) e ∙ ap (λ (is : List Instance). reference_at is d k) (instances-same v p (take n (instances v p)))
            ∙ here d k (cases_lt d n) ∙ ap (λ (x : Name). B x d k) (sym e)
        go r d k (inr m) =
            ap (λ (is : List Instance). reference_at is d k) (instances-other v p r (take n (instances v p)) m) ∙ j.given r d k
            ∙ ap (λ (is : List Instance). reference_at is d k) (instances-other store p r (instances store p ++ i ∷ []) m) ∙ h.given r d k
