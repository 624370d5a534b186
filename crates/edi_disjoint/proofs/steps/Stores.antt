-- Two stores in which a process has the same instances, and its ancestors the same frames and the same locations.
use Rattle.std.proofs.Common.{◌≡◌, ℕ, ◌⊎◌, inl, inr, false, List, sym, subst, ap, ◌∙◌}
use Rattle.std.specs.Prelude.{slice_index_or}
use Rattle.edi_calls.specs.Names.{Name, same, with_at}
use Rattle.edi_calls.proofs.Tables.{same-or-other}
use Rattle.edi_unit.specs.Values.{Value}
use Rattle.edi_meaning.specs.Parts.{with_part}
use Rattle.edi_meaning.specs.Store.{Location, value, Instance, Store, instances, frames, shape, cells_in, with_cell_in, no_cell, value_in, put, Owns}
use Rattle.edi_meaning.proofs.Own.{instances-same, instances-other}
use Rattle.edi_disjoint.specs.steps.Own.{reference_at}

module _ (p : Name) (before : Store) where
  -- p has the same in both; its ancestors have the same frames and locations; and all others have in the second what they had before
  pub record SameOwn (w u : Store) : Type 0 where
    pub own : instances u p ≡ instances w p
    pub alike : (r : Name) → Owns p r → shape u r ≡ shape w r
    pub references : (r : Name) (depth variable : ℕ) → Owns p r → reference_at (instances u r) depth variable ≡ reference_at (instances w r) depth variable
    pub others : (r : Name) → same r p ≡ false → instances u r ≡ instances before r

  -- so it is where p has others, the same in both
  pub same_with : (w u : Store) → SameOwn w u → (f : List Instance → List Instance) → SameOwn (with_at w p (f (instances w p))) (with_at u p (f (instances u p)))
  same_with w u h f = record {
    own = own;
    alike = λ r o. go frames r (h.alike r o) (same-or-other r p);
    references = λ r depth variable o. go (λ is. reference_at is depth variable) r (h.references r depth variable o) (same-or-other r p);
    others = λ r n. instances-other u p r (f (instances u p)) n ∙ h.others r n;
  }
    where
      own : instances (with_at u p (f (instances u p))) p ≡ instances (with_at w p (f (instances w p))) p
      own = instances-same u p (f (instances u p)) ∙ ap f h.own ∙ sym (instances-same w p (f (instances w p)))

      go : {A : Type 0} (of : List Instance → A) (r : Name) → of (instances u r) ≡ of (instances w r) → (r ≡ p) ⊎ (same r p ≡ false) →
          of (instances (with_at u p (f (instances u p))) r) ≡ of (instances (with_at w p (f (instances w p))) r)
      go of r k (inl e) =
          ap (λ (x : Name). of (instances (with_at u p (f (instances u p))) x)) e ∙ ap of own ∙ sym (ap (λ (x : Name). of (instances (with_at w p (f (instances w p))) x)) e)
      go of r k (inr n) =
          ap of (instances-other u p r (f (instances u p)) n) ∙ k ∙ sym (ap of (instances-other w p r (f (instances w p)) n))

  pub same_put : (w u : Store) → SameOwn w u → (l : Location) (y : Value) → l.spot.0 ≡ p → SameOwn (put w l y) (put u l y)
  same_put w u h l y e =
      subst (λ n. SameOwn (with_at w n (write (instances w n))) (with_at u n (write (instances u n)))) (sym e) (same_with w u h write)
    where
      write : List Instance → List Instance
      write is = with_cell_in is l.spot.1 l.variable (value (with_part (value_in (slice_index_or (cells_in is l.spot.1) l.variable no_cell)) l.path y))
