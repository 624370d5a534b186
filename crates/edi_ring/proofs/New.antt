-- The arrays of no node in any list.
use Rattle.std.proofs.Common.{◌≡◌, ℕ, suc, zero, ◌≤◌, List, [], refl, sym, ◌∙◌, replicate, arith}
use Rattle.std.specs.Prelude.{Option, Some, None}
use Rattle.std.proofs.Common.{get_or, length}
use Rattle.std.proofs.lemmas.List.{length-replicate, get_or_default}
use Rattle.edi_ring.specs.declared.Row.{Row}
use Rattle.edi_ring.specs.Links.{IsListed, no_row}

replicated : {A : Type 0} → (a : A) (n i : ℕ) → get_or (replicate n a) i a ≡ a
replicated a zero i = refl
replicated a (suc n) zero = refl
replicated a (suc n) (suc i) = replicated a n i

abbrev pub empty_row : ℕ → Row
empty_row places = record { nodes = replicate places 0; start = 0; len = 0 }

pub IsListed-new : (places nodes count : ℕ) → places ≡ 256 → nodes ≤ 256
    → IsListed (replicate nodes None) (replicate count (empty_row places)) (replicate count [])
IsListed-new places nodes count all small =
    let wide : length (replicate nodes None) ≡ nodes = length-replicate {A = Option ℕ} nodes None in
    record {
      as_many = length-replicate count [] ∙ sym (length-replicate count (empty_row places));
      bytes = omega (arith, wide, small);
      stands = λ l lt.
          rw (
            get_or_default (replicate count (empty_row places)) l no_row (empty_row places) lt,
            replicated (empty_row places) count l,
            replicated {A = List ℕ} [] count l,
          )
          (record { short = record { wide = length-replicate {A = ℕ} places 0 ∙ all; fits = omega arith; ends = omega arith }; is = refl });
      homes = λ l q i. absurd (rw (replicated {A = List ℕ} [] count l) at i);
      among_list = λ l q h. let nowhere : None ≡ Some l = sym (replicated {A = Option ℕ} None nodes q) ∙ h in absurd (cc);
      once = λ l. rw (replicated {A = List ℕ} [] count l) tt;
    }
