-- Where the table tells that no point stands at an address, an arrival there gives no line.
use Rattle.std.proofs.Common.{◌≡◌, ℕ, zero, suc, ◌-◌, ◌≤◌, length, map, get_or, Bool, true, false, if◌then◌else◌, List, [], ◌∷◌, ◌++◌, All, Option, Some, None, refl, sym, ap, subst, ◌∙◌, arith}
use Rattle.std.specs.Prelude.{◌==◌, ◌<◌, ◌+◌, nat_lt}
use Rattle.std.proofs.lemmas.Bool.{eqb-true, false≢true}
use Rattle.std.specs.Option.{option_map}
use Rattle.edi_unit.specs.Tree.{ProgramUnit}
use Rattle.edi_machine.specs.declared.activity.Activity.{Activity}
use Rattle.edi_target.specs.Arrivals.{Arrived}
use Rattle.edi_scheme.specs.Awaits.{await_address}
use Rattle.edi_sights.specs.declared.answer.Sight.{Sight}
use Rattle.edi_debug.specs.declared.answer.Point.{Point}
use Rattle.edi_debug.specs.Points.{watched}
use Rattle.edi_debug.specs.Looking.{arrived_now, stop_now}
use Rattle.edi_debug.specs.stops.Near.{is_near, may_stop, TellsSight, TellsPoint, TellsPoints}
use Rattle.edi_debug.specs.stops.Stops.{Watched, each_in}
use Rattle.edi_debug.specs.stops.Watching.{is_address_here, slot_lines, sight_lines, point_lines, stop_lines}

-- nothing of anything is nothing
none_in : {A : Type 0} (f : A → List (List ℕ)) (xs : List A) → All (λ x. f x ≡ []) xs → each_in f xs ≡ []
none_in f [] h = refl
none_in f (x ∷ xs) h =
    ap (λ l. l ++ each_in f xs) (h zero x (omega arith)) ∙ none_in f xs (λ i d l. h (suc i) d (omega (arith, l)))

module _ (unit : ProgramUnit) (bound : ℕ) (table : List Bool) (y : Arrived) (far : is_near table y.activity.pc ≡ false) where
  elsewhere : (o : Option ℕ) → ((at : ℕ) → o ≡ Some at → is_near table at ≡ true) → is_address_here o y.activity.pc ≡ false
  elsewhere None tells = refl
  elsewhere (Some a) tells = by (a == y.activity.pc) refl
    where
      by : (t : Bool) → (a == y.activity.pc) ≡ t → (a == y.activity.pc) ≡ false
      by false e = e
      by true e =
          absurd (false≢true (sym far ∙ subst (λ at. is_near table at ≡ true) (eqb-true a y.activity.pc e) (tells a refl)))

  no_line : (p : Watched) (s : Sight) → TellsSight unit table s → sight_lines unit bound y p s ≡ []
  no_line p s tells =
      ap (λ (b : Bool). if b then slot_lines unit bound y p s.block s.slot else []) (elsewhere (await_address unit s.block s.index) tells)

  no_lines : (p : Watched) → TellsPoint unit table p → point_lines unit bound y p ≡ []
  no_lines p tells = none_in (sight_lines unit bound y p) p.sights (λ i d l. no_line p _ (tells i d l))

  pub nothing_near : (points : List Watched) → TellsPoints unit table points → stop_lines unit bound points y ≡ []
  nothing_near points tells = none_in (point_lines unit bound y) points (λ i d l. no_lines _ (tells i d l))

-- where no process stands, or none at such an address, nothing is logged
pub nothing_stands : (unit : ProgramUnit) (bound : ℕ) (table : List Bool) (memory : List ℕ) (used : ℕ) (o : Option Activity) (points : List Watched)
    → may_stop table o ≡ false → TellsPoints unit table points → stop_now unit bound memory o used points ≡ []
nothing_stands unit bound table memory used None points far tells = refl
nothing_stands unit bound table memory used (Some a) points far tells = nothing_near unit bound table (arrived_now memory a (bound - used)) far points tells

-- by the address alone
pub stops_at : (table : List Bool) (o : Option Activity) (at : ℕ) → option_map (λ (a : Activity). a.pc) o ≡ Some at → is_near table at ≡ may_stop table o
stops_at table None at e = absurd (cc)
stops_at table (Some a) at e = let h : a.pc ≡ at = cc in ap (is_near table) (sym h)

pub stops_nowhere : (table : List Bool) (o : Option Activity) → option_map (λ (a : Activity). a.pc) o ≡ None → false ≡ may_stop table o
stops_nowhere table None e = refl
stops_nowhere table (Some a) e = absurd (cc)

-- ---- the table, as it is filled

-- what is so of the first of a list, and of the next, is so of one more
pub one_more : (P : ℕ → Type 0) (n i : ℕ) → i < n + 1 → ((k : ℕ) → k < n → P k) → P n → P i
one_more P n i l before here = by (nat_lt i n) refl
  where
    by : (t : Bool) → nat_lt i n ≡ t → P i
    by true e = before i (grind (arith, e))
    by false e =
        let past : n ≤ i = grind (arith, e) in
        subst P (omega (arith, l, past)) here

-- what is so of each point as the code has it, is so of each that it stands for
pub all_watched : (P : Watched → Type 0) (points : List Point) (n : ℕ) → length points ≤ n
    → ((i : ℕ) (d : Point) → i < n → P (watched (get_or points i d))) → All P (map watched points)
all_watched P [] n all each zero d l = absurd (omega (arith, l))
all_watched P [] n all each (suc i) d l = absurd (omega (arith, l))
all_watched P (p ∷ points) n all each zero d l = each zero p (omega (arith, all))
all_watched P (p ∷ points) n all each (suc i) d l =
    all_watched P points (n - 1) (omega (arith, all)) (λ k e m. each (suc k) e (omega (arith, m))) i d (omega (arith, l))
