-- The lines that the arrivals of a run give are those that the arrivals of the meaning give.
use Rattle.std.proofs.Common.{◌≡◌, ◌⊎◌, inl, inr, ℕ, suc, ◌+◌, ◌-◌, true, false, ◌&&◌, ◌==◌, if◌then◌else◌, List, [], ◌∷◌, ◌++◌, Option, Some, None}
use Rattle.std.proofs.Common.{refl, sym, subst, ap, ◌∙◌, arith}
use Rattle.std.proofs.lemmas.Bool.{eq-eqb, ne_eqb}
use Rattle.std.proofs.lemmas.Bool.Decides.{eqb_tells}
use Rattle.std.specs.List.{All}
use Rattle.edi_word.specs.Words.{signed}
use Rattle.edi_unit.specs.declared.units.Parameter.TheVariants as slot
use Rattle.edi_unit.specs.Tree.{ProgramUnit}
use Rattle.edi_unit.specs.Need.{outer, slot_at}
use Rattle.edi_target.specs.Memory.{level}
use Rattle.edi_scheme.specs.Pieces.{is_address}
use Rattle.edi_sights.specs.declared.answer.Sight.{Sight}
use Rattle.edi_sights.specs.declared.answer.Sighted.{Sighted}
use Rattle.edi_scheme.specs.Awaits.{await_number, await_address, variable_offset}
use Rattle.edi_meaning.specs.Arrivals.{Arrival}
use Rattle.edi_target.specs.Arrivals.{Arrived}
use Rattle.edi_follows.specs.Arrivals.{StandsFor, AreAlike, ordinal_at}
use Rattle.edi_debug.specs.stops.Stops.{Watched, line_of, each_in, is_number}
use Rattle.edi_debug.specs.stops.Stops as source
use Rattle.edi_debug.specs.stops.Watching as target
use Rattle.edi_debug.specs.stops.Watching.{is_address_here, meant_word, ordinal_in}
use Rattle.edi_debug.specs.stops.Seen.{IsElementaryVariable, SlotFits, SightFits, PointFits, PointsFit}

-- one address is that of one `when`
abbrev pub AddressesDiffer : ProgramUnit → Type 0
AddressesDiffer unit =
    (b i c j at : ℕ) → await_address unit b i ≡ Some at → await_address unit c j ≡ Some at → (b ≡ c) × (i ≡ j)

module _ (unit : ProgramUnit) (bound : ℕ) (differ : AddressesDiffer unit) (x : Arrival) (y : Arrived) (h : StandsFor unit x y) where
  -- the variable that a sight of that `when` names has its ordinal there
  ordinal_is : (s : Sighted) → IsElementaryVariable unit x.position.of s →
      ordinal_in unit bound y.memory y.activity.base x.position.of s ≡ ordinal_at unit x s.levels s.variable
  ordinal_is s fits = go fits.holds
    where
      a : ℕ
      a = level y.memory s.levels y.activity.base + variable_offset unit (outer unit.blocks x.position.of s.levels) s.variable

      go : (slot_at unit.blocks x.position.of s.levels s.variable ≡ Some (slot.Value fits.of))
          ⊎ (slot_at unit.blocks x.position.of s.levels s.variable ≡ Some (slot.Var fits.of)) →
          ordinal_in unit bound y.memory y.activity.base x.position.of s ≡ ordinal_at unit x s.levels s.variable
      go (inl e) =
          ap (λ o. signed (meant_word unit bound (is_address o) y.memory a)) e ∙ h.values s.levels s.variable fits.of e fits.elementary
      go (inr e) =
          ap (λ o. signed (meant_word unit bound (is_address o) y.memory a)) e ∙ h.places s.levels s.variable fits.of e fits.elementary

  -- a sight of another `when` says nothing on both sides, one of this `when` the same
  slots_same : (p : Watched) (o : Option Sighted) → SlotFits unit x.position.of o →
      target.slot_lines unit bound y p x.position.of o ≡ source.slot_lines unit bound x p o
  slots_same p None fits = refl
  slots_same p (Some s) fits =
      (λ i. line_of (bound - h.turns i) p.line p.name (ordinal_is s fits i) ∷ [])

  -- whether a sight is of this `when`, by its place and by its address
  here_same : (s : Sight) → SightFits unit s → is_address_here (await_address unit s.block s.index) y.activity.pc
      ≡ (s.block == x.position.of && is_number (await_number unit x.position) s.index)
  here_same s fits =
      ap (λ o. is_address_here o y.activity.pc) fits.stands ∙ sym (by_place (eqb_tells s.block x.position.of) (eqb_tells h.number s.index))
      ∙ ap (λ o. s.block == x.position.of && is_number o s.index) (sym h.is)
    where
      apart : (s.block ≡ x.position.of → h.number ≡ s.index → ⊥) → (fits.at == y.activity.pc) ≡ false
      apart never = ne_eqb fits.at y.activity.pc (λ e.
          let one : (s.block ≡ x.position.of) × (s.index ≡ h.number) =
          differ s.block s.index x.position.of h.number y.activity.pc (fits.stands ∙ ap (λ z. Some z) e) h.address in
          never one.0 (sym one.1))

      by_place : (((s.block == x.position.of) ≡ true) × (s.block ≡ x.position.of)) ⊎ (((s.block == x.position.of) ≡ false) × (s.block ≡ x.position.of → ⊥)) →
          (((h.number == s.index) ≡ true) × (h.number ≡ s.index)) ⊎ (((h.number == s.index) ≡ false) × (h.number ≡ s.index → ⊥)) →
          (s.block == x.position.of && is_number (Some h.number) s.index) ≡ is_address_here (Some fits.at) y.activity.pc
      by_place (inl m) (inl n) =
          (λ i. m.0 i && n.0 i)
          ∙ sym (eq-eqb fits.at y.activity.pc (same_address (sym fits.stands ∙ (λ i. await_address unit (m.1 i) (sym n.1 i)) ∙ h.address)))
        where
          same_address : {a c : ℕ} → Some a ≡ Some c → a ≡ c
          same_address e = cc
      by_place (inl m) (inr n) = (λ i. m.0 i && n.0 i) ∙ sym (apart (λ e f. n.1 f))
      by_place (inr m) n = ap (λ c. c && (h.number == s.index)) m.0 ∙ sym (apart (λ e f. m.1 e))

  sights_same : (p : Watched) (s : Sight) → SightFits unit s → target.sight_lines unit bound y p s ≡ source.sight_lines unit bound x p s
  sights_same p s fits = ap (λ c. if c then target.slot_lines unit bound y p s.block s.slot else []) (here_same s fits)
      ∙ go (eqb_tells s.block x.position.of)
    where
      go : (((s.block == x.position.of) ≡ true) × (s.block ≡ x.position.of)) ⊎ (((s.block == x.position.of) ≡ false) × (s.block ≡ x.position.of → ⊥)) →
          (if s.block == x.position.of && is_number (await_number unit x.position) s.index then target.slot_lines unit bound y p s.block s.slot else [])
          ≡ source.sight_lines unit bound x p s
      go (inl m) =
          ap (λ l. if s.block == x.position.of && is_number (await_number unit x.position) s.index then l else [])
          (ap (λ b. target.slot_lines unit bound y p b s.slot) m.1 ∙ slots_same p s.slot (subst (λ b. SlotFits unit b s.slot) m.1 fits.slot_fits))
      go (inr m) =
          ap (λ c. if c && is_number (await_number unit x.position) s.index then target.slot_lines unit bound y p s.block s.slot else []) m.0
          ∙ sym (ap (λ c. if c && is_number (await_number unit x.position) s.index then source.slot_lines unit bound x p s.slot else []) m.0)

  points_same : (p : Watched) → PointFits unit p → target.point_lines unit bound y p ≡ source.point_lines unit bound x p
  points_same p fits = each p.sights fits
    where
      each : (ss : List Sight) → All (SightFits unit) ss → each_in (target.sight_lines unit bound y p) ss ≡ each_in (source.sight_lines unit bound x p) ss
      each [] h = refl
      each (s ∷ ss) h =
          (λ i. sights_same p s (h 0 s (omega arith)) i ++ each ss (λ k d l. h (suc k) d (omega (arith, l))) i)

  pub stops_same : (points : List Watched) → PointsFit unit points → target.stop_lines unit bound points y ≡ source.stop_lines unit bound points x
  stops_same [] fits = refl
  stops_same (p ∷ points) fits =
      (λ i. points_same p (fits 0 p (omega arith)) i ++ stops_same points (λ k d l. fits (suc k) d (omega (arith, l))) i)

-- so of all arrivals
pub lines_same : (unit : ProgramUnit) (bound : ℕ) → AddressesDiffer unit → (points : List Watched) → PointsFit unit points →
    (xs : List Arrival) (ys : List Arrived) → AreAlike unit xs ys →
    target.run_lines unit bound points ys ≡ each_in (source.stop_lines unit bound points) xs
lines_same unit bound differ points fits [] [] h = refl
lines_same unit bound differ points fits [] (y ∷ ys) h = absurd h
lines_same unit bound differ points fits (x ∷ xs) [] h = absurd h
lines_same unit bound differ points fits (x ∷ xs) (y ∷ ys) h =
    (λ i. stops_same unit bound differ x y h.0 points fits i ++ lines_same unit bound differ points fits xs ys h.1 i)
