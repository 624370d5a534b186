-- The calls that lead to a process between two of its steps: each frame but the lowest keeps where its call stands, which was written on the line
-- that the work of the process tells.
use Rattle.std.proofs.Common.{◌≡◌, ℕ, zero, suc, Bool, List, [], ◌∷◌, sym, subst}
use Rattle.edi_meaning.specs.Store.{Frame}
use Rattle.edi_meaning.specs.Step.{Work, doing, loop_end, procedure_end, branch_end, program_entry, program_end, Standing, ready, at_when, waiting}
use Rattle.edi_meaning.specs.Places.{call_lines}
use Rattle.edi_follows.specs.places.Coded.{Coded}
use Rattle.edi_follows.specs.places.Located.{Links, IsCalledFrom, Matches, IsAt}

module _ (g : Coded) (lead : Bool) (from : ℕ) (fs : List Frame) (m : List ℕ) where
  -- the frames up to this depth were called on these lines, the highest first
  abbrev pub AreCalled : List ℕ → ℕ → Type 0
  AreCalled [] d = d ≡ 0
  AreCalled (line ∷ lines) zero = ⊥
  AreCalled (line ∷ lines) (suc e) = (back : ℕ) × Links g from fs m e back × IsCalledFrom g back line × AreCalled lines e

  called_last : (ws : List Work) (d : ℕ) → d ≡ 0 → ws ≡ [] → AreCalled (call_lines ws) d
  called_last ws d z e = subst (λ l. AreCalled (call_lines l) d) (sym e) z

  called : (ws : List Work) (pc d : ℕ) → Matches g lead from fs m ws pc d → AreCalled (call_lines ws) d
  called [] pc d h = absurd h
  called (doing a position ∷ ws) pc d h = called ws h.3.0 d h.3.5
  called (loop_end cs position ∷ ws) pc d h = called ws h.3.2 d h.3.8
  called (procedure_end line ∷ ws) pc zero h = absurd h.3
  called (procedure_end line ∷ ws) pc (suc e) h = (h.3.1, h.3.3, h.3.4, called ws h.3.1 e h.3.5)
  called (branch_end ∷ ws) pc d h = called_last ws d h.3.2 h.3.4
  called (program_entry ∷ ws) pc d h = absurd h.3
  called (program_end ∷ ws) pc d h = called_last ws d h.3.2 h.3.4

  pub at_called : (standing : Standing) (ws : List Work) (pc d : ℕ) → IsAt g lead from fs m standing ws pc d → AreCalled (call_lines ws) d
  at_called ready ws pc d h = called ws pc d h
  at_called (waiting n) ws pc d h = called ws pc d h
  at_called (at_when cs position) ws pc d h = called ws h.1 d h.7
