-- Each frame of a process goes on in the code of the block of its instance, so what is told of the frames by their blocks is told of the instances.
use Rattle.std.proofs.Common.{◌≡◌, ℕ, zero, suc, ◌+◌, ◌<◌, ◌≤◌, ◌⊎◌, inl, inr, Bool, false, if◌then◌else◌, List, [], ◌∷◌, ◌++◌, flat_map, length}
use Rattle.std.proofs.Common.{Some, sym, subst, ap, ◌∙◌, arith}
use Rattle.std.proofs.lemmas.Bool.{cases_lt}
use Rattle.edi_unit.specs.Need.{block_at}
use Rattle.edi_unit.specs.Tree.{when_act, while_act}
use Rattle.edi_meaning.specs.Step.{Work, doing, loop_end, procedure_end, branch_end, program_entry, program_end, Standing, ready, at_when, waiting}
use Rattle.edi_meaning.specs.Store.{Frame}
use Rattle.edi_target.specs.Memory.{word}
use Rattle.edi_target.specs.Op.{Instruction, address_of_words}
use Rattle.edi_scheme.specs.Code.{code_of}
use Rattle.edi_scheme.specs.Lengths.{acts_length}
use Rattle.edi_scheme.specs.Pieces.{is_branch}
use Rattle.edi_kernel.specs.declared.frames.Below.{Below}
use Rattle.edi_kernel.specs.Kept.{leads_down}
use Rattle.edi_waits.specs.Ends.{frames_of}
use Rattle.edi_follows.specs.places.Coded.{Coded, entry, kept}
use Rattle.edi_follows.specs.places.Located.{IsAt, Links, Matches, frame_of, list_end}
use Rattle.edi_follows.specs.places.Spots.{frame_start}
use Rattle.edi_dump.specs.Frames.{block_of}
use Rattle.edi_dump.proofs.JumpsListed.{IsOf}
use Rattle.edi_dumped.proofs.Chained.{next_is, leads, leads_nowhere}
use Rattle.edi_dumped.proofs.StandingBlocks.{IsInCode, body_within, hops_in, loop_in, sited_in, tells}

-- of the first instances of a process, the newest of them first, each as this tells where it begins and which block it is of
abbrev pub told_down : (text : (base block : ℕ) → List ℕ) → (from : ℕ) → List Frame → ℕ → List ℕ
told_down text from fs zero = []
told_down text from fs (suc d) = text (from + frame_start fs d) (frame_of fs d).block ++ told_down text from fs d

module _ (g : Coded) (told : (at : ℕ) (found : Instruction × ℕ) → g.fetched at ≡ Some found → IsOf g.unit at found.0) (lead : Bool) (from : ℕ) (fs : List Frame)
    (m : List ℕ) (known : (e : ℕ) → e < length fs → (frame_of fs e).block < length g.unit.blocks) where
  abbrev of : ℕ → ℕ
  of e = (frame_of fs e).block

  -- the end of a block is in it
  end_in : (b q : ℕ) → q ≡ list_end g b → IsInCode g b q
  end_in b q is =
      let w = body_within g (is_branch (block_at g.unit.blocks b).kind) (entry g b) (acts_length g.unit.types g.unit.blocks b (block_at g.unit.blocks b).body) in
      subst (IsInCode g b) (sym is) (omega (arith, w.0), w.1)

  -- where the work comes first, its frame goes on
  pub front_in : (ws : List Work) (pc d : ℕ) → d < length fs → Matches g lead from fs m ws pc d → IsInCode g (of d) pc
  front_in [] pc d k h = absurd h
  front_in (doing a position ∷ ws) pc d k h =
      let s = sited_in g (of d) position a h.1 h.3.4 in
      let low = s.0 in
      let high = s.1 in
      hops_in g told h.0 pc h.1 (of d) h.2 (known d k) (low, omega (arith, high))
  front_in (loop_end cs position ∷ ws) pc d k h =
      let s = sited_in g (of d) position (while_act cs) h.3.0 h.3.7 in
      let low = s.0 in
      let high = s.1 in
      hops_in g told h.0 pc h.1 (of d) h.2 (known d k) (loop_in g told h.1 h.3.0 h.3.1 (of d) h.3.3 (known d k) (low, omega (arith, high)))
  front_in (procedure_end line ∷ ws) pc zero k h = absurd h.3
  front_in (procedure_end line ∷ ws) pc (suc e) k h = hops_in g told h.0 pc h.1 (of (suc e)) h.2 (known (suc e) k) (end_in (of (suc e)) h.1 h.3.6)
  front_in (branch_end ∷ ws) pc d k h = hops_in g told h.0 pc h.1 (of d) h.2 (known d k) (end_in (of d) h.1 h.3.5)
  front_in (program_entry ∷ ws) pc d k h = absurd h.3
  front_in (program_end ∷ ws) pc d k h = hops_in g told h.0 pc h.1 (of d) h.2 (known d k) (end_in (of d) h.1 h.3.5)

  pub front_at : (standing : Standing) (ws : List Work) (pc d : ℕ) → d < length fs → IsAt g lead from fs m standing ws pc d → IsInCode g (of d) pc
  front_at ready ws pc d k h = front_in ws pc d k h
  front_at (waiting n) ws pc d k h = front_in ws pc d k h
  front_at (at_when cs position) ws pc d k h =
      let a = h.6 in
      let s = sited_in g (of d) position (when_act cs a.line) a.at a.sited in
      let low = s.0 in
      let high = s.1 in
      let behind = a.behind in
      (omega (arith, low, behind), omega (arith, high, behind))

  -- below another frame a frame goes on behind its call
  pub record GoesOn (e : ℕ) : Type 0 where
    pub back : ℕ
    pub links : Links g from fs m e back
    pub within : IsInCode g (of e) back

  below : (ws : List Work) (pc d : ℕ) → d < length fs → Matches g lead from fs m ws pc d → (e : ℕ) → e < d → GoesOn e
  below [] pc d k h e l = absurd h
  below (doing a position ∷ ws) pc d k h e l = below ws h.3.0 d k h.3.5 e l
  below (loop_end cs position ∷ ws) pc d k h e l = below ws h.3.2 d k h.3.8 e l
  below (procedure_end line ∷ ws) pc zero k h e l = absurd h.3
  below (procedure_end line ∷ ws) pc (suc d) k h e l = go (cases_lt e d) (λ less. below ws h.3.1 d (omega (arith, k)) h.3.5 e less)
    where
      go : (e < d) ⊎ (d ≤ e) → (e < d → GoesOn e) → GoesOn e
      go (inl less) before = before less
      go (inr same) before =
          let is : d ≡ e = omega (arith, l, same) in
          subst GoesOn is (record { back = h.3.1; links = h.3.3; within = front_in ws h.3.1 d (omega (arith, k)) h.3.5 })
  below (branch_end ∷ ws) pc d k h e l = let none = h.3.2 in absurd (omega (arith, l, none))
  below (program_entry ∷ ws) pc d k h e l = absurd h.3
  below (program_end ∷ ws) pc d k h e l = let none = h.3.2 in absurd (omega (arith, l, none))

  pub below_at : (standing : Standing) (ws : List Work) (pc d : ℕ) → d < length fs → IsAt g lead from fs m standing ws pc d → (e : ℕ) → e < d → GoesOn e
  below_at ready ws pc d k h = below ws pc d k h
  below_at (waiting n) ws pc d k h = below ws pc d k h
  below_at (at_when cs position) ws pc d k h = below ws h.1 d k h.7

  -- ---- the chain of frames

  module _ (roomy_at : (e : ℕ) → e < length fs → kept g (frame_of fs e).block ≤ (frame_of fs e).need) (text : (base block : ℕ) → List ℕ) where
    abbrev base_at : ℕ → ℕ
    base_at d = from + frame_start fs d

    abbrev text_of : Below → List ℕ
    text_of f = text f.base (block_of (code_of g.unit) f.back)

    tell : (d back : ℕ) → d < length fs → IsInCode g (of d) back → text (base_at d) (block_of (code_of g.unit) back) ≡ text (base_at d) (of d)
    tell d back k h = ap (text (base_at d)) (tells g told (of d) back (known d k) h)

    pub chain : (n d : ℕ) (top back : ℕ) → d < n → d < length fs → IsInCode g (of d) back → ((e : ℕ) → e < d → GoesOn e)
        → flat_map text_of (frames_of n m from (base_at d) top back) ≡ told_down text from fs (suc d)
    chain zero d top back h k here links = absurd (omega (arith, h))
    chain (suc n) zero top back h k here links =
        let first : base_at 0 ≡ from = omega arith in
        let x : ℕ = word m (base_at 0 + 1) in
        let t : ℕ = word m (base_at 0 + 4) in
        let none : leads_down from (base_at 0) x t ≡ false = ap (λ b. leads_down from b x t) first ∙ leads_nowhere from x t in
        ap (λ (b : Bool). text (base_at 0) (block_of (code_of g.unit) back) ++ flat_map text_of (if b then frames_of n m from x t
        (address_of_words (word m (base_at 0 + 2)) (word m (base_at 0 + 3))) else [])) none
        ∙ ap (λ l. l ++ []) (tell 0 back k here)
    chain (suc n) (suc d) top back h k here links =
        let l : GoesOn d = links d (omega arith) in
        let b : ℕ = base_at (suc d) in
        let x : ℕ = word m (b + 1) in
        let t : ℕ = word m (b + 4) in
        let to : ℕ = address_of_words (word m (b + 2)) (word m (b + 3)) in
        let x_is : x ≡ base_at d = l.links.base in
        let t_is : t ≡ base_at d + kept g (frame_of fs d).block = l.links.top in
        let down = leads from b x t (omega (arith, x_is)) (omega (arith, x_is, t_is)) (omega (arith, t_is, next_is g from fs m roomy_at d k)) in
        let own : List ℕ = text b (block_of (code_of g.unit) back) in
        ap (λ (c : Bool). own ++ flat_map text_of (if c then frames_of n m from x t to else [])) down
        ∙ (ap (λ y. own ++ flat_map text_of (frames_of n m from y t to)) x_is
        ∙ (ap (λ y. own ++ flat_map text_of (frames_of n m from (base_at d) t y)) l.links.address
        ∙ (ap (λ ys. own ++ ys) (chain n d t l.back (omega (arith, h)) (omega (arith, k)) l.within (λ e less. links e (omega (arith, less))))
        ∙ ap (λ y. y ++ told_down text from fs (suc d)) (tell (suc d) back k here))))
