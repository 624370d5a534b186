-- Where a process stands, and the calls that lead there: what the code tells of them is what the meaning tells.
use Rattle.std.proofs.Common.{◌≡◌, ℕ, zero, suc, ◌+◌, ◌<◌, ◌≤◌, Bool, true, false, if◌then◌else◌, List, [], ◌∷◌, ◌++◌, Some, length, refl, sym, ap, ◌∙◌, arith}
use Rattle.std.specs.Fmt.{decimal}
use Rattle.std.specs.Prelude.{codes, nat_eq}
use Rattle.edi_calls.specs.Names.{Name}
use Rattle.edi_sights.specs.named.Naming.{Names, named_at}
use Rattle.edi_unit.specs.Tree.{Clauses}
use Rattle.edi_meaning.specs.Step.{Position, Standing, Work, at_when, ready, waiting}
use Rattle.edi_meaning.specs.Store.{Frame, Store, shape}
use Rattle.edi_target.specs.Fetch.{fetch}
use Rattle.edi_target.specs.Memory.{word}
use Rattle.edi_target.specs.Op as op
use Rattle.edi_target.specs.Op.{Instruction, address_of_words}
use Rattle.edi_target.specs.Reading.{AreWords}
use Rattle.edi_scheme.specs.Code.{code_of}
use Rattle.edi_kernel.specs.Kept.{leads_down}
use Rattle.edi_kernel.specs.declared.frames.Below.{Below}
use Rattle.edi_waits.specs.Ends.{frames_of, stands_by}
use Rattle.edi_waits.specs.Places.{line_before}
use Rattle.edi_waits.specs.declared.ends.Stands.TheVariants as stands
use Rattle.edi_follows.specs.places.Coded.{Coded, kept}
use Rattle.edi_follows.specs.places.Located.{IsAt, IsAwaited, IsCalledFrom, by_block, by_parameter, frame_of}
use Rattle.edi_follows.specs.places.Related.{standing_of}
use Rattle.edi_follows.specs.places.Spots.{frame_start}
use Rattle.edi_follows.proofs.Lined.{AreCalled}
use Rattle.edi_timeline.specs.Stints.{when_line}
use Rattle.edi_timed.proofs.meant.Lines.{line_there}
use Rattle.edi_timed.proofs.meant.Whens.{line_is}
use Rattle.edi_dump.specs.Frames.{Program, block_of}
use Rattle.edi_dump.specs.Text.{call_word, calls_text, in_text, line_text, stands_text}
use Rattle.edi_dump.proofs.JumpsListed.{IsOf}
use Rattle.edi_dumped.specs.StandingDumps.{calls_told, line_in, newest, stands_told}
use Rattle.edi_dumped.proofs.Chained.{next_is, leads, leads_nowhere}
use Rattle.edi_dumped.proofs.StandingBlocks.{IsInCode, tells}
use Rattle.edi_dumped.proofs.StandingFrames.{GoesOn}

module _ (g : Coded) (told : (at : ℕ) (found : Instruction × ℕ) → g.fetched at ≡ Some found → IsOf g.unit at found.0)
    (reads : (at : ℕ) (found : Instruction × ℕ) → g.fetched at ≡ Some found → fetch (code_of g.unit) at ≡ Some found) (fine : AreWords (code_of g.unit)) where
  abbrev words : List ℕ
  words = code_of g.unit

  line_called : (back line : ℕ) → IsCalledFrom g back line → line_before words back ≡ line
  line_called back line (by_block at level target st) =
      line_there words fine at back 4 line (op.call level target line) (reads at (op.call level target line, back) st) refl (λ rest. refl)
  line_called back line (by_parameter at level offset st) =
      line_there words fine at back 3 line (op.call_p level offset line) (reads at (op.call_p level offset line, back) st) refl (λ rest. refl)

  line_awaited : (b : ℕ) (position : Position) (cs : Clauses) (pc : ℕ) → IsAwaited g b position cs pc → line_before words pc ≡ when_line g.unit position
  line_awaited b position cs pc h =
      line_there words fine h.at pc 1 h.line (op.when h.line) (reads h.at (op.when h.line, pc) h.stands) refl (λ rest. refl)
      ∙ sym (line_is g.unit position cs h.line h.at h.sited.there)

  module _ (names_in : Names) (store : Store) (p : Name) (lead : Bool) (from : ℕ) (m : List ℕ)
      (known : (e : ℕ) → e < length (shape store p) → (frame_of (shape store p) e).block < length g.unit.blocks)
      (roomy_at : (e : ℕ) → e < length (shape store p) → kept g (frame_of (shape store p) e).block ≤ (frame_of (shape store p) e).need) where
    abbrev own : Program
    own = record { unit = g.unit; names = names_in }

    abbrev fs : List Frame
    fs = shape store p

    abbrev Goes : ℕ → Type 0
    Goes = GoesOn g told lead from fs m known

    -- an address of this line, in the code of the block of instance d
    line_of : (d at line : ℕ) → d < length fs → line_before words at ≡ line → IsInCode g (frame_of fs d).block at
        → line_text (Some own) words m at ≡ line_in own store line (p, d)
    line_of d at line k e h =
        let block : block_of words at ≡ (frame_of fs d).block = tells g told (frame_of fs d).block at (known d k) h in
        λ i. decimal (e i) ++ in_text (named_at names_in.blocks (block i)).name

    -- the frames below that of instance d
    abbrev pub rest_of : (n d : ℕ) → List Below
    rest_of n d =
        let b : ℕ = from + frame_start fs d in
        if leads_down from b (word m (b + 1)) (word m (b + 4))
        then frames_of n m from (word m (b + 1)) (word m (b + 4)) (address_of_words (word m (b + 2)) (word m (b + 3)))
        else []

    pub calls_are : (n d : ℕ) (lines : List ℕ) (first : Bool) → d ≤ n → d < length fs → AreCalled g lead from fs m lines d → ((e : ℕ) → e < d → Goes e)
        → calls_text (Some own) words m first (rest_of n d) ≡ calls_told own store first p lines d
    calls_are n zero (line ∷ lines) first h k c below = absurd c
    calls_are n zero [] first h k c below =
        let b : ℕ = from + frame_start fs 0 in
        let here : b ≡ from = omega arith in
        let x : ℕ = word m (b + 1) in
        let t : ℕ = word m (b + 4) in
        let none : leads_down from b x t ≡ false = ap (λ y. leads_down from y x t) here ∙ leads_nowhere from x t in
        ap (λ (v : Bool). calls_text (Some own) words m first (if v then frames_of n m from x t (address_of_words (word m (b + 2)) (word m (b + 3))) else [])) none
    calls_are n (suc e) [] first h k c below = absurd (omega (arith, c))
    calls_are zero (suc e) (line ∷ lines) first h k c below = absurd (omega (arith, h))
    calls_are (suc n) (suc e) (line ∷ lines) first h k c below =
        let l : Goes e = below e (omega arith) in
        let b : ℕ = from + frame_start fs (suc e) in
        let a : ℕ = from + frame_start fs e in
        let x : ℕ = word m (b + 1) in
        let t : ℕ = word m (b + 4) in
        let to : ℕ = address_of_words (word m (b + 2)) (word m (b + 3)) in
        let x_is : x ≡ a = l.links.base in
        let t_is : t ≡ a + kept g (frame_of fs e).block = l.links.top in
        let down : leads_down from b x t ≡ true =
        leads from b x t (omega (arith, x_is)) (omega (arith, x_is, t_is)) (omega (arith, t_is, next_is g from fs m roomy_at e k)) in
        let back_is : to ≡ l.back = l.links.address in
        let called : line_before words l.back ≡ line = ap (line_before words) (sym back_is ∙ c.1.address) ∙ line_called c.0 line c.2 in
        let own_line : line_text (Some own) words m to ≡ line_in own store line (p, e) =
        ap (line_text (Some own) words m) back_is ∙ line_of e l.back line (omega (arith, k)) called l.within in
        ap (λ (v : Bool). calls_text (Some own) words m first (if v then frames_of (suc n) m from x t to else [])) down
        ∙ (ap (λ y. call_word first ++ (line_text (Some own) words m to ++ calls_text (Some own) words m false (rest_from n y))) x_is
        ∙ (ap (λ y. call_word first ++ (y ++ calls_text (Some own) words m false (rest_of n e))) own_line
        ∙ ap (λ y. call_word first ++ (line_in own store line (p, e) ++ y))
        (calls_are n e lines false (omega (arith, h)) (omega (arith, k)) c.3 (λ i less. below i (omega (arith, less))))))
      where
        rest_from : ℕ → ℕ → List Below
        rest_from n b =
            if leads_down from b (word m (b + 1)) (word m (b + 4))
            then frames_of n m from (word m (b + 1)) (word m (b + 4)) (address_of_words (word m (b + 2)) (word m (b + 3)))
            else []

    -- how it stands
    fresh_or : (b : Bool) (pc : ℕ) → stands_text (Some own) words m (if b then stands.Fresh else stands.Joined) pc
        ≡ (if b then codes " has not begun" else codes " goes on after its branches")
    fresh_or true pc = refl
    fresh_or false pc = refl

    pub stands_is : (standing : Standing) (ws : List Work) (forks pc d : ℕ) → d ≡ newest store p → d < length fs → IsAt g lead from fs m standing ws pc d
        → IsInCode g (frame_of fs d).block pc
        → stands_text (Some own) words m (stands_by false (standing_of standing) forks) pc ≡ stands_told own store p standing forks
    stands_is ready ws forks pc d e k h within = fresh_or (nat_eq forks 0) pc
    stands_is (waiting n) ws forks pc d e k h within = refl
    stands_is (at_when cs position) ws forks pc d e k h within =
        ap (λ l. codes " is at the when of line " ++ l)
        (line_of d pc (when_line g.unit position) k (line_awaited (frame_of fs d).block position cs pc h.6) within
        ∙ ap (λ x. line_in own store (when_line g.unit position) (p, x)) e)
