-- A stretch that leaves an address, and what comes then.
use Rattle.std.proofs.Common.{◌≡◌, ℕ, ◌+◌, ◌<◌, ◌≤◌, Bool, List, [], length, refl, subst, ◌∙◌, arith}
use Rattle.edi_meaning.specs.Store.{Shape}
use Rattle.edi_meaning.specs.Evaluation.{World, Evaluation, ◌>>=◌}
use Rattle.edi_meaning.specs.Whole.{Designated}
use Rattle.edi_target.specs.Memory.{word}
use Rattle.edi_follows.specs.values.Words.{IsTable}
use Rattle.edi_follows.specs.places.Coded.{Coded}
use Rattle.edi_follows.specs.places.Spots.{frames_end}
use Rattle.edi_follows.specs.places.Scene.{Scene, base_of, Stands, After, Does}
use Rattle.edi_follows.specs.places.Claims.{Pointed}
use Rattle.edi_follows.proofs.places.Doing.{bind_up}
use Rattle.edi_follows.proofs.places.Binding.{at_same}
use Rattle.edi_follows.proofs.places.Effects.{word_is, one_word}
use Rattle.edi_follows.proofs.places.Steps.{operands_stay}

-- the types of a program's unit
pub table_of : (g : Coded) → IsTable g.unit.types
table_of g = record { table = g.fits.table; shapes = g.fits.shapes; parts = g.parts }

module _ (g : Coded) (s : Scene) where
  -- the stretch leaves its address at u, with pc and top told
  pub bind_pointed : (B : Type 0) (Q : B → List ℕ → ℕ → ℕ → Type 0) (r : Evaluation Designated) (f : Designated → World → Evaluation B)
      (F : Shape) (pc to top t u held of : ℕ) (w : World) (m : List ℕ) → t ≤ u → Does g s F pc top u held w m (Pointed g s F of to u) r →
      ((d : Designated) (v : World) (m' : List ℕ) (c : Bool) → u + 1 ≤ frames_end s.first F s.name → After g s F w v m m' u c →
      Pointed g s F of to u d m' to (u + 1) → Does g s F to (u + 1) t held v m' Q (f d v)) →
      Does g s F pc top t held w m Q (r >>= f)
  bind_pointed B Q r f F pc to top t u held of w m le h k =
      bind_up g s Designated F pc top t u held w m B (Pointed g s F of to u) Q r f le h (λ d v m' pc' top' c above within after post.
      at_same g s B Q (f d v) F to pc' (u + 1) top' t held v m' post.pc_is post.top_is
      (k d v m' c (subst (λ y. y ≤ frames_end s.first F s.name) post.top_is within) after
      (record { pc_is = refl; top_is = refl; address = post.address; leads = post.leads; older = post.older; of_is = post.of_is })))

  -- one word among the operands stays where a stretch begins above it
  pub word_stays : (F : Shape) (w v : World) (m m' : List ℕ) (t u x : ℕ) (c : Bool) → Stands g s F w m → After g s F w v m m' u c → base_of g s F ≤ t →
      t + 1 ≤ u → t + 1 ≤ frames_end s.first F s.name → word m t ≡ x → word m' t ≡ x
  word_stays F w v m m' t u x c h after low le high is =
      let inside : t < length m = omega (arith, high, h.layout.segments.own s.name s.lives, h.layout.segments.within s.name s.lives, h.long) in
      word_is m' [] x t 1 (operands_stay g s F w v m m' t 1 u c h after low le high ∙ one_word m x t inside is)
