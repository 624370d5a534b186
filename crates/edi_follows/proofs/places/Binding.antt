-- Stretches one behind another: the operands of the first may begin higher than those of the whole.
use Rattle.std.proofs.Common.{◌≡◌, ℕ, ◌+◌, ◌≤◌, Bool, List, refl, sym, subst}
use Rattle.edi_unit.specs.Types.{size}
use Rattle.edi_unit.specs.Values.{Value}
use Rattle.edi_meaning.specs.Store.{Shape}
use Rattle.edi_meaning.specs.Evaluation.{World, Evaluation, ◌>>=◌}
use Rattle.edi_follows.specs.places.Coded.{Coded}
use Rattle.edi_follows.specs.places.Spots.{frames_end}
use Rattle.edi_follows.specs.places.Scene.{Scene, After, Does}
use Rattle.edi_follows.specs.places.Claims.{Pushed}
use Rattle.edi_follows.proofs.places.Doing.{bind_up}

module _ (g : Coded) (s : Scene) where
  -- the same from equal addresses
  pub at_same : (A : Type 0) (Post : A → List ℕ → ℕ → ℕ → Type 0) (run : Evaluation A) (F : Shape) (pc pc' top top' t held : ℕ) (w : World) (m : List ℕ) →
      pc' ≡ pc → top' ≡ top → Does g s F pc top t held w m Post run → Does g s F pc' top' t held w m Post run
  at_same A Post run F pc pc' top top' t held w m e k d =
      subst (λ x. Does g s F x top' t held w m Post run) (sym e) (subst (λ y. Does g s F pc y t held w m Post run) (sym k) d)

  -- the same where the stretch pushes a value
  pub bind_value : (B : Type 0) (Q : B → List ℕ → ℕ → ℕ → Type 0) (r : Evaluation Value) (f : Value → World → Evaluation B)
      (F : Shape) (pc to top t u held of : ℕ) (w : World) (m : List ℕ) → t ≤ u → Does g s F pc top u held w m (Pushed g s of to u) r →
      ((x : Value) (v : World) (m' : List ℕ) (c : Bool) → u + size g.unit.types of ≤ frames_end s.first F s.name → After g s F w v m m' u c →
      Pushed g s of to u x m' to (u + size g.unit.types of) → Does g s F to (u + size g.unit.types of) t held v m' Q (f x v)) →
      Does g s F pc top t held w m Q (r >>= f)
  bind_value B Q r f F pc to top t u held of w m le h k =
      bind_up g s Value F pc top t u held w m B (Pushed g s of to u) Q r f le h (λ x v m' pc' top' c above within after post.
      at_same B Q (f x v) F to pc' (u + size g.unit.types of) top' t held v m' post.pc_is post.top_is
      (k x v m' c (subst (λ y. y ≤ frames_end s.first F s.name) post.top_is within) after
      (record { pc_is = refl; top_is = refl; words = post.words; typed = post.typed })))
