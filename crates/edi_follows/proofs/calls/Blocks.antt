-- A call of a block: it is entered, its body is executed one level deeper, and it is left.
use Rattle.std.proofs.Common.{◌≡◌, ℕ, suc, ◌+◌, ◌-◌, ◌/◌, ◌%◌, ◌<◌, ◌≤◌, ◌^◌, ◌⊎◌, inl, inr, Bool, false, List, length, get_or, Option, Some, None, refl}
use Rattle.std.proofs.Common.{sym, subst, ap, ◌∙◌, arith}
use Rattle.std.specs.Prelude.{nat_lt}
use Rattle.edi_calls.specs.Names.{Name}
use Rattle.edi_store.specs.Memory.{words_at}
use Rattle.edi_unit.specs.Tree.{Block}
use Rattle.edi_unit.specs.Need.{acts_height}
use Rattle.edi_meaning.specs.Store.{Spot, Cell, Frame, Shape, now, used, IsLive, Older, within, above}
use Rattle.edi_meaning.specs.Evaluation.{World}
use Rattle.edi_target.specs.Op.{address_of_words}
use Rattle.edi_target.specs.Memory.{word}
use Rattle.edi_target.specs.Effect.{enter}
use Rattle.edi_target.specs.Mach.{effect_at, is_first}
use Rattle.edi_scheme.specs.Pieces.{function_flag}
use Rattle.edi_scheme.specs.Stands as code
use Rattle.edi_follows.specs.values.Words.{ValuesAreLong, ZeroIsZeros}
use Rattle.edi_follows.specs.places.Coded.{Coded, block, entry, kept}
use Rattle.edi_follows.specs.places.Spots.{address, frames_end, block_at, bottom, cells_words, IsNoVariable, IsOther}
use Rattle.edi_follows.specs.places.Scene.{Scene, alone, base_of, here, Stands, Able, After}
use Rattle.edi_follows.proofs.places.Places.{control_other}
use Rattle.edi_follows.proofs.places.Doing.{stands_after}
use Rattle.edi_follows.proofs.calls.Grown.{IsGrown, new, longer, which, old_address, old_frame, new_address, new_frame, now_new, ends_at}
use Rattle.edi_follows.proofs.calls.Comes.{IsCalled, inst, G, grown_by, enough, stands', word_before, word_behind, word_new}
use Rattle.edi_follows.proofs.calls.Entering as entering
use Rattle.edi_follows.proofs.calls.Entering.{ws, ws_length, ws_row, begins}
use Rattle.edi_follows.proofs.calls.Returning.{Keeps}

flag_small : (o : Option ℕ) → function_flag o ≤ 1
flag_small None = omega arith
flag_small (Some t) = omega arith

again : (a : ℕ) → address_of_words (a / 2 ^ 16) (a % 2 ^ 16) ≡ a
again a = omega arith

module _ (g : Coded) (long : ValuesAreLong) (zeros : ZeroIsZeros) (s : Scene) (F : Shape) (w : World) (m : List ℕ) (h : Stands g s F w m) (n : ℕ)
    (parent : Spot) (cells : List Cell) (c : IsCalled g s F n parent cells) (t to : ℕ)
    (line pc held : ℕ) (low : base_of g s F ≤ t) (few : held ≤ length (F s.name))
    (stood : words_at m t (length (cells_words g s.first F cells)) ≡ cells_words g s.first F cells)
    (does : effect_at g.fetched (g.fetched pc) s.count (is_first s.name) (alone s F m pc (t + length (cells_words g s.first F cells)) held w).local ≡ enter
    (g.fetched (entry g n)) (address s.first F parent) to line (alone s F m pc (t + length (cells_words g s.first F cells)) held w).local)
    (free : nat_lt (s.size s.name - used (F s.name)) (block g n).need ≡ false) where
  abbrev p : Name
  p = s.name

  abbrev B : Block
  B = block g n

  abbrev len : ℕ
  len = length (cells_words g s.first F cells)

  abbrev f : Frame
  f = (inst g long zeros s F w m h n parent cells c).frame

  abbrev pub H : Shape
  H = G g long zeros s F w m h n parent cells c

  abbrev pub e : IsGrown p f F H
  e = grown_by g long zeros s F w m h n parent cells c

  abbrev fitting : used (F p) + B.need ≤ s.size p
  fitting = entering.room g long zeros s F w m h n parent cells c t to line pc held low few stood does free

  abbrev pub mem : List ℕ
  mem = entering.mem g long zeros s F w m h n parent cells c t to line pc held low few stood does free

  abbrev pub inside : ℕ → World
  inside k = entering.inside g long zeros s F w m h n parent cells c t to line pc held low few stood does free k

  abbrev nu : Spot
  nu = new p f F H e

  abbrev b : ℕ
  b = frames_end s.first F p

  abbrev bodied : code.IsProcedure g.fetched g.unit.types g.unit.blocks (entry g) n
  bodied = begins g long zeros s F w m h n parent cells c t to

  abbrev words : List ℕ
  words = ws g long zeros s F w m h n parent cells c t to

  some : 0 < length (F p)
  some = h.layout.some p s.lives

  all : kept g n + acts_height g.unit.types g.unit.blocks n B.body ≡ B.need
  all = enough g long zeros s F w m h n parent cells c

  pub of_new : here g s H ≡ n
  of_new = ap (block_at g H) (now_new p f F H e) ∙ ap (λ (x : Frame). x.block) (new_frame p f F H e)

  pub at_new : address s.first H (now H p) ≡ b
  at_new = ap (address s.first H) (now_new p f F H e) ∙ new_address p f F H e s.first

  pub bottom_is : bottom g s.first H p ≡ b + kept g n
  bottom_is = λ i. at_new i + kept g (of_new i)

  pub end_is : frames_end s.first H p ≡ b + B.need
  end_is = ends_at p f F H e s.first

  pub stands_new : (k : ℕ) → Stands g s H (inside k) mem
  stands_new k =
      stands' g long zeros s F w m h n parent cells c words (ws_length g long zeros s F w m h n parent cells c t to) fitting refl
      (ws_row g long zeros s F w m h n parent cells c t to) (inside k) refl

  -- there is room for the body
  pub able_new : (k : ℕ) → Able g s H (inside k) mem (bottom g s.first H p) (acts_height g.unit.types g.unit.blocks (here g s H) B.body)
      (held + function_flag B.result)
  able_new k = record {
    stands = stands_new k;
    low = omega arith;
    high = omega (arith, bottom_is, end_is, all, ap (λ x. acts_height g.unit.types g.unit.blocks x B.body) of_new);
    few = omega (arith, few, longer p f F H e, flag_small B.result);
  }

  -- what the calling instance may not mean the new one may not mean, but for its own variables
  other_new : (a : ℕ) → (a < b) ⊎ (s.first p + s.size p ≤ a) → IsOther g s.first F (now F p) a → IsOther g s.first H (now H p) a
  other_new a where_is o r l older = go (which p f F H e r l)
    where
      older_old : IsLive F r → Older r (now H p) → Older r (now F p)
      older_old k (within i le) = let k' : r.1 < length (F p) = subst (λ y. r.1 < length (F y)) i k in within i (omega (arith, k'))
      older_old k (above m q) = above m q

      go : (r ≡ nu) ⊎ IsLive F r → IsNoVariable g s.first H r a
      go (inl i) =
          let at : address s.first H nu ≡ b = new_address p f F H e s.first in
          let of : kept g (block_at g H nu) ≡ kept g n = ap (λ (x : Frame). kept g x.block) (new_frame p f F H e) in
          subst (λ y. IsNoVariable g s.first H y a) (sym i)
          (elim where_is [ inl x ↦ inl (omega (arith, x, at)) | inr x ↦ inr (omega (arith, x, at, of, fitting, all)) ])
      go (inr k) =
          let at : address s.first H r ≡ address s.first F r = old_address p f F H e s.first r k in
          let of : kept g (block_at g H r) ≡ kept g (block_at g F r) = ap (λ (x : Frame). kept g x.block) (old_frame p f F H e r k) in
          elim (o r k (older_old k older)) [ inl x ↦ inl (omega (arith, x, at)) | inr x ↦ inr (omega (arith, x, at, of)) ]

  -- ---- what was executed inside

  module _ (k : ℕ) (turns : w.turns ≡ suc k) (v : World) (mm : List ℕ) (cleared : Bool)
      (a : After g s H (inside k) v mem mm (bottom g s.first H p) cleared) where
    pub stands_inside : Stands g s H v mm
    stands_inside = stands_after g s H (inside k) v mem mm (bottom g s.first H p) cleared (stands_new k) a

    -- the links of the frame are as they were
    link_word : (j : ℕ) → j < 5 → word mm (b + j) ≡ get_or words j 0
    link_word j l =
        let at : b + j ≡ address s.first H (now H p) + j = omega (arith, at_new) in
        a.untouched (b + j) (inl (omega (arith, l, bottom_is)))
        (subst (IsOther g s.first H (now H p)) (sym at)
        (control_other g s.live s.waits s.first s.size H (stands_new k).layout (now H p) (now H p) j (omega (arith, longer p f F H e)) l))
        ∙ word_new g long zeros s F w m h n parent cells c words (ws_length g long zeros s F w m h n parent cells c t to) fitting j
        (omega (arith, l, ws_length g long zeros s F w m h n parent cells c t to, all))

    pub keeps_inside : Keeps s F mm to t
    keeps_inside = record {
      base = link_word 1 (omega arith);
      address = (λ i. address_of_words (link_word 2 (omega arith) i) (link_word 3 (omega arith) i)) ∙ again to;
      top = link_word 4 (omega arith);
    }

    -- below the operands, and behind the segment, as from before the call
    pub untouched_inside : (x : ℕ) → (x < t) ⊎ (s.first p + s.size p ≤ x) → t ≤ b → IsOther g s.first F (now F p) x → word mm x ≡ word m x
    untouched_inside x where_is high o =
        a.untouched x (elim where_is [ inl y ↦ inl (omega (arith, y, high, bottom_is)) | inr y ↦ inr y ])
        (other_new x (elim where_is [ inl y ↦ inl (omega (arith, y, high)) | inr y ↦ inr y ]) o)
        ∙ elim where_is [
          | inl y ↦ word_before g long zeros s F w m h n parent cells c words (ws_length g long zeros s F w m h n parent cells c t to) fitting x
              (omega (arith, y, high))
          | inr y ↦ word_behind g long zeros s F w m h n parent cells c words (ws_length g long zeros s F w m h n parent cells c t to) fitting x y
        ]
