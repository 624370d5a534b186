-- Behind the entry of a block: the work of its body stands in the code, and behind it the end of the block, and what was left.
use Rattle.std.proofs.Common.{◌≡◌, ℕ, suc, ◌+◌, ◌-◌, ◌/◌, ◌%◌, ◌<◌, ◌≤◌, ◌^◌, Bool, false, List, [], ◌∷◌, length, get_or, Some, None, refl, sym, subst, ap, ◌∙◌}
use Rattle.std.proofs.Common.{arith}
use Rattle.std.specs.Prelude.{nat_lt}
use Rattle.edi_calls.specs.Names.{Name}
use Rattle.edi_store.specs.Memory.{words_at}
use Rattle.edi_unit.specs.Tree.{Block}
use Rattle.edi_unit.specs.Need.{acts_height}
use Rattle.edi_unit.specs.Fits.{ActsFit}
use Rattle.edi_meaning.specs.Store.{Spot, Cell, Frame, Shape, used}
use Rattle.edi_meaning.specs.Evaluation.{World}
use Rattle.edi_meaning.specs.Step.{Work, procedure_end, body_of}
use Rattle.edi_target.specs.Op as op
use Rattle.edi_target.specs.Op.{address_of_words}
use Rattle.edi_target.specs.Memory.{word}
use Rattle.edi_target.specs.Effect.{enter}
use Rattle.edi_target.specs.Mach.{effect_at, is_first}
use Rattle.edi_scheme.specs.Pieces as pieces
use Rattle.edi_scheme.specs.Pieces.{function_flag, return_of}
use Rattle.edi_scheme.specs.Stands as code
use Rattle.edi_follows.specs.values.Words.{ValuesAreLong, ZeroIsZeros}
use Rattle.edi_follows.specs.places.Coded.{Coded, block, entry, kept}
use Rattle.edi_follows.specs.places.Spots.{frame_start, address, cells_words}
use Rattle.edi_follows.specs.places.Located.{frame_of, list_end, Room, Links, IsCalledFrom, Matches, Agrees}
use Rattle.edi_follows.specs.places.Scene.{Scene, alone, base_of, Stands}
use Rattle.edi_follows.specs.places.Steps.{work_at}
use Rattle.edi_follows.proofs.places.Places.{start_within, roomy}
use Rattle.edi_follows.proofs.places.Located.{Listed, procedure_ends, procedure_listed, matches_kept, matches_acts}
use Rattle.edi_follows.proofs.calls.Grown.{IsGrown, longer, new_frame, start_old, start_all, frame_old}
use Rattle.edi_follows.proofs.calls.Comes.{IsCalled, inst, enough, word_before, word_new}
use Rattle.edi_follows.proofs.calls.Entering as entering
use Rattle.edi_follows.proofs.calls.Entering.{no_branch, ws, ws_length, begins}
use Rattle.edi_follows.proofs.calls.Blocks.{H, e, mem}

returns_nothing : (g : Coded) (b : Block) → b.result ≡ None → return_of g.unit.types b ≡ op.return 0 0
returns_nothing g b none = λ i. op.return (results i) (flags i)
  where
    results : pieces.result_words g.unit.types b.result ≡ 0
    results = ap (pieces.result_words g.unit.types) none

    flags : function_flag b.result ≡ 0
    flags = ap function_flag none

again : (a : ℕ) → address_of_words (a / 2 ^ 16) (a % 2 ^ 16) ≡ a
again a = omega arith

module _ (g : Coded) (long : ValuesAreLong) (zeros : ZeroIsZeros) (s : Scene) (F : Shape) (w : World) (m : List ℕ) (h : Stands g s F w m) (n : ℕ)
    (parent : Spot) (cells : List Cell) (c : IsCalled g s F n parent cells) (to : ℕ)
    (line pc : ℕ) (low : base_of g s F ≤ base_of g s F) (few : 0 ≤ length (F s.name))
    (stood : words_at m (base_of g s F) (length (cells_words g s.first F cells)) ≡ cells_words g s.first F cells)
    (does : effect_at g.fetched (g.fetched pc) s.count (is_first s.name) (alone s F m pc (base_of g s F + length (cells_words g s.first F cells)) 0 w).local
    ≡ enter (g.fetched (entry g n)) (address s.first F parent) to line (alone s F m pc (base_of g s F + length (cells_words g s.first F cells)) 0 w).local)
    (free : nat_lt (s.size s.name - used (F s.name)) (block g n).need ≡ false) (none : (block g n).result ≡ None) (left : List Work)
    (from_call : IsCalledFrom g to line) (at : work_at g s F m left to) where
  abbrev p : Name
  p = s.name

  abbrev lead : Bool
  lead = is_first p

  abbrev from : ℕ
  from = s.first p

  abbrev B : Block
  B = block g n

  abbrev t : ℕ
  t = base_of g s F

  abbrev K : Shape
  K = H g long zeros s F w m h n parent cells c t to line pc 0 low few stood does free

  abbrev fr : Frame
  fr = (inst g long zeros s F w m h n parent cells c).frame

  abbrev gr : IsGrown p fr F K
  gr = e g long zeros s F w m h n parent cells c t to line pc 0 low few stood does free

  abbrev new_mem : List ℕ
  new_mem = mem g long zeros s F w m h n parent cells c t to line pc 0 low few stood does free

  abbrev bodied : code.IsProcedure g.fetched g.unit.types g.unit.blocks (entry g) n
  bodied = begins g long zeros s F w m h n parent cells c t to

  abbrev fitting : used (F p) + B.need ≤ s.size p
  fitting = entering.room g long zeros s F w m h n parent cells c t to line pc 0 low few stood does free

  abbrev words : List ℕ
  words = ws g long zeros s F w m h n parent cells c t to

  some : 0 < length (F p)
  some = h.layout.some p s.lives

  -- the depth of the calling frame
  abbrev d : ℕ
  d = length (F p) - 1

  deeper : suc d ≡ length (F p)
  deeper = omega (arith, some)

  starts : (x : ℕ) → x ≤ length (F p) → frame_start (K p) x ≡ frame_start (F p) x
  starts x le = ap (λ fs. frame_start fs x) gr.mine ∙ start_old (F p) fr x le

  framed : (x : ℕ) → x < length (F p) → frame_of (K p) x ≡ frame_of (F p) x
  framed x less = ap (λ fs. frame_of fs x) gr.mine ∙ frame_old (F p) fr x less

  frame_is : frame_of (K p) (suc d) ≡ fr
  frame_is = ap (frame_of (K p)) deeper ∙ new_frame p fr F K gr

  agrees : Agrees g from (F p) (K p) m new_mem d
  agrees = record {
    starts = λ x le. starts x (omega (arith, le, some));
    framed = λ x le. framed x (omega (arith, le, some));
    words = λ x j le k.
        let less : x < length (F p) = omega (arith, le, some) in
        word_before g long zeros s F w m h n parent cells c words (ws_length g long zeros s F w m h n parent cells c t to) fitting
        (from + frame_start (F p) x + j) (omega (arith, k, start_within (F p) x less, roomy g F (p, x) (h.layout.fine (p, x) less)));
  }

  link : (j : ℕ) → j < 5 → word new_mem (from + frame_start (K p) (suc d) + j) ≡ get_or words j 0
  link j l =
      let start : frame_start (K p) (suc d) ≡ used (F p) = ap (frame_start (K p)) deeper ∙ starts (length (F p)) (omega arith) ∙ start_all (F p) in
      ap (λ x. word new_mem (from + x + j)) start
      ∙ word_new g long zeros s F w m h n parent cells c words (ws_length g long zeros s F w m h n parent cells c t to) fitting j
      (omega (arith, l, ws_length g long zeros s F w m h n parent cells c t to, enough g long zeros s F w m h n parent cells c))

  links : Links g from (K p) new_mem d to
  links =
      let start : frame_start (K p) d ≡ frame_start (F p) d = starts d (omega arith) in
      let of : frame_of (K p) d ≡ frame_of (F p) d = framed d (omega (arith, some)) in
      record {
        base = link 1 (omega arith) ∙ sym (ap (λ x. from + x) start);
        address = (λ i. address_of_words (link 2 (omega arith) i) (link 3 (omega arith) i)) ∙ again to;
        top = link 4 (omega arith) ∙ sym (λ i. from + start i + kept g (of i).block);
      }

  pub entered_work : work_at g s K new_mem (body_of g.unit n (procedure_end line ∷ left)) bodied.body
  entered_work =
      let there : suc d ≡ length (K p) - 1 = omega (arith, deeper, longer p fr F K gr) in
      subst (Matches g lead from (K p) new_mem (body_of g.unit n (procedure_end line ∷ left)) bodied.body) there
      (matches_acts g lead from (K p) new_mem B.body _ 0 (procedure_end line ∷ left) bodied.body bodied.end (suc d)
      (subst (λ (x : Frame). Listed g x.block (record { of = n; path = [] }) B.body bodied.body 0) (sym frame_is)
      (procedure_listed g n (no_branch B.kind c.called) bodied))
      (subst (λ (x : Frame). code.AreActs g.fetched g.unit.types g.unit.blocks (entry g) x.block B.body bodied.body bodied.end) (sym frame_is) bodied.list)
      (subst (λ (x : Frame). ActsFit g.unit.types g.unit.blocks g.fits.headings x.block B.body) (sym frame_is) (g.fits.fits_blocks n c.known).statements)
      (subst (λ (x : Frame). Room g x (acts_height g.unit.types g.unit.blocks x.block B.body)) (sym frame_is) (omega (arith, enough g long zeros s F w m h n parent cells c))) (
        0,
        bodied.end,
        refl,
        (
          bodied.after,
          to,
          ap g.fetched refl ∙ bodied.returns ∙ ap (λ i. Some (i, bodied.after)) (returns_nothing g B none),
          links,
          from_call,
          matches_kept g lead from (F p) (K p) m new_mem left to d agrees at,
          procedure_ends g n (no_branch B.kind c.called) bodied ∙ ap (λ (x : Frame). list_end g x.block) (sym frame_is),
        ),
      ))
