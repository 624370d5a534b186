-- A call of a block: the words of the new frame, and what the instruction does: it fails where there is no room, and takes a turn.
use Rattle.std.proofs.Common.{◌≡◌, ℕ, suc, ◌+◌, ◌-◌, ◌*◌, ◌<◌, ◌≤◌, Bool, true, false, if◌then◌else◌, List, [], ◌∷◌, ◌++◌, take, length, append_assoc}
use Rattle.std.proofs.Common.{length-append, refl, sym, subst, ap, ◌∙◌, arith}
use Rattle.std.specs.Prelude.{IsTrue, not, nat_eq, nat_lt, sum_by, replicate}
use Rattle.std.proofs.Math.Seq.{take-append-add, take-append_seam}
use Rattle.std.proofs.lemmas.Bool.{le-leb, ltb-false, ne_eqb, and_right}
use Rattle.std.proofs.lemmas.List.{length-replicate, replicate-append-replicate}
use Rattle.edi_calls.specs.declared.kinds.Cause.TheVariants as cause
use Rattle.edi_calls.specs.Names.{Name}
use Rattle.edi_calls.specs.Outcome as outcome
use Rattle.edi_store.specs.Memory.{words_at, written}
use Rattle.edi_unit.specs.declared.units.BlockKind.{BlockKind}
use Rattle.edi_unit.specs.declared.units.BlockKind.TheVariants as kind
use Rattle.edi_unit.specs.Types as types
use Rattle.edi_unit.specs.Types.{size}
use Rattle.edi_unit.specs.Tree.{Block}
use Rattle.edi_unit.specs.Need.{slot_words, variable_words, acts_height}
use Rattle.edi_unit.specs.Fits.{is_called}
use Rattle.edi_meaning.specs.Store.{Spot, Cell, Frame, Shape, now, used}
use Rattle.edi_meaning.specs.Evaluation.{World}
use Rattle.edi_target.specs.Effect.{Local, Effect, entering, due, fails, bad, needs, pop, frame_words, enter}
use Rattle.edi_target.specs.Mach.{effect_at, is_first, turn_from}
use Rattle.edi_scheme.proofs.Known.{words_sum}
use Rattle.edi_scheme.specs.Pieces as pieces
use Rattle.edi_scheme.specs.Pieces.{is_branch, function_flag}
use Rattle.edi_scheme.specs.Stands as code
use Rattle.edi_follows.specs.values.Words.{ValuesAreLong, ZeroIsZeros}
use Rattle.edi_follows.specs.places.Coded.{Coded, block, entry, kept}
use Rattle.edi_follows.specs.places.Spots.{address, frames_end, block_at, bottom, cells_words}
use Rattle.edi_follows.specs.places.Located.{frame_of}
use Rattle.edi_follows.specs.places.Walks.{onward, plain, Moves}
use Rattle.edi_follows.specs.places.Scene.{Scene, Outer, alone, base_of, Stands, stops}
use Rattle.edi_follows.proofs.places.Places.{roomy}
use Rattle.edi_follows.proofs.places.Rows.{aligned_length}
use Rattle.edi_follows.proofs.places.Doing.{moves_by, stops_by, stops_fails}
use Rattle.edi_follows.proofs.calls.Grown.{new_address, new_frame, now_new, ends_at}
use Rattle.edi_follows.proofs.calls.Cells.{arguments_aligned, all_words}
use Rattle.edi_follows.proofs.calls.Comes.{IsCalled, inst, store', G, grown_by, enough, m', outer_comes}

-- a called block is no branch
pub no_branch : (k : BlockKind) → IsTrue (is_called k) → is_branch k ≡ false
no_branch kind.Program h = refl
no_branch kind.Procedure h = refl
no_branch kind.Function h = refl
no_branch kind.Branch h = absurd (cc)

take_zeros : (n k : ℕ) → n ≤ k → take n (replicate {A = ℕ} k 0) ≡ replicate n 0
take_zeros n k le =
    let all : n + (k - n) ≡ k = omega (arith, le) in
    let long : n ≡ length (replicate {A = ℕ} n 0) = sym (length-replicate n 0) in
    ap (λ j. take n (replicate {A = ℕ} j 0)) (sym all) ∙ ap (take n) (sym (replicate-append-replicate n (k - n) 0))
    ∙ ap (λ j. take j (replicate {A = ℕ} n 0 ++ replicate (k - n) 0)) long ∙ take-append_seam (replicate n 0) (replicate (k - n) 0)

-- frames have five words at least
few_frames : (fs : List Frame) → ((d : ℕ) → d < length fs → 5 ≤ (frame_of fs d).need) → 5 * length fs ≤ used fs
few_frames [] h = omega arith
few_frames (f ∷ fs) h = omega (arith, h 0 (omega arith), few_frames fs (λ d l. h (suc d) (omega (arith, l))))

pub block_stands : (g : Coded) (n : ℕ) → n < length g.unit.blocks → IsTrue (is_called (block g n).kind) →
    code.IsProcedure g.fetched g.unit.types g.unit.blocks (entry g) n
block_stands g n known called =
    subst (λ b. code.Either b (code.IsBranch g.fetched g.unit.types g.unit.blocks (entry g) n)
    (code.IsProcedure g.fetched g.unit.types g.unit.blocks (entry g) n)) (no_branch (block g n).kind called) (g.stands n known)

module _ (g : Coded) (long : ValuesAreLong) (zeros : ZeroIsZeros) (s : Scene) (F : Shape) (w : World) (m : List ℕ) (h : Stands g s F w m) (n : ℕ)
    (parent : Spot) (cells : List Cell) (c : IsCalled g s F n parent cells) (t to : ℕ) where
  abbrev p : Name
  p = s.name

  abbrev ts : List types.Shape
  ts = g.unit.types

  abbrev B : Block
  B = block g n

  abbrev args : List ℕ
  args = cells_words g s.first F cells

  abbrev rw' : ℕ
  rw' = pieces.result_words ts B.result

  abbrev pw : ℕ
  pw = sum_by (slot_words ts) B.parameters

  abbrev vw : ℕ
  vw = sum_by (size ts) B.variables

  pub begins : code.IsProcedure g.fetched g.unit.types g.unit.blocks (entry g) n
  begins = block_stands g n c.known c.called

  args_length : length args ≡ pw
  args_length = aligned_length g s.first F B.parameters cells (arguments_aligned g long zeros s F (now F p) n c.known cells c.cells_fit)

  sum : variable_words ts B ≡ rw' + pw + vw
  sum = words_sum ts B

  abbrev pub ws : List ℕ
  ws = frame_words (address s.first F parent) (address s.first F (now F p)) to t rw' args ++ replicate (B.need - (5 + rw' + pw)) 0

  all : kept g n + acts_height ts g.unit.blocks n B.body ≡ B.need
  all = enough g long zeros s F w m h n parent cells c

  pub ws_length : length ws ≡ B.need
  ws_length = omega (
    arith,
    length-append (replicate rw' 0 ++ args) (replicate (B.need - (5 + rw' + pw)) 0),
    length-append (replicate rw' 0) args,
    length-replicate {A = ℕ} rw' 0,
    length-replicate {A = ℕ} (B.need - (5 + rw' + pw)) 0,
    args_length,
    sum,
    all,
  )

  pub ws_row : words_at ws 5 (variable_words ts B) ≡ cells_words g s.first F (inst g long zeros s F w m h n parent cells c).cells
  ws_row =
      let count : variable_words ts B ≡ length (replicate rw' 0 ++ args) + vw = omega
      (arith, length-append (replicate rw' 0) args, length-replicate {A = ℕ} rw' 0, args_length, sum) in
      ap (λ k. take k ((replicate rw' 0 ++ args) ++ replicate (B.need - (5 + rw' + pw)) 0)) count
      ∙ take-append-add (replicate rw' 0 ++ args) (replicate (B.need - (5 + rw' + pw)) 0) vw
      ∙ ap (λ l. (replicate rw' 0 ++ args) ++ l) (take_zeros vw (B.need - (5 + rw' + pw)) (omega (arith, sum, all)))
      ∙ append_assoc (replicate rw' 0) args (replicate vw 0)
      ∙ sym (all_words g long zeros s F (now F p) n c.known cells c.cells_fit)

  -- ---- the instruction

  module _ (line pc held : ℕ) (low : base_of g s F ≤ t) (few : held ≤ length (F p)) (stood : words_at m t (length args) ≡ args)
      (does : effect_at g.fetched (g.fetched pc) s.count (is_first p) (alone s F m pc (t + length args) held w).local ≡ enter (g.fetched (entry g n))
      (address s.first F parent) to line (alone s F m pc (t + length args) held w).local) where
    abbrev l : Local
    l = (alone s F m pc (t + length args) held w).local

    abbrev behind : List ℕ → Local → Effect
    behind arguments l =
        if nat_lt (l.last - l.end) B.need
        then fails cause.VariableLimit line
        else due entering (record l {
          memory = written l.memory l.end (frame_words (address s.first F parent) l.base to l.top rw' arguments ++ replicate (B.need - (5 + rw' + pw)) 0);
          base = l.end;
          end = l.end + B.need;
          top = l.end + (5 + rw' + pw + vw);
          pc = begins.body;
          held = l.held + function_flag B.result;
        })

    popped : (k : List ℕ → Local → Effect) → pop pw l k ≡ k args (record l { top = t })
    popped k =
        ap (λ b. if b then k (words_at m (t + length args - pw) pw) (record l { top = t + length args - pw }) else bad)
        (le-leb (l.base + 5 + pw) l.top (omega (arith, low, args_length)))
        ∙ (λ i. k (words i) (record l { top = top i }))
      where
        top : t + length args - pw ≡ t
        top = omega (arith, args_length)

        words : words_at m (t + length args - pw) pw ≡ args
        words = (λ i. words_at m (top i) (args_long_back i)) ∙ stood
          where
            args_long_back : pw ≡ length args
            args_long_back = sym args_length

    held_small : held < 65535
    held_small =
        omega (
          arith,
          few,
          h.layout.segments.own p s.lives,
          h.layout.segments.within p s.lives,
          few_frames (F p) (λ d b. omega (arith, roomy g F (p, d) (h.layout.fine (p, d) b))),
        )

    so : effect_at g.fetched (g.fetched pc) s.count (is_first p) l ≡ behind args (record l { top = t })
    so =
        does
        ∙ ap (λ o. enter o (address s.first F parent) to line l) begins.begins
        ∙ ap (λ b. needs (not b) (pop pw l behind))
        (and_right (nat_eq (function_flag B.result) 1) (nat_eq held 65535) (ne_eqb held 65535 (λ e. omega (arith, e, held_small))))
        ∙ popped behind

    left : s.first p + s.size p - frames_end s.first F p ≡ s.size p - used (F p)
    left = omega arith

    -- the activity behind the instruction
    abbrev made : Local
    made = record l {
      memory = written m l.end ws;
      base = l.end;
      end = l.end + B.need;
      top = l.end + (5 + rw' + pw + vw);
      pc = begins.body;
      held = held + function_flag B.result;
    }

    does_so : (b : Bool) → nat_lt (s.size p - used (F p)) B.need ≡ b → effect_at g.fetched (g.fetched pc) s.count (is_first p) l ≡
        (if b then fails cause.VariableLimit line else due entering made)
    does_so b e = so ∙ ap (λ b. if b then fails cause.VariableLimit line else due entering made) (ap (λ k. nat_lt k B.need) left ∙ e)

    -- there is no room for the frame
    pub fails_there : nat_lt (s.size p - used (F p)) B.need ≡ true → stops g s (alone s F m pc (t + length args) held w)
        (outcome.failed cause.VariableLimit line) w.system w.turns
    fails_there full = stops_fails g.fetched s.count (is_first p) (Outer s) (alone s F m pc (t + length args) held w) cause.VariableLimit line
        (does_so true full)

    -- there is no turn left for it
    pub ends_there : nat_lt (s.size p - used (F p)) B.need ≡ false → w.turns ≡ 0 → stops g s
        (alone s F m pc (t + length args) held w) outcome.turns w.system w.turns
    ends_there free none =
        stops_by g.fetched s.count (is_first p) (Outer s) (alone s F m pc (t + length args) held w) (alone s F m pc (t + length args) held w)
        (due entering made) outcome.turns (does_so false free)
        (ap (λ k. turn_from k entering made (plain (alone s F m pc (t + length args) held w))) none) refl (λ a o. refl)

    module _ (free : nat_lt (s.size p - used (F p)) B.need ≡ false) where
      pub room : used (F p) + B.need ≤ s.size p
      room = omega (arith, ltb-false (s.size p - used (F p)) B.need free, h.layout.segments.own p s.lives)

      abbrev pub G' : Shape
      G' = G g long zeros s F w m h n parent cells c

      abbrev pub mem : List ℕ
      mem = m' g long zeros s F w m h n parent cells c ws ws_length room

      -- the world where it was entered, with so many turns left
      abbrev pub inside : ℕ → World
      inside k = record w { store = store' g long zeros s F w m h n parent cells c; turns = k }

      now_is : now G' p ≡ (p, length (F p))
      now_is = now_new p (inst g long zeros s F w m h n parent cells c).frame F G' (grown_by g long zeros s F w m h n parent cells c)

      made_is : made ≡ (alone s G' mem begins.body (bottom g s.first G' p) (held + function_flag B.result) (inside 0)).local
      made_is = λ i. record made { base = bases i; end = ends i; top = tops i }
        where
          bases : frames_end s.first F p ≡ address s.first G' (now G' p)
          bases = sym (ap (address s.first G') now_is ∙ new_address p (inst g long zeros s F w m h n parent cells c).frame F G'
              (grown_by g long zeros s F w m h n parent cells c) s.first)

          ends : frames_end s.first F p + B.need ≡ frames_end s.first G' p
          ends = sym (ends_at p (inst g long zeros s F w m h n parent cells c).frame F G' (grown_by g long zeros s F w m h n parent cells c) s.first)

          of : block_at g G' (now G' p) ≡ n
          of = ap (block_at g G') now_is ∙ ap (λ (x : Frame). x.block)
              (new_frame p (inst g long zeros s F w m h n parent cells c).frame F G' (grown_by g long zeros s F w m h n parent cells c))

          tops : frames_end s.first F p + (5 + rw' + pw + vw) ≡ bottom g s.first G' p
          tops = omega (arith, bases, ap (kept g) of, sum)

      -- a turn is taken, and the block is entered
      pub moves_there : (k : ℕ) → w.turns ≡ suc k →
          Moves g.fetched s.count (is_first p) (Outer s) (alone s F m pc (t + length args) held w)
          (alone s G' mem begins.body (bottom g s.first G' p) (held + function_flag B.result) (inside k)) true
      moves_there k e =
          moves_by g.fetched s.count (is_first p) (Outer s) (alone s F m pc (t + length args) held w)
          (alone s G' mem begins.body (bottom g s.first G' p) (held + function_flag B.result) (inside k))
          (due entering (alone s G' mem begins.body (bottom g s.first G' p) (held + function_flag B.result) (inside k)).local) true
          (does_so false free ∙ ap (due entering) made_is)
          (ap (λ z. onward (turn_from z entering (alone s G' mem begins.body (bottom g s.first G' p) (held + function_flag B.result) (inside k)).local
          (plain (alone s F m pc (t + length args) held w)))) e)
          refl (outer_comes g long zeros s F w m h n parent cells c ws ws_length room)
