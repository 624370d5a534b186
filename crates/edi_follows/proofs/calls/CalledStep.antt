-- A call as a step of its process: a block is entered, and its work comes first; a call of the system is executed whole.
use Rattle.std.proofs.Common.{◌≡◌, ℕ, zero, suc, ◌+◌, ◌-◌, ◌<◌, ◌≤◌, ◌⊎◌, inl, inr, Bool, true, false, ◌||◌, if◌then◌else◌, List, ◌∷◌, length, None, refl}
use Rattle.std.proofs.Common.{sym, subst, ap, ◌∙◌, arith}
use Rattle.std.specs.Prelude.{nat_lt}
use Rattle.edi_calls.specs.declared.kinds.Cause.TheVariants as cause
use Rattle.edi_calls.specs.Names.{Name}
use Rattle.edi_calls.specs.Outcome as outcome
use Rattle.edi_unit.specs.Tree.{Acts, Block}
use Rattle.edi_unit.specs.Need.{callee_result}
use Rattle.edi_unit.specs.Fits.{callee_heading, CalleeFits}
use Rattle.edi_unit.specs.Headings.{heading_formals}
use Rattle.edi_unit.specs.declared.expressions.Callee.{Callee}
use Rattle.edi_unit.specs.declared.expressions.Callee.TheVariants as callee
use Rattle.edi_meaning.specs.Store.{Cell, Store, Shape, shape, room, now, used, grown}
use Rattle.edi_meaning.specs.Evaluation.{World, Evaluation, gives, ends, ◌>>=◌, fails, turn, turn_from}
use Rattle.edi_meaning.specs.Whole.{meant, instance_of, system_call, levels_of}
use Rattle.edi_meaning.specs.Step.{Work, procedure_end, body_of, goes, called}
use Rattle.edi_meaning.proofs.Frames.{HasShape}
use Rattle.edi_target.specs.Mach.{is_first}
use Rattle.edi_scheme.specs.Pieces.{function_flag}
use Rattle.edi_scheme.specs.Code.{call_code}
use Rattle.edi_scheme.specs.Stands as code
use Rattle.edi_follows.specs.values.Words.{ValuesAreLong, ZeroIsZeros}
use Rattle.edi_follows.specs.places.Coded.{Coded, block, entry}
use Rattle.edi_follows.specs.places.Spots.{frame_start, bottom, cells_words, IsOther}
use Rattle.edi_follows.specs.places.Located.{IsCalledFrom, by_block, by_parameter, Agrees}
use Rattle.edi_follows.specs.places.Walks.{Walker}
use Rattle.edi_follows.specs.places.Scene.{Scene, Outer, alone, here, base_of, Stands, After, DoesSo, gets}
use Rattle.edi_follows.specs.places.Claims.{Passed, Ran, SystemClaim}
use Rattle.edi_follows.specs.places.Follows.{Follows}
use Rattle.edi_follows.specs.places.Steps.{work_at, KeepsOutside, CalledClaim}
use Rattle.edi_follows.proofs.places.Places.{start_later, roomy, control_other}
use Rattle.edi_follows.proofs.places.Located.{matches_kept}
use Rattle.edi_follows.proofs.places.Doing.{gets_one, gets_then, stops_then, stands_after}
use Rattle.edi_follows.proofs.places.Free.{now_ends}
use Rattle.edi_follows.proofs.calls.Comes.{word_before, word_behind}
use Rattle.edi_follows.proofs.calls.Callees.{ByBlock, BySystem, called_so}
use Rattle.edi_follows.proofs.calls.Entering as entering
use Rattle.edi_follows.proofs.calls.Entering.{ws, ws_length, begins}
use Rattle.edi_follows.proofs.calls.Blocks.{H, e, mem, inside, stands_new}
use Rattle.edi_follows.proofs.calls.Resting.{goes_on_from}
use Rattle.edi_follows.proofs.calls.EnteredWork.{entered_work}

module _ (g : Coded) (long : ValuesAreLong) (zeros : ZeroIsZeros) (s : Scene)
    (system : (deeper : Acts → World → Evaluation (Unit {0})) (bound : ℕ) → SystemClaim g s deeper bound)
    (c : Callee) (line : ℕ) (cells : List Cell) (left : List Work) (F : Shape) (pc to : ℕ) (w : World) (m : List ℕ) (store : Store) (from : List ℕ)
    (r : Walker) (cleared : Bool)
    (st : code.AreInstructions g.fetched (call_code g.unit.types g.unit.blocks (entry g) (here g s F) c line) pc to)
    (fits : CalleeFits g.unit.blocks (here g s F) c) (res : callee_result g.unit.blocks (here g s F) c ≡ None) (h : Stands g s F w m)
    (passed : Passed g s F (heading_formals (callee_heading g.fits.headings g.unit.blocks (here g s F) c)) pc (base_of g s F) cells m pc
    (base_of g s F + length (cells_words g s.first F cells)))
    (at : work_at g s F m left to)
    (there : gets g s r (alone s F m pc (base_of g s F + length (cells_words g s.first F cells)) 0 w) cleared) (shaped : HasShape F store)
    (outside : KeepsOutside g s F from m) where
  abbrev p : Name
  p = s.name

  abbrev t : ℕ
  t = base_of g s F

  abbrev start : Walker
  start = alone s F m pc (t + length (cells_words g s.first F cells)) 0 w

  some : 0 < length (F p)
  some = h.layout.some p s.lives

  low : t ≤ t
  low = omega arith

  few : 0 ≤ length (F p)
  few = omega arith

  seen : shape store ≡ F
  seen = λ i y. shaped.each y i

  -- what holds in the shape of the store
  told : (a : ℕ) → IsOther g s.first (shape store) (now (shape store) p) a → IsOther g s.first F (now F p) a
  told a o = subst (λ G. IsOther g s.first G (now G p) a) seen o

  -- ---- a call of the system

  module _ (v : World) (mm : List ℕ) (c' : Bool) (a : After g s F w v m mm t c') where
    agrees : Agrees g (s.first p) (F p) (F p) m mm (length (F p) - 1)
    agrees = record {
      starts = λ x le. refl;
      framed = λ x le. refl;
      words = λ x j le k. a.untouched (s.first p + frame_start (F p) x + j) (inl (below x j le k))
          (control_other g s.live s.waits s.first s.size F h.layout (now F p) (p, x) j (omega (arith, le, some)) k);
    }
      where
        upto : (x : ℕ) → (x < length (F p) - 1) ⊎ (x ≡ length (F p) - 1) → frame_start (F p) x ≤ frame_start (F p) (length (F p) - 1)
        upto x (inl l) = omega (arith, start_later (F p) x (length (F p) - 1) l (omega (arith, some)))
        upto x (inr l) = let same_start : frame_start (F p) x ≡ frame_start (F p) (length (F p) - 1) = ap (frame_start (F p)) l in omega (arith, same_start)

        split : (x y : ℕ) → x ≤ y → (x < y) ⊎ (x ≡ y)
        split x y l = grind (arith, l)

        below : (x j : ℕ) → x ≤ length (F p) - 1 → j < 5 → s.first p + frame_start (F p) x + j < t
        below x j le k = omega (arith, k, upto x (split x (length (F p) - 1) le))

  after_system : (run : Evaluation (Unit {0})) → DoesSo g s F pc (t + length (cells_words g s.first F cells)) t 0 w m (Ran g s to t) run →
      Follows g s store from r (run >>= λ _ w. gives (goes left) w)
  after_system (ends ending sys turns) x = inl (stops_then g.fetched s.count (is_first p) (Outer s) r start cleared ending sys turns there x)
  after_system (gives u v) x =
      goes_on_from g s F v x.memory (stands_after g s F w v m x.memory t x.cleared h x.after) store from (λ q n. sym (shaped.each q))
      (λ a wi o. x.after.untouched a (elim wi [ inl y ↦ inl (omega (arith, y)) | inr y ↦ inr y ]) (told a o) ∙ outside a wi (told a o))
      r (cleared || x.cleared) left x.to
      (subst (λ y. gets g s r (alone s F x.memory x.to y 0 v) (cleared || x.cleared)) x.post.top_is
      (gets_then g.fetched s.count (is_first p) (Outer s) r start (alone s F x.memory x.to x.up 0 v) cleared x.cleared there x.walked))
      (subst (work_at g s F x.memory left) (sym x.post.pc_is)
      (matches_kept g (is_first p) (s.first p) (F p) (F p) m x.memory left to (length (F p) - 1) (agrees v x.memory x.cleared x.after) at))

  -- ---- a block

  -- the call itself is one instruction, in front of what follows it
  from_call : IsCalledFrom g to line
  from_call = called_from c st
    where
      called_from : (c : Callee) → code.AreInstructions g.fetched (call_code g.unit.types g.unit.blocks (entry g) (here g s F) c line) pc to
          → IsCalledFrom g to line
      called_from (callee.Block levels n) stands = by_block pc levels (entry g n) stands
      called_from (callee.Formal levels v) stands = by_parameter pc levels _ stands

  module _ (y : ByBlock g s F w m h c line pc to (t + length (cells_words g s.first F cells)) 0 cells) where
    abbrev n : ℕ
    n = y.number

    abbrev B : Block
    B = block g n

    none : B.result ≡ None
    none = y.result ∙ res

    flag : 0 + function_flag B.result ≡ 0
    flag = omega (arith, ap function_flag none)

    entered_step : (free : nat_lt (s.size p - used (F p)) B.need ≡ false) (k : ℕ) → w.turns ≡ k →
        Follows g s store from r (turn_from k w
        (λ x. gives (goes (body_of g.unit n (procedure_end line ∷ left)))
        (record x { store = grown p (instance_of g.unit p (s.size p) n y.parent cells) x.store })))
    entered_step free zero i =
        inl (stops_then g.fetched s.count (is_first p) (Outer s) r start cleared outcome.turns w.system w.turns there
        (entering.ends_there g long zeros s F w m h n y.parent cells y.called t to line pc 0 low few passed.words y.does free i))
    entered_step free (suc k) i =
        let K : Shape = H g long zeros s F w m h n y.parent cells y.called t to line pc 0 low few passed.words y.does free in
        let now_mem : List ℕ = mem g long zeros s F w m h n y.parent cells y.called t to line pc 0 low few passed.words y.does free in
        let out : World = inside g long zeros s F w m h n y.parent cells y.called t to line pc 0 low few passed.words y.does free k in
        let bodied : code.IsProcedure g.fetched g.unit.types g.unit.blocks (entry g) n = begins g long zeros s F w m h n y.parent cells y.called t to in
        let fitting : used (F p) + B.need ≤ s.size p =
        entering.room g long zeros s F w m h n y.parent cells y.called t to line pc 0 low few passed.words y.does free in
        let words : List ℕ = ws g long zeros s F w m h n y.parent cells y.called t to in
        let as_length : length words ≡ B.need = ws_length g long zeros s F w m h n y.parent cells y.called t to in
        goes_on_from g s K out now_mem (stands_new g long zeros s F w m h n y.parent cells y.called t to line pc 0 low few passed.words y.does free k) store
        from
        (λ q apart. (e g long zeros s F w m h n y.parent cells y.called t to line pc 0 low few passed.words y.does free).theirs q apart ∙ sym (shaped.each q))
        (λ a wi o. elim wi [
          | inl l ↦ word_before g long zeros s F w m h n y.parent cells y.called words as_length fitting a (omega (arith, l))
          | inr l ↦ word_behind g long zeros s F w m h n y.parent cells y.called words as_length fitting a l
        ] ∙ outside a wi (told a o))
        r (cleared || true) (body_of g.unit n (procedure_end line ∷ left)) bodied.body
        (subst (λ x. gets g s r (alone s K now_mem bodied.body (bottom g s.first K p) x out) (cleared || true)) flag
        (gets_then g.fetched s.count (is_first p) (Outer s) r start
        (alone s K now_mem bodied.body (bottom g s.first K p) (0 + function_flag B.result) out) cleared true there
        (gets_one g.fetched s.count (is_first p) (Outer s) start (alone s K now_mem bodied.body (bottom g s.first K p) (0 + function_flag B.result) out) true
        (entering.moves_there g long zeros s F w m h n y.parent cells y.called t to line pc 0 low few passed.words y.does free k i))))
        (entered_work g long zeros s F w m h n y.parent cells y.called to line pc low few passed.words y.does free none left from_call at)

    tested : (full : Bool) → nat_lt (s.size p - used (F p)) B.need ≡ full →
        Follows g s store from r (if full then fails cause.VariableLimit line w else turn w
        (λ x. gives (goes (body_of g.unit n (procedure_end line ∷ left)))
        (record x { store = grown p (instance_of g.unit p (s.size p) n y.parent cells) x.store })))
    tested true i =
        inl (stops_then g.fetched s.count (is_first p) (Outer s) r start cleared (outcome.failed cause.VariableLimit line) w.system w.turns there
        (entering.fails_there g long zeros s F w m h n y.parent cells y.called t to line pc 0 low few passed.words y.does i))
    tested false i = entered_step i w.turns refl

  followed : ByBlock g s F w m h c line pc to (t + length (cells_words g s.first F cells)) 0 cells
      ⊎ BySystem g s F w m h c line pc to (t + length (cells_words g s.first F cells)) 0 cells →
      Follows g s store from r (called g.unit p (s.size p) (meant g.unit p (s.size p) c w) cells line left w)
  followed (inr y) =
      subst (λ cl. Follows g s store from r (called g.unit p (s.size p) cl cells line left w)) (sym y.means)
      (after_system (system_call y.number cells line w)
      (system (levels_of g.unit p (s.size p) 0) w.turns c line cells y.number F pc to t 0 w m (omega arith) st fits res
      (record {
        stands = h;
        low = omega arith;
        high = omega
            (arith, roomy g F (now F p) (h.layout.fine (now F p) (omega (arith, some))), now_ends g s F w m h);
        few = omega arith;
      }) passed y.means).is)
  followed (inl y) =
      subst (λ cl. Follows g s store from r (called g.unit p (s.size p) cl cells line left w)) (sym y.means)
      (tested y (nat_lt (room (s.size p) (shape w.store p)) (block g y.number).need)
      (ap (λ fs. nat_lt (room (s.size p) fs) (block g y.number).need) (sym (h.shaped.each p))))

pub called_claim : (g : Coded) → ValuesAreLong → ZeroIsZeros → (s : Scene) →
    ((deeper : Acts → World → Evaluation (Unit {0})) (bound : ℕ) → SystemClaim g s deeper bound) → CalledClaim g s
called_claim g long zeros s system c line cells left F pc to w m store from r cleared st fits res h passed at there shaped outside =
    followed g long zeros s system c line cells left F pc to w m store from r cleared st fits res h passed at there shaped outside
    (called_so g s F w m h line pc to (base_of g s F + length (cells_words g s.first F cells)) 0 cells c st fits passed.cells_fit)
