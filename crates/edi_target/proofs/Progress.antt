-- Each instruction takes a turn, ends the run, is refused, or moves the program counter up.
use Rattle.std.proofs.Common.{◌≡◌, ℕ, zero, suc, ◌<◌, Bool, true, false, nat_lt, if◌then◌else◌, List, Option, Some, None, refl, arith}
use Rattle.std.proofs.lemmas.Bool.Decides.{nat_tests}
use Rattle.edi_calls.specs.Calls.{answer_words}
use Rattle.edi_target.specs.Op as op
use Rattle.edi_target.specs.Op.{Instruction}
use Rattle.edi_calls.specs.declared.kinds.Cause.{Cause}
use Rattle.edi_target.specs.Effect.{Local, Turn, Effect, goes, released, asks, due, fails, bad, in_range, enter}
use Rattle.edi_target.specs.Perform.{short_cut, with_answer_address, system_call, perform}
use Rattle.edi_target.specs.Laws.{MovesUp, EachMovesUp}

-- the fact as a record, so that its effect is found where it is used
record Up (at : ℕ) (effect : Effect) : Type 0 where
  up : MovesUp at effect

-- a test that chooses between two effects
either : {at : ℕ} {effect other : Effect} (b : Bool) → Up at effect → Up at other → Up at (if b then effect else other)
either true h k = h
either false h k = k

-- a test that the frame, the memory or the operands have to meet
test : {at : ℕ} {effect : Effect} (b : Bool) → Up at effect → Up at (if b then effect else bad)
test true h = h
test false h = record { up = tt }

-- a value, or the failure `range`
ranged : {at : ℕ} {go : ℕ → Effect} (line : ℕ) (x : Option ℕ) → ((z : ℕ) → Up at (go z)) → Up at (in_range line x go)
ranged line None h = record { up = tt }
ranged line (Some z) h = h z

-- the ends of an instruction
goes_up : {at : ℕ} {l : Local} → at < l.pc → Up at (goes l)
goes_up h = record { up = h }

released_up : {at : ℕ} {l : Local} → at < l.pc → Up at (released l)
released_up h = record { up = h }

asks_up : {at number : ℕ} {arguments : List ℕ} {address : Option ℕ} {line : ℕ} {l : Local} → at < l.pc → Up at (asks number arguments address line l)
asks_up h = record { up = h }

due_up : {at : ℕ} {turn : Turn} {l : Local} → Up at (due turn l)
due_up = record { up = tt }

fails_up : {at : ℕ} {c : Cause} {line : ℕ} → Up at (fails c line)
fails_up = record { up = tt }

bad_up : {at : ℕ} → Up at bad
bad_up = record { up = tt }

-- a jump goes to a target above its own address
leads_up : (at target : ℕ) (effect : Effect) → (at < target → Up at effect) → Up at (if nat_lt at target then effect else bad)
leads_up at target effect h = grind (arith, nat_tests)

branched : (b : Bool) (at target next : ℕ) → at < next → at < target → at < (if b then target else next)
branched true at target next h k = k
branched false at target next h k = h

cut : (b : Bool) (target next : ℕ) (l : Local) → l.pc < next → l.pc < target → Up l.pc (short_cut b target next l)
cut true target next l h k = record { up = k }
cut false target next l h k = record { up = h }

entered : (found : Option (Instruction × ℕ)) (link back line : ℕ) (l : Local) → Up l.pc (enter found link back line l)
entered (Some (op.entry need r p v f, body)) link back line l = search (test, either, fails_up, due_up) depth 9
entered None link back line l = bad_up
entered (Some x) link back line l = bad_up

addressed : {at : ℕ} {go : Option ℕ → Local → Effect} (n : ℕ) (l : Local) → l.pc ≡ at → ((address : Option ℕ) (m : Local) → m.pc ≡ at → Up at (go address m))
    → Up at (with_answer_address n l go)
addressed zero l e h = h None l e
addressed (suc n) l e h = test _ (h _ _ e)

asked : (number line next : ℕ) (l : Local) → l.pc < next → Up l.pc (system_call number line next l)
asked number line next l h = test _ (addressed (answer_words number) l refl (λ address m e. test _ (asks_up h)))

each_up : (fetch : ℕ → Option (Instruction × ℕ)) (live : ℕ) (is_first : Bool) (i : Instruction) (next : ℕ) (l : Local) → l.pc < next
    → Up l.pc (perform fetch live is_first i next l)
each_up fetch live is_first (op.const value) next l h = search (test, either, ranged, goes_up, released_up, asks_up, due_up, fails_up) depth 9
each_up fetch live is_first (op.text words) next l h = search (test, either, ranged, goes_up, released_up, asks_up, due_up, fails_up) depth 9
each_up fetch live is_first (op.zeros count) next l h = search (test, either, ranged, goes_up, released_up, asks_up, due_up, fails_up) depth 9
each_up fetch live is_first (op.address k offset) next l h = search (test, either, ranged, goes_up, released_up, asks_up, due_up, fails_up) depth 9
each_up fetch live is_first (op.field offset) next l h = search (test, either, ranged, goes_up, released_up, asks_up, due_up, fails_up) depth 9
each_up fetch live is_first (op.index low high size line) next l h = search (test, either, ranged, goes_up, released_up, asks_up, due_up, fails_up) depth 9
each_up fetch live is_first (op.load count) next l h = search (test, either, ranged, goes_up, released_up, asks_up, due_up, fails_up) depth 9
each_up fetch live is_first (op.store count) next l h = search (test, either, ranged, goes_up, released_up, asks_up, due_up, fails_up) depth 9
each_up fetch live is_first (op.add line) next l h = search (test, either, ranged, goes_up, released_up, asks_up, due_up, fails_up) depth 9
each_up fetch live is_first (op.sub line) next l h = search (test, either, ranged, goes_up, released_up, asks_up, due_up, fails_up) depth 9
each_up fetch live is_first (op.mul line) next l h = search (test, either, ranged, goes_up, released_up, asks_up, due_up, fails_up) depth 9
each_up fetch live is_first (op.div line) next l h = search (test, either, ranged, goes_up, released_up, asks_up, due_up, fails_up) depth 9
each_up fetch live is_first (op.mod_ line) next l h = search (test, either, ranged, goes_up, released_up, asks_up, due_up, fails_up) depth 9
each_up fetch live is_first (op.neg line) next l h = search (test, either, ranged, goes_up, released_up, asks_up, due_up, fails_up) depth 9
each_up fetch live is_first op.not_ next l h = search (test, either, ranged, goes_up, released_up, asks_up, due_up, fails_up) depth 9
each_up fetch live is_first (op.eq count) next l h = search (test, either, ranged, goes_up, released_up, asks_up, due_up, fails_up) depth 9
each_up fetch live is_first (op.ne count) next l h = search (test, either, ranged, goes_up, released_up, asks_up, due_up, fails_up) depth 9
each_up fetch live is_first op.lt next l h = search (test, either, ranged, goes_up, released_up, asks_up, due_up, fails_up) depth 9
each_up fetch live is_first op.le next l h = search (test, either, ranged, goes_up, released_up, asks_up, due_up, fails_up) depth 9
each_up fetch live is_first op.gt next l h = search (test, either, ranged, goes_up, released_up, asks_up, due_up, fails_up) depth 9
each_up fetch live is_first op.ge next l h = search (test, either, ranged, goes_up, released_up, asks_up, due_up, fails_up) depth 9
each_up fetch live is_first op.union next l h = search (test, either, ranged, goes_up, released_up, asks_up, due_up, fails_up) depth 9
each_up fetch live is_first op.minus next l h = search (test, either, ranged, goes_up, released_up, asks_up, due_up, fails_up) depth 9
each_up fetch live is_first op.meet next l h = search (test, either, ranged, goes_up, released_up, asks_up, due_up, fails_up) depth 9
each_up fetch live is_first op.in_ next l h = search (test, either, ranged, goes_up, released_up, asks_up, due_up, fails_up) depth 9
each_up fetch live is_first (op.member line) next l h = search (test, either, ranged, goes_up, released_up, asks_up, due_up, fails_up) depth 9
each_up fetch live is_first (op.check low high line) next l h = search (test, either, ranged, goes_up, released_up, asks_up, due_up, fails_up) depth 9
each_up fetch live is_first (op.jump target) next l h = leads_up _ _ _ (λ k. record { up = k })
each_up fetch live is_first (op.false_ target) next l h = leads_up _ _ _ (λ k. search (test, goes_up, branched) depth 9)
each_up fetch live is_first (op.and target) next l h = leads_up _ _ _ (λ k. search (test, cut) depth 9)
each_up fetch live is_first (op.or target) next l h = leads_up _ _ _ (λ k. search (test, cut) depth 9)
each_up fetch live is_first (op.loop target) next l h = search (test, either, ranged, goes_up, released_up, asks_up, due_up, fails_up) depth 9
each_up fetch live is_first (op.entry need r p v f) next l h = bad_up
each_up fetch live is_first (op.call k target line) next l h = entered (fetch target) _ _ line l
each_up fetch live is_first (op.call_p k offset line) next l h = search (test, either, asked, entered) depth 9
each_up fetch live is_first (op.proc k target) next l h = search (test, either, ranged, goes_up, released_up, asks_up, due_up, fails_up) depth 9
each_up fetch live is_first (op.return results function) next l h = search (test, either, ranged, goes_up, released_up, asks_up, due_up, fails_up) depth 9
each_up fetch live is_first (op.halt line) next l h = search (test, either, ranged, goes_up, released_up, asks_up, due_up, fails_up) depth 9
each_up fetch live is_first (op.when line) next l h = search (test, either, ranged, goes_up, released_up, asks_up, due_up, fails_up) depth 9
each_up fetch live is_first (op.retry target) next l h = search (test, either, ranged, goes_up, released_up, asks_up, due_up, fails_up) depth 9
each_up fetch live is_first op.done next l h = search (test, either, ranged, goes_up, released_up, asks_up, due_up, fails_up) depth 9
each_up fetch live is_first (op.cobegin line branches) next l h = search (test, either, ranged, goes_up, released_up, asks_up, due_up, fails_up) depth 9
each_up fetch live is_first op.exit next l h = search (test, either, ranged, goes_up, released_up, asks_up, due_up, fails_up) depth 9
each_up fetch live is_first (op.quiet target) next l h = search (test, either, ranged, goes_up, released_up, asks_up, due_up, fails_up) depth 9

pub each_moves_up : EachMovesUp
each_moves_up fetch live is_first i next l h = (each_up fetch live is_first i next l h).up
