-- One instruction does the same, whatever was printed before, and whatever was shown, where that is not told, and however many turns are left,
-- unless they are used up.
use Rattle.std.proofs.Common.{ℕ, zero, suc, Bool, List, Option, refl, ap}
use Rattle.edi_calls.specs.Calls.{CallResult, answered, no_file, file_limit, call}
use Rattle.edi_target.specs.Op.{Instruction}
use Rattle.edi_target.specs.Effect.{Local, Turn, Effect, goes, released, asks, due, fails, bad}
use Rattle.edi_target.specs.Mach.{Running, Answer, local_step, settled, called, turn_from, effect_at}
use Rattle.edi_explored.specs.machine.Alike.{shows, SameShown, CallAlike, RunAlike, AnswerAlike}
use Rattle.edi_explored.proofs.machine.Calls.{call_shown}

-- the same, with other things shown and printed, and so many turns left
abbrev pub otherwise : List ℕ → List ℕ → ℕ → Running → Running
otherwise shown printed turns r = record r { system = shows shown printed r.system; turns = turns }

module _ (told : Bool) (a b : List ℕ) (n : ℕ) (r : Running) (h : SameShown told r.system.shown a) where
  abbrev q : Running
  q = otherwise a b n r

  same_run : (l : Local) → RunAlike told (record r { local = l }) (record q { local = l })
  same_run l = record { local = refl; system = record { input = refl; slots = refl; blocks = refl; found = refl; buffer = refl; shown = h } }

  called_alike : (x y : CallResult) (address : Option ℕ) (line : ℕ) (l : Local) → CallAlike told x y →
      AnswerAlike told (called x address line l r) (called y address line l q)
  called_alike (answered w s) (answered v t) address line l k =
      record { local = ap (λ ws. Rattle.edi_target.specs.Mach.answer_at address ws l) k.0; system = k.1 }
  called_alike no_file no_file address line l k = (refl, h)
  called_alike file_limit file_limit address line l k = (refl, h)
  called_alike (answered w s) no_file address line l k = absurd k
  called_alike (answered w s) file_limit address line l k = absurd k
  called_alike no_file (answered v t) address line l k = absurd k
  called_alike no_file file_limit address line l k = absurd k
  called_alike file_limit (answered v t) address line l k = absurd k
  called_alike file_limit no_file address line l k = absurd k

  turn_alike : (i j : ℕ) (kind : Turn) (l : Local) → AnswerAlike told (turn_from i kind l r) (turn_from j kind l q)
  turn_alike zero zero kind l = (refl, h)
  turn_alike zero (suc j) kind l = refl
  turn_alike (suc i) zero kind l = refl
  turn_alike (suc i) (suc j) kind l =
      (refl, record { local = refl; system = record { input = refl; slots = refl; blocks = refl; found = refl; buffer = refl; shown = h } })

  settled_alike : (e : Effect) → AnswerAlike told (settled e r) (settled e q)
  settled_alike (goes l) = same_run l
  settled_alike (released l) = same_run l
  settled_alike (asks number arguments address line l) =
      called_alike (call number arguments r.system) (call number arguments q.system) address line l (call_shown told r.system a b h number arguments)
  settled_alike (due kind l) = turn_alike r.turns n kind l
  settled_alike (fails c line) = (refl, h)
  settled_alike bad = (refl, h)

pub step_alike : (told : Bool) (fetch : ℕ → Option (Instruction × ℕ)) (live : ℕ) (is_first : Bool) (a b : List ℕ) (n : ℕ) (r : Running) →
    SameShown told r.system.shown a → AnswerAlike told (local_step fetch live is_first r) (local_step fetch live is_first (otherwise a b n r))
step_alike told fetch live is_first a b n r h = settled_alike told a b n r h (effect_at fetch (fetch r.local.pc) live is_first r.local)
