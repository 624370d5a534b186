-- Slot after slot.
use Rattle.std.proofs.Common.{◌≡◌, suc, ◌+◌, ◌++◌, ◌∷◌, [], List, Bool, true, false, ◌&&◌, if◌then◌else◌, map, refl, sym, ap, ◌∙◌, arith}
use Rattle.std.proofs.lemmas.List.{map-append}
use Rattle.edi_kernel.specs.Table.{is_live, process_at}
use Rattle.edi_waits.specs.Names.{is_at_when, waiting_at, waiting_below}
use Rattle.edi_waits.specs.Told.{waiting_of}
use Rattle.edi_waits.specs.Waits.{Waiting}
use Rattle.edi_waits.proofs.waits.waits_in.Goals as goal

one : {X : Type 0} (b : Bool) (xs : List X) (x : X) → b ≡ true → xs ++ x ∷ [] ≡ xs ++ (if b then x ∷ [] else [])
one true xs x e = refl
one false xs x e = absurd (cc)

pub loop-slot-preserved : goal.loop-slot-preserved
loop-slot-preserved c =
    let words = c.args.code.now.words in
    let k = c.args.kernel.now in
    let names = c.args.names.now in
    let n = c.loop-slot.slot in
    let w : Waiting = waiting_at words k.store names k.table n in
    let waits : (is_live k.table n && is_at_when (process_at k.table n).standing) ≡ true =
    sym c.waits_here.ensures.exact ∙ c.if-not-waits_here.false in
    let next : suc n ≡ n + 1 = omega arith in
    ap (map waiting_of) c.in_ok-push.ensures.items
    ∙ map-append waiting_of c.loop-slot.waits.items _
    ∙ ap (λ (x : Waiting). map waiting_of c.loop-slot.waits.items ++ x ∷ []) c.in_ok-wait.ensures.exact
    ∙ ap (λ (xs : List Waiting). xs ++ w ∷ []) c.loop-slot.invariant
    ∙ one (is_live k.table n && is_at_when (process_at k.table n).standing) (waiting_below words k names n) w waits
    ∙ ap (waiting_below words k names) next

pub returns : goal.returns
returns c =
    let all : c.loop-slot.slot ≡ 32 = omega (arith, c.loop-slot-test.false, c.loop-slot.auto.slot-end) in
    record { exact = c.loop-slot.invariant ∙ ap (waiting_below c.args.code.now.words c.args.kernel.now c.args.names.now) all }
