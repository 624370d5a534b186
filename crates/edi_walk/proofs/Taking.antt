-- Who is taken from the list of the code.
use Rattle.std.proofs.Common.{◌≡◌, ℕ, zero, suc, ◌+◌, ◌-◌, ◌<◌, ◌^◌, ◌%◌, Bool, true, false, List, [], ◌∷◌, ◌++◌, length, refl, sym, subst, ap, ◌∙◌, arith, take, drop, get_or, nat_eq}
use Rattle.std.specs.Prelude.{map, min}
use Rattle.std.proofs.lemmas.Bool.{eqb-true}
use Rattle.std.specs.Global.{Vec}
use Rattle.edi_calls.specs.Choice.{choice}
use Rattle.edi_calls.specs.Ready.{taking, take_next, name_at, without_index, taking_at}
use Rattle.edi_trace.specs.Drawn.{Drawn}
use Rattle.edi_walk.specs.Ends.{PicksBy}

taken_at : (ns : List (Vec ℕ)) (i : ℕ) (name : Vec ℕ) → i < length ns → name ≡ get_or ns i name → name_at (map (λ n. n.items) ns) i ≡ name.items
taken_at [] i name h e = absurd (omega (arith, h))
taken_at (n ∷ ns) zero name h e = ap (λ v. v.items) (sym e)
taken_at (n ∷ ns) (suc i) name h e = taken_at ns i name (omega (arith, h)) e

others_of : (ns : List (Vec ℕ)) (i : ℕ) → map (λ n. n.items) (take i ns ++ drop (suc i) ns) ≡ without_index (map (λ n. n.items) ns) i
others_of [] zero = refl
others_of [] (suc i) = refl
others_of (n ∷ ns) zero = refl
others_of (n ∷ ns) (suc i) = ap (λ l. n.items ∷ l) (others_of ns i)

counted : (ns : List (Vec ℕ)) → length (map (λ n. n.items) ns) ≡ length ns
counted [] = refl
counted (n ∷ ns) = ap suc (counted ns)

not_one : (k : ℕ) → nat_eq (suc (suc k)) 1 ≡ false
not_one k = go (nat_eq (suc (suc k)) 1) refl
  where
    go : (b : Bool) → nat_eq (suc (suc k)) 1 ≡ b → nat_eq (suc (suc k)) 1 ≡ false
    go true e = let f : suc (suc k) ≡ 1 = eqb-true (suc (suc k)) 1 e in absurd (omega (arith, f))
    go false e = e

pub take_is : (ns : List (Vec ℕ)) (old new : Drawn) (i : ℕ) (name : Vec ℕ) → 0 < length ns → i < length ns → PicksBy (nat_eq (length ns) 1) (length ns) old i new →
    old.drawn < 2 ^ 64 - 1 → name ≡ get_or ns i name →
    take_next old.source old.drawn (map (λ n. n.items) ns) ≡ taking name.items (map (λ n. n.items) (take i ns ++ drop (suc i) ns)) new.drawn
take_is [] old new i name some h picks few e = absurd (omega (arith, some))
take_is (n ∷ []) old new zero name some h picks few e =
    ap (λ v. taking v [] old.drawn) (taken_at (n ∷ []) 0 name h e) ∙ ap (λ d. taking name.items [] d) (ap (λ (x : Drawn). x.drawn) (sym picks.1))
take_is (n ∷ []) old new (suc i) name some h picks few e = absurd (omega (arith, h))
take_is (n ∷ m ∷ ns) old new i name some h picks few e =
    let all = n ∷ m ∷ ns in
    let p = subst (λ b. PicksBy b (length all) old i new) (not_one (length ns)) picks few in
    let same : choice old.source (old.drawn + 1) % length (map (λ x. x.items) all) ≡ i = ap (λ k. choice old.source (old.drawn + 1) % k) (counted all) ∙ sym p.0 in
    ap (λ k. taking_at (map (λ x. x.items) all) k (old.drawn + 1)) same
    ∙ ap (λ v. taking v (without_index (map (λ x. x.items) all) i) (old.drawn + 1)) (taken_at all i name h e)
    ∙ ap (λ l. taking name.items l (old.drawn + 1)) (sym (others_of all i))
    ∙ ap (λ d. taking name.items (map (λ x. x.items) (take i all ++ drop (suc i) all)) d) (ap (λ (x : Drawn). x.drawn) (sym p.1))

-- the index that was drawn
pub picks_so : (listed : ℕ) (old new : Drawn) (c i : ℕ) → nat_eq listed 1 ≡ false → i ≡ c % listed → new.drawn ≡ min (old.drawn + 1) (2 ^ 64 - 1) →
    new.source ≡ old.source → (old.drawn < 2 ^ 64 - 1 → c ≡ choice old.source (old.drawn + 1)) → PicksBy (nat_eq listed 1) listed old i new
picks_so listed old new c i e is drawn source drew =
    subst (λ b. PicksBy b listed old i new) (sym e)
    (λ few. (
      is ∙ ap (λ k. k % listed) (drew few),
      ap (λ s. record { source = s; drawn = new.drawn }) source ∙ ap (λ d. record { source = old.source; drawn = d }) (next few),
    ))
  where
    next : old.drawn < 2 ^ 64 - 1 → new.drawn ≡ old.drawn + 1
    next few = omega (arith, few, drawn)
