-- Whether a line is due, over the calls of a program.
use Rattle.std.proofs.Common.{◌≡◌, ℕ, ◌+◌, ◌-◌, Bool, List, [], ◌∷◌, ◌++◌, length, drop, Option, Some, None, sym, ap, subst, ◌∙◌, arith, append-nil}
use Rattle.std.specs.Prelude.{not, ◌==◌, false, slice_get, IfSome}
use Rattle.std.proofs.Math.ListN.{get_or}
use Rattle.std.proofs.lemmas.List.{drop-append-le, length-append, get_or-append-add}
use Rattle.std.proofs.lemmas.Option.{slice_get-get_or}
use Rattle.std.specs.Option.{option_map_or}
use Rattle.edi_told.specs.Told.{WhereTold}
use Rattle.edi_system.specs.Parts.{due_after}
use Rattle.edi_system.specs.AsCalls.{IsDueFrom}

-- the last byte decides
by_last : (cs : List ℕ) (n : ℕ) (due : Bool) → length cs ≡ n + 1 → due_after due cs ≡ not (get_or cs n 0 == 10)
by_last cs n due long =
    let at : slice_get cs (length cs - 1) ≡ Some (get_or cs n 0) =
    ap (slice_get cs) (let e : length cs - 1 ≡ n = omega (arith, long) in e) ∙ slice_get-get_or cs n 0 (omega (arith, long)) in
    ap (λ o. option_map_or (λ c. not (c == 10)) o due) at

-- first some bytes, and then others
due_on : (due : Bool) (cs ds : List ℕ) → due_after (due_after due cs) ds ≡ due_after due (cs ++ ds)
due_on due cs [] = sym (ap (due_after due) (append-nil cs))
due_on due cs (d ∷ ds) =
    by_last (d ∷ ds) (length ds) (due_after due cs) (omega arith)
    ∙ ap (λ c. not (c == 10)) (sym (get_or-append-add cs (d ∷ ds) (length ds) 0))
    ∙ sym (by_last (cs ++ d ∷ ds) (length cs + length ds) due (length-append cs (d ∷ ds) ∙ omega arith))

due_from : (start : ℕ) (bytes more : List ℕ) (due : Bool) → IsDueFrom start bytes due → IsDueFrom start (bytes ++ more) (due_after due more)
due_from start bytes more due from = record {
  within = let long = length-append bytes more in omega (arith, long, from.within);
  is = ap (λ d. due_after d more) from.is ∙ due_on false (drop start bytes) more ∙ ap (due_after false) (sym (drop-append-le start bytes more from.within));
}

-- more was shown on the terminal
pub more_due : {T : Type 0} (shown : T → Option (List ℕ)) (before after : T) (was is : Bool) (more : List ℕ)
    → WhereTold (shown before) (shown after) (λ old new. new ≡ old ++ more) → is ≡ due_after was more → (start : ℕ)
    → IfSome (shown before) (λ bytes. IsDueFrom start bytes was) → IfSome (shown after) (λ bytes. IsDueFrom start bytes is)
more_due shown before after was is more told due start = go (shown before) (shown after) told
  where
    go : (old new : Option (List ℕ)) → WhereTold old new (λ old new. new ≡ old ++ more)
        → IfSome old (λ bytes. IsDueFrom start bytes was) → IfSome new (λ bytes. IsDueFrom start bytes is)
    go old None told since = tt
    go None (Some new) told since = absurd told
    go (Some old) (Some new) told since =
        subst (λ bytes. IsDueFrom start bytes is) (sym told)
        (subst (λ d. IsDueFrom start (old ++ more) d) (sym due) (due_from start old more was since))
