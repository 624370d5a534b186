-- The state was kept already, or it is the next one.
use Rattle.std.proofs.Common.{◌≡◌, ◌<◌, ◌++◌, ◌∷◌, [], ℕ, List, Bool, arith, get_or, true, false, not, length, sym, ap, ◌∙◌, refl, subst}
use Rattle.std.specs.Prelude.{if◌then◌else◌}
use Rattle.std.specs.List.{list_any, position_or_len}
use Rattle.std.proofs.lemmas.List.Folds.{list_any_at}
use Rattle.std.proofs.lemmas.List.Sums.{position_or_len_is}
use Rattle.indexmap.specs.IndexSet.{contains}
use Rattle.edi_explore.specs.declared.states.States.{States}
use Rattle.edi_explore.specs.Shown.{asks_of}
use Rattle.edi_explore.specs.States.{IsKeyOf}
use Rattle.edi_explore.specs.contracts.states.KeyPartialEq.TheImpl as key
use Rattle.edi_explore.proofs.Adding.{added_again, added_new}
use Rattle.edi_explore.proofs.Equal.{key_same}
use Rattle.edi_explore.proofs.states.States.keep.Goals as goal

stay : {X : Type 0} (b : Bool) (ks more : List X) → not b ≡ false → (if b then ks else more) ≡ ks
stay true ks more e = refl
stay false ks more e = absurd (cc)

grow : {X : Type 0} (b : Bool) (ks more : List X) → not b ≡ true → (if b then ks else more) ≡ more
grow true ks more e = absurd (cc)
grow false ks more e = refl

-- what no element passes is passed behind all
new_place : {X : Type 0} (p : X → Bool) (xs : List X) (d : X) → not (list_any p xs) ≡ true → position_or_len p xs ≡ length xs
new_place p xs d none =
    position_or_len_is p xs (length xs) d (omega arith) (λ k less. fails k less (p (get_or xs k d)) refl) (λ less. absurd (omega (arith, less)))
  where
    fails : (k : ℕ) → k < length xs → (b : Bool) → p (get_or xs k d) ≡ b → p (get_or xs k d) ≡ false
    fails k less true is = let h : not true ≡ true = ap not (sym (list_any_at p xs k d less is)) ∙ none in absurd (cc)
    fails k less false is = is

pub returns-then-not-added-clause-added : goal.returns-then-not-added-clause-added
returns-then-not-added-clause-added c =
    let mid = c.key_of.new.self in
    let stored = c.in_ok-number.ensures.stored in
    added_again (asks_of c.args.limits) c.args.self.now mid (record mid { keys = c.insert_full.new.self }) c.in_ok-key.key stored.0 c.in_ok-number.number c.args.kernel.now c.args.calls.now
    c.requires.states c.in_ok-key.ensures.adds (subst (λ b. IsKeyOf b mid c.in_ok-key.key c.args.kernel.now c.args.calls.now) c.asks.ensures c.in_ok-key.ensures.key) refl
    (c.in_ok-number.ensures.keys
    ∙ stay (contains (key.ghosts).eq mid.keys c.in_ok-key.key) mid.keys.keys (mid.keys.keys ++ c.in_ok-key.key ∷ [])
    (sym c.in_ok-number.ensures.added ∙ c.if-not-added.true))
    stored.1 (key_same c.in_ok-key.key stored.0 stored.2)

pub returns-clause-added : goal.returns-clause-added
returns-clause-added c =
    let mid = c.key_of.new.self in
    let rest = c.in_ok-note_order.ensures.rest in
    let fresh = sym c.in_ok-number.ensures.added ∙ c.if-not-added.false in
    let h = added_new (asks_of c.args.limits) c.args.self.now mid
    (record c.note_order.new.self { origins = c.push.new.self; ends = c.push-2.new.self }) c.in_ok-key.key c.args.kernel.now c.args.calls.now
    c.requires.states c.in_ok-key.ensures.adds c.requires.kernel (subst (λ b. IsKeyOf b mid c.in_ok-key.key c.args.kernel.now c.args.calls.now) c.asks.ensures c.in_ok-key.ensures.key)
    (ap (λ (x : States). x.processes) rest) (ap (λ (x : States). x.places) rest)
    (ap (λ (x : States). x.keys.keys) rest ∙ c.in_ok-number.ensures.keys
    ∙ grow (contains (key.ghosts).eq mid.keys c.in_ok-key.key) mid.keys.keys (mid.keys.keys ++ c.in_ok-key.key ∷ []) fresh)
    c.in_ok-note_order.ensures.exact
    c.args.origin c.requires.origin (c.in_ok-push.ensures.items ∙ ap (λ (x : States). x.origins.items ++ c.args.origin ∷ []) rest)
    (c.in_ok-push-2.ensures.items
    ∙ ap (λ n. c.note_order.new.self.ends.items ++ n ∷ []) (c.len-2.ensures ∙ c.note_order.new.self.orders.ok.0)
    ∙ ap (λ (x : States). x.ends.items ++ length c.note_order.new.self.orders.items ∷ []) rest) in
    (h.0, h.1 ∙ sym (c.in_ok-number.ensures.index ∙ new_place ((key.ghosts).eq c.in_ok-key.key) mid.keys.keys c.in_ok-key.key fresh))
