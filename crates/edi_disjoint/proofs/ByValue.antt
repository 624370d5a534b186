-- A text without what it lends has each other mention of it, and nothing else.
use Rattle.std.proofs.Common.{◌≡◌, ℕ, zero, suc, ◌⊎◌, inl, inr, List, [], ◌∷◌, ◌++◌, map, Some, None, refl, subst, sym}
use Rattle.std.specs.Prelude.{Contains, ⊤}
use Rattle.std.specs.Global.{Vec}
use Rattle.edi_calls.proofs.Names.{no_some}
use Rattle.edi_unit.specs.Tree.{Block}
use Rattle.edi_disjoint.specs.declared.mentions.Mention.{Mention}
use Rattle.edi_disjoint.specs.declared.mentions.Mention.TheVariants as mention
use Rattle.edi_disjoint.specs.Footprints.{Variable, seen}
use Rattle.edi_disjoint.specs.Apart.{text_at}
use Rattle.edi_disjoint.specs.Open.{used}
use Rattle.edi_disjoint.specs.Openly.{with_value, with_values, AreValues}
use Rattle.edi_disjoint.proofs.Contained.{contains_append, contains_either, contains_first, contains_last, contains_later, contains_more, contains_none}

-- it lends no variable
abbrev pub IsValue : Mention → Type 0
IsValue (mention.Reads levels number) = ⊤
IsValue (mention.Assigns levels number) = ⊤
IsValue (mention.Lends levels number) = ⊥
IsValue (mention.Calls c) = ⊤
IsValue (mention.Passes c) = ⊤

-- of these what is mentioned is used
pub value_used : (bs : List Block) (n : ℕ) (m : Mention) → IsValue m → used bs n m ≡ seen bs n m
value_used bs n (mention.Reads levels number) h = refl
value_used bs n (mention.Assigns levels number) h = refl
value_used bs n (mention.Lends levels number) h = absurd h
value_used bs n (mention.Calls c) h = refl
value_used bs n (mention.Passes c) h = refl

pub used_value : (bs : List Block) (n : ℕ) (m : Mention) (x : Variable) → used bs n m ≡ Some x → IsValue m × (seen bs n m ≡ Some x)
used_value bs n (mention.Reads levels number) x e = (tt, e)
used_value bs n (mention.Assigns levels number) x e = (tt, e)
used_value bs n (mention.Lends levels number) x e = absurd (no_some None refl e)
used_value bs n (mention.Calls c) x e = absurd (no_some None refl e)
used_value bs n (mention.Passes c) x e = absurd (no_some None refl e)

-- ---- one mention more

last_has : (xs : List Mention) (n m : Mention) → IsValue n → Contains (xs ++ n ∷ []) m → Contains xs m ⊎ ((n ≡ m) × IsValue m)
last_has xs n m v h = elim (contains_more xs n m h) [ inl o ↦ inl o | inr e ↦ inr (e, subst IsValue e v) ]

value_has : (xs : List Mention) (n m : Mention) → Contains (with_value xs n) m → Contains xs m ⊎ ((n ≡ m) × IsValue m)
value_has xs (mention.Reads levels number) m h = last_has xs (mention.Reads levels number) m tt h
value_has xs (mention.Assigns levels number) m h = last_has xs (mention.Assigns levels number) m tt h
value_has xs (mention.Lends levels number) m h = inl h
value_has xs (mention.Calls c) m h = last_has xs (mention.Calls c) m tt h
value_has xs (mention.Passes c) m h = last_has xs (mention.Passes c) m tt h

value_keeps : (xs : List Mention) (n m : Mention) → Contains xs m → Contains (with_value xs n) m
value_keeps xs (mention.Reads levels number) m h = contains_append xs (mention.Reads levels number ∷ []) m h
value_keeps xs (mention.Assigns levels number) m h = contains_append xs (mention.Assigns levels number ∷ []) m h
value_keeps xs (mention.Lends levels number) m h = h
value_keeps xs (mention.Calls c) m h = contains_append xs (mention.Calls c ∷ []) m h
value_keeps xs (mention.Passes c) m h = contains_append xs (mention.Passes c ∷ []) m h

value_there : (xs : List Mention) (n : Mention) → IsValue n → Contains (with_value xs n) n
value_there xs (mention.Reads levels number) v = contains_last xs (mention.Reads levels number)
value_there xs (mention.Assigns levels number) v = contains_last xs (mention.Assigns levels number)
value_there xs (mention.Lends levels number) v = absurd v
value_there xs (mention.Calls c) v = contains_last xs (mention.Calls c)
value_there xs (mention.Passes c) v = contains_last xs (mention.Passes c)

-- ---- a text

values_have : (xs ms : List Mention) (m : Mention) → Contains (with_values xs ms) m → Contains xs m ⊎ (Contains ms m × IsValue m)
values_have xs [] m h = inl h
values_have xs (n ∷ ms) m h = elim (values_have (with_value xs n) ms m h) [
  | inl c ↦ elim (value_has xs n m c) [ inl o ↦ inl o | inr e ↦ inr (subst (Contains (n ∷ ms)) e.0 (contains_first n ms), e.1) ]
  | inr c ↦ inr (contains_later n m ms c.0, c.1)
]

values_keep : (xs ms : List Mention) (m : Mention) → Contains xs m → Contains (with_values xs ms) m
values_keep xs [] m h = h
values_keep xs (n ∷ ms) m h = values_keep (with_value xs n) ms m (value_keeps xs n m h)

values_all : (xs ms : List Mention) (m : Mention) → Contains ms m → IsValue m → Contains (with_values xs ms) m
values_all xs [] m h v = absurd (contains_none m h)
values_all xs (n ∷ ms) m h v = elim (contains_either n m ms h) [
  | inl e ↦ values_keep (with_value xs n) ms m (subst (Contains (with_value xs n)) e (value_there xs n (subst IsValue (sym e) v)))
  | inr k ↦ values_all (with_value xs n) ms m k v
]

pub in_values : (ms : List Mention) (m : Mention) → Contains (with_values [] ms) m → Contains ms m × IsValue m
in_values ms m h = elim (values_have [] ms m h) [ inl o ↦ absurd (contains_none m o) | inr k ↦ k ]

pub to_values : (ms : List Mention) (m : Mention) → Contains ms m → IsValue m → Contains (with_values [] ms) m
to_values ms m h v = values_all [] ms m h v

-- each text
pub values_at : (texts values : List (Vec Mention)) → AreValues texts values → (n : ℕ) → text_at values n ≡ with_values [] (text_at texts n)
values_at [] [] h n = refl
values_at [] (v ∷ vs) h n = absurd (cc)
values_at (t ∷ ts) [] h n = absurd (cc)
values_at (t ∷ ts) (v ∷ vs) h zero = head h
  where
    head : (v.items ∷ map (λ t. t.items) vs) ≡ (with_values [] t.items ∷ map (λ t. with_values [] t.items) ts) → v.items ≡ with_values [] t.items
    head e = cc
values_at (t ∷ ts) (v ∷ vs) h (suc n) = values_at ts vs (tail h) n
  where
    tail : (v.items ∷ map (λ t. t.items) vs) ≡ (with_values [] t.items ∷ map (λ t. with_values [] t.items) ts) →
        map (λ t. t.items) vs ≡ map (λ t. with_values [] t.items) ts
    tail e = cc
