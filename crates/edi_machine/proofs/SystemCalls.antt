-- The words of system calls, and how they end.
use Rattle.std.proofs.Common.{◌≡◌, ℕ, ◌+◌, ◌-◌, ◌<◌, ◌≤◌, ◌^◌, Bool, true, false, nat_le, if◌then◌else◌, List, [], ◌∷◌, ◌++◌, Option, Some, None, length, get_or, set, take, drop, refl, sym, ap}
use Rattle.std.proofs.Common.{subst, ◌∙◌, arith, length-drop, get_or-drop}
use Rattle.std.proofs.lemmas.Bool.{le-leb}
use Rattle.std.proofs.lemmas.List.{take_more, take_more_set}
use Rattle.edi_told.specs.Told.{WhereTold}
use Rattle.edi_told.proofs.Told.{WhereTold-map}
use Rattle.edi_calls.specs.declared.kinds.Cause.TheVariants as cause
use Rattle.edi_calls.specs.declared.ends.CallEnd.{CallEnd}
use Rattle.edi_calls.specs.declared.ends.CallEnd.TheVariants as call_end
use Rattle.edi_calls.specs.State.{State}
use Rattle.edi_calls.specs.Calls.{CallResult, answered, no_file, file_limit, argument_words, answer_words, call}
use Rattle.edi_calls.specs.declared.ends.Outside.{Outside}
use Rattle.edi_calls.specs.Ends.{IsUsed, MayEnd, Meets}
use Rattle.edi_store.specs.Memory.{words_at}
use Rattle.edi_store.specs.Copied.{IsMemory}
use Rattle.edi_target.specs.Effect.{Local, Effect, asks, bad, pop}
use Rattle.edi_target.specs.Mach.{answer_at}
use Rattle.edi_machine.specs.declared.ends.StepEnd.{StepEnd}
use Rattle.edi_machine.specs.declared.ends.StepEnd.TheVariants as end
use Rattle.edi_machine.specs.Steps.{HasAnswer, Takes, Tears, UsesFailed, answered_at}

-- one word more of those that are read from the memory
pub read_more : (memory words : List ℕ) (at i w : ℕ) → IsMemory memory → i < length words → at + i < 2 ^ 16 → w ≡ get_or memory (at + i) 0
    → take i words ≡ words_at memory at i → take (i + 1) (set words i w) ≡ words_at memory at (i + 1)
read_more memory words at i w is here within read so_far =
    take_more_set words i w here
    ∙ ap (λ (l : List ℕ). l ++ w ∷ []) so_far
    ∙ ap (λ x. words_at memory at i ++ x ∷ []) (read ∙ sym (get_or-drop at memory i 0))
    ∙ sym (take_more (drop at memory) i 0 (omega (arith, length-drop at memory, is.long)))

-- ---- how a call ended

met_ok : (r : CallResult) (answer : List ℕ) (s t : State) → Meets r call_end.Ok answer s t → r ≡ answered answer t
met_ok (answered words next) answer s t m = let a = m.0 in let b = m.1 in cc
met_ok no_file answer s t m = absurd m
met_ok file_limit answer s t m = absurd m

met_no_file : (r : CallResult) (answer : List ℕ) (s t : State) → Meets r call_end.NoFile answer s t → (r ≡ no_file) × (t ≡ s)
met_no_file (answered words next) answer s t m = absurd m
met_no_file no_file answer s t m = (refl, m)
met_no_file file_limit answer s t m = absurd m

met_limit : (r : CallResult) (answer : List ℕ) (s t : State) → Meets r call_end.FileLimit answer s t → (r ≡ file_limit) × (t ≡ s)
met_limit (answered words next) answer s t m = absurd m
met_limit no_file answer s t m = absurd m
met_limit file_limit answer s t m = (refl, m)

met_fault : (r : CallResult) (answer : List ℕ) (s t : State) → Meets r call_end.OutsideFault answer s t → Tears r s t
met_fault (answered words next) answer s t m = m
met_fault no_file answer s t m = absurd m
met_fault file_limit answer s t m = absurd m

-- ---- the arguments

pop_goes : (n : ℕ) (l : Local) (go : List ℕ → Local → Effect) → l.base + 5 + n ≤ l.top → pop n l go ≡ go (words_at l.memory (l.top - n) n)
    (record l { top = l.top - n })
pop_goes n l go room = rw (le-leb (l.base + 5 + n) l.top room) refl

answer_is : (address : Option ℕ) (answer : List ℕ) (l : Local) → answer_at address answer l ≡ record l { memory = answered_at address l.memory answer }
answer_is None answer l = refl
answer_is (Some address) answer l = refl

answer_length : (address : Option ℕ) (number word : ℕ) → HasAnswer address number → length (take (answer_words number) (word ∷ [])) ≡ answer_words number
answer_length None number word has = let e : answer_words number ≡ 0 = has in rw e refl
answer_length (Some address) number word has = let e : answer_words number ≡ 1 = has in rw e refl

-- the effect of a call whose arguments are so many words on top
abbrev asking : (count number : ℕ) → Option ℕ → (line next : ℕ) → Local → Effect
asking count number address line next l =
    pop count l (λ arguments m. asks number arguments address line (record m { pc = next }))

-- what has failed is an object that the call uses, if it is made
pub asking_used : (count number : ℕ) (address : Option ℕ) (line next : ℕ) (l : Local) (failed : Option Outside → Type 0) → IsUsed number failed
    → UsesFailed (asking count number address line next l) failed
asking_used count number address line next l failed used = by_room (nat_le (l.base + 5 + count) l.top)
  where
    by_room : (b : Bool) → UsesFailed (if b then asks number (words_at l.memory (l.top - count) count) address line (record l { top = l.top - count; pc = next })
        else bad) failed
    by_room true = used
    by_room false = tt

-- a call that was made with the arguments on top, and ended so
module _ (number line next : ℕ) (address : Option ℕ) (l before after : Local) (count word : ℕ) (arguments : List ℕ) (old new : Option State) where
  abbrev Made : CallEnd → Type 0
  Made e = WhereTold old new (λ s t. Meets (call number arguments s) e (take (answer_words number) (word ∷ [])) s t)

  abbrev May : CallEnd → Type 0
  May e = MayEnd number e (take (answer_words number) (word ∷ []))

  module _ (same : count ≡ argument_words number) (room : l.base + 5 + count ≤ l.top) (are : arguments ≡ words_at l.memory (l.top - count) count) where
    at_effect : (e : StepEnd) → Takes (asks number arguments address line (record l { top = l.top - count; pc = next })) e before after old new
        → Takes (asking (argument_words number) number address line next l) e before after old new
    at_effect e takes =
        subst (λ (n : ℕ). Takes (asking n number address line next l) e before after old new) same
        (subst (λ (x : Effect). Takes x e before after old new) (sym (pop_goes count l (λ ws m. asks number ws address line (record m { pc = next })) room))
        (subst (λ (ws : List ℕ). Takes (asks number ws address line (record l { top = l.top - count; pc = next })) e before after old new) are takes))

    pub asked : (e : CallEnd) → e ≡ call_end.Ok → Made e → May e → HasAnswer address number
        → after ≡ record l { memory = answered_at address l.memory (take (answer_words number) (word ∷ [])); top = l.top - count; pc = next }
        → Takes (asking (argument_words number) number address line next l) end.On before after old new
    asked e ended made may has is =
        at_effect end.On (
          take (answer_words number) (word ∷ []),
          answer_length address number word has,
          is ∙ sym (answer_is address _ _),
          WhereTold-map _ _ old new (λ s t m. met_ok _ _ s t m) (subst Made ended made),
          subst May ended may,
        )

    pub no_file_there : (e : CallEnd) → e ≡ call_end.NoFile → Made e → May e → after ≡ before
        → Takes (asking (argument_words number) number address line next l) (end.Fail cause.NoFile line) before after old new
    no_file_there e ended made may is =
        at_effect (end.Fail cause.NoFile line)
        (refl, is, WhereTold-map _ _ old new (λ s t m. met_no_file _ _ s t m) (subst Made ended made), subst May ended may)

    pub file_is_full : (e : CallEnd) → e ≡ call_end.FileLimit → Made e → May e → after ≡ before
        → Takes (asking (argument_words number) number address line next l) (end.Fail cause.FileLimit line) before after old new
    file_is_full e ended made may is =
        at_effect (end.Fail cause.FileLimit line)
        (refl, is, WhereTold-map _ _ old new (λ s t m. met_limit _ _ s t m) (subst Made ended made), subst May ended may)

    pub torn : (e : CallEnd) → e ≡ call_end.OutsideFault → Made e → after ≡ before → Takes (asking (argument_words number) number address line next l)
        end.Fault before after old new
    torn e ended made is =
        at_effect end.Fault (is, WhereTold-map _ _ old new (λ s t m. met_fault _ _ s t m) (subst Made ended made))
