-- How a call may end on an object that tells its state: what the definition of the calls lets it end in.
use Rattle.std.proofs.Common.{◌≡◌, ℕ, zero, suc, ◌<◌, ◌≤◌, Bool, true, false, List, [], ◌∷◌, length, Option, Some, None, refl, sym, subst, arith}
use Rattle.std.specs.Prelude.{if◌then◌else◌, slice_index, slice_get, nat_lt}
use Rattle.std.specs.List.{All}
use Rattle.std.specs.Option.{is_some, option_and_then, option_map_or}
use Rattle.std.proofs.lemmas.List.Elements.{All-cons, All-nil}
use Rattle.edi_calls.specs.declared.ends.CallEnd.{CallEnd}
use Rattle.edi_calls.specs.declared.ends.CallEnd.TheVariants as end
use Rattle.edi_calls.specs.State.{Found, State, character, title_of, most_bytes}
use Rattle.edi_calls.specs.Calls as calls
use Rattle.edi_calls.specs.Calls.{CallResult, answered, no_file, file_limit, call, word_of}
use Rattle.edi_calls.specs.Ends.{MayEnd, Meets, answer_values, uses_file}

-- one answer word, and none
none_below : (limit : ℕ) → All (λ w. w < limit) []
none_below limit = All-nil (λ w. w < limit)

one_below : (limit word : ℕ) → word < limit → All (λ w. w < limit) (word ∷ [])
one_below limit word below = All-cons (λ w. w < limit) word [] below (none_below limit)

-- an answer word of each kind
pub truth_below : (b : Bool) → word_of b < 2
truth_below true = omega arith
truth_below false = omega arith

pub character_below : (word : ℕ) → character word < 128
character_below word = omega arith

-- ---- what the definition lets each call end in

abbrev May : (number : ℕ) → CallResult → Type 0
May number (answered words next) = All (λ w. w < answer_values number) words
May number no_file = uses_file number ≡ true
May number file_limit = number ≡ 8

by_test : (P : CallResult → Type 0) (b : Bool) (x y : CallResult) → P x → P y → P (if b then x else y)
by_test P true x y p q = p
by_test P false x y p q = q

by_option : {A : Type 0} (P : CallResult → Type 0) (f : A → CallResult) (o : Option A) (x : CallResult) → ((a : A) → P (f a)) → P x
    → P (option_map_or f o x)
by_option P f None x p q = q
by_option P f (Some a) x p q = p a

accepts : (input : List ℕ) (s : State) → May 1 (calls.accept_from input s)
accepts [] s = one_below 128 25 (omega arith)
accepts (byte ∷ input) s = one_below 128 (character byte) (character_below byte)

mores : (found : Option Found) (s : State) → May 5 (calls.more_of found s)
mores None s = refl
mores (Some found) s = one_below 2 _ (truth_below (nat_lt found.position (length (calls.found_bytes s found))))

nexts : (byte : Option ℕ) (found : Found) (s : State) → May 6 (calls.read_next byte found s)
nexts None found s = one_below 128 25 (omega arith)
nexts (Some byte) found s = one_below 128 (character byte) (character_below byte)

reads : (found : Option Found) (s : State) → May 6 (calls.read_of found s)
reads None s = refl
reads (Some found) s = nexts (slice_get (calls.found_bytes s found) found.position) found s

writes : (buffer : Option (List ℕ)) (word : ℕ) (s : State) → May 8 (calls.write_to buffer word s)
writes None word s = refl
writes (Some bytes) word s = by_test (May 8) (nat_lt (length bytes) most_bytes) _ _ (none_below 2) refl

closes : (buffer : Option (List ℕ)) (words : List ℕ) (s : State) → May 9 (calls.close_of buffer words s)
closes None words s = refl
closes (Some bytes) words s =
    by_option (May 9) _ (title_of words) _
    (λ title. by_option (May 9) _ (calls.room_for s title (length bytes)) _ (λ index. one_below 2 1 (omega arith)) (one_below 2 0 (omega arith)))
    (one_below 2 0 (omega arith))

removes : (words : List ℕ) (s : State) → May 10 (calls.remove words s)
removes words s =
    by_option (May 10) _ (title_of words) _
    (λ title. by_option (May 10) _ (calls.open_slot s.slots title) _ (λ index. one_below 2 1 (omega arith)) (one_below 2 0 (omega arith)))
    (one_below 2 0 (omega arith))

-- each of the ten calls
each_may : (number : ℕ) (words : List ℕ) (s : State) → 1 ≤ number → number ≤ 10 → May number (call number words s)
each_may zero words s from to = absurd (omega arith)
each_may (suc zero) words s from to = accepts s.input s
each_may (suc (suc zero)) words s from to = none_below 2
each_may (suc (suc (suc zero))) words s from to = none_below 2
each_may (suc (suc (suc (suc zero)))) words s from to =
    one_below 2 _ (truth_below (is_some (option_and_then (calls.found_in s) (title_of words))))
each_may (suc (suc (suc (suc (suc zero))))) words s from to = mores s.found s
each_may (suc (suc (suc (suc (suc (suc zero)))))) words s from to = reads s.found s
each_may (suc (suc (suc (suc (suc (suc (suc zero))))))) words s from to = none_below 2
each_may (suc (suc (suc (suc (suc (suc (suc (suc zero)))))))) words s from to = writes s.buffer (slice_index words 0) s
each_may (suc (suc (suc (suc (suc (suc (suc (suc (suc zero))))))))) words s from to = closes s.buffer words s
each_may (suc (suc (suc (suc (suc (suc (suc (suc (suc (suc zero)))))))))) words s from to = removes words s
each_may (suc (suc (suc (suc (suc (suc (suc (suc (suc (suc (suc n))))))))))) words s from to = absurd (omega arith)

-- ---- on an object that tells its state

met : (number : ℕ) (result : CallResult) (e : CallEnd) (answer : List ℕ) (before after : State) → May number result → Meets result e answer before after
    → MayEnd number e answer
met number (answered words next) end.Ok answer before after may meets = subst (λ ws. All (λ w. w < answer_values number) ws) (sym meets.0) may
met number (answered words next) end.OutsideFault answer before after may meets = tt
met number (answered words next) end.NoFile answer before after may meets = absurd meets
met number (answered words next) end.FileLimit answer before after may meets = absurd meets
met number no_file end.NoFile answer before after may meets = may
met number no_file e answer before after may meets = absurd meets
met number file_limit end.FileLimit answer before after may meets = may
met number file_limit e answer before after may meets = absurd meets

pub meets_may : (number : ℕ) (words : List ℕ) (e : CallEnd) (answer : List ℕ) (before after : State) → 1 ≤ number → number ≤ 10
    → Meets (call number words before) e answer before after → MayEnd number e answer
meets_may number words e answer before after from to meets =
    met number (call number words before) e answer before after (each_may number words before from to) meets
