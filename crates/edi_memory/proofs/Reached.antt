-- How a call reaches its result, once its title and its slot are known.
use Rattle.std.proofs.Common.{◌≡◌, ℕ, List, length, Option, Some, None, Ok, set, [], ◌∷◌, Bool, true, false, refl, sym, ap, arith, ◌∙◌, subst}
use mir.Val.{bool_byte}
use Rattle.std.specs.Prelude.{IfSome}
use Rattle.std.specs.Option.{option_map_or, option_to_list}
use Rattle.edi_calls.specs.State.{State, title_of}
use Rattle.edi_calls.specs.Calls.{CallResult, answered, no_file, file_limit, gives, word_of, room_for, stored, close_as, remove_as, remove}
use Rattle.edi_memory.specs.Memory.{Reaches}
use Rattle.edi_calls.specs.Ends.{Meets}
use Rattle.edi_calls.specs.declared.ends.CallEnd.TheVariants as end
use Rattle.edi_calls.proofs.Lasting.{Leaves}

module _ {V : Type 0} (items : V → List ℕ) where
  -- no slot for a file, and nothing happens
  pub unstored : (buffer : Option V) (title : List ℕ) (state : State) (size : ℕ) (index : Option ℕ)
      → IfSome buffer (λ bytes. size ≡ length (items bytes)) → index ≡ room_for state title size → index ≡ None
      → IfSome buffer (λ bytes. Reaches (close_as (items bytes) title state) (Ok (Some 0)) state state)
  unstored None title state size index counted room none = tt
  unstored (Some bytes) title state size index counted room none =
      let full : room_for state title (length (items bytes)) ≡ None = ap (room_for state title) (sym counted) ∙ sym room ∙ none in
      subst
      (λ p. Reaches (option_map_or (λ n. gives 1 (stored title (items bytes) n state)) p (gives 0 state)) (Ok (Some 0)) state state)
      (sym full) (refl, refl)

  -- the file is stored in the slot that there is for it
  pub stored_so : (buffer : Option V) (title : List ℕ) (state after : State) (size : ℕ) (index : Option ℕ) (n : ℕ)
      → IfSome buffer (λ bytes. size ≡ length (items bytes)) → index ≡ room_for state title size → index ≡ Some n
      → IfSome buffer (λ bytes. after ≡ stored title (items bytes) n state)
      → IfSome buffer (λ bytes. Reaches (close_as (items bytes) title state) (Ok (Some 1)) state after)
  stored_so None title state after size index n counted room some is = tt
  stored_so (Some bytes) title state after size index n counted room some is =
      let there : room_for state title (length (items bytes)) ≡ Some n = ap (room_for state title) (sym counted) ∙ sym room ∙ some in
      subst
      (λ p. Reaches (option_map_or (λ n. gives 1 (stored title (items bytes) n state)) p (gives 0 state)) (Ok (Some 1)) state after)
      (sym there) (refl, is)

-- the words spell a title, and its file is removed or not
pub removed : (words title : List ℕ) (state after : State) (word : ℕ) → title_of words ≡ Some title
    → Reaches (remove_as title state) (Ok (Some word)) state after → Reaches (remove words state) (Ok (Some word)) state after
removed words title state after word named reached =
    subst (λ o. Reaches (option_map_or (λ t. remove_as t state) o (gives 0 state)) (Ok (Some word)) state after)
    (sym named) reached

-- a truth value as a word
pub byte_word : (b : Bool) → bool_byte b ≡ word_of b
byte_word true = refl
byte_word false = refl

-- the one answer word is written over the one that was there
pub set_one : (answer : List ℕ) (word : ℕ) → length answer ≡ 1 → set answer 0 word ≡ word ∷ []
set_one [] word h = absurd (omega arith)
set_one (x ∷ []) word h = refl
set_one (x ∷ y ∷ rest) word h = absurd (omega arith)

-- a call that is answered has as many answer words as it has
pub reached_count : (result : CallResult) (count : ℕ) (word : Option ℕ) (before after : State) → Leaves count before result
    → Reaches result (Ok word) before after → length (option_to_list word) ≡ count
reached_count (answered words next) count word before after lasts reached = ap length reached.0 ∙ lasts.counted
reached_count no_file count word before after lasts reached = absurd reached
reached_count file_limit count word before after lasts reached = absurd reached

pub reached_meets : (result : CallResult) (word : Option ℕ) (answer : List ℕ) (before after : State)
    → answer ≡ option_to_list word → Reaches result (Ok word) before after → Meets result end.Ok answer before after
reached_meets (answered words next) word answer before after same reached = (same ∙ reached.0, reached.1)
reached_meets no_file word answer before after same reached = absurd reached
reached_meets file_limit word answer before after same reached = absurd reached
