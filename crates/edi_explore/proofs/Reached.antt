-- How a call that is answered has its answer.
use Rattle.std.proofs.Common.{◌≡◌, ℕ, List, length, Option, Ok, set, [], ◌∷◌, refl, ap, arith, ◌∙◌}
use Rattle.std.specs.Option.{option_to_list}
use Rattle.edi_calls.specs.State.{State}
use Rattle.edi_calls.specs.Calls.{CallResult, answered, no_file, file_limit}
use Rattle.edi_calls.specs.Ends.{Meets}
use Rattle.edi_calls.specs.declared.ends.CallEnd.TheVariants as end
use Rattle.edi_calls.proofs.Lasting.{Leaves}
use Rattle.edi_explore.specs.Systems.{Reaches}

-- the one answer word is written over the one that was there
pub set_one : (answer : List ℕ) (word : ℕ) → length answer ≡ 1 → set answer 0 word ≡ word ∷ []
set_one [] word h = absurd (omega arith)
set_one (x ∷ []) word h = refl
set_one (x ∷ y ∷ rest) word h = absurd (omega arith)

-- a call that is answered has as many answer words as it has
pub reached_count : (result : CallResult) (count : ℕ) (word : Option ℕ) (before after : State) → Leaves count before result
    → Reaches result (Ok word) before after → length (option_to_list word) ≡ count
reached_count (answered words next) count word before after lasts reached = ap length reached.0 ∙ lasts.counted
reached_count no_file count word before after lasts reached = absurd reached
reached_count file_limit count word before after lasts reached = absurd reached

pub reached_meets : (result : CallResult) (word : Option ℕ) (answer : List ℕ) (before after : State)
    → answer ≡ option_to_list word → Reaches result (Ok word) before after → Meets result end.Ok answer before after
reached_meets (answered words next) word answer before after same reached = (same ∙ reached.0, reached.1)
reached_meets no_file word answer before after same reached = absurd reached
reached_meets file_limit word answer before after same reached = absurd reached
