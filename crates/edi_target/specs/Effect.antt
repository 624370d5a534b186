-- Definition. What one instruction does to the activity that executes it. The bounds of the frame and of the memory are tested
-- first, then what makes the program fail; a turn that is due is taken by the layer above.
use Rattle.std.specs.Prelude.{ℕ, ◌+◌, ◌-◌, ◌^◌, Bool, true, false, ◌&&◌, not, nat_eq, nat_lt, nat_le, if◌then◌else◌, List, ◌∷◌, ◌++◌, length, replicate}
use Rattle.std.specs.Prelude.{Option, Some, None}
use Rattle.edi_calls.specs.declared.kinds.Cause.{Cause}
use Rattle.edi_calls.specs.declared.kinds.Cause.TheVariants as cause
use Rattle.edi_target.specs.Op as op
use Rattle.edi_target.specs.Op.{Instruction, Branch, high_word, low_word}
use Rattle.edi_store.specs.Memory.{words_at, written}
use Rattle.edi_target.specs.Memory.{word}

-- an activity with the memory: its frame is the words from base to end, of which those below top are in use; its
-- segment is the words from first to last; held counts its critical phase and its function calls
pub record Local : Type 0 where
  pub memory : List ℕ
  pub base : ℕ
  pub end : ℕ
  pub top : ℕ
  pub pc : ℕ
  pub first : ℕ
  pub last : ℕ
  pub held : ℕ

-- why a turn is due
pub data Turn : Type 0 where
  -- a procedure was entered, or left
  entering : Turn
  leaving : Turn
  -- the end of a loop's body
  looping : Turn
  -- an arrival at a `when`
  arriving : Turn
  -- an attempt of which no condition was true; the test says whether it marks its process
  again : Bool → Turn
  -- a `cobegin`
  forking : List Branch → Turn
  -- the end of a branch, and of the program
  exiting : Turn
  finishing : Turn

pub data Effect : Type 0 where
  -- it goes on
  goes : Local → Effect
  -- it goes on behind a critical phase
  released : Local → Effect
  -- a system call: its number, the words of its arguments, the address for its answer where it has one, and its line
  asks : (number : ℕ) → (arguments : List ℕ) → Option ℕ → (line : ℕ) → Local → Effect
  -- it was executed, and a turn is due
  due : Turn → Local → Effect
  -- the program fails at this line; `halt` counts as a failure here
  fails : Cause → (line : ℕ) → Effect
  -- the instruction is refused
  bad : Effect

-- ---- the frame

-- a push of these words, Bad where the frame has no room
abbrev pub push : List ℕ → Local → (Local → Effect) → Effect
push words l go =
    if nat_le (l.top + length words) l.end
    then go (record l { memory = written l.memory l.top words; top = l.top + length words })
    else bad

-- a pop of n words, Bad where the frame has fewer above its first five
abbrev pub pop : ℕ → Local → (List ℕ → Local → Effect) → Effect
pop n l go =
    if nat_le (l.base + 5 + n) l.top
    then go (words_at l.memory (l.top - n) n) (record l { top = l.top - n })
    else bad

-- a pop of one word
abbrev pub pop_word : Local → (ℕ → Local → Effect) → Effect
pop_word l go =
    if nat_le (l.base + 6) l.top
    then go (word l.memory (l.top - 1)) (record l { top = l.top - 1 })
    else bad

-- a look at the top word
abbrev pub look : Local → (ℕ → Effect) → Effect
look l go = if nat_le (l.base + 6) l.top then go (word l.memory (l.top - 1)) else bad

-- Bad where these n words are not in the memory
abbrev pub within : (address n : ℕ) → Effect → Effect
within address n effect = if nat_le (address + n) (2 ^ 16) then effect else bad

-- a test that the instruction has to meet
abbrev pub needs : Bool → Effect → Effect
needs test effect = if test then effect else bad

-- on to the instruction at this address
abbrev pub to : ℕ → Local → Effect
to a l = goes (record l { pc = a })

-- the value, or the failure `range`
abbrev pub in_range : (line : ℕ) → Option ℕ → (ℕ → Effect) → Effect
in_range line None go = fails cause.Range line
in_range line (Some x) go = go x

-- 1 for true and 0 for false
abbrev pub truth : Bool → ℕ
truth true = 1
truth false = 0

-- ---- procedures

-- the words of a new frame but for the zeros of its variables: static link, old base, return address, old top, the
-- zeros of the result, and the arguments
abbrev pub frame_words : (link base back top result : ℕ) → List ℕ → List ℕ
frame_words link base back top result arguments =
    link ∷ base ∷ high_word back ∷ low_word back ∷ top ∷ (replicate result 0 ++ arguments)

-- the ENTRY that an address leads to is entered, with this static link, from an instruction before the address `back`
abbrev pub enter : Option (Instruction × ℕ) → (link back line : ℕ) → Local → Effect
enter (Some (op.entry need r p v f, body)) link back line l =
    needs (not (nat_eq f 1 && nat_eq l.held 65535))
    (pop p l (λ arguments l.
    if nat_lt (l.last - l.end) need
    then fails cause.VariableLimit line
    else due entering (record l {
      memory = written l.memory l.end (frame_words link l.base back l.top r arguments ++ replicate (need - (5 + r + p)) 0);
      base = l.end;
      end = l.end + need;
      top = l.end + (5 + r + p + v);
      pc = body;
      held = l.held + f;
    })))
enter _ link back line l = bad
