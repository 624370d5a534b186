-- Definition. The instructions, one clause each. Every clause says what the instruction does; where its frame, its operands or the
-- memory do not allow that, it is refused.
use Rattle.std.specs.Prelude.{ℕ, zero, suc, ◌+◌, ◌-◌, ◌*◌, ◌^◌, Bool, true, false, ◌&&◌, not, nat_eq, nat_lt, nat_le, if◌then◌else◌, List, [], ◌∷◌}
use Rattle.std.specs.Prelude.{length, replicate, Option, Some, None, ℤ, ◌-ℤ◌, int_lt, int_le, nat_abs}
use Rattle.std.specs.List.{list_any}
use Rattle.std.specs.Str.{bytes_eq}
use Rattle.edi_calls.specs.Forks.{most_processes, equal_share}
use Rattle.edi_calls.specs.declared.kinds.Cause.TheVariants as cause
use Rattle.edi_calls.specs.Calls.{argument_words, answer_words}
use Rattle.edi_word.specs.Words.{signed, word_add, word_sub, word_mul, word_div, word_modulo}
use Rattle.edi_word.specs.Sets.{word_has, words_with, words_union, words_minus, words_meet}
use Rattle.edi_target.specs.Op as op
use Rattle.edi_target.specs.Op.{Instruction, Branch, high_word, low_word, address_of_words}
use Rattle.edi_store.specs.Memory.{words_at, written}
use Rattle.edi_target.specs.Memory.{word, level}
use Rattle.edi_target.specs.Effect.{Local, leaving, looping, arriving, again, forking, exiting, finishing, Effect, goes, released, asks, due, fails, bad}
use Rattle.edi_target.specs.Effect.{push, pop, pop_word, look, within, needs, to, in_range, truth, enter}

-- ---- groups of instructions

-- two words are popped, and the word that they give is pushed, or the program fails
abbrev pub arithmetic : (ℕ → ℕ → Option ℕ) → (line next : ℕ) → Local → Effect
arithmetic f line next l = pop_word l (λ y l. pop_word l (λ x l. in_range line (f x y) (λ z. push (z ∷ []) l (to next))))

-- two words are popped, and the truth of their comparison as integers is pushed
abbrev pub comparison : (ℤ → ℤ → Bool) → (next : ℕ) → Local → Effect
comparison f next l = pop_word l (λ y l. pop_word l (λ x l. push (truth (f (signed x) (signed y)) ∷ []) l (to next)))

-- twice n words are popped, and a truth value about them is pushed
abbrev pub equality : (List ℕ → List ℕ → Bool) → (n next : ℕ) → Local → Effect
equality f n next l = pop n l (λ ys l. pop n l (λ xs l. push (truth (f xs ys) ∷ []) l (to next)))

-- two sets are popped, and a set is pushed
abbrev pub on_sets : (List ℕ → List ℕ → List ℕ) → (next : ℕ) → Local → Effect
on_sets f next l = pop 8 l (λ ys l. pop 8 l (λ xs l. push (f xs ys) l (to next)))

-- an address is pushed, which has to be one of the memory
abbrev pub push_address : ℕ → (next : ℕ) → Local → Effect
push_address a next l = needs (nat_lt a (2 ^ 16)) (push (a ∷ []) l (to next))

-- the address of the element with this index; the index has to be within the bounds
abbrev pub element : (low high : ℤ) → (size line next : ℕ) → (address : ℕ) → (index : ℤ) → Local → Effect
element low high size line next address index l =
    if int_le low index && int_le index high
    then push_address (address + nat_abs (index -ℤ low) * size) next l
    else fails cause.Range line

-- the top word is to be an ordinal from low to high
abbrev pub checked : (low high : ℤ) → (line next : ℕ) → (index : ℤ) → Local → Effect
checked low high line next index l =
    if int_le low index && int_le index high then to next l else fails cause.Range line

-- the set with this member, which has to be 0 to 127
abbrev pub joined : (line next : ℕ) → (member : ℕ) → List ℕ → Local → Effect
joined line next member set l =
    if nat_lt member 128 then push (words_with set member) l (to next) else fails cause.Range line

-- ---- jumps

-- a jump leads forward, whether or not it is taken
abbrev pub forward : (target : ℕ) → Local → Effect → Effect
forward target l effect = needs (nat_lt l.pc target) effect

-- on at the target where the top word, which then stays, is 0 or is not; else the top word goes
abbrev pub short_cut : Bool → (target next : ℕ) → Local → Effect
short_cut true target next l = to target l
short_cut false target next l = goes (record l { top = l.top - 1; pc = next })

-- ---- calls

-- where a call has answer words, the address for them is popped
abbrev pub with_answer_address : (answers : ℕ) → Local → (Option ℕ → Local → Effect) → Effect
with_answer_address zero l go = go None l
with_answer_address (suc n) l go = pop_word l (λ address l. go (Some address) l)

-- a system call: the address for its answer is popped first, then the words of its arguments
abbrev pub system_call : (number line next : ℕ) → Local → Effect
system_call number line next l =
    needs (nat_le 1 number && nat_le number 10)
    (with_answer_address (answer_words number) l (λ address l.
    pop (argument_words number) l (λ arguments l.
    asks number arguments address line (record l { pc = next }))))

-- the process leaves its frame: the result's words take the place of the arguments'
abbrev pub leave : (results function : ℕ) → (base top : ℕ) → Local → Effect
leave results function base top l =
    needs (nat_le l.first base && nat_le (base + 5) top && nat_le (top + results) l.base && nat_le function l.held)
    (within (l.base + 5) results
    (due leaving (record l {
      memory = written l.memory top (words_at l.memory (l.base + 5) results);
      base = base;
      end = l.base;
      top = top + results;
      pc = address_of_words (word l.memory (l.base + 2)) (word l.memory (l.base + 3));
      held = l.held - function;
    })))

-- ---- processes

-- outside every critical phase and function call
abbrev pub unheld : (line : ℕ) → Local → Effect → Effect
unheld line l effect = if nat_lt 0 l.held then fails cause.Held line else effect

-- in a critical phase, and in no function call inside it
abbrev pub in_phase : Local → Effect → Effect
in_phase l effect = needs (nat_eq l.held 1) effect

-- the share of each of n branches in what is left of the segment behind the frame
abbrev pub share_of : Local → ℕ → ℕ
share_of l n = equal_share (l.last - l.end) n

abbrev pub exceeds : ℕ → Branch → Bool
exceeds share branch = nat_lt share branch.need

-- the limits of a fork: on processes, and then on the memory of each branch
abbrev pub fork : (live line next : ℕ) → List Branch → Local → Effect
fork live line next branches l =
    if nat_lt most_processes (live + length branches) then fails cause.ProcessLimit line
    else if list_any (exceeds (share_of l (length branches))) branches then fails cause.VariableLimit line
    else due (forking branches) (record l { pc = next })

-- ---- the instructions

module _ (fetch : ℕ → Option (Instruction × ℕ)) (live : ℕ) (is_first : Bool) where
  -- by the descriptor of a procedure parameter: a call of the system, or the entry of a procedure with its static link
  abbrev pub call_described : (first second third : ℕ) → (line next : ℕ) → Local → Effect
  call_described first second third line next l =
      if nat_eq first 65535
      then system_call second line next l
      else enter (fetch (address_of_words first second)) third next line l

  -- the instruction, with the address behind it
  abbrev pub perform : Instruction → ℕ → Local → Effect
  perform (op.const value) next l = push (value ∷ []) l (to next)
  perform (op.text words) next l = push words l (to next)
  perform (op.zeros count) next l = push (replicate count 0) l (to next)
  perform (op.address k offset) next l = push_address (level l.memory k l.base + offset) next l
  perform (op.field offset) next l = pop_word l (λ x l. push_address (x + offset) next l)
  perform (op.index low high size line) next l =
      pop_word l (λ i l. pop_word l (λ x l. element low high size line next x (signed i) l))
  perform (op.load count) next l =
      pop_word l (λ x l. within x count (push (words_at l.memory x count) l (to next)))
  perform (op.store count) next l =
      pop count l (λ words l. pop_word l (λ x l.
      within x count (goes (record l { memory = written l.memory x words; pc = next }))))
  perform (op.add line) next l = arithmetic word_add line next l
  perform (op.sub line) next l = arithmetic word_sub line next l
  perform (op.mul line) next l = arithmetic word_mul line next l
  perform (op.div line) next l = arithmetic word_div line next l
  perform (op.mod_ line) next l = arithmetic word_modulo line next l
  perform (op.neg line) next l = pop_word l (λ x l. in_range line (word_sub 0 x) (λ z. push (z ∷ []) l (to next)))
  perform op.not_ next l = pop_word l (λ x l. push (truth (nat_eq x 0) ∷ []) l (to next))
  perform (op.eq count) next l = equality bytes_eq count next l
  perform (op.ne count) next l = equality (λ xs ys. not (bytes_eq xs ys)) count next l
  perform op.lt next l = comparison int_lt next l
  perform op.le next l = comparison int_le next l
  perform op.gt next l = comparison (λ x y. int_lt y x) next l
  perform op.ge next l = comparison (λ x y. int_le y x) next l
  perform op.union next l = on_sets words_union next l
  perform op.minus next l = on_sets words_minus next l
  perform op.meet next l = on_sets words_meet next l
  perform op.in_ next l =
      pop 8 l (λ set l. pop_word l (λ x l. push (truth (nat_lt x 128 && word_has set x) ∷ []) l (to next)))
  perform (op.member line) next l = pop_word l (λ x l. pop 8 l (λ set l. joined line next x set l))
  perform (op.check low high line) next l = look l (λ x. checked low high line next (signed x) l)
  perform (op.jump target) next l = forward target l (to target l)
  perform (op.false_ target) next l =
      forward target l (pop_word l (λ x l. to (if nat_eq x 0 then target else next) l))
  perform (op.and target) next l = forward target l (look l (λ x. short_cut (nat_eq x 0) target next l))
  perform (op.or target) next l = forward target l (look l (λ x. short_cut (not (nat_eq x 0)) target next l))
  perform (op.loop target) next l = due looping (record l { pc = target })
  perform (op.entry need results parameters variables function) next l = bad
  perform (op.call k target line) next l = enter (fetch target) (level l.memory k l.base) next line l
  perform (op.call_p k offset line) next l =
      let at = level l.memory k l.base + offset in
      within at 3 (call_described (word l.memory at) (word l.memory (at + 1)) (word l.memory (at + 2)) line next l)
  perform (op.proc k target) next l =
      push (high_word target ∷ low_word target ∷ level l.memory k l.base ∷ []) l (to next)
  perform (op.return results function) next l =
      if nat_eq l.base l.first
      then needs is_first (due finishing l)
      else leave results function (word l.memory (l.base + 1)) (word l.memory (l.base + 4)) l
  perform (op.halt line) next l = fails cause.Halt line
  perform (op.when line) next l = unheld line l (due arriving (record l { pc = next }))
  perform (op.retry target) next l = in_phase l (due (again false) (record l { pc = target; held = 0 }))
  perform op.done next l = in_phase l (released (record l { pc = next; held = 0 }))
  perform (op.cobegin line branches) next l = unheld line l (fork live line next branches l)
  perform op.exit next l =
      needs (not is_first && nat_eq l.base l.first && nat_eq l.held 0) (due exiting l)
  perform (op.quiet target) next l = in_phase l (due (again true) (record l { pc = target; held = 0 }))
