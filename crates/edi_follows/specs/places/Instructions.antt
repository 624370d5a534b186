-- Helper. What single instructions do, as the constructs cite it (proved in edi_follows/places): equations of effects, by what stands among
-- the operands; what the machine does by an instruction with such an effect; addresses, variables, stores and calls.
use Rattle.std.specs.Prelude.{◌≡◌, ℕ, suc, ◌+◌, ◌<◌, ◌≤◌, ◌^◌, Bool, true, false, ◌&&◌, not, nat_eq, nat_lt, if◌then◌else◌, List, [], ◌∷◌, ◌++◌, length}
use Rattle.std.specs.Prelude.{Option, Some, ℤ}
use Rattle.edi_calls.specs.declared.kinds.Cause.{Cause}
use Rattle.edi_calls.specs.declared.kinds.Cause.TheVariants as cause
use Rattle.edi_calls.specs.Outcome as outcome
use Rattle.edi_calls.specs.State.{Traced}
use Rattle.edi_store.specs.Memory.{words_at, written}
use Rattle.edi_word.specs.Words.{signed}
use Rattle.edi_word.specs.Sets.{word_has}
use Rattle.edi_unit.specs.declared.units.Parameter.TheVariants as slot
use Rattle.edi_unit.specs.Types.{size}
use Rattle.edi_unit.specs.Values.{Value, IsOf}
use Rattle.edi_unit.specs.Need.{outer}
use Rattle.edi_meaning.specs.Store.{Spot, Location, Closure, system_procedure, block_procedure, procedure, Shape, reached, now, cell, IsLive, Older, get, put}
use Rattle.edi_meaning.specs.Evaluation.{World, Evaluation, gives, ends, turn}
use Rattle.edi_target.specs.Op as op
use Rattle.edi_target.specs.Op.{Instruction, Branch}
use Rattle.edi_target.specs.Memory.{word}
use Rattle.edi_target.specs.Effect.{Local, Turn, entering, leaving, looping, Effect, goes, due, fails, push, pop, pop_word, look, to, in_range, truth, enter}
use Rattle.edi_target.specs.Perform.{perform, arithmetic, comparison, equality, on_sets, push_address, element, joined, system_call}
use Rattle.edi_target.specs.Mach.{ending_of, is_first}
use Rattle.edi_follows.specs.places.Coded.{Coded, entry, slot_in, slots_of, words_in, offset}
use Rattle.edi_follows.specs.values.Words.{value_words}
use Rattle.edi_follows.specs.places.Spots.{address, frames_end, block_at, slot_address, location_address, cell_words, closure_words, Leads}
use Rattle.edi_follows.specs.places.Walks.{Moves}
use Rattle.edi_follows.specs.places.Scene.{Scene, Outer, alone, local_at, here, base_of, Stands, Able, After, Does, stops}
use Rattle.edi_follows.specs.places.Claims.{Pushed, Ran}

-- ---- words in a row

-- the first of them
abbrev pub WordIs : Type 0
WordIs = (m xs : List ℕ) (x t n : ℕ) → words_at m t n ≡ x ∷ xs → word m t ≡ x

abbrev pub OneWord : Type 0
OneWord = (m : List ℕ) (x t : ℕ) → t < length m → word m t ≡ x → words_at m t 1 ≡ x ∷ []

-- two rows, one behind the other
abbrev pub RowSplits : Type 0
RowSplits = (m : List ℕ) (t n k : ℕ) → words_at m t (n + k) ≡ words_at m t n ++ words_at m (t + n) k

-- ---- instructions of one process

module _ (g : Coded) (s : Scene) where
  -- what an instruction does, with the address behind it
  abbrev pub effect : Instruction → ℕ → Local → Effect
  effect i next l = perform g.fetched s.count (is_first s.name) i next l

  -- ---- effects, by the operands: the words from t on are the last ones

  -- n words are popped
  abbrev pub Pops : Type 0
  Pops =
      (F : Shape) (m ws : List ℕ) (pc t n top held : ℕ) (go : List ℕ → Local → Effect) → base_of g s F ≤ t → top ≡ t + n → words_at m t n ≡ ws →
      pop n (local_at s F m pc top held) go ≡ go ws (local_at s F m pc t held)

  -- one word is popped
  abbrev pub PopsWord : Type 0
  PopsWord =
      (F : Shape) (m : List ℕ) (x pc t top held : ℕ) (go : ℕ → Local → Effect) → base_of g s F ≤ t → top ≡ t + 1 → word m t ≡ x →
      pop_word (local_at s F m pc top held) go ≡ go x (local_at s F m pc t held)

  -- a look at one word
  abbrev pub Looks : Type 0
  Looks =
      (F : Shape) (m : List ℕ) (x pc t top held : ℕ) (go : ℕ → Effect) → base_of g s F ≤ t → top ≡ t + 1 → word m t ≡ x →
      look (local_at s F m pc top held) go ≡ go x

  -- two words give a word, or the program fails
  abbrev pub DoesArithmetic : Type 0
  DoesArithmetic =
      (F : Shape) (m : List ℕ) (f : ℕ → ℕ → Option ℕ) (line next x y pc t top held : ℕ) → base_of g s F ≤ t → top ≡ t + 2 → word m t ≡ x → word m (t + 1) ≡ y →
      arithmetic f line next (local_at s F m pc top held) ≡ in_range line (f x y) (λ z. push (z ∷ []) (local_at s F m pc t held) (to next))

  -- two integers are compared
  abbrev pub DoesComparison : Type 0
  DoesComparison =
      (F : Shape) (m : List ℕ) (f : ℤ → ℤ → Bool) (next x y pc t top held : ℕ) → base_of g s F ≤ t → top ≡ t + 2 → word m t ≡ x → word m (t + 1) ≡ y →
      comparison f next (local_at s F m pc top held) ≡ push (truth (f (signed x) (signed y)) ∷ []) (local_at s F m pc t held) (to next)

  -- twice n words are compared
  abbrev pub DoesEquality : Type 0
  DoesEquality =
      (F : Shape) (m xs ys : List ℕ) (f : List ℕ → List ℕ → Bool) (n next pc t top held : ℕ) → base_of g s F ≤ t → top ≡ t + n + n → words_at m t n ≡ xs →
      words_at m (t + n) n ≡ ys →
      equality f n next (local_at s F m pc top held) ≡ push (truth (f xs ys) ∷ []) (local_at s F m pc t held) (to next)

  -- two sets give a set
  abbrev pub DoesOnSets : Type 0
  DoesOnSets =
      (F : Shape) (m xs ys : List ℕ) (f : List ℕ → List ℕ → List ℕ) (next pc t top held : ℕ) → base_of g s F ≤ t → top ≡ t + 16 → words_at m t 8 ≡ xs →
      words_at m (t + 8) 8 ≡ ys →
      on_sets f next (local_at s F m pc top held) ≡ push (f xs ys) (local_at s F m pc t held) (to next)

  -- whether an ordinal is a member of the set behind it
  abbrev pub DoesIn : Type 0
  DoesIn =
      (F : Shape) (m set : List ℕ) (next x pc t top held : ℕ) → base_of g s F ≤ t → top ≡ t + 9 → word m t ≡ x → words_at m (t + 1) 8 ≡ set →
      effect op.in_ next (local_at s F m pc top held) ≡ push (truth (nat_lt x 128 && word_has set x) ∷ []) (local_at s F m pc t held) (to next)

  -- the ordinal behind a set joins it
  abbrev pub DoesMember : Type 0
  DoesMember =
      (F : Shape) (m set : List ℕ) (line next x pc t top held : ℕ) → base_of g s F ≤ t → top ≡ t + 9 → words_at m t 8 ≡ set → word m (t + 8) ≡ x →
      effect (op.member line) next (local_at s F m pc top held) ≡ joined line next x set (local_at s F m pc t held)

  -- an address and an index behind it give the address of the element
  abbrev pub DoesIndex : Type 0
  DoesIndex =
      (F : Shape) (m : List ℕ) (low high : ℤ) (size line next x i pc t top held : ℕ) → base_of g s F ≤ t → top ≡ t + 2 → word m t ≡ x → word m (t + 1) ≡ i →
      effect (op.index low high size line) next (local_at s F m pc top held) ≡ element low high size line next x (signed i) (local_at s F m pc t held)

  -- an address of the memory is pushed
  abbrev pub PushesAddress : Type 0
  PushesAddress = (a next : ℕ) (l : Local) → a < 2 ^ 16 → push_address a next l ≡ push (a ∷ []) l (to next)

  -- FIELD goes on to a part of the variable at an address
  abbrev pub DoesField : Type 0
  DoesField =
      (F : Shape) (m : List ℕ) (offset next x pc t top held : ℕ) → base_of g s F ≤ t → top ≡ t + 1 → word m t ≡ x → x + offset < 2 ^ 16 →
      effect (op.field offset) next (local_at s F m pc top held) ≡ push ((x + offset) ∷ []) (local_at s F m pc t held) (to next)

  -- JUMP goes on at its target, which is behind it
  abbrev pub Jumps : Type 0
  Jumps =
      (F : Shape) (m : List ℕ) (target next pc top held : ℕ) → pc < target →
      effect (op.jump target) next (local_at s F m pc top held) ≡ goes (local_at s F m target top held)

  -- FALSE pops a truth value, and jumps where it is 0
  abbrev pub DoesFalse : Type 0
  DoesFalse =
      (F : Shape) (m : List ℕ) (target next x pc t top held : ℕ) → pc < target → base_of g s F ≤ t → top ≡ t + 1 → word m t ≡ x →
      effect (op.false_ target) next (local_at s F m pc top held) ≡ goes (local_at s F m (if nat_eq x 0 then target else next) t held)

  -- AND and OR: where the truth value decides it stays and the program goes on at the target, else it goes
  abbrev pub DoesDecide : Instruction → ℕ → (ℕ → Bool) → Type 0
  DoesDecide i target decides =
      (F : Shape) (m : List ℕ) (next x pc t top held : ℕ) → pc < target → base_of g s F ≤ t → top ≡ t + 1 → word m t ≡ x →
      ((decides x ≡ true) → effect i next (local_at s F m pc top held) ≡ goes (local_at s F m target top held))
      × ((decides x ≡ false) → effect i next (local_at s F m pc top held) ≡ goes (local_at s F m next t held))

  -- WHEN and COBEGIN in a critical phase or a function
  abbrev pub FailsHeld : Type 0
  FailsHeld =
      (F : Shape) (m : List ℕ) (line next pc top held : ℕ) → 0 < held →
      (effect (op.when line) next (local_at s F m pc top held) ≡ fails cause.Held line)
      × ((branches : List Branch) → effect (op.cobegin line branches) next (local_at s F m pc top held) ≡ fails cause.Held line)

  -- ---- instructions, by their effects: the operands below t are to stay

  -- operands go, and words are pushed; then the rest is done
  abbrev pub PushesThen : Type 1
  PushesThen =
      (A : Type 0) (Post : A → List ℕ → ℕ → ℕ → Type 0) (run : Evaluation A)
      (F : Shape) (i : Instruction) (pc next top u t held : ℕ) (w : World) (m zs : List ℕ) → Stands g s F w m → g.fetched pc ≡ Some (i, next) →
      effect i next (local_at s F m pc top held) ≡ push zs (local_at s F m pc u held) (to next) → t ≤ u → base_of g s F ≤ u →
      u + length zs ≤ frames_end s.first F s.name →
      ((m' : List ℕ) → After g s F w w m m' u false → words_at m' u (length zs) ≡ zs → Does g s F next (u + length zs) t held w m' Post run) →
      Does g s F pc top t held w m Post run

  -- operands go, and words are pushed
  abbrev pub PopsPushes : Type 1
  PopsPushes =
      (A : Type 0) (Post : A → List ℕ → ℕ → ℕ → Type 0) (a : A)
      (F : Shape) (i : Instruction) (pc next top t held : ℕ) (w : World) (m zs : List ℕ) → Stands g s F w m → g.fetched pc ≡ Some (i, next) →
      effect i next (local_at s F m pc top held) ≡ push zs (local_at s F m pc t held) (to next) → base_of g s F ≤ t →
      t + length zs ≤ frames_end s.first F s.name →
      ((m' : List ℕ) → words_at m' t (length zs) ≡ zs → Post a m' next (t + length zs)) →
      Does g s F pc top t held w m Post (gives a w)

  -- the same where the words are those of a value
  abbrev pub PopsPushesValue : Type 0
  PopsPushesValue =
      (F : Shape) (i : Instruction) (pc next top t held of : ℕ) (w : World) (m zs : List ℕ) (v : Value) → Stands g s F w m → g.fetched pc ≡ Some (i, next) →
      effect i next (local_at s F m pc top held) ≡ push zs (local_at s F m pc t held) (to next) → base_of g s F ≤ t →
      t + size g.unit.types of ≤ frames_end s.first F s.name →
      zs ≡ value_words v → of < length g.unit.types → IsOf g.unit.types v of →
      Does g s F pc top t held w m (Pushed g s of next t) (gives v w)

  -- it goes on elsewhere, or with fewer operands; then the rest is done
  abbrev pub GoesThen : Type 1
  GoesThen =
      (A : Type 0) (Post : A → List ℕ → ℕ → ℕ → Type 0) (run : Evaluation A)
      (F : Shape) (i : Instruction) (pc next there top up t held : ℕ) (w : World) (m : List ℕ) → g.fetched pc ≡ Some (i, next) →
      effect i next (local_at s F m pc top held) ≡ goes (local_at s F m there up held) → Does g s F there up t held w m Post run →
      Does g s F pc top t held w m Post run

  -- the program fails
  abbrev pub FailsAt : Type 1
  FailsAt =
      (A : Type 0) (Post : A → List ℕ → ℕ → ℕ → Type 0)
      (F : Shape) (i : Instruction) (pc next top t held : ℕ) (w : World) (m : List ℕ) (c : Cause) (line : ℕ) → g.fetched pc ≡ Some (i, next) →
      effect i next (local_at s F m pc top held) ≡ fails c line →
      Does g s F pc top t held w m Post (ends (ending_of c line) w.system w.turns)

  -- a turn is taken where one is left, and else ends the run; then the rest is done (LOOP)
  abbrev pub StepsTurn : Type 1
  StepsTurn =
      (A : Type 0) (Post : A → List ℕ → ℕ → ℕ → Type 0) (run : World → Evaluation A)
      (F : Shape) (i : Instruction) (pc next there top t held : ℕ) (w : World) (m : List ℕ) → g.fetched pc ≡ Some (i, next) →
      effect i next (local_at s F m pc top held) ≡ due looping (local_at s F m there top held) →
      ((n : ℕ) → w.turns ≡ suc n → Does g s F there top t held (record w { turns = n }) m Post (run (record w { turns = n }))) →
      Does g s F pc top t held w m Post (turn w run)

  -- the turns after which the process goes on itself
  abbrev pub IsOnward : Turn → Type 0
  IsOnward entering = Unit {0}
  IsOnward leaving = Unit {0}
  IsOnward looping = Unit {0}
  IsOnward _ = ⊥

  -- such a turn, whatever it does to frames and memory (calls and their ends)
  abbrev pub TurnMoves : Type 0
  TurnMoves =
      (F G : Shape) (i : Instruction) (kind : Turn) (pc next there top up held held' n : ℕ) (w : World) (m m' : List ℕ) → g.fetched pc ≡ Some (i, next) →
      IsOnward kind →
      effect i next (local_at s F m pc top held) ≡ due kind (local_at s G m' there up held') → w.turns ≡ suc n → ((a : ℕ) → Outer s a → word m' a ≡ word m a) →
      Moves g.fetched s.count (is_first s.name) (Outer s) (alone s F m pc top held w) (alone s G m' there up held' (record w { turns = n })) true

  -- where no turn is left it ends the run
  abbrev pub TurnStops : Type 0
  TurnStops =
      (F : Shape) (i : Instruction) (kind : Turn) (l : Local) (pc next top held : ℕ) (w : World) (m : List ℕ) → g.fetched pc ≡ Some (i, next) →
      effect i next (local_at s F m pc top held) ≡ due kind l → w.turns ≡ 0 →
      stops g s (alone s F m pc top held w) outcome.turns w.system w.turns

  -- ---- what stays

  -- operands stay where a stretch begins above them
  abbrev pub OperandsStay : Type 0
  OperandsStay =
      (F : Shape) (w w' : World) (m m' : List ℕ) (t n u : ℕ) (c : Bool) → Stands g s F w m → After g s F w w' m m' u c → base_of g s F ≤ t → t + n ≤ u →
      t + n ≤ frames_end s.first F s.name →
      words_at m' t n ≡ words_at m t n

  -- and there is as much room as before
  abbrev pub AbleThen : Type 0
  AbleThen =
      (F : Shape) (w w' : World) (m m' : List ℕ) (t h t' h' u held : ℕ) (c : Bool) → Able g s F w m t h held → After g s F w w' m m' u c → t ≤ t' →
      t' + h' ≤ t + h →
      Able g s F w' m' t' h' held

  abbrev pub AbleAbove : Type 0
  AbleAbove =
      (F : Shape) (w : World) (m : List ℕ) (t h t' h' held : ℕ) → Able g s F w m t h held → t ≤ t' → t' + h' ≤ t + h → Able g s F w m t' h' held

  -- ---- addresses and variables

  -- the instance so many levels out
  pub record Reaches (F : Shape) (k : ℕ) (r : Spot) : Type 0 where
    pub lives : IsLive F r
    pub older : Older r (now F s.name)
    pub block_is : block_at g F r ≡ outer g.unit.blocks (here g s F) k
    pub known : block_at g F r < length g.unit.blocks

  abbrev pub LevelsReach : Type 0
  LevelsReach = (F : Shape) (w : World) (m : List ℕ) (k : ℕ) → Stands g s F w m → Reaches F k (reached F k (now F s.name))

  -- ADDRESS pushes the address of a variable's words
  abbrev pub DoesAddress : Type 0
  DoesAddress =
      (F : Shape) (w : World) (m : List ℕ) (k v o next pc top held : ℕ) → Stands g s F w m → v < slots_of g (block_at g F (reached F k (now F s.name))) →
      o ≡ offset g (block_at g F (reached F k (now F s.name))) v →
      effect (op.address k o) next (local_at s F m pc top held) ≡ push (slot_address g s.first F (reached F k (now F s.name)) v ∷ [])
      (local_at s F m pc top held) (to next)

  -- LOAD from the address of a variable: the words for what it holds, a value, a location or a procedure
  abbrev pub LoadsCell : Type 0
  LoadsCell =
      (F : Shape) (w : World) (m : List ℕ) (r : Spot) (v next pc t top held : ℕ) → Stands g s F w m → IsLive F r → v < slots_of g (block_at g F r) →
      base_of g s F ≤ t → top ≡ t + 1 → word m t ≡ slot_address g s.first F r v →
      effect (op.load (words_in g (slot_in g (block_at g F r) v))) next (local_at s F m pc top held) ≡ push (cell_words g s.first F (cell w.store r v))
      (local_at s F m pc t held) (to next)

  -- a part of a variable: where its words stand, and what they are
  pub record IsPart (F : Shape) (w : World) (m : List ℕ) (l : Location) (of : ℕ) : Type 0 where
    pub known : of < length g.unit.types
    pub within : location_address g s.first F l + size g.unit.types of ≤ 2 ^ 16
    pub words : words_at m (location_address g s.first F l) (size g.unit.types of) ≡ value_words (get w.store l)
    pub long : length (value_words (get w.store l)) ≡ size g.unit.types of
    pub typed : IsOf g.unit.types (get w.store l) of

  abbrev pub PartsAreThere : Type 0
  PartsAreThere = (F : Shape) (w : World) (m : List ℕ) (l : Location) (of : ℕ) → Stands g s F w m → Leads g F l of → IsPart F w m l of

  -- LOAD of a part
  abbrev pub LoadsPart : Type 0
  LoadsPart =
      (F : Shape) (w : World) (m : List ℕ) (l : Location) (of pc next t top held : ℕ) → Stands g s F w m → Leads g F l of →
      g.fetched pc ≡ Some (op.load (size g.unit.types of), next) →
      base_of g s F ≤ t → top ≡ t + 1 → word m t ≡ location_address g s.first F l → t + size g.unit.types of ≤ frames_end s.first F s.name →
      Does g s F pc top t held w m (Pushed g s of next t) (gives (get w.store l) w)

  -- ---- stores

  -- a value is written at a part that the newest instance may mean: the memory mirrors the new store (system and turns as they
  -- may be), and no word of `Outer` has changed. So for STORE, and for the answer of a system call
  pub record Stored (F : Shape) (w v : World) (m : List ℕ) (l : Location) (x : Value) (of t : ℕ) : Type 0 where
    pub within : location_address g s.first F l + size g.unit.types of ≤ 2 ^ 16
    pub after : After g s F w v m (written m (location_address g s.first F l) (value_words x)) t false
    pub keeps : (a : ℕ) → Outer s a → word (written m (location_address g s.first F l) (value_words x)) a ≡ word m a

  abbrev pub StoreDoes : Type 0
  StoreDoes =
      (F : Shape) (w : World) (m : List ℕ) (l : Location) (x : Value) (of t : ℕ) (system : Traced) → Stands g s F w m → Leads g F l of →
      Older l.spot (now F s.name) → IsOf g.unit.types x of →
      Stored F w (record { store = put w.store l x; system = system; turns = w.turns }) m l x of t

  -- STORE
  abbrev pub Stores : Type 0
  Stores =
      (F : Shape) (w : World) (m : List ℕ) (l : Location) (x : Value) (of pc next t top held : ℕ) → Stands g s F w m → Leads g F l of →
      Older l.spot (now F s.name) → IsOf g.unit.types x of →
      g.fetched pc ≡ Some (op.store (size g.unit.types of), next) → base_of g s F ≤ t → t ≤ frames_end s.first F s.name → top ≡ t + 1 + size g.unit.types of →
      word m t ≡ location_address g s.first F l → words_at m (t + 1) (size g.unit.types of) ≡ value_words x →
      Does g s F pc top t held w m (Ran g s next t) (gives tt (record w { store = put w.store l x }))

  -- ---- calls

  -- what a call of a procedure comes to
  abbrev pub called_closure : Shape → Closure → (line next : ℕ) → Local → Effect
  called_closure F (system_procedure number) line next l = system_call number line next l
  called_closure F (block_procedure n parent) line next l = enter (g.fetched (entry g n)) (address s.first F parent) next line l

  -- CALL of a block
  abbrev pub CallsBlock : Type 0
  CallsBlock =
      (F : Shape) (w : World) (m : List ℕ) (k n line next pc top held : ℕ) → Stands g s F w m →
      effect (op.call k (entry g n) line) next (local_at s F m pc top held) ≡ called_closure F (block_procedure n (reached F k (now F s.name))) line next
      (local_at s F m pc top held)

  -- CALL of what a procedure parameter means
  abbrev pub CallsFormal : Type 0
  CallsFormal =
      (F : Shape) (w : World) (m : List ℕ) (k v o line next pc top held : ℕ) (result : Option ℕ) (c : Closure) → Stands g s F w m →
      slot_in g (block_at g F (reached F k (now F s.name))) v ≡ Some (slot.Formal result) → o ≡ offset g (block_at g F (reached F k (now F s.name))) v →
      cell w.store (reached F k (now F s.name)) v ≡ procedure c →
      effect (op.call_p k o line) next (local_at s F m pc top held) ≡ called_closure F c line next (local_at s F m pc top held)

  -- PROC pushes the words of a block as a procedure
  abbrev pub DoesProc : Type 0
  DoesProc =
      (F : Shape) (w : World) (m : List ℕ) (k n next pc top held : ℕ) → Stands g s F w m →
      effect (op.proc k (entry g n)) next (local_at s F m pc top held)
      ≡ push (closure_words g s.first F (block_procedure n (reached F k (now F s.name)))) (local_at s F m pc top held) (to next)

  -- ---- all of them
  pub record Instructed : Type 1 where
    pub word_is : WordIs
    pub one_word : OneWord
    pub row_splits : RowSplits
    pub pops : Pops
    pub pops_word : PopsWord
    pub looks : Looks
    pub arithmetic_is : DoesArithmetic
    pub comparison_is : DoesComparison
    pub equality_is : DoesEquality
    pub on_sets_is : DoesOnSets
    pub in_is : DoesIn
    pub member_is : DoesMember
    pub index_is : DoesIndex
    pub pushes_address : PushesAddress
    pub field_is : DoesField
    pub is_held : FailsHeld
    pub jumps : Jumps
    pub false_is : DoesFalse
    pub and_is : (target : ℕ) → DoesDecide (op.and target) target (λ x. nat_eq x 0)
    pub or_is : (target : ℕ) → DoesDecide (op.or target) target (λ x. not (nat_eq x 0))
    pub pushes_then : PushesThen
    pub pops_pushes : PopsPushes
    pub pops_pushes_value : PopsPushesValue
    pub goes_then : GoesThen
    pub fails_at : FailsAt
    pub steps_turn : StepsTurn
    pub turn_moves : TurnMoves
    pub turn_stops : TurnStops
    pub operands_stay : OperandsStay
    pub able_then : AbleThen
    pub able_above : AbleAbove
    pub levels_reach : LevelsReach
    pub address_is : DoesAddress
    pub loads_cell : LoadsCell
    pub parts_are_there : PartsAreThere
    pub loads_part : LoadsPart
    pub store_does : StoreDoes
    pub stores : Stores
    pub calls_block : CallsBlock
    pub calls_formal : CallsFormal
    pub proc_is : DoesProc
