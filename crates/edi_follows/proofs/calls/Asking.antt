-- The instruction that calls the system pops the address for the answer, and the words of the arguments.
use Rattle.std.proofs.Common.{◌≡◌, ℕ, ◌+◌, ◌≤◌, true, ◌&&◌, if◌then◌else◌, List, [], ◌∷◌, ◌++◌, length, Option, Some, None, sym, ap, ap₂, ◌∙◌, arith}
use Rattle.std.proofs.Common.{length-append}
use Rattle.std.specs.Prelude.{nat_le}
use Rattle.std.proofs.lemmas.Bool.{le-leb}
use Rattle.edi_store.specs.Memory.{words_at}
use Rattle.edi_calls.specs.Calls.{argument_words, answer_words}
use Rattle.edi_unit.specs.Headings.{Formals}
use Rattle.edi_meaning.specs.Store.{Cell, Shape}
use Rattle.edi_meaning.specs.Whole.{words_of_cells}
use Rattle.edi_target.specs.Memory.{word}
use Rattle.edi_target.specs.Effect.{Local, Effect, asks, bad, pop}
use Rattle.edi_target.specs.Perform.{with_answer_address, system_call}
use Rattle.edi_follows.proofs.values.Reading.{read_within}
use Rattle.edi_follows.specs.places.Coded.{Coded}
use Rattle.edi_follows.specs.places.Spots.{location_address, cells_words}
use Rattle.edi_follows.specs.places.Scene.{Scene, base_of, local_at}
use Rattle.edi_follows.proofs.places.Effects.{word_is, pops, pops_word}
use Rattle.edi_follows.proofs.calls.Fed.{Silent, Answering}

-- a number of the ten
is_call : (n : ℕ) → 1 ≤ n → n ≤ 10 → (nat_le 1 n && nat_le n 10) ≡ true
is_call n from to = ap₂ (λ a b. a && b) (le-leb 1 n from) (le-leb n 10 to)

-- words, and one behind them
first_words : (m : List ℕ) (t : ℕ) (xs ys : List ℕ) (n : ℕ) → words_at m t n ≡ xs ++ ys → n ≡ length xs + length ys → words_at m t (length xs) ≡ xs
first_words m t xs ys n is long =
    let none : t + 0 ≡ t = omega arith in
    let same : length {A = ℕ} [] + (length xs + length ys) ≡ n = omega (arith, long) in
    ap (λ a. words_at m a (length xs)) (sym none) ∙ read_within m t [] xs ys (ap (words_at m t) same ∙ is)

last_word : (m : List ℕ) (t : ℕ) (xs : List ℕ) (y n : ℕ) → words_at m t n ≡ xs ++ y ∷ [] → n ≡ length xs + 1 → word m (t + length xs) ≡ y
last_word m t xs y n is long =
    let same : length xs + (length (y ∷ []) + length {A = ℕ} []) ≡ n = omega (arith, long) in
    word_is m [] y (t + length xs) 1 (read_within m t xs (y ∷ []) [] (ap (words_at m t) same ∙ is))

module _ (g : Coded) (s : Scene) (F : Shape) (cells : List Cell) (number : ℕ) (formals : Formals) (m : List ℕ) (pc t held line next : ℕ)
    (from : 1 ≤ number) (to : number ≤ 10) (low : base_of g s F ≤ t)
    (words : words_at m t (length (cells_words g s.first F cells)) ≡ cells_words g s.first F cells) where
  abbrev top : ℕ
  top = t + length (cells_words g s.first F cells)

  abbrev args : List ℕ
  args = words_of_cells cells

  -- the call, with the words of its arguments popped, from an address that is popped already or is not there
  abbrev popped : Option ℕ → Local → Effect
  popped address l = pop (argument_words number) l (λ arguments l. asks number arguments address line (record l { pc = next }))

  tested : system_call number line next (local_at s F m pc top held) ≡ with_answer_address (answer_words number) (local_at s F m pc top held) popped
  tested = ap (λ b. if b then with_answer_address (answer_words number) (local_at s F m pc top held) popped else bad) (is_call number from to)

  pub silent_asks : Silent g s F cells number formals →
      system_call number line next (local_at s F m pc top held) ≡ asks number args None line (local_at s F m next t held)
  silent_asks h =
      let long : length (cells_words g s.first F cells) ≡ argument_words number = ap length h.words ∙ h.long in
      tested
      ∙ ap (λ n. with_answer_address n (local_at s F m pc top held) popped) h.none
      ∙ pops g s F m args pc t (argument_words number) top held (λ arguments l. asks number arguments None line (record l { pc = next })) low
      (ap (λ n. t + n) long) (ap (words_at m t) (sym long) ∙ words ∙ h.words)

  pub answering_asks : (h : Answering g s F cells number formals) →
      system_call number line next (local_at s F m pc top held) ≡ asks number args (Some (location_address g s.first F h.at)) line (local_at s F m next t held)
  answering_asks h =
      let a : ℕ = location_address g s.first F h.at in
      let long : length (cells_words g s.first F cells) ≡ length args + 1 = ap length h.words ∙ length-append args (a ∷ []) in
      let is : words_at m t (length (cells_words g s.first F cells)) ≡ args ++ a ∷ [] = words ∙ h.words in
      tested
      ∙ ap (λ n. with_answer_address n (local_at s F m pc top held) popped) h.one
      ∙ pops_word g s F m a pc (t + length args) top held (λ address l. popped (Some address) l) (omega (arith, low)) (omega (arith, long))
      (last_word m t args a (length (cells_words g s.first F cells)) is long)
      ∙ pops g s F m args pc t (argument_words number) (t + length args) held (λ arguments l. asks number arguments (Some a) line (record l { pc = next })) low
      (ap (λ n. t + n) h.long) (ap (words_at m t) (sym h.long) ∙ first_words m t args (a ∷ []) (length (cells_words g s.first F cells)) is long)
