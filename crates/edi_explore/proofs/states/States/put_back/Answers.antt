-- The parts of a state are there, and the kernel to which they are put back has them.
use Rattle.std.proofs.Common.{◌≡◌, ◌-◌, ℕ, List, length, take, drop, sym, ap, subst, ◌∙◌}
use Rattle.edi_kernel.specs.declared.state.KernelState.{KernelState}
use Rattle.edi_explore.specs.Back.{AreBack, AreLinedUp, AreProcesses, MayLineUp}
use Rattle.edi_explore.specs.States.{slots_of}
use Rattle.edi_explore.proofs.StatesBack.{is_back_of, may_line_up}
use Rattle.edi_explore.proofs.states.States.put_back.Goals as goal

-- the slots, as they are cut out
cut : (from to a b : ℕ) (xs ys : List ℕ) → from ≡ a → to ≡ b → xs ≡ ys → take (to - from) (drop from xs) ≡ take (b - a) (drop a ys)
cut from to a b xs ys e f g = λ i. take (f i - e i) (drop (e i) (g i))

pub index-requires : goal.index-requires
index-requires c = (c.requires.states.states c.args.state c.index-key.result.now c.index-key.ensures).place

pub put_all_back-requires-clause-processes : goal.put_all_back-requires-clause-processes
put_all_back-requires-clause-processes c =
    subst (AreProcesses c.args.self.now.processes.keys) (sym c.deref.ensures.value)
    (c.requires.states.states c.args.state c.index-key.result.now c.index-key.ensures).processes

pub line_all_up-requires-clause-may : goal.line_all_up-requires-clause-may
line_all_up-requires-clause-may c =
    let s = c.args.self.now in
    let key = c.index-key.result.now in
    let slots : take (c.range-from.result.1 - c.range-from.result.0) (drop c.range-from.result.0 c.deref-2.result.now) ≡ slots_of s c.args.state =
    cut c.range-from.result.0 c.range-from.result.1 _ _ c.deref-2.result.now s.orders.items c.range-from.ensures.from c.range-from.ensures.to
    c.deref-2.ensures.value in
    subst (λ (xs : List ℕ). MayLineUp xs c.put_all_back.new.kernel) (sym slots)
    (may_line_up s key (slots_of s c.args.state) (c.requires.states.states c.args.state key c.index-key.ensures) c.put_all_back.new.kernel
    (subst (λ (xs : List ℕ). AreBack s.processes.keys xs (length xs) c.put_all_back.new.kernel) c.deref.ensures.value c.put_all_back.ensures.back))

pub returns-clause-back : goal.returns-clause-back
returns-clause-back c =
    let s = c.args.self.now in
    let key = c.index-key.result.now in
    let slots : take (c.range-from.result.1 - c.range-from.result.0) (drop c.range-from.result.0 c.deref-2.result.now) ≡ slots_of s c.args.state =
    cut c.range-from.result.0 c.range-from.result.1 _ _ c.deref-2.result.now s.orders.items c.range-from.ensures.from c.range-from.ensures.to
    c.deref-2.ensures.value in
    record {
      key = key;
      is = c.index-key.ensures;
      back = is_back_of s key (slots_of s c.args.state) (c.requires.states.states c.args.state key c.index-key.ensures) c.put_all_back.new.kernel
          (subst (λ (xs : List ℕ). AreBack s.processes.keys xs (length xs) c.put_all_back.new.kernel) c.deref.ensures.value c.put_all_back.ensures.back)
          c.line_all_up.new.kernel
          (subst (λ (xs : List ℕ). AreLinedUp xs (length xs) c.put_all_back.new.kernel c.line_all_up.new.kernel) slots c.line_all_up.ensures.lined)
          (ap (λ (k : KernelState). k.entering) c.put_all_back.ensures.rest ∙ c.clear.ensures.exact.entering);
      place = c.index.result.now;
      at = c.index.ensures;
      system = c.in_ok-put_back.ensures.place;
    }
