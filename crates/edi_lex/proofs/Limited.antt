-- The first bytes of a text decide what it is.
use Rattle.std.proofs.Common.{◌≡◌, ℕ, ◌<◌, ◌≤◌, Bool, true, false, ◌||◌, if◌then◌else◌, nat_lt, List, length, take, Err, refl, sym, ap, ◌∙◌}
use Rattle.std.proofs.Common.{arith, ltb-true, ltb-false, lt-ltb}
use Rattle.std.proofs.lemmas.List.{length-take-le, take_all}
use Rattle.edi_lex.specs.Bytes.{line_feeds}
use Rattle.edi_lex.specs.Symbols.{is_too_long, symbols_from, symbols_of}
use Rattle.edi_lex.specs.declared.fault.LexFault.TheVariants as fault
use Rattle.edi_lex.specs.Limit.{most_fetched, FirstBytesDecide}

long : (text : List ℕ) → 262144 < length text → is_too_long text ≡ true
long text more = ap (λ b. b || nat_lt 65534 (line_feeds text)) (lt-ltb 262144 (length text) more)

refused : (text : List ℕ) → is_too_long text ≡ true → symbols_of text ≡ Err fault.TooLong
refused text is = ap (λ b. if b then Err fault.TooLong else symbols_from text 0 1) is

pub first_bytes_decide : FirstBytesDecide
first_bytes_decide text = go (nat_lt 262144 (length text)) refl
  where
    go : (b : Bool) → nat_lt 262144 (length text) ≡ b → (symbols_of (take most_fetched text) ≡ symbols_of text)
        × (is_too_long (take most_fetched text) ≡ false → take most_fetched text ≡ text)
    go true e =
        let more : 262144 < length text = ltb-true 262144 (length text) e in
        let many : length (take most_fetched text) ≡ most_fetched = length-take-le most_fetched text (omega arith) in
        let first : is_too_long (take most_fetched text) ≡ true = long (take most_fetched text) (omega (arith, many)) in
        (refused (take most_fetched text) first ∙ sym (refused text (long text more)), λ no. let wrong : true ≡ false = sym first ∙ no in absurd (cc))
    go false e =
        let all : take most_fetched text ≡ text = take_all most_fetched text (let few : length text ≤ 262144 = ltb-false 262144 (length text) e in
        omega (arith, few)) in
        (ap symbols_of all, λ no. all)
