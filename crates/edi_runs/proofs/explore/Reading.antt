-- An input that is read byte by byte.
use Rattle.std.proofs.Common.{◌≡◌, ℕ, suc, ◌<◌, ◌≤◌, List, [], ◌∷◌, ◌++◌, length, drop, Option, Ok, Err, refl, sym, ap, subst, ◌∙◌, arith, append_assoc}
use Rattle.std.specs.Global.{Vec}
use Rattle.std.proofs.lemmas.List.{append-nil, length-append}
use Rattle.std.proofs.Math.Seq.{drop-append_seam}
use Rattle.edi_told.specs.Faults.{CountRose}
use Rattle.edi_told.specs.Told.{WhereTold}
use Rattle.edi_told.proofs.Told.{WhereTold-then, WhereTold-map}
use Rattle.edi_host.specs.declared.source.Next.TheVariants as next
use Rattle.edi_host.specs.Streams.{Takes}
use Rattle.edi_runs.specs.declared.explore.input.InputFault.TheVariants as fault
use Rattle.edi_runs.specs.explore.Input.{most_input}
use Rattle.edi_runs.specs.explore.Told.{HasFailedBehind, HasTaken, HasTakenSome, Reads}

taken_one : (bytes more : List ℕ) (b : ℕ) (x y z : List ℕ) → more ≡ bytes ++ b ∷ [] → x ≡ bytes ++ y → y ≡ b ∷ z → x ≡ more ++ z
taken_one bytes more b x y z g p q = p ∙ ap (λ t. bytes ++ t) q ∙ sym (append_assoc bytes (b ∷ []) z) ∙ ap (λ t. t ++ z) (sym g)

module _ (start now after : Option (List ℕ)) (bytes : List ℕ) (few : length bytes ≤ most_input) (told : WhereTold start now (HasTaken bytes)) where
  pub one_more : (more : List ℕ) (b : ℕ) → more ≡ bytes ++ b ∷ [] → WhereTold now after (Takes (next.Byte b)) → WhereTold start after (HasTaken more)
  one_more more b g s =
      WhereTold-then (HasTaken bytes) (Takes (next.Byte b)) (HasTaken more) start now after (λ x y z p q. taken_one bytes more b x y z g p q) told s

  pub one_lost : (b : ℕ) → WhereTold now after (Takes (next.Byte b)) → WhereTold start after HasTakenSome
  one_lost b s =
      WhereTold-then (HasTaken bytes) (Takes (next.Byte b)) HasTakenSome start now after
      (λ x y z p q. (bytes ++ b ∷ [], taken_one bytes (bytes ++ b ∷ []) b x y z refl p q, omega (arith, few, length-append bytes (b ∷ [])))) told s

  pub none_more : WhereTold now after (Takes next.Failed) → WhereTold start after HasFailedBehind
  none_more s =
      WhereTold-then (HasTaken bytes) (Takes next.Failed) HasFailedBehind start now after
      (λ x y z p q. (bytes, p ∙ ap (λ t. bytes ++ t) (sym q.1), few, subst (λ t. 0 < length t) (sym q.1) q.0)) told s

pub read_whole : (start now after : Option (List ℕ)) (bytes : Vec ℕ) → length bytes.items ≤ most_input → WhereTold start now (HasTaken bytes.items)
    → WhereTold now after (Takes next.End) → WhereTold start after (Reads (Ok bytes))
read_whole start now after bytes few told s =
    WhereTold-then (HasTaken bytes.items) (Takes next.End) (Reads (Ok bytes)) start now after
    (λ x y z p q. let all : x ≡ bytes.items = p ∙ ap (λ t. bytes.items ++ t) q.0 ∙ append-nil bytes.items in
    (all, q.1, omega (arith, few, ap length all))) told s

-- what is left where so many bytes were taken
left_after : (n : ℕ) (bytes x y : List ℕ) → length bytes ≡ n → HasTaken bytes x y → y ≡ drop n x
left_after n bytes x y count p = sym (drop-append_seam bytes y) ∙ ap (λ m. drop m (bytes ++ y)) count ∙ ap (drop n) (sym p)

pub read_too_long : (start now : Option (List ℕ)) (bytes : List ℕ) → length bytes ≡ suc most_input → WhereTold start now (HasTaken bytes)
    → WhereTold start now (Reads (Err fault.TooLong))
read_too_long start now bytes count told =
    WhereTold-map (HasTaken bytes) (Reads (Err fault.TooLong)) start now
    (λ x y p. (omega (arith, count, ap length p, length-append bytes y), left_after (suc most_input) bytes x y count p)) told

-- a count that rose by the end of two calls
pub rose_since : (a b c : ℕ) → a ≤ b → CountRose b c → CountRose a c
rose_since a b c l r = omega (arith, l, r)
