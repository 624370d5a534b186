-- One check after another.
use Rattle.std.proofs.Common.{◌≡◌, ℕ, ◌+◌, ◌-◌, ◌^◌, ◌≤◌, Bool, true, false, List, length, refl, sym, ◌∙◌, subst, min, arith}
use Rattle.std.specs.Prelude.{Option, Some, None, IfSome, ⊤}
use Rattle.edi_told.specs.Told.{WhereTold}
use Rattle.edi_disk.specs.declared.disk.Disk.{Disk}
use Rattle.edi_disk.specs.Shown.{shown, drive_of, IsWorking}
use Rattle.edi_disk.proofs.Calls.{shown_counted}
use Rattle.edi_catalog.specs.Reads.{Checks}
use Rattle.edi_image.proofs.Told.{told_then, told_map, told_same}

pub checks_then : {D : Type 0} (contents : D → Option (List (List ℕ))) (count faults : D → ℕ) (broke : Bool) (a b c : Disk D)
    (P Q R : List (List ℕ) → Type 0) → ((blocks : List (List ℕ)) → P blocks → Q blocks → R blocks)
    → Checks contents count faults false a b P → Checks contents count faults broke b c Q → Checks contents count faults broke a c R
checks_then contents count faults broke a b c P Q R both one other = record {
  same_reference = other.same_reference ∙ one.same_reference;
  since = λ base was_put kept. other.since base was_put (one.since base was_put kept);
  count_stays = other.count_stays ∙ one.count_stays;
  later = omega (arith, one.later, other.later);
  told =
      told_then (shown contents a) (shown contents b) (shown contents c) (λ old new. ⊤) (λ old new. ⊤) (λ old new. ⊤) (λ old between new p q. tt)
      one.told other.told;
  cause = λ e. (let later : faults (drive_of a) ≤ faults (drive_of b) = one.later in
      let rose : min (faults (drive_of b) + 1) (2 ^ 64 - 1) ≤ faults (drive_of c) = other.cause e in omega arith);
  works = other.works;
  clean = λ fine was. other.clean fine (one.clean refl was);
  shows = λ e.
      told_then (shown contents a) (shown contents b) (shown contents c) (λ old new. (new ≡ old) × P old) (λ old new. (new ≡ old) × Q old)
      (λ old new. (new ≡ old) × R old)
      (λ old between new p q. (q.0 ∙ p.0, both old p.1 (subst Q p.0 q.1)))
      (one.shows refl) (other.shows e);
}

-- both are known
pub checks_both : {D : Type 0} (contents : D → Option (List (List ℕ))) (count faults : D → ℕ) (a b c : Disk D) (P Q : List (List ℕ) → Type 0)
    → Checks contents count faults false a b P → Checks contents count faults false b c Q → Checks contents count faults false a c (λ blocks. P blocks × Q blocks)
checks_both contents count faults a b c P Q one other =
    checks_then contents count faults false a b c P Q (λ blocks. P blocks × Q blocks) (λ blocks p q. (p, q)) one other

-- the same calls, with something else known of what is shown
shown_as : {D : Type 0} (contents : D → Option (List (List ℕ))) (count faults : D → ℕ) (broke : Bool) (a b : Disk D) (P Q : List (List ℕ) → Type 0)
    → (broke ≡ false → WhereTold (shown contents a) (shown contents b) (λ old new. (new ≡ old) × Q old))
    → Checks contents count faults broke a b P → Checks contents count faults broke a b Q
shown_as contents count faults broke a b P Q shows one =
    search (one.same_reference, one.since, one.count_stays, one.later, one.told, one.cause, one.works, one.clean, shows)

pub checks_map : {D : Type 0} (contents : D → Option (List (List ℕ))) (count faults : D → ℕ) (broke : Bool) (a b : Disk D)
    (P Q : List (List ℕ) → Type 0) → ((blocks : List (List ℕ)) → P blocks → Q blocks)
    → Checks contents count faults broke a b P → Checks contents count faults broke a b Q
checks_map contents count faults broke a b P Q so one =
    shown_as contents count faults broke a b P Q
    (λ e.
    told_map (shown contents a) (shown contents b) (λ old new. (new ≡ old) × P old) (λ old new. (new ≡ old) × Q old)
    (λ old new p. (p.0, so old p.1)) (one.shows e))
    one

-- no call of the disk
pub checks_none : {D : Type 0} (contents : D → Option (List (List ℕ))) (count faults : D → ℕ) (a : Disk D) (P : List (List ℕ) → Type 0)
    → IsWorking contents count a → ((blocks : List (List ℕ)) → P blocks) → Checks contents count faults false a a P
checks_none contents count faults a P works all = record {
  same_reference = refl;
  since = λ base was_put kept. kept;
  count_stays = refl;
  later = omega arith;
  told = told_same (shown contents a) (λ old new. ⊤) (λ blocks. tt);
  cause = λ e. absurd (let no : false ≡ true = e in cc);
  works = λ e. works;
  clean = λ e was. was;
  shows = λ e. told_same (shown contents a) (λ old new. (new ≡ old) × P old) (λ blocks. (refl, all blocks));
}

-- what is known of the blocks at the start
told_with : {A : Type 0} (a b : Option A) (L : A → Type 0) (P : A → A → Type 0) → IfSome a L → WhereTold a b P
    → WhereTold a b (λ old new. P old new × L old)
told_with a None L P l p = tt
told_with None (Some y) L P l p = absurd p
told_with (Some x) (Some y) L P l p = (p, l)

pub checks_with : {D : Type 0} (contents : D → Option (List (List ℕ))) (count faults : D → ℕ) (broke : Bool) (a b : Disk D)
    (P L : List (List ℕ) → Type 0) → IfSome (shown contents a) L → Checks contents count faults broke a b P
    → Checks contents count faults broke a b (λ blocks. P blocks × L blocks)
checks_with contents count faults broke a b P L l one =
    shown_as contents count faults broke a b P (λ blocks. P blocks × L blocks)
    (λ e.
    told_map (shown contents a) (shown contents b) (λ old new. ((new ≡ old) × P old) × L old) (λ old new. (new ≡ old) × (P old × L old))
    (λ old new p. (p.0.0, (p.0.1, p.1)))
    (told_with (shown contents a) (shown contents b) L (λ old new. (new ≡ old) × P old) l (one.shows e)))
    one

-- their number is known
pub checks_counted : {D : Type 0} (contents : D → Option (List (List ℕ))) (count faults : D → ℕ)
    (counted : (drive : D) → IfSome (contents drive) (λ blocks. length blocks ≡ count drive)) (broke : Bool) (a b : Disk D) (P : List (List ℕ) → Type 0)
    → Checks contents count faults broke a b P → Checks contents count faults broke a b (λ blocks. P blocks × (length blocks ≡ count (drive_of a)))
checks_counted contents count faults counted broke a b P one =
    checks_with contents count faults broke a b P (λ blocks. length blocks ≡ count (drive_of a))
    (shown_counted contents count faults counted a.drive.now a.cache) one

pub checks_as : {D : Type 0} (contents : D → Option (List (List ℕ))) (count faults : D → ℕ) (broke : Bool) (a b : Disk D)
    (P : List (List ℕ) → Type 0) → broke ≡ false → Checks contents count faults false a b P → Checks contents count faults broke a b P
checks_as contents count faults broke a b P fine one = subst (λ f. Checks contents count faults f a b P) (sym fine) one
