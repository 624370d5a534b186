-- What is true of a construct wherever it is accepted.
use Rattle.std.specs.Prelude.{⊤}
use Rattle.edi_static.specs.Judged.{Judged, gives, faults, ◌>>=◌}

abbrev pub Holds : {A : Type 0} → Type 0 → Judged A → Type 0
Holds P (gives a) = P
Holds P (faults why line) = ⊤

pub record Shows {A : Type 0} (P : Type 0) (m : Judged A) : Type 0 where
  pub shown : Holds P m

holding : {A : Type 0} (P : Type 0) (m : Judged A) → P → Holds P m
holding P (gives a) p = p
holding P (faults why line) p = tt

-- what is true in any case
pub always : {A P : Type 0} (m : Judged A) → P → Shows P m
always {P = P} m p = record { shown = holding P m p }

firsts : {A B : Type 0} (P : Type 0) (m : Judged A) (f : A → Judged B) → Holds P m → Holds P (m >>= f)
firsts P (gives a) f h = holding P (f a) h
firsts P (faults why line) f h = tt

-- a construct, whatever stands behind it
pub first : {A B P : Type 0} {m : Judged A} (f : A → Judged B) → Shows P m → Shows P (m >>= f)
first {P = P} {m = m} f h = record { shown = firsts P m f h.shown }

overs : {A B : Type 0} (Q : Type 0) (m : Judged A) (f : A → Judged B) → ((a : A) → Shows Q (f a)) → Holds Q (m >>= f)
overs Q (gives a) f k = (k a).shown
overs Q (faults why line) f k = tt

-- a construct behind another of which nothing is said
pub over : {A B Q : Type 0} (m : Judged A) {f : A → Judged B} → ((a : A) → Shows Q (f a)) → Shows Q (m >>= f)
over {Q = Q} m {f = f} k = record { shown = overs Q m f k }

boths : {A B : Type 0} (P Q : Type 0) (m : Judged A) (f : A → Judged B) → Holds P m → ((a : A) → Shows Q (f a)) → Holds (P × Q) (m >>= f)
boths P Q (gives a) f h k = pairs P Q (f a) h (k a).shown
  where
    pairs : {B : Type 0} (P Q : Type 0) (n : Judged B) → P → Holds Q n → Holds (P × Q) n
    pairs P Q (gives b) p q = (p, q)
    pairs P Q (faults why line) p q = tt
boths P Q (faults why line) f h k = tt

-- two constructs, one behind the other
pub two : {A B P Q : Type 0} {m : Judged A} {f : A → Judged B} → Shows P m → ((a : A) → Shows Q (f a)) → Shows (P × Q) (m >>= f)
two {P = P} {Q = Q} {m = m} {f = f} h k = record { shown = boths P Q m f h.shown k }

mapped : {A : Type 0} (P Q : Type 0) (m : Judged A) → (P → Q) → Holds P m → Holds Q m
mapped P Q (gives a) k h = k h
mapped P Q (faults why line) k h = tt

pub so : {A P Q : Type 0} {m : Judged A} → (P → Q) → Shows P m → Shows Q m
so {P = P} {Q = Q} {m = m} k h = record { shown = mapped P Q m k h.shown }
