-- Putting the blocks of a file one after another.
use Rattle.std.proofs.Common.{◌≡◌, inl, inr, ℕ, zero, suc, ◌+◌, ◌-◌, ◌^◌, ◌≤◌, ◌<◌, min, true, false, List, [], ◌∷◌, length, set, get_or, length-set}
use Rattle.std.proofs.Common.{Option, Some, None, refl, ap, sym, subst, ◌∙◌, arith}
use Rattle.std.specs.Prelude.{IfSome, slice_index, ⊤}
use Rattle.std.proofs.lemmas.Bool.{cases_eq, true≢false, and_parts, not-true}
use Rattle.std.proofs.lemmas.List.{get_or-set_same, get_or-set_other}
use Rattle.edi_told.specs.Told.{WhereTold}
use Rattle.edi_disk.specs.declared.disk.Disk.{Disk}
use Rattle.edi_disk.specs.declared.disk.DiskEnd.{DiskEnd}
use Rattle.edi_disk.specs.declared.disk.DiskEnd.TheVariants as disk
use Rattle.edi_disk.specs.Shown.{cached, shown, drive_of, IsWorking}
use Rattle.edi_disk.specs.Since.{PutLeaves}
use Rattle.edi_image.specs.Rules.{is_in}
use Rattle.edi_catalog.specs.Plan.{are_different, ArePut}
use Rattle.edi_catalog.specs.Putting.{PutsBlock, PutsBlocks}
use Rattle.edi_catalog.specs.Writing.{Flushes}
use Rattle.edi_image.proofs.Told.{told_then, told_same}
use Rattle.edi_catalog.proofs.Unchanged.{in_first, in_later}

-- ---- numbers of which none stands twice

pub in_at : (numbers : List ℕ) (i : ℕ) → i < length numbers → is_in (get_or numbers i 0) numbers ≡ true
in_at [] i h = absurd (omega arith)
in_at (n ∷ numbers) zero h = in_first n numbers
in_at (n ∷ numbers) (suc i) h = in_later (get_or numbers i 0) n numbers (in_at numbers i (omega arith))

pub other_at : (numbers : List ℕ) (i j : ℕ) → are_different numbers ≡ true → i < length numbers → j < i
    → (get_or numbers j 0 ≡ get_or numbers i 0 → ⊥)
other_at [] i j d h less e = absurd (omega arith)
other_at (n ∷ numbers) zero j d h less e = absurd (omega arith)
other_at (n ∷ numbers) (suc i) zero d h less e =
    let parts = and_parts _ (are_different numbers) d in
    let out : is_in n numbers ≡ false = not-true (is_in n numbers) parts.0 in
    true≢false (sym (in_at numbers i (omega arith)) ∙ ap (λ m. is_in m numbers) (sym e) ∙ out)
other_at (n ∷ numbers) (suc i) (suc j) d h less e =
    other_at numbers i j (and_parts _ (are_different numbers) d).1 (omega arith) (omega arith) e

-- ---- one more block

pub put_none : (numbers : List ℕ) (content : ℕ → List ℕ) (old : List (List ℕ)) → ArePut numbers content 0 old old
put_none numbers content old = record { as_many = refl; there = λ i h. absurd (omega arith); others = λ n h. refl }

pub put_more : (numbers : List ℕ) (content : ℕ → List ℕ) (i : ℕ) (old between new : List (List ℕ)) → are_different numbers ≡ true → i < length numbers
    → slice_index numbers i < length between → ArePut numbers content i old between → new ≡ set between (slice_index numbers i) (content i)
    → ArePut numbers content (i + 1) old new
put_more numbers content i old between new d h within put now =
    let n = slice_index numbers i in
    record {
      as_many = ap length now ∙ length-set between n (content i) ∙ put.as_many;
      there = λ j less.
          elim (cases_eq j i) [
            | inl here ↦
                ap (λ bs. get_or bs (slice_index numbers j) []) now
                ∙ ap (λ k. get_or (set between n (content i)) (slice_index numbers k) []) here
                ∙ get_or-set_same between n (content i) [] within
                ∙ ap content (sym here)
            | inr before ↦
                ap (λ bs. get_or bs (slice_index numbers j) []) now
                ∙ get_or-set_other between n (slice_index numbers j) (content i) [] (other_at numbers i j d h (omega arith))
                ∙ put.there j (omega arith)
          ];
      others = λ m out.
          ap (λ bs. get_or bs m []) now
          ∙ get_or-set_other between n m (content i) []
          (λ e. true≢false (sym (in_at numbers i h) ∙ ap (λ k. is_in k numbers) (sym e) ∙ out))
          ∙ put.others m out;
    }

-- ---- from call to call

pub puts_none : {D : Type 0} (contents : D → Option (List (List ℕ))) (count faults : D → ℕ) (numbers : List ℕ) (content : ℕ → List ℕ) (a : Disk D)
    → IsWorking contents count a → PutsBlocks contents count faults disk.Ok numbers content 0 a a
puts_none contents count faults numbers content a works = record {
  same_reference = refl;
  since = λ base was_put all kept. kept;
  count_stays = refl;
  later = omega arith;
  told = told_same (shown contents a) (λ old new. ⊤) (λ blocks. tt);
  cause = λ e. absurd (cc);
  works = λ e. works;
  shows = λ e. told_same (shown contents a) (ArePut numbers content 0) (λ blocks. put_none numbers content blocks);
  put_cached = λ e i bytes h there. absurd (omega arith);
  others_cached = λ e m out bytes there. there;
}

pub there_if : (told : Option (List (List ℕ))) (count n : ℕ) → IfSome told (λ blocks. length blocks ≡ count) → n < count
    → IfSome told (λ blocks. n < length blocks)
there_if None count n size within = tt
there_if (Some blocks) count n size within = subst (λ k. n < k) (sym size) within

with_those : (a b : Option (List (List ℕ))) (L : List (List ℕ) → Type 0) (P : List (List ℕ) → List (List ℕ) → Type 0) → IfSome a L → WhereTold a b P
    → WhereTold a b (λ old new. L old × P old new)
with_those a None L P l p = tt
with_those None (Some new) L P l p = absurd p
with_those (Some old) (Some new) L P l p = (l, p)

pub puts_more : {D : Type 0} (contents : D → Option (List (List ℕ))) (count faults : D → ℕ) (end : DiskEnd) (numbers : List ℕ) (content : ℕ → List ℕ)
    (i : ℕ) (a b c : Disk D) → are_different numbers ≡ true → i < length numbers → PutsBlocks contents count faults disk.Ok numbers content i a b
    → PutsBlock contents count faults end (slice_index numbers i) (content i) b c
    → (many : ℕ) → (end ≡ disk.Ok → many ≡ i + 1) → PutsBlocks contents count faults end numbers content many a c
puts_more contents count faults end numbers content i a b c d h so_far one many last = record {
  same_reference = one.same_reference ∙ so_far.same_reference;
  since = λ base was_put all kept. one.since base was_put (all i h) (so_far.since base was_put all kept);
  count_stays = one.count_stays ∙ so_far.count_stays;
  later = omega (arith, one.later, so_far.later);
  told =
      told_then (shown contents a) (shown contents b) (shown contents c) (λ old new. ⊤) (PutLeaves end (slice_index numbers i) (content i)) (λ old new. ⊤)
      (λ old between new p q. tt) so_far.told one.shows;
  cause = λ e.
      (let rose : min (faults (drive_of b) + 1) (2 ^ 64 - 1) ≤ faults (drive_of c) = one.cause e in
      let later : faults (drive_of a) ≤ faults (drive_of b) = so_far.later in omega arith);
  works = one.works;
  shows = λ e.
      subst (λ k. WhereTold (shown contents a) (shown contents c) (ArePut numbers content k)) (sym (last e))
      (told_then (shown contents a) (shown contents b) (shown contents c) (ArePut numbers content i)
      (λ old new. (slice_index numbers i < length old) × PutLeaves disk.Ok (slice_index numbers i) (content i) old new) (ArePut numbers content (i + 1))
      (λ old between new p q. put_more numbers content i old between new d h q.0 p q.1)
      (so_far.shows refl)
      (with_those (shown contents b) (shown contents c) (λ blocks. slice_index numbers i < length blocks)
      (PutLeaves disk.Ok (slice_index numbers i) (content i)) one.there
      (subst (λ f. WhereTold (shown contents b) (shown contents c) (PutLeaves f (slice_index numbers i) (content i))) e one.shows)));
  put_cached = λ e j bytes less there.
      elim (cases_eq j i) [
        | inl here ↦
            let both : Some (content i) ≡ Some bytes =
            sym (one.uses e).there ∙ ap (λ k. cached (slice_index numbers k) c) (sym here) ∙ there in
            let it : content i ≡ bytes = cc in
            ap content here ∙ it
        | inr other ↦
            let early : j < i = omega (arith, less, last e, other) in
            so_far.put_cached refl j bytes early
            ((one.uses e).others (slice_index numbers j) (other_at numbers i j d h early) bytes there)
      ];
  others_cached = λ e m out bytes there.
      so_far.others_cached refl m out bytes
      ((one.uses e).others m (λ at. true≢false (sym (in_at numbers i h) ∙ ap (λ k. is_in k numbers) (sym at) ∙ out)) bytes there);
}

-- ---- the flush behind them

pub puts_flushed : {D : Type 0} (contents : D → Option (List (List ℕ))) (count faults : D → ℕ) (end : DiskEnd) (numbers : List ℕ) (content : ℕ → List ℕ)
    (many : ℕ) (a b c : Disk D) → PutsBlocks contents count faults disk.Ok numbers content many a b → Flushes contents count faults end b c
    → PutsBlocks contents count faults end numbers content many a c
puts_flushed contents count faults end numbers content many a b c put flush = record {
  same_reference = flush.settles.same_reference ∙ put.same_reference;
  since = λ base was_put all kept. flush.since base was_put (put.since base was_put all kept);
  count_stays = flush.settles.count_stays ∙ put.count_stays;
  later = omega (arith, flush.settles.later, put.later);
  told =
      told_then (shown contents a) (shown contents b) (shown contents c) (λ old new. ⊤) (λ old new. end ≡ disk.Ok → new ≡ old) (λ old new. ⊤)
      (λ old between new p q. tt) put.told flush.shows;
  cause = λ e.
      (let rose : min (faults (drive_of b) + 1) (2 ^ 64 - 1) ≤ faults (drive_of c) = flush.settles.cause e in
      let later : faults (drive_of a) ≤ faults (drive_of b) = put.later in omega arith);
  works = flush.settles.works;
  shows = λ e.
      told_then (shown contents a) (shown contents b) (shown contents c) (ArePut numbers content many) (λ old new. end ≡ disk.Ok → new ≡ old)
      (ArePut numbers content many) (λ old between new p q. subst (ArePut numbers content many old) (sym (q e)) p)
      (put.shows refl) flush.shows;
  put_cached = λ e i bytes h there. put.put_cached refl i bytes h (sym (flush.caches (slice_index numbers i)) ∙ there);
  others_cached = λ e m out bytes there. put.others_cached refl m out bytes (sym (flush.caches m) ∙ there);
}
