-- The words that count, kept and put back.
use Rattle.std.proofs.Common.{◌≡◌, ◌⊎◌, inl, inr, ℕ, zero, suc, ◌+◌, ◌-◌, ◌<◌, ◌≤◌, Bool, true, false, List, [], ◌∷◌, ◌++◌, length, take, drop}
use Rattle.std.proofs.Common.{refl, sym, ap, ap₂, ◌∙◌, arith, append_assoc, length-take, length-drop, if◌then◌else◌}
use Rattle.std.proofs.lemmas.List.{take_more, get_or-drop, take_at, drop_at, append-nil}
use Rattle.std.proofs.lemmas.Grind.{same_number_lists}
use Rattle.std.proofs.lemmas.Bool.Decides.{nat_tests}
use Rattle.edi_store.specs.Memory.{words_at, written}
use Rattle.edi_store.proofs.MemoryLaws.{length-words_at, get_or-words_at, length-written, get_or-written_before, get_or-written_here, get_or-written_after}
use Rattle.edi_target.specs.Memory.{word}
use Rattle.edi_kernel.specs.Kept.{leads_down, kept_words, AgreeOutside}
use Rattle.edi_kernel.specs.Frames.{put_frames}

-- ---- links

pub leads_from : (first base x t : ℕ) → leads_down first base x t ≡ true → first ≤ x
leads_from first base x t e = grind (arith, nat_tests)

pub leads_long : (first base x t : ℕ) → leads_down first base x t ≡ true → x + 5 ≤ t
leads_long first base x t e = grind (arith, nat_tests)

pub leads_under : (first base x t : ℕ) → leads_down first base x t ≡ true → t ≤ base
leads_under first base x t e = grind (arith, nat_tests)

-- ---- words kept

pub words_at_more : (m : List ℕ) (at i : ℕ) → at + i < length m → words_at m at (i + 1) ≡ words_at m at i ++ word m (at + i) ∷ []
words_at_more m at i h =
    take_more (drop at m) i 0 (omega (arith, h, length-drop at m)) ∙ ap (λ w. take i (drop at m) ++ w ∷ []) (get_or-drop at m i 0)

-- one frame more is kept
pub kept_more : (out m : List ℕ) (n first base top : ℕ) (whole : List ℕ) → leads_down first base (word m (base + 1)) (word m (base + 4)) ≡ true
    → out ++ kept_words (suc n) m first base top ≡ whole
    → (out ++ words_at m base (top - base)) ++ kept_words n m first (word m (base + 1)) (word m (base + 4)) ≡ whole
kept_more out m n first base top whole leads e =
    append_assoc out (words_at m base (top - base)) (kept_words n m first (word m (base + 1)) (word m (base + 4)))
    ∙ ap (λ (b : Bool). out ++ (words_at m base (top - base) ++ (if b then kept_words n m first (word m (base + 1)) (word m (base + 4)) else []))) (sym leads)
    ∙ e

-- the last frame is kept
pub kept_last : (out m : List ℕ) (n first base top : ℕ) (whole : List ℕ) → leads_down first base (word m (base + 1)) (word m (base + 4)) ≡ false
    → out ++ kept_words (suc n) m first base top ≡ whole → out ++ words_at m base (top - base) ≡ whole
kept_last out m n first base top whole leads e =
    ap (λ ws. out ++ ws) (sym (append-nil (words_at m base (top - base))))
    ∙ ap (λ (b : Bool). out ++ (words_at m base (top - base) ++ (if b then kept_words n m first (word m (base + 1)) (word m (base + 4)) else []))) (sym leads)
    ∙ e

-- where a memory agrees with another at all of an activity's addresses, the words that count are the same
pub kept_same : (n : ℕ) (m m' : List ℕ) (first base top : ℕ) → first ≤ base → base + 5 ≤ top → top ≤ length m → top ≤ length m'
    → ((at : ℕ) → first ≤ at → at < top → word m' at ≡ word m at) → kept_words n m' first base top ≡ kept_words n m first base top
kept_same zero m m' first base top a b c c' same = refl
kept_same (suc n) m m' first base top a b c c' same =
    ap₂ (λ (x y : List ℕ). x ++ y) frame
    (ap₂ (λ (x t : ℕ). if leads_down first base x t then kept_words n m' first x t else []) (same (base + 1) (omega (arith, a)) (omega (arith, b)))
    (same (base + 4) (omega (arith, a)) (omega (arith, b)))
    ∙ below (leads_down first base (word m (base + 1)) (word m (base + 4))) refl (kept_same n m m' first (word m (base + 1)) (word m (base + 4))))
  where
    frame : words_at m' base (top - base) ≡ words_at m base (top - base)
    frame =
        let count : length (words_at m' base (top - base)) ≡ top - base = length-words_at m' base (top - base) (omega (arith, b, c')) in
        same_number_lists (words_at m' base (top - base)) (words_at m base (top - base))
        (count ∙ sym (length-words_at m base (top - base) (omega (arith, b, c)))) (λ k l.
        get_or-words_at m' base (top - base) k (omega (arith, count, l)) ∙ same (base + k) (omega (arith, a)) (omega (arith, count, l))
        ∙ sym (get_or-words_at m base (top - base) k (omega (arith, count, l))))

    below : (test : Bool) → leads_down first base (word m (base + 1)) (word m (base + 4)) ≡ test
        → (first ≤ word m (base + 1) → word m (base + 1) + 5 ≤ word m (base + 4) → word m (base + 4) ≤ length m → word m (base + 4) ≤ length m'
        → ((at : ℕ) → first ≤ at → at < word m (base + 4) → word m' at ≡ word m at)
        → kept_words n m' first (word m (base + 1)) (word m (base + 4)) ≡ kept_words n m first (word m (base + 1)) (word m (base + 4)))
        → (if test then kept_words n m' first (word m (base + 1)) (word m (base + 4)) else [])
        ≡ (if test then kept_words n m first (word m (base + 1)) (word m (base + 4)) else [])
    below false e more = refl
    below true e more =
        let under : word m (base + 4) ≤ base = leads_under first base (word m (base + 1)) (word m (base + 4)) e in
        more (leads_from first base (word m (base + 1)) (word m (base + 4)) e)
        (leads_long first base (word m (base + 1)) (word m (base + 4)) e) (omega (arith, b, c, under)) (omega (arith, b, c', under))
        (λ at f t. same at f (omega (arith, t, under, b)))

-- ---- words put back

-- the words of a frame, of those that are kept from it on
pub frame_first : (n : ℕ) (m : List ℕ) (first base top : ℕ) → base + 5 ≤ top → top ≤ length m →
    take (top - base) (kept_words (suc n) m first base top) ≡ words_at m base (top - base)
frame_first n m first base top b c = take_at (words_at m base (top - base))
    (if leads_down first base (word m (base + 1)) (word m (base + 4)) then kept_words n m first (word m (base + 1)) (word m (base + 4)) else [])
    (top - base) (length-words_at m base (top - base) (omega (arith, b, c)))

pub frame_rest : (n : ℕ) (m : List ℕ) (first base top : ℕ) → base + 5 ≤ top → top ≤ length m →
    drop (top - base) (kept_words (suc n) m first base top)
    ≡ (if leads_down first base (word m (base + 1)) (word m (base + 4)) then kept_words n m first (word m (base + 1)) (word m (base + 4)) else [])
frame_rest n m first base top b c = drop_at (words_at m base (top - base))
    (if leads_down first base (word m (base + 1)) (word m (base + 4)) then kept_words n m first (word m (base + 1)) (word m (base + 4)) else [])
    (top - base) (length-words_at m base (top - base) (omega (arith, b, c)))

-- a word of the frame that is put back
put_word : (m old : List ℕ) (base n i : ℕ) → base + n ≤ length m → base + n ≤ length old → i < n →
    word (written old base (words_at m base n)) (base + i) ≡ word m (base + i)
put_word m old base n i c d l =
    let count : length (words_at m base n) ≡ n = length-words_at m base n c in
    get_or-written_here old base (words_at m base n) i (omega (arith, count, d)) (omega (arith, count, l)) ∙ get_or-words_at m base n i l

few : (n : ℕ) (ws : List ℕ) → length (take n ws) ≤ n
few n ws = omega (arith, length-take n ws)

pub put_long : (n : ℕ) (ws old : List ℕ) (first base top : ℕ) → first ≤ base → base + 5 ≤ top → top ≤ length old →
    length (put_frames n ws old first base top) ≡ length old
put_long zero ws old first base top a b c = refl
put_long (suc n) ws old first base top a b c = by (leads_down first base x t) refl (put_long n (drop (top - base) ws) now first x t)
  where
    now : List ℕ
    now = written old base (take (top - base) ws)

    x : ℕ
    x = word now (base + 1)

    t : ℕ
    t = word now (base + 4)

    long : length now ≡ length old
    long = length-written old base (take (top - base) ws) (omega (arith, few (top - base) ws, b, c))

    by : (test : Bool) → leads_down first base x t ≡ test
        → (first ≤ x → x + 5 ≤ t → t ≤ length now → length (put_frames n (drop (top - base) ws) now first x t) ≡ length now)
        → length (if test then put_frames n (drop (top - base) ws) now first x t else now) ≡ length old
    by false e more = long
    by true e more =
        more (leads_from first base x t e) (leads_long first base x t e)
        (omega (arith, long, leads_under first base x t e, b, c))
        ∙ long

pub put_outside : (n : ℕ) (ws old : List ℕ) (first base top : ℕ) → first ≤ base → base + 5 ≤ top → top ≤ length old →
    AgreeOutside first top old (put_frames n ws old first base top)
put_outside zero ws old first base top a b c at o = refl
put_outside (suc n) ws old first base top a b c at o = by (leads_down first base x t) refl
    (λ a b c o. put_outside n (drop (top - base) ws) now first x t a b c at o)
  where
    now : List ℕ
    now = written old base (take (top - base) ws)

    x : ℕ
    x = word now (base + 1)

    t : ℕ
    t = word now (base + 4)

    within : base + length (take (top - base) ws) ≤ length old
    within = omega (arith, few (top - base) ws, b, c)

    long : length now ≡ length old
    long = length-written old base (take (top - base) ws) within

    here : word now at ≡ word old at
    here = elim o [
      | inl l ↦ get_or-written_before old base (take (top - base) ws) at within (omega (arith, l, a))
      | inr l ↦ get_or-written_after old base (take (top - base) ws) at within (omega (arith, l, few (top - base) ws, b))
    ]

    by : (test : Bool) → leads_down first base x t ≡ test
        → (first ≤ x → x + 5 ≤ t → t ≤ length now → (at < first) ⊎ (t ≤ at)
        → word (put_frames n (drop (top - base) ws) now first x t) at ≡ word now at)
        → word (if test then put_frames n (drop (top - base) ws) now first x t else now) at ≡ word old at
    by false e more = here
    by true e more =
        more (leads_from first base x t e) (leads_long first base x t e)
        (omega (arith, long, leads_under first base x t e, b, c))
        (elim o [
          | inl l ↦ inl l
          | inr l ↦ inr (omega (arith, l, leads_under first base x t e, b))
        ])
        ∙ here

-- what was kept of some memory is kept of the one to which it is put back
pub put_kept : (n : ℕ) (m old : List ℕ) (first base top : ℕ) → first ≤ base → base + 5 ≤ top → top ≤ length m → top ≤ length old →
    kept_words n (put_frames n (kept_words n m first base top) old first base top) first base top ≡ kept_words n m first base top
put_kept zero m old first base top a b c d = refl
put_kept (suc n) m old first base top a b c d =
    ap (λ f. kept_words (suc n) f first base top) is
    ∙ ap₂ (λ (f : List ℕ) (r : List ℕ). f ++ r) frame (ap₂ (λ u v. if leads_down first base u v then kept_words n end first u v else []) (links 1 (omega arith)) (links 4 (omega arith))
    ∙ rest (leads_down first base x t) refl (put_kept n m now first x t))
  where
    x : ℕ
    x = word m (base + 1)

    t : ℕ
    t = word m (base + 4)

    words : List ℕ
    words = words_at m base (top - base)

    count : length words ≡ top - base
    count = length-words_at m base (top - base) (omega (arith, b, c))

    now : List ℕ
    now = written old base words

    long : length now ≡ length old
    long = length-written old base words (omega (arith, count, b, d))

    below : List ℕ
    below = if leads_down first base x t then put_frames n (kept_words n m first x t) now first x t else now

    end : List ℕ
    end = below

    read : (i : ℕ) → i < top - base → word now (base + i) ≡ word m (base + i)
    read i l = put_word m old base (top - base) i (omega (arith, b, c)) (omega (arith, b, d)) l

    is : put_frames (suc n) (kept_words (suc n) m first base top) old first base top ≡ end
    is =
        ap₂ (λ (f : List ℕ) (r : List ℕ).
        let v : List ℕ = written old base f in
        if leads_down first base (word v (base + 1)) (word v (base + 4)) then put_frames n r v first (word v (base + 1)) (word v (base + 4)) else v)
        (frame_first n m first base top b c) (frame_rest n m first base top b c)
        ∙ ap₂ (λ u v. if leads_down first base u v
        then put_frames n (if leads_down first base x t then kept_words n m first x t else []) now first u v else now)
        (read 1 (omega (arith, b))) (read 4 (omega (arith, b)))
        ∙ same (leads_down first base x t)
      where
        same : (test : Bool) → (if test then put_frames n (if test then kept_words n m first x t else []) now first x t else now)
            ≡ (if test then put_frames n (kept_words n m first x t) now first x t else now)
        same true = refl
        same false = refl

    above : (at : ℕ) → base ≤ at → word end at ≡ word now at
    above at l = by (leads_down first base x t) refl
      where
        by : (test : Bool) → leads_down first base x t ≡ test →
            word (if test then put_frames n (kept_words n m first x t) now first x t else now) at ≡ word now at
        by false e = refl
        by true e = put_outside n (kept_words n m first x t) now first x t (leads_from first base x t e) (leads_long first base x t e)
            (omega (arith, long, leads_under first base x t e, b, d)) at (inr (omega (arith, l, leads_under first base x t e)))

    end_long : length end ≡ length old
    end_long = by (leads_down first base x t) refl
      where
        by : (test : Bool) → leads_down first base x t ≡ test →
            length (if test then put_frames n (kept_words n m first x t) now first x t else now) ≡ length old
        by false e = long
        by true e = put_long n (kept_words n m first x t) now first x t (leads_from first base x t e) (leads_long first base x t e)
            (omega (arith, long, leads_under first base x t e, b, d)) ∙ long

    links : (i : ℕ) → i < 5 → word end (base + i) ≡ word m (base + i)
    links i l = above (base + i) (omega arith) ∙ read i (omega (arith, l, b))

    frame : words_at end base (top - base) ≡ words
    frame =
        let many : length (words_at end base (top - base)) ≡ top - base = length-words_at end base (top - base) (omega (arith, b, d, end_long)) in
        same_number_lists (words_at end base (top - base)) words (many ∙ sym count) (λ k l.
        get_or-words_at end base (top - base) k (omega (arith, many, l)) ∙ above (base + k) (omega arith) ∙ read k (omega (arith, many, l))
        ∙ sym (get_or-words_at m base (top - base) k (omega (arith, many, l))))

    rest : (test : Bool) → leads_down first base x t ≡ test
        → (first ≤ x → x + 5 ≤ t → t ≤ length m → t ≤ length now
        → kept_words n (put_frames n (kept_words n m first x t) now first x t) first x t ≡ kept_words n m first x t)
        → (if test then kept_words n end first x t else []) ≡ (if test then kept_words n m first x t else [])
    rest false e more = refl
    rest true e more =
        ap (λ (f : Bool). kept_words n (if f then put_frames n (kept_words n m first x t) now first x t else now) first x t) e
        ∙ more (leads_from first base x t e) (leads_long first base x t e)
        (omega (arith, leads_under first base x t e, b, c)) (omega (arith, long, leads_under first base x t e, b, d))

-- ---- frame after frame is put back

-- what is put from this frame on
abbrev frames_from : ℕ → (words now : List ℕ) → (first base : ℕ) → List ℕ
frames_from n rest now first base =
    if leads_down first base (word now (base + 1)) (word now (base + 4))
    then put_frames n rest now first (word now (base + 1)) (word now (base + 4))
    else now

pub put_more : (n : ℕ) (ws old now whole : List ℕ) (first base top : ℕ) → now ≡ written old base (take (top - base) ws)
    → leads_down first base (word now (base + 1)) (word now (base + 4)) ≡ true → put_frames (suc n) ws old first base top ≡ whole
    → put_frames n (drop (top - base) ws) now first (word now (base + 1)) (word now (base + 4)) ≡ whole
put_more n ws old now whole first base top is leads e =
    ap (λ (b : Bool). if b then put_frames n (drop (top - base) ws) now first (word now (base + 1)) (word now (base + 4)) else now) (sym leads)
    ∙ ap (λ (v : List ℕ). frames_from n (drop (top - base) ws) v first base) is
    ∙ e

pub put_last : (n : ℕ) (ws old now whole : List ℕ) (first base top : ℕ) → now ≡ written old base (take (top - base) ws)
    → leads_down first base (word now (base + 1)) (word now (base + 4)) ≡ false → put_frames (suc n) ws old first base top ≡ whole → now ≡ whole
put_last n ws old now whole first base top is leads e =
    ap (λ (b : Bool). if b then put_frames n (drop (top - base) ws) now first (word now (base + 1)) (word now (base + 4)) else now) (sym leads)
    ∙ ap (λ (v : List ℕ). frames_from n (drop (top - base) ws) v first base) is
    ∙ e

-- what is left is what some memory keeps from the next frame on
pub left_more : (n : ℕ) (m ws old now : List ℕ) (first base top : ℕ) → base + 5 ≤ top → top ≤ length m → top ≤ length old → ws ≡ kept_words (suc n) m first base top
    → now ≡ written old base (take (top - base) ws) → leads_down first base (word now (base + 1)) (word now (base + 4)) ≡ true
    → drop (top - base) ws ≡ kept_words n m first (word now (base + 1)) (word now (base + 4))
left_more n m ws old now first base top b c d is here leads =
    ap (drop (top - base)) is ∙ frame_rest n m first base top b c
    ∙ ap₂ (λ x t. if leads_down first base x t then kept_words n m first x t else []) (sym (read 1 (omega (arith, b)))) (sym (read 4 (omega (arith, b))))
    ∙ ap (λ (t : Bool). if t then kept_words n m first (word now (base + 1)) (word now (base + 4)) else []) leads
  where
    read : (i : ℕ) → i < top - base → word now (base + i) ≡ word m (base + i)
    read i l =
        ap (λ v. word v (base + i)) (here ∙ ap (λ ws. written old base (take (top - base) ws)) is ∙ ap (written old base) (frame_first n m first base top b c))
        ∙ put_word m old base (top - base) i (omega (arith, b, c)) (omega (arith, b, d)) l
