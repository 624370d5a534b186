-- A system call answers the same, whatever was printed before, and whatever was shown, where that is not told.
use Rattle.std.proofs.Common.{ℕ, Bool, true, false, if◌then◌else◌, List, [], ◌∷◌, ◌++◌, length, Option, Some, None, refl, ap}
use Rattle.std.specs.Prelude.{◌==◌, nat_lt, slice_get, slice_index}
use Rattle.std.specs.Option.{option_map_or}
use Rattle.edi_calls.specs.State.{State, Found, character, title_of, most_bytes}
use Rattle.edi_calls.specs.Calls.{CallResult, call, accept_from, more_of, read_of, read_next, write_to, close_of, close_as, remove, remove_as}
use Rattle.edi_calls.specs.Calls.{found_bytes, room_for, open_slot}
use Rattle.edi_explored.specs.machine.Alike.{shows, SameShown, Alike, CallAlike}

pub nothing_shown : (told : Bool) (xs : List ℕ) → SameShown told xs xs
nothing_shown true xs = refl
nothing_shown false xs = tt

more_shown : (told : Bool) (xs ys zs : List ℕ) → SameShown told xs ys → SameShown told (xs ++ zs) (ys ++ zs)
more_shown true xs ys zs h = ap (λ l. l ++ zs) h
more_shown false xs ys zs h = tt

module _ (told : Bool) where
  if_alike : (c : Bool) (x y x' y' : CallResult) → CallAlike told x x' → CallAlike told y y' → CallAlike told (if c then x else y) (if c then x' else y')
  if_alike true x y x' y' h k = h
  if_alike false x y x' y' h k = k

  map_or_alike : (o : Option ℕ) (f f' : ℕ → CallResult) (d d' : CallResult) → ((n : ℕ) → CallAlike told (f n) (f' n)) → CallAlike told d d' →
      CallAlike told (option_map_or f o d) (option_map_or f' o d')
  map_or_alike None f f' d d' h k = k
  map_or_alike (Some n) f f' d d' h k = h n

  title_alike : (o : Option (List ℕ)) (f f' : List ℕ → CallResult) (d d' : CallResult) → ((n : List ℕ) → CallAlike told (f n) (f' n)) →
      CallAlike told d d' → CallAlike told (option_map_or f o d) (option_map_or f' o d')
  title_alike None f f' d d' h k = k
  title_alike (Some n) f f' d d' h k = h n

  module _ (s : State) (a b : List ℕ) (h : SameShown told s.shown a) where
    abbrev t : State
    t = shows a b s

    same : Alike told s t
    same = record { input = refl; slots = refl; blocks = refl; found = refl; buffer = refl; shown = h }

    accept_alike : (input : List ℕ) → CallAlike told (accept_from input s) (accept_from input t)
    accept_alike [] = (refl, same)
    accept_alike (x ∷ xs) = (refl, record { input = refl; slots = refl; blocks = refl; found = refl; buffer = refl; shown = h })

    more_alike : (found : Option Found) → CallAlike told (more_of found s) (more_of found t)
    more_alike None = tt
    more_alike (Some f) = (refl, same)

    next_alike : (x : Option ℕ) (f : Found) → CallAlike told (read_next x f s) (read_next x f t)
    next_alike None f = (refl, same)
    next_alike (Some x) f = (refl, record { input = refl; slots = refl; blocks = refl; found = refl; buffer = refl; shown = h })

    read_alike : (found : Option Found) → CallAlike told (read_of found s) (read_of found t)
    read_alike None = tt
    read_alike (Some f) = next_alike (slice_get (found_bytes s f) f.position) f

    write_alike : (buffer : Option (List ℕ)) (word : ℕ) → CallAlike told (write_to buffer word s) (write_to buffer word t)
    write_alike None word = tt
    write_alike (Some bytes) word = if_alike (nat_lt (length bytes) most_bytes) _ _ _ _
        (refl, record { input = refl; slots = refl; blocks = refl; found = refl; buffer = refl; shown = h }) tt

    close_alike : (buffer : Option (List ℕ)) (words : List ℕ) → CallAlike told (close_of buffer words s) (close_of buffer words t)
    close_alike None words = tt
    close_alike (Some bytes) words = title_alike (title_of words) (λ title. close_as bytes title s) (λ title. close_as bytes title t) _ _
        (λ title. map_or_alike (room_for s title (length bytes)) _ _ _ _
        (λ n. (refl, record { input = refl; slots = refl; blocks = refl; found = refl; buffer = refl; shown = h })) (refl, same))
        (refl, same)

    remove_alike : (words : List ℕ) → CallAlike told (remove words s) (remove words t)
    remove_alike words = title_alike (title_of words) (λ title. remove_as title s) (λ title. remove_as title t) _ _
        (λ title. map_or_alike (open_slot s.slots title) _ _ _ _
        (λ n. (refl, record { input = refl; slots = refl; blocks = refl; found = refl; buffer = refl; shown = h })) (refl, same))
        (refl, same)

    pub call_shown : (n : ℕ) (words : List ℕ) → CallAlike told (call n words s) (call n words t)
    call_shown n words =
        if_alike (n == 1) _ _ _ _ (accept_alike s.input)
        (if_alike (n == 2) _ _ _ _ (
          refl,
          record {
            input = refl;
            slots = refl;
            blocks = refl;
            found = refl;
            buffer = refl;
            shown = more_shown told s.shown a (character (slice_index words 0) ∷ []) h;
          },
        )
        (if_alike (n == 3) _ _ _ _ (refl, record { input = refl; slots = refl; blocks = refl; found = refl; buffer = refl; shown = h })
        (if_alike (n == 4) _ _ _ _ (refl, record { input = refl; slots = refl; blocks = refl; found = refl; buffer = refl; shown = h })
        (if_alike (n == 5) _ _ _ _ (more_alike s.found)
        (if_alike (n == 6) _ _ _ _ (read_alike s.found)
        (if_alike (n == 7) _ _ _ _ (refl, record { input = refl; slots = refl; blocks = refl; found = refl; buffer = refl; shown = h })
        (if_alike (n == 8) _ _ _ _ (write_alike s.buffer (slice_index words 0))
        (if_alike (n == 9) _ _ _ _ (close_alike s.buffer words)
        (if_alike (n == 10) _ _ _ _ (remove_alike words) (refl, same))))))))))
